-- `variables::define_all` meets its contract. The invariant: what is left to define stands behind what the values below i define.
use mathlib.Core.Path.{◌≡◌}
use lib.ListN.{length}
use Rattle.slots.specs.Links.{contexts_read, names_now}
use Rattle.env.specs.Tables.{Any, ShownTo}
use Rattle.env.proofs.Meaning.{DefinedTo}
use Rattle.slots.specs.State.{starts_in, forms_in}
use Rattle.env.proofs.variables.define_all.Given as goal

abbrev pub invariant-loop-i : goal.invariant-loop-i
invariant-loop-i l =
    (length l.values ≡ 1024) × Any l.frames (starts_in l.state) l.count (forms_in l.state)
    (λ t. DefinedTo t (names_now t) (contexts_read l.frames (starts_in l.state) l.count) l.initial.values l.values l.i × ShownTo t
    l.values l.i)
