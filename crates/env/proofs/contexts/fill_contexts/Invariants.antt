-- `contexts::fill_contexts` meets its contract. The invariant: the table is filled below i, and `context` is the one before place i.
use mathlib.Core.Path.{◌≡◌}
use lib.ListN.{length}
use Prim.Native.Nat.{◌≤◌}
use Rattle.env.specs.Tables.{Any}
use Rattle.env.proofs.Entering.{ContextsTo}
use Rattle.slots.specs.State.{starts_in, forms_in}
use Rattle.env.proofs.contexts.fill_contexts.Given as goal

abbrev pub invariant-loop-i : goal.invariant-loop-i
invariant-loop-i l =
    (length l.contexts ≡ 1024) × (l.context ≤ l.i) × Any l.frames (starts_in l.state) l.count (forms_in l.state)
    (λ t. ContextsTo t l.context l.initial.contexts l.contexts l.i)
