-- `patterns::targets::is_bare_target` meets its contract: the target is an inner label, or reads where the frame says.
use mathlib.Core.Path.{sym, ap, ◌∙◌}
use mathlib.Core.List.{List}
use Prim.Native.Nat.{ℕ}
use native.Mathlib.Omega.{arith}
use Rattle.rules.specs.Expressions.{read_expr}
use Rattle.rules.specs.Rewriting.{bare_in}
use Rattle.slots.specs.Slots.{Slots, slots}
use lib.Dec.{eqb}
use Rattle.slots.proofs.Linking.{length_beside}
use Rattle.patterns.proofs.Naming.{last_lengths, last_referred}
use Rattle.patterns.proofs.Instructions.{target_reads, target_inner, target_written}
use Rattle.slots.specs.State.{starts_in, owners_in}
use Rattle.patterns.proofs.targets.is_bare_target.Goals as goal

abbrev over : (c : goal.Then-owner_at-lt-NO_OWNER) (forms carry offsets : List ℕ) → Slots
over c forms carry offsets = slots c.args.frames.now (starts_in c.args.state.now) c.args.count forms carry (owners_in c.args.state.now)
    offsets

abbrev over_2 : (c : goal.After-is_bare) (forms carry offsets : List ℕ) → Slots
over_2 c forms carry offsets = slots c.args.frames.now (starts_in c.args.state.now) c.args.count forms carry (owners_in c.args.state.now)
    offsets

pub returns-then-owner_at-lt-NO_OWNER : goal.returns-then-owner_at-lt-NO_OWNER
returns-then-owner_at-lt-NO_OWNER c n l forms carry offsets =
    sym (ap (bare_in n) (target_inner (over c forms carry offsets) c.args.at.0
    (omega (arith, c.owner_at.ensures, c.if-owner_at-lt-NO_OWNER.true))))

pub is_bare-requires : goal.is_bare-requires
is_bare-requires c =
    rw (c.target_in.ensures, c.target_links.ensures)
    (last_lengths _ _ (length_beside c.args.frames.now (starts_in c.args.state.now) c.args.count c.requires.0 c.args.links.now c.requires.2
    c.args.at.0 c.requires.1.inside))

pub returns : goal.returns
returns c n l forms carry offsets =
    let r = target_reads _ _ _ c.requires.0 c.args.at.0 c.requires.1 in
    c.is_bare.ensures n (rw (c.target_in.ensures, c.target_links.ensures) (last_referred (λ m. eqb m n) _ _ c.args.place.0 l)) r.0
    r.1.width (ap read_expr c.target_in.ensures ∙ r.1.reads)
    ∙ sym (ap (bare_in n) (target_written (over_2 c forms carry offsets) c.args.at.0
    (omega (arith, c.owner_at.ensures, c.if-owner_at-lt-NO_OWNER.false)) ∙ r.2))
