-- `reach::fixed_target` meets its contract: what has a value while no name has one, has it always.
use mathlib.Core.Path.{◌≡◌, sym, ap, ◌∙◌}
use mathlib.Core.List.{List, []}
use Prim.Native.Nat.{ℕ}
use native.Mathlib.Omega.{arith}
use Rattle.std.specs.Prelude.{Err, Ok}
use Rattle.rules.specs.declared.Unvalued.TheVariants.{Unknown}
use Rattle.rules.specs.Expressions.{read_expr, eval_tree}
use Rattle.rules.specs.Names.{key_of, lookup}
use Rattle.rules.specs.Judging.{worth_of}
use Rattle.slots.specs.Slots.{Slots, slots}
use Rattle.slots.proofs.Linking.{length_beside}
use Rattle.image.proofs.Operands.{wrote_in}
use Rattle.patterns.specs.Targets.{TargetIn}
use Rattle.patterns.proofs.Naming.{last_lengths}
use Rattle.patterns.proofs.Instructions.{target_reads, target_written}
use Rattle.attempts.proofs.Missed.{tree_fixed, none_linked}
use Rattle.slots.specs.State.{starts_in, owners_in}
use Rattle.attempts.proofs.reach.fixed_target.Goals as goal

abbrev over : (s : goal.Else-owner_at-lt-NO_OWNER) → (forms carry offsets : List ℕ) → Slots
over s forms carry offsets = slots s.args.frames.now (starts_in s.args.state.now) s.args.count forms carry (owners_in s.args.state.now)
    offsets

abbrev over_2 : (s : goal.After-target_links-arg-1) → (forms carry offsets : List ℕ) → Slots
over_2 s forms carry offsets = slots s.args.frames.now (starts_in s.args.state.now) s.args.count forms carry (owners_in s.args.state.now)
    offsets

abbrev over_3 : (s : goal.After-linked_worth) → (forms carry offsets : List ℕ) → Slots
over_3 s forms carry offsets = slots s.args.frames.now (starts_in s.args.state.now) s.args.count forms carry (owners_in s.args.state.now)
    offsets

-- the frame is an instruction that ends in a target
aims : (s : goal.Else-owner_at-lt-NO_OWNER) → TargetIn s.args.frames.now (starts_in s.args.state.now) s.args.count s.args.c.0
aims s =
    let w = s.requires.1 in
    record { inside = w.inside; instruction = (wrote_in (over s [] [] []) s.requires.0 s.args.c.0 w).kind; transfer = w.transfer }

-- the frame is an instruction that ends in a target
aims_2 : (s : goal.After-target_links-arg-1) → TargetIn s.args.frames.now (starts_in s.args.state.now) s.args.count s.args.c.0
aims_2 s =
    let w = s.requires.1 in
    record { inside = w.inside; instruction = (wrote_in (over_2 s [] [] []) s.requires.0 s.args.c.0 w).kind; transfer = w.transfer }

-- the frame is an instruction that ends in a target
aims_3 : (s : goal.After-linked_worth) → TargetIn s.args.frames.now (starts_in s.args.state.now) s.args.count s.args.c.0
aims_3 s =
    let w = s.requires.1 in
    record { inside = w.inside; instruction = (wrote_in (over_3 s [] [] []) s.requires.0 s.args.c.0 w).kind; transfer = w.transfer }

pub target_in-requires : goal.target_in-requires
target_in-requires c = (c.requires.0, aims c)

pub target_links-requires : goal.target_links-requires
target_links-requires c = (c.requires.0, aims_2 c, c.requires.2)

pub linked_worth-requires : goal.linked_worth-requires
linked_worth-requires c =
    rw (c.target_in.ensures, c.target_links.ensures) (
      omega arith,
      last_lengths _ _ (length_beside c.args.frames.now (starts_in c.args.state.now) c.args.count c.requires.0 c.args.links.now
          c.requires.2 c.args.c.0 c.requires.1.inside),
    )

pub returns : goal.returns
returns c z e forms carry offsets names p k =
    let r = target_reads _ _ _ c.requires.0 c.args.c.0 (aims_3 c) in
    let known : eval_tree (λ n. (Err Unknown)) r.0 ≡ Ok z =
    sym (c.linked_worth.ensures (λ n. (Err Unknown)) (none_linked _ _ _) r.0 r.1.width (ap read_expr c.target_in.ensures ∙ r.1.reads)) ∙ e in
    ap (worth_of names p k) (target_written (over_3 c forms carry offsets) c.args.c.0
    (omega (arith, c.owner_at.ensures, c.if-owner_at-lt-NO_OWNER.false)) ∙ r.2)
    ∙ tree_fixed (λ n. lookup names (key_of k n)) r.0 z known
