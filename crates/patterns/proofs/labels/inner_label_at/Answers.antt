-- `patterns::labels::inner_label_at` meets its contract: a transfer's label is that of the target that it carries.
use mathlib.Core.Path.{◌≡◌, sym, ap, ap₂, ◌∙◌}
use mathlib.Core.Bool.{true}
use Prim.Native.Nat.{ℕ, ◌<◌}
use lib.ListN.{get_or}
use native.Mathlib.Omega.{arith}
use Rattle.std.specs.Prelude.{Some}
use Rattle.rules.specs.Forms.{is_transfer}
use Rattle.slots.specs.Slots.{Slots, no_owner}
use Rattle.patterns.specs.Targets.{stands_at, form_in, TargetIn}
use Rattle.patterns.proofs.InnerLabels.{label_none, label_target, label_inner, label_written}
use Rattle.slots.specs.State.{starts_in, carry_in, owners_in, offsets_in, table_of}
use Rattle.patterns.proofs.labels.inner_label_at.Goals as goal

abbrev over : (c : goal.Then-not-is_transfer) → Slots
over c = table_of c.args.frames.now c.args.state.now c.args.count

abbrev over_2 : (c : goal.After-carry_at-written) → Slots
over_2 c = table_of c.args.frames.now c.args.state.now c.args.count

abbrev over_3 : (c : goal.Then-owner-lt-NO_OWNER) → Slots
over_3 c = table_of c.args.frames.now c.args.state.now c.args.count

abbrev over_4 : (c : goal.After-offset_at) → Slots
over_4 c = table_of c.args.frames.now c.args.state.now c.args.count

abbrev over_5 : (c : goal.Else-owner-lt-NO_OWNER) → Slots
over_5 c = table_of c.args.frames.now c.args.state.now c.args.count

-- the test, as the definitions have it
tested : (c : goal.Then-not-is_transfer) → c.is_transfer.result ≡ is_transfer (form_in (stands_at (over c) c.args.at.0))
tested c =
    c.is_transfer.ensures ∙ ap is_transfer (c.form_at.ensures (carry_in c.args.state.now) (owners_in c.args.state.now)
    (offsets_in c.args.state.now))

-- the test, as the definitions have it
tested_2 : (c : goal.After-carry_at-written) → c.is_transfer.result ≡ is_transfer (form_in (stands_at (over_2 c) c.args.at.0))
tested_2 c =
    c.is_transfer.ensures ∙ ap is_transfer (c.form_at.ensures (carry_in c.args.state.now) (owners_in c.args.state.now)
    (offsets_in c.args.state.now))

-- the test, as the definitions have it
tested_3 : (c : goal.Then-owner-lt-NO_OWNER) → c.is_transfer.result ≡ is_transfer (form_in (stands_at (over_3 c) c.args.at.0))
tested_3 c =
    c.is_transfer.ensures ∙ ap is_transfer (c.form_at.ensures (carry_in c.args.state.now) (owners_in c.args.state.now)
    (offsets_in c.args.state.now))

-- the test, as the definitions have it
tested_4 : (c : goal.After-offset_at) → c.is_transfer.result ≡ is_transfer (form_in (stands_at (over_4 c) c.args.at.0))
tested_4 c =
    c.is_transfer.ensures ∙ ap is_transfer (c.form_at.ensures (carry_in c.args.state.now) (owners_in c.args.state.now)
    (offsets_in c.args.state.now))

-- the test, as the definitions have it
tested_5 : (c : goal.Else-owner-lt-NO_OWNER) → c.is_transfer.result ≡ is_transfer (form_in (stands_at (over_5 c) c.args.at.0))
tested_5 c =
    c.is_transfer.ensures ∙ ap is_transfer (c.form_at.ensures (carry_in c.args.state.now) (owners_in c.args.state.now)
    (offsets_in c.args.state.now))

-- a transfer, and the place that it carries
module _ (c : goal.After-carry_at-written) where
  moves : is_transfer (form_in (stands_at (over_2 c) c.args.at.0)) ≡ true
  moves = sym (tested_2 c) ∙ c.if-not-is_transfer.false

  target : TargetIn c.args.frames.now (starts_in c.args.state.now) c.args.count (get_or (carry_in c.args.state.now) c.args.at.0 0)
  target = label_target (over_2 c) c.requires.0 c.args.at.0 c.requires.1 moves

  inside : c.carry_at-written.result.0 < c.args.count
  inside = omega (arith, target.inside, c.carry_at-written.ensures)

  small : c.carry_at-written.result.0 < 1024
  small = omega (arith, inside, c.requires.0.held.few)

-- a transfer, and the place that it carries
module _ (c : goal.Then-owner-lt-NO_OWNER) where
  moves_2 : is_transfer (form_in (stands_at (over_3 c) c.args.at.0)) ≡ true
  moves_2 = sym (tested_3 c) ∙ c.if-not-is_transfer.false

  target_2 : TargetIn c.args.frames.now (starts_in c.args.state.now) c.args.count (get_or (carry_in c.args.state.now) c.args.at.0 0)
  target_2 = label_target (over_3 c) c.requires.0 c.args.at.0 c.requires.1 moves_2

  inside_2 : c.carry_at-written.result.0 < c.args.count
  inside_2 = omega (arith, target_2.inside, c.carry_at-written.ensures)

  small_2 : c.carry_at-written.result.0 < 1024
  small_2 = omega (arith, inside_2, c.requires.0.held.few)

-- a transfer, and the place that it carries
module _ (c : goal.After-offset_at) where
  moves_3 : is_transfer (form_in (stands_at (over_4 c) c.args.at.0)) ≡ true
  moves_3 = sym (tested_4 c) ∙ c.if-not-is_transfer.false

  target_3 : TargetIn c.args.frames.now (starts_in c.args.state.now) c.args.count (get_or (carry_in c.args.state.now) c.args.at.0 0)
  target_3 = label_target (over_4 c) c.requires.0 c.args.at.0 c.requires.1 moves_3

-- a transfer, and the place that it carries
module _ (c : goal.Else-owner-lt-NO_OWNER) where
  moves_4 : is_transfer (form_in (stands_at (over_5 c) c.args.at.0)) ≡ true
  moves_4 = sym (tested_5 c) ∙ c.if-not-is_transfer.false

-- the owner, as the tables have it
owner : (c : goal.After-offset_at) → c.owner_at-owner.result ≡ get_or (owners_in c.args.state.now) (get_or (carry_in c.args.state.now)
    c.args.at.0 0) 0
owner c = c.owner_at-owner.ensures ∙ ap (λ (n : ℕ). get_or (owners_in c.args.state.now) n 0) c.carry_at-written.ensures

-- the owner, as the tables have it
owner_2 : (c : goal.Else-owner-lt-NO_OWNER) → c.owner_at-owner.result ≡ get_or (owners_in c.args.state.now)
    (get_or (carry_in c.args.state.now) c.args.at.0 0) 0
owner_2 c = c.owner_at-owner.ensures ∙ ap (λ (n : ℕ). get_or (owners_in c.args.state.now) n 0) c.carry_at-written.ensures

pub returns-then-not-is_transfer : goal.returns-then-not-is_transfer
returns-then-not-is_transfer c =
    (sym (label_none (over c) c.requires.0 c.args.at.0 c.requires.1 (sym (tested c) ∙ c.if-not-is_transfer.true)), tt)

pub owner_at-owner-requires : goal.owner_at-owner-requires
owner_at-owner-requires c = omega (arith, small c)

pub offset_at-requires : goal.offset_at-requires
offset_at-requires c = omega (arith, small_2 c)

pub returns-then-owner-lt-NO_OWNER : goal.returns-then-owner-lt-NO_OWNER
returns-then-owner-lt-NO_OWNER c =
    let offset = c.offset_at.ensures ∙ ap (λ (k : ℕ). get_or (offsets_in c.args.state.now) k 0) c.carry_at-written.ensures in
    let low : get_or (owners_in c.args.state.now) (get_or (carry_in c.args.state.now) c.args.at.0 0) 0 < no_owner
    = omega (arith, owner c, c.if-owner-lt-NO_OWNER.true) in (
      ap₂ (λ (a b : ℕ). Some ((record { 0 = a }), b)) (owner c) offset ∙ sym (label_inner (over_4 c) c.requires.0 c.args.at.0 c.requires.1
          (moves_3 c) low),
      omega (arith, owner c, c.requires.0.owned _ (target_3 c).inside low),
    )

pub returns : goal.returns
returns c = (
  sym (label_written (over_5 c) c.requires.0 c.args.at.0 c.requires.1 (moves_4 c)
      (omega (arith, owner_2 c, c.if-owner-lt-NO_OWNER.false))),
  tt,
)
