-- `anchors::anchoring::origin_at` meets its contract: a transfer that is no change jump, and the value of its target.
use mathlib.Core.Path.{◌≡◌, sym, ap, ◌∙◌}
use mathlib.Core.Bool.{true}
use mathlib.Core.List.{List}
use Prim.Native.Nat.{ℕ}
use borrow.Author.Tests.{not-false}
use Rattle.rules.specs.Forms.{is_transfer}
use Rattle.rules.specs.Programs.{args_of, last_of}
use Rattle.rules.specs.Layout.{origin}
use Rattle.rules.specs.Names.{Key}
use Rattle.expression.specs.Environment.{keys_of}
use Rattle.slots.specs.Slots.{written}
use Rattle.image.specs.Tables.{Tables, tables_of, program}
use Rattle.asm.specs.Belonging.{origin_as}
use Rattle.asm.proofs.Carrying.{positioned_any}
use Rattle.patterns.specs.Targets.{stands_at, form_in}
use Rattle.anchors.specs.Anchored.{constant_value}
use Rattle.anchors.proofs.Targets.{origin_other, origin_change, own_target, origin_target}
use Rattle.slots.specs.State.{starts_in, forms_in, carry_in, owners_in, offsets_in}
use mathlib.Core.Bool.{not}
use Rattle.anchors.proofs.anchoring.origin_at.Goals as goal
use Rattle.anchors.proofs.anchoring.origin_at.Goals.{Else-is_change_jump, After-value_origin, then-not-is_transfer-via-else-not-is_transfer+then-is_change_jump, then-not-is_transfer-via-then-not-is_transfer}

module _ (s : Else-is_change_jump) where
  abbrev here_3 : Tables
  here_3 =
      tables_of s.args.frames.now s.args.state.now s.args.count
      s.args.links.now s.args.values.now s.args.positions.now

  abbrev place_3 : ℕ
  place_3 = s.args.at.0

module _ (s : After-value_origin) where
  abbrev here_4 : Tables
  here_4 =
      tables_of s.args.frames.now s.args.state.now s.args.count
      s.args.links.now s.args.values.now s.args.positions.now

  abbrev place_4 : ℕ
  place_4 = s.args.at.0

  abbrev moving_4 : List Key
  moving_4 = keys_of s.args.moving.now s.args.contexts.now s.args.count

-- the test, as the program has it
tested_2 : (c : Else-is_change_jump) → c.is_transfer.result ≡ is_transfer (form_in (stands_at (here_3 c).slots (place_3 c)))
tested_2 c =
    c.is_transfer.ensures ∙ ap is_transfer (c.form_at.ensures (carry_in c.args.state.now) (owners_in c.args.state.now)
    (offsets_in c.args.state.now))

-- the test, as the program has it
tested_3 : (c : After-value_origin) → c.is_transfer.result ≡ is_transfer (form_in (stands_at (here_4 c).slots (place_4 c)))
tested_3 c =
    c.is_transfer.ensures ∙ ap is_transfer (c.form_at.ensures (carry_in c.args.state.now) (owners_in c.args.state.now)
    (offsets_in c.args.state.now))

-- a transfer
moves : (c : Else-is_change_jump) → is_transfer (form_in (stands_at (here_3 c).slots (place_3 c))) ≡ true
moves c = sym (tested_2 c) ∙ not-false _ (ap not c.if-not-is_transfer.false)

-- a transfer
moves_2 : (c : After-value_origin) → is_transfer (form_in (stands_at (here_4 c).slots (place_4 c))) ≡ true
moves_2 c = sym (tested_3 c) ∙ not-false _ (ap not c.if-not-is_transfer.false)

pub returns-then-not-is_transfer : goal.returns-then-not-is_transfer
returns-then-not-is_transfer c =
    let d = tables_of c.args.frames.now c.args.state.now c.args.count c.args.links.now c.args.values.now c.args.positions.now in
    let moving = keys_of c.args.moving.now c.args.contexts.now c.args.count in
    elim c.then-not-is_transfer.branch [
      | then-not-is_transfer-via-else-not-is_transfer+then-is_change_jump w ↦
          record {
            answer = sym (ap origin_as (origin_change d.entries moving (program d) c.args.at.0 (sym w.is_change_jump.ensures
                ∙ w.if-is_change_jump.true)));
            inside = tt;
          }
      | then-not-is_transfer-via-then-not-is_transfer w ↦
          let tested : c.is_transfer.result ≡ is_transfer (form_in (stands_at d.slots c.args.at.0)) =
          c.is_transfer.ensures ∙ ap is_transfer (c.form_at.ensures (carry_in c.args.state.now) (owners_in c.args.state.now)
          (offsets_in c.args.state.now)) in
          record {
            answer = sym (ap origin_as (origin_other d.entries moving (program d) c.args.at.0 (sym tested ∙ w.if-not-is_transfer.true)));
            inside = tt;
          }
    ]

pub target_value-x-requires : goal.target_value-x-requires
target_value-x-requires c = (
  c.requires.0.sound.held,
  own_target (here_3 c).slots c.requires.0.sound c.requires.1 (place_3 c) c.requires.3 (moves c),
  c.requires.0.says.full,
)

pub value_origin-requires : goal.value_origin-requires
value_origin-requires c = (
  c.requires.0.sound.held,
  positioned_any c.args.frames.now (starts_in c.args.state.now) c.args.count (forms_in c.args.state.now) (carry_in c.args.state.now)
      (owners_in c.args.state.now) (offsets_in c.args.state.now)
      c.args.positions.now c.requires.0.position,
)

pub returns : goal.returns
returns c =
    let d = here_4 c in
    let f = c.value_origin.ensures (carry_in c.args.state.now) (owners_in c.args.state.now) (offsets_in c.args.state.now) in
    record {
      answer =
          f.answer
          ∙ ap (λ x. origin_as (origin (program d) x))
          (c.target_value-x.ensures d.entries (rw (c.requires.2.context (place_4 c) c.requires.3) (c.requires.0.says.linked (place_4 c)
          c.requires.3))
          ∙ ap (λ (k : ℕ). constant_value d.entries (moving_4 c) k (last_of (args_of (written d.slots (place_4 c)))))
          (c.requires.2.context (place_4 c) c.requires.3))
          ∙ sym
          (ap origin_as
          (origin_target d.slots c.requires.0.sound c.requires.1 (place_4 c) c.requires.3 (moves_2 c) d.entries (moving_4 c)
          (sym c.is_change_jump.ensures ∙ c.if-is_change_jump.false)));
      inside = f.inside;
    }
