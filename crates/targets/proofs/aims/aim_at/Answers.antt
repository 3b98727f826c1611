-- `targets::aims::aim_at` meets its contract: what the last operand is worth is what the target comes to.
use mathlib.Core.Path.{◌≡◌, refl, ap, ◌∙◌}
use Prim.Native.Nat.{ℕ, ◌-◌, ◌≤◌}
use native.Mathlib.Omega.{arith}
use lib.ListN.{length, get_or}
use Rattle.rules.specs.Forms.{operands_at}
use Rattle.slots.specs.Slots.{worth_in}
use Rattle.slots.specs.State.{starts_in, forms_in, carry_in, owners_in, offsets_in}
use Rattle.image.specs.Tables.{Tables, tables_of, operand_at}
use Rattle.asm.proofs.Carrying.{positioned_any}
use Rattle.targets.proofs.Coming.{stands_there, some_operands, worth_is, aim_is}
use Rattle.targets.proofs.aims.aim_at.Goals as goal

abbrev here : (c : goal.After-operand_count-last) → Tables
here c =
    tables_of c.args.frames.now c.args.state.now c.args.count
    c.args.links.now c.args.values.now c.args.positions.now

abbrev here_2 : (c : goal.After-eight_bytes) → Tables
here_2 c =
    tables_of c.args.frames.now c.args.state.now c.args.count
    c.args.links.now c.args.values.now c.args.positions.now

-- how many operands were counted
counted : (c : goal.After-operand_count-last) → c.operand_count-last.result ≡ length
    (operands_at (get_or (forms_in c.args.state.now) c.args.at.0 0))
counted c = c.operand_count-last.ensures ∙ ap (λ (f : ℕ). length (operands_at f)) c.form_in.ensures

-- how many operands were counted
counted_2 : (c : goal.After-eight_bytes) → c.operand_count-last.result ≡ length
    (operands_at (get_or (forms_in c.args.state.now) c.args.at.0 0))
counted_2 c = c.operand_count-last.ensures ∙ ap (λ (f : ℕ). length (operands_at f)) c.form_in.ensures

some : (c : goal.After-operand_count-last) → 1 ≤ length (operands_at (get_or (forms_in c.args.state.now) c.args.at.0 0))
some c = some_operands (here c) c.requires.0 c.args.at.0 c.requires.1 c.requires.2

pub overflow_sub-last : goal.overflow_sub-last
overflow_sub-last c = omega (arith, counted c, some c)

pub argument_worth-worth-requires : goal.argument_worth-worth-requires
argument_worth-worth-requires c = (
  c.requires.0,
  c.requires.1,
  (stands_there (here c) c.requires.0 c.args.at.0 c.requires.1 c.requires.2).0,
  omega
      (arith, counted c, some c),
)

pub value_origin-byte-requires : goal.value_origin-byte-requires
value_origin-byte-requires c =
    let z = c.args.state.now in (
      c.requires.0.sound.held,
      positioned_any c.args.frames.now (starts_in z) c.args.count (forms_in z) (carry_in z) (owners_in z) (offsets_in z)
          c.args.positions.now c.requires.0.position,
    )

pub returns : goal.returns
returns c =
    let z = c.args.state.now in
    let d = here_2 c in
    let i = c.args.at.0 in
    let worth =
    c.argument_worth-worth.ensures
    ∙ ap (λ (k : ℕ). worth_in d.entries d.positions (get_or d.contexts i 0) (operand_at d.slots i (k - 1))) (counted_2 c) in
    aim_is d.slots i c.argument_worth-worth.result c.value_origin-byte.result _ _ _ _ c.requires.0.sound.held.few
    (worth_is d c.requires.0 i c.requires.1 c.requires.2 refl _ worth)
    (c.value_origin-byte.ensures (carry_in z) (owners_in z) (offsets_in z)) c.value_bits.ensures c.place_of.ensures.0 c.offset_of.ensures.0
    c.eight_bytes.ensures
