-- `anchors::changing::valued_at` meets its contract: each operand's worth by the tables is its worth in the program.
use mathlib.Core.Path.{sym, ap, ◌∙◌}
use mathlib.Core.Bool.{Bool, ◌&&◌}
use native.Mathlib.Omega.{arith}
use Rattle.laws.proofs.Tests.{first_false}
use Rattle.rules.specs.Values.{is_number}
use Rattle.image.specs.Tables.{tables_of}
use Rattle.anchors.proofs.Jumps.{worth_at, not1_kind, not1_operands, valued_is}
use Rattle.anchors.proofs.changing.valued_at.Goals as goal

pub argument_worth-requires : goal.argument_worth-requires
argument_worth-requires c =
    let d = tables_of c.args.frames.now c.args.state.now c.args.count c.args.links.now c.args.values.now c.args.positions.now in (
      c.requires.0,
      c.requires.1,
      not1_kind d c.requires.0 c.args.j.0 c.requires.1 c.requires.2,
      omega (arith, not1_operands d c.requires.0 c.args.j.0 c.requires.1 c.requires.2),
    )

pub argument_worth-requires-then-is_number : goal.argument_worth-requires-then-is_number
argument_worth-requires-then-is_number c =
    let d = tables_of c.args.frames.now c.args.state.now c.args.count c.args.links.now c.args.values.now c.args.positions.now in (
      c.requires.0,
      c.requires.1,
      not1_kind d c.requires.0 c.args.j.0 c.requires.1 c.requires.2,
      omega (arith, not1_operands d c.requires.0 c.args.j.0 c.requires.1 c.requires.2),
    )

pub returns-then-is_number : goal.returns-then-is_number
returns-then-is_number c =
    let d = tables_of c.args.frames.now c.args.state.now c.args.count c.args.links.now c.args.values.now c.args.positions.now in
    let second : Bool = is_number 0 (worth_at d c.requires.0 c.args.j.0 c.requires.1 c.requires.2 1) in
    c.is_number-then-is_number.ensures
    ∙ ap (is_number 0) c.argument_worth-then-is_number.ensures
    ∙ sym
    (valued_is d c.requires.0 c.args.j.0 c.requires.1 c.requires.2
    ∙ ap (λ (b : Bool). b && second) (sym (c.is_number.ensures ∙ ap (is_number 0x10D) c.argument_worth.ensures) ∙ c.if-is_number.true))

pub returns-else-is_number : goal.returns-else-is_number
returns-else-is_number c =
    let d = tables_of c.args.frames.now c.args.state.now c.args.count c.args.links.now c.args.values.now c.args.positions.now in
    let first : Bool = is_number 0x10D (worth_at d c.requires.0 c.args.j.0 c.requires.1 c.requires.2 0) in
    let second : Bool = is_number 0 (worth_at d c.requires.0 c.args.j.0 c.requires.1 c.requires.2 1) in
    c.if-is_number.false
    ∙ sym (valued_is d c.requires.0 c.args.j.0 c.requires.1 c.requires.2 ∙ first_false first second
    (sym (c.is_number.ensures ∙ ap (is_number 0x10D) c.argument_worth.ensures) ∙ c.if-is_number.false))
