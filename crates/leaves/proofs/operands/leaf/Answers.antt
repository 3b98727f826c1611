-- `operands::leaf` meets its contract.
use mathlib.Core.Path.{◌≡◌, sym, ◌∙◌}
use mathlib.Core.Bool.{false}
use native.Mathlib.Omega.{arith}
use Rattle.std.proofs.lemmas.Grind.{common_steps}
use Rattle.grammar.specs.Reading.{is_decimal, look}
use Rattle.grammar.specs.Going.{nones}
use Rattle.leaves.proofs.Leafs.{none_starts, digit_next}
use Rattle.leaves.proofs.operands.leaf.Goals as goal

pub minus-requires : goal.minus-requires
minus-requires c =
    let s = c.args.s.now in
    let e = sym c.look.ensures ∙ c.in-45.is in
    (c.requires.0, c.requires.1, e, digit_next s e c.requires.2)

pub returns-in-32 : goal.returns-in-32
returns-in-32 c = (nones c.blank.ensures.0, c.blank.ensures.1)

pub returns-in_default : goal.returns-in_default
returns-in_default c =
    let s = c.args.s.now in
    let n : is_decimal (look s) ≡ false = grind (arith, common_steps) in
    (nones (none_starts s n (λ e. omega arith) (λ e. omega arith) (λ e. omega arith) c.requires.3 (λ e. omega arith) c.requires.2), omega arith)

pub returns-in_default-2 : goal.returns-in_default-2
returns-in_default-2 c =
    let s = c.args.s.now in
    let n : is_decimal (look s) ≡ false = grind (arith, common_steps) in
    (nones (none_starts s n (λ e. omega arith) (λ e. omega arith) (λ e. omega arith) c.requires.3 (λ e. omega arith) c.requires.2), omega arith)
