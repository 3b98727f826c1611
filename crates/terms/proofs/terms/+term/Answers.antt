-- `terms::term` meets its contract.
use mathlib.Core.Bool.{true, false}
use mathlib.Core.Path.{sym, ap, ◌∙◌}
use mathlib.Core.List.{[], ◌∷◌}
use Prim.Native.Nat.{◌+◌}
use native.Mathlib.Omega.{arith}
use Rattle.std.proofs.Common.{◌≤◌, length}
use Rattle.std.proofs.lemmas.Grind.{common_steps}
use Rattle.terms.proofs.Writes.{same_text}
use Rattle.terms.proofs.Tolds.{told_empty, told_bad, told_number, told_name, told_rest, told_one, told_two}
use Rattle.terms.proofs.terms.+term.Goals as goal

pub returns-then-is_empty : goal.returns-then-is_empty
returns-then-is_empty t c =
    told_empty c.args.inside c.args.s.now c.args.out.now c.args.at c.requires.0 c.requires.1 (grind (arith, common_steps))

pub returns-in-Number : goal.returns-in-Number
returns-in-Number t c =
    told_number c.args.inside c.args.s.now (sym c.tag_of.ensures ∙ c.in-Number.is) c.number_at.ensures

pub returns-in-Name : goal.returns-in-Name
returns-in-Name t c =
    told_name c.args.inside c.args.s.now (sym c.tag_of.ensures ∙ c.in-Name.is) c.name_at.ensures

pub returns-in-One : goal.returns-in-One
returns-in-One t c =
    let some : 1 ≤ length c.args.s.now = grind (arith, common_steps) in
    told_one c.args.inside c.args.s.now c.in-One.o (sym c.tag_of.ensures ∙ c.in-One.is) some c.open_one-a.ensures
    (told_rest false c.args.s.now 1 c.term-x.ensures) c.shut_one-to.ensures

pub returns-in-Two : goal.returns-in-Two
returns-in-Two t c =
    let some : 1 ≤ length c.args.s.now = grind (arith, common_steps) in
    told_two c.args.inside c.args.s.now c.in-Two.o (sym c.tag_of.ensures ∙ c.in-Two.is) some c.put_if-a.ensures
    (told_rest true c.args.s.now 1 c.term-x-in-Two.ensures) (same_text (ap (λ z. z ∷ []) c.infix.ensures) c.put-c.ensures)
    (told_rest true c.args.s.now (1 + c.term-x-in-Two.result.taken) c.term-y.ensures) c.put_if-to.ensures

pub returns-in-Bad : goal.returns-in-Bad
returns-in-Bad t c =
    told_bad c.args.inside c.args.s.now c.args.out.now c.args.at c.requires.0 c.requires.1 (sym c.tag_of.ensures ∙ c.in-Bad.is)
