-- `instructions::arguments` meets its contract.
use mathlib.Core.Path.{◌≡◌, refl, sym, ◌∙◌}
use Rattle.std.specs.Prelude.{Option, Some, None}
use Rattle.wording.proofs.Arguings.{all_written, none_left, one_more}
use Rattle.wording.proofs.instructions.+arguments.Goals as goal

pub returns-then-j-gt2 : goal.returns-then-j-gt2
returns-then-j-gt2 t c = all_written c.args.form c.args.j c.args.by c.args.s.now c.args.out.now c.args.at c.requires.0 c.requires.1
    c.if-j-gt2.true

pub returns : goal.returns
returns t c =
    one_more c.args.form c.args.j c.in-Some.k c.args.by c.args.s.now (sym c.operand_kind.ensures
    ∙ c.in-Some.is) c.put-a.ensures c.argument-x.ensures c.arguments.ensures

-- what is no Some is None
none_so : {A : Type 0} (o : Option A) → ((k : A) → o ≡ Some k → ⊥) → o ≡ None
none_so None f = refl
none_so (Some k) f = absurd (f k refl)

pub returns-in_default : goal.returns-in_default
returns-in_default t c =
    none_left c.args.form c.args.j c.args.by c.args.s.now c.args.out.now c.args.at c.requires.0 c.requires.1 (sym c.operand_kind.ensures
    ∙ none_so c.operand_kind.result c.in_default.not-Some)
