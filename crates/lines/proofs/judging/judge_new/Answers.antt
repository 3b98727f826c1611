-- `judging::judge_new` meets its contract: a line of the new form is a listing behind a mark. Assumes nothing.
use mathlib.Core.Path.{◌≡◌, refl, ap, subst, ◌∙◌}
use mathlib.Core.List.{List, ◌∷◌}
use Prim.Native.Nat.{ℕ, ◌+◌}
use native.Mathlib.Omega.{arith}
use lib.ListN.{length, take}
use Rattle.rules.specs.Answers.{Judged}
use Rattle.rules.specs.Programs.{Program}
use Rattle.rules.specs.Listing.{read_listing}
use Rattle.digits.specs.Digits.{laid}
use Rattle.lines.specs.Turns.{Numbered}
use Rattle.lines.proofs.ByItself.{read_new, long_new}
use Rattle.lines.proofs.Comments.{page_laid}
use Rattle.lines.proofs.judging.judge_new.Goals as goal

pub returns-then-n-gt249 : goal.returns-then-n-gt249
returns-then-n-gt249 c = rw (long_new c.args.line.now c.requires c.if-n-gt249.true) (refl, omega arith)

pub returns : goal.returns
returns c =
    let x = c.args.line.now in
    let page : take (5 + length x) c.put_text-2.new.out ≡ 55 ∷ 68 ∷ 48 ∷ 50 ∷ 10 ∷ x =
    ap (take (5 + length x)) (c.put_text-2.ensures ∙ ap (λ (d : List ℕ). laid d 5 x) c.put_text.ensures) ∙ page_laid _ x (omega arith) in
    subst (λ (j : Judged Program). Numbered j c.number_of.result) (ap read_listing page ∙ read_new x c.requires) c.number_of.ensures
