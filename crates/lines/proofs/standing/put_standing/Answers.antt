-- `standing::put_standing` meets its contract: a good line as it is, any other as its comment. Assumes nothing.
use mathlib.Core.Path.{◌≡◌, sym, ap, ◌∙◌}
use mathlib.Core.List.{List, [], ◌∷◌, ◌++◌}
use Prim.Native.Nat.{ℕ, ◌+◌}
use native.Mathlib.Omega.{arith}
use lib.ListN.{length, length-append}
use Rattle.rules.specs.Listing.{ListingForm}
use Rattle.listing.specs.Form.{form_of}
use Rattle.listing.specs.Lines.{first_line}
use Rattle.digits.specs.Digits.{laid}
use Rattle.lines.specs.Alone.{by_itself, standing}
use Rattle.lines.specs.Turns.{OneLine, Numbered}
use Rattle.lines.proofs.Feeds.{one_ended, ended_length}
use Rattle.lines.proofs.Comments.{zero_good, bad_line}
use Rattle.lines.proofs.standing.put_standing.Goals as goal

-- a good line stands as it is, its line feed included
good : (w : ListingForm) (x : List ℕ) (n : ℕ) → OneLine x → Numbered (by_itself w (first_line x)) n → n ≡ 0
    → (length x ≡ length (standing w (first_line x)) + 1) × (x ≡ standing w (first_line x) ++ (10 ∷ []))
good w x n o m z =
    let g = zero_good w (first_line x) n m z in (
      omega (arith, ended_length x o g.0.ended, ap length g.1),
      one_ended x o g.0.ended ∙ ap (λ (y : List ℕ). y ++ (10 ∷ [])) (sym g.1),
    )

pub put_text-requires : goal.put_text-requires
put_text-requires c =
    omega (arith, c.requires.2, (good _ _ _ c.requires.0 c.requires.1 c.if-number-eq0.true).0)

pub returns-then-number-eq0 : goal.returns-then-number-eq0
returns-then-number-eq0 c =
    c.put_text.ensures ∙ ap (laid c.args.out.now c.args.at) (good _ _ _ c.requires.0 c.requires.1 c.if-number-eq0.true).1

pub put_comment-requires : goal.put_comment-requires
put_comment-requires c =
    let l = first_line c.args.line.now in
    let w = form_of c.args.marked in
    let n = ap length (bad_line w l c.args.number c.requires.1 c.if-number-eq0.false) in
    (c.requires.0, omega (arith, c.requires.2, length-append (standing w l) (10 ∷ [])))

pub returns-else-number-eq0 : goal.returns-else-number-eq0
returns-else-number-eq0 c =
    let w = form_of c.args.marked in
    c.put_comment.ensures
    ∙ ap (laid c.args.out.now c.args.at) (bad_line w (first_line c.args.line.now) c.args.number c.requires.1 c.if-number-eq0.false)
