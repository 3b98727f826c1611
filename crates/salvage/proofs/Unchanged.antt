-- "A good listing comes out unchanged, with an empty report."
use mathlib.Core.Path.{◌≡◌, refl, sym, ap, ◌∙◌}
use mathlib.Core.List.{List, [], ◌∷◌, ◌++◌, append_assoc}
use mathlib.Core.Bool.{Bool, true, false, cond}
use Prim.Native.Nat.{ℕ, suc, ◌+◌}
use lib.ListN.{length}
use Rattle.laws.specs.Lists.{each, same}
use Rattle.laws.proofs.Tests.{and_true}
use Rattle.laws.proofs.Lists.{same_true}
use Rattle.rules.specs.Answers.{ok}
use Rattle.rules.specs.Programs.{Stmt, Program}
use Rattle.rules.specs.Listing.{Line, lines_of, ListingForm, old_form, new_form, is_mark, form_in, statement_lines, read_lines, read_listing}
use Rattle.rules.specs.Output.{line_of, mark_of}
use Rattle.rules.proofs.Laws.{then_ok}
use Rattle.lines.proofs.Feeds.{with_feed, joined_back}
use Rattle.salvage.specs.Salvage.{salvage_from, salvaged}
use Rattle.salvage.specs.Promise.{Unchanged}
use Rattle.salvage.proofs.Goods.{judged, line_good, good_alone}

abbrev joined : List Line → List ℕ
joined ls = each with_feed ls

-- ---- one line more, which is good
good_more : (w : ListingForm) (i sum : ℕ) (l : Line) (ls : List Line) (s : Stmt) (n : ℕ) → judged w i sum l ≡ ok s
    → salvage_from w (suc i) (sum + length l.chars) ls ≡ record { listing = joined ls; count = n; report = [] }
    → salvage_from w i sum (l ∷ ls) ≡ record { listing = joined (l ∷ ls); count = suc n; report = [] }
unfolding salvage_from each
good_more w i sum l ls s n e below =
    let g = line_good w i sum l s e in
    let a = good_alone w l g.0 in
    let f : with_feed l ≡ l.chars ++ (10 ∷ []) = ap (λ (b : Bool). l.chars ++ cond b (10 ∷ []) []) g.0.ended in
    rw (a.1, g.1, below)
    (ap (λ (t : List ℕ). record { listing = t; count = suc n; report = [] })
    (sym (ap (λ (t : List ℕ). t ++ joined ls) f ∙ append_assoc l.chars (10 ∷ []) (joined ls))))

from_same : (w : ListingForm) (i sum : ℕ) (ls : List Line) (p : Program) → read_lines w i sum ls ≡ ok p
    → salvage_from w i sum ls ≡ record { listing = joined ls; count = length p; report = [] }
unfolding read_lines
from_same w i sum [] p e = let z : [] ≡ p = cc in rw (← z) (unfold salvage_from each in refl)
from_same w i sum (l ∷ ls) p e =
    let a = then_ok (judged w i sum l) _ p e in
    let b = then_ok (read_lines w (suc i) (sum + length l.chars) ls) _ p a.2 in
    let z : a.0 ∷ b.0 ≡ p = cc b.2 in
    good_more w i sum l ls a.0 (length b.0) a.1 (from_same w (suc i) (sum + length l.chars) ls b.0 b.1)
    ∙ ap (λ (q : Program). record { listing = joined (l ∷ ls); count = length q; report = [] }) z

-- ---- the mark stands in front of the statements
mark_joined : (l : Line) (t : List ℕ) → is_mark l ≡ true → mark_of new_form ++ t ≡ with_feed l ++ t
unfolding line_of each
mark_joined l t e =
    let k = and_true (same l.chars (55 ∷ 68 ∷ 48 ∷ 50 ∷ [])) l.ended e in
    rw (same_true l.chars (55 ∷ 68 ∷ 48 ∷ 50 ∷ []) k.0, k.1)

marked_joined : (ls : List Line) → mark_of (form_in ls) ++ joined (statement_lines ls) ≡ joined ls
unfolding each
marked_joined [] = refl
marked_joined (l ∷ ls) = on (is_mark l) refl
  where
    on : (b : Bool) → is_mark l ≡ b → mark_of (cond b new_form old_form) ++ joined (cond b ls (l ∷ ls)) ≡ with_feed l ++ joined ls
    on true e = mark_joined l (joined ls) e
    on false e = refl

pub unchanged : (text : List ℕ) → Unchanged text
unfolding read_listing salvaged
unchanged text p e =
    let w : ListingForm = form_in (lines_of text) in
    let ls : List Line = statement_lines (lines_of text) in
    rw (from_same w 0 0 ls p e)
    (ap (λ (t : List ℕ). record { listing = t; count = length p; report = [] }) (marked_joined (lines_of text) ∙ joined_back text))
