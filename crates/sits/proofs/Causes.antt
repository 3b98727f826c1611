-- Which refusals are given, about which statements, and that the whole listing has the same ones.
use mathlib.Core.Path.{◌≡◌, refl, sym, ◌∙◌, ap}
use mathlib.Core.List.{List, [], ◌∷◌}
use mathlib.Core.Bool.{Bool, true, false}
use mathlib.Core.Logic.{◌⊎◌, inl, inr}
use Prim.Native.Nat.{ℕ, zero, suc, ◌+◌, ◌<◌, ◌≤◌}
use native.Mathlib.Omega.{arith}
use lib.Dec.{leb}
use lib.ListN.{length, take, drop, length-take}
use borrow.Author.Tests.{leb-false}
use Rattle.laws.proofs.Tests.{clash}
use Rattle.rules.specs.declared.Refusal.{Refusal}
use Rattle.rules.specs.declared.Refusal.TheVariants.{Broken, Limit, Back, Beyond, Absent}
use Rattle.rules.specs.Answers.{Judged, ok, no, Check, check_each, require, at_place, ◌>>=◌, ◌>>◌}
use Rattle.rules.specs.Programs.{Placeℕ, Addressℕ, Stmt, Program, Space, empty, exactly, from, space_at}
use Rattle.rules.specs.Listing.{Line, lines_of, unhex, within_limits, well_formed, ListingForm, old_form, new_form, form_in, statement_lines}
use Rattle.rules.specs.Listing.{read_frame, read_frame_in, read_lines, read_listing}
use Rattle.rules.specs.Layout.{after, position}
use Rattle.rules.specs.Names.{enter, placed_from, placed}
use Rattle.rules.specs.Judging.{settles_in, settles, positions_fit}
use Rattle.rules.proofs.Laws.{then_ok}
use Rattle.listing.specs.Reading.{judge_line}
use Rattle.listing.proofs.Refused.{Fair, fair_frame}
use Rattle.sits.specs.Sits.{lines_before, read_before, sits_among, sits}
use Rattle.sits.specs.Promise.{Cause, reading, laying, counting, AsWhole}
use Rattle.sits.proofs.FullLayout.{before_lines, before_form, none_before, settled, read_before_lem}

-- a test that was not passed
required : {A : Type 0} (b : Bool) (q : Refusal) (a : A) (r : Refusal) → require b q (ok a) ≡ no r → (b ≡ false) × (r ≡ q)
unfolding require
required true q a r e = clash (cc)
required false q a r e = (refl, cc)

-- ---- 1 and 2

fair_line : (w : ListingForm) (i sum : ℕ) (l : Line) → Fair i (judge_line w i sum l)
unfolding judge_line require
fair_line w i sum l = on (within_limits w i sum l.chars) (well_formed l)
  where
    new : (s : List ℕ) → Fair i (read_frame_in new_form i s)
    new [] = inr refl
    new (k ∷ s) = at (leb 4 (length s))
      where
        at : (b : Bool) → Fair i (require b (Broken (at_place i)) (read_frame i (k ∷ drop 4 s)))
        at true = fair_frame i (k ∷ drop 4 s)
        at false = inr refl

    frame : (w : ListingForm) (s : List ℕ) → Fair i (read_frame_in w i s)
    frame old_form s = fair_frame i s
    frame new_form s = new s

    on : (a b : Bool) → Fair i (require a (Limit (at_place i)) (require b (Broken (at_place i)) (read_frame_in w i (unhex l.chars))))
    on true true = frame w (unhex l.chars)
    on true false = inr refl
    on false b = inl refl

-- r is 1 or 2 at one of the lines, the first of which is line i
abbrev AtLine : (i n : ℕ) → Refusal → Type 0
AtLine i n r = (j : Placeℕ) × (j < i + n) × ((r ≡ Limit (at_place j)) ⊎ (r ≡ Broken (at_place j)))

at_line : (w : ListingForm) (i sum : ℕ) (ls : List Line) (r : Refusal) → read_lines w i sum ls ≡ no r → AtLine i (length ls) r
unfolding read_lines judge_line ◌>>=◌
at_line w i sum [] r e = clash (cc)
at_line w i sum (l ∷ ls) r e = on (judge_line w i sum l) (fair_line w i sum l) e (at_line w (suc i) (sum + length l.chars) ls)
  where
    later : AtLine (suc i) (length ls) r → AtLine i (suc (length ls)) r
    later h = (h.0, omega (arith, h.1), h.2)

    on : (x : Judged Stmt) → Fair i x → (x >>= λ s. read_lines w (suc i) (sum + length l.chars) ls >>= λ p. ok (s ∷ p)) ≡ no r
        → ((q : Refusal) → read_lines w (suc i) (sum + length l.chars) ls ≡ no q → AtLine (suc i) (length ls) q)
        → AtLine i (suc (length ls)) r
    on (no q) f e below = (i, omega arith, here f)
      where
        here : (q ≡ Limit (at_place i)) ⊎ (q ≡ Broken (at_place i)) → (r ≡ Limit (at_place i)) ⊎ (r ≡ Broken (at_place i))
        here (inl z) = inl (cc)
        here (inr z) = inr (cc)
    on (ok s) f e below = behind (read_lines w (suc i) (sum + length l.chars) ls) refl e
      where
        behind : (y : Judged Program) → read_lines w (suc i) (sum + length l.chars) ls ≡ y → (y >>= λ p. ok (s ∷ p)) ≡ no r
            → AtLine i (suc (length ls)) r
        behind (ok p) z e = clash (cc)
        behind (no q) z e = later (below r (z ∙ e))

-- as many statements as lines
read_count : (w : ListingForm) (i sum : ℕ) (ls : List Line) (p : Program) → read_lines w i sum ls ≡ ok p → length p ≡ length ls
unfolding read_lines judge_line
read_count w i sum [] p e = let z : [] ≡ p = cc in rw (← z)
read_count w i sum (l ∷ ls) p e =
    let a = then_ok (judge_line w i sum l) _ p e in
    let b = then_ok (read_lines w (suc i) (sum + length l.chars) ls) _ p a.2 in
    let z : a.0 ∷ b.0 ≡ p = cc b.2 in
    ap length (sym z) ∙ ap suc (read_count w (suc i) (sum + length l.chars) ls b.0 b.1)

-- what is refused in part is refused as a whole
refused_part : (w : ListingForm) (n i sum : ℕ) (ls : List Line) (r : Refusal) → read_lines w i sum (take n ls) ≡ no r
    → read_lines w i sum ls ≡ no r
unfolding read_lines judge_line ◌>>=◌
refused_part w zero i sum ls r e = clash (cc)
refused_part w (suc n) i sum [] r e = e
refused_part w (suc n) i sum (l ∷ ls) r e = on (judge_line w i sum l) e (refused_part w n (suc i) (sum + length l.chars) ls r)
  where
    on : (x : Judged Stmt) → (x >>= λ s. read_lines w (suc i) (sum + length l.chars) (take n ls) >>= λ p. ok (s ∷ p)) ≡ no r
        → (read_lines w (suc i) (sum + length l.chars) (take n ls) ≡ no r → read_lines w (suc i) (sum + length l.chars) ls ≡ no r)
        → (x >>= λ s. read_lines w (suc i) (sum + length l.chars) ls >>= λ p. ok (s ∷ p)) ≡ no r
    on (no q) e below = e
    on (ok s) e below = behind (read_lines w (suc i) (sum + length l.chars) (take n ls)) refl e
      where
        behind : (y : Judged Program) → read_lines w (suc i) (sum + length l.chars) (take n ls) ≡ y → (y >>= λ p. ok (s ∷ p)) ≡ no r
            → (read_lines w (suc i) (sum + length l.chars) ls >>= λ p. ok (s ∷ p)) ≡ no r
        behind (ok p) z e = clash (cc)
        behind (no q) z e = rw (below (z ∙ e))

module _ (n : ℕ) (ls : List Line) where
  few_lines : length (statement_lines (lines_before n ls)) ≤ n
  few_lines = rw (before_lines n ls) (omega (arith, length-take n (statement_lines ls)))

  few_read : (p : Program) → read_before n ls ≡ ok p → length p ≤ n
  unfolding read_before
  few_read p e = omega (arith, few_lines, read_count (form_in (lines_before n ls)) 0 0 (statement_lines (lines_before n ls)) p e)

  before_refused : (r : Refusal) → read_before n ls ≡ no r → AtLine 0 n r
  unfolding read_before
  before_refused r e =
      let h = at_line (form_in (lines_before n ls)) 0 0 (statement_lines (lines_before n ls)) r e in
      (h.0, omega (arith, h.1, few_lines), h.2)

-- ---- 5 and 6

-- r is 5 or 6 at one of n statements, the first of which is at place i
abbrev AtStatement : (i n : ℕ) → Refusal → Type 0
AtStatement i n r = (j : Placeℕ) × (j < i + n) × ((r ≡ Back (at_place j)) ⊎ (r ≡ Beyond (at_place j)))

unsettled : (i : Placeℕ) (q : Addressℕ) (x : Space) (r : Refusal) → settles_in i q x ≡ no r
    → (r ≡ Back (at_place i)) ⊎ (r ≡ Beyond (at_place i))
unsettled i q empty r e = clash (cc)
unsettled i q (exactly n) r e = inr (required (leb (q + n) 65536) (Beyond (at_place i)) _ r e).1
unsettled i q (from l) r e = inl (required (leb q l) (Back (at_place i)) _ r e).1

at_statement : (i k q : ℕ) (p : Program) (r : Refusal) → check_each settled (placed_from i k q p) ≡ no r → AtStatement i (length p) r
unfolding placed_from check_each ◌>>◌
at_statement i k q [] r e = clash (cc)
at_statement i k q (s ∷ p) r e = on (settles i q s) refl e (at_statement (suc i) (enter k s) (after q s) p r)
  where
    later : AtStatement (suc i) (length p) r → AtStatement i (suc (length p)) r
    later h = (h.0, omega (arith, h.1), h.2)

    on : (x : Check) → settles i q s ≡ x → (x >> check_each settled (placed_from (suc i) (enter k s) (after q s) p)) ≡ no r
        → (check_each settled (placed_from (suc i) (enter k s) (after q s) p) ≡ no r → AtStatement (suc i) (length p) r)
        → AtStatement i (suc (length p)) r
    on (no t) z e below = (i, omega arith, unsettled i q (space_at q s) r (z ∙ e))
    on (ok u) z e below = later (below e)

-- what does not settle in part does not settle as a whole
unsettled_part : (n i k q : ℕ) (p : Program) (r : Refusal) → check_each settled (placed_from i k q (take n p)) ≡ no r
    → check_each settled (placed_from i k q p) ≡ no r
unfolding placed_from check_each ◌>>◌
unsettled_part zero i k q p r e = clash (cc)
unsettled_part (suc n) i k q [] r e = e
unsettled_part (suc n) i k q (s ∷ p) r e = on (settles i q s) e (unsettled_part n (suc i) (enter k s) (after q s) p r)
  where
    on : (x : Check) → (x >> check_each settled (placed_from (suc i) (enter k s) (after q s) (take n p))) ≡ no r
        → (check_each settled (placed_from (suc i) (enter k s) (after q s) (take n p)) ≡ no r
        → check_each settled (placed_from (suc i) (enter k s) (after q s) p) ≡ no r)
        → (x >> check_each settled (placed_from (suc i) (enter k s) (after q s) p)) ≡ no r
    on (no t) e below = e
    on (ok u) e below = below e

module _ (p : Program) (r : Refusal) where
  laid_fault : positions_fit (placed p) ≡ no r → AtStatement 0 (length p) r
  unfolding positions_fit placed
  laid_fault e = at_statement 0 0 0 p r e

  laid_whole : (n : ℕ) → positions_fit (placed (take n p)) ≡ no r → positions_fit (placed p) ≡ no r
  unfolding positions_fit placed
  laid_whole n e = unsettled_part n 0 0 0 p r e

-- ---- the whole listing's refusal is the same

reading_whole : (text : List ℕ) (n : ℕ) (r : Refusal) → read_before n (lines_of text) ≡ no r → read_listing text ≡ no r
unfolding read_before read_listing
reading_whole text zero r e = clash (cc (none_before (lines_of text)))
reading_whole text (suc n) r e =
    refused_part (form_in (lines_of text)) (suc n) 0 0 (statement_lines (lines_of text)) r
    (rw (← before_form n (lines_of text), ← before_lines (suc n) (lines_of text)) e)

-- ---- why a refusal is given

module _ (text : List ℕ) (n : ℕ) (r : Refusal) where
  among : (p : Program) → read_before n (lines_of text) ≡ ok p → sits_among n p ≡ no r → Cause text n r
  unfolding sits_among ◌>>◌
  among p z e = on (positions_fit (placed p)) refl e
    where
      on : (x : Check) → positions_fit (placed p) ≡ x → (x >> require (leb n (length p)) Absent (ok (position p n))) ≡ no r → Cause text n r
      on (no t) y e =
          let f : positions_fit (placed p) ≡ no r = cc in
          let h = laid_fault p r f in
          laying p h.0 z (omega (arith, h.1, few_read n (lines_of text) p z)) h.2 f
      on (ok u) y e =
          let h = required (leb n (length p)) Absent (position p n) r e in
          counting p z y (leb-false n (length p) h.0) h.1

  pub cause : sits text n ≡ no r → Cause text n r
  unfolding sits ◌>>=◌
  cause e = on (read_before n (lines_of text)) refl e
    where
      on : (x : Judged Program) → read_before n (lines_of text) ≡ x → (x >>= sits_among n) ≡ no r → Cause text n r
      on (no t) z e =
          let f : read_before n (lines_of text) ≡ no r = cc in
          let h = before_refused n (lines_of text) r f in
          reading h.0 (omega (arith, h.1)) h.2 f
      on (ok p) z e = among p z e

  laying_whole : (p : Program) → read_listing text ≡ ok p → sits text n ≡ no r → (r ≡ Absent → ⊥) → positions_fit (placed p) ≡ no r
  unfolding sits sits_among ◌>>=◌ ◌>>◌
  laying_whole p e s other = on (positions_fit (placed (take n p))) refl (rw (read_before_lem text n p e) at s)
    where
      on : (x : Check) → positions_fit (placed (take n p)) ≡ x
          → (x >> require (leb n (length (take n p))) Absent (ok (position (take n p) n))) ≡ no r
          → positions_fit (placed p) ≡ no r
      on (no t) y d = laid_whole p r n (cc)
      on (ok u) y d = absurd (other (required (leb n (length (take n p))) Absent (position (take n p) n) r d).1)

  pub as_whole : AsWhole text n r
  as_whole = record { reading = reading_whole text n r; laying = laying_whole }
