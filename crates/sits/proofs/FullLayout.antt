-- Where statement n sits by the frames before it is where it sits in the full layout.
use mathlib.Core.Path.{◌≡◌, refl, ap}
use mathlib.Core.List.{List, [], ◌∷◌}
use mathlib.Core.Bool.{Bool, true, false, cond}
use Prim.Native.Nat.{ℕ, zero, suc, ◌+◌, ◌<◌, ◌≤◌}
use native.Mathlib.Omega.{arith}
use lib.ListN.{length, take}
use lib.Seq.{take_all, length-take-le}
use borrow.Author.Tests.{le-leb, lt-leb}
use Rattle.rules.specs.declared.Refusal.TheVariants.{Absent}
use Rattle.rules.specs.Answers.{ok, no, Check, check_each, require, ◌>>=◌, ◌>>◌}
use Rattle.rules.specs.Programs.{Program}
use Rattle.rules.specs.Listing.{Line, lines_of, ListingForm, is_mark, form_in, statement_lines, read_lines, read_listing}
use Rattle.rules.specs.Layout.{after, position_from, position}
use Rattle.rules.specs.Names.{enter, Placed, placed_from, placed}
use Rattle.rules.specs.Judging.{no_name_twice, settles, positions_fit, judge}
use Rattle.rules.proofs.Laws.{then_ok, next_ok}
use Rattle.listing.specs.Reading.{judge_line}
use Rattle.sits.specs.Sits.{lines_before, read_before, sits_among, sits}
use Rattle.sits.specs.Promise.{FullLayout, BeforeAlone}

-- ---- the lines before n

-- are the first n of those that are statements
pub before_lines : (n : ℕ) (ls : List Line) → statement_lines (lines_before n ls) ≡ take n (statement_lines ls)
unfolding lines_before
before_lines zero ls = refl
before_lines (suc n) [] = refl
before_lines (suc n) (l ∷ ls) = on (is_mark l) refl
  where
    on : (b : Bool) → is_mark l ≡ b → statement_lines (cond b (l ∷ take (suc n) ls) (l ∷ take n ls)) ≡ take (suc n) (cond b ls (l ∷ ls))
    on true e = rw e
    on false e = rw e

-- and have the listing's form, if there is any
pub before_form : (n : ℕ) (ls : List Line) → form_in (lines_before (suc n) ls) ≡ form_in ls
unfolding lines_before
before_form n [] = refl
before_form n (l ∷ ls) = on (is_mark l)
  where
    on : (b : Bool) → form_in (cond b (l ∷ take (suc n) ls) (l ∷ take n ls)) ≡ form_in (l ∷ ls)
    on true = refl
    on false = refl

pub none_before : (ls : List Line) → read_before 0 ls ≡ ok []
unfolding read_before lines_before read_lines
none_before ls = refl

-- ---- the first n lines read as the first n statements

read_part : (w : ListingForm) (n i sum : ℕ) (ls : List Line) (p : Program) → read_lines w i sum ls ≡ ok p
    → read_lines w i sum (take n ls) ≡ ok (take n p)
unfolding read_lines judge_line ◌>>=◌
read_part w zero i sum ls p e = refl
read_part w (suc n) i sum [] p e = let z : [] ≡ p = cc in rw (← z)
read_part w (suc n) i sum (l ∷ ls) p e =
    let a = then_ok (judge_line w i sum l) _ p e in
    let b = then_ok (read_lines w (suc i) (sum + length l.chars) ls) _ p a.2 in
    let z : a.0 ∷ b.0 ≡ p = cc b.2 in
    rw (a.1, ◌>>=◌, read_part w n (suc i) (sum + length l.chars) ls b.0 b.1, ◌>>=◌) (ap (λ (q : Program). ok (take (suc n) q)) z)

pub read_before_lem : (text : List ℕ) (n : ℕ) (p : Program) → read_listing text ≡ ok p → read_before n (lines_of text) ≡ ok (take n p)
unfolding read_before read_listing
read_before_lem text zero p e = none_before (lines_of text)
read_before_lem text (suc n) p e =
    rw (before_form n (lines_of text), before_lines (suc n) (lines_of text))
    (read_part (form_in (lines_of text)) (suc n) 0 0 (statement_lines (lines_of text)) p e)

-- ---- positions

-- what settles as a whole settles in part
abbrev pub settled : Placed → Check
settled x = settles x.place x.position x.stmt

fit_part : (n i k q : ℕ) (p : Program) → check_each settled (placed_from i k q p) ≡ ok tt
    → check_each settled (placed_from i k q (take n p)) ≡ ok tt
unfolding placed_from check_each ◌>>◌
fit_part zero i k q p e = refl
fit_part (suc n) i k q [] e = e
fit_part (suc n) i k q (s ∷ p) e =
    let a = next_ok (settles i q s) (check_each settled (placed_from (suc i) (enter k s) (after q s) p)) tt e in
    rw (a.1, ◌>>◌) (fit_part n (suc i) (enter k s) (after q s) p a.2)

-- the position at a place does not depend on what stands there or later
position_part : (n q : ℕ) (p : Program) → n ≤ length p → position_from q (take n p) n ≡ position_from q p n
unfolding position_from
position_part zero q [] l = refl
position_part zero q (s ∷ p) l = refl
position_part (suc n) q [] l = refl
position_part (suc n) q (s ∷ p) l = position_part n (after q s) p (omega arith)

-- ---- the whole

module _ (text : List ℕ) (p : Program) (e : read_listing text ≡ ok p) (f : positions_fit (placed p) ≡ ok tt) where
  fits_before : (n : ℕ) → positions_fit (placed (take n p)) ≡ ok tt
  unfolding positions_fit placed
  fits_before n = fit_part n 0 0 0 p f

  sits_there : (n : ℕ) → n ≤ length p → sits text n ≡ ok (position p n)
  unfolding sits sits_among position ◌>>=◌ ◌>>◌ require
  sits_there n l =
      rw (read_before_lem text n p e, fits_before n, length-take-le n p l, le-leb n n (omega arith))
      (ap ok (position_part n 0 p l))

  sits_above : (n : ℕ) → length p < n → sits text n ≡ no Absent
  unfolding sits sits_among ◌>>=◌ ◌>>◌ require
  sits_above n l =
      let t : take n p ≡ p = take_all n p (omega arith) in
      rw (read_before_lem text n p e, t, f, lt-leb n (length p) l)

  -- for every program whose positions fit, so for every accepted one
  pub full_layout : FullLayout text p
  full_layout = record { there = sits_there; above = sits_above }

pub accepted_layout : (text : List ℕ) (p : Program) (image : List ℕ) → read_listing text ≡ ok p → judge p ≡ ok image → FullLayout text p
unfolding judge
accepted_layout text p image e j =
    let a = next_ok (no_name_twice [] (placed p)) _ image j in
    let b = next_ok (positions_fit (placed p)) _ image a.2 in
    full_layout text p e b.1

pub before_alone : (text text' : List ℕ) (n : ℕ) → BeforeAlone text text' n
unfolding sits read_before
before_alone text text' n e = ap (λ ls. read_lines (form_in ls) 0 0 (statement_lines ls) >>= sits_among n) e
