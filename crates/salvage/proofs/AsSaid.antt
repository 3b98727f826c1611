-- Line by line: the first lines come out in their order, each that is replaced is told once, and from the first that would pass a limit on
-- all are
-- left off.
use mathlib.Core.Path.{◌≡◌, refl, sym, ap, ap₂, ◌∙◌}
use mathlib.Core.List.{List, [], ◌∷◌, ◌++◌, append_assoc}
use mathlib.Core.Bool.{Bool, true, false, cond}
use mathlib.Core.Logic.{◌⊎◌, inl, inr, ⊎_elim}
use Prim.Native.Nat.{ℕ, suc, ◌+◌, ◌≤◌, ◌<◌}
use native.Mathlib.Omega.{arith}
use lib.Dec.{leb, ltb, leb-suc-suc}
use lib.ListN.{length, take}
use borrow.Author.Tests.{leb-true, leb-false, ltb-true, ltb-false, lt-ltb}
use Rattle.laws.specs.Lists.{each, total}
use Rattle.laws.proofs.Tests.{and_true, and_false}
use Rattle.rules.specs.Listing.{Line, lines_of, ListingForm, form_in, statement_lines, most_characters}
use Rattle.rules.specs.Output.{mark_of}
use Rattle.lines.specs.Alone.{by_itself, standing, told, left_from}
use Rattle.salvage.specs.Salvage.{Salvaged, left_off, in_front, keeps_limits, salvage_from, salvaged}
use Rattle.salvage.specs.Promise.{told_from, AsSaid}

abbrev line_out : ListingForm → Line → List ℕ
line_out w l = standing w l ++ (10 ∷ [])

abbrev size : ListingForm → Line → ℕ
size w l = length (standing w l)

-- of the lines from place i on, `sum` characters having come out before
record Part (w : ListingForm) (i sum : ℕ) (ls : List Line) (x : Salvaged) : Type 0 where
  there : x.count ≤ length ls
  lines : x.listing ≡ each (line_out w) (take x.count ls)
  tells : x.report ≡ told_from w i (take x.count ls) ++ cond (ltb x.count (length ls)) (left_from (i + x.count)) []
  few : i + x.count ≤ 1024
  short : sum + total (size w) (take x.count ls) ≤ most_characters w
  passes : x.count < length ls → (i + x.count ≡ 1024) ⊎ (most_characters w < sum + total (size w) (take (suc x.count) ls))

-- one line more
kept_part : (w : ListingForm) (i sum : ℕ) (l : Line) (ls : List Line) (x : Salvaged) → Part w (suc i) (sum + size w l) ls x
    → Part w i sum (l ∷ ls) (in_front (standing w l) (told i (by_itself w l)) x)
unfolding each total told_from
kept_part w i sum l ls x r =
    let n : ℕ = x.count in
    let tell : List ℕ = told i (by_itself w l) in
    let more : List ℕ = told_from w (suc i) (take n ls) in
    let z : suc i + n ≡ i + suc n = omega arith in
    record {
      there = omega (arith, r.there);
      lines = ap (λ (t : List ℕ). standing w l ++ (10 ∷ t)) r.lines ∙ sym (append_assoc (standing w l) (10 ∷ [])
          (each (line_out w) (take n ls)));
      tells = ap (λ (t : List ℕ). tell ++ t) r.tells
          ∙ sym (append_assoc tell more (cond (ltb n (length ls)) (left_from (suc i + n)) []))
          ∙ ap₂ (λ (b : Bool) (m : ℕ). (tell ++ more) ++ cond b (left_from m) []) (sym (leb-suc-suc (suc n) (length ls))) z;
      few = omega (arith, r.few);
      short = omega (arith, r.short);
      passes = λ h. ⊎_elim (λ e. inl (omega arith)) (λ e. inr (omega arith)) (r.passes (omega arith));
    }

-- or none
left_part : (w : ListingForm) (i sum : ℕ) (l : Line) (ls : List Line) → i ≤ 1024 → sum ≤ most_characters w → keeps_limits w i sum
    (size w l) ≡ false
    → Part w i sum (l ∷ ls) (left_off i)
unfolding each total told_from
left_part w i sum l ls h k e =
    let z : i + 0 ≡ i = omega arith in
    record {
      there = omega arith;
      lines = refl;
      tells = rw (lt-ltb 0 (suc (length ls)) (omega arith), z);
      few = omega arith;
      short = omega arith;
      passes = λ some. ⊎_elim (λ a. inl (omega (arith, ltb-false i 1024 a)))
          (λ b. inr (omega (arith, leb-false (sum + size w l) (most_characters w) b)))
          (and_false (ltb i 1024) (leb (sum + size w l) (most_characters w)) e);
    }

no_part : (w : ListingForm) (i sum : ℕ) → i ≤ 1024 → sum ≤ most_characters w → Part w i sum [] (
    record {
      listing = [];
      count = 0;
      report = [];
    })
unfolding each total told_from
no_part w i sum h k =
    record { there = omega arith; lines = refl; tells = refl; few = omega arith; short = omega arith; passes = λ z. absurd (omega arith) }

part : (w : ListingForm) (i sum : ℕ) (ls : List Line) → i ≤ 1024 → sum ≤ most_characters w → Part w i sum ls (salvage_from w i sum ls)
unfolding salvage_from
part w i sum [] h k = no_part w i sum h k
part w i sum (l ∷ ls) h k = on (keeps_limits w i sum (size w l)) refl (part w (suc i) (sum + size w l) ls)
  where
    on : (b : Bool) → keeps_limits w i sum (size w l) ≡ b
        → (suc i ≤ 1024 → sum + size w l ≤ most_characters w → Part w (suc i) (sum + size w l) ls (salvage_from w (suc i) (sum + size w l)
        ls))
        → Part w i sum (l ∷ ls) (cond b (in_front (standing w l) (told i (by_itself w l)) (salvage_from w (suc i) (sum + size w l) ls))
        (left_off i))
    on true e below =
        let a = and_true (ltb i 1024) (leb (sum + size w l) (most_characters w)) e in
        kept_part w i sum l ls _ (below (omega (arith, ltb-true i 1024 a.0)) (leb-true (sum + size w l) (most_characters w) a.1))
    on false e below = left_part w i sum l ls h k e

pub as_said : (text : List ℕ) → AsSaid text
unfolding salvaged
as_said text =
    let w : ListingForm = form_in (lines_of text) in
    let ls : List Line = statement_lines (lines_of text) in
    let n : ℕ = (salvage_from w 0 0 ls).count in
    let z : 0 + n ≡ n = omega arith in
    let r = part w 0 0 ls (omega arith) (omega arith) in
    record {
      there = r.there;
      lines = ap (λ (t : List ℕ). mark_of w ++ t) r.lines;
      tells = r.tells ∙ ap (λ (m : ℕ). told_from w 0 (take n ls) ++ cond (ltb n (length ls)) (left_from m) []) z;
      few = omega (arith, r.few);
      short = omega (arith, r.short);
      passes = λ h. ⊎_elim (λ e. inl (omega arith)) (λ e. inr (omega arith)) (r.passes h);
    }
