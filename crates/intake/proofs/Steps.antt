-- A text read line by line: the statements of the lines before byte q, and what the lines from there on make of the whole. Assumes nothing.
use mathlib.Core.Path.{◌≡◌, refl, sym, ap, ◌∙◌, subst}
use mathlib.Core.List.{List, [], ◌∷◌, ◌++◌, append_assoc}
use Prim.Native.Nat.{ℕ, suc, ◌+◌, ◌*◌, ◌≤◌, ◌<◌}
use native.Mathlib.Numerals.{add-one}
use native.Mathlib.Omega.{arith}
use lib.ListN.{length, drop, length-drop, length-append, drop_of_length-le}
use lib.Seq.{drop-drop}
use Rattle.laws.specs.Lists.{each}
use Rattle.laws.proofs.Lists.{each_append, each_one}
use Rattle.rules.specs.declared.Refusal.{Refusal}
use Rattle.rules.specs.Answers.{Judged, ok, no}
use Rattle.rules.specs.Programs.{Stmt, Program}
use Rattle.rules.specs.Listing.{Line, lines_of, old_form}
use Rattle.rules.specs.Output.{frame_of, line_of, lines_in, text_of}
use Rattle.listing.specs.Lines.{after_line, first_line}
use Rattle.listing.proofs.FirstLine.{lines_are, rest_ended}
use Rattle.digits.proofs.Rooms.{length_line}
use Rattle.intake.specs.Intake as intake
use Rattle.intake.specs.Intake.{Judges, Takes, listing_of}
use Rattle.intake.specs.Turns.{Framed, Counted}
use Rattle.intake.proofs.Coincide.{one_judged}

-- ---- the listing of one statement more

old_lines : (ns : List ℕ) (p : Program) → lines_in old_form ns p ≡ each (λ s. line_of (frame_of s)) p
unfolding lines_in each
old_lines ns [] = refl
old_lines ns (s ∷ p) = rw (old_lines (drop 1 ns) p)

listing_is : (p : Program) → listing_of p ≡ each (λ s. line_of (frame_of s)) p
unfolding text_of
listing_is p = old_lines [] p

pub listing_more : (p : Program) (s : Stmt) → listing_of (p ++ (s ∷ [])) ≡ listing_of p ++ line_of (frame_of s)
listing_more p s =
    listing_is (p ++ (s ∷ []))
    ∙ each_append (λ r. line_of (frame_of r)) p (s ∷ [])
    ∙ ap (λ (t : List ℕ). t ++ each (λ r. line_of (frame_of r)) (s ∷ [])) (sym (listing_is p))
    ∙ ap (λ (t : List ℕ). listing_of p ++ t) (each_one (λ r. line_of (frame_of r)) s)

pub length_more : (p : Program) (s : Stmt) → length (listing_of (p ++ (s ∷ []))) ≡ length (listing_of p) + (2 * length (frame_of s) + 1)
length_more p s =
    ap (λ (t : List ℕ). length t) (listing_more p s)
    ∙ length-append (listing_of p) (line_of (frame_of s))
    ∙ ap (λ (n : ℕ). length (listing_of p) + n) (length_line (frame_of s))

pub length_front : (s : Stmt) (p : Program) → length (listing_of (s ∷ p)) ≡ 2 * length (frame_of s) + 1 + length (listing_of p)
unfolding each
length_front s p =
    let t = each (λ r. line_of (frame_of r)) p in
    ap (λ (x : List ℕ). length x) (listing_is (s ∷ p))
    ∙ length-append (line_of (frame_of s)) t
    ∙ omega (arith, length_line (frame_of s), ap (λ (x : List ℕ). length x) (listing_is p))

-- a listing is no shorter than that of its first statements
pub length_both : (p r : Program) → length (listing_of p) ≤ length (listing_of (p ++ r))
length_both p r =
    let e = ap (λ (t : List ℕ). length t) (listing_is (p ++ r) ∙ each_append (λ s. line_of (frame_of s)) p r) in
    omega (
      arith,
      e,
      length-append (each (λ s. line_of (frame_of s)) p) (each (λ s. line_of (frame_of s)) r),
      ap (λ (t : List ℕ). length t) (listing_is p),
    )

-- ---- what the rest gives, behind the statements p

abbrev pub behind : Program → Judged Program → Judged Program
behind p (ok r) = ok (p ++ r)
behind p (no r) = no r

pub record Upto (text : List ℕ) (q i sum : ℕ) (p : Program) : Type 0 where
  pub within : q ≤ length text
  pub few : i ≤ 1024
  pub short : sum ≤ 49152
  pub count : i ≡ length p
  pub size : sum + i ≡ length (listing_of p)
  pub goes_on : (j : Judged Program) → Takes i sum (lines_of (drop q text)) j → Takes 0 0 (lines_of text) (behind p j)

pub starts : (text : List ℕ) → Upto text 0 0 0 []
unfolding text_of lines_in
starts text =
    record { within = omega arith; few = omega arith; short = omega arith; count = refl; size = refl; goes_on = on }
  where
    on : (j : Judged Program) → Takes 0 0 (lines_of text) j → Takes 0 0 (lines_of text) (behind [] j)
    on (ok r) t = t
    on (no r) t = t

-- what a line that is read says of the limits
pub kept : {i sum : ℕ} {l : Line} {s : Stmt} → Judges i sum l (ok s) → (i < 1024) × (sum + 2 * length (frame_of s) ≤ 49152)
kept (intake.reads s h n g e f k) = (h, k)

-- one line in front
in_front_lem : {i sum : ℕ} {l : Line} {ls : List Line} (s : Stmt) → Judges i sum l (ok s) → (j : Judged Program)
    → Takes (suc i) (sum + 2 * length (frame_of s)) ls j → Takes i sum (l ∷ ls) (behind (s ∷ []) j)
in_front_lem s h (ok r) t = intake.next h t
in_front_lem s h (no r) t = intake.later h t

behind_both : (p : Program) (s : Stmt) (j : Judged Program) → behind p (behind (s ∷ []) j) ≡ behind (p ++ (s ∷ [])) j
behind_both p s (ok r) = ap (λ (x : Program). ok x) (sym (append_assoc p (s ∷ []) r))
behind_both p s (no r) = refl

-- lines that are read have a first statement
pub first_read : {i sum : ℕ} {l : Line} {ls : List Line} {r : Program} → Takes i sum (l ∷ ls) (ok r)
    → (s : Stmt) × ((x : Program) × ((r ≡ s ∷ x) × (Judges i sum l (ok s) × Takes (suc i) (sum + 2 * length (frame_of s)) ls (ok x))))
first_read (intake.next {s = s} {p = x} h k) = (s, (x, (refl, (h, k))))

pub same_ok : {s r : Stmt} → ◌≡◌ {A = Judged Stmt} (ok s) (ok r) → s ≡ r
same_ok e = cc

module _ {text : List ℕ} {q i sum : ℕ} {p : Program} (u : Upto text q i sum p) (some : q < length text) where
  abbrev rest : List ℕ
  rest = drop q text

  there : 0 < length rest
  there = omega (arith, length-drop q text)

  -- a line that is refused
  pub refuses : (r : Refusal) → Judges i sum (first_line rest) (no r) → Takes 0 0 (lines_of text) (no r)
  refuses r h = u.goes_on (no r) (subst (λ ls. Takes i sum ls (no r)) (sym (lines_are rest there)) (intake.refused h))

  module _ {room : List ℕ} {end n : ℕ} (f : Framed i sum rest room end n) where
    -- where the next line begins
    pub ends_in : (1 ≤ end) × (q + end ≤ length text)
    ends_in = (omega (arith, f.ends), omega (arith, f.ends, f.there, length-drop q text))

    next_rest : lines_of (drop (q + end) text) ≡ lines_of (after_line rest)
    next_rest =
        ap lines_of (sym (drop-drop end q text) ∙ ap (λ (k : ℕ). drop k rest) f.ends ∙ rest_ended rest f.there)

    on_from : (j : Judged Program) → Takes (i + 1) (sum + 2 * n) (lines_of (drop (q + end) text)) j
        → Takes (suc i) (sum + 2 * length (frame_of f.s)) (lines_of (after_line rest)) j
    on_from j t =
        subst (λ ls. Takes (suc i) (sum + 2 * length (frame_of f.s)) ls j) next_rest
        (subst (λ k. Takes (suc i) (sum + 2 * k) (lines_of (drop (q + end) text)) j) f.size
        (subst (λ k. Takes k (sum + 2 * n) (lines_of (drop (q + end) text)) j) (add-one i) t))

    goes : (j : Judged Program) → Takes (i + 1) (sum + 2 * n) (lines_of (drop (q + end) text)) j
        → Takes 0 0 (lines_of text) (behind (p ++ (f.s ∷ [])) j)
    goes j t =
        subst (λ x. Takes 0 0 (lines_of text) x) (behind_both p f.s j)
        (u.goes_on (behind (f.s ∷ []) j)
        (subst (λ ls. Takes i sum ls (behind (f.s ∷ []) j)) (sym (lines_are rest there)) (in_front_lem f.s f.judges j (on_from j t))))

    -- one statement more
    pub step : Upto text (q + end) (i + 1) (sum + 2 * n) (p ++ (f.s ∷ []))
    step = record {
      within = ends_in.1;
      few = omega (arith, (kept f.judges).0);
      short = omega (arith, (kept f.judges).1, f.size);
      count = omega (arith, u.count, length-append p (f.s ∷ []));
      size = omega (arith, u.size, f.size, length_more p f.s);
      goes_on = goes;
    }

    -- where the rest is read as r, its first statement is this one
    pub taken : (r : Program) → Takes i sum (lines_of rest) (ok r)
        → (x : Program) × ((r ≡ f.s ∷ x) × Takes (i + 1) (sum + 2 * n) (lines_of (drop (q + end) text)) (ok x))
    taken r t =
        let o = first_read (subst (λ ls. Takes i sum ls (ok r)) (lines_are rest there) t) in
        let e : o.0 ≡ f.s = same_ok (one_judged o.1.1.1.0 f.judges) in
        (o.1.0, (o.1.1.0 ∙ ap (λ (y : Stmt). y ∷ o.1.0) e, back o.0 o.1.0 e o.1.1.1.1))
      where
        back : (s : Stmt) (x : Program) → s ≡ f.s → Takes (suc i) (sum + 2 * length (frame_of s)) (lines_of (after_line rest)) (ok x)
            → Takes (i + 1) (sum + 2 * n) (lines_of (drop (q + end) text)) (ok x)
        back s x e k =
            subst (λ m. Takes m (sum + 2 * n) (lines_of (drop (q + end) text)) (ok x)) (sym (add-one i))
            (subst (λ m. Takes (suc i) (sum + 2 * m) (lines_of (drop (q + end) text)) (ok x)) (ap (λ y. length (frame_of y)) e ∙ sym f.size)
            (subst (λ ls. Takes (suc i) (sum + 2 * length (frame_of s)) ls (ok x)) (sym next_rest) k))

-- ---- no line is left

none_left : (text : List ℕ) (q : ℕ) → length text ≤ q → lines_of (drop q text) ≡ []
unfolding lines_of
none_left text q h = rw (drop_of_length-le text h)

append_none : (p : Program) → p ++ [] ≡ p
append_none [] = refl
append_none (s ∷ p) = ap (λ (x : Program). s ∷ x) (append_none p)

module _ {text : List ℕ} {q i sum : ℕ} {p : Program} (u : Upto text q i sum p) (all : length text ≤ q) where
  pub whole : Takes 0 0 (lines_of text) (ok p)
  whole =
      subst (λ x. Takes 0 0 (lines_of text) (ok x)) (append_none p)
      (u.goes_on (ok []) (subst (λ ls. Takes i sum ls (ok [])) (sym (none_left text q all)) intake.none))

  pub counted : Counted text i (sum + i)
  counted = record { p = p; takes = whole; statements = u.count; characters = u.size }
