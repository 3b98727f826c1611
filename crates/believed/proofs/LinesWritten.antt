-- C-20: one program, written with two lists of source lines, makes texts of one length that differ in their source lines alone.
use mathlib.Core.Path.{◌≡◌, refl, sym, ◌∙◌, ap, ap₂}
use mathlib.Core.Logic.{⊎_elim}
use mathlib.Core.List.{List, [], ◌∷◌, ◌++◌, append_assoc}
use mathlib.Core.Bool.{Bool, true, false, cond}
use Prim.Native.Nat.{ℕ, zero, suc, ◌+◌, ◌-◌, ◌/◌, ◌%◌, ◌≤◌, ◌<◌, ◌^◌}
use native.Mathlib.Omega.{arith}
use lib.Dec.{leb, ltb, eqb}
use lib.ListN.{length, get_or, drop, length-append, get_or-append}
use lib.Seq.{get_or-drop, get_or-append-add}
use borrow.Author.Tests.{le-leb, lt-ltb, ne_eqb}
use Rattle.laws.specs.Lists.{every, each, same}
use Rattle.laws.specs.Counts.{all_to}
use Rattle.laws.proofs.Tests.{and_both, both_ways, lt_or_le}
use Rattle.laws.proofs.Lists.{every_at}
use Rattle.laws.proofs.Counts.{all_at}
use Rattle.rules.specs.Expressions.{four}
use Rattle.rules.specs.Programs.{Placeℕ, Program}
use Rattle.rules.specs.Listing.{Line, lines_of, is_digit, new_form, is_mark, form_in, statement_lines}
use Rattle.rules.specs.Output.{frame_of, hex_digit, hex_byte, line_of, with_line, lines_in, mark_of, lines_from}
use Rattle.believed.specs.LinesAlone.{source_end, in_source, LineAlone, EachAlone, LinesAlone}

-- a digit is no line feed
no_feed : (d : ℕ) → eqb (hex_digit d) 10 ≡ false
no_feed d = on (ltb d 10)
  where
    on : (b : Bool) → eqb (cond b (48 + d) (55 + d)) 10 ≡ false
    on true = ne_eqb (48 + d) 10 (λ z. omega arith)
    on false = ne_eqb (55 + d) 10 (λ z. omega arith)

sixteen : all_to (λ d. is_digit (hex_digit d)) 16 ≡ true
unfolding all_to
sixteen = refl

is_digit_lem : (d : ℕ) → d < 16 → is_digit (hex_digit d) ≡ true
is_digit_lem d h = all_at (λ d. is_digit (hex_digit d)) d 16 h sixteen

-- the eight digits of a source line, and what is behind them
abbrev eight : ℕ → List ℕ
eight n = each (λ b. hex_byte b) (four n)

eight_digits : (n : ℕ) → n < 2 ^ 32 → every (λ c. is_digit c) (eight n) ≡ true
unfolding each every
eight_digits n h = rw (
  is_digit_lem (n / 16777216 / 16) (omega (arith, h)),
  is_digit_lem (n / 16777216 % 16) (omega arith),
  is_digit_lem (n / 65536 % 256 / 16) (omega arith),
  is_digit_lem (n / 65536 % 256 % 16) (omega arith),
  is_digit_lem (n / 256 % 256 / 16) (omega arith),
  is_digit_lem (n / 256 % 256 % 16) (omega arith),
  is_digit_lem (n % 256 / 16) (omega arith),
  is_digit_lem (n % 256 % 16) (omega arith),
)

at_source : (n : ℕ) (rest : List ℕ) (k : ℕ) → n < 2 ^ 32 → k < 8 → is_digit (get_or (eight n ++ rest) k 0) ≡ true
unfolding each
at_source n rest k h l =
    ap (λ (c : ℕ). is_digit c) (get_or-append (eight n) rest 0 k l) ∙ every_at (λ c. is_digit c) (eight n) k 0 l (eight_digits n h)

behind_source : (n : ℕ) (rest : List ℕ) (k : ℕ) → 8 ≤ k → get_or (eight n ++ rest) k 0 ≡ get_or rest (k - 8) 0
unfolding each
behind_source n rest k l =
    let z : k ≡ 8 + (k - 8) = omega arith in
    ap (λ (i : ℕ). get_or (eight n ++ rest) i 0) z ∙ get_or-append-add (eight n) rest (k - 8) 0

-- the line of a frame
abbrev written_line : List ℕ → Line
written_line s = record { chars = each (λ b. hex_byte b) s; ended = true }

line_back : (s t : List ℕ) → lines_of (each (λ b. hex_byte b) s ++ (10 ∷ t)) ≡ written_line s ∷ lines_of t
unfolding each lines_of
line_back [] t = refl
line_back (b ∷ s) t = rw (no_feed (b / 16), no_feed (b % 16), line_back s t)

line_front : (s t : List ℕ) → lines_of (line_of s ++ t) ≡ written_line s ∷ lines_of t
unfolding line_of
line_front s t = ap lines_of (append_assoc (each (λ b. hex_byte b) s) (10 ∷ []) t) ∙ line_back s t

inside : (k : ℕ) → k < 8 → in_source (suc (suc k)) ≡ true
inside k l =
    let n : ℕ = suc (suc k) in
    and_both (leb 2 n) (ltb n source_end) (le-leb 2 n (omega arith)) (lt-ltb n source_end (omega arith))

-- one frame with two source lines
line_alone : (m n : ℕ) (s : List ℕ) → m < 2 ^ 32 → n < 2 ^ 32 → LineAlone (written_line (with_line m s)) (written_line (with_line n s))
unfolding each
line_alone m n [] h h' = record { ended_alike = refl; as_long = refl; elsewhere = λ k e. refl; digits = λ k e. refl }
line_alone m n (b ∷ s) h h' = record { ended_alike = refl; as_long = refl; elsewhere = elsewhere; digits = digits }
  where
    rest : List ℕ
    rest = each (λ b. hex_byte b) s

    of : ℕ → List ℕ
    of x = hex_digit (b / 16) ∷ hex_digit (b % 16) ∷ (eight x ++ rest)

    elsewhere : (k : ℕ) → in_source k ≡ false → get_or (of m) k 0 ≡ get_or (of n) k 0
    elsewhere zero e = refl
    elsewhere (suc zero) e = refl
    elsewhere (suc (suc k)) e =
        ⊎_elim (λ l. both_ways (in_source (suc (suc k))) (inside k l) e)
        (λ l. behind_source m rest k l ∙ sym (behind_source n rest k l)) (lt_or_le k 8)

    digits : (k : ℕ) → in_source k ≡ true → is_digit (get_or (of m) k 0) ≡ is_digit (get_or (of n) k 0)
    digits zero e = refl
    digits (suc zero) e = refl
    digits (suc (suc k)) e =
        ⊎_elim (λ l. at_source m rest k h l ∙ sym (at_source n rest k h' l))
        (λ l. ap (λ (c : ℕ). is_digit c) (behind_source m rest k l ∙ sym (behind_source n rest k l))) (lt_or_le k 8)

-- source lines of four bytes
abbrev pub AllFit : List ℕ → Type 0
AllFit ns = (j : ℕ) → get_or ns j 0 < 2 ^ 32

fit_rest : (ns : List ℕ) → AllFit ns → AllFit (drop 1 ns)
fit_rest ns h j = rw (get_or-drop 1 ns j 0) (h (1 + j))

pub fit_from : (ns : List ℕ) → AllFit ns → (is : List Placeℕ) → AllFit (lines_from ns is)
fit_from ns h [] j = omega arith
fit_from ns h (i ∷ is) zero = h i
fit_from ns h (i ∷ is) (suc j) = fit_from ns h is j

frame_long : (m n : ℕ) (s : List ℕ) → length (line_of (with_line m s)) ≡ length (line_of (with_line n s))
unfolding line_of each
frame_long m n [] = refl
frame_long m n (b ∷ s) = refl

-- statements with two lists of source lines
each_alone : (ms ns : List ℕ) → AllFit ms → AllFit ns → (p : Program)
    → EachAlone (lines_of (lines_in new_form ms p)) (lines_of (lines_in new_form ns p))
unfolding lines_in lines_of
each_alone ms ns h h' [] = tt
each_alone ms ns h h' (s ∷ p) =
    rw (
      line_front (with_line (get_or ms 0 0) (frame_of s)) (lines_in new_form (drop 1 ms) p),
      line_front (with_line (get_or ns 0 0) (frame_of s)) (lines_in new_form (drop 1 ns) p),
    )
    (line_alone (get_or ms 0 0) (get_or ns 0 0) (frame_of s) (h 0) (h' 0), each_alone (drop 1 ms) (drop 1 ns) (fit_rest ms h) (fit_rest ns h') p)

pub each_long : (ms ns : List ℕ) (p : Program) → length (lines_in new_form ms p) ≡ length (lines_in new_form ns p)
unfolding lines_in
each_long ms ns [] = refl
each_long ms ns (s ∷ p) =
    length-append (line_of (with_line (get_or ms 0 0) (frame_of s))) (lines_in new_form (drop 1 ms) p)
    ∙ ap₂ ◌+◌ (frame_long (get_or ms 0 0) (get_or ns 0 0) (frame_of s)) (each_long (drop 1 ms) (drop 1 ns) p)
    ∙ sym (length-append (line_of (with_line (get_or ns 0 0) (frame_of s))) (lines_in new_form (drop 1 ns) p))

-- behind the mark
marks : is_mark (written_line (0x7D ∷ 0x02 ∷ [])) ≡ true
unfolding each same
marks = refl

marked_form : (t : List ℕ) → form_in (lines_of (mark_of new_form ++ t)) ≡ new_form
marked_form t = ap form_in (line_front (0x7D ∷ 0x02 ∷ []) t) ∙ rw marks

marked_lines : (t : List ℕ) → statement_lines (lines_of (mark_of new_form ++ t)) ≡ lines_of t
marked_lines t = ap statement_lines (line_front (0x7D ∷ 0x02 ∷ []) t) ∙ rw marks

-- written-alone: one program, written with two lists of source lines
pub written_alone : (ms ns : List ℕ) → AllFit ms → AllFit ns → (p : Program)
    → LinesAlone (mark_of new_form ++ lines_in new_form ms p) (mark_of new_form ++ lines_in new_form ns p)
written_alone ms ns h h' p = record {
  form = marked_form (lines_in new_form ms p);
  form' = marked_form (lines_in new_form ns p);
  lines = rw (marked_lines (lines_in new_form ms p), marked_lines (lines_in new_form ns p)) (each_alone ms ns h h' p);
}
