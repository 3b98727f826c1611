-- Where the lines of a text begin: what is known once i lines were passed.
use mathlib.Core.Path.{◌≡◌, sym, ap, ◌∙◌}
use mathlib.Core.Logic.{⊎_elim}
use mathlib.Core.List.{List, [], ◌∷◌, map}
use mathlib.Core.Bool.{true}
use Prim.Native.Nat.{ℕ, suc, ◌+◌, ◌-◌, ◌≤◌, ◌<◌}
use native.Mathlib.Omega.{arith}
use lib.Dec.{ltb}
use lib.ListN.{length, get_or, take, drop, set, length-drop, length-set}
use lib.Seq.{drop-cons, drop-drop, length-take-le, get_or-set_same, get_or-set_other}
use borrow.Author.Tests.{ltb-true}
use Rattle.laws.specs.Lists.{every}
use Rattle.laws.proofs.Counts.{below_suc}
use Rattle.laws.proofs.Tests.{and_true}
use Rattle.rules.specs.Programs.{Program}
use Rattle.rules.specs.Listing.{Line, lines_of, statement_lines}
use Rattle.listing.specs.Lines.{line_length, after_line, first_line}
use Rattle.listing.proofs.FirstLine.{lines_are, rest_ended}
use Rattle.listing.proofs.Forms.{mark_lines}
use Rattle.pairing.specs.Lines.{chars_of, line_in, LineAt, FirstAt, Lined}
use Rattle.pairing.proofs.Accepted.{AcceptedLines}

abbrev chars : List Line → List (List ℕ)
chars ls = map (λ l. l.chars) ls

-- i lines were passed, and `rest` is left of the text
pub record Found (text starts rest : List ℕ) (i : ℕ) : Type 0 where
  pub size : length starts ≡ 1025
  pub begins : get_or starts 0 0 ≤ 5
  pub suffix : drop (get_or starts i 0) text ≡ rest
  pub at_most : get_or starts i 0 ≤ length text
  pub left : chars (lines_of rest) ≡ drop i (chars_of text)
  pub ended : every (λ l. l.ended) (lines_of rest) ≡ true
  pub passed : (k : ℕ) → k < i → LineAt text starts k (line_in text k)

pub found_first : (text starts : List ℕ) (at : ℕ) (p : Program) → AcceptedLines text p → length starts ≡ 1025 → FirstAt text at
    → Found text (set starts 0 at) (drop at text) 0
unfolding chars_of
found_first text starts at p a n f =
    let z : get_or (set starts 0 at) 0 0 ≡ at = get_or-set_same starts 0 at 0 (omega arith) in
    let l : statement_lines (lines_of text) ≡ lines_of (drop at text) = mark_lines text ∙ ap lines_of (sym f.0) in
    record {
      size = simp length-set n;
      begins = omega (arith, z, f.2);
      suffix = rw z;
      at_most = omega (arith, z, f.1);
      left = ap chars (sym l);
      ended = ap (every (λ l. l.ended)) (sym l) ∙ a.ended;
      passed = λ k h. absurd (omega arith);
    }

-- ---- one line more
module _ (text starts rest : List ℕ) (i : ℕ) (f : Found text starts rest i) (h : i < length (chars_of text)) where
  some : 0 < length rest
  unfolding lines_of
  some = on rest f.left
    where
      on : (r : List ℕ) → chars (lines_of r) ≡ drop i (chars_of text) → 0 < length r
      on [] e = absurd (omega (arith, ap length e, length-drop i (chars_of text)))
      on (c ∷ r) e = omega arith

  lines : lines_of rest ≡ first_line rest ∷ lines_of (after_line rest)
  lines = lines_are rest some

  split : chars (first_line rest ∷ lines_of (after_line rest)) ≡ line_in text i ∷ drop (suc i) (chars_of text)
  split = ap chars (sym lines) ∙ f.left ∙ drop-cons (chars_of text) i [] h

  line_is : take (line_length rest) rest ≡ line_in text i
  line_is = cc split

  more_left : chars (lines_of (after_line rest)) ≡ drop (suc i) (chars_of text)
  more_left = cc split

  both_ended : (ltb (line_length rest) (length rest) ≡ true) × (every (λ l. l.ended) (lines_of (after_line rest)) ≡ true)
  unfolding every
  both_ended = and_true (ltb (line_length rest) (length rest)) _ (ap (every (λ l. l.ended)) (sym lines) ∙ f.ended)

  fed : line_length rest < length rest
  fed = ltb-true (line_length rest) (length rest) both_ended.0

  line_length_lem : length (line_in text i) ≡ line_length rest
  line_length_lem = ap length (sym line_is) ∙ length-take-le (line_length rest) rest (omega (arith, fed))

  rest_length : get_or starts i 0 + length rest ≡ length text
  rest_length = omega (arith, ap length f.suffix, length-drop (get_or starts i 0) text, f.at_most)

  behind : after_line rest ≡ drop (suc (line_length rest)) rest
  behind = sym (rest_ended rest fed)

  pub rest_within : length (after_line rest) ≤ length text
  rest_within = omega (arith, rest_length, ap length behind, length-drop (suc (line_length rest)) rest)

  next_start : length text - length (after_line rest) ≡ get_or starts i 0 + length (line_in text i) + 1
  next_start = omega (arith, rest_length, line_length_lem, fed, ap length behind, length-drop (suc (line_length rest)) rest)

  module _ (starts' : List ℕ) (few : i < 1024) (e : starts' ≡ set starts (suc i) (length text - length (after_line rest))) where
    stored : get_or starts' (suc i) 0 ≡ get_or starts i 0 + length (line_in text i) + 1
    stored = ap (λ (l : List ℕ). get_or l (suc i) 0) e ∙ get_or-set_same starts (suc i) _ 0 (omega (arith, f.size)) ∙ next_start

    kept : (k : ℕ) → k ≤ i → get_or starts' k 0 ≡ get_or starts k 0
    kept k l = ap (λ (l : List ℕ). get_or l k 0) e ∙ get_or-set_other starts (suc i) k _ 0 (λ q. omega arith)

    old : (k : ℕ) → k < i → LineAt text starts' k (line_in text k)
    old k l =
        let a = f.passed k l in
        let x = kept k (omega arith) in
        let y = kept (suc k) (omega arith) in
        record { next = rw (x, y) a.next; within = rw y a.within; part = rw x a.part }

    new : LineAt text starts' i (line_in text i)
    new =
        let x = kept i (omega arith) in
        record {
          next = rw x stored;
          within = omega (arith, stored, rest_length, line_length_lem, fed);
          part = rw (x, f.suffix, line_length_lem) line_is;
        }

    same_place : get_or starts i 0 + length (line_in text i) + 1 ≡ get_or starts i 0 + suc (line_length rest)
    same_place = omega (arith, line_length_lem)

    pub found_next : Found text starts' (after_line rest) (suc i)
    found_next = record {
      size = ap length e ∙ simp length-set f.size;
      begins = rw (kept 0 (omega arith)) f.begins;
      suffix = rw stored (ap (λ (k : ℕ). drop k text) same_place
          ∙ sym (drop-drop (suc (line_length rest)) (get_or starts i 0) text) ∙ ap (drop (suc (line_length rest))) f.suffix ∙ sym behind);
      at_most = omega (arith, stored, rest_length, line_length_lem, fed);
      left = more_left;
      ended = both_ended.1;
      passed = λ k l. ⊎_elim (λ q. rw q new) (λ m. old k m) (below_suc k i l);
    }

-- ---- all
pub found_all : (text starts rest : List ℕ) (n : ℕ) (p : Program) → AcceptedLines text p → n ≡ length (chars_of text)
    → Found text starts rest n
    → Lined text starts n
found_all text starts rest n p a e f =
    record {
      count = e;
      few = omega (arith, a.few);
      begins = f.begins;
      lines = f.passed;
      written = λ i h. a.written i (omega arith);
    }
