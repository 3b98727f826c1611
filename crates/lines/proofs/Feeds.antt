-- Texts and their lines: where the first line ends, and a text that is one line.
use mathlib.Core.Path.{◌≡◌, refl, sym, ap, ◌∙◌}
use mathlib.Core.Bool.{Bool, true, false, cond}
use mathlib.Core.List.{List, [], ◌∷◌, ◌++◌}
use Prim.Native.Nat.{ℕ, suc, ◌+◌, ◌-◌, ◌<◌}
use native.Mathlib.Omega.{arith}
use lib.Dec.{eqb}
use lib.ListN.{length, get_or, take, drop, length-append}
use borrow.Author.Tests.{eqb-true}
use Rattle.laws.specs.Lists.{each}
use Rattle.laws.proofs.Lists.{each_one}
use Rattle.laws.proofs.Tests.{clash}
use Rattle.rules.specs.Listing.{Line, onto_line, lines_of}
use Rattle.listing.specs.Lines.{first_line, after_line}
use Rattle.listing.proofs.FirstLine.{lines_are}
use Rattle.lines.specs.Turns.{line_end, OneLine}

-- ---- lines joined again
abbrev pub with_feed : Line → List ℕ
with_feed l = l.chars ++ cond l.ended (10 ∷ []) []

onto_text : (c : ℕ) (ls : List Line) (t : List ℕ) → each with_feed ls ≡ t → each with_feed (onto_line c ls) ≡ c ∷ t
unfolding each
onto_text c [] t e = ap (λ (s : List ℕ). c ∷ s) e
onto_text c (l ∷ ls) t e = ap (λ (s : List ℕ). c ∷ s) e

pub joined_back : (t : List ℕ) → each with_feed (lines_of t) ≡ t
unfolding lines_of each
joined_back [] = refl
joined_back (c ∷ t) = on (eqb c 10) refl (joined_back t)
  where
    on : (b : Bool) → eqb c 10 ≡ b → each with_feed (lines_of t) ≡ t
        → each with_feed (cond b (record { chars = []; ended = true } ∷ lines_of t) (onto_line c (lines_of t))) ≡ c ∷ t
    on true e h = rw (h, eqb-true c 10 e)
    on false e h = onto_text c (lines_of t) t h

-- ---- the first line
pub end_rest : (t : List ℕ) → line_end t + length (after_line t) ≡ length t
unfolding line_end after_line
end_rest [] = refl
end_rest (c ∷ t) = on (eqb c 10) (end_rest t)
  where
    on : (b : Bool) → line_end t + length (after_line t) ≡ length t → suc (cond b 0 (line_end t)) + length (cond b t (after_line t))
        ≡ suc (length t)
    on true h = omega arith
    on false h = omega arith

pub drop_end : (t : List ℕ) → drop (line_end t) t ≡ after_line t
unfolding line_end after_line
drop_end [] = refl
drop_end (c ∷ t) = on (eqb c 10) (drop_end t)
  where
    on : (b : Bool) → drop (line_end t) t ≡ after_line t → drop (cond b 0 (line_end t)) t ≡ cond b t (after_line t)
    on true h = refl
    on false h = h

first_part : (t : List ℕ) → lines_of (take (line_end t) t) ≡ take 1 (lines_of t)
unfolding line_end lines_of
first_part [] = refl
first_part (c ∷ t) = on (eqb c 10) refl (first_part t)
  where
    onto : (ls : List Line) → onto_line c (take 1 ls) ≡ take 1 (onto_line c ls)
    onto [] = refl
    onto (l ∷ ls) = refl

    on : (b : Bool) → eqb c 10 ≡ b → lines_of (take (line_end t) t) ≡ take 1 (lines_of t)
        → lines_of (c ∷ take (cond b 0 (line_end t)) t) ≡ take 1 (cond b (
        record {
          chars = [];
          ended = true;
        } ∷ lines_of t) (onto_line c (lines_of t)))
    on true e h = rw e
    on false e h = rw (e, h) (onto (lines_of t))

-- the first line of a text that is not empty, taken out of it, is one line, and the same
some_end : (c : ℕ) (t : List ℕ) → 0 < length (take (line_end (c ∷ t)) (c ∷ t))
unfolding line_end
some_end c t = omega arith

pub record Taken (t : List ℕ) : Type 0 where
  pub one : OneLine (take (line_end t) t)
  pub same : first_line (take (line_end t) t) ≡ first_line t

pub first_taken : (t : List ℕ) → 0 < length t → Taken t
first_taken [] h = absurd (omega arith)
first_taken (c ∷ t) h =
    let x : List ℕ = take (line_end (c ∷ t)) (c ∷ t) in
    let is : lines_of x ≡ first_line (c ∷ t) ∷ [] = first_part (c ∷ t) ∙ ap (take 1) (lines_are (c ∷ t) h) in
    let are : lines_of x ≡ first_line x ∷ lines_of (after_line x) = lines_are x (some_end c t) in
    let e : first_line x ≡ first_line (c ∷ t) = cc in
    record { one = is ∙ ap (λ (l : Line). l ∷ []) (sym e); same = e }

pub taken_at : (t : List ℕ) (n : ℕ) → n ≡ line_end t → 0 < length t → OneLine (take n t) × (first_line (take n t) ≡ first_line t)
taken_at t n e h = let k = first_taken t h in rw e (k.one, k.same)

-- ---- a text that is one line
module _ (x : List ℕ) (o : OneLine x) where
  pub one_text : x ≡ with_feed (first_line x)
  one_text = sym (joined_back x) ∙ ap (each with_feed) o ∙ each_one with_feed (first_line x)

  pub one_ended : (first_line x).ended ≡ true → x ≡ (first_line x).chars ++ (10 ∷ [])
  one_ended e = one_text ∙ ap (λ (b : Bool). (first_line x).chars ++ cond b (10 ∷ []) []) e

  pub ended_length : (first_line x).ended ≡ true → length x ≡ length (first_line x).chars + 1
  ended_length e = ap length (one_ended e) ∙ length-append (first_line x).chars (10 ∷ [])

  pub unended_length : (first_line x).ended ≡ false → length x ≡ length (first_line x).chars
  unended_length e =
      omega (
        arith,
        ap length (one_text ∙ ap (λ (b : Bool). (first_line x).chars ++ cond b (10 ∷ []) []) e),
        length-append
            (first_line x).chars [],
      )

-- its last byte is a line feed exactly where a line feed ends it
last_is : (x : List ℕ) (l : Line) → lines_of x ≡ l ∷ [] → eqb (get_or x (length x - 1) 0) 10 ≡ l.ended
unfolding lines_of
last_is [] l o = clash (cc)
last_is (c ∷ []) l o = on (eqb c 10) o
  where
    on : (b : Bool) → cond b (
        record {
          chars = [];
          ended = true;
        } ∷ []) (record { chars = c ∷ []; ended = false } ∷ []) ≡ l ∷ [] → b ≡ l.ended
    on true e = let z : record { chars = []; ended = true } ≡ l = cc in ap (λ (k : Line). k.ended) z
    on false e = let z : record { chars = c ∷ []; ended = false } ≡ l = cc in ap (λ (k : Line). k.ended) z
last_is (c ∷ d ∷ t) l o = on (eqb c 10) o (last_is (d ∷ t) (first_line (d ∷ t)))
  where
    on : (b : Bool) → cond b (record { chars = []; ended = true } ∷ lines_of (d ∷ t)) (onto_line c (lines_of (d ∷ t))) ≡ l ∷ []
        → (lines_of (d ∷ t) ≡ first_line (d ∷ t) ∷ [] → eqb (get_or (d ∷ t) (length (d ∷ t) - 1) 0) 10 ≡ (first_line (d ∷ t)).ended)
        → eqb (get_or (c ∷ d ∷ t) (length (c ∷ d ∷ t) - 1) 0) 10 ≡ l.ended
    on true e below = clash (cc (lines_are (d ∷ t) (omega arith)))
    on false e below =
        let first : Line = first_line (d ∷ t) in
        let rest : List Line = lines_of (after_line (d ∷ t)) in
        let are : lines_of (d ∷ t) ≡ first ∷ rest = lines_are (d ∷ t) (omega arith) in
        let f : record { chars = c ∷ first.chars; ended = first.ended } ∷ rest ≡ l ∷ [] = ap (onto_line c) (sym are) ∙ e in
        let g : record { chars = c ∷ first.chars; ended = first.ended } ≡ l = cc f in
        let n : rest ≡ [] = cc f in
        let z : length (c ∷ d ∷ t) - 1 ≡ suc (length (d ∷ t) - 1) = omega arith in
        ap (λ (k : ℕ). eqb (get_or (c ∷ d ∷ t) k 0) 10) z
        ∙ below (are ∙ ap (λ (ls : List Line). first ∷ ls) n)
        ∙ ap (λ (k : Line). k.ended) g

pub last_feed : (x : List ℕ) → OneLine x → eqb (get_or x (length x - 1) 0) 10 ≡ (first_line x).ended
last_feed x o = last_is x (first_line x) o
