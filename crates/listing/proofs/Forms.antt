-- C-20: the first line that marks the form, and a frame without its source line. Assumes nothing.
use mathlib.Core.Path.{◌≡◌, refl, sym, ap, ◌∙◌}
use mathlib.Core.Bool.{Bool, true, false, ◌&&◌, cond}
use mathlib.Core.List.{List, [], ◌∷◌}
use Prim.Native.Nat.{ℕ, zero, suc, ◌+◌, ◌-◌, ◌≤◌, ◌<◌}
use native.Mathlib.Omega.{arith}
use lib.Dec.{eqb}
use lib.ListN.{length, get_or, drop, length-drop}
use lib.Seq.{get_or-drop}
use borrow.Author.Tests.{eqb-true, ne_eqb, le-leb, lt-leb}
use Rattle.laws.specs.Lists.{same}
use Rattle.laws.proofs.Tests.{and_true, and_assoc, second_false}
use Rattle.rules.specs.declared.Refusal.TheVariants.{Broken}
use Rattle.rules.specs.Answers.{at_place, no, ◌>>=◌, require}
use Rattle.rules.specs.Programs.{Placeℕ}
use Rattle.rules.specs.Listing.{Line, onto_line, lines_of, take_byte, read_frame, ListingForm, old_form, new_form, is_mark, form_in, statement_lines, line_bytes, read_frame_in, beside_of}
use Rattle.listing.specs.Lines.{after_line, first_line}
use Rattle.listing.specs.Form.{form_of, is_marked, after_mark, without, kept_at}
use Rattle.listing.proofs.FirstLine.{lines_are}

-- ---- the first of these lines has the characters ms, and a line feed ends it
abbrev is_first : List ℕ → List Line → Bool
is_first ms [] = false
is_first ms (l ∷ ls) = same l.chars ms && l.ended

-- the text begins so
abbrev opens : List ℕ → List ℕ → Bool
opens ms [] = false
opens [] (c ∷ t) = eqb c 10
opens (m ∷ ms) (c ∷ t) = eqb c m && opens ms t

-- no character of ms is a line feed
abbrev NoFeed : List ℕ → Type 0
NoFeed [] = Unit
NoFeed (m ∷ ms) = (m ≡ 10 → ⊥) × NoFeed ms

first_opens : (ms t : List ℕ) → NoFeed ms → is_first ms (lines_of t) ≡ opens ms t
unfolding lines_of same
first_opens ms [] h = refl
first_opens [] (c ∷ t) h = on (eqb c 10) (lines_of t)
  where
    on : (b : Bool) (ls : List Line) → is_first [] (cond b (record { chars = []; ended = true } ∷ ls) (onto_line c ls)) ≡ b
    on true ls = refl
    on false [] = refl
    on false (l ∷ ls) = refl
first_opens (m ∷ ms) (c ∷ t) h = on (eqb c 10) refl t (first_opens ms t h.1)
  where
    on : (b : Bool) → eqb c 10 ≡ b → (t : List ℕ) → is_first ms (lines_of t) ≡ opens ms t
        → is_first (m ∷ ms) (cond b (record { chars = []; ended = true } ∷ lines_of t) (onto_line c (lines_of t))) ≡ eqb c m && opens ms t
    on true e t below = rw (ne_eqb c m (λ z. h.0 (sym z ∙ eqb-true c 10 e)))
    on false e [] below = and_assoc (eqb c m) (same [] ms) false ∙ ap (λ (b : Bool). eqb c m && b) (second_false (same [] ms) false refl)
    on false e (d ∷ t) below =
        ap (λ (ls : List Line). is_first (m ∷ ms) (onto_line c ls)) (lines_are (d ∷ t) (omega arith))
        ∙ and_assoc (eqb c m) (same (first_line (d ∷ t)).chars ms) (first_line (d ∷ t)).ended
        ∙ ap (λ (b : Bool). eqb c m && b) (sym (ap (is_first ms) (lines_are (d ∷ t) (omega arith))) ∙ below)

abbrev mark : List ℕ
mark = 55 ∷ 68 ∷ 48 ∷ 50 ∷ []

mark_fed : NoFeed mark
mark_fed = (λ z. omega arith, (λ z. omega arith, (λ z. omega arith, (λ z. omega arith, tt))))

marked_opens : (t : List ℕ) → opens mark t ≡ is_marked t
unfolding is_marked
marked_opens [] = refl
marked_opens (a ∷ []) = refl
marked_opens (a ∷ b ∷ []) = refl
marked_opens (a ∷ b ∷ c ∷ []) = refl
marked_opens (a ∷ b ∷ c ∷ d ∷ []) = refl
marked_opens (a ∷ b ∷ c ∷ d ∷ e ∷ t) = refl

first_marked : (t : List ℕ) → is_first mark (lines_of t) ≡ is_marked t
first_marked t = first_opens mark t mark_fed ∙ marked_opens t

-- the form of a text
pub mark_form : (t : List ℕ) → form_in (lines_of t) ≡ form_of (is_marked t)
mark_form t = on (lines_of t) ∙ ap form_of (first_marked t)
  where
    on : (ls : List Line) → form_in ls ≡ form_of (is_first mark ls)
    on [] = refl
    on (l ∷ ls) = cond_form (is_mark l)
      where
        cond_form : (b : Bool) → cond b new_form old_form ≡ form_of b
        cond_form true = refl
        cond_form false = refl

pub form_is : (t : List ℕ) → (beside_of t).form ≡ form_of (is_marked t)
unfolding beside_of
form_is t = mark_form t

-- a text that is marked has these five characters
pub marked_long : (t : List ℕ) → is_marked t ≡ true → 5 ≤ length t
unfolding is_marked
marked_long t e =
    let a = and_true (eqb (get_or t 0 0) 55) _ e in
    let b = and_true (eqb (get_or t 1 0) 68) _ a.1 in
    let c = and_true (eqb (get_or t 2 0) 48) _ b.1 in
    let d = and_true (eqb (get_or t 3 0) 50) (eqb (get_or t 4 0) 10) c.1 in
    on t (eqb-true (get_or t 4 0) 10 d.1)
  where
    on : (t : List ℕ) → get_or t 4 0 ≡ 10 → 5 ≤ length t
    on [] z = absurd (omega arith)
    on (a ∷ []) z = absurd (omega arith)
    on (a ∷ b ∷ []) z = absurd (omega arith)
    on (a ∷ b ∷ c ∷ []) z = absurd (omega arith)
    on (a ∷ b ∷ c ∷ d ∷ []) z = absurd (omega arith)
    on (a ∷ b ∷ c ∷ d ∷ e ∷ t) z = omega arith

-- the lines that are statements
after_mark_lem : (t : List ℕ) → is_marked t ≡ true → after_line t ≡ drop 5 t
unfolding is_marked after_line
after_mark_lem [] e = refl
after_mark_lem (a ∷ []) e = absurd (omega (arith, marked_long (a ∷ []) e))
after_mark_lem (a ∷ b ∷ []) e = absurd (omega (arith, marked_long (a ∷ b ∷ []) e))
after_mark_lem (a ∷ b ∷ c ∷ []) e = absurd (omega (arith, marked_long (a ∷ b ∷ c ∷ []) e))
after_mark_lem (a ∷ b ∷ c ∷ d ∷ []) e = absurd (omega (arith, marked_long (a ∷ b ∷ c ∷ d ∷ []) e))
after_mark_lem (a ∷ b ∷ c ∷ d ∷ f ∷ t) e =
    let g = and_true (eqb a 55) _ e in
    let h = and_true (eqb b 68) _ g.1 in
    let k = and_true (eqb c 48) _ h.1 in
    let l = and_true (eqb d 50) (eqb f 10) k.1 in
    rw (eqb-true a 55 g.0, eqb-true b 68 h.0, eqb-true c 48 k.0, eqb-true d 50 l.0, l.1)

pub mark_lines : (t : List ℕ) → statement_lines (lines_of t) ≡ lines_of (after_mark t)
unfolding after_mark
mark_lines t = on t (is_marked t) refl
  where
    by : (b : Bool) (l : Line) (ls : List Line) → is_mark l ≡ b → statement_lines (l ∷ ls) ≡ cond b ls (l ∷ ls)
    by b l ls e = rw e

    on : (t : List ℕ) (b : Bool) → is_marked t ≡ b → statement_lines (lines_of t) ≡ lines_of (cond b (drop 5 t) t)
    on [] true e = absurd (omega (arith, marked_long [] e))
    on [] false e = unfold lines_of in refl
    on (c ∷ t) b e =
        let s : List ℕ = c ∷ t in
        let lines = lines_are s (omega arith) in
        let first : is_mark (first_line s) ≡ b = sym (ap (is_first mark) lines) ∙ first_marked s ∙ e in
        ap statement_lines lines ∙ by b (first_line s) (lines_of (after_line s)) first ∙ at b e
      where
        at : (b : Bool) → is_marked (c ∷ t) ≡ b → cond b (lines_of (after_line (c ∷ t))) (first_line (c ∷ t) ∷ lines_of (after_line (c ∷ t))) ≡ lines_of (cond b (drop 5 (c ∷ t)) (c ∷ t))
        at true e = ap lines_of (after_mark_lem (c ∷ t) e)
        at false e = sym (lines_are (c ∷ t) (omega arith))

-- ---- a frame without its source line
pub without_at : (b : ℕ) (s : List ℕ) (k : ℕ) → get_or (without b s) k 0 ≡ get_or s (kept_at b k) 0
without_at b [] zero = refl
without_at b [] (suc k) = refl
without_at b (x ∷ s) zero = refl
without_at b (x ∷ s) (suc k) = let e : suc k + b ≡ suc (b + k) = omega arith in get_or-drop b s k 0 ∙ sym (ap (λ (n : ℕ). get_or (x ∷ s) n 0) e)

pub length_without : (b : ℕ) (s : List ℕ) → b < length s → length (without b s) ≡ length s - b
length_without b [] h = absurd (omega arith)
length_without b (k ∷ s) h = omega (arith, length-drop b s)

-- a frame that ends before its source line does is broken
pub short_frame : (w : ListingForm) (i : Placeℕ) (s : List ℕ) → length s ≤ line_bytes w → read_frame_in w i s ≡ no (Broken (at_place i))
unfolding read_frame take_byte ◌>>=◌ require
short_frame old_form i [] h = refl
short_frame old_form i (k ∷ s) h = absurd (omega arith)
short_frame new_form i [] h = refl
short_frame new_form i (k ∷ s) h = rw (lt-leb 4 (length s) (omega arith))

pub long_frame : (w : ListingForm) (i : Placeℕ) (s : List ℕ) → line_bytes w < length s → read_frame_in w i s ≡ read_frame i (without (line_bytes w) s)
unfolding require
long_frame old_form i [] h = refl
long_frame old_form i (k ∷ s) h = refl
long_frame new_form i [] h = absurd (omega arith)
long_frame new_form i (k ∷ s) h = rw (le-leb 4 (length s) (omega arith))
