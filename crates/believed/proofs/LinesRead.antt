-- C-20: two texts that differ in their source lines alone are refused alike, or read as the same program.
use mathlib.Core.Path.{◌≡◌, refl, sym, ◌∙◌, ap, ap₂}
use mathlib.Core.List.{List, [], ◌∷◌}
use mathlib.Core.Bool.{Bool, true, false, ◌&&◌}
use Prim.Native.Nat.{ℕ, suc, ◌+◌, ◌-◌, ◌*◌, ◌/◌, ◌%◌}
use native.Mathlib.Omega.{arith}
use lib.Dec.{leb, ltb, eqb}
use lib.ListN.{length, get_or, drop, length-drop}
use lib.Seq.{ext_get_or, get_or-drop}
use borrow.Author.Tests.{leb-true, le-leb, le-ltb}
use Rattle.laws.specs.Lists.{every}
use Rattle.laws.proofs.Tests.{second_false, same_test}
use Rattle.rules.specs.declared.Refusal.TheVariants.{Broken, Limit}
use Rattle.rules.specs.Answers.{at_place, Judged, ok, ◌>>=◌, require}
use Rattle.rules.specs.Programs.{Placeℕ, Stmt, Program}
use Rattle.rules.specs.Listing.{Line, lines_of, is_digit, digit, unhex, read_frame, read_new, ListingForm, new_form, statement_lines}
use Rattle.rules.specs.Listing.{within_limits, well_formed, read_lines, read_listing}
use Rattle.believed.specs.LinesAlone.{source_end, in_source, LineAlone, EachAlone, LinesAlone}

-- ---- a line

-- a line of the new form, at place i, with `sum` characters before it
abbrev line_read : (i sum : ℕ) → Line → Judged Stmt
line_read i sum l =
    require (within_limits new_form i sum l.chars) (Limit (at_place i))
    (require (well_formed l) (Broken (at_place i)) (read_new i (unhex l.chars)))

-- two digits a byte; one that is left over is none
bytes_half : (s : List ℕ) → length (unhex s) ≡ length s / 2
unfolding unhex
bytes_half [] = refl
bytes_half (c ∷ []) = refl
bytes_half (c ∷ d ∷ t) = omega (arith, bytes_half t)

-- what a frame of the new form says, by the characters of its line: those at 2 to 9 are not asked
abbrev frame_by : (i : Placeℕ) (many first second : ℕ) (rest : List ℕ) → Judged Stmt
frame_by i many first second rest = require (leb 10 many) (Broken (at_place i)) (read_frame i ((digit first * 16 + digit second) ∷ unhex rest))

long_enough : (n : ℕ) → leb 4 (n / 2) ≡ leb 10 (suc (suc n))
long_enough n =
    same_test (leb 4 (n / 2)) (leb 10 (suc (suc n)))
    (λ t. le-leb 10 (suc (suc n)) (omega (arith, leb-true 4 (n / 2) t)))
    (λ t. le-leb 4 (n / 2) (omega (arith, leb-true 10 (suc (suc n)) t)))

four_behind : (s : List ℕ) → drop 4 (unhex s) ≡ unhex (drop 8 s)
unfolding unhex
four_behind [] = refl
four_behind (a ∷ []) = refl
four_behind (a ∷ b ∷ []) = refl
four_behind (a ∷ b ∷ c ∷ []) = refl
four_behind (a ∷ b ∷ c ∷ d ∷ []) = refl
four_behind (a ∷ b ∷ c ∷ d ∷ e ∷ []) = refl
four_behind (a ∷ b ∷ c ∷ d ∷ e ∷ f ∷ []) = refl
four_behind (a ∷ b ∷ c ∷ d ∷ e ∷ f ∷ g ∷ []) = refl
four_behind (a ∷ b ∷ c ∷ d ∷ e ∷ f ∷ g ∷ h ∷ t) = refl

frame_by_lem : (i : Placeℕ) (s : List ℕ) → read_new i (unhex s) ≡ frame_by i (length s) (get_or s 0 0) (get_or s 1 0) (drop 10 s)
unfolding unhex require
frame_by_lem i [] = refl
frame_by_lem i (c ∷ []) = refl
frame_by_lem i (c ∷ d ∷ t) = rw (bytes_half t, long_enough (length t), four_behind t)

-- the digits of one line are those of the other
digits_alike : (s t : List ℕ) → length s ≡ length t → ((k : ℕ) → is_digit (get_or s k 0) ≡ is_digit (get_or t k 0))
    → every (λ c. is_digit c) s ≡ every (λ c. is_digit c) t
unfolding every
digits_alike [] [] n h = refl
digits_alike [] (d ∷ t) n h = absurd (omega arith)
digits_alike (c ∷ s) [] n h = absurd (omega arith)
digits_alike (c ∷ s) (d ∷ t) n h = ap₂ ◌&&◌ (h 0) (digits_alike s t (omega arith) (λ k. h (suc k)))

-- behind the source line
behind : (k : ℕ) → in_source (10 + k) ≡ false
behind k = second_false (leb 2 (10 + k)) (ltb (10 + k) source_end) (le-ltb (10 + k) source_end (omega arith))

module _ (l l' : Line) (h : LineAlone l l') where
  each_digit : (k : ℕ) → is_digit (get_or l.chars k 0) ≡ is_digit (get_or l'.chars k 0)
  each_digit k = on (in_source k) refl
    where
      on : (b : Bool) → in_source k ≡ b → is_digit (get_or l.chars k 0) ≡ is_digit (get_or l'.chars k 0)
      on true e = h.digits k e
      on false e = ap (λ (c : ℕ). is_digit c) (h.elsewhere k e)

  formed_alike : well_formed l ≡ well_formed l'
  unfolding well_formed
  formed_alike =
      ap₂ ◌&&◌ (digits_alike l.chars l'.chars h.as_long each_digit)
      (ap₂ ◌&&◌ (ap (λ (n : ℕ). eqb (n % 2) 0) h.as_long) h.ended_alike)

  within_alike : (i sum : ℕ) → within_limits new_form i sum l.chars ≡ within_limits new_form i sum l'.chars
  unfolding within_limits
  within_alike i sum = rw h.as_long

  rest_alike : drop 10 l.chars ≡ drop 10 l'.chars
  rest_alike =
      ext_get_or 0 (drop 10 l.chars) (drop 10 l'.chars)
      (length-drop 10 l.chars ∙ ap (λ (n : ℕ). n - 10) h.as_long ∙ sym (length-drop 10 l'.chars))
      (λ k b. get_or-drop 10 l.chars k 0 ∙ h.elsewhere (10 + k) (behind k) ∙ sym (get_or-drop 10 l'.chars k 0))

  frame_alike : (i : Placeℕ) → read_new i (unhex l.chars) ≡ read_new i (unhex l'.chars)
  frame_alike i =
      frame_by_lem i l.chars
      ∙ ap₂ (λ (n c : ℕ). frame_by i n c (get_or l.chars 1 0) (drop 10 l.chars)) h.as_long (h.elsewhere 0 refl)
      ∙ ap₂ (λ (d : ℕ) (rest : List ℕ). frame_by i (length l'.chars) (get_or l'.chars 0 0) d rest) (h.elsewhere 1 refl) rest_alike
      ∙ sym (frame_by_lem i l'.chars)

  -- the line is refused alike, or says the same statement
  line_alike : (i sum : ℕ) → line_read i sum l ≡ line_read i sum l'
  line_alike i sum =
      ap₂ (λ (b : Bool) (x : Judged Stmt). require b (Limit (at_place i)) x) (within_alike i sum)
      (ap₂ (λ (b : Bool) (x : Judged Stmt). require b (Broken (at_place i)) x) formed_alike (frame_alike i))

-- ---- the text

lines_alike : (i sum : ℕ) (ls ls' : List Line) → EachAlone ls ls' → read_lines new_form i sum ls ≡ read_lines new_form i sum ls'
unfolding read_lines
lines_alike i sum [] [] h = refl
lines_alike i sum [] (l' ∷ ls') h = absurd h
lines_alike i sum (l ∷ ls) [] h = absurd h
lines_alike i sum (l ∷ ls) (l' ∷ ls') (h, hs) =
    ap₂ (λ (x : Judged Stmt) (y : Judged Program). x >>= (λ s. y >>= (λ p. ok (s ∷ p)))) (line_alike l l' h i sum)
    (lines_alike (suc i) (sum + length l.chars) ls ls' hs ∙ ap (λ (n : ℕ). read_lines new_form (suc i) (sum + n) ls') h.as_long)

-- reads-alike: both are refused alike, or are read as the same program
pub reads_alike : (text text' : List ℕ) → LinesAlone text text' → read_listing text ≡ read_listing text'
unfolding read_listing
reads_alike text text' h =
    ap (λ (w : ListingForm). read_lines w 0 0 (statement_lines (lines_of text))) h.form
    ∙ lines_alike 0 0 (statement_lines (lines_of text)) (statement_lines (lines_of text')) h.lines
    ∙ sym (ap (λ (w : ListingForm). read_lines w 0 0 (statement_lines (lines_of text'))) h.form')
