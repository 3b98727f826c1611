-- Of a text that is longer than the program's buffer, what the buffer holds decides: the rest of the text is never asked for.
use mathlib.Core.Path.{◌≡◌, refl, sym, ◌∙◌, ap, subst}
use mathlib.Core.Logic.{◌⊎◌, inl, inr}
use mathlib.Core.List.{List, [], ◌∷◌}
use mathlib.Core.Bool.{Bool, true, false, ◌&&◌, cond}
use Prim.Native.Nat.{ℕ, zero, suc, ◌+◌, ◌≤◌, ◌<◌}
use native.Mathlib.Omega.{arith}
use lib.Dec.{leb, ltb, eqb}
use lib.ListN.{length, take}
use lib.Seq.{take_all}
use borrow.Author.Tests.{leb-true, ltb-true, lt-leb}
use Rattle.laws.proofs.Tests.{and_true, first_false, second_false, lt_or_le}
use Rattle.rules.specs.declared.Refusal.TheVariants.{Broken, Limit}
use Rattle.rules.specs.Answers.{at_place, Judged, ok, no, ◌>>=◌, require}
use Rattle.rules.specs.Programs.{Stmt, Program}
use Rattle.rules.specs.Listing.{Line, onto_line, lines_of, unhex, within_limits, well_formed, read_lines, read_listing, read_frame_in, ListingForm, old_form, new_form, is_mark, form_in, statement_lines, widest, most_characters}
use Rattle.rules.specs.Run.{Output, run, assembled, printed, program, listing_room_of_program, image_room_of_program}
use Rattle.promises.specs.Room.{input_room_of_program, read_in, DecidedEarly}
use Rattle.rules.specs.declared.Settings.{Settings}
use Rattle.rules.specs.declared.Refusal.{Refusal}
use Rattle.promises.proofs.OutputRoom.{room_enough}
use Rattle.promises.proofs.Listings.{read_limits, read_whole, mark_length}

-- ---- the lines of a text's first n characters, beside the lines of the text: the same, up to a line that the cut may have shortened
abbrev Cut : ℕ → List Line → List Line → Type 0
Cut n [] ys = n ≡ 0
Cut n (x ∷ xs) [] = ⊥
Cut n (x ∷ xs) (y ∷ ys) = ((x ≡ y) × (m : ℕ) × (n ≡ suc (length x.chars) + m) × Cut m xs ys) ⊎ ((n ≡ length x.chars) × (n ≤ length y.chars))

cut_onto : (n c : ℕ) (xs ys : List Line) → Cut n xs ys → Cut (suc n) (onto_line c xs) (onto_line c ys)
cut_onto n c [] [] h = inr (omega (arith, h), omega (arith, h))
cut_onto n c [] (y ∷ ys) h = inr (omega (arith, h), omega (arith, h))
cut_onto n c (x ∷ xs) [] h = absurd h
cut_onto n c (x ∷ xs) (y ∷ ys) (inl h) = inl (ap (λ (l : Line). record { chars = c ∷ l.chars; ended = l.ended }) h.0, h.1, omega (arith, h.2), h.3)
cut_onto n c (x ∷ xs) (y ∷ ys) (inr h) = inr (omega (arith, h.0), omega (arith, h.1))

cut_lines : (n : ℕ) (t : List ℕ) → n ≤ length t → Cut n (lines_of (take n t)) (lines_of t)
unfolding lines_of
cut_lines zero t h = refl
cut_lines (suc n) [] h = absurd (omega arith)
cut_lines (suc n) (c ∷ t) h = on (eqb c 10) (cut_lines n t (omega arith))
  where
    on : (b : Bool) → Cut n (lines_of (take n t)) (lines_of t)
        → Cut (suc n) (cond b (record { chars = []; ended = true } ∷ lines_of (take n t)) (onto_line c (lines_of (take n t)))) (cond b (record { chars = []; ended = true } ∷ lines_of t) (onto_line c (lines_of t)))
    on true k = inl (refl, n, omega arith, k)
    on false k = cut_onto n c (lines_of (take n t)) (lines_of t) k

-- ---- a line that is too wide is refused with 2, whatever its characters are
wide_line : (w : ListingForm) (i sum : ℕ) (l : Line) (ls : List Line) → widest w < length l.chars → read_lines w i sum (l ∷ ls) ≡ no (Limit (at_place i))
unfolding read_lines within_limits require ◌>>=◌
wide_line w i sum l ls h =
    let n : ℕ = length l.chars in
    let e : within_limits w i sum l.chars ≡ false = second_false (ltb i 1024) (leb n (widest w) && leb (sum + n) (most_characters w)) (first_false (leb n (widest w)) (leb (sum + n) (most_characters w)) (lt-leb n (widest w) h)) in
    rw e

-- ---- what follows a line is asked for only where the line is within the limits
same_then : (x : Judged Stmt) (f g : Stmt → Judged Program) → ((s : Stmt) → f s ≡ g s) → x >>= f ≡ x >>= g
unfolding ◌>>=◌
same_then (ok s) f g h = h s
same_then (no r) f g h = refl

within : (w : ListingForm) (i sum : ℕ) (s : List ℕ) → within_limits w i sum s ≡ true → (i < 1024) × (sum + length s ≤ most_characters w)
unfolding within_limits
within w i sum s h =
    let n : ℕ = length s in
    let a = and_true (ltb i 1024) (leb n (widest w) && leb (sum + n) (most_characters w)) h in
    (ltb-true i 1024 a.0, leb-true (sum + n) (most_characters w) (and_true (leb n (widest w)) (leb (sum + n) (most_characters w)) a.1).1)

line_first : (w : ListingForm) (i sum : ℕ) (l : Line) (xs ys : List Line)
    → (i < 1024 → sum + length l.chars ≤ most_characters w → read_lines w (suc i) (sum + length l.chars) xs ≡ read_lines w (suc i) (sum + length l.chars) ys)
    → read_lines w i sum (l ∷ xs) ≡ read_lines w i sum (l ∷ ys)
unfolding read_lines require ◌>>=◌
line_first w i sum l xs ys h = on (within_limits w i sum l.chars) refl (require (well_formed l) (Broken (at_place i)) (read_frame_in w i (unhex l.chars)))
  where
    then : List Line → Stmt → Judged Program
    then zs s = read_lines w (suc i) (sum + length l.chars) zs >>= λ p. ok (s ∷ p)

    on : (b : Bool) → within_limits w i sum l.chars ≡ b → (x : Judged Stmt) → require b (Limit (at_place i)) x >>= then xs ≡ require b (Limit (at_place i)) x >>= then ys
    on true e x = let w = within w i sum l.chars e in same_then x (then xs) (then ys) (λ s. ap (λ (j : Judged Program). j >>= λ p. ok (s ∷ p)) (h w.0 w.1))
    on false e x = refl

-- ---- line by line, from place i on, `sum` characters read before: where the cut leaves more characters than the limits do with a line feed for each
-- statement and one more line, it is not seen
same_lines : (w : ListingForm) (i sum n : ℕ) (xs ys : List Line) → Cut n xs ys → i ≤ 1024 → sum ≤ most_characters w → 1024 + most_characters w + widest w < i + sum + n → read_lines w i sum xs ≡ read_lines w i sum ys
same_lines w i sum n [] ys c h k b = absurd (omega (arith, c))
same_lines w i sum n (x ∷ xs) [] c h k b = absurd c
same_lines w i sum n (x ∷ xs) (y ∷ ys) (inl c) h k b =
    line_first w i sum x xs ys (λ l m. same_lines w (suc i) (sum + length x.chars) c.1 xs ys c.3 (omega arith) m (omega (arith, c.2)))
    ∙ ap (λ (l : Line). read_lines w i sum (l ∷ ys)) c.0
same_lines w i sum n (x ∷ xs) (y ∷ ys) (inr c) h k b =
    wide_line w i sum x xs (omega (arith, c.0)) ∙ sym (wide_line w i sum y ys (omega (arith, c.1)))

-- ---- the whole

-- more characters than the limits of either form do with a mark, a line feed for each statement and one more line
abbrev beyond : ℕ
beyond = 5 + 1024 + 57344 + 248

limits_below : (w : ListingForm) (m n : ℕ) → beyond < n → n ≤ 5 + m → 1024 + most_characters w + widest w < m
limits_below old_form m n h k = omega arith
limits_below new_form m n h k = omega arith

cut_listing : (n : ℕ) (xs ys : List Line) → Cut n xs ys → beyond < n → read_lines (form_in xs) 0 0 (statement_lines xs) ≡ read_lines (form_in ys) 0 0 (statement_lines ys)
cut_listing n [] ys c b = absurd (omega (arith, c))
cut_listing n (x ∷ xs) [] c b = absurd c
cut_listing n (x ∷ xs) (y ∷ ys) (inl c) b =
    on (is_mark x) refl ∙ ap (λ (l : Line). read_lines (form_in (l ∷ ys)) 0 0 (statement_lines (l ∷ ys))) c.0
  where
    on : (t : Bool) → is_mark x ≡ t → read_lines (cond t new_form old_form) 0 0 (cond t xs (x ∷ xs)) ≡ read_lines (cond t new_form old_form) 0 0 (cond t ys (x ∷ ys))
    on true e = same_lines new_form 0 0 c.1 xs ys c.3 (omega arith) (omega arith) (omega (arith, limits_below new_form c.1 n b (omega (arith, c.2, (mark_length x e).0))))
    on false e = same_lines old_form 0 0 n (x ∷ xs) (x ∷ ys) (inl (refl, c.1, c.2, c.3)) (omega arith) (omega arith) (omega (arith, limits_below old_form n n b (omega arith)))
cut_listing n (x ∷ xs) (y ∷ ys) (inr c) b =
    let p : is_mark x ≡ false = plain x (omega (arith, c.0)) in
    let q : is_mark y ≡ false = plain y (omega (arith, c.1)) in
    rw (p, q) (same_lines old_form 0 0 n (x ∷ xs) (y ∷ ys) (inr c) (omega arith) (omega arith) (omega (arith, limits_below old_form n n b (omega arith))))
  where
    plain : (l : Line) → 4 < length l.chars → is_mark l ≡ false
    plain l h = on (is_mark l) refl
      where
        on : (t : Bool) → is_mark l ≡ t → is_mark l ≡ false
        on true e = absurd (omega (arith, (mark_length l e).0))
        on false e = e

cut_reads : (n : ℕ) (text : List ℕ) → beyond < n → n ≤ length text → read_listing (take n text) ≡ read_listing text
unfolding read_listing
cut_reads n text b h = cut_listing n (lines_of (take n text)) (lines_of text) (cut_lines n text h) b

-- 1,024 statements, two characters for each of 28,672 bytes, and the mark
read_short : (text : List ℕ) (p : Program) → read_listing text ≡ ok p → length text ≤ 58373
read_short text p e = let l = read_limits text p e in omega (arith, read_whole text p e, l.0, l.1, room_enough (form_in (lines_of text)))

-- a text that is longer than the buffer is refused, by what the buffer holds
long_refused : (text : List ℕ) → input_room_of_program ≤ length text → (r : Refusal) × (read_listing text ≡ no r) × (read_listing (read_in text) ≡ no r)
long_refused text h = on (read_listing text) refl
  where
    on : (x : Judged Program) → read_listing text ≡ x → (r : Refusal) × (read_listing text ≡ no r) × (read_listing (read_in text) ≡ no r)
    on (ok p) e = absurd (omega (arith, read_short text p e, h))
    on (no r) e = (r, e, cut_reads input_room_of_program text (omega arith) h ∙ e)

-- texts that are refused alike are assembled and run alike
refused_assembled : (s : List ℕ) (r : Refusal) → read_listing s ≡ no r → (image_room : ℕ) → assembled s image_room ≡ no r
unfolding assembled ◌>>=◌
refused_assembled s r e image_room = rw e

refused_run : (s : List ℕ) (r : Refusal) → read_listing s ≡ no r → (asked : Settings) (listing_room image_room : ℕ) → run asked s listing_room image_room ≡ no r
unfolding run ◌>>=◌
refused_run s r e asked listing_room image_room = rw e

-- a property of a text and of what is read in of it: of a short text they are one, and a long text is refused with what is read in
early : (text : List ℕ) (P : List ℕ → List ℕ → Type 0) → ((s : List ℕ) → P s s) → ((s t : List ℕ) (r : Refusal) → read_listing s ≡ no r → read_listing t ≡ no r → P s t) → P (read_in text) text
early text P same refused = on (lt_or_le (length text) input_room_of_program)
  where
    on : (length text < input_room_of_program) ⊎ (input_room_of_program ≤ length text) → P (read_in text) text
    on (inl h) = subst (λ (s : List ℕ). P s text) (sym (take_all input_room_of_program text (omega (arith, h)))) (same text)
    on (inr h) = let l = long_refused text h in refused (read_in text) text l.0 l.2 l.1

-- decided-early: the first 65,536 characters of a text are read, assembled, run and printed as the whole text is
pub decided_early : (text : List ℕ) → DecidedEarly text
unfolding program
decided_early text =
    let runs : (asked : Settings) (listing_room image_room : ℕ) → run asked (read_in text) listing_room image_room ≡ run asked text listing_room image_room =
    λ asked listing_room image_room. early text (λ s t. run asked s listing_room image_room ≡ run asked t listing_room image_room) (λ s. refl)
    (λ s t r d e. refused_run s r d asked listing_room image_room ∙ sym (refused_run t r e asked listing_room image_room)) in
    record {
      short = read_short text;
      reads = early text (λ s t. read_listing s ≡ read_listing t) (λ s. refl) (λ s t r d e. d ∙ sym e);
      assembles = λ image_room. early text (λ s t. assembled s image_room ≡ assembled t image_room) (λ s. refl)
          (λ s t r d e. refused_assembled s r d image_room ∙ sym (refused_assembled t r e image_room));
      runs = runs;
      prints = λ asked. ap (λ (o : Judged Output). printed o) (runs asked listing_room_of_program image_room_of_program);
    }
