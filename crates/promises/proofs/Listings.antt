-- What reading a listing says: each statement is made at its place, the statements and their frames keep the limits, and only 1 and 2 refuse.
use mathlib.Core.Path.{◌≡◌, refl, sym, ◌∙◌, ap}
use mathlib.Core.Logic.{⊎_elim}
use mathlib.Core.List.{List, [], ◌∷◌, map}
use mathlib.Core.Bool.{Bool, true, false, ◌&&◌, cond}
use Prim.Native.Nat.{ℕ, zero, suc, ◌+◌, ◌*◌, ◌%◌, ◌≤◌, ◌<◌, ◌^◌}
use native.Mathlib.Omega.{arith}
use lib.Dec.{leb, ltb, eqb}
use lib.ListN.{length, get_or}
use borrow.Author.Tests.{leb-true, ltb-true, eqb-true, lt-leb}
use Rattle.laws.specs.Lists.{total, every, each, same}
use Rattle.laws.proofs.Tests.{and_true, or_true}
use Rattle.rules.specs.declared.Refusal.{Refusal}
use Rattle.rules.specs.declared.Refusal.TheVariants.{Broken, Limit}
use Rattle.rules.specs.Refusals.{fault_of}
use Rattle.rules.specs.Answers.{at_place, Judged, ok, no, require}
use Rattle.rules.specs.Programs.{Placeℕ, Operand, Stmt, instr, Program, at}
use Rattle.rules.specs.Listing.{Line, onto_line, lines_of, is_digit, digit, unhex, within_limits, well_formed, read_lines, read_listing, ListingForm, old_form, new_form, is_mark, form_in, statement_lines, line_bytes, source_line, widest, most_characters, read_frame_in, beside_of}
use Rattle.rules.specs.Output.{frame_of, line_of, mark_of}
use Rattle.promises.specs.Demand1.{has_number}
use Rattle.promises.specs.Room.{frame_bytes}
use Rattle.laws.proofs.Lists.{same_true}
use Rattle.promises.proofs.Says.{Says, says_ok, says_no, says_less, says_with, says_require, says_bind}
use Rattle.promises.proofs.Parses.{Bytes}
use Rattle.promises.proofs.Sounds.{SoundStmt}
use Rattle.promises.proofs.Frames.{OfReading, made_at, is_plain, FramedIn, frame_read_in}

-- the characters of a line, with its line feed
abbrev line_length : Line → ℕ
line_length l = length l.chars + cond l.ended 1 0

-- two digits a byte
unhex_length : (l : List ℕ) → length l % 2 ≡ 0 → 2 * length (unhex l) ≡ length l
unfolding unhex
unhex_length [] h = refl
unhex_length (c ∷ []) h = absurd (omega arith)
unhex_length (c ∷ d ∷ t) h = omega (arith, unhex_length t (omega arith))

-- and a byte is what they say
digit_below : (c : ℕ) → is_digit c ≡ true → digit c < 16
digit_below c h = ⊎_elim (λ a. low (and_true (leb 48 c) (leb c 57) a).1) (λ a. high (and_true (leb 65 c) (leb c 70) a)) (or_true (leb 48 c && leb c 57) (leb 65 c && leb c 70) h)
  where
    low : leb c 57 ≡ true → digit c < 16
    low t = rw t (omega (arith, leb-true c 57 t))

    high : (leb 65 c ≡ true) × (leb c 70 ≡ true) → digit c < 16
    high t = rw (lt-leb c 57 (omega (arith, leb-true 65 c t.0))) (omega (arith, leb-true c 70 t.1))

unhex_bytes : (l : List ℕ) → every (λ c. is_digit c) l ≡ true → Bytes (unhex l)
unfolding unhex every
unhex_bytes [] h i = omega arith
unhex_bytes (c ∷ []) h i = omega arith
unhex_bytes (c ∷ d ∷ t) h zero =
    let a = and_true (is_digit c) (is_digit d && every (λ c. is_digit c) t) h in
    let b = and_true (is_digit d) (every (λ c. is_digit c) t) a.1 in
    omega (arith, digit_below c a.0, digit_below d b.0)
unhex_bytes (c ∷ d ∷ t) h (suc i) =
    unhex_bytes t (and_true (is_digit d) (every (λ c. is_digit c) t) (and_true (is_digit c) (is_digit d && every (λ c. is_digit c) t) h).1).1 i

-- no character is lost between the lines
lines_length : (text : List ℕ) → total line_length (lines_of text) ≡ length text
unfolding total lines_of
lines_length [] = refl
lines_length (c ∷ t) = on (eqb c 10) (lines_of t) (lines_length t)
  where
    on : (b : Bool) (ls : List Line) → total line_length ls ≡ length t → total line_length (cond b (record { chars = []; ended = true } ∷ ls) (onto_line c ls)) ≡ suc (length t)
    on true ls e = omega arith
    on false [] e = omega arith
    on false (l ∷ ls) e = omega arith

-- ---- C-20: the bytes of a statement's line in a listing of form w, and source lines that fit their four bytes
abbrev pub line_room : ListingForm → Stmt → ℕ
line_room w s = frame_bytes s + line_bytes w

abbrev pub LineFits : ListingForm → ℕ → Type 0
LineFits old_form n = n ≡ 0
LineFits new_form n = n < 2 ^ 32

pub zero_fits : (w : ListingForm) → LineFits w 0
zero_fits old_form = refl
zero_fits new_form = omega arith

source_fits : (w : ListingForm) (s : List ℕ) → Bytes s → LineFits w (source_line w s)
source_fits old_form s b = refl
source_fits new_form s b = omega (arith, b 1, b 2, b 3, b 4)

abbrev sources_of : ListingForm → List Line → List ℕ
sources_of w ls = map (λ l. source_line w (unhex l.chars)) ls

-- ---- line by line: the first statement is at place i, and `sum` characters were read before
pub record Listed (w : ListingForm) (i sum : ℕ) (ls : List Line) (p : Program) : Type 0 where
  pub made : (j : Placeℕ) → made_at (i + j) (at p j) ≡ true
  pub sound : (j : Placeℕ) → SoundStmt (at p j)
  pub short : (j : Placeℕ) → frame_bytes (at p j) ≤ 120
  pub count : i + length p ≤ 1024
  pub room : sum + 2 * total (line_room w) p ≤ most_characters w
  pub whole : total line_length ls ≡ 2 * total (line_room w) p + length p
  pub sources : (j : Placeℕ) → LineFits w (get_or (sources_of w ls) j 0)

listed_nil : (w : ListingForm) (i sum : ℕ) → i ≤ 1024 → sum ≤ most_characters w → Listed w i sum [] []
unfolding total frame_of
listed_nil w i sum h k =
    record { made = λ j. refl; sound = λ j. tt; short = λ j. omega arith; count = omega arith; room = omega arith; whole = refl; sources = λ j. zero_fits w }

-- what the limits say of a line
record Line-ok (w : ListingForm) (i sum : ℕ) (l : Line) : Type 0 where
  early : i < 1024
  narrow : length l.chars ≤ widest w
  digits : every (λ c. is_digit c) l.chars ≡ true
  short : sum + length l.chars ≤ most_characters w
  even : 2 * length (unhex l.chars) ≡ length l.chars
  full : line_length l ≡ suc (2 * length (unhex l.chars))

line_ok : (w : ListingForm) (i sum : ℕ) (l : Line) → within_limits w i sum l.chars ≡ true → well_formed l ≡ true → Line-ok w i sum l
unfolding within_limits well_formed
line_ok w i sum l h k =
    let n : ℕ = length l.chars in
    let a = and_true (ltb i 1024) (leb n (widest w) && leb (sum + n) (most_characters w)) h in
    let b = and_true (leb n (widest w)) (leb (sum + n) (most_characters w)) a.1 in
    let c = and_true (every (λ c. is_digit c) l.chars) (eqb (n % 2) 0 && l.ended) k in
    let d = and_true (eqb (n % 2) 0) l.ended c.1 in
    let e = unhex_length l.chars (eqb-true (n % 2) 0 d.0) in
    record {
      early = ltb-true i 1024 a.0;
      narrow = leb-true n (widest w) b.0;
      digits = c.0;
      short = leb-true (sum + n) (most_characters w) b.1;
      even = e;
      full = rw d.1 (omega arith);
    }

-- one line of a listing, at place i
abbrev read_line : (w : ListingForm) (i sum : ℕ) → Line → Judged Stmt
read_line w i sum l = require (within_limits w i sum l.chars) (Limit (at_place i)) (require (well_formed l) (Broken (at_place i)) (read_frame_in w i (unhex l.chars)))

abbrev LineRead : (w : ListingForm) (i sum : ℕ) → Line → Stmt → Type 0
LineRead w i sum l s = Line-ok w i sum l × FramedIn w i (unhex l.chars) s

line_says : (w : ListingForm) (i sum : ℕ) (l : Line) → Says (LineRead w i sum l) (OfReading i) (read_line w i sum l)
line_says w i sum l =
    says_require (LineRead w i sum l) (OfReading i) (within_limits w i sum l.chars) (Limit (at_place i)) _ (refl, refl) (λ a.
    says_require (LineRead w i sum l) (OfReading i) (well_formed l) (Broken (at_place i)) (read_frame_in w i (unhex l.chars)) (refl, refl) (λ b.
    says_with (FramedIn w i (unhex l.chars)) (OfReading i) (line_ok w i sum l a b) (read_frame_in w i (unhex l.chars)) (frame_read_in w i (unhex l.chars))))

-- a line that is refused is named
pub line_names : (w : ListingForm) (i sum : ℕ) (l : Line) (r : Refusal) → read_line w i sum l ≡ no r → (fault_of r).place ≡ i
line_names w i sum l r e = (says_no (LineRead w i sum l) (OfReading i) (read_line w i sum l) r (line_says w i sum l) e).1

listed_cons : (w : ListingForm) (i sum : ℕ) (l : Line) (ls : List Line) (s : Stmt) (p : Program) → LineRead w i sum l s → Listed w (suc i) (sum + length l.chars) ls p → Listed w i sum (l ∷ ls) (s ∷ p)
unfolding total
listed_cons w i sum l ls s p (k, f) y =
    record {
      made = made;
      sound = sound;
      short = short;
      count = omega (arith, y.count);
      room = omega (arith, y.room, f.as_long, k.even);
      whole = omega (arith, y.whole, f.as_long, k.full);
      sources = sources;
    }
  where
    made : (j : Placeℕ) → made_at (i + j) (at (s ∷ p) j) ≡ true
    made zero = let z : i + 0 ≡ i = omega arith in rw z f.made
    made (suc j) = let z : i + suc j ≡ suc i + j = omega arith in rw z (y.made j)

    bytes : Bytes (unhex l.chars)
    bytes = unhex_bytes l.chars k.digits

    sound : (j : Placeℕ) → SoundStmt (at (s ∷ p) j)
    sound zero = f.sound bytes
    sound (suc j) = y.sound j

    short : (j : Placeℕ) → frame_bytes (at (s ∷ p) j) ≤ 120
    short zero = omega (arith, f.as_long, k.narrow, k.even)
    short (suc j) = y.short j

    sources : (j : Placeℕ) → LineFits w (get_or (sources_of w (l ∷ ls)) j 0)
    sources zero = source_fits w (unhex l.chars) bytes
    sources (suc j) = y.sources j

-- whichever line it was
abbrev OneOrTwo : Refusal → Type 0
OneOrTwo r = has_number (1 ∷ 2 ∷ []) r ≡ true

lines_read : (w : ListingForm) (i sum : ℕ) (ls : List Line) → i ≤ 1024 → sum ≤ most_characters w → Says (Listed w i sum ls) OneOrTwo (read_lines w i sum ls)
unfolding read_lines
lines_read w i sum [] h k = listed_nil w i sum h k
lines_read w i sum (l ∷ ls) h k =
    let n : ℕ = length l.chars in
    says_bind (LineRead w i sum l) (Listed w i sum (l ∷ ls)) OneOrTwo (read_line w i sum l) _
    (says_less (LineRead w i sum l) (OfReading i) OneOrTwo (λ r h. h.0) (read_line w i sum l) (line_says w i sum l))
    (λ s x. says_bind (Listed w (suc i) (sum + n) ls) (Listed w i sum (l ∷ ls)) OneOrTwo (read_lines w (suc i) (sum + n) ls) _
    (lines_read w (suc i) (sum + n) ls (omega (arith, x.0.early)) x.0.short)
    (λ p y. listed_cons w i sum l ls s p x y))

-- ---- the whole

abbrev Reading : List ℕ → Program → Type 0
Reading text p = Listed (form_in (lines_of text)) 0 0 (statement_lines (lines_of text)) p

listing_says : (text : List ℕ) → Says (Reading text) OneOrTwo (read_listing text)
unfolding read_listing
listing_says text = lines_read (form_in (lines_of text)) 0 0 (statement_lines (lines_of text)) (omega arith) (omega arith)

listing_read : (text : List ℕ) (p : Program) → read_listing text ≡ ok p → Reading text p
listing_read text p e = says_ok (Reading text) OneOrTwo (read_listing text) p (listing_says text) e

-- a program that was read: each statement is made at its place, is one that a frame can say, and its frame has 120 bytes at most
pub record WellMade (p : Program) : Type 0 where
  pub made : (i : Placeℕ) → made_at i (at p i) ≡ true
  pub sound : (i : Placeℕ) → SoundStmt (at p i)
  pub short : (i : Placeℕ) → frame_bytes (at p i) ≤ 120

-- a program that was read is so
pub read_made : (text : List ℕ) (p : Program) → read_listing text ≡ ok p → WellMade p
read_made text p e =
    let h = listing_read text p e in
    record { made = λ i. let z : 0 + i ≡ i = omega arith in rw z at (h.made i); sound = h.sound; short = h.short }

-- "At most 1,024 statements, .. 24,576 frame bytes in all", or as C-20 has it, by the frames that writing gives back
pub read_limits : (text : List ℕ) (p : Program) → read_listing text ≡ ok p → (length p ≤ 1024) × (2 * total (line_room (form_in (lines_of text))) p ≤ most_characters (form_in (lines_of text)))
read_limits text p e =
    let h = listing_read text p e in
    (omega (arith, h.count), omega (arith, h.room))

-- each source line fits
pub read_sources : (text : List ℕ) (p : Program) → read_listing text ≡ ok p → (i : Placeℕ) → LineFits (beside_of text).form (get_or (beside_of text).lines i 0)
unfolding beside_of
read_sources text p e = (listing_read text p e).sources

-- a mark has five characters
pub mark_length : (l : Line) → is_mark l ≡ true → (length l.chars ≡ 4) × (line_length l ≡ 5)
mark_length l e =
    let t = and_true (same l.chars (55 ∷ 68 ∷ 48 ∷ 50 ∷ [])) l.ended e in
    let n : length l.chars ≡ 4 = ap length (same_true l.chars (55 ∷ 68 ∷ 48 ∷ 50 ∷ []) t.0) in
    (n, rw t.1 (omega arith))

marks_length : (ls : List Line) → total line_length ls ≡ length (mark_of (form_in ls)) + total line_length (statement_lines ls)
unfolding total line_of each
marks_length [] = refl
marks_length (l ∷ ls) = on (is_mark l) refl
  where
    on : (b : Bool) → is_mark l ≡ b → line_length l + total line_length ls ≡ length (mark_of (cond b new_form old_form)) + total line_length (cond b ls (l ∷ ls))
    on true e = omega (arith, (mark_length l e).1)
    on false e = omega arith

-- two characters a byte and a line feed a statement, behind the mark, are the whole text
pub read_whole : (text : List ℕ) (p : Program) → read_listing text ≡ ok p
    → length text ≡ length (mark_of (form_in (lines_of text))) + (2 * total (line_room (form_in (lines_of text))) p + length p)
read_whole text p e =
    let h = listing_read text p e in
    omega (arith, h.whole, lines_length text, marks_length (lines_of text))

-- only 1 and 2 are reading's
pub read_refuses : (text : List ℕ) (r : Refusal) → read_listing text ≡ no r → has_number (1 ∷ 2 ∷ []) r ≡ true
read_refuses text r e = says_no (Reading text) OneOrTwo (read_listing text) r (listing_says text) e

-- what a made instruction has: its own place, and no inner label
pub made_instr : (p : Program) → WellMade p → (i : Placeℕ) (f : ℕ) (xs : List Operand) (c : Placeℕ) → at p i ≡ instr f xs c → (c ≡ i) × (every is_plain xs ≡ true)
made_instr p w i f xs c e =
    let h = and_true (eqb c i) (every is_plain xs) (ap (made_at i) (sym e) ∙ w.made i) in
    (eqb-true c i h.0, h.1)
