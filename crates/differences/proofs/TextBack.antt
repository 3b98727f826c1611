-- Lines 70 to 73 determine the differences: read again from the bytes that were handed out, the text gives each of them.
use mathlib.Core.Path.{◌≡◌, refl, sym, ap, ap₂, ◌∙◌}
use mathlib.Core.List.{List, [], ◌∷◌, ◌++◌, map, append_assoc}
use mathlib.Core.Logic.{⊎_elim}
use mathlib.Core.Bool.{Bool, true, false, ◌&&◌}
use Prim.Native.Nat.{ℕ, zero, suc, ◌+◌, ◌*◌, ◌/◌, ◌%◌, ◌≤◌, ◌<◌}
use native.Mathlib.Omega.{arith}
use lib.Dec.{eqb, leb, ltb}
use lib.ListN.{length, get_or, take, drop}
use lib.Seq.{take_at, drop_at}
use borrow.Author.Tests.{eqb-true, leb-true, ltb-true, lt-ltb, ne_eqb}
use Rattle.laws.specs.Lists.{every, each}
use Rattle.laws.specs.Counts.{all_to}
use Rattle.laws.proofs.Lists.{every_append}
use Rattle.laws.proofs.Tests.{and_true, and_both}
use Rattle.rules.specs.Answers.{ok}
use Rattle.rules.specs.Programs.{Program}
use Rattle.rules.specs.Listing.{Line, lines_of, statement_lines, is_digit, digit, unhex, read_listing}
use Rattle.rules.specs.Output.{hex_digit, hex_byte, line_of}
use Rattle.instruction.proofs.Entries.{holds_at}
use Rattle.listing.proofs.DigitPairs.{digit_range, length_unhex}
use Rattle.pairing.specs.Pairings.{Frame, Frames, frames_of}
use Rattle.pairing.specs.Lines.{chars_of, line_in}
use Rattle.pairing.proofs.Accepted.{accepted_lines, length_map}
use Rattle.pairing.proofs.Frames.{frame_at}
use Rattle.differences.specs.Changes.{Change, kept, removed, added, changed, bytes_of, text_of, change_in, changes_in}
use Rattle.differences.specs.Promise.{Entry, in_first, in_second, entries_from, SaysBoth}

abbrev is_byte : ℕ → Bool
is_byte b = ltb b 256

-- ---- a byte's digits, each of sixteen
digit_back : (d : ℕ) → d < 16 → digit (hex_digit d) ≡ d
unfolding all_to
digit_back d l = eqb-true (digit (hex_digit d)) d (holds_at (λ k. eqb (digit (hex_digit k)) k) 16 tt d l)

no_feed : (d : ℕ) → d < 16 → eqb (hex_digit d) 10 ≡ false
unfolding all_to
no_feed d l = let h = leb-true 48 (hex_digit d) (holds_at (λ k. leb 48 (hex_digit k)) 16 tt d l) in ne_eqb (hex_digit d) 10
    (λ z. omega arith)

low_digit : (c : ℕ) → is_digit c ≡ true → digit c < 16
unfolding all_to
low_digit c h = ltb-true (digit c) 16 (holds_at (λ k. ltb (digit k) 16) 71 tt c (⊎_elim (λ r. omega (arith, r.1)) (λ r. omega (arith, r.1))
    (digit_range c h)))

-- ---- a line of bytes, read again
byte_first : (b : ℕ) (s : List ℕ) → every is_byte (b ∷ s) ≡ true → (b < 256) × (every is_byte s ≡ true)
unfolding every
byte_first b s h = let t = and_true (is_byte b) (every is_byte s) h in (ltb-true b 256 t.0, t.1)

unhex_back : (s : List ℕ) → every is_byte s ≡ true → unhex (each (λ b. hex_byte b) s) ≡ s
unfolding each unhex
unhex_back [] h = refl
unhex_back (b ∷ s) h =
    let t = byte_first b s h in
    let z : b / 16 * 16 + b % 16 ≡ b = omega arith in
    rw (digit_back (b / 16) (omega (arith, t.0)), digit_back (b % 16) (omega arith), z, unhex_back s t.1)

ended_line : (s t : List ℕ) → every is_byte s ≡ true
    → lines_of (each (λ b. hex_byte b) s ++ (10 ∷ t)) ≡ record { chars = each (λ b. hex_byte b) s; ended = true } ∷ lines_of t
unfolding each lines_of
ended_line [] t h = refl
ended_line (b ∷ s) t h =
    let k = byte_first b s h in
    rw (no_feed (b / 16) (omega (arith, k.0)), no_feed (b % 16) (omega arith), ended_line s t k.1)

line_back : (s t : List ℕ) → every is_byte s ≡ true → lines_of (line_of s ++ t) ≡
    record {
      chars = each (λ b. hex_byte b) s;
      ended = true;
    } ∷ lines_of t
unfolding line_of
line_back s t h = ap lines_of (append_assoc (each (λ b. hex_byte b) s) (10 ∷ []) t) ∙ ended_line s t h

-- ---- one change, and all
two_back : (i : ℕ) → i / 256 * 256 + i % 256 ≡ i
two_back i = omega arith

change_back : (d : Change) → change_in (bytes_of d) ≡ d
unfolding change_in
change_back (kept i j f) = ap₂ (λ (x y : ℕ). kept x y f) (two_back i) (two_back j)
change_back (removed i f) = ap (λ (x : ℕ). removed x f) (two_back i)
change_back (added j f) = ap (λ (x : ℕ). added x f) (two_back j)
change_back (changed i j old new) =
    ap₂ (λ (x y : ℕ). changed x y (take (length old) (old ++ new)) (drop (length old) (old ++ new))) (two_back i) (two_back j)
    ∙ ap₂ (changed i j) (take_at old new (length old) refl) (drop_at old new (length old) refl)

abbrev sayable : Change → Bool
sayable d = every is_byte (bytes_of d)

pub changes_back : (ds : List Change) → every sayable ds ≡ true → changes_in (text_of ds) ≡ ds
unfolding changes_in text_of each every lines_of
changes_back [] h = refl
changes_back (d ∷ ds) h =
    let k = and_true (sayable d) (every sayable ds) h in
    ap (map (λ (l : Line). change_in (unhex l.chars))) (line_back (bytes_of d) (text_of ds) k.0)
    ∙ ap₂ (λ (x : Change) (l : List Change). x ∷ l) (ap change_in (unhex_back (bytes_of d) k.0) ∙ change_back d) (changes_back ds k.1)

-- ---- statements of a listing: places below 65,536, frames of fewer than 256 bytes
abbrev sound_entry : Entry → Bool
sound_entry e = ltb e.place 65536 && (ltb (length e.frame) 256 && every is_byte e.frame)

record Sound (i : ℕ) (f : Frame) : Type 0 where
  place : i < 65536
  short : length f < 256
  bytes : every is_byte f ≡ true

sound_is : (i : ℕ) (f : Frame) → every sound_entry (record { place = i; frame = f } ∷ []) ≡ true → Sound i f
unfolding every
sound_is i f h =
    let a = and_true (ltb i 65536 && (ltb (length f) 256 && every is_byte f)) true h in
    let b = and_true (ltb i 65536) (ltb (length f) 256 && every is_byte f) a.0 in
    let c = and_true (ltb (length f) 256) (every is_byte f) b.1 in
    record { place = ltb-true i 65536 b.0; short = ltb-true (length f) 256 c.0; bytes = c.1 }

high : (i : ℕ) → i < 65536 → ltb (i / 256) 256 ≡ true
high i l = lt-ltb (i / 256) 256 (omega arith)

low : (i : ℕ) → ltb (i % 256) 256 ≡ true
low i = lt-ltb (i % 256) 256 (omega arith)

sayable_is : (d : Change) → every sound_entry (in_first d) ≡ true → every sound_entry (in_second d) ≡ true → sayable d ≡ true
unfolding every
sayable_is (kept i j f) h k =
    let a = sound_is i f h in
    let b = sound_is j f k in
    rw (high i a.place, low i, high j b.place, low j, a.bytes)
sayable_is (removed i f) h k = let a = sound_is i f h in rw (high i a.place, low i, a.bytes)
sayable_is (added j f) h k = let b = sound_is j f k in rw (high j b.place, low j, b.bytes)
sayable_is (changed i j old new) h k =
    let a = sound_is i old h in
    let b = sound_is j new k in
    rw (high i a.place, low i, high j b.place, low j, lt-ltb (length old) 256 a.short, every_append is_byte old new, a.bytes, b.bytes)

all_sayable : (ds : List Change) → every sound_entry (each (λ d. in_first d) ds) ≡ true → every sound_entry (each (λ d. in_second d) ds)
    ≡ true
    → every sayable ds ≡ true
unfolding every each
all_sayable [] h k = refl
all_sayable (d ∷ ds) h k =
    let a = and_true (every sound_entry (in_first d)) _ (sym (every_append sound_entry (in_first d) (each (λ d. in_first d) ds)) ∙ h) in
    let b = and_true (every sound_entry (in_second d)) _ (sym (every_append sound_entry (in_second d) (each (λ d. in_second d) ds)) ∙ k) in
    and_both (sayable d) (every sayable ds) (sayable_is d a.0 b.0) (all_sayable ds a.1 b.1)

-- ---- of an accepted listing
unhex_bytes : (l : List ℕ) → every (λ c. is_digit c) l ≡ true → every is_byte (unhex l) ≡ true
unfolding every unhex
unhex_bytes [] h = refl
unhex_bytes (c ∷ []) h = refl
unhex_bytes (c ∷ d ∷ l) h =
    let p = and_true (is_digit c) _ h in
    let q = and_true (is_digit d) (every (λ c. is_digit c) l) p.1 in
    and_both (is_byte (digit c * 16 + digit d)) (every is_byte (unhex l))
    (lt-ltb (digit c * 16 + digit d) 256 (omega (arith, low_digit c p.0, low_digit d q.0))) (unhex_bytes l q.1)

entries_sound : (a : Frames) → ((k : ℕ) → k < length a → Sound 0 (get_or a k [])) → length a ≤ 1024 → (n i : ℕ) → i + n ≤ length a
    → every sound_entry (entries_from a n i) ≡ true
unfolding every entries_from
entries_sound a h few zero i l = refl
entries_sound a h few (suc n) i l =
    let s = h i (omega arith) in
    and_both (sound_entry (record { place = i; frame = get_or a i [] })) (every sound_entry (entries_from a n (suc i)))
    (and_both (ltb i 65536) (ltb (length (get_or a i [])) 256 && every is_byte (get_or a i [])) (lt-ltb i 65536 (omega arith))
    (and_both (ltb (length (get_or a i [])) 256) (every is_byte (get_or a i [])) (lt-ltb (length (get_or a i [])) 256 s.short) s.bytes))
    (entries_sound a h few n (suc i) (omega arith))

pub count_frames : (text : List ℕ) → length (frames_of text) ≡ length (chars_of text)
unfolding frames_of chars_of
count_frames text = length_map (λ l. unhex l.chars) (statement_lines (lines_of text))
    ∙ sym (length_map (λ l. l.chars) (statement_lines (lines_of text)))

listing_sound : (text : List ℕ) (p : Program) → read_listing text ≡ ok p → every sound_entry
    (entries_from (frames_of text) (length (frames_of text)) 0) ≡ true
listing_sound text p e =
    let a = accepted_lines text p e in
    let n = count_frames text in
    entries_sound (frames_of text) one (omega (arith, n, a.few)) (length (frames_of text)) 0 (omega arith)
  where
    one : (k : ℕ) → k < length (frames_of text) → Sound 0 (get_or (frames_of text) k [])
    one k l =
        let w = (accepted_lines text p e).written k (omega (arith, count_frames text)) in
        let f = frame_at text k in
        record {
          place = omega arith;
          short = rw f (omega (arith, length_unhex (line_in text k), w.short));
          bytes = rw f (unhex_bytes (line_in text k) w.digits);
        }

-- text-back: of two accepted listings
pub text_back : (first second : List ℕ) (p q : Program) → read_listing first ≡ ok p → read_listing second ≡ ok q → (ds : List Change)
    → SaysBoth (frames_of first) (frames_of second) ds → changes_in (text_of ds) ≡ ds
text_back first second p q e f ds both =
    changes_back ds
    (all_sayable ds (ap (every sound_entry) both.first ∙ listing_sound first p e) (ap (every sound_entry) both.second ∙ listing_sound
    second q f))
