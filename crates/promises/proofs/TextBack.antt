-- Text that is written is read as the frames that it was written for: digits, lines, and the listing within its limits.
use mathlib.Core.Path.{◌≡◌, refl, ◌∙◌, ap, sym}
use mathlib.Core.Logic.{⊎_elim}
use mathlib.Core.List.{List, [], ◌∷◌, ◌++◌, append_assoc, map}
use mathlib.Core.Bool.{true, false}
use Prim.Native.Nat.{ℕ, suc, ◌+◌, ◌*◌, ◌/◌, ◌%◌, ◌≤◌, ◌<◌}
use native.Mathlib.Omega.{arith}
use lib.Dec.{leb, ltb, eqb}
use lib.ListN.{length, get_or, drop}
use borrow.Author.Tests.{ltb-true, le-leb, lt-leb, lt-ltb, le-ltb, eq-eqb, ne_eqb}
use Rattle.laws.specs.Lists.{total, every, each, same}
use Rattle.laws.proofs.Tests.{and_true, and_both, lt_or_le, true_false}
use Rattle.rules.specs.Answers.{ok, ◌>>=◌, require}
use Rattle.rules.specs.Programs.{Stmt, Program, is_gone, Placeℕ, gone, instr, label, variable, comment, org, bytes, words, pad, kind_of}
use Rattle.rules.specs.Listing.{Line, lines_of, is_digit, digit, unhex, within_limits, well_formed, read_lines, read_frame, read_new, read_frame_in, ListingForm, old_form, new_form, is_mark, form_in, statement_lines, source_line, widest, most_characters, Beside}
use Rattle.rules.specs.Output.{frame_of, hex_digit, hex_byte, line_of, text_of, with_line, frame_in, lines_in, mark_of, lines_from}
use Rattle.promises.specs.Demand2.{own, own_from}
use Rattle.promises.specs.Room.{frame_bytes}
use Rattle.rules.specs.Expressions.{four}
use lib.Seq.{get_or-drop}
use Rattle.promises.proofs.Listings.{line_room, LineFits}
use Rattle.promises.proofs.RoundTrip.{is_byte, AllBytes, four_back, cons_bytes}
use Rattle.promises.proofs.Sounds.{SoundStmt}
use Rattle.promises.proofs.Compacts.{plain_stmt}
use Rattle.promises.proofs.FramesBack.{frame_back, frame_bytes_lem}
use Rattle.promises.proofs.OutputRoom.{digits_length}

-- ---- digits
record Hex (d : ℕ) : Type 0 where
  is_digit_lem : is_digit (hex_digit d) ≡ true
  worth : digit (hex_digit d) ≡ d
  no_feed : eqb (hex_digit d) 10 ≡ false

hex : (d : ℕ) → d < 16 → Hex d
hex d h = ⊎_elim low high (lt_or_le d 10)
  where
    low : d < 10 → Hex d
    low l =
        let e = lt-ltb d 10 l in
        record {
          is_digit_lem = rw (e, le-leb 48 (48 + d) (omega arith), le-leb (48 + d) 57 (omega arith));
          worth = rw (e, le-leb (48 + d) 57 (omega arith)) (omega arith);
          no_feed = rw e (ne_eqb (48 + d) 10 (λ z. omega arith));
        }

    high : 10 ≤ d → Hex d
    high l =
        let e = le-ltb d 10 l in
        record {
          is_digit_lem = rw (e, le-leb 48 (55 + d) (omega arith), lt-leb (55 + d) 57 (omega arith), le-leb 65 (55 + d) (omega arith), le-leb (55 + d) 70 (omega arith));
          worth = rw (e, lt-leb (55 + d) 57 (omega arith)) (omega arith);
          no_feed = rw e (ne_eqb (55 + d) 10 (λ z. omega arith));
        }

-- a byte of a list of bytes, and the rest
byte_first : (b : ℕ) (s : List ℕ) → AllBytes (b ∷ s) → (b < 256) × AllBytes s
unfolding every
byte_first b s h = let t = and_true (is_byte b) (every is_byte s) h in (ltb-true b 256 t.0, t.1)

abbrev digits_of : List ℕ → List ℕ
digits_of s = each (λ b. hex_byte b) s

digits_are : (s : List ℕ) → AllBytes s → every (λ c. is_digit c) (digits_of s) ≡ true
unfolding each every
digits_are [] h = refl
digits_are (b ∷ s) h =
    let t = byte_first b s h in
    let x = hex (b / 16) (omega (arith, t.0)) in
    let y = hex (b % 16) (omega arith) in
    rw (x.is_digit_lem, y.is_digit_lem) (digits_are s t.1)

unhex_back : (s : List ℕ) → AllBytes s → unhex (digits_of s) ≡ s
unfolding each unhex
unhex_back [] h = refl
unhex_back (b ∷ s) h =
    let t = byte_first b s h in
    let x = hex (b / 16) (omega (arith, t.0)) in
    let y = hex (b % 16) (omega arith) in
    let z : b / 16 * 16 + b % 16 ≡ b = omega arith in
    rw (x.worth, y.worth, z, unhex_back s t.1)

-- ---- lines
line_back : (s t : List ℕ) → AllBytes s → lines_of (digits_of s ++ (10 ∷ t)) ≡ record { chars = digits_of s; ended = true } ∷ lines_of t
unfolding each lines_of
line_back [] t h = refl
line_back (b ∷ s) t h =
    let k = byte_first b s h in
    let x = hex (b / 16) (omega (arith, k.0)) in
    let y = hex (b % 16) (omega arith) in
    rw (x.no_feed, y.no_feed, line_back s t k.1)

-- ---- statements that a listing can hold
pub record Writable (s : Stmt) : Type 0 where
  pub sound : SoundStmt s
  pub plain : plain_stmt s ≡ true
  pub live : is_gone s ≡ false
  pub short : frame_bytes s ≤ 120

abbrev pub AllWritable : Program → Type 0
AllWritable [] = Unit
AllWritable (s ∷ p) = Writable s × AllWritable p

even : (n : ℕ) → 2 * n % 2 ≡ 0
even n = omega arith

-- ---- C-20: frames with their source lines

-- a statement that is not gone has a kind byte
live_frame : (s : Stmt) → is_gone s ≡ false → (t : List ℕ) × (frame_of s ≡ kind_of s ∷ t)
unfolding frame_of
live_frame gone e = true_false e
live_frame (instr f xs c) e = (_, refl)
live_frame (label n) e = (_, refl)
live_frame (variable n d) e = (_, refl)
live_frame (comment x) e = (_, refl)
live_frame (org l) e = (_, refl)
live_frame (bytes es) e = (_, refl)
live_frame (words es) e = (_, refl)
live_frame (pad add m) e = (_, refl)

module _ (n : ℕ) (i : Placeℕ) (s : Stmt) (v : Writable s) where
  -- the frame without its source line is the old form's
  frame_in_back : (w : ListingForm) → read_frame_in w i (frame_in w n s) ≡ ok (own i s)
  unfolding require
  frame_in_back old_form = frame_back i s v.sound v.plain v.live
  frame_in_back new_form =
      let t = live_frame s v.live in
      let old : read_frame i (kind_of s ∷ t.0) ≡ ok (own i s) = ap (read_frame i) (sym t.1) ∙ frame_back i s v.sound v.plain v.live in
      ap (λ (f : List ℕ). read_new i (with_line n f)) t.1
      ∙ rw (le-leb 4 (length (four n ++ t.0)) (omega arith)) old

  -- and its source line is the one that was put there
  source_back : (w : ListingForm) → LineFits w n → source_line w (frame_in w n s) ≡ n
  source_back old_form h = sym h
  source_back new_form h = let t = live_frame s v.live in ap (λ (f : List ℕ). source_line new_form (with_line n f)) t.1 ∙ four_back n h

  -- all are bytes
  frame_in_bytes : (w : ListingForm) → LineFits w n → AllBytes (frame_in w n s)
  frame_in_bytes old_form h = frame_bytes_lem s v.sound
  frame_in_bytes new_form h =
      let t = live_frame s v.live in
      let b : AllBytes (kind_of s ∷ t.0) = rw t.1 at (frame_bytes_lem s v.sound) in
      let k = byte_first (kind_of s) t.0 b in
      rw t.1 (cons_bytes (kind_of s) (four n ++ t.0) k.0
      (cons_bytes (n / 16777216) (n / 65536 % 256 ∷ n / 256 % 256 ∷ n % 256 ∷ t.0) (omega (arith, h))
      (cons_bytes (n / 65536 % 256) (n / 256 % 256 ∷ n % 256 ∷ t.0) (omega arith)
      (cons_bytes (n / 256 % 256) (n % 256 ∷ t.0) (omega arith)
      (cons_bytes (n % 256) t.0 (omega arith) k.1)))))

  frame_in_length : (w : ListingForm) → length (frame_in w n s) ≡ line_room w s
  frame_in_length old_form = omega arith
  frame_in_length new_form =
      let t = live_frame s v.live in
      let a : length (frame_of s) ≡ suc (length t.0) = ap length t.1 in
      let b : length (with_line n (frame_of s)) ≡ length (kind_of s ∷ (four n ++ t.0)) = ap (λ (f : List ℕ). length (with_line n f)) t.1 in
      omega (arith, a, b)

abbrev written_line : ListingForm → ℕ → Stmt → Line
written_line w n s = record { chars = digits_of (frame_in w n s); ended = true }

-- source lines that fit, one by one
abbrev AllFit : ListingForm → List ℕ → Type 0
AllFit w ns = (j : ℕ) → LineFits w (get_or ns j 0)

fit_rest : (w : ListingForm) (ns : List ℕ) → AllFit w ns → AllFit w (drop 1 ns)
fit_rest w ns h j = rw (get_or-drop 1 ns j 0) (h (1 + j))

-- the lines of what is written
lines_back : (w : ListingForm) (ns : List ℕ) (s : Stmt) (p : Program) → Writable s → LineFits w (get_or ns 0 0)
    → lines_of (lines_in w ns (s ∷ p)) ≡ written_line w (get_or ns 0 0) s ∷ lines_of (lines_in w (drop 1 ns) p)
unfolding lines_in line_of
lines_back w ns s p v h =
    let f : List ℕ = frame_in w (get_or ns 0 0) s in
    rw (append_assoc (digits_of f) (10 ∷ []) (lines_in w (drop 1 ns) p)) (line_back f (lines_in w (drop 1 ns) p) (frame_in_bytes (get_or ns 0 0) 0 s v w h))

-- a written line is within the limits, well formed, and reads as its statement
module _ (w : ListingForm) (n : ℕ) (i sum : ℕ) (s : Stmt) (v : Writable s) (l : LineFits w n) where
  abbrev digits_in : List ℕ
  digits_in = digits_of (frame_in w n s)

  digits_many : length digits_in ≡ 2 * line_room w s
  digits_many = digits_length (frame_in w n s) ∙ ap (λ (m : ℕ). 2 * m) (frame_in_length n i s v w)

  line_within : i < 1024 → sum + 2 * line_room w s ≤ most_characters w → within_limits w i sum digits_in ≡ true
  unfolding within_limits
  line_within h k =
      and_both (ltb i 1024) _ (lt-ltb i 1024 h)
      (and_both (leb (length digits_in) (widest w)) (leb (sum + length digits_in) (most_characters w)) (le-leb (length digits_in) (widest w) (omega (arith, v.short, digits_many)))
      (le-leb (sum + length digits_in) (most_characters w) (omega (arith, k, digits_many))))

  line_formed : well_formed (written_line w n s) ≡ true
  unfolding well_formed
  line_formed =
      and_both (every (λ c. is_digit c) digits_in) _ (digits_are (frame_in w n s) (frame_in_bytes n i s v w l))
      (and_both (eqb (length digits_in % 2) 0) true (eq-eqb _ 0 (ap (λ (m : ℕ). m % 2) digits_many ∙ even (line_room w s))) refl)

  line_reads : (ls : List Line) (p : Program) → i < 1024 → sum + 2 * line_room w s ≤ most_characters w → read_lines w (suc i) (sum + length digits_in) ls ≡ ok p
      → read_lines w i sum (written_line w n s ∷ ls) ≡ ok (own i s ∷ p)
  unfolding read_lines require ◌>>=◌
  line_reads ls p h k e = rw (line_within h k, line_formed, unhex_back (frame_in w n s) (frame_in_bytes n i s v w l), frame_in_back n i s v w, ◌>>=◌, e, ◌>>=◌)

-- line by line, within the limits
pub text_back : (w : ListingForm) (i sum : ℕ) (ns : List ℕ) (p : Program) → AllWritable p → AllFit w ns → i + length p ≤ 1024 → sum + 2 * total (line_room w) p ≤ most_characters w
    → read_lines w i sum (lines_of (lines_in w ns p)) ≡ ok (own_from i p)
unfolding read_lines lines_in total own_from lines_of
text_back w i sum ns [] v l h k = refl
text_back w i sum ns (s ∷ p) v l h k =
    let n : ℕ = get_or ns 0 0 in
    ap (read_lines w i sum) (lines_back w ns s p v.0 (l 0))
    ∙ line_reads w n i sum s v.0 (l 0) (lines_of (lines_in w (drop 1 ns) p)) (own_from (suc i) p) (omega arith) (omega arith)
    (text_back w (suc i) (sum + length (digits_of (frame_in w n s))) (drop 1 ns) p v.1 (fit_rest w ns l) (omega arith) (omega (arith, digits_many w n i sum s v.0 (l 0))))

-- the source lines of what is written are those that were put there
pub sources_back : (w : ListingForm) (ns : List ℕ) (p : Program) → AllWritable p → AllFit w ns → length ns ≡ length p
    → map (λ l. source_line w (unhex l.chars)) (lines_of (lines_in w ns p)) ≡ ns
unfolding lines_in lines_of
sources_back w [] [] v l h = refl
sources_back w [] (s ∷ p) v l h = absurd (omega arith)
sources_back w (n ∷ ns) [] v l h = absurd (omega arith)
sources_back w (n ∷ ns) (s ∷ p) v l h =
    rw (
      lines_back w (n ∷ ns) s p v.0 (l 0),
      unhex_back (frame_in w n s) (frame_in_bytes n 0 s v.0 w (l 0)),
      source_back n 0 s v.0 w (l 0),
      sources_back w ns p v.1 (λ j. l (suc j)) (omega arith),
    )

-- ---- the form of what is written

-- no statement of the old form begins as the mark does
not_mark : (s : Stmt) → is_gone s ≡ false → is_mark (written_line old_form 0 s) ≡ false
unfolding frame_of each same
not_mark gone e = true_false e
not_mark (instr f xs c) e = refl
not_mark (label n) e = refl
not_mark (variable n d) e = refl
not_mark (comment x) e = refl
not_mark (org l) e = refl
not_mark (bytes es) e = refl
not_mark (words es) e = refl
not_mark (pad add m) e = refl

pub record Formed (b : Beside) (is : List Placeℕ) (p : Program) : Type 0 where
  pub form : form_in (lines_of (text_of b is p)) ≡ b.form
  pub lines : statement_lines (lines_of (text_of b is p)) ≡ lines_of (lines_in b.form (lines_from b.lines is) p)

marks : is_mark (record { chars = digits_of (0x7D ∷ 0x02 ∷ []); ended = true }) ≡ true
unfolding each same
marks = refl

mark_bytes : AllBytes (0x7D ∷ 0x02 ∷ [])
unfolding every
mark_bytes = refl

marked : (rest : List ℕ) → lines_of (mark_of new_form ++ rest) ≡ record { chars = digits_of (0x7D ∷ 0x02 ∷ []); ended = true } ∷ lines_of rest
unfolding line_of
marked rest = ap lines_of (append_assoc (digits_of (0x7D ∷ 0x02 ∷ [])) (10 ∷ []) rest) ∙ line_back (0x7D ∷ 0x02 ∷ []) rest mark_bytes

-- the form of what is written
pub form_back : (w : ListingForm) (ls : List ℕ) (is : List Placeℕ) (p : Program) → AllWritable p → AllFit w (lines_from ls is) → Formed (record { form = w; lines = ls }) is p
unfolding text_of lines_in lines_of
form_back old_form ls is [] v l = record { form = refl; lines = refl }
form_back old_form ls is (s ∷ p) v l =
    let e = lines_back old_form (lines_from ls is) s p v.0 (l 0) in
    let m = not_mark s v.0.live in
    let t : List Line = written_line old_form 0 s ∷ lines_of (lines_in old_form (drop 1 (lines_from ls is)) p) in
    let f : statement_lines t ≡ t = rw m in
    record { form = ap form_in e ∙ rw m; lines = ap statement_lines e ∙ (f ∙ sym e) }
form_back new_form ls is p v l =
    let e = marked (lines_in new_form (lines_from ls is) p) in
    record { form = ap form_in e ∙ rw marks; lines = ap statement_lines e ∙ rw marks }
