-- The frames of an accepted listing are those of its statements, each with its source line.
use mathlib.Core.Path.{◌≡◌, refl, sym, ap, ap₂, ◌∙◌}
use mathlib.Core.Logic.{⊎_elim}
use mathlib.Core.List.{List, [], ◌∷◌, map}
use mathlib.Core.Bool.{true, ◌&&◌}
use Prim.Native.Nat.{ℕ, zero, suc, ◌+◌, ◌*◌, ◌/◌, ◌%◌, ◌≤◌, ◌<◌}
use native.Mathlib.Omega.{arith}
use lib.Dec.{leb, eqb}
use lib.ListN.{length, get_or, drop}
use lib.Seq.{get_or-drop}
use borrow.Author.Tests.{leb-true, le-leb, lt-leb}
use Rattle.laws.specs.Lists.{every}
use Rattle.laws.proofs.Tests.{and_true}
use Rattle.rules.specs.declared.Refusal.TheVariants.{Broken, Limit}
use Rattle.rules.specs.Answers.{at_place, ok, require}
use Rattle.rules.specs.Programs.{Placeℕ, Stmt, Program, at}
use Rattle.rules.specs.Listing.{Line, ListingForm, old_form, new_form, lines_of, form_in, statement_lines, is_digit, digit, unhex, read_frame}
use Rattle.rules.specs.Listing.{read_frame_in, source_line, within_limits, well_formed, read_lines, read_listing, beside_of}
use Rattle.rules.specs.Output.{frame_of, with_line, frame_in}
use Rattle.rules.proofs.Laws.{then_ok, require_ok, no_ok}
use Rattle.expression.specs.Sound.{AreBytes}
use Rattle.listing.proofs.DigitPairs.{digit_range}
use Rattle.output.proofs.Frames.{frame_back}
use Rattle.pairing.specs.Pairings.{Frames, frames_of}

-- the frames of statements, each with its source line
unfoldable pub frames_with : ListingForm → (lines : List ℕ) → Program → Frames
frames_with w ns [] = []
frames_with w ns (s ∷ p) = frame_in w (get_or ns 0 0) s ∷ frames_with w (drop 1 ns) p

pub frame_with : (w : ListingForm) (ns : List ℕ) (p : Program) (i : Placeℕ) → i < length p
    → get_or (frames_with w ns p) i [] ≡ frame_in w (get_or ns i 0) (at p i)
unfolding frames_with
frame_with w ns [] i h = absurd (omega arith)
frame_with w ns (s ∷ p) zero h = refl
frame_with w ns (s ∷ p) (suc i) h =
    let z : 1 + i ≡ suc i = omega arith in
    let e : get_or (drop 1 ns) i 0 ≡ get_or ns (suc i) 0 = get_or-drop 1 ns i 0 ∙ ap (λ (k : ℕ). get_or ns k 0) z in
    frame_with w (drop 1 ns) p i (omega arith) ∙ ap (λ (n : ℕ). frame_in w n (at p i)) e

pub frames_many : (w : ListingForm) (ns : List ℕ) (p : Program) → length (frames_with w ns p) ≡ length p
unfolding frames_with
frames_many w ns [] = refl
frames_many w ns (s ∷ p) = ap suc (frames_many w (drop 1 ns) p)

-- ---- digits are bytes
digit_low : (c : ℕ) → is_digit c ≡ true → digit c < 16
digit_low c h = ⊎_elim (λ r. rw (le-leb c 57 r.1) (omega arith)) (λ r. rw (lt-leb c 57 (omega arith)) (omega arith)) (digit_range c h)

unhex_bytes : (l : List ℕ) → every (λ c. is_digit c) l ≡ true → AreBytes (unhex l)
unfolding every unhex
unhex_bytes [] h i = omega arith
unhex_bytes (c ∷ []) h i = omega arith
unhex_bytes (c ∷ d ∷ l) h zero =
    let p = and_true (is_digit c) _ h in
    let q = and_true (is_digit d) (every (λ c. is_digit c) l) p.1 in
    omega (arith, digit_low c p.0, digit_low d q.0)
unhex_bytes (c ∷ d ∷ l) h (suc i) =
    let p = and_true (is_digit c) _ h in
    let q = and_true (is_digit d) (every (λ c. is_digit c) l) p.1 in
    unhex_bytes l q.1 i

-- ---- a frame that was read is written back, source line and all
four_of : (a b c d : ℕ) → a < 256 → b < 256 → c < 256 → d < 256 → (let n : ℕ = a * 16777216 + b * 65536 + c * 256 + d in
    (n / 16777216 ≡ a) × (n / 65536 % 256 ≡ b) × (n / 256 % 256 ≡ c) × (n % 256 ≡ d))
four_of a b c d h k l m = (omega arith, omega arith, omega arith, omega arith)

drop_bytes : (k : ℕ) (s : List ℕ) (n : ℕ) → AreBytes (k ∷ s) → AreBytes (k ∷ drop n s)
drop_bytes k s n v zero = v 0
drop_bytes k s n v (suc i) = rw (get_or-drop n s i 0) (v (suc (n + i)))

new_back : (i : Placeℕ) (k : ℕ) (s : List ℕ) (x : Stmt) → 4 ≤ length s → frame_of x ≡ k ∷ drop 4 s → AreBytes (k ∷ s)
    → with_line (source_line new_form (k ∷ s)) (frame_of x) ≡ k ∷ s
new_back i k [] x h e v = absurd (omega arith)
new_back i k (a ∷ []) x h e v = absurd (omega arith)
new_back i k (a ∷ b ∷ []) x h e v = absurd (omega arith)
new_back i k (a ∷ b ∷ c ∷ []) x h e v = absurd (omega arith)
new_back i k (a ∷ b ∷ c ∷ d ∷ s) x h e v =
    let f = four_of a b c d (v 1) (v 2) (v 3) (v 4) in
    ap (with_line (source_line new_form (k ∷ a ∷ b ∷ c ∷ d ∷ s))) e ∙ rw (f.0, f.1, f.2, f.3)

frame_in_back : (w : ListingForm) (i : Placeℕ) (s : List ℕ) (x : Stmt) → read_frame_in w i s ≡ ok x → AreBytes s → frame_in w (source_line w s) x ≡ s
frame_in_back old_form i s x e v = frame_back i s x e v
frame_in_back new_form i [] x e v = no_ok _ _ e
frame_in_back new_form i (k ∷ s) x e v =
    let r = require_ok (leb 4 (length s)) (Broken (at_place i)) (read_frame i (k ∷ drop 4 s)) x e in
    new_back i k s x (leb-true 4 (length s) r.0) (frame_back i (k ∷ drop 4 s) x r.1 (drop_bytes k s 4 v)) v

lines_frames : (w : ListingForm) (i sum : ℕ) (ls : List Line) (p : Program) → read_lines w i sum ls ≡ ok p
    → map (λ l. unhex l.chars) ls ≡ frames_with w (map (λ l. source_line w (unhex l.chars)) ls) p
unfolding read_lines frames_with
lines_frames w i sum [] p e = let z : p ≡ [] = cc in rw z
lines_frames w i sum (l ∷ ls) p e =
    let x = then_ok (require (within_limits w i sum l.chars) (Limit (at_place i))
    (require (well_formed l) (Broken (at_place i)) (read_frame_in w i (unhex l.chars)))) _ p e in
    let a = require_ok (within_limits w i sum l.chars) (Limit (at_place i)) _ x.0 x.1 in
    let b = require_ok (well_formed l) (Broken (at_place i)) _ x.0 a.1 in
    let y = then_ok (read_lines w (suc i) (sum + length l.chars) ls) _ p x.2 in
    let z : p ≡ x.0 ∷ y.0 = cc y.2 in
    let digits = formed_digits l b.0 in
    rw z
    (ap₂ (λ (f : List ℕ) (fs : Frames). f ∷ fs) (sym (frame_in_back w i (unhex l.chars) x.0 b.1 (unhex_bytes l.chars digits)))
    (lines_frames w (suc i) (sum + length l.chars) ls y.0 y.1))
  where
    formed_digits : (l : Line) → well_formed l ≡ true → every (λ c. is_digit c) l.chars ≡ true
    formed_digits l h = unfold well_formed in (and_true (every (λ c. is_digit c) l.chars) (eqb (length l.chars % 2) 0 && l.ended) h).0

-- listing-frames: of a whole listing
pub listing_frames : (text : List ℕ) (p : Program) → read_listing text ≡ ok p → frames_of text ≡ frames_with (beside_of text).form (beside_of text).lines p
unfolding frames_of read_listing beside_of
listing_frames text p e = lines_frames (form_in (lines_of text)) 0 0 (statement_lines (lines_of text)) p e
