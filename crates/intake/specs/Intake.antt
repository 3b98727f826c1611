-- Document 02, C-19, of a whole text: "Refusals: a line over 1,024 bytes is 2, first; text that isn't a line of this form .. is 15 in
-- place of 1, with the column ..; then a good line whose expression passes 32 bytes or whose frame passes 120 is 2; then 12."
use Rattle.rules.specs.declared.Sizes.{Sizes}
use Rattle.std.specs.Prelude.{◌≡◌, List, [], ◌∷◌, true, false, cond, ℕ, suc, ◌+◌, ◌*◌, ◌≤◌, ◌<◌, leb, pos, length, Result}
use Rattle.rules.specs.declared.Refusal.{Refusal}
use Rattle.rules.specs.declared.Refusal.TheVariants.{Limit, Room, Column}
use Rattle.rules.specs.Answers.{at_place, Judged, ok, no}
use Rattle.rules.specs.Programs.{Placeℕ, Stmt, Program}
use Rattle.rules.specs.Listing.{Line, lines_of, old_form}
use Rattle.rules.specs.Output.{frame_of, text_of}
use Rattle.digits.specs.Leaves.{Leaves as Left}
use Rattle.grammar.specs.Reading as reading
use Rattle.grammar.specs.Reading.{WrongAt, Fitting}

-- the line at place i, with `sum` characters of the listing before it. Statement 1,025 is 2, as in every listing; a good line that lacks its
-- line feed is 15 at its end; the total limit is document 01's, by the frames that come out
pub data Judges (i : Placeℕ) (sum : ℕ) (l : Line) : Judged Stmt → Type 0 where
  many : 1024 ≤ i → Judges i sum l (no (Limit (at_place i)))
  wide : i < 1024 → 1024 < length l.chars → Judges i sum l (no (Limit (at_place i)))
  wrong : (c : ℕ) → i < 1024 → length l.chars ≤ 1024 → WrongAt l.chars c → Judges i sum l (no (Column (at_place i) (pos c)))
  unended : (s : Stmt) → i < 1024 → length l.chars ≤ 1024 → reading.Line s l.chars → l.ended ≡ false
      → Judges i sum l (no (Column (at_place i) (pos (length l.chars))))
  passes : (s : Stmt) → i < 1024 → length l.chars ≤ 1024 → reading.Line s l.chars → l.ended ≡ true
      → (Fitting s → sum + 2 * length (frame_of s) ≤ 49152 → ⊥) → Judges i sum l (no (Limit (at_place i)))
  reads : (s : Stmt) → i < 1024 → length l.chars ≤ 1024 → reading.Line s l.chars → l.ended ≡ true
      → Fitting s → sum + 2 * length (frame_of s) ≤ 49152 → Judges i sum l (ok s)

-- line by line, up to the first refusal
pub data Takes : (i : Placeℕ) (sum : ℕ) → List Line → Judged Program → Type 0 where
  none : {i sum : ℕ} → Takes i sum [] (ok [])
  refused : {i sum : ℕ} {l : Line} {ls : List Line} {r : Refusal} → Judges i sum l (no r) → Takes i sum (l ∷ ls) (no r)
  later : {i sum : ℕ} {l : Line} {ls : List Line} {s : Stmt} {r : Refusal} → Judges i sum l (ok s)
      → Takes (suc i) (sum + 2 * length (frame_of s)) ls (no r)
      → Takes i sum (l ∷ ls) (no r)
  next : {i sum : ℕ} {l : Line} {ls : List Line} {s : Stmt} {p : Program} → Judges i sum l (ok s)
      → Takes (suc i) (sum + 2 * length (frame_of s)) ls (ok p)
      → Takes i sum (l ∷ ls) (ok (s ∷ p))

-- "The frames come out in the old form"
abbrev pub listing_of : Program → List ℕ
listing_of p = text_of (record { form = old_form; lines = [] }) [] p

-- "then 12", with the statement count
abbrev pub in_room : (room : ℕ) → Judged Program → Judged (List ℕ)
in_room room (ok p) = cond (leb (length (listing_of p)) room) (ok (listing_of p)) (no (Room (length p)))
in_room room (no r) = no r

-- what the entry answers to a text, and leaves in the room
pub record Leaves (text : List ℕ) (r : Result Sizes Refusal) (before after : List ℕ) : Type 0 where
  pub judged : Judged Program
  pub takes : Takes 0 0 (lines_of text) judged
  pub leaves : Left (in_room (length before) judged) r before after
