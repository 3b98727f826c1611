-- What the code says of one line of a text, and of all lines.
use Rattle.rules.specs.declared.Refusal.{Refusal}
use Rattle.std.specs.Prelude.{◌≡◌, List, ℕ, suc, ◌≤◌, ◌<◌, length, take, Err, Result, Ok}
use Rattle.rules.specs.Answers.{ok, no}
use Rattle.rules.specs.Programs.{Placeℕ, Stmt, Program}
use Rattle.rules.specs.Listing.{lines_of}
use Rattle.rules.specs.Output.{frame_of}
use Rattle.listing.specs.Lines.{line_length, first_line}
use Rattle.digits.specs.Digits.{laid}
use Rattle.intake.specs.Intake.{Judges, Takes, listing_of}

-- the text t begins with a line that is read as s: it ends at `end`, and its frame of n bytes stands in the room
pub record Framed (i : Placeℕ) (sum : ℕ) (t room : List ℕ) (end n : ℕ) : Type 0 where
  pub s : Stmt
  pub judges : Judges i sum (first_line t) (ok s)
  pub there : line_length t < length t
  pub ends : end ≡ suc (line_length t)
  pub size : n ≡ length (frame_of s)
  pub short : n ≤ 120
  pub room_size : length room ≡ 120
  pub frame : take n room ≡ frame_of s

abbrev pub Turned : (i : Placeℕ) (sum : ℕ) (t room : List ℕ) → Result (ℕ × ℕ) Refusal → Type 0
Turned i sum t room (Ok (end, n)) = Framed i sum t room end n
Turned i sum t room (Err r) = Judges i sum (first_line t) (no r)

-- a text that is read as p, of so many statements and characters
pub record Counted (text : List ℕ) (count chars : ℕ) : Type 0 where
  pub p : Program
  pub takes : Takes 0 0 (lines_of text) (ok p)
  pub statements : count ≡ length p
  pub characters : chars ≡ length (listing_of p)

abbrev pub Measured : (text : List ℕ) → Result (ℕ × ℕ) Refusal → Type 0
Measured text (Ok (count, chars)) = Counted text count chars
Measured text (Err r) = Takes 0 0 (lines_of text) (no r)

-- it is read, and its listing fits
abbrev pub Roomy : (text : List ℕ) (room : ℕ) → Type 0
Roomy text room = (p : Program) × (Takes 0 0 (lines_of text) (ok p) × (length (listing_of p) ≤ room))

-- its listing stands at the front
abbrev pub Writes : (text before after : List ℕ) → Type 0
Writes text before after = (p : Program) → Takes 0 0 (lines_of text) (ok p) → after ≡ laid before 0 (listing_of p)
