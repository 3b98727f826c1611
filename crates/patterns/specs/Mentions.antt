-- How often a name is referred to, by statement.
use Rattle.std.specs.Prelude.{◌≡◌, Bool, true, List, [], ℕ, ◌≤◌, ◌<◌, eqb, get_or, length}
use Rattle.rules.specs.Answers.{judged_or}
use Rattle.rules.specs.Expressions.{Expr, mentions}
use Rattle.rules.specs.Listing.{read_frame}
use Rattle.rules.specs.Programs.{Placeℕ, Stmt, gone, instr, label, variable, comment, org, bytes, words, pad, kind_of}
use Rattle.rules.specs.Forms.{is_transfer}
use Rattle.expression.specs.Naming.{Referred}
use Rattle.listing.specs.Tables.{frame_at}
use Rattle.rules.specs.Names.{context_at}
use Rattle.slots.specs.Slots.{Slots, slot_at, program_of}
use Rattle.slots.specs.Links.{contexts_read, Beside, Together}

-- how often an expression holds the name n
abbrev pub times : (n : ℕ) → Expr → ℕ
times n e = mentions (λ m. eqb m n) e

-- the statement of a frame; asked of a frame that reads
abbrev pub read_as : (i : Placeℕ) (s : List ℕ) → Stmt
read_as i s = judged_or (read_frame i s) gone

-- the items of data
abbrev pub items_of : Stmt → List Expr
items_of gone = []
items_of (instr f xs c) = []
items_of (label n) = []
items_of (variable n e) = []
items_of (comment x) = []
items_of (org l) = []
items_of (bytes es) = es
items_of (words es) = es
items_of (pad add m) = []

-- ---- by links

-- a frame of at most 120 bytes, and links as long as it
abbrev pub Short : (s links : List ℕ) → Type 0
Short s links = (length links ≡ length s) × (length s ≤ 120)

-- a link to `place` in the statement at i says that a name passes f: in its own frame, and in the one whose target it carries
pub record Refers (f : ℕ → Bool) (t : Slots) (links : List ℕ) (i : Placeℕ) (place : ℕ) : Type 0 where
  pub own : Referred f (frame_at t.frames t.starts i) (frame_at links t.starts i) place
  pub carried : kind_of (slot_at t i) ≡ 1 → is_transfer (get_or t.forms i 0) ≡ true
      → Referred f (frame_at t.frames t.starts (get_or t.carry i 0)) (frame_at links t.starts (get_or t.carry i 0)) place

abbrev pub RefersAll : (F : ℕ → ℕ → Bool) → Slots → (links : List ℕ) (place : ℕ) → Type 0
RefersAll F t links place = (j : Placeℕ) → j < t.count → Refers (F j) t links j place

-- what the links say of the program in the slots: they are those of the listing as it was read, whose contexts are the slots' too
pub record Told (t : Slots) (links : List ℕ) : Type 0 where
  pub beside : Beside t.frames t.starts t.count links
  pub contexts : (i : Placeℕ) → i < t.count → get_or (contexts_read t.frames t.starts t.count) i 0 ≡ context_at (program_of t) i
  pub together : Together t
