-- Names found once: what the links beside the frames hold, and what they say of the program in the slots.
use Rattle.std.specs.Prelude.{◌≡◌, true, List, ℕ, suc, ◌≤◌, ◌<◌, ℤ, get_or, length}
use Rattle.laws.specs.Options.{option_or}
use Rattle.laws.specs.Counts.{tab}
use Rattle.rules.specs.Forms.{is_transfer}
use Rattle.rules.specs.Programs.{Placeℕ, Stmt, as_name, kind_of}
use Rattle.rules.specs.Names.{Entry, key_of, lookup, context_at}
use Rattle.expression.specs.Linked.{Linked, Links}
use Rattle.listing.specs.Tables.{frame_at, input_at, input_of}
use Rattle.slots.specs.Slots.{Slots, slot_at, program_of}

-- the name that a statement defines, as a number: 65,536, which is no "two-byte name", where it defines none
abbrev pub name_in : Stmt → ℕ
name_in s = option_or (as_name s) 65536

-- the name and the context of each of the n places of the program as it was read, and the names that the slots define now
unfoldable pub names_read : (frames starts : List ℕ) (n : ℕ) → List ℕ
names_read frames starts n = tab (λ i. name_in (input_at frames starts i)) n

unfoldable pub contexts_read : (frames starts : List ℕ) (n : ℕ) → List ℕ
contexts_read frames starts n = tab (context_at (input_of frames starts n)) n

unfoldable pub names_now : Slots → List ℕ
names_now t = tab (λ i. name_in (slot_at t i)) t.count

-- the part of a table of n bytes or links that lies beside the frame at place i
abbrev pub Spans : (starts : List ℕ) (i : Placeℕ) (n : ℕ) → Type 0
Spans starts i n = (i < 1024) × (get_or starts i 0 ≤ get_or starts (suc i) 0) × (get_or starts (suc i) 0 ≤ n)

-- beside each byte of a frame that may begin a name stands the place that defines it, of the program as it was read: no rewrite changes that
pub record Beside (frames starts : List ℕ) (n : ℕ) (links : List ℕ) : Type 0 where
  pub full : length links ≡ 28672
  pub place : (c : Placeℕ) → c < n
      → Links (names_read frames starts n) (contexts_read frames starts n) n (get_or (contexts_read frames starts n) c 0)
      (frame_at frames starts c) (frame_at links starts c)

-- links and values say at each place what a name means there among `names`
pub record Says (t : Slots) (names : List Entry) (links : List ℕ) (values : List ℤ) : Type 0 where
  pub full : length links ≡ 28672
  pub linked : (c : Placeℕ) → c < t.count
      → Linked (λ m. lookup names (key_of (context_at (program_of t) c) m)) (frame_at t.frames t.starts c) (frame_at links t.starts c) values t.count

-- a target stays in its context: "Local names are found only within their context"
abbrev pub Together : Slots → Type 0
Together t = (i : Placeℕ) → i < t.count → kind_of (slot_at t i) ≡ 1 → is_transfer (get_or t.forms i 0) ≡ true
    → context_at (program_of t) (get_or t.carry i 0) ≡ context_at (program_of t) i
