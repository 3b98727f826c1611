-- What is written for a slot, as the tables have it: bytes of its own frame, its form, and the target that it carries.
use Rattle.std.specs.Prelude.{◌≡◌, List, [], ◌∷◌, ◌++◌, Bool, true, cond, ℕ, ◌+◌, ◌-◌, ◌≤◌, ◌<◌, eqb, ltb, length, get_or, take, drop}
use Rattle.laws.specs.Counts.{tab}
use Rattle.laws.specs.Lists.{each}
use Rattle.rules.specs.Expressions.{four}
use Rattle.rules.specs.Forms.{is_transfer, operands_at}
use Rattle.rules.specs.Layout.{position}
use Rattle.rules.specs.Programs.{Placeℕ, Stmt, Program, retarget, kind_of, is_gone}
use Rattle.rules.specs.Listing.{ListingForm, old_form, new_form, Beside}
use Rattle.rules.specs.Output.{plain_target, write_back, compact, stems, line_of, with_line, frame_in, mark_of, text_of}
use Rattle.rules.specs.Statements.{argument_at}
use Rattle.listing.specs.Form.{form_of}
use Rattle.listing.specs.Tables.{frame_at, Held}
use Rattle.digits.specs.Digits.{hex_of, laid}
use Rattle.slots.specs.Slots.{Slots, slots, no_owner, slot_at, program_of, InstrIn, Sound}

-- ---- the definition, slot by slot

-- the line of a statement of p, in a listing of form w and with the source line n; nothing where it is gone
unfoldable pub line_in : ListingForm → (n : ℕ) (p : Program) → Stmt → List ℕ
line_in w n p s = cond (is_gone s) [] (line_of (frame_in w n (retarget (plain_target p) s)))

-- the line of place i of the program that the tables hold; `lines` has the source lines by place
abbrev pub line_at : ListingForm → (lines : List ℕ) → Slots → (i : Placeℕ) → List ℕ
line_at w lines t i = line_in w (get_or lines i 0) (program_of t) (slot_at t i)

-- the text of the program that the tables hold
unfoldable pub listing_of : Beside → Slots → List ℕ
listing_of b t = text_of b (stems (write_back (program_of t))) (compact (write_back (program_of t)))

-- the mark of its form, and its first n slots
unfoldable pub lines_to : ListingForm → (lines : List ℕ) → Slots → (n : ℕ) → List ℕ
lines_to w lines t n = mark_of w ++ each (line_at w lines t) (tab (λ i. i) n)

-- what the code has beside the statements
abbrev pub beside_in : (marked : Bool) (lines : List ℕ) (count : ℕ) → Beside
beside_in marked lines count = record { form = form_of marked; lines = take count lines }

-- bytes of a frame, with the source line n behind the kind
abbrev pub bytes_in : ListingForm → (n : ℕ) → List ℕ → List ℕ
bytes_in old_form n x = x
bytes_in new_form n x = with_line n x

-- the room d with a kind and a source line stored at a, in the new form
abbrev pub sourced : ListingForm → (k n : ℕ) (d : List ℕ) (a : ℕ) → List ℕ
sourced old_form k n d a = d
sourced new_form k n d a = laid d a (hex_of (k ∷ four n))

-- ---- the same by the tables

-- where the target of an instruction begins in its frame, which is the last argument; the frame's end where it has no target
unfoldable pub own_end : (s : List ℕ) → ℕ
own_end s =
    let kinds = operands_at (get_or s 1 0) in
    cond (is_transfer (get_or s 1 0)) (argument_at s kinds 2 (length kinds - 1)) (length s)

-- the target that place c wrote: an inner label as a plain number, any other as it stands there
unfoldable pub target_bytes : (frames starts owners offsets positions : List ℕ) (c : Placeℕ) → List ℕ
target_bytes frames starts owners offsets positions c =
    let s = frame_at frames starts c in
    cond (ltb (get_or owners c 0) no_owner) (0x00 ∷ four (get_or positions (get_or owners c 0) 0 + get_or offsets c 0)) (drop (own_end s) s)

-- the target of an instruction of form f that carries that of place c
unfoldable pub carried_bytes : Slots → (positions : List ℕ) (f : ℕ) (c : Placeℕ) → List ℕ
carried_bytes t positions f c = cond (is_transfer f) (target_bytes t.frames t.starts t.owners t.offsets positions c) []

-- the first bytes of an instruction, which are its own: the form is f, s its frame
unfoldable pub own_bytes : (f : ℕ) (s : List ℕ) → List ℕ
own_bytes f s = 1 ∷ f ∷ take (own_end s - 2) (drop 2 s)

-- an instruction: its own bytes, and the target that it carries
abbrev pub instr_bytes : Slots → (positions : List ℕ) (i : Placeℕ) → List ℕ
instr_bytes t positions i =
    own_bytes (get_or t.forms i 0) (frame_at t.frames t.starts i) ++ carried_bytes t positions (get_or t.forms i 0) (get_or t.carry i 0)

-- any statement that is not gone
unfoldable pub bytes_at : Slots → (positions : List ℕ) (i : Placeℕ) → List ℕ
bytes_at t positions i = cond (eqb (kind_of (slot_at t i)) 1) (instr_bytes t positions i) (frame_at t.frames t.starts i)

-- ---- what is known of the tables

-- the statement that was read at place i is an instruction
pub record InstrAt (frames starts : List ℕ) (count : ℕ) (i : Placeℕ) : Type 0 where
  pub inside : i < count
  pub reads : InstrIn i (frame_at frames starts i)

-- what is written for the instruction at place i stands in frames of instructions: its own, and a transfer's that of its target
pub record Drawn (frames starts : List ℕ) (count : ℕ) (forms carry : List ℕ) (i : Placeℕ) : Type 0 where
  pub held : Held frames starts count
  pub own : InstrAt frames starts count i
  pub target : is_transfer (get_or forms i 0) ≡ true → InstrAt frames starts count (get_or carry i 0)

-- the inner label that the target of place c became stands for a number that four bytes hold
abbrev pub NumberLow : (owners positions : List ℕ) (c : Placeℕ) → Type 0
NumberLow owners positions c = get_or owners c 0 < no_owner → get_or positions (get_or owners c 0) 0 ≤ 65536

-- a table of the positions of the program's statements
pub record Positioned (t : Slots) (positions : List ℕ) : Type 0 where
  pub are : (i : Placeℕ) → i < t.count → get_or positions i 0 ≡ position (program_of t) i
  pub low : (i : Placeℕ) → i < t.count → get_or positions i 0 ≤ 65536

-- ---- lengths, which no offset and no position changes

abbrev pub SoundWithout : (frames starts : List ℕ) (count : ℕ) (forms carry owners : List ℕ) → Type 0
SoundWithout frames starts count forms carry owners = (offsets : List ℕ) × Sound (slots frames starts count forms carry owners offsets)

-- the target that place c wrote has n bytes
abbrev pub TargetHas : (frames starts owners : List ℕ) (c : Placeℕ) (n : ℕ) → Type 0
TargetHas frames starts owners c n = (offsets positions : List ℕ) → n ≡ length (target_bytes frames starts owners offsets positions c)

-- the instruction at place i has n bytes
abbrev pub InstrHas : (frames starts : List ℕ) (count : ℕ) (forms carry owners : List ℕ) (i : Placeℕ) (n : ℕ) → Type 0
InstrHas frames starts count forms carry owners i n =
    (offsets positions : List ℕ) → n ≡ length (instr_bytes (slots frames starts count forms carry owners offsets) positions i)

-- the line of place i, and the text, have n characters, whatever the source lines are
abbrev pub LineHas : ListingForm → (frames starts : List ℕ) (count : ℕ) (forms carry owners : List ℕ) (i : Placeℕ) (n : ℕ) → Type 0
LineHas w frames starts count forms carry owners i n =
    (lines offsets : List ℕ) → Sound (slots frames starts count forms carry owners offsets)
    → n ≡ length (line_at w lines (slots frames starts count forms carry owners offsets) i)

abbrev pub TextHas : ListingForm → (frames starts : List ℕ) (count : ℕ) (forms carry owners : List ℕ) (n : ℕ) → Type 0
TextHas w frames starts count forms carry owners n =
    (lines offsets : List ℕ) → Sound (slots frames starts count forms carry owners offsets)
    → n ≡ length (listing_of (record { form = w; lines = lines }) (slots frames starts count forms carry owners offsets))
