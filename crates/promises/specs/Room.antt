-- Document 01, "The listing" and refusal 12: the room that the output needs, and the room that the input does.
use Rattle.std.specs.Prelude.{◌≡◌, List, ℕ, ◌≤◌, ◌+◌, ◌*◌, length, take, Bool, false, ◌&&◌, not, cond}
use Rattle.laws.specs.Lists.{total}
use Rattle.rules.specs.declared.Settings.{Settings}
use Rattle.rules.specs.declared.Refusal.TheVariants.{Room}
use Rattle.rules.specs.Answers.{ok, no}
use Rattle.rules.specs.Programs.{Stmt, Program, Operand, register, value, inner, on_instr, last_of}
use Rattle.rules.specs.Listing.{read_listing, beside_of}
use Rattle.rules.specs.Output.{frame_of}
use Rattle.rules.specs.Run.{output_of, run, assembled, listing_room_of_program, image_room_of_program, program, rewritten}
use Rattle.promises.specs.Demand2.{output_program}
use Rattle.rules.specs.Expressions.{holds_name}
use Rattle.rules.specs.Forms.{is_transfer}
use Rattle.rules.specs.Names.{Key, Placed, placed}
use Rattle.rules.specs.Rewriting.{holds_label, moving_of}

-- the bytes of a statement's frame
abbrev pub frame_bytes : Stmt → ℕ
frame_bytes s = length (frame_of s)

-- C-15: "The output may thus pass the input's frame bytes by two for each such transfer": one whose target holds a name and no label
abbrev pub is_constant : (moving : List Key) (k : ℕ) → Operand → Bool
is_constant moving k (register r) = false
is_constant moving k (value e) = holds_name e && not (holds_label moving k e)
is_constant moving k (inner i o) = false

abbrev pub constant_at : Program → Placed → ℕ
constant_at p x = on_instr 0 (λ y. cond (is_transfer y.form && is_constant (moving_of p) x.context (last_of y.args)) 1 0) x.stmt

unfoldable pub constants : Program → ℕ
constants p = total (constant_at p) (placed p)

-- "The output never needs more frame bytes than the input", those apart: nor more statements, nor, those apart, more text than the text that p was
-- read from; and both results fit in the program's rooms, 57,344 characters, four for each of 1,024 such transfers, 1,024 line feeds and the first
-- line's five, and 65,536 bytes
pub record OutputRoom (asked : Settings) (text : List ℕ) (p : Program) : Type 0 where
  pub frames : total frame_bytes (output_program asked p) ≤ total frame_bytes p + 2 * constants p
  pub statements : length (output_program asked p) ≤ length p
  pub as_text : length (output_of asked (beside_of text) p).listing ≤ length text + 4 * constants p
  pub listing : length (output_of asked (beside_of text) p).listing ≤ listing_room_of_program
  pub image : length (rewritten asked p).image ≤ image_room_of_program

-- so the program itself never gives 12
abbrev pub NeverRoom : (asked : Settings) → List ℕ → Type 0
NeverRoom asked text = (n : ℕ) → run asked text listing_room_of_program image_room_of_program ≡ no (Room n) → ⊥

-- ---- "The program reads a listing on standard input"

-- at most so many bytes of it
abbrev pub input_room_of_program : ℕ
input_room_of_program = 65536

abbrev pub read_in : List ℕ → List ℕ
read_in text = take input_room_of_program text

-- "At most 1,024 statements, 120 bytes a frame, .. 24,576 frame bytes in all", line by line. A text that keeps this is short; and however long a text
-- is, what is read in of it gives the same statements or the same refusal as the whole, so that it assembles, runs and prints as the whole does
pub record DecidedEarly (text : List ℕ) : Type 0 where
  pub short : (p : Program) → read_listing text ≡ ok p → length text ≤ 58373
  pub reads : read_listing (read_in text) ≡ read_listing text
  pub assembles : (image_room : ℕ) → assembled (read_in text) image_room ≡ assembled text image_room
  pub runs : (asked : Settings) (listing_room image_room : ℕ) → run asked (read_in text) listing_room image_room ≡ run asked text listing_room image_room
  pub prints : (asked : Settings) → program asked (read_in text) ≡ program asked text
