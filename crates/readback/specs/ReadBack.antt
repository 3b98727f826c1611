-- Document 02, C-21: "Take an image and a start address and write instruction frames with plain numbers, to the image's end".
use Rattle.std.specs.Prelude.{List, [], ◌∷◌, map, cond, ℕ, zero, suc, ◌+◌, ◌-◌, leb, ltb, eqb, length, get_or, drop, take}
use Rattle.laws.specs.Lists.{each}
use Rattle.rules.specs.declared.Refusal.TheVariants.{Limit, Room, Start}
use Rattle.rules.specs.Answers.{at_place, Judged, ok, Check, ◌>>◌, require}
use Rattle.rules.specs.Forms.{size_at, operands_at}
use Rattle.rules.specs.Programs.{Placeℕ, Addressℕ, Stmt, instr, org, bytes, Program, byte_count}
use Rattle.rules.specs.Layout.{after}
use Rattle.rules.specs.Listing.{old_form, within_limits}
use Rattle.rules.specs.Output.{frame_of, hex_byte, text_of}
use Rattle.decoding.specs.Opcodes.{form_of_byte}
use Rattle.decoding.specs.Operands.{plain, operands_from, none_outside}

-- ---- one statement

-- bytes as data
abbrev pub data_of : List ℕ → Stmt
data_of s = bytes (map (λ b. plain b) s)

-- form f of the bytes s at q, as the statement at place i
abbrev pub instruction_of : (i : Placeℕ) (q : Addressℕ) (s : List ℕ) (f : ℕ) → Stmt
instruction_of i q s f = instr f (operands_from f s (q + size_at f) 0 (operands_at f)) i

-- "where the end cuts an instruction, all bytes that remain" come out as a bytes frame; where a relative target "falls outside 0..65,535,
-- the first byte alone" does; else the instruction
abbrev pub of_form : (i : Placeℕ) (q : Addressℕ) (s : List ℕ) (f : ℕ) → Stmt
of_form i q s f =
    cond (ltb (length s) (size_at f)) (data_of s)
    (cond (none_outside f s (q + size_at f) 0 (operands_at f)) (instruction_of i q s f) (data_of (take 1 s)))

-- the statement at place i that the bytes s, which lie at q, begin with
unfoldable pub read_one : (i : Placeℕ) (q : Addressℕ) (s : List ℕ) → Stmt
read_one i q s = of_form i q s (form_of_byte (get_or s 0 0))

-- ---- all of them

-- the statements from place i on, of which the first lies at q, for the bytes s, of which the first `skip` belong to the statement before
unfoldable pub read_from : (skip : ℕ) (i : Placeℕ) (q : Addressℕ) (s : List ℕ) → Program
read_from skip i q [] = []
read_from zero i q (b ∷ s) =
    let x : Stmt = read_one i q (b ∷ s) in
    x ∷ read_from (byte_count q x - 1) (suc i) (after q x) s
read_from (suc k) i q (b ∷ s) = read_from k i q s

-- "to the image's end"
abbrev pub read_all : (i : Placeℕ) (q : Addressℕ) (s : List ℕ) → Program
read_all i q s = read_from 0 i q s

-- "after an org frame if the start is above 0. A start at the end gives an empty listing."
unfoldable pub statements_of : (image : List ℕ) (start : Addressℕ) → Program
statements_of image start =
    cond (leb (length image) start) []
    (cond (eqb start 0) (read_all 0 0 image)
    (org start ∷ read_all 1 start (drop start image)))

-- ---- the answer

-- the text of statements, in the old form
abbrev pub listing_of : Program → List ℕ
listing_of p = text_of (record { form = old_form; lines = [] }) [] p

-- "a listing over a limit is 2": by document 01's limits, line by line, `sum` characters before
unfoldable pub keeps_limits : (i : Placeℕ) (sum : ℕ) → Program → Check
keeps_limits i sum [] = ok tt
keeps_limits i sum (x ∷ p) =
    let chars : List ℕ = each (λ b. hex_byte b) (frame_of x) in
    require (within_limits old_form i sum chars) (Limit (at_place i)) (keeps_limits (suc i) (sum + length chars) p)

-- "Refusals: a start beyond the end of the image is 16, first; an image over 65,536 or a listing over a limit is 2; then 12."
unfoldable pub read_back : (image : List ℕ) (start : Addressℕ) (room : ℕ) → Judged (List ℕ)
read_back image start room =
    let p : Program = statements_of image start in
    require (leb start (length image)) Start
    (require (leb (length image) 65536) (Limit (at_place 0))
    (keeps_limits 0 0 p
    >> require (leb (length (listing_of p)) room) (Room (length p))
    (ok (listing_of p))))
