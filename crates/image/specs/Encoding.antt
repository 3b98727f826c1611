-- The encoding of one slot, and what the code answers of it.
use Rattle.rules.specs.declared.Refusal.{Refusal}
use Rattle.std.specs.Prelude.{List, [], ◌∷◌, ℕ, ◌<◌, Err, Ok, Result}
use Rattle.rules.specs.declared.Code.{Code}
use Rattle.rules.specs.declared.Kind.{Kind}
use Rattle.rules.specs.Answers.{Judged, ok, no, ◌>>=◌, judged_or}
use Rattle.rules.specs.Expressions.{Expr}
use Rattle.rules.specs.Listing.{read_frame}
use Rattle.rules.specs.Programs.{Placeℕ, Addressℕ, Operand, Stmt, gone, instr, label, variable, comment, org, bytes, words, pad, Program}
use Rattle.rules.specs.Layout.{position}
use Rattle.rules.specs.Names.{Entry, context_at, placed}
use Rattle.rules.specs.Encoding.{field, byte, word}
use Rattle.rules.specs.Judging.{value_at, worth, worth_of, encode, encode_all}
use Rattle.encoding.specs.Operands.{ranged}
use Rattle.slots.specs.Slots.{slot_at}
use Rattle.image.specs.declared.data.Data.{Data}
use Rattle.image.specs.declared.data.Data.TheVariants.{Bytes, Words}
use Rattle.image.specs.Tables.{Tables, program}

-- an argument's value, and then its range: what the instruction at place i, in context k, that ends at n writes for argument j
unfoldable pub field_of : (names : List Entry) → Program → (i : Placeℕ) (k : ℕ) (n : Addressℕ) (j : ℕ) → Kind → Operand → Judged ℕ
field_of names p i k n j d x = do
  v ← value_at i (worth_of names p k x)
  field i j n d v

-- the bytes of the statement in slot i
unfoldable pub encode_at : Tables → (i : Placeℕ) → Judged (List ℕ)
encode_at d i = encode d.entries (program d) i (context_at (program d) i) (position (program d) i) (slot_at d.slots i)

-- up to three bytes, as the code holds them
abbrev pub code_from : List ℕ → Code
code_from [] = record { len = 0; b0 = 0; b1 = 0; b2 = 0 }
code_from (x ∷ []) = record { len = 1; b0 = x; b1 = 0; b2 = 0 }
code_from (x ∷ y ∷ []) = record { len = 2; b0 = x; b1 = y; b2 = 0 }
code_from (x ∷ y ∷ z ∷ zs) = record { len = 3; b0 = x; b1 = y; b2 = z }

-- an instruction's bytes, or the refusal
abbrev pub encoded_as : Judged (List ℕ) → Result Code Refusal
encoded_as (ok bs) = Ok (code_from bs)
encoded_as (no r) = Err r

-- ---- data

-- the items of data; those of the frame s that was read at place i
abbrev pub items_of : Stmt → List Expr
items_of gone = []
items_of (instr f xs c) = []
items_of (label n) = []
items_of (variable n e) = []
items_of (comment x) = []
items_of (org l) = []
items_of (bytes es) = es
items_of (words es) = es
items_of (pad add m) = []

abbrev pub items_in : (i : Placeℕ) (s : List ℕ) → List Expr
items_in i s = items_of (judged_or (read_frame i s) gone)

-- the range of an item, and how it is written
abbrev pub bound_of : Data → ℕ
bound_of Bytes = 256
bound_of Words = 65536

abbrev pub write_of : Data → ℕ → List ℕ
write_of Bytes = byte
write_of Words = word

-- an item's value, and then its range
unfoldable pub item_of : (names : List Entry) (bound : ℕ) (i : Placeℕ) (k j : ℕ) → Expr → Judged ℕ
item_of names bound i k j e = do
  v ← value_at i (worth names k e)
  ranged i j bound v

-- what is written for an item is below its bound
abbrev pub SmallField : (bound : ℕ) → Result ℕ Refusal → Type 0
SmallField bound (Ok v) = v < bound
SmallField bound (Err r) = Unit

-- ---- what only passes or is refused

abbrev pub checked_as : {A : Type 0} → Judged A → Result (Unit {0}) Refusal
checked_as (ok a) = Ok tt
checked_as (no r) = Err r

abbrev pub check_of : Result Code Refusal → Result (Unit {0}) Refusal
check_of (Ok code) = Ok tt
check_of (Err r) = Err r

-- the encoding of all slots, in order
unfoldable pub encode_slots : Tables → Judged (List ℕ)
encode_slots d = encode_all d.entries (program d) (placed (program d))
