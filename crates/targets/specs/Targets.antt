-- "For each transfer of the output one line (74): its place, the place whose target it carries, the value and origin in the input, the value and origin in
-- the output (by stems), and whether both are the same byte of the same statement."
use Rattle.rules.specs.declared.Unvalued.TheVariants.{Unknown, Nothing}
use Rattle.rules.specs.declared.Unvalued.{Unvalued}
use Rattle.std.specs.Prelude.{List, [], ◌∷◌, ◌++◌, Bool, false, ◌&&◌, cond, ℕ, eqb, ℤ, pos, length, Result, Err, Ok}
use Rattle.std.proofs.Math.Option.{Option, none, some}
use Rattle.std.specs.Int.{w32}
use Rattle.std.proofs.Common.{of_z}
use Rattle.laws.specs.Lists.{each}
use Rattle.laws.specs.Counts.{tab}
use Rattle.rules.specs.declared.Settings.{Settings}
use Rattle.rules.specs.Expressions.{pair, four}
use Rattle.rules.specs.Forms.{is_transfer}
use Rattle.rules.specs.Programs.{Placeℕ, Program, at, on_instr, args_of, last_of}
use Rattle.rules.specs.Layout.{Origin, origin}
use Rattle.rules.specs.Names.{context_at}
use Rattle.rules.specs.Judging.{worth_of, names_of}
use Rattle.rules.specs.Rewriting.{optimized}
use Rattle.rules.specs.Output.{line_of}

-- what a target comes to: its value, and the byte at that address, if a statement has it
pub record Aim : Type 0 where
  pub value : Result ℤ Unvalued
  pub byte : Option Origin

-- the target of the transfer at place i of p
unfoldable pub aim_at : Program → (i : Placeℕ) → Aim
aim_at p i =
    let v : Result ℤ Unvalued = worth_of (names_of p) p (context_at p i) (last_of (args_of (at p i))) in
    record { value = v; byte = origin p v }

-- both name a byte, of one statement and at one offset. An end form has a slot for each statement of the input, so that "stems from" is "has the same place"
abbrev pub same_byte : Option Origin → Option Origin → Bool
same_byte none b = false
same_byte (some a) none = false
same_byte (some a) (some b) = eqb a.place b.place && eqb a.offset b.offset

-- a transfer of the end form at place i, which carries the target that the input's statement at `carried` wrote
pub record Target : Type 0 where
  pub place : Placeℕ
  pub carried : Placeℕ
  pub before : Aim
  pub after : Aim

abbrev pub target_at : (input end : Program) (i c : Placeℕ) → Target
target_at p e i c = record { place = i; carried = c; before = aim_at p c; after = aim_at e i }

-- it needs no eyes
abbrev pub is_same : Target → Bool
is_same t = same_byte t.before.byte t.after.byte

abbrev pub targets_in : (input end : Program) (i : Placeℕ) → List Target
targets_in p e i = on_instr [] (λ x. cond (is_transfer x.form) (target_at p e i x.carried ∷ []) []) (at e i)

-- of each transfer, in the order of the places
unfoldable pub targets : Settings → Program → List Target
targets asked p =
    let e : Program = (optimized asked p).program in
    each (targets_in p e) (tab (λ i. i) (length e))

-- ---- as lines: 74, 00 where both are the same byte and 01 where not, the place and the carried place in two bytes each, and for the input and the output the
-- value in four bytes, the statement's place in two, FFFF where no statement has the byte, and the offset in two
abbrev pub mark_byte : Bool → ℕ
mark_byte b = cond b 0 1

abbrev pub number_of : Result ℤ Unvalued → ℤ
number_of (Ok z) = z
number_of (Err Unknown) = pos 0
number_of (Err Nothing) = pos 0

abbrev pub byte_bytes : Option Origin → List ℕ
byte_bytes none = pair 0xFFFF ++ pair 0
byte_bytes (some o) = pair o.place ++ pair o.offset

abbrev pub aim_bytes : Aim → List ℕ
aim_bytes a = four (of_z w32 (number_of a.value)) ++ byte_bytes a.byte

unfoldable pub target_line : Target → List ℕ
target_line t = line_of (0x74 ∷ mark_byte (is_same t) ∷ (pair t.place ++ (pair t.carried ++ (aim_bytes t.before ++ aim_bytes t.after))))
