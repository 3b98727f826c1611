-- Runs computed from the definitions: the rows, and the rooms. The table is one statement. Forms: Jmpf 2B, Br 2C, Bz 2E, Nop 43.
use mathlib.Core.List.{List, [], ◌∷◌}
use mathlib.Core.Bool.{Bool}
use Prim.Native.Nat.{ℕ}
use Prim.Native.String.{String}
use lib.Dec.{T}
use Rattle.laws.specs.Lists.{same}
use Rattle.laws.specs.Counts.{tab}
use Rattle.rules.specs.Answers.{Judged, ok, no}
use Rattle.rules.specs.Refusals.{fault_of}
use Rattle.rules.specs.Settings.{by_default}
use Rattle.rules.proofs.Computed.{lines, all, freely}
use Rattle.starting.specs.Begun.{accepted}
use Rattle.mapping.specs.Rows.{Row, rows_to, rows, row_line}
use Rattle.mapping.specs.Entry.{row_lines, fitted, mapped}

unfoldable answer : (room : ℕ) (text : List ℕ) → Judged (List Row)
unfolding freely accepted tab rows_to rows row_line row_lines fitted mapped
answer room text = mapped by_default text room

abbrev shows : Judged (List Row) → List ℕ → Bool
shows (ok rs) ls = same (row_lines rs) ls
shows (no r) ls = same ((fault_of r).number ∷ (fault_of r).place ∷ []) ls

unfoldable maps : String → String → Bool
unfolding answer same
maps text expected = shows (answer 65536 (lines text)) (lines expected)

unfoldable refuses : (room : ℕ) → String → (number place : ℕ) → Bool
unfolding answer same
refuses room text n i = shows (answer room (lines text)) (n ∷ i ∷ [])

unfoldable fits : (room : ℕ) → String → String → Bool
unfolding answer same
fits room text expected = shows (answer room (lines text)) (lines expected)

unfoldable computed : List Bool → Bool
unfolding all maps refuses fits
computed table = all table

table : List Bool
table =
    -- document 01's whole run: the jump that the fold drops has its bytes in the long image alone, and what stands behind it moves up
    maps "012E018001 012B010001 028001 0143 020001 012B0000000005"
    "780000000000000000020000000000000002 790000000002000000050000000200000002 780000000005000000060000000200000003 780000000006000000090000000300000005" ∷
    -- data are marked, and what has no bytes has no row
    maps "060200000000010000000002 070100000000FF 0143" "780100000000000000020000000000000002 780100000002000000040000000200000004 780000000004000000050000000400000005" ∷
    -- behind a gap of an org and a pad, which are no rows
    maps "0143 050010 0143 08000010 0143" "780000000000000000010000000000000001 780000000010000000110000001000000011 780000000020000000210000002000000021" ∷
    maps "020001" "" ∷
    -- a room of 37 characters a line holds them, one character less does not, and 12 has the statement count
    fits 37 "0143" "780000000000000000010000000000000001" ∷
    refuses 36 "0143" 12 1 ∷
    fits 0 "020001" "" ∷
    refuses 147 "012E018001 012B010001 028001 0143 020001 012B0000000005" 12 6 ∷
    -- the listing's own refusal comes first
    refuses 0 "0143 01" 1 1 ∷
    refuses 0 "012C0000000082" 10 0 ∷
    []

rows_hold : T (computed table)
unfolding computed table
rows_hold = tt
