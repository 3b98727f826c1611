-- Runs computed from the definitions: the lines of targets, and the rooms. The table is one statement. Forms: Jmpf 2B, Br 2C, Bz 2E, Nop 43.
use mathlib.Core.List.{List, [], ◌∷◌}
use mathlib.Core.Bool.{Bool}
use Prim.Native.Nat.{ℕ}
use Prim.Native.String.{String}
use lib.Dec.{T}
use Rattle.laws.specs.Lists.{same}
use Rattle.laws.specs.Counts.{tab}
use Rattle.rules.specs.Answers.{Judged, ok, no}
use Rattle.rules.specs.Refusals.{fault_of}
use Rattle.rules.specs.Settings.{by_default}
use Rattle.rules.proofs.Computed.{lines, all, freely}
use Rattle.starting.specs.Begun.{accepted}
use Rattle.targets.specs.Targets.{Target, aim_at, targets, target_line}
use Rattle.targets.specs.Entry.{target_lines, fitted, told}

unfoldable answer : (room : ℕ) (text : List ℕ) → Judged (List Target)
unfolding freely accepted tab aim_at targets target_line target_lines fitted told
answer room text = told by_default text room

abbrev shows : Judged (List Target) → List ℕ → Bool
shows (ok ts) ls = same (target_lines ts) ls
shows (no r) ls = same ((fault_of r).number ∷ (fault_of r).place ∷ []) ls

unfoldable names : String → String → Bool
unfolding answer same
names text expected = shows (answer 65536 (lines text)) (lines expected)

unfoldable refuses : (room : ℕ) → String → (number place : ℕ) → Bool
unfolding answer same
refuses room text n i = shows (answer room (lines text)) (n ∷ i ∷ [])

unfoldable fits : (room : ℕ) → String → String → Bool
unfolding answer same
fits room text expected = shows (answer room (lines text)) (lines expected)

unfoldable computed : List Bool → Bool
unfolding all names refuses fits
computed table = all table

aims : List Bool
aims =
    -- document 01's whole run: the branch carries the target of 1, a label; the jump to byte 5, the Nop, names it at byte 2
    names "012E018001 012B010001 028001 0143 020001 012B0000000005" "74000000000100000006000500000000000300050000 74000005000500000005000300000000000200030000" ∷
    -- label + 3 names no byte once what stands between has shrunk: it is marked, and the bare label is not
    names "012B100100010000000003 020001 012B010001 0143" "740100000000000000060003000000000005FFFF0000 74000002000200000003000200000000000200020000" ∷
    -- label - 1 names another byte of the same statement
    names "012B110100020000000001 012B010002 020002 0143" "74010000000000000005000100020000000300010001 74000001000100000006000300000000000400030000" ∷
    -- a number without a byte
    names "012B00000000FF" "740100000000000000FFFFFF0000000000FFFFFF0000" ∷
    -- no transfer
    names "0143" "" ∷
    -- a room of 45 characters a line holds them, one character less does not, and 12 has the statement count
    fits 45 "012B00000000FF" "740100000000000000FFFFFF0000000000FFFFFF0000" ∷
    refuses 44 "012B00000000FF" 12 1 ∷
    fits 0 "0143" "" ∷
    refuses 89 "012E018001 012B010001 028001 0143 020001 012B0000000005" 12 6 ∷
    -- the listing's own refusal comes first
    refuses 0 "0143 01" 1 1 ∷
    refuses 0 "012C0000000082" 10 0 ∷
    []

aims_hold : T (computed aims)
unfolding computed aims
aims_hold = tt
