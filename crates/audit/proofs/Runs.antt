-- Runs computed from the definitions: an audit on both sides of each edge. The table is one statement. Forms: Jmpf 2B, Bz 2E, Callf 3C, Nop 43.
use mathlib.Core.List.{List, [], ◌∷◌}
use mathlib.Core.Option.{Option, none, some}
use mathlib.Core.Bool.{Bool, true, false}
use Prim.Native.Nat.{ℕ}
use Prim.Native.String.{String}
use lib.Dec.{T}
use Rattle.laws.specs.Lists.{same as equal}
use Rattle.rules.specs.declared.Settings.{Settings}
use Rattle.rules.specs.Answers.{Judged, ok, no}
use Rattle.rules.specs.Refusals.{fault_of}
use Rattle.rules.specs.Layout.{Origin}
use Rattle.rules.specs.Listing.{unhex}
use Rattle.rules.specs.Settings.{by_default}
use Rattle.rules.proofs.Computed.{chars, lines, all, freely}
use Rattle.starting.specs.Begun.{accepted}
use Rattle.audit.specs.Audit.{alike, Finding, same, differs, short, long, held, audit}

unfoldable answer : Settings → (text shipped : List ℕ) → Judged Finding
unfolding freely accepted alike held audit
answer asked text shipped = audit asked text shipped

-- a finding as numbers: which, the address, both bytes, place and offset
abbrev origin_as : Option Origin → List ℕ
origin_as none = []
origin_as (some o) = o.place ∷ o.offset ∷ []

abbrev numbers : Judged Finding → List ℕ
numbers (ok same) = 0 ∷ []
numbers (ok (differs a x y o)) = 1 ∷ a ∷ x ∷ y ∷ origin_as o
numbers (ok (short a o)) = 2 ∷ a ∷ origin_as o
numbers (ok (long a)) = 3 ∷ a ∷ []
numbers (no r) = 4 ∷ (fault_of r).number ∷ (fault_of r).place ∷ []

unfoldable finds : String → String → List ℕ → Bool
unfolding answer equal
finds text image ns = equal (numbers (answer by_default (lines text) (unhex (chars image)))) ns

unfoldable finds_with : (callf folds : Bool) → String → String → List ℕ → Bool
unfolding answer equal
finds_with callf folds text image ns =
    equal (numbers (answer (record { comments = true; callf = callf; folds = folds }) (lines text) (unhex (chars image)))) ns

unfoldable computed : List Bool → Bool
unfolding all finds finds_with
computed table = all table

findings : List Bool
findings =
    -- document 01's whole run: its image, the first byte another, the last byte another
    finds "012E018001 012B010001 028001 0143 020001 012B0000000005" "90010001FD" (0 ∷ []) ∷
    finds "012E018001 012B010001 028001 0143 020001 012B0000000005" "91010001FD" (1 ∷ 0 ∷ 0x90 ∷ 0x91 ∷ 0 ∷ 0 ∷ []) ∷
    finds "012E018001 012B010001 028001 0143 020001 012B0000000005" "90010001FC" (1 ∷ 4 ∷ 0xFD ∷ 0xFC ∷ 5 ∷ 1 ∷ []) ∷
    -- two are another: the first is told
    finds "012E018001 012B010001 028001 0143 020001 012B0000000005" "90010101FC" (1 ∷ 2 ∷ 0 ∷ 1 ∷ 3 ∷ 0 ∷ []) ∷
    -- one byte too few, none at all, one too many
    finds "012E018001 012B010001 028001 0143 020001 012B0000000005" "90010001" (2 ∷ 4 ∷ 5 ∷ 1 ∷ []) ∷
    finds "012E018001 012B010001 028001 0143 020001 012B0000000005" "" (2 ∷ 0 ∷ 0 ∷ 0 ∷ []) ∷
    finds "012E018001 012B010001 028001 0143 020001 012B0000000005" "90010001FD00" (3 ∷ 5 ∷ []) ∷
    -- a byte that differs comes before an end
    finds "012E018001 012B010001 028001 0143 020001 012B0000000005" "9002" (1 ∷ 1 ∷ 1 ∷ 2 ∷ 0 ∷ 1 ∷ []) ∷
    finds "0143" "0100" (1 ∷ 0 ∷ 0 ∷ 1 ∷ 0 ∷ 0 ∷ []) ∷
    -- a gap belongs to no statement, the bytes beside it do
    finds "0143 050003 0143" "00000000" (0 ∷ []) ∷
    finds "0143 050003 0143" "00000100" (1 ∷ 2 ∷ 0 ∷ 1 ∷ []) ∷
    finds "0143 050003 0143" "0000" (2 ∷ 2 ∷ []) ∷
    finds "0143 050003 0143" "00000001" (1 ∷ 3 ∷ 0 ∷ 1 ∷ 2 ∷ 0 ∷ []) ∷
    -- nothing at all
    finds "" "" (0 ∷ []) ∷
    finds "" "00" (3 ∷ 0 ∷ []) ∷
    -- a place is the listing's, comments counted
    finds "04AA 0143" "01" (1 ∷ 0 ∷ 0 ∷ 1 ∷ 1 ∷ 0 ∷ []) ∷
    -- under other settings another image is the right one
    finds_with true true "013C0000000003 0143" "080200" (0 ∷ []) ∷
    finds_with false true "013C0000000003 0143" "20000300" (0 ∷ []) ∷
    finds_with false true "013C0000000003 0143" "080200" (1 ∷ 0 ∷ 0x20 ∷ 8 ∷ 0 ∷ 0 ∷ []) ∷
    -- a listing that is refused
    finds "0143 01" "00" (4 ∷ 1 ∷ 1 ∷ []) ∷
    finds "012C0000000082" "" (4 ∷ 10 ∷ 0 ∷ []) ∷
    []

findings_hold : T (computed findings)
unfolding computed findings
findings_hold = tt
