-- Runs computed from the definitions, on both sides of each edge.
use mathlib.Core.List.{List, [], ◌∷◌}
use mathlib.Core.Bool.{Bool, true, false, ◌&&◌}
use Prim.Native.Nat.{ℕ}
use Prim.Native.String.{String}
use lib.Dec.{T, eqb}
use lib.ListN.{length, replicate}
use Rattle.laws.specs.Lists.{same}
use Rattle.rules.specs.Refusals.{fault_of}
use Rattle.rules.specs.Answers.{Judged, ok, no, require}
use Rattle.rules.specs.Listing.{Line, ListingForm, old_form, new_form}
use Rattle.rules.proofs.Computed.{chars, lines, all, freely}
use Rattle.lines.specs.Alone.{by_itself}
use Rattle.salvage.specs.Salvage.{Salvaged, salvage_from, salvaged, salvage}

unfoldable answer : (text : List ℕ) → Salvaged
unfolding freely same by_itself salvage_from salvaged
answer text = salvaged text

-- these characters, as they are, come out as these lines, with this report
unfoldable saves : (text : String) (listing report : String) → Bool
unfolding answer
saves text listing report = let x : Salvaged = answer (chars text) in same x.listing (lines listing) && same x.report (lines report)

-- these lines come out as they are, and nothing is told
unfoldable keeps : (text : String) → Bool
unfolding answer
keeps text = let x : Salvaged = answer (lines text) in same x.listing (lines text) && same x.report []

-- lines after so many statements and characters: how many come out, of how many characters, with which report
unfoldable after : ListingForm → (i sum : ℕ) → List Line → (count size : ℕ) (report : String) → Bool
unfolding answer
after w i sum ls count size report =
    let x : Salvaged = salvage_from w i sum ls in
    eqb x.count count && (eqb (length x.listing) size && same x.report (lines report))

abbrev is_room : (count : ℕ) → Judged Salvaged → Bool
is_room n (ok x) = false
is_room n (no r) = eqb (fault_of r).number 12 && eqb (fault_of r).place n

abbrev is_done : Judged Salvaged → Bool
is_done (ok x) = true
is_done (no r) = false

-- rooms
unfoldable fits : (text : String) (listing_room report_room : ℕ) → Bool
unfolding answer salvage require
fits text a b = is_done (salvage (chars text) a b)

unfoldable short : (text : String) (listing_room report_room count : ℕ) → Bool
unfolding answer salvage require
short text a b n = is_room n (salvage (chars text) a b)

line : (n : ℕ) (ended : Bool) → Line
line n e = record { chars = replicate n 48; ended = e }

good : Line
good = record { chars = chars "0143"; ended = true }

good_new : Line
good_new = record { chars = chars "010000000743"; ended = true }

bad : Line
bad = record { chars = chars "99"; ended = true }

runs : List Bool
runs =
    saves "" "" "" ∷
    saves "7D02\n" "7D02" "" ∷
    keeps "0143 028001 04 0601000000FFFF" ∷
    keeps "7D02 010000000743 04FFFFFFFF" ∷
    -- a bad digit, an odd count, an unknown kind, an empty line, an unended last line, a carriage return
    saves "0143\n014x\n0143\n" "0143 0430313478 0143" "7B010001" ∷
    saves "0143\n014\n" "0143 04303134" "7B010001" ∷
    saves "99\n\n0143" "043939 04 0430313433" "7B010000 7B010001 7B010002" ∷
    saves "0143\r\n" "04303134330D" "7B010000" ∷
    -- an unended `7D02` is a bad line of the old form, one that is not first a bad line of either
    saves "7D02" "0437443032" "7B010000" ∷
    saves "0143\n7D02\n" "0143 0437443032" "7B010001" ∷
    saves "7D02\n7D02\n" "7D02 040000000037443032" "7B010000" ∷
    -- the new form: a frame without its source line, and an unended one
    saves "7D02\n0143\n010000000743" "7D02 040000000030313433 0400000000303130303030303030373433" "7B010000 7B010001" ∷
    -- an expression of 33 bytes is 2
    after old_form 0 0 (
    record {
      chars = chars "0100202020202020202020202020202020202020202020202020202020202020202000";
      ended = true;
    } ∷ []) 1 143 "7B020000" ∷
    -- 118, 119 and 120 characters of a bad line, unended and ended; 240 characters are judged, 241 are 2; of the new form 248 and 249
    after old_form 0 0 (line 118 false ∷ []) 1 239 "7B010000" ∷
    after old_form 0 0 (line 119 false ∷ []) 1 241 "7B010000" ∷
    after old_form 0 0 (line 120 true ∷ []) 1 241 "7B010000" ∷
    after old_form 0 0 (line 240 true ∷ []) 1 241 "7B010000" ∷
    after old_form 0 0 (line 241 false ∷ []) 1 241 "7B020000" ∷
    after new_form 0 0 (line 119 true ∷ []) 1 249 "7B010000" ∷
    after new_form 0 0 (line 248 true ∷ []) 1 249 "7B010000" ∷
    after new_form 0 0 (line 249 true ∷ []) 1 249 "7B020000" ∷
    -- statement 1,024 and 1,025
    after old_form 1023 0 (good ∷ good ∷ []) 1 5 "7C0400" ∷
    after old_form 1022 0 (good ∷ bad ∷ []) 2 12 "7B0103FF" ∷
    -- the total, of what comes out: four characters fit, a comment of six does not; what stands behind is left off, good or bad
    after old_form 7 49148 (good ∷ good ∷ good ∷ []) 1 5 "7C0008" ∷
    after old_form 7 49146 (bad ∷ bad ∷ []) 1 7 "7B010007 7C0008" ∷
    after old_form 7 49147 (bad ∷ good ∷ []) 0 0 "7C0007" ∷
    after new_form 7 57332 (good_new ∷ good_new ∷ []) 1 13 "7C0008" ∷
    after new_form 7 57333 (good_new ∷ []) 0 0 "7C0007" ∷
    -- the rooms: 12 with the count of statements that would come out
    fits "0143\n99" 12 9 ∷
    short "0143\n99" 11 9 2 ∷
    short "0143\n99" 12 8 2 ∷
    fits "7D02\n" 5 0 ∷
    short "7D02\n" 4 0 0 ∷
    []

runs_hold : T (all runs)
unfolding all runs saves keeps after fits short line good good_new bad
runs_hold = tt
