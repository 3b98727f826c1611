-- Runs computed from the definitions: the rewrites of listings, each rule and pattern. The table is one statement. Forms: Jmp 2A, Jmpf 2B, Br 2C, Bz 2E,
-- Bnz 2F, Dbnz 33, Call 3B, Callf 3C, Nop 43.
use mathlib.Core.List.{List, [], ◌∷◌}
use mathlib.Core.Bool.{Bool, true, false}
use Prim.Native.Nat.{ℕ}
use Prim.Native.String.{String}
use lib.Dec.{T}
use Rattle.laws.specs.Lists.{same}
use Rattle.rules.specs.declared.Settings.{Settings}
use Rattle.rules.specs.Answers.{Judged, ok, no}
use Rattle.rules.specs.Refusals.{fault_of}
use Rattle.rules.specs.Settings.{by_default}
use Rattle.rules.proofs.Computed.{lines, all, freely}
use Rattle.starting.specs.Begun.{accepted}
use Rattle.steps.specs.Steps.{Rewrite, changed, rule_of, rewrite_of, steps_in, steps, step_line, step_lines}
use Rattle.steps.specs.Entry.{told}

unfoldable answer : Settings → (room : ℕ) (text : List ℕ) → Judged (List Rewrite)
unfolding freely accepted changed rule_of rewrite_of steps_in steps step_line step_lines told
answer asked room text = told asked text room

abbrev shows : Judged (List Rewrite) → List ℕ → Bool
shows (ok rs) ls = same (step_lines rs) ls
shows (no r) ls = same ((fault_of r).number ∷ (fault_of r).place ∷ []) ls

unfoldable tells : String → String → Bool
unfolding answer same
tells text expected = shows (answer by_default 65536 (lines text)) (lines expected)

unfoldable tells_with : (callf folds : Bool) → String → String → Bool
unfolding answer same
tells_with callf folds text expected = shows (answer (record { comments = true; callf = callf; folds = folds }) 65536 (lines text)) (lines expected)

unfoldable refuses : (room : ℕ) → String → (number place : ℕ) → Bool
unfolding answer same
refuses room text n i = shows (answer by_default room (lines text)) (n ∷ i ∷ [])

unfoldable fits : (room : ℕ) → String → String → Bool
unfolding answer same
fits room text expected = shows (answer by_default room (lines text)) (lines expected)

unfoldable computed : List Bool → Bool
unfolding all tells tells_with refuses fits
computed table = all table

rewrites : List Bool
rewrites =
    -- document 01's whole run: an inverted fold at 0, whose branch takes the target of 1, then a shrink at 5
    tells "012E018001 012B010001 028001 0143 020001 012B0000000005" "760100002E00002F0001 760300052B00052C0005" ∷
    -- without folds the far jump shrinks where it stands, and so does the other
    tells_with true false "012E018001 012B010001 028001 0143 020001 012B0000000005" "760300012B00012C0001 760300052B00052C0005" ∷
    -- a trampoline keeps its form, and takes the target of 3
    tells "01330000000010018001 012C018002 028001 012B010001 028002 0143 020001" "76020000330000330003" ∷
    -- where both patterns fit the inverted one comes first, and what it leaves shrinks
    tells "012E018001 012C018002 028001 012B010001 028002 0143 020001" "760100002E00002F0001 760300032B00032C0003" ∷
    -- a call, and none where Callf is not to shrink
    tells "013C0000000003 0143" "760300003C00003B0000" ∷
    tells_with false true "013C0000000003 0143" "" ∷
    -- nothing to do, and nothing at all
    tells "0143" "" ∷
    tells "" "" ∷
    -- comments are counted: a place is the listing's
    tells "04AA 012B0000000000" "760300012B00012C0001" ∷
    -- a room of 21 characters a line holds them, one character less does not, and 12 has the statement count
    fits 21 "012B0000000000" "760300002B00002C0000" ∷
    refuses 20 "012B0000000000" 12 1 ∷
    fits 0 "0143" "" ∷
    refuses 41 "012E018001 012B010001 028001 0143 020001 012B0000000005" 12 6 ∷
    fits 42 "012E018001 012B010001 028001 0143 020001 012B0000000005" "760100002E00002F0001 760300052B00052C0005" ∷
    -- the listing's own refusal comes first
    refuses 0 "0143 01" 1 1 ∷
    refuses 0 "012C0000000082" 10 0 ∷
    []

rewrites_hold : T (computed rewrites)
unfolding computed rewrites
rewrites_hold = tt
