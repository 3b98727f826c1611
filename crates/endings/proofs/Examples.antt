-- Reports computed from the definitions. Form numbers as in paths: Jmpf 2B, Br 2C, Bz 2E, Ret 3E, Nop 43, Not1 by its number in document 01.
use mathlib.Core.List.{List, [], ◌∷◌}
use mathlib.Core.Bool.{Bool}
use Prim.Native.Nat.{ℕ}
use Prim.Native.String.{String}
use lib.Dec.{T}
use Rattle.laws.specs.Lists.{same, each}
use Rattle.laws.specs.Counts.{tab}
use Rattle.rules.specs.Listing.{read_listing}
use Rattle.rules.proofs.Computed.{lines, all, freely}
use Rattle.paths.specs.Walk.{class, code_from, code_at, names_before, label_names, is_clouded}
use Rattle.paths.proofs.Examples.{holds_of}
use Rattle.endings.specs.Endings.{Reason, is_data, leaves_memory, behind_cloud, computes_label, into_middle, is_no_address, is_return, Listed, report}

abbrev number_of : Reason → ℕ
number_of is_data = 1
number_of leaves_memory = 2
number_of behind_cloud = 3
number_of computes_label = 4
number_of into_middle = 5
number_of is_no_address = 6
number_of is_return = 7

-- places and reasons, one behind the other
unfoldable lists : String → List ℕ → Bool
unfolding freely same class code_from code_at names_before label_names is_clouded report each tab
lists text expected = holds_of (λ p. same (each (λ (x : Listed). x.place ∷ number_of x.reason ∷ []) (report p)) expected) (read_listing (lines text))

examples : List Bool
examples =
    -- document 01's run: nothing ends it
    lists "012E018001 012B010001 028001 0143 020001 012B0000000005" [] ∷
    -- a return, data, and a target that is computed with a label
    lists "013C010001 012B100100010000000001 020001 013E 060100000000FF" (1 ∷ 4 ∷ 3 ∷ 7 ∷ 4 ∷ 1 ∷ []) ∷
    -- into the middle of the jump itself; one byte further is the byte behind it
    lists "012B0000000001" (0 ∷ 5 ∷ []) ∷
    lists "012B0000000003" [] ∷
    []

examples_hold : T (all examples)
unfolding all examples lists
examples_hold = tt
