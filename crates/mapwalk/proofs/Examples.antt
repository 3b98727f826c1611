-- Walks by the map computed from the definitions: of the long image, of the short one, and of images that are not those. Form numbers as in paths.
use mathlib.Core.List.{List, [], ◌∷◌}
use mathlib.Core.Bool.{Bool, true, ◌&&◌}
use Prim.Native.Nat.{ℕ}
use Prim.Native.String.{String}
use lib.Dec.{T}
use lib.ListN.{set}
use Rattle.laws.specs.Lists.{same}
use Rattle.rules.specs.Settings.{as_document01}
use Rattle.rules.specs.Answers.{judged_or}
use Rattle.rules.specs.Listing.{read_listing}
use Rattle.rules.specs.Judging.{judge}
use Rattle.rules.specs.Run.{rewritten}
use Rattle.rules.proofs.Computed.{lines, all, freely}
use Rattle.decoding.specs.Cells.{place_in, all_cells, cells_of}
use Rattle.decoding.specs.Opcodes.{form_among, form_of_byte}
use Rattle.decoding.specs.Operands.{bits_of, held_bit, held_in, operands_from}
use Rattle.paths.specs.Walk.{Ending, off_the_end, going, no_address, class, plain_form, taken_on, event, names_before, label_names, is_clouded, run}
use Rattle.paths.proofs.Examples.{stacked, is, holds_of}
use Rattle.mapwalk.specs.Stands.{covering, is_below, seek, image_step, image_walk}
use Rattle.mapwalk.specs.Maps.{stands_up, stands_of, in_slots}

-- the walk of the long image of these lines from 0 in n steps, of the short one in m, and of the long one as f leaves it in n
unfoldable walks : String → (n m : ℕ) → List ℕ → Ending → (f : List ℕ → List ℕ) → List ℕ → Ending → Bool
unfolding freely same class plain_form taken_on event run names_before label_names is_clouded form_among form_of_byte bits_of held_bit held_in operands_from place_in all_cells cells_of covering is_below seek image_step image_walk stands_up stands_of
walks text n m told e f told' e' =
    holds_of (λ p. is told e (image_walk (stacked true) n (stands_of p p) (judged_or (judge p) []) 0)
    && (is told e (image_walk (stacked true) m (stands_of p (in_slots as_document01 p)) (rewritten as_document01 p).image 0)
    && is told' e' (image_walk (stacked true) n (stands_of p p) (f (judged_or (judge p) [])) 0))) (read_listing (lines text))

examples : List Bool
examples =
    -- document 01's run: the branch at 0, the Nop at 5, then the jump back to it; with a wrong target in the branch it comes to the jump that is dropped, and on
    walks "012E018001 012B010001 028001 0143 020001 012B0000000005" 3 3 (5 ∷ 0 ∷ []) (going 5) (λ s. set s 1 0) (0 ∷ []) (going 5) ∷
    -- zeros of a pad are passed, and a pad may grow; a byte there that is no Nop ends the walk
    walks "012B018001 028001 0143 08000010 0143" 3 3 (16 ∷ 3 ∷ []) off_the_end (λ s. set s 9 4) (3 ∷ []) no_address ∷
    -- a gap of an org
    walks "0143 050010 0143" 2 2 (16 ∷ 0 ∷ []) off_the_end (λ s. set s 8 4) (0 ∷ []) no_address ∷
    []

examples_hold : T (all examples)
unfolding all examples walks
examples_hold = tt
