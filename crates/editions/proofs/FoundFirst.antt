-- The run under what the store answered, by the code's answer. Assumes nothing.
use mathlib.Core.Path.{◌≡◌, refl, ◌∙◌, ap}
use mathlib.Core.List.{List}
use Prim.Native.Nat.{ℕ}
use lib.ListN.{length}
use Rattle.rules.specs.declared.Sizes.{Sizes}
use Rattle.std.specs.Prelude.{Err, Result, Ok}
use Rattle.rules.specs.declared.Refusal.{Refusal}
use Rattle.rules.specs.Answers.{Judged, ok, no, ◌>>=◌}
use Rattle.promises.specs.Demand2.{Answered}
use Rattle.finishing.specs.Ending.{Delivers}
use Rattle.store.specs.declared.Edition.{Edition}
use Rattle.store.specs.Rooms.{found_as}
use Rattle.editions.specs.Under.{under, run_found}

module _ (text out image : List ℕ) where
  pub found_not : (x : Result Edition Refusal) (r : Refusal) → x ≡ Err r
      → Delivers (run_found x text (length out) (length image)) (Err r) out image out image
  found_not x r e = record { answers = rw e; listing_is = rw e; image_is = rw e }

  pub found_is : (x : Result Edition Refusal) (e : Edition) (a : Result Sizes Refusal) (out' image' : List ℕ) → x ≡ Ok e
      → Answered e.settings text out image a out' image'
      → Delivers (run_found x text (length out) (length image)) a out image out' image'
  found_is x e a out' image' q h = record { answers = rw q h.answers; listing_is = rw q h.listing_is; image_is = rw q h.image_is }

  -- the code's answer is what the definitions ask of the store
  same_run : (x : Judged Edition) → run_found (found_as x) text (length out) (length image) ≡ under x text (length out) (length image)
  unfolding under ◌>>=◌
  same_run (ok e) = refl
  same_run (no r) = refl

  pub delivered : (x : Judged Edition) (y : Result Edition Refusal) (a : Result Sizes Refusal) (out' image' : List ℕ) → y ≡ found_as x
      → Delivers (run_found y text (length out) (length image)) a out image out' image'
      → Delivers (under x text (length out) (length image)) a out image out' image'
  delivered x y a out' image' e d =
      let q = ap (λ (z : Result Edition Refusal). run_found z text (length out) (length image)) e ∙ same_run x in
      rw q at d
