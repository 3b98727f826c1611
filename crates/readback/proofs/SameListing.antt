-- "gives that listing's instructions again": from 0 on, and behind an org.
use mathlib.Core.Path.{◌≡◌, ◌∙◌, ap}
use mathlib.Core.List.{List, ◌∷◌}
use Prim.Native.Nat.{ℕ, ◌<◌, ◌≤◌}
use native.Mathlib.Omega.{arith}
use lib.ListN.{length}
use Rattle.rules.specs.Answers.{ok}
use Rattle.rules.specs.Programs.{Addressℕ, Program, org}
use Rattle.rules.specs.Listing.{read_listing}
use Rattle.rules.specs.Judging.{judge}
use Rattle.promises.proofs.Listings.{read_limits}
use Rattle.promises.proofs.ImageRoom.{image_room_holds}
use Rattle.readback.specs.ReadBack.{statements_of, listing_of}
use Rattle.readback.specs.Promise.{PlainInstrs, SameListing}
use Rattle.readback.proofs.Judged.{all_fits}
use Rattle.readback.proofs.Again.{from_zero, from_org, org_inside}

-- a listing whose statements come out is within the limits, since it was read
answered : (text : List ℕ) (p : Program) (image : List ℕ) (start : Addressℕ) → read_listing text ≡ ok p → judge p ≡ ok image
    → start ≤ length image → statements_of image start ≡ p
    → SameListing image start p
answered text p image start e j l s =
    let few = (read_limits text p e).0 in
    let n : length (statements_of image start) ≡ length p = ap (λ (x : Program). length x) s in
    let m : length (listing_of (statements_of image start)) ≡ length (listing_of p) = ap (λ (x : Program). length (listing_of x)) s in
    record {
      statements = s;
      answers = λ room h. all_fits image start room l (image_room_holds p image j) (omega arith) (omega arith)
          ∙ ap (λ (x : Program). ok (listing_of x)) s;
    }

pub same_from_zero : (text : List ℕ) (p : Program) (image : List ℕ) → read_listing text ≡ ok p → PlainInstrs p → judge p ≡ ok image
    → SameListing image 0 p
same_from_zero text p image e h j = answered text p image 0 e j (omega arith) (from_zero text p image e h j)

-- one org, above 0, and an instruction or more behind it
pub same_from_org : (text : List ℕ) (l : Addressℕ) (p : Program) (image : List ℕ) → read_listing text ≡ ok (org l ∷ p) → PlainInstrs p
    → judge (org l ∷ p) ≡ ok image
    → 0 < l → 1 ≤ length p → SameListing image l (org l ∷ p)
same_from_org text l p image e h j a b =
    answered text (org l ∷ p) image l e j (org_inside text l p image e h j b) (from_org text l p image e h j a b)
