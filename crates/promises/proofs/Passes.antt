-- Judging by its passes: what an image says of each, and the image that they make. A refusal of one pass, the earlier ones passed, is the whole's.
use mathlib.Core.Path.{◌≡◌, refl}
use mathlib.Core.List.{List, []}
use mathlib.Core.Bool.{true}
use Prim.Native.Nat.{ℕ}
use Rattle.laws.proofs.Tests.{false_true}
use Rattle.rules.specs.Answers.{Judged, ok, no, ◌>>=◌, ◌>>◌, judged_or, is_ok}
use Rattle.rules.specs.Programs.{Program}
use Rattle.rules.specs.Names.{Entry, placed}
use Rattle.rules.specs.Judging.{no_name_twice, positions_fit, define_all, names_of, encode_all, judge, assembles}
use Rattle.rules.proofs.Laws.{then_ok, next_ok}

-- each pass of a program that assembles
pub record Passes (p : Program) (image : List ℕ) : Type 0 where
  pub once : no_name_twice [] (placed p) ≡ ok tt
  pub laid : positions_fit (placed p) ≡ ok tt
  pub names : List Entry
  pub defined : define_all [] (placed p) ≡ ok names
  pub encoded : encode_all names p (placed p) ≡ ok image

-- an image says that each pass passes
pub judge_passes : (p : Program) (image : List ℕ) → judge p ≡ ok image → Passes p image
unfolding judge
judge_passes p image e =
    let a = next_ok (no_name_twice [] (placed p)) _ image e in
    let b = next_ok (positions_fit (placed p)) _ image a.2 in
    let c = then_ok (define_all [] (placed p)) _ image b.2 in
    record { once = a.1; laid = b.1; names = c.0; defined = c.1; encoded = c.2 }

-- and back
pub passes_judge : (p : Program) (image : List ℕ) → Passes p image → judge p ≡ ok image
unfolding judge ◌>>=◌ ◌>>◌
passes_judge p image h = rw (h.once, ◌>>◌, h.laid, ◌>>◌, h.defined, ◌>>=◌) h.encoded

-- the names of a program that assembles
pub names_are : (p : Program) (names : List Entry) → define_all [] (placed p) ≡ ok names → names_of p ≡ names
unfolding names_of judged_or
names_are p names e = rw e

-- assembling is having an image
pub assembles_image : (p : Program) → assembles p ≡ true → (image : List ℕ) × (judge p ≡ ok image)
unfolding assembles is_ok
assembles_image p e = on (judge p) refl e
  where
    on : (x : Judged (List ℕ)) → judge p ≡ x → is_ok x ≡ true → (image : List ℕ) × (judge p ≡ ok image)
    on (ok image) h t = (image, h)
    on (no r) h t = false_true t

-- and back
pub image_assembles : (p : Program) (image : List ℕ) → judge p ≡ ok image → assembles p ≡ true
unfolding assembles is_ok
image_assembles p image e = rw e
