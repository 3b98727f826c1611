-- What is shown of an audit: it says "same" exactly of the image that the run hands out, and the address is the first that differs.
use Rattle.std.specs.Prelude.{◌≡◌, List, ℕ, ◌<◌, length, get_or, take}
use Rattle.std.proofs.Math.Option.{Option}
use Rattle.rules.specs.declared.Settings.{Settings}
use Rattle.rules.specs.declared.Refusal.{Refusal}
use Rattle.rules.specs.declared.Refusal.TheVariants.{Room}
use Rattle.rules.specs.Answers.{ok, no}
use Rattle.rules.specs.Programs.{Addressℕ, Program}
use Rattle.rules.specs.Layout.{Origin, origin_from}
use Rattle.rules.specs.Rewriting.{optimized}
use Rattle.rules.specs.Run.{Output, run}
use Rattle.starting.specs.Begun.{accepted}
use Rattle.audit.specs.Audit.{Finding, same, differs, short, long, audit}

-- what a finding says of two images
abbrev pub Says : (of : Addressℕ → Option Origin) (wanted shipped : List ℕ) → Finding → Type 0
Says of w s same = s ≡ w
Says of w s (differs a x y o) =
    (a < length w) × (a < length s) × (take a s ≡ take a w) × (x ≡ get_or w a 0) × (y ≡ get_or s a 0) × (x ≡ y → ⊥) × (o ≡ of a)
Says of w s (short a o) = (a ≡ length s) × (a < length w) × (s ≡ take a w) × (o ≡ of a)
Says of w s (long a) = (a ≡ length w) × (a < length s) × (take a s ≡ w)

-- of a run that hands out o, whatever rooms it was lent: the finding is about o's image, and is "same" exactly where that is the shipped one. The
-- statement that it names is one of the program that the text reads as
pub record Audited (asked : Settings) (text shipped : List ℕ) (o : Output) : Type 0 where
  pub program : Program
  pub reads : accepted text ≡ ok program
  pub finding : Finding
  pub found : audit asked text shipped ≡ ok finding
  pub says : Says (λ a. origin_from 0 0 (optimized asked program).program a) o.image shipped finding
  pub same_only : (finding ≡ same → shipped ≡ o.image) × (shipped ≡ o.image → finding ≡ same)

-- a refusal is the run's: 12 is never given, and any other exactly where the run gives it, whatever rooms it is lent; and back
pub record AsRun (asked : Settings) (text shipped : List ℕ) : Type 0 where
  pub refused : (r : Refusal) → audit asked text shipped ≡ no r → (listing_room image_room : ℕ) → run asked text listing_room image_room ≡ no r
  pub back : (r : Refusal) (listing_room image_room : ℕ) → ((n : ℕ) → r ≡ Room n → ⊥) → run asked text listing_room image_room ≡ no r → audit asked text shipped ≡ no r
  pub never_12 : (n : ℕ) → audit asked text shipped ≡ no (Room n) → ⊥
