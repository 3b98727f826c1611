-- Document 02, C-11: what is promised of pads.
use Rattle.std.specs.Prelude.{◌≡◌, List, ℕ, ◌+◌, ◌%◌, ◌≤◌, length}
use Rattle.std.proofs.Math.Option.{some}
use Rattle.rules.specs.declared.Settings.{Settings}
use Rattle.rules.specs.Programs.{Placeℕ, Addressℕ, pad, Program, up_to}
use Rattle.rules.specs.Layout.{after, position}
use Rattle.rules.specs.Rewriting.{step, optimized}
use Rattle.rules.specs.Run.{rewritten}

-- "The position p becomes the least multiple of m at or above p, plus add": for a multiple m that a frame can say
pub record LeastMultiple (q : Addressℕ) (add m : ℕ) : Type 0 where
  pub goes_to : after q (pad add m) ≡ q + up_to q m + add
  pub multiple : (q + up_to q m) % m ≡ 0
  pub least : (a : Addressℕ) → q ≤ a → a % m ≡ 0 → q + up_to q m ≤ a

-- "A pad may grow after a shrink, but the position after it never rises": at no place does any position rise, by a rewrite or by all of them
pub record NeverRises (asked : Settings) (p : Program) : Type 0 where
  pub by_step : (r q : Program) → step asked r ≡ some q → (i : Placeℕ) → position q i ≤ position r i
  pub at_end : (i : Placeℕ) → position (optimized asked p).program i ≤ position p i

-- so the image that is handed out is no longer than `image`, the input's
abbrev pub NeverGrows : (asked : Settings) → Program → (image : List ℕ) → Type 0
NeverGrows asked p image = length (rewritten asked p).image ≤ length image
