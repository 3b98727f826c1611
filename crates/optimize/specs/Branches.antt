-- Where branches stand: the form that a pattern begins with, and its places one after the other.
use Rattle.std.specs.Prelude.{◌≡◌, List, ℕ, ◌+◌, ◌≤◌, ◌<◌, get_or}
use Rattle.rules.specs.Programs.{Placeℕ}
use Rattle.rules.specs.Rewriting.{Pattern, inverted, trampoline}

abbrev pub branch_of : Pattern → ℕ
branch_of (inverted from to) = from
branch_of (trampoline f) = f

-- b is the first place of `count`, from a on, where form f stands; `count` if there is none
pub record Next (forms : List ℕ) (count f : ℕ) (a b : Placeℕ) : Type 0 where
  pub from : a ≤ b
  pub below : b ≤ count
  pub between : (j : Placeℕ) → a ≤ j → j < b → get_or forms j 0 ≡ f → ⊥
  pub stands : b < count → get_or forms b 0 ≡ f

-- `first` has by form its first place, and `after` by place the next one of the same form
pub record Chained (forms : List ℕ) (count : ℕ) (first after : List ℕ) : Type 0 where
  pub begins : (f : ℕ) → f < 256 → Next forms count f 0 (get_or first f 0)
  pub goes : (i : Placeℕ) → i < count → Next forms count (get_or forms i 0) (i + 1) (get_or after i 0)
