-- The place that a name means, of n places, and the links of a frame's bytes.
use Rattle.std.specs.Prelude.{◌≡◌, true, List, ℕ, ◌+◌, ◌≤◌, ◌<◌, eqb, get_or, drop}
use Rattle.rules.specs.declared.Tag.TheVariants.{Name}
use Rattle.rules.specs.Expressions.{tag_of, name_of}
use Rattle.expression.specs.Environment.{is_here}

-- "Each name is defined once (a local once per context)."
pub record OneAtMost (names contexts : List ℕ) (n : ℕ) : Type 0 where
  pub same : (k m i j : ℕ) → i < n → j < n → is_here (get_or names i 0) (get_or contexts i 0) m k ≡ true → is_here (get_or names j 0) (get_or contexts j 0) m k ≡ true
      → i ≡ j

-- place l is the one that defines what m means in context k, and none does where l is no place
pub record Means (names contexts : List ℕ) (n k m l : ℕ) : Type 0 where
  pub place : (i : ℕ) → i < n → is_here (get_or names i 0) (get_or contexts i 0) m k ≡ eqb i l

-- the bytes from `from` to `to` are linked, of a frame of context k that ends at `end`; the links below are as they were
pub record LinkedTo (frames names contexts : List ℕ) (n k from end to : ℕ) (old new : List ℕ) : Type 0 where
  pub linked : (b : ℕ) → from ≤ b → b < to → b + 2 < end → tag_of (get_or frames b 0) ≡ Name
      → Means names contexts n k (name_of (drop b frames)) (get_or new b 0)
  pub below : (b : ℕ) → b < from → get_or new b 0 ≡ get_or old b 0
