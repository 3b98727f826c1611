-- What a chain of std answers, in the words of the definitions here. Assumes nothing.
use mathlib.Core.Path.{◌≡◌, refl, ap, ◌∙◌}
use mathlib.Core.Bool.{Bool, cond}
use mathlib.Core.List.{List, [], ◌∷◌}
use Prim.Native.Nat.{ℕ, ◌≤◌}
use native.Mathlib.Omega.{arith}
use lib.Dec.{eqb, ltb}
use lib.ListN.{length}
use Rattle.std.specs.List.{list_all, position_or_len}
use Rattle.std.specs.Option.{unwrap_or}
use Rattle.std.proofs.Common.{Option, Some, None}
use Rattle.std.proofs.lemmas.Grind.{common_steps}
use Rattle.std.proofs.lemmas.List.Recursion.{is_position_or_len}
use Rattle.std.proofs.lemmas.List.Sums.{prefix_len-le-length}
use Rattle.laws.specs.Lists.{every}
use Rattle.listing.specs.Lines.{line_length}

-- `all`, behind `all_from_yields_List`
pub list_all_every : {X : Type 0} (f : X → Bool) (l : List X) → list_all f l ≡ every f l
unfolding every
list_all_every f [] = refl
list_all_every f (x ∷ l) = rw (list_all_every f l)

-- `position(..).unwrap_or(len)`, behind `position_from_yields_List`
abbrev within : (n m : ℕ) → Option ℕ
within n m = cond (ltb n m) (Some n) None

or_length : (n m : ℕ) → n ≤ m → unwrap_or (within n m) m ≡ n
or_length n m h = grind (arith, common_steps)

pub position_or : {X : Type 0} (f : X → Bool) (l : List X) (r : Option ℕ) → r ≡ within (position_or_len f l) (length l)
    → unwrap_or r (length l) ≡ position_or_len f l
position_or f l r e = ap (λ (o : Option ℕ). unwrap_or o (length l)) e ∙ or_length (position_or_len f l) (length l) (prefix_len-le-length _ l)

-- the first line feed
pub feed_found : (t : List ℕ) → line_length t ≡ position_or_len (λ c. eqb c 10) t
unfolding line_length
feed_found t = is_position_or_len line_length (λ c. eqb c 10) refl (λ x xs. ap (λ (n : ℕ). cond (eqb x 10) 0 n) (omega arith)) t
