-- `same_bytes` meets its contract: slices are compared byte by byte. Assumes nothing.
use Rattle.std.proofs.Common.{◌≡◌, List, [], ◌∷◌, ℕ, Bool, ◌&&◌, refl, ap, ◌∙◌}
use lib.Dec.{eqb}
use Rattle.std.specs.Cmp.Lexicographic.{pointwise}
use Rattle.laws.specs.Lists.{same}
use Rattle.pairing.proofs.lines.same_bytes.Goals as goal

pointwise_same : (x y : List ℕ) → pointwise eqb x y ≡ same x y
unfolding same
pointwise_same [] [] = refl
pointwise_same [] (y ∷ ys) = refl
pointwise_same (x ∷ xs) [] = refl
pointwise_same (x ∷ xs) (y ∷ ys) = ap (λ (t : Bool). eqb x y && t) (pointwise_same xs ys)

pub returns : goal.returns
returns c = c.eq.ensures ∙ pointwise_same c.args.x.now c.args.y.now
