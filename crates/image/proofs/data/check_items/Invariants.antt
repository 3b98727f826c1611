-- `data::check_items` meets its contract. The invariant: the answer is that of the items from j on.
use mathlib.Core.Path.{◌≡◌}
use mathlib.Core.List.{List}
use Prim.Native.Nat.{ℕ}
use lib.ListN.{drop}
use Rattle.rules.specs.Answers.{Judged}
use Rattle.rules.specs.Names.{Entry, key_of, lookup}
use Rattle.rules.specs.Judging.{items}
use Rattle.expression.specs.Linked.{Linked}
use Rattle.image.specs.Encoding.{items_in, bound_of, checked_as}
use Rattle.image.proofs.data.check_items.Given as goal

abbrev pub invariant-loop-j : goal.invariant-loop-j
invariant-loop-j l =
    (names : List Entry) (k : ℕ) → Linked (λ m. lookup names (key_of k m)) l.frame l.links l.values l.count →
    let left : (ℕ → List ℕ) → ℕ → Judged (List ℕ) = λ write m. items names (bound_of l.what) write l.at.0 k m
    (drop m (items_in l.at.0 l.frame)) in
    (write : ℕ → List ℕ) → checked_as (left write 0) ≡ checked_as (left write l.j)
