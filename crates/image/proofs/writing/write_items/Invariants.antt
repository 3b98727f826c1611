-- `writing::write_items` meets its contract. The invariant: the items before j are in place, and the encoding is theirs and that of the
-- rest.
use mathlib.Core.Path.{◌≡◌}
use mathlib.Core.List.{List, ◌++◌}
use Prim.Native.Nat.{ℕ, ◌*◌}
use lib.ListN.{length, drop}
use Rattle.rules.specs.Answers.{Judged, ok, ◌>>=◌}
use Rattle.rules.specs.Names.{Entry, key_of, lookup}
use Rattle.rules.specs.Judging.{items}
use Rattle.expression.specs.Linked.{Linked}
use Rattle.image.specs.Encoding.{items_in, bound_of, write_of}
use Rattle.image.specs.Image.{put, width_of}
use Rattle.image.proofs.writing.write_items.Given as goal

abbrev pub invariant-loop-j : goal.invariant-loop-j
invariant-loop-j l =
    (front : List ℕ) × (length front ≡ width_of l.what * l.j) × (l.image ≡ put l.initial.image l.q.0 front)
    × ((names : List Entry) (k : ℕ) → Linked (λ m. lookup names (key_of k m)) l.frame l.links l.values l.count →
    let left : ℕ → Judged (List ℕ) = λ m. items names (bound_of l.what) (write_of l.what) l.at.0 k m (drop m (items_in l.at.0 l.frame)) in
    left 0 ≡ left l.j >>= (λ bs. ok (front ++ bs)))
