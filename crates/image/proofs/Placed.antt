-- The statements of a program one after the other, each with its place, context and position: from a place on, and the position after one.
use mathlib.Core.Path.{◌≡◌, refl, ap, ◌∙◌}
use mathlib.Core.List.{[], ◌∷◌}
use Prim.Native.Nat.{ℕ, zero, suc, ◌≤◌, ◌<◌}
use native.Mathlib.Omega.{arith}
use lib.ListN.{length, drop, drop_of_length-le}
use lib.Seq.{drop-cons}
use Rattle.rules.specs.Programs.{Program, at}
use Rattle.rules.specs.Layout.{after, position, position_from}
use Rattle.rules.specs.Names.{Placed, placed, context_at}
use Rattle.rules.proofs.Laws.{length_placed, placed_at_lem}

position_first : (q : ℕ) (p : Program) → position_from q p zero ≡ q
unfolding position_from
position_first q [] = refl
position_first q (s ∷ p) = refl

position_from_lem : (q : ℕ) (p : Program) (i : ℕ) → i < length p → position_from q p (suc i) ≡ after (position_from q p i) (at p i)
unfolding position_from
position_from_lem q [] i l = absurd (omega arith)
position_from_lem q (s ∷ p) zero l = position_first (after q s) p
position_from_lem q (s ∷ p) (suc i) l = position_from_lem (after q s) p i (omega arith)

pub position_start : (p : Program) → position p zero ≡ 0
unfolding position
position_start p = position_first 0 p

pub position_after : (p : Program) (i : ℕ) → i < length p → position p (suc i) ≡ after (position p i) (at p i)
unfolding position
position_after p i l = position_from_lem 0 p i l

-- the statement at place i, with where it stands
abbrev pub placed_at : Program → (i : ℕ) → Placed
placed_at p i = record { place = i; context = context_at p i; position = position p i; stmt = at p i }

count_placed : (p : Program) → length (placed p) ≡ length p
unfolding placed
count_placed p = length_placed 0 0 0 p

pub placed_drop : (p : Program) (i : ℕ) → i < length p → drop i (placed p) ≡ placed_at p i ∷ drop (suc i) (placed p)
placed_drop p i l =
    drop-cons (placed p) i (placed_at p i) (omega (arith, count_placed p))
    ∙ ap (λ x. x ∷ drop (suc i) (placed p)) (placed_at_lem p i (placed_at p i) l)

pub placed_end : (p : Program) (i : ℕ) → length p ≤ i → drop i (placed p) ≡ []
placed_end p i l = drop_of_length-le (placed p) {i = i} (omega (arith, count_placed p))
