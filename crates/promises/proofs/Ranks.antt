-- Where a slot stands in the output: behind as many statements as are not gone before it. What stands there, at which position, and whence it stems.
use mathlib.Core.Path.{◌≡◌, refl}
use mathlib.Core.List.{[], ◌∷◌, map}
use mathlib.Core.Bool.{Bool, true, false, cond}
use Prim.Native.Nat.{ℕ, zero, suc, ◌+◌, ◌≤◌, ◌<◌}
use native.Mathlib.Omega.{arith}
use lib.ListN.{length, get_or}
use Rattle.laws.specs.Lists.{total}
use Rattle.laws.proofs.Tests.{true_false}
use Rattle.rules.specs.Programs.{on_last, instr, Placeℕ, Addressℕ, Operand, Stmt, gone, Program, at, byte_count, retarget, is_gone}
use Rattle.rules.specs.Layout.{after, position_from, position}
use Rattle.rules.specs.Output.{compact, stems_from, stems, plain_target, write_back}
use Rattle.rules.proofs.Laws.{by_change}
use Rattle.promises.proofs.Compacts.{View, is_gone_lem, is_live, view, compact_live}

abbrev pub rank : Program → Placeℕ → Placeℕ
rank [] b = 0
rank (s ∷ p) zero = 0
rank (s ∷ p) (suc b) = cond (is_gone s) (rank p b) (suc (rank p b))

-- the statement there
pub at_rank : (p : Program) (b : Placeℕ) → is_gone (at p b) ≡ false → at (compact p) (rank p b) ≡ at p b
unfolding compact
at_rank [] b h = true_false h
at_rank (s ∷ p) zero h = rw h
at_rank (s ∷ p) (suc b) h = on (is_gone s) refl (at_rank p b h)
  where
    on : (g : Bool) → is_gone s ≡ g → at (compact p) (rank p b) ≡ at p b → at (cond g (compact p) (s ∷ compact p)) (cond g (rank p b) (suc (rank p b))) ≡ at p b
    on true e below = below
    on false e below = below

-- its position
position_from_rank : (q : Addressℕ) (p : Program) (b : Placeℕ) → is_gone (at p b) ≡ false → position_from q (compact p) (rank p b) ≡ position_from q p b
unfolding compact position_from
position_from_rank q [] b h = refl
position_from_rank q (s ∷ p) zero h = rw h
position_from_rank q (s ∷ p) (suc b) h = on (view s) (position_from_rank (after q s) p b h)
  where
    on : {s : Stmt} → View s → position_from (after q s) (compact p) (rank p b) ≡ position_from (after q s) p b
        → position_from q (cond (is_gone s) (compact p) (s ∷ compact p)) (cond (is_gone s) (rank p b) (suc (rank p b))) ≡ position_from (after q s) p b
    on is_gone_lem below = below
    on (is_live l) below = rw l below

-- from address 0
pub position_rank : (p : Program) (b : Placeℕ) → is_gone (at p b) ≡ false → position (compact p) (rank p b) ≡ position p b
unfolding position
position_rank p b h = position_from_rank 0 p b h

-- the place that it stems from
stems_from_rank : (i : Placeℕ) (p : Program) (b : Placeℕ) (d : Placeℕ) → is_gone (at p b) ≡ false → (rank p b < length (stems_from i p)) × (get_or (stems_from i p) (rank p b) d ≡ i + b)
unfolding stems_from
stems_from_rank i [] b d h = true_false h
stems_from_rank i (s ∷ p) zero d h = rw h (omega arith, omega arith)
stems_from_rank i (s ∷ p) (suc b) d h = on (is_gone s) (stems_from_rank (suc i) p b d h)
  where
    on : (g : Bool) → (rank p b < length (stems_from (suc i) p)) × (get_or (stems_from (suc i) p) (rank p b) d ≡ suc i + b)
        → (cond g (rank p b) (suc (rank p b)) < length (cond g (stems_from (suc i) p) (i ∷ stems_from (suc i) p)))
        × (get_or (cond g (stems_from (suc i) p) (i ∷ stems_from (suc i) p)) (cond g (rank p b) (suc (rank p b))) d ≡ i + suc b)
    on true below = (below.0, omega (arith, below.1))
    on false below = (omega (arith, below.0), omega (arith, below.1))

-- from place 0
pub stems_rank : (p : Program) (b : Placeℕ) (d : Placeℕ) → is_gone (at p b) ≡ false → (rank p b < length (stems p)) × (get_or (stems p) (rank p b) d ≡ b)
unfolding stems
stems_rank p b d h = let r = stems_from_rank 0 p b d h in (r.0, omega (arith, r.1))

-- ---- writing back drops nothing
pub gone_retarget : (f : Operand → Operand) (s : Stmt) → is_gone (retarget f s) ≡ is_gone s
gone_retarget f s = by_change (λ s t. is_gone t ≡ is_gone s) (λ x. instr x.form (on_last f x.args) x.carried) (λ g xs c. refl) (λ s n. refl) s

rank_map : (f : Operand → Operand) (p : Program) (b : Placeℕ) → rank (map (λ s. retarget f s) p) b ≡ rank p b
rank_map f [] b = refl
rank_map f (s ∷ p) zero = refl
rank_map f (s ∷ p) (suc b) = rw (gone_retarget f s, rank_map f p b)

-- so a slot stands where it stood
pub rank_write_back : (p : Program) (b : Placeℕ) → rank (write_back p) b ≡ rank p b
unfolding write_back
rank_write_back p b = rank_map (plain_target p) p b

-- what has a byte is not gone; nor is an instruction
pub byte_live : (q : Addressℕ) (s : Stmt) (o : ℕ) → o < byte_count q s → is_gone s ≡ false
byte_live q s o h = on (view s) h
  where
    on : {s : Stmt} → View s → o < byte_count q s → is_gone s ≡ false
    on is_gone_lem h = absurd (omega arith)
    on (is_live l) h = l

-- ---- sums and counts over what is left
pub total_compact : (w : Stmt → ℕ) → w gone ≡ 0 → (p : Program) → total w (compact p) ≡ total w p
unfolding total compact
total_compact w z [] = refl
total_compact w z (s ∷ p) = on (view s) (total_compact w z p)
  where
    on : {s : Stmt} → View s → total w (compact p) ≡ total w p → total w (compact (s ∷ p)) ≡ w s + total w p
    on is_gone_lem below = omega (arith, z)
    on {s} (is_live l) below = rw (compact_live s p l) (omega arith)

-- no more statements than slots
pub length_compact : (p : Program) → length (compact p) ≤ length p
unfolding compact
length_compact [] = omega arith
length_compact (s ∷ p) = on (is_gone s) (length_compact p)
  where
    on : (g : Bool) → length (compact p) ≤ length p → length (cond g (compact p) (s ∷ compact p)) ≤ suc (length p)
    on true below = omega arith
    on false below = omega arith
