-- "two equal listings, with no pairing given, are all kept".
use mathlib.Core.Path.{◌≡◌, refl}
use mathlib.Core.List.{[], ◌∷◌, ◌++◌}
use Prim.Native.Nat.{ℕ, zero, suc, ◌+◌, ◌-◌}
use native.Mathlib.Omega.{arith}
use lib.ListN.{length, get_or}
use lib.Seq.{drop-length}
use Rattle.laws.proofs.Lists.{same_refl}
use Rattle.pairing.specs.Pairings.{Frames, common, run_of, default_pairs}
use Rattle.differences.specs.Changes.{removed_from, added_from, between, changes_of}
use Rattle.differences.specs.Promise.{all_kept, AllKept}

common_self : (a : Frames) → common a a ≡ length a
unfolding common
common_self [] = refl
common_self (x ∷ a) = rw (same_refl x, common_self a)

kept_run : (a : Frames) (k i : ℕ) → i + k ≡ length a → between a a i i (run_of k i i ++ []) ≡ all_kept a k i
unfolding between run_of all_kept removed_from added_from
kept_run a zero i e = let z : length a - i ≡ 0 = omega arith in rw z
kept_run a (suc k) i e =
    let z : i - i ≡ 0 = omega arith in
    rw (z, same_refl (get_or a i []), kept_run a k (suc i) (omega arith))

pub all_kept_lem : (a : Frames) → AllKept a
unfolding changes_of default_pairs run_of common
all_kept_lem a = rw (common_self a, drop-length a) (kept_run a (length a) 0 (omega arith))
