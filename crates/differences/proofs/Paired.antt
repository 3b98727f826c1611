-- What the table of pairs holds: the pairs of a list that is given, those of what is alike, or 13.
use mathlib.Core.Path.{◌≡◌, refl, ap, ◌∙◌}
use mathlib.Core.List.{List, [], ◌∷◌}
use mathlib.Core.Bool.{Bool, true, false, ◌&&◌, cond}
use Prim.Native.Nat.{ℕ, suc, ◌≤◌, ◌<◌}
use native.Mathlib.Omega.{arith}
use lib.Dec.{leb, ltb}
use lib.ListN.{length, take}
use lib.Seq.{take_all}
use Rattle.std.proofs.Math.Option.{Option, none, some}
use Rattle.std.specs.Prelude.{Err, Ok}
use Rattle.rules.specs.declared.Refusal.TheVariants.{Pairing}
use Rattle.pairing.specs.Pairings.{Frames, entries_of, pairs_from, good_from, good_entries, default_pairs}
use Rattle.pairing.specs.Tables.{pairs_in}
use Rattle.pairing.proofs.EntryList.{length_pairs}
use Rattle.differences.specs.Entry.{PairedAs}

good_most : (n m low j : ℕ) (is : List ℕ) → good_from n m low j is ≤ length is
unfolding good_from
good_most n m low j [] = omega arith
good_most n m low j (i ∷ is) = on (leb low i && (ltb i n && ltb j m)) (good_most n m (suc i) (suc j) is)
  where
    on : (t : Bool) → good_from n m (suc i) (suc j) is ≤ length is → cond t (suc (good_from n m (suc i) (suc j) is)) 0 ≤ suc (length is)
    on true h = omega arith
    on false h = omega arith

module _ (a b : Frames) (o : Option (List ℕ)) (pairs : List ℕ) where
  pub paired_alike : (k : ℕ) → o ≡ none → pairs_in pairs k ≡ default_pairs a b → k ≤ 1024
      → PairedAs a b o pairs (Ok k)
  unfolding good_entries good_from
  paired_alike k e h l = rw e (refl, h, l)

  module _ (pairing : List ℕ) (n m r : ℕ) (e : o ≡ some pairing) (x : n ≡ length a) (y : m ≡ length b) (g : r ≡ good_entries n m (entries_of pairing)) where
    same_good : r ≡ good_entries (length a) (length b) (entries_of pairing)
    same_good = g ∙ rw (x, y)

    pub paired_entries : length (entries_of pairing) ≤ r → pairs_in pairs r ≡ take r (pairs_from 0 (entries_of pairing)) → r ≤ 1024
        → PairedAs a b o pairs (Ok r)
    paired_entries l h few =
        let most : good_entries (length a) (length b) (entries_of pairing) ≤ length (entries_of pairing) =
        unfold good_entries in good_most (length a) (length b) 0 0 (entries_of pairing) in
        rw e (
          omega (arith, same_good),
          h ∙ take_all r (pairs_from 0 (entries_of pairing)) (omega (arith, length_pairs 0 (entries_of pairing))),
          few,
        )

    pub paired_bad : r < length (entries_of pairing) → PairedAs a b o pairs (Err (Pairing r))
    paired_bad l = rw e (omega (arith, same_good), ap Pairing same_good)
