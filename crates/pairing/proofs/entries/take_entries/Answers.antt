-- `take_entries` meets its contract: the entries passed were good, stand in the table, and are above one another. Assumes nothing.
use mathlib.Core.Path.{◌≡◌, refl, sym, ◌∙◌}
use mathlib.Core.List.{List}
use mathlib.Core.Bool.{true, ◌&&◌}
use Prim.Native.Nat.{ℕ, ◌+◌, ◌<◌}
use native.Mathlib.Numerals.{add-one}
use native.Mathlib.Omega.{arith}
use lib.Dec.{leb, ltb}
use lib.ListN.{length, get_or, take, drop, set}
use borrow.Author.Tests.{ltb-true}
use Rattle.laws.specs.Counts.{tab}
use Rattle.laws.proofs.Tests.{and_true}
use Rattle.pairing.specs.Pairings.{entries_of, pairs_from, good_from, good_entries}
use Rattle.pairing.specs.Tables.{pairs_in}
use Rattle.pairing.proofs.EntryList.{good_more, good_stop, good_end, take_pairs}
use Rattle.pairing.proofs.Tables.{pairs_more, size_stored}
use Rattle.pairing.proofs.entries.take_entries.Goals as goal

-- one entry more
one_more : (n m low : ℕ) (is : List ℕ) (k i : ℕ) (p : List ℕ) → k < length is → k < 1024 → length p ≡ 2048 → i ≡ get_or is k 0
    → leb low (get_or is k 0) && (ltb (get_or is k 0) n && ltb k m) ≡ true → k + good_from n m low k (drop k is) ≡ good_entries n m is
    → pairs_in p k ≡ take k (pairs_from 0 is)
    → (k + 1 + good_from n m (i + 1) (k + 1) (drop (k + 1) is) ≡ good_entries n m is)
    × (pairs_in (set (set p k i) (1024 + k) k) (k + 1) ≡ take (k + 1) (pairs_from 0 is))
one_more n m low is k i p h few size e t g q =
    let z = good_more n m low is k h t in (
      rw (e, add-one (get_or is k 0), add-one k) (omega (arith, g, z)),
      pairs_more p k i k few size ∙ rw (q, e, add-one k) (sym (take_pairs is k h)),
    )

pub loop-k-init : goal.loop-k-init
unfolding good_entries pairs_in tab
loop-k-init c = (omega arith, omega arith, c.requires.2, omega arith, refl)

pub returns-then-not-is_good : goal.returns-then-not-is_good
returns-then-not-is_good c =
    let t = c.loop-k in
    let is = entries_of c.args.pairing.now in
    let there : t.k < length is = omega (arith, c.entry_count-count.ensures) in
    let z = good_stop c.args.n c.args.m t.low is t.k there (rw (← c.entry-i.ensures.0) (sym c.is_good.ensures ∙ c.if-not-is_good.true)) in
    (omega (arith, t.invariant.3, z), t.invariant.4, omega (arith, t.invariant.0, c.requires.1))

pub loop-k-preserved : goal.loop-k-preserved
loop-k-preserved c =
    let t = c.loop-k in
    let i = c.entry-i.result in
    let is = entries_of c.args.pairing.now in
    let there : t.k < length is = omega (arith, c.entry_count-count.ensures) in
    let good : leb t.low i && (ltb i c.args.n && ltb t.k c.args.m) ≡ true = sym c.is_good.ensures ∙ c.if-not-is_good.false in
    let below = ltb-true t.k c.args.m (and_true (ltb i c.args.n) _ (and_true (leb t.low i) _ good).1).1 in
    let few : t.k < 1024 = omega (arith, below, c.requires.1) in
    let next = one_more c.args.n c.args.m t.low is t.k i t.pairs there few t.invariant.2 c.entry-i.ensures.0 (rw (← c.entry-i.ensures.0) good)
    t.invariant.3 t.invariant.4 in
    (omega (arith, below), omega (arith, c.entry-i.ensures.1), size_stored t.pairs t.k _ _ few t.invariant.2, next.0, next.1)

pub returns : goal.returns
returns c =
    let t = c.loop-k in
    let e : t.k ≡ c.entry_count-count.result = omega arith in
    let z = good_end c.args.n c.args.m t.low (entries_of c.args.pairing.now) t.k
    (omega (arith, c.entry_count-count.ensures)) in
    rw (← e) (omega (arith, t.invariant.3, z), t.invariant.4, omega (arith, t.invariant.0, c.requires.1))
