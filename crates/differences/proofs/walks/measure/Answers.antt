-- `measure` meets its contract: what is counted, and what the pairs that are left and the rest have, come to the whole. Assumes nothing.
use mathlib.Core.Path.{◌≡◌, sym, ap, ap₂, ◌∙◌}
use mathlib.Core.List.{List}
use Prim.Native.Nat.{ℕ, ◌+◌, ◌-◌, ◌*◌, ◌≤◌, ◌<◌}
use native.Mathlib.Omega.{arith}
use lib.ListN.{length, get_or, drop, length-append}
use Rattle.rules.specs.Listing.{unhex}
use Rattle.rules.specs.Output.{line_of}
use Rattle.pairing.specs.Pairings.{frames_of}
use Rattle.pairing.specs.Tables.{pairs_in}
use Rattle.pairing.specs.Lines.{Written}
use Rattle.pairing.proofs.Frames.{frames_count}
use Rattle.differences.specs.Changes.{paired, bytes_of}
use Rattle.differences.specs.Walks.{run_text}
use Rattle.differences.proofs.Pieces.{pair_bound}
use Rattle.differences.proofs.Sizes.{asked, comes_to}
use Rattle.differences.proofs.Steps.{order_within}
use Rattle.differences.proofs.Turns.{left_first, left_length, left_none, pair_line, Next, order_turn}
use Rattle.differences.proofs.walks.measure.Goals as goal
use Rattle.differences.proofs.walks.measure.Goals.{In-loop-k, After-line_at-in-loop-k, After-pair_size-size, After-loop-k}

-- what is known of a pair that is looked at
module _ (g : In-loop-k) where
  -- no listing is left behind
  reach : (g.loop-k.i ≤ g.args.counts.first) × (g.loop-k.j ≤ g.args.counts.second)
  reach =
      let a = g.args in
      let t = g.loop-k in
      order_within a.counts.first a.counts.second t.i t.j (drop t.k (pairs_in a.pairs.now a.counts.pairs)) t.invariant.0

  next : let a = g.args in let t = g.loop-k in
      Next a.counts.first a.counts.second t.i t.j (get_or a.pairs.now t.k 0) (get_or a.pairs.now (1024 + t.k) 0)
      (drop (t.k + 1) (pairs_in a.pairs.now a.counts.pairs))
  next =
      let a = g.args in
      let t = g.loop-k in
      order_turn a.pairs.now a.counts.pairs t.k a.counts.first a.counts.second t.i t.j (omega arith) t.invariant.0

  removed_is : (r : ℕ) → let a = g.args in let t = g.loop-k in let p = get_or a.pairs.now t.k 0 in
      r ≡ get_or a.firsts.now p 0 - get_or a.firsts.now t.i 0 + 6 * (p - t.i)
      → (r ≡ length (run_text 0x71 (frames_of a.first.now) (p - t.i) t.i)) × (r ≤ 255 * (p - t.i))
  removed_is r e = comes_to 0x71 _ _ _ g.requires.lined _ _ r next.low (omega (arith, next.high)) e

  added_is : (r : ℕ) → let a = g.args in let t = g.loop-k in let q = get_or a.pairs.now (1024 + t.k) 0 in
      r ≡ get_or a.seconds.now q 0 - get_or a.seconds.now t.j 0 + 6 * (q - t.j)
      → (r ≡ length (run_text 0x72 (frames_of a.second.now) (q - t.j) t.j)) × (r ≤ 255 * (q - t.j))
  added_is r e = comes_to 0x72 _ _ _ g.requires.lined' _ _ r next.low' (omega (arith, next.high')) e

-- both lines of the pair
module _ (c : After-line_at-in-loop-k) where
  good_old : get_or c.args.pairs.now c.loop-k.k 0 < c.args.counts.first → Written c.line_at.result.now
  good_old h = rw c.line_at.ensures (c.requires.lined.written _ h)

  good_new : get_or c.args.pairs.now (1024 + c.loop-k.k) 0 < c.args.counts.second → Written c.line_at-in-loop-k.result.now
  good_new h = rw c.line_at-in-loop-k.ensures (c.requires.lined'.written _ h)

-- what was counted for the pair
module _ (c : After-pair_size-size) where
  pair_is : let a = c.args in let t = c.loop-k in
      c.pair_size-size.result ≡ length (pair_line a.first.now a.second.now (get_or a.pairs.now t.k 0)
      (get_or a.pairs.now (1024 + t.k) 0))
  pair_is =
      let a = c.args in
      let t = c.loop-k in
      let p = get_or a.pairs.now t.k 0 in
      let q = get_or a.pairs.now (1024 + t.k) 0 in
      c.pair_size-size.ensures p q
      ∙ ap₂ (λ (x y : List ℕ). length (line_of (bytes_of (paired p q (unhex x) (unhex y))))) c.line_at.ensures
      c.line_at-in-loop-k.ensures

  short : Written c.line_at.result.now → Written c.line_at-in-loop-k.result.now → c.pair_size-size.result ≤ 509
  short v w = omega (arith, c.pair_size-size.ensures 0 0, pair_bound 0 0 _ _ v w)

-- what is left behind the last pair
module _ (c : After-loop-k) where
  within : (c.loop-k.i ≤ c.args.counts.first) × (c.loop-k.j ≤ c.args.counts.second)
  within =
      let a = c.args in
      let t = c.loop-k in
      order_within a.counts.first a.counts.second t.i t.j (drop t.k (pairs_in a.pairs.now a.counts.pairs)) t.invariant.0

  done : c.loop-k.size ≤ 524288
  done = omega (arith, c.loop-k.invariant.1, within, c.requires.lined.few, c.requires.lined'.few)

  rest_removed : (r : ℕ)
      → r ≡ get_or c.args.firsts.now c.args.counts.first 0 - get_or c.args.firsts.now c.loop-k.i 0 + 6 *
      (c.args.counts.first - c.loop-k.i)
      → (r ≡ length (run_text 0x71 (frames_of c.args.first.now) (c.args.counts.first - c.loop-k.i) c.loop-k.i))
      × (r ≤ 255 * (c.args.counts.first - c.loop-k.i))
  rest_removed r e = comes_to 0x71 _ _ _ c.requires.lined _ _ r within.0 (omega arith) e

  rest_added : (r : ℕ) → r ≡ get_or c.args.seconds.now c.args.counts.second 0 - get_or c.args.seconds.now
      c.loop-k.j 0 + 6 * (c.args.counts.second - c.loop-k.j)
      → (r ≡ length (run_text 0x72 (frames_of c.args.second.now) (c.args.counts.second - c.loop-k.j) c.loop-k.j))
      × (r ≤ 255 * (c.args.counts.second - c.loop-k.j))
  rest_added r e = comes_to 0x72 _ _ _ c.requires.lined' _ _ r within.1 (omega arith) e

pub loop-k-init : goal.loop-k-init
loop-k-init c =
    let a = c.args in
    let e = ap length (left_first a.first.now a.second.now a.pairs.now a.counts) in
    (c.requires.order, omega arith, omega (arith, e))

pub run_size-size-requires : goal.run_size-size-requires
run_size-size-requires c =
    let n = next (goal.at.run_size-size-requires c).In-loop-k in
    asked _ _ _ c.requires.lined _ _ n.low (omega (arith, n.high))

pub overflow_add-size : goal.overflow_add-size
overflow_add-size c =
    let g = (goal.at.overflow_add-size c).In-loop-k in
    let r = removed_is g _ c.run_size-size.ensures in
    omega (arith, r.1, c.loop-k.invariant.1, reach g, (next g).high, c.requires.lined.few, c.requires.lined'.few)

pub run_size-size-requires-in-loop-k : goal.run_size-size-requires-in-loop-k
run_size-size-requires-in-loop-k c =
    let n = next (goal.at.run_size-size-requires-in-loop-k c).In-loop-k in
    asked _ _ _ c.requires.lined' _ _ n.low' (omega (arith, n.high'))

pub overflow_add-size-in-loop-k : goal.overflow_add-size-in-loop-k
overflow_add-size-in-loop-k c =
    let g = (goal.at.overflow_add-size-in-loop-k c).In-loop-k in
    let r = removed_is g _ c.run_size-size.ensures in
    let s = added_is g _ c.run_size-size-in-loop-k.ensures in
    omega (arith, reach g, c.loop-k.invariant.1, r.1, s.1, (next g).high, (next g).high', c.requires.lined.few, c.requires.lined'.few)

pub line_at-requires : goal.line_at-requires
line_at-requires c = (c.requires.lined, (next (goal.at.line_at-requires c).In-loop-k).high)

pub line_at-requires-in-loop-k : goal.line_at-requires-in-loop-k
line_at-requires-in-loop-k c = (c.requires.lined', (next (goal.at.line_at-requires-in-loop-k c).In-loop-k).high')

pub pair_size-size-requires : goal.pair_size-size-requires
pair_size-size-requires c =
    let n = next (goal.at.pair_size-size-requires c).In-loop-k in
    let h = (goal.at.pair_size-size-requires c).After-line_at-in-loop-k in
    (good_old h n.high, good_new h n.high')

pub overflow_add-size-in-loop-k-2 : goal.overflow_add-size-in-loop-k-2
overflow_add-size-in-loop-k-2 c =
    let g = (goal.at.overflow_add-size-in-loop-k-2 c).In-loop-k in
    let h = (goal.at.overflow_add-size-in-loop-k-2 c).After-line_at-in-loop-k in
    let p = (goal.at.overflow_add-size-in-loop-k-2 c).After-pair_size-size in
    let n = next g in
    let r = removed_is g _ c.run_size-size.ensures in
    let s = added_is g _ c.run_size-size-in-loop-k.ensures in
    let m = short p (good_old h n.high) (good_new h n.high') in
    omega (arith, m, r.1, s.1, c.loop-k.invariant.1, n.low, n.low', n.high, n.high', c.requires.lined.few, c.requires.lined'.few)

pub overflow_add-i : goal.overflow_add-i
overflow_add-i c = omega (arith, (next (goal.at.overflow_add-i c).In-loop-k).high, c.requires.lined.few)

pub overflow_add-j : goal.overflow_add-j
overflow_add-j c = omega (arith, (next (goal.at.overflow_add-j c).In-loop-k).high', c.requires.lined'.few)

pub loop-k-preserved : goal.loop-k-preserved
loop-k-preserved c =
    let g = (goal.at.loop-k-preserved c).In-loop-k in
    let h = (goal.at.loop-k-preserved c).After-line_at-in-loop-k in
    let p = (goal.at.loop-k-preserved c).After-pair_size-size in
    let a = c.args in
    let t = c.loop-k in
    let n = next g in
    let r = removed_is g _ c.run_size-size.ensures in
    let s = added_is g _ c.run_size-size-in-loop-k.ensures in
    let m = short p (good_old h n.high) (good_new h n.high') in
    let e = left_length a.first.now a.second.now a.pairs.now a.counts.pairs t.i t.j t.k (omega arith) in (
      n.rest,
      omega (arith, m, r.1, s.1, t.invariant.1, n.low, n.low'),
      omega (arith, e, pair_is p, r.0, s.0, t.invariant.2),
    )

pub run_size-requires : goal.run_size-requires
run_size-requires c = asked _ _ _ c.requires.lined _ _ (within (goal.at.run_size-requires c).After-loop-k).0 (omega arith)

pub overflow_add-result : goal.overflow_add-result
overflow_add-result c = omega (arith, done (goal.at.overflow_add-result c).After-loop-k, (rest_removed (goal.at.overflow_add-result c).After-loop-k _ c.run_size.ensures).1, c.requires.lined.few)

pub run_size-requires-2 : goal.run_size-requires-2
run_size-requires-2 c = asked _ _ _ c.requires.lined' _ _ (within (goal.at.run_size-requires-2 c).After-loop-k).1 (omega arith)

pub overflow_add-result-2 : goal.overflow_add-result-2
overflow_add-result-2 c = omega (
  arith,
  done (goal.at.overflow_add-result-2 c).After-loop-k,
  (rest_removed (goal.at.overflow_add-result-2 c).After-loop-k _ c.run_size.ensures).1,
  (rest_added (goal.at.overflow_add-result-2 c).After-loop-k _ c.run_size-2.ensures).1,
  c.requires.lined.few,
  c.requires.lined'.few,
)

pub returns : goal.returns
returns c =
    let a = c.args in
    let t = c.loop-k in
    let x = rest_removed (goal.at.returns c).After-loop-k _ c.run_size.ensures in
    let y = rest_added (goal.at.returns c).After-loop-k _ c.run_size-2.ensures in
    let n : length (frames_of a.first.now) ≡ a.counts.first = frames_count a.first.now ∙ sym c.requires.lined.count in
    let m : length (frames_of a.second.now) ≡ a.counts.second = frames_count a.second.now ∙ sym c.requires.lined'.count in
    let e = rw (n, m) at (left_none a.first.now a.second.now a.pairs.now a.counts.pairs t.i t.j t.k
    (omega arith)) in
    omega (
      arith,
      x.0,
      y.0,
      t.invariant.2,
      ap length e,
      length-append (run_text 0x71 (frames_of a.first.now) (a.counts.first - t.i) t.i)
          (run_text 0x72 (frames_of a.second.now) (a.counts.second - t.j) t.j),
    )
