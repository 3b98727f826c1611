-- `put_all` meets its contract: what is left of the text, stored where the last piece ended, makes the whole. Assumes nothing.
use mathlib.Core.Path.{◌≡◌, refl, sym, ap, ap₂, ◌∙◌}
use mathlib.Core.List.{List, ◌++◌}
use Prim.Native.Nat.{ℕ, ◌+◌, ◌-◌, ◌≤◌, ◌<◌}
use native.Mathlib.Omega.{arith}
use lib.ListN.{length, get_or, drop, length-append}
use Rattle.rules.specs.Listing.{unhex}
use Rattle.rules.specs.Output.{line_of}
use Rattle.digits.specs.Digits.{laid}
use Rattle.pairing.specs.Pairings.{frames_of}
use Rattle.pairing.specs.Lines.{Written}
use Rattle.pairing.specs.Tables.{pairs_in}
use Rattle.pairing.proofs.Frames.{frames_count}
use Rattle.differences.specs.Changes.{paired, bytes_of}
use Rattle.differences.specs.Walks.{run_text}
use Rattle.differences.proofs.Steps.{order_within}
use Rattle.differences.proofs.Turns.{left, left_first, left_turn, left_length}
use Rattle.differences.proofs.Turns.{left_ends, pair_line, Next, order_turn, three_laid, two_pieces}
use Rattle.differences.proofs.walks.put_all.Goals as goal
use Rattle.differences.proofs.walks.put_all.Goals.{In-loop-k, After-line_at-in-loop-k, After-loop-k}

-- what is known of a pair that is looked at
module _ (g : In-loop-k) where
  abbrev p : ℕ
  p = get_or g.args.pairs.now g.loop-k.k 0

  abbrev q : ℕ
  q = get_or g.args.pairs.now (1024 + g.loop-k.k) 0

  next : let a = g.args in let t = g.loop-k in
      Next a.counts.first a.counts.second t.i t.j p q (drop (t.k + 1) (pairs_in a.pairs.now a.counts.pairs))
  next =
      let a = g.args in
      let t = g.loop-k in
      order_turn a.pairs.now a.counts.pairs t.k a.counts.first a.counts.second t.i t.j (omega arith) t.invariant.0

  abbrev removed : List ℕ
  removed = run_text 0x71 (frames_of g.args.first.now) (p - g.loop-k.i) g.loop-k.i

  abbrev added : List ℕ
  added = run_text 0x72 (frames_of g.args.second.now) (q - g.loop-k.j) g.loop-k.j

  abbrev one : List ℕ
  one = pair_line g.args.first.now g.args.second.now p q

  abbrev rest : List ℕ
  rest = left g.args.first.now g.args.second.now g.args.pairs.now g.args.counts.pairs (p + 1)
      (q + 1) (g.loop-k.k + 1)

  -- the room that is left holds all of them
  fits : g.loop-k.at + (length removed + (length added + (length one + length rest))) ≤ length g.args.out.now
  fits =
      let a = g.args in
      let t = g.loop-k in
      omega (
        arith,
        left_length a.first.now a.second.now a.pairs.now a.counts.pairs t.i t.j t.k
            (omega arith),
        t.invariant.2,
      )

-- both lines of the pair
module _ (c : After-line_at-in-loop-k) where
  good_old : get_or c.args.pairs.now c.loop-k.k 0 < c.args.counts.first → Written c.line_at.result.now
  good_old h = rw c.line_at.ensures (c.requires.0.lined.written _ h)

  good_new : get_or c.args.pairs.now (1024 + c.loop-k.k) 0 < c.args.counts.second → Written c.line_at-in-loop-k.result.now
  good_new h = rw c.line_at-in-loop-k.ensures (c.requires.0.lined'.written _ h)

  line_is : let i = get_or c.args.pairs.now c.loop-k.k 0 in
      let j = get_or c.args.pairs.now (1024 + c.loop-k.k) 0 in
      line_of (bytes_of (paired i j (unhex c.line_at.result.now) (unhex c.line_at-in-loop-k.result.now))) ≡ pair_line c.args.first.now c.args.second.now i j
  line_is = ap₂ (λ (x y : List ℕ). line_of (bytes_of (paired (get_or c.args.pairs.now c.loop-k.k 0) (get_or c.args.pairs.now (1024 + c.loop-k.k) 0) (unhex x) (unhex y))))
      c.line_at.ensures c.line_at-in-loop-k.ensures

-- what is left behind the last pair
module _ (c : After-loop-k) where
  within : (c.loop-k.i ≤ c.args.counts.first) × (c.loop-k.j ≤ c.args.counts.second)
  within =
      let a = c.args in
      order_within a.counts.first a.counts.second c.loop-k.i c.loop-k.j
      (drop c.loop-k.k (pairs_in a.pairs.now a.counts.pairs)) c.loop-k.invariant.0

  abbrev end_removed : List ℕ
  end_removed = run_text 0x71 (frames_of c.args.first.now) (c.args.counts.first - c.loop-k.i) c.loop-k.i

  abbrev end_added : List ℕ
  end_added = run_text 0x72 (frames_of c.args.second.now) (c.args.counts.second - c.loop-k.j) c.loop-k.j

  ends : end_removed ++ end_added
      ≡ left c.args.first.now c.args.second.now c.args.pairs.now c.args.counts.pairs c.loop-k.i c.loop-k.j c.loop-k.k
  ends =
      let a = c.args in
      left_ends a.first.now a.second.now a.pairs.now a.counts.pairs _ _ _ _ _
      (frames_count a.first.now ∙ sym c.requires.0.lined.count) (frames_count a.second.now ∙ sym c.requires.0.lined'.count)
      (omega arith)

  end_fits : c.loop-k.at + (length end_removed + length end_added) ≤ length c.args.out.now
  end_fits = omega (arith, ap length ends, length-append end_removed end_added, c.loop-k.invariant.2)

pub loop-k-init : goal.loop-k-init
loop-k-init c =
    let a = c.args in
    let e = left_first a.first.now a.second.now a.pairs.now a.counts in
    (c.requires.0.order, refl, omega (arith, ap length e, c.requires.1), ap (laid a.out.now 0) e)

pub put_run-at-requires : goal.put_run-at-requires
put_run-at-requires c =
    let g = (goal.at.put_run-at-requires c).In-loop-k in
    (c.requires.0.lined, (next g).low, omega (arith, (next g).high), omega (arith, fits g, c.loop-k.invariant.1))

pub put_run-at-requires-in-loop-k : goal.put_run-at-requires-in-loop-k
put_run-at-requires-in-loop-k c =
    let g = (goal.at.put_run-at-requires-in-loop-k c).In-loop-k in
    let r = c.put_run-at in (
      c.requires.0.lined',
      (next g).low',
      omega (arith, (next g).high'),
      omega (arith, fits g, c.loop-k.invariant.1, r.auto.out, r.ensures.1),
    )

pub line_at-requires : goal.line_at-requires
line_at-requires c = (c.requires.0.lined, (next (goal.at.line_at-requires c).In-loop-k).high)

pub line_at-requires-in-loop-k : goal.line_at-requires-in-loop-k
line_at-requires-in-loop-k c = (c.requires.0.lined', (next (goal.at.line_at-requires-in-loop-k c).In-loop-k).high')

pub put_pair-at-requires : goal.put_pair-at-requires
put_pair-at-requires c =
    let g = (goal.at.put_pair-at-requires c).In-loop-k in
    let h = (goal.at.put_pair-at-requires c).After-line_at-in-loop-k in
    let r = c.put_run-at in
    let s = c.put_run-at-in-loop-k in (
      good_old h (next g).high,
      good_new h (next g).high',
      omega (arith, (next g).high, c.requires.0.lined.few),
      omega (arith, (next g).high', c.requires.0.lined'.few),
      omega (arith, ap length (line_is h), fits g, r.ensures.1, s.ensures.1, r.auto.out, s.auto.out, c.loop-k.invariant.1),
    )

pub overflow_add-i : goal.overflow_add-i
overflow_add-i c = omega (arith, (next (goal.at.overflow_add-i c).In-loop-k).high, c.requires.0.lined.few)

pub overflow_add-j : goal.overflow_add-j
overflow_add-j c = omega (arith, (next (goal.at.overflow_add-j c).In-loop-k).high', c.requires.0.lined'.few)

pub loop-k-preserved : goal.loop-k-preserved
loop-k-preserved c =
    let g = (goal.at.loop-k-preserved c).In-loop-k in
    let line = line_is (goal.at.loop-k-preserved c).After-line_at-in-loop-k in
    let a = c.args in
    let t = c.loop-k in
    let r = c.put_run-at in
    let s = c.put_run-at-in-loop-k in
    let w = c.put_pair-at in
    let x : w.new.out ≡ laid s.new.out s.result (one g) = w.ensures.0 ∙ ap (laid s.new.out s.result) line in
    let y : w.result ≡ s.result + length (one g) = w.ensures.1 ∙ ap (λ (o : List ℕ). s.result + length o) line in (
      (next g).rest,
      w.auto.out ∙ s.auto.out ∙ r.auto.out ∙ t.invariant.1,
      omega (arith, fits g, y, r.ensures.1, s.ensures.1),
      three_laid t.out r.new.out s.new.out w.new.out (removed g) (added g) (one g) (rest g) t.at r.result s.result w.result r.ensures.0 s.ensures.0 x
          r.ensures.1 s.ensures.1 y (omega (arith, fits g, y, r.ensures.1, s.ensures.1, t.invariant.1))
          ∙ ap (laid t.out t.at) (left_turn a.first.now a.second.now a.pairs.now a.counts.pairs t.i t.j t.k (omega arith)) ∙ t.invariant.3,
    )

pub put_run-at-requires-2 : goal.put_run-at-requires-2
put_run-at-requires-2 c =
    let h = (goal.at.put_run-at-requires-2 c).After-loop-k in
    (c.requires.0.lined, (within h).0, omega arith, omega (arith, end_fits h, c.loop-k.invariant.1))

pub put_run-requires : goal.put_run-requires
put_run-requires c =
    let h = (goal.at.put_run-requires c).After-loop-k in
    let r = c.put_run-at-2 in
    (c.requires.0.lined', (within h).1, omega arith, omega (arith, end_fits h, c.loop-k.invariant.1, r.auto.out, r.ensures.1))

pub returns : goal.returns
returns c =
    let h = (goal.at.returns c).After-loop-k in
    let s = c.put_run in
    let r = c.put_run-at-2 in
    let t = c.loop-k in
    two_pieces t.out r.new.out s.new.out (end_removed h) (end_added h) t.at r.result r.ensures.0 s.ensures.0 r.ensures.1
    (omega (arith, end_fits h, t.invariant.1, r.ensures.1))
    ∙ ap (laid t.out t.at) (ends h) ∙ t.invariant.3
