-- `pair_alike` meets its contract: the run of the beginning, and behind it the run of the end. Assumes nothing.
use mathlib.Core.Path.{◌≡◌, sym, ◌∙◌}
use mathlib.Core.List.{List, ◌++◌}
use Prim.Native.Nat.{ℕ, ◌+◌, ◌-◌}
use native.Mathlib.Omega.{arith}
use lib.ListN.{length}
use Rattle.laws.specs.Counts.{tab}
use Rattle.pairing.specs.Pairings.{Frames, frames_of, beginning, ending, run_of, default_pairs}
use Rattle.pairing.specs.Tables.{pairs_in}
use Rattle.pairing.proofs.Frames.{frames_count}
use Rattle.pairing.proofs.found.pair_alike.Goals as goal

-- two runs behind one another
both_runs : (a b : Frames) (x y n m : ℕ) (p q r : List ℕ) → x ≡ beginning a b → y ≡ ending a b → n ≡ length a → m ≡ length b
    → pairs_in q (0 + x) ≡ pairs_in p 0 ++ run_of x 0 0 → pairs_in r (x + y) ≡ pairs_in q x ++ run_of y (n - y) (m - y)
    → pairs_in r (x + y) ≡ default_pairs a b
unfolding pairs_in tab default_pairs
both_runs a b x y n m p q r e f g h first second =
    let z : 0 + x ≡ x = omega arith in
    second ∙ rw (rw z at first, e, f, g, h)

pub returns : goal.returns
returns c =
    let second = c.put_run-2.ensures in
    let first = c.put_run.ensures in
    let x = c.alike_first-b.ensures in
    let y = c.alike_last-e.ensures in
    let t = c.args.first.now in
    let u = c.args.second.now in (
      both_runs (frames_of t) (frames_of u) _ _ c.args.n c.args.m c.args.pairs.now _ _ x.0 y.0
          (c.requires.0.count ∙ sym (frames_count t)) (c.requires.1.count ∙ sym (frames_count u)) first.0 second.0,
      omega (arith, y.1, c.requires.0.few),
    )
