-- `put_run` meets its contract: after k turns the table has k pairs more. Assumes nothing.
use mathlib.Core.Path.{◌≡◌, sym, ◌∙◌}
use mathlib.Core.List.{append-nil, append_assoc}
use Prim.Native.Nat.{◌+◌, ◌<◌}
use native.Mathlib.Omega.{arith}
use Rattle.pairing.specs.Pairings.{run_of}
use Rattle.pairing.specs.Tables.{pairs_in}
use Rattle.pairing.proofs.Tables.{pairs_more, size_stored, run_more}
use Rattle.pairing.proofs.found.put_run.Goals as goal

pub loop-k-init : goal.loop-k-init
unfolding run_of
loop-k-init c =
    let z : c.args.at + 0 ≡ c.args.at = omega arith in
    (c.requires.3, rw z (sym (append-nil (pairs_in c.args.pairs.now c.args.at))))

pub loop-k-preserved : goal.loop-k-preserved
loop-k-preserved c =
    let t = c.loop-k in
    let a = c.args in
    let p = c.requires in
    let h : a.at + t.k < 1024 = omega (arith, p.0) in
    let z : a.at + (t.k + 1) ≡ a.at + t.k + 1 = omega arith in (
      size_stored t.pairs (a.at + t.k) _ _ h t.invariant.0,
      rw z (pairs_more t.pairs (a.at + t.k) _ _ h t.invariant.0 ∙ rw (t.invariant.1, run_more t.k a.i a.j)
          (append_assoc (pairs_in a.pairs.now a.at) (run_of t.k a.i a.j) _)),
    )
