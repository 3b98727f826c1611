-- `lines_length` meets its contract: what is passed and what the lines still to pass have come to the whole. Assumes nothing.
use mathlib.Core.Path.{◌≡◌}
use mathlib.Core.List.{List}
use Prim.Native.Nat.{ℕ, suc, ◌<◌, ◌+◌, ◌-◌}
use native.Mathlib.Numerals.{add-one}
use native.Mathlib.Omega.{arith}
use lib.ListN.{length, get_or, drop}
use Rattle.sits.specs.Before.{lines_length}
use Rattle.sits.proofs.LinesBefore.{lines_none, lines_end, lines_feed, lines_more}
use Rattle.sits.proofs.before.lines_length.Goals.{then-c-eq10, else-c-eq10}
use Rattle.sits.proofs.before.lines_length.Goals as goal

-- one byte more, where some lines are still to pass
module _ (t : List ℕ) (n passed i : ℕ) (h : i < length t) (some : passed < n) (inv : i + lines_length (n - passed) (drop i t) ≡ lines_length n t) where
  feed : (passed' : ℕ) → get_or t i 0 ≡ 10 → passed' ≡ passed + 1 → i + 1 + lines_length (n - passed') (drop (i + 1) t) ≡ lines_length n t
  feed passed' e z =
      let y : n - passed ≡ suc (n - passed') = omega arith in
      let g : lines_length (n - passed) (drop i t) ≡ suc (lines_length (n - passed') (drop (suc i) t)) =
      rw y (lines_feed t i h (n - passed') e) in
      rw add-one (omega (arith, g))

  more : (passed' : ℕ) → (get_or t i 0 ≡ 10 → ⊥) → passed' ≡ passed → i + 1 + lines_length (n - passed') (drop (i + 1) t) ≡ lines_length n t
  more passed' e z =
      let y : n - passed ≡ suc (n - passed - 1) = omega arith in
      let g : lines_length (n - passed) (drop i t) ≡ suc (lines_length (n - passed) (drop (suc i) t)) =
      rw y (lines_more t i h (n - passed - 1) e) in
      rw (z, add-one) (omega (arith, g))

pub returns-then-passed-n : goal.returns-then-passed-n
returns-then-passed-n c =
    let turn = c.loop-i in
    let text = c.args.text.now in
    let z : c.args.n - turn.passed ≡ 0 = omega arith in
    let none : lines_length (c.args.n - turn.passed) (drop turn.i text) ≡ 0 = rw z (lines_none (drop turn.i text)) in
    omega (arith, turn.invariant.2)

pub loop-i-preserved : goal.loop-i-preserved
loop-i-preserved c =
    let turn = c.loop-i in
    let text = c.args.text.now in
    let n = c.args.n in
    let some : turn.passed < n = omega (arith, c.if-passed-n.false) in
    elim c.if-c-eq10.branch [
      | then-c-eq10 w ↦ (
        omega (arith, w.passed-is),
        omega (arith, w.passed-is),
        feed text n turn.passed turn.i (omega arith) some turn.invariant.2 c.if-c-eq10.passed w.if-c-eq10.true w.passed-is,
      )
      | else-c-eq10 w ↦ (
        omega (arith, w.passed-is),
        omega (arith, w.passed-is),
        more text n turn.passed turn.i (omega arith) some turn.invariant.2 c.if-c-eq10.passed w.if-c-eq10.false w.passed-is,
      )
    ]

pub returns : goal.returns
returns c =
    let turn = c.loop-i in
    omega (arith, turn.invariant.2, lines_end (c.args.n - turn.passed) c.args.text.now turn.i (omega arith))
