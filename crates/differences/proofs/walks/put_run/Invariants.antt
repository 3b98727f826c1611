-- `put_run` meets its contract: what is left of the run, stored where the last line ended, makes the whole. Assumes nothing.
use mathlib.Core.Path.{◌≡◌}
use mathlib.Core.List.{List}
use Prim.Native.Nat.{ℕ, ◌+◌, ◌-◌}
use lib.ListN.{length}
use Rattle.digits.specs.Digits.{laid}
use Rattle.pairing.specs.Pairings.{frames_of}
use Rattle.differences.specs.Walks.{run_text}
use Rattle.differences.proofs.walks.put_run.Given as goal

abbrev left : (kind : ℕ) (text : List ℕ) (to i : ℕ) → List ℕ
left kind text to i = run_text kind (frames_of text) (to - i) i

abbrev pub invariant-loop-i : goal.invariant-loop-i
invariant-loop-i l =
    (length l.out ≡ length l.initial.out) × (l.a + length (left l.kind l.text l.to l.i) ≡ l.at + length
    (left l.kind l.text l.to l.from))
    × (laid l.out l.a (left l.kind l.text l.to l.i) ≡ laid l.initial.out l.at (left l.kind l.text l.to l.from))
