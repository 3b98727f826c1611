-- `standing::kept` meets its contract: at most 119 characters, and never the line feed. Assumes nothing.
use mathlib.Core.Path.{◌≡◌}
use Prim.Native.Nat.{◌-◌}
use native.Mathlib.Omega.{arith}
use lib.ListN.{length, length-take}
use Rattle.lines.proofs.Comments.{kept_of_none, kept_ended, kept_unended}
use Rattle.lines.proofs.standing.kept.Goals as goal
use Rattle.lines.proofs.standing.kept.Goals.{in-10, in_default, in_default-2}

pub returns : goal.returns
returns c =
    let x = c.args.line.now in
    rw c.min.ensures (elim c.if-line-lt1.branch [
      | in-10 w ↦
          let m : c.if-line-lt1.chars ≡ length x - 1 = omega (arith, length-take (length x - 1) x) in
          rw m (kept_ended x c.requires (omega arith))
      | in_default w ↦ rw w.chars-is (kept_of_none x c.requires (omega arith))
      | in_default-2 w ↦ rw w.chars-is (kept_unended x c.requires (λ e. omega arith))
    ])
