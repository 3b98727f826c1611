-- `layout::past` meets its contract.
use mathlib.Core.Path.{sym}
use Prim.Native.Nat.{◌+◌, ◌≤◌}
use native.Mathlib.Omega.{arith}
use Rattle.env.proofs.Positions.{reach_beyond, reach_within}
use Rattle.env.proofs.layout.past.Goals as goal

pub returns-then-from-n : goal.returns-then-from-n
returns-then-from-n c =
    record {
      within = omega arith;
      moved = sym (reach_beyond c.args.at.0 (c.args.from.0 + c.args.n) (omega (arith, c.if-from-n.true, c.requires)));
    }

pub returns : goal.returns
returns c =
    let ends : c.args.from.0 + c.args.n ≤ 65536 = omega (arith, c.if-from-n.false, c.requires) in
    record { within = ends; moved = sym (reach_within c.args.at.0 (c.args.from.0 + c.args.n) ends) }
