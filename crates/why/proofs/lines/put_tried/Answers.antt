-- `why::lines::put_tried` meets its contract: one line more, or none.
use mathlib.Core.Path.{sym, ap, ◌∙◌}
use Prim.Native.Nat.{◌*◌}
use native.Mathlib.Omega.{arith}
use Rattle.staying.specs.declared.Reason.{Reason}
use Rattle.std.specs.Prelude.{Option}
use Rattle.digits.specs.Digits.{laid}
use Rattle.digits.proofs.Rooms.{laid_nothing}
use Rattle.why.specs.Tried.{tried_count, tried_lines}
use Rattle.why.proofs.lines.put_tried.Goals as goal

pub returns-in-None : goal.returns-in-None
returns-in-None c =
    let e = c.in-None.is in (
      omega (arith, ap tried_count e),
      sym (ap (λ (x : Option Reason). laid c.args.out.now (27 * c.args.n) (tried_lines c.args.m x)) e
          ∙ laid_nothing c.args.out.now (27 * c.args.n)),
    )
