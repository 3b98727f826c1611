-- `readback::frames::put_value` meets its contract: one store, or a plain number. Assumes nothing.
use mathlib.Core.Path.{sym, ap, ◌∙◌}
use mathlib.Core.List.{List}
use Prim.Native.Nat.{ℕ, ◌+◌}
use native.Mathlib.Omega.{arith}
use lib.ListN.{length}
use Rattle.digits.specs.Digits.{laid}
use Rattle.digits.proofs.Rooms.{laid_one}
use Rattle.readback.proofs.Pieces.{as_register, as_number, five}
use Rattle.readback.proofs.frames.put_value.Goals as goal

pub returns-then-is_register : goal.returns-then-is_register
returns-then-is_register c =
    let a = c.args in
    let e = as_register a.kind a.v (sym c.is_register.ensures ∙ c.if-is_register.true) in (
      laid_one a.frame.now a.at a.v (omega (arith, c.requires))
          ∙ ap (laid a.frame.now a.at) (sym e),
      ap (λ (x : List ℕ). a.at + length x) (sym e),
    )

pub returns : goal.returns
returns c =
    let a = c.args in
    let e = as_number a.kind a.v (sym c.is_register.ensures ∙ c.if-is_register.false) in (
      c.put_number.ensures
          ∙ ap (laid a.frame.now a.at) (sym e),
      omega (arith, ap (λ (x : List ℕ). length x) e, five a.v),
    )
