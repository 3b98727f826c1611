-- `encoding::operands::in_range` meets its contract. Assumes nothing.
use mathlib.Core.Path.{◌∙◌, ap}
use Prim.Native.Nat.{◌^◌, ℕ}
use lib.IntN.{ℤ}
use mir.Facts.{to_z-of_z}
use Rattle.std.specs.Option.{ok_or}
use Rattle.std.specs.Prelude.{Option}
use Rattle.rules.specs.declared.Refusal.TheVariants.{Range}
use Rattle.encoding.specs.Operands.{number_as}
use Rattle.encoding.proofs.Ranges.{S}
use Rattle.encoding.proofs.Fields.{ranged_as}
use Rattle.encoding.proofs.operands.in_range.Goals as goal

pub returns : goal.returns
returns c =
    let x = c.args in
    c.ok_or.ensures.value
    ∙ ap (λ (o : Option ℕ). ok_or o (Range x.i x.j (S x.v))) c.number.ensures
    ∙ ap (λ (z : ℤ). ok_or (number_as (2 ^ x.bits) z) (Range x.i x.j z)) (to_z-of_z c.ranges.v)
    ∙ ranged_as x.i.0 x.j (2 ^ x.bits) x.v
