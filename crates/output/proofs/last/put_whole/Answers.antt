-- `output::last::put_whole` meets its contract: the digits, and the line feed.
use mathlib.Core.Path.{refl, ◌∙◌}
use mathlib.Core.List.{[], ◌∷◌}
use Prim.Native.Nat.{◌+◌, ◌*◌}
use native.Mathlib.Omega.{arith}
use lib.ListN.{length}
use Rattle.rules.specs.Output.{line_of}
use Rattle.digits.specs.Digits.{laid}
use Rattle.digits.proofs.Rooms.{laid_one, laid_front, length_line}
use Rattle.output.proofs.Rooms.{put_line}
use Rattle.output.proofs.last.put_whole.Goals as goal

pub returns : goal.returns
returns c =
    let a = c.args in
    let e = 2 * length a.bytes.now in
    let line = length_line a.bytes.now in
    laid_one c.put_bytes.new.out e 10 (omega (arith, c.requires, c.put_bytes.auto.out))
    ∙ (put_line a.out.now 0 a.bytes.now c.put_bytes.new.out e (laid c.put_bytes.new.out e (10 ∷ [])) (e + 1) (line_of a.bytes.now)
    (record { is = c.put_bytes.ensures; ends = omega arith }) refl refl refl (omega (arith, c.requires))).0
    ∙ laid_front a.out.now (line_of a.bytes.now)
