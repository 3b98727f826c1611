-- `digits::put_line` meets its contract: the digits, and the line feed.
use mathlib.Core.Path.{◌∙◌, ap}
use mathlib.Core.List.{[], ◌∷◌}
use Prim.Native.Nat.{◌+◌, ◌*◌}
use native.Mathlib.Omega.{arith}
use lib.ListN.{length}
use Rattle.rules.specs.Output.{line_of}
use Rattle.digits.specs.Digits.{hex_of, laid}
use Rattle.digits.proofs.Rooms.{laid_one, laid_more, length_hex}
use Rattle.digits.proofs.put_line.Goals as goal

pub returns : goal.returns
unfolding line_of
returns c =
    let a = c.args in
    let x = hex_of a.frame.now in
    let e = a.at + 2 * length a.frame.now in
    let n = length_hex a.frame.now in
    laid_one c.put_bytes.new.out e 10 (omega (arith, c.requires, c.put_bytes.auto.out))
    ∙ ap (λ l. laid l e (10 ∷ [])) c.put_bytes.ensures
    ∙ laid_more a.out.now x (10 ∷ []) a.at e (omega arith) (omega (arith, c.requires))
