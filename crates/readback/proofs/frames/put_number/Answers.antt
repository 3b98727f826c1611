-- `readback::frames::put_number` meets its contract: five bytes are copied. Assumes nothing.
use mathlib.Core.Path.{sym, ap, ◌∙◌}
use mathlib.Core.List.{List}
use Prim.Native.Nat.{ℕ}
use lib.ListN.{length}
use Rattle.digits.specs.Digits.{laid}
use Rattle.readback.proofs.Pieces.{laid_copied, number_bytes}
use Rattle.readback.proofs.frames.put_number.Goals as goal

pub returns : goal.returns
returns c =
    let a = c.args in
    let e = c.copy_from_slice.ensures.after in
    laid_copied a.frame.now c.copy_from_slice.new.self a.at 5 (ap (λ (x : List ℕ). length x) e)
    ∙ ap (laid a.frame.now a.at) (e ∙ sym (number_bytes a.v c.requires.1))
