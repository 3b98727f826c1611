-- `readable::lines::text_length` meets its contract: after i turns the lines before i are counted.
use mathlib.Core.Path.{refl, ap}
use native.Mathlib.Omega.{arith}
use lib.ListN.{length}
use Rattle.listing.specs.Tables.{input_at}
use Rattle.readable.proofs.Turns.{length_line, length_more, none}
use Rattle.readable.proofs.lines.text_length.Goals as goal

pub loop-i-init : goal.loop-i-init
loop-i-init c =
    let a = c.args in
    (omega (arith, ap (λ t. length t) (none a.frames.now a.starts.now)), omega arith, refl)

pub loop-i-preserved : goal.loop-i-preserved
loop-i-preserved c =
    let a = c.args in
    let i = c.loop-i.i in
    let e = c.line_at.ensures.0 in
    let n = length_line (input_at a.frames.now a.starts.now i) in
    let m = length_more a.frames.now a.starts.now i in
    (omega (arith, e.ends, n, m), omega (arith, e.short), c.line_at.ensures.1)
