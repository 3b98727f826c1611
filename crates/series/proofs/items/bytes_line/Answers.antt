use Rattle.rules.specs.Programs.{bytes}
use Rattle.series.proofs.Itemized.{bytes_spoken}
use Rattle.series.proofs.items.bytes_line.Goals as goal

-- src/items.rt:58:1
pub returns : goal.returns
returns c =
    let a = c.args in
    bytes_spoken a.s.now a.k c.items.new.out c.items.result (c.items.ensures bytes)
