use Rattle.rules.specs.Programs.{words}
use Rattle.series.proofs.Itemized.{words_spoken}
use Rattle.series.proofs.items.words_line.Goals as goal

-- src/items.rt:65:1
pub returns : goal.returns
returns c =
    let a = c.args in
    words_spoken a.s.now a.k c.items.new.out c.items.result (c.items.ensures words)
