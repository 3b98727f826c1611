use Rattle.laying.proofs.Speaking.{head_stands}
use Rattle.phrases.proofs.ends.put_head.Goals as goal

-- src/ends.rt:52:1
pub returns : goal.returns
returns c =
    let a = c.args in
    head_stands a.out.now c.put-a.new.out c.put-b.new.out c.put.new.out a.kind a.word c.low_byte.result c.low_byte-2.result c.put-a.result
    c.put-b.result c.put.result c.requires.0 c.requires.1
    c.put-a.ensures c.put-b.ensures c.put.ensures c.low_byte.ensures c.low_byte-2.ensures
