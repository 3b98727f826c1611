use mathlib.Core.Path.{refl}
use Prim.Native.Nat.{◌/◌, ◌%◌}
use Rattle.phrases.proofs.Counting.{pad_stands}
use Rattle.phrases.proofs.numbers.put_pad.Goals as goal

-- src/numbers.rt:36:1
pub returns : goal.returns
returns c =
    let a = c.args in
    pad_stands a.out.now c.put-a.new.out c.put-b.new.out c.put-c.new.out c.put.new.out a.add a.multiple (a.multiple / 256)
    (a.multiple % 256) c.put-a.result c.put-b.result c.put-c.result c.put.result
    c.requires.0 c.put-a.ensures c.put-b.ensures c.put-c.ensures c.put.ensures refl refl
