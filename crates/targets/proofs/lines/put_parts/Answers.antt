-- `targets::lines::put_parts` meets its contract: three parts and the line feed.
use Rattle.targets.proofs.Same.{parts_laid}
use Rattle.targets.proofs.lines.put_parts.Goals as goal

pub returns : goal.returns
returns c =
    (parts_laid c.args.out.now c.args.head.now c.args.b.now c.args.a.now c.args.at c.requires.0 c.requires.1 c.requires.2 c.requires.3 _ _ _
    c.put_bytes.ensures c.put_bytes-2.ensures c.put_bytes-3.ensures).1
