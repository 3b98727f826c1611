-- `mapping::rows::row_at` meets its contract.
use Rattle.mapping.proofs.Holding.{row_is}
use Rattle.mapping.proofs.rows.row_at.Goals as goal

pub returns : goal.returns
returns c =
    row_is c.args.frames.now c.args.state.now c.args.count c.args.i.0 c.requires.1 c.requires.0 c.args.before.now c.args.after.now _ _ _ _ _
    c.requires.3 c.requires.2 c.is_gone.ensures c.head_byte-head.ensures c.kind_read.ensures c.data_byte-sort.ensures c.row_bytes.ensures
