-- `mapping::rows::kind_read` meets its contract: a frame's first byte is the kind of its statement.
use mathlib.Core.Path.{sym, ap, ◌∙◌}
use native.Mathlib.Omega.{arith}
use Prim.Native.Nat.{◌<◌}
use lib.ListN.{length, get_or}
use Rattle.listing.specs.Tables.{frame_at}
use Rattle.slots.specs.State.{starts_in}
use Rattle.slots.proofs.Stands.{a_byte}
use Rattle.mapping.proofs.ReadKinds.{kind_of_frame}
use Rattle.mapping.proofs.rows.kind_read.Goals as goal

pub bounds-frame-0 : goal.bounds-frame-0
bounds-frame-0 c =
    let i = c.args.i.0 in
    let f = frame_at c.args.frames.now (starts_in c.args.state.now) i in
    let long : 0 < length f = a_byte i f (c.requires.0.reads i c.requires.1) in
    omega (arith, long, ap length c.frame_at-frame.ensures)

pub returns : goal.returns
returns c =
    ap (λ l. get_or l 0 0) c.frame_at-frame.ensures ∙ sym (kind_of_frame c.args.frames.now (starts_in c.args.state.now) c.args.i.0
    (c.requires.0.reads c.args.i.0 c.requires.1))
