-- `why::entry::tell` meets its contract: the lines fit exactly where they are counted to.
use native.Mathlib.Omega.{arith}
use Rattle.slots.specs.Slots.{Slots, program_of}
use Rattle.slots.specs.State.{table_of}
use Rattle.why.proofs.Told.{told_short, told_whole, lines_fit}
use Rattle.why.proofs.entry.tell.Goals as goal

abbrev here : (c : goal.Then-out-n) → Slots
here c = table_of c.args.frames.now c.args.state.now c.args.count

abbrev here_2 : (c : goal.After-write_whys-arg-1) → Slots
here_2 c = table_of c.args.frames.now c.args.state.now c.args.count

abbrev here_3 : (c : goal.After-slice_known-2-1) → Slots
here_3 c = table_of c.args.frames.now c.args.state.now c.args.count

pub returns-then-out-n : goal.returns-then-out-n
returns-then-out-n c =
    told_short c.args.asked (program_of (here c)) c.args.rewrites c.args.count c.args.out.now c.count_whys-n.result c.count_whys-n.ensures
    (omega (arith, c.if-out-n.true))

pub write_whys-requires : goal.write_whys-requires
write_whys-requires c =
    let fits =
    lines_fit c.args.asked (program_of (here_2 c)) c.args.rewrites c.args.count c.args.out.now c.count_whys-n.result c.count_whys-n.ensures
    (omega (arith, c.if-out-n.false)) in
    (c.requires.0, c.requires.1, c.requires.2, fits)

pub returns : goal.returns
returns c =
    told_whole c.args.asked (program_of (here_3 c)) c.args.rewrites c.args.count c.args.out.now c.count_whys-n.result
    c.count_whys-n.ensures _ (omega (arith, c.if-out-n.false)) c.write_whys.ensures
