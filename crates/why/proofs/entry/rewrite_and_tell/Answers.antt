-- `why::entry::rewrite_and_tell` meets its contract.
use mathlib.Core.Path.{ap}
use lib.ListN.{length}
use Rattle.slots.specs.Slots.{Slots}
use Rattle.slots.specs.State.{table_of}
use Rattle.why.specs.Entry.{Told, told_in}
use Rattle.why.proofs.Told.{leaves_as, told_from_lem}
use Rattle.why.proofs.entry.rewrite_and_tell.Goals as goal

abbrev here : (c : goal.After-slice_known-2-1) → Slots
here c = table_of c.args.frames.now c.args.state.now c.args.count

pub returns : goal.returns
returns c =
    leaves_as _ _ _ _ _ (ap (λ (x : Told). told_in c.args.count x (length c.args.out.now)) (told_from_lem c.args.asked (here c) _ _
    c.optimize-rewrites.ensures)) c.tell_end.ensures
