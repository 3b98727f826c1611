-- `sits::all::lay_all` meets its contract: what passes has its positions in the table, and a refusal leaves it as it was.
use Rattle.sits.proofs.AllLaid.{places_refused, places_laid}
use Rattle.sits.proofs.all.lay_all.Goals as goal

pub returns-in-Err : goal.returns-in-Err
returns-in-Err c =
    let filled = c.start_state-state.ensures c.args.frames.now c.requires in
    places_refused c.args.frames.now c.args.starts.now c.args.count _ c.requires filled c.lay_out.result _ _ c.lay_out.ensures.laid _ c.in-Err.is _

pub returns-in-Ok : goal.returns-in-Ok
returns-in-Ok c =
    let filled = c.start_state-state.ensures c.args.frames.now c.requires in
    places_laid c.args.frames.now c.args.starts.now c.args.count _ c.requires filled c.lay_out.result _ _ c.lay_out.ensures.laid c.in-Ok.is
