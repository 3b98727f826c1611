-- `why::entry::tell_end` meets its contract: the names of an end form stand, and the tables hold their values.
use borrow.Author.Rules.{rules}
use Rattle.slots.specs.Slots.{Slots}
use Rattle.slots.specs.State.{carry_in, owners_in, offsets_in, table_of}
use Rattle.optimize.proofs.Names.{standing_placed, never_refused}
use Rattle.why.proofs.entry.tell_end.Goals as goal

abbrev here : (c : goal.After-from_residual) → Slots
here c = table_of c.args.frames.now c.args.state.now c.args.count

pub lay_and_define-requires : goal.lay_and_define-requires
lay_and_define-requires c =
    (c.requires.0.sound.held, search rules, search rules, c.requires.2, standing_placed _ _ _ _ _ _ _ c.requires.0)

pub returns-in_err-lay_and_define : goal.returns-in_err-lay_and_define
returns-in_err-lay_and_define c =
    never_refused (here c) _ _ _ _ _ c.requires.1
    (c.lay_and_define.ensures (carry_in c.args.state.now) (owners_in c.args.state.now) (offsets_in c.args.state.now) c.requires.0.named)
    c.in_err-lay_and_define.was
