-- `optimize::shrinking::shrink_jump` meets its contract: the change jump is judged by the program's own names.
use mathlib.Core.Path.{◌≡◌, sym, ap, ◌∙◌}
use mathlib.Core.Bool.{true, false, not}
use Rattle.rules.specs.Judging.{names_of}
use Rattle.rules.specs.Rewriting.{is_change_jump, shrink_at}
use Rattle.slots.specs.Slots.{Slots, program_of}
use Rattle.slots.specs.State.{table_of}
use Rattle.optimize.proofs.Tries.{tried_as, tried_is, tried_none}
use Rattle.optimize.proofs.Shorter.{shrink_change, shrink_plain}
use Rattle.optimize.proofs.shrinking.shrink_jump.Goals as goal

pub returns-else-not-is_change_jump : goal.returns-else-not-is_change_jump
returns-else-not-is_change_jump c asked =
    let t : Slots = table_of c.args.frames.now c.args.state.now c.args.count in
    let its = names_of (program_of t) in
    let judged : is_change_jump its (program_of t) c.args.at.0 ≡ true = sym c.is_change_jump.ensures ∙ c.if-not-is_change_jump.false in
    tried_is (shrink_at asked its (program_of t) c.args.at.0) (ap not c.if-not-is_change_jump.false)
    (tried_none (shrink_at asked its (program_of t) c.args.at.0)
    (shrink_change asked its t c.args.at.0 c.requires.4 c.requires.5 c.requires.6 judged) c.requires.0)

pub returns-then-not-is_change_jump : goal.returns-then-not-is_change_jump
returns-then-not-is_change_jump c asked =
    let t : Slots = table_of c.args.frames.now c.args.state.now c.args.count in
    let its = names_of (program_of t) in
    let judged : is_change_jump its (program_of t) c.args.at.0 ≡ false = sym c.is_change_jump.ensures ∙ c.if-not-is_change_jump.true in
    tried_as _ (shrink_at asked its (program_of t) c.args.at.0)
    (shrink_plain asked its t c.args.at.0 c.requires.4 c.requires.5 c.requires.6 judged) c.try_br_then_jmp.ensures
