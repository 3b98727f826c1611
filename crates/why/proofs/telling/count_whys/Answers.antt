-- `why::telling::count_whys` meets its contract: the loop counts the reasons before each try.
use mathlib.Core.Path.{◌∙◌}
use native.Mathlib.Omega.{arith}
use Rattle.slots.specs.Slots.{Slots, program_of}
use Rattle.slots.specs.State.{table_of}
use Rattle.env.proofs.Programs.{length_program}
use Rattle.why.proofs.Walks.{count_more, few, none_before, all_before}
use Rattle.why.proofs.telling.count_whys.Goals as goal

abbrev over : (c : goal.After-shared_slice_known-1) → Slots
over c = table_of c.args.frames.now c.args.state.now c.args.count

abbrev over_2 : (c : goal.After-is_tried-n) → Slots
over_2 c = table_of c.args.frames.now c.args.state.now c.args.count

abbrev over_3 : (c : goal.After-loop-m) → Slots
over_3 c = table_of c.args.frames.now c.args.state.now c.args.count

pub loop-m-init : goal.loop-m-init
loop-m-init c = none_before c.args.asked (program_of (over c))

pub overflow_add-n : goal.overflow_add-n
overflow_add-n c =
    omega (
      arith,
      c.loop-m.invariant,
      few c.args.asked (program_of (over_2 c)) c.loop-m.m,
      c.loop-m-test.true,
      c.is_tried-n.ensures.1,
      c.requires.0.sound.held.few,
    )

pub loop-m-preserved : goal.loop-m-preserved
loop-m-preserved c =
    let more = count_more c.args.asked (program_of (over_2 c)) c.loop-m.m c.attempted-tried.result c.attempted-tried.ensures in
    omega (arith, c.loop-m.invariant, c.is_tried-n.ensures.0, more)

pub returns : goal.returns
returns c =
    c.loop-m.invariant ∙ all_before c.args.asked (program_of (over_3 c)) c.loop-m.m
    (omega (arith, length_program (over_3 c)))
