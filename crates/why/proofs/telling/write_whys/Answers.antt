-- `why::telling::write_whys` meets its contract: the lines of the reasons before each try stand in the room.
use mathlib.Core.Path.{sym, ap, ◌∙◌}
use mathlib.Core.List.{List}
use Prim.Native.Nat.{ℕ, ◌*◌}
use native.Mathlib.Omega.{arith}
use Rattle.slots.specs.Slots.{Slots, program_of}
use Rattle.slots.specs.State.{table_of}
use Rattle.env.proofs.Programs.{length_program}
use Rattle.digits.specs.Digits.{laid}
use Rattle.staying.specs.Reasons.{Why}
use Rattle.staying.specs.Lines.{why_lines}
use Rattle.why.specs.Tried.{tried_lines}
use Rattle.why.proofs.Walks.{count_more, few, none_before, none_laid, whole_before, room_here, line_here}
use Rattle.why.proofs.telling.write_whys.Goals as goal

abbrev over : (c : goal.After-slice_known-1) → Slots
over c = table_of c.args.frames.now c.args.state.now c.args.count

abbrev over_2 : (c : goal.After-put_tried-arg-1) → Slots
over_2 c = table_of c.args.frames.now c.args.state.now c.args.count

abbrev over_3 : (c : goal.After-slice_known-in-loop-m-1) → Slots
over_3 c = table_of c.args.frames.now c.args.state.now c.args.count

abbrev over_4 : (c : goal.After-loop-m) → Slots
over_4 c = table_of c.args.frames.now c.args.state.now c.args.count

pub loop-m-init : goal.loop-m-init
loop-m-init c = (none_before c.args.asked (program_of (over c)), none_laid c.args.asked (program_of (over c)) c.args.out.now)

pub put_tried-n-requires : goal.put_tried-n-requires
put_tried-n-requires c =
    let p = program_of (over_2 c) in
    let few_here = few c.args.asked p c.loop-m.m in
    let room =
    room_here c.args.asked p c.loop-m.m c.attempted-tried.result c.attempted-tried.ensures c.args.count (sym (length_program (over_2 c)))
    c.loop-m-test.true
    c.args.out.now c.loop-m.out c.requires.3 c.loop-m.invariant.1 in (
      omega (arith, room, c.loop-m.invariant.0),
      omega (arith, c.loop-m-test.true, c.requires.0.sound.held.few),
      omega (arith, c.loop-m.invariant.0, few_here, c.loop-m-test.true, c.requires.0.sound.held.few),
    )

pub loop-m-preserved : goal.loop-m-preserved
loop-m-preserved c =
    let w = c.put_tried-n.ensures in
    let p = program_of (over_3 c) in
    let more = count_more c.args.asked p c.loop-m.m c.attempted-tried.result c.attempted-tried.ensures in (
      omega (arith, c.loop-m.invariant.0, w.0, more),
      line_here c.args.asked p c.loop-m.m c.attempted-tried.result c.attempted-tried.ensures c.args.count (sym (length_program (over_3 c)))
          c.loop-m-test.true
          c.args.out.now c.loop-m.out c.requires.3 c.loop-m.invariant.1 _
          (w.1 ∙ ap (λ (k : ℕ). laid c.loop-m.out (27 * k) (tried_lines c.loop-m.m c.attempted-tried.result)) c.loop-m.invariant.0),
    )

pub returns : goal.returns
returns c =
    c.loop-m.invariant.1
    ∙ ap (λ (ws : List Why). laid c.args.out.now 0 (why_lines ws))
    (whole_before c.args.asked (program_of (over_4 c)) c.loop-m.m (omega (
      arith,
      length_program
          (over_4 c),
    )))
