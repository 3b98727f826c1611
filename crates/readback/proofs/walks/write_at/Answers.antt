-- `readback::walks::write_at` meets its contract: the frame is laid in a room of its own, and its digits in the listing. Assumes nothing.
use mathlib.Core.List.{List}
use Prim.Native.Nat.{ℕ, ◌≤◌}
use native.Mathlib.Omega.{arith}
use lib.ListN.{length, drop}
use lib.Seq.{length-take-le}
use Rattle.readback.specs.Frames.{FrameOf}
use Rattle.readback.specs.Walks.{StepAt}
use Rattle.readback.proofs.Turns.{frame_found, step_found, line_turn}
use Rattle.readback.proofs.walks.write_at.Goals as goal

abbrev room : (f : goal.After-frame-3-1) → List ℕ
room f = f.frame_at-step.new.frame

found : (f : goal.After-frame-3-1)
    → FrameOf f.args.q.0 (drop f.args.q.0 f.args.image.now) f.frame_at-step.result (room f)
found f = frame_found f.args.image.now f.args.q.0 f.frame_at-step.result (room f) f.frame_at-step.ensures

holds : (f : goal.After-frame-3-1) → f.frame_at-step.result.1 ≤ length (room f)
holds f = omega (arith, f.frame_at-step.ensures.short, f.frame_at-step.auto.frame)

step : (f : goal.After-frame-3-1) → StepAt f.args.image.now f.args.q.0 f.frame_at-step.result
step f = step_found f.args.image.now f.args.q.0 f.frame_at-step.result (room f) f.requires.0 (found f) (holds f)

pub put_line-requires : goal.put_line-requires
put_line-requires c =
    let n = length-take-le c.frame_at-step.result.1 (room c) (holds c) in
    let m = line_turn c.args.image.now c.args.q.0 c.frame_at-step.result c.requires.0 (step c) in
    omega (arith, c.requires.2)
