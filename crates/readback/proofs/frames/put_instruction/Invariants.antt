-- `readback::frames::put_instruction` meets its contract: after j turns the first j arguments stand there, and all were inside. Assumes
use mathlib.Core.Path.{◌≡◌}
use mathlib.Core.List.{◌++◌}
use Prim.Native.Nat.{◌+◌, ◌*◌, ◌≤◌}
use lib.ListN.{length, take}
use Rattle.readback.specs.Frames.{instr_frame}
use Rattle.readback.proofs.Instructions.{bytes_left, InsideLeft}
use Rattle.readback.proofs.frames.put_instruction.Given as goal

abbrev pub invariant-loop-j : goal.invariant-loop-j
invariant-loop-j l =
    (l.at ≤ 2 + 5 * l.j) × (length l.frame ≡ length l.initial.frame) × InsideLeft l.form l.s l.n.0 l.j
    × (take l.at l.frame ++ bytes_left l.form l.s l.n.0 l.j ≡ instr_frame l.form l.s l.n.0)
