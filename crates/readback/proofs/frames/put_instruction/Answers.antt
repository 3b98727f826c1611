-- `readback::frames::put_instruction` meets its contract: after j turns the first j arguments stand there, and all were inside. Assumes
-- nothing.
use mathlib.Core.Path.{◌≡◌, refl, subst, ap, ◌∙◌}
use mathlib.Core.List.{List, ◌++◌}
use Prim.Native.Nat.{ℕ, ◌+◌, ◌≤◌}
use native.Mathlib.Omega.{arith}
use lib.ListN.{length, set, take, length-set}
use Rattle.std.specs.Prelude.{Option}
use Rattle.instruction.proofs.Numbers.{few_operands}
use Rattle.readback.specs.Frames.{kind_at, held_at, Argument}
use Rattle.readback.proofs.Pieces.{two_front}
use Rattle.readback.proofs.Short.{operand_few}
use Rattle.readback.proofs.Instructions.{bytes_left, instr_more, inside_next, outside_here, all_inside, all_there}
use Rattle.readback.proofs.frames.put_instruction.Goals as goal

-- the two bytes in front keep the room's length
room : (d : List ℕ) (form : ℕ) → length (set (set d 0 1) 1 form) ≡ length d
room d form = simp length-set

pub loop-j-init : goal.loop-j-init
loop-j-init c =
    let a = c.args in (
      omega arith,
      refl,
      refl,
      ap (λ (t : List ℕ). t ++ bytes_left a.form a.s.now a.n.0 0) (two_front a.frame.now 1 a.form (omega (arith, c.requires))),
    )

pub put_argument-requires : goal.put_argument-requires
put_argument-requires c =
    let k = c.operand_count-j-end.ensures in (
      c.requires.0,
      omega arith,
      c.requires.1,
      omega (
        arith,
        c.loop-j.invariant.1,
        room c.args.frame.now c.args.form,
        c.requires.2,
        few_operands c.args.form,
        c.loop-j.invariant.0,
      ),
    )

pub returns-in_err-at : goal.returns-in_err-at
returns-in_err-at c =
    let a = c.args in
    let k = c.operand_count-j-end.ensures in
    let x = c.put_argument.new.frame in
    rw c.from_residual.ensures (outside_here a.form a.s.now a.n.0 c.loop-j.j (omega arith) c.loop-j.invariant.2
    (subst (λ (w : Option ℕ). Argument a.form a.s.now a.n.0 c.loop-j.j c.loop-j.frame c.loop-j.at w x)
    c.in_err-at.was c.put_argument.ensures))

pub loop-j-preserved : goal.loop-j-preserved
loop-j-preserved c =
    let a = c.args in
    let j = c.loop-j.j in
    let k = c.operand_count-j-end.ensures in
    let few = few_operands a.form in
    let x = c.put_argument.new.frame in
    let g = subst (λ (w : Option ℕ). Argument a.form a.s.now a.n.0 j c.loop-j.frame c.loop-j.at w x) c.in_ok-at.was
    c.put_argument.ensures in
    let end = c.in_ok-at.at in
    let h : c.loop-j.at ≤ length c.loop-j.frame = omega (arith, c.loop-j.invariant.1, c.loop-j.invariant.0, room c.args.frame.now c.args.form, c.requires.2) in (
      omega (arith, g.2, operand_few a.n.0 (kind_at a.form j) (held_at a.form a.s.now j), c.loop-j.invariant.0),
      c.put_argument.auto.frame ∙ c.loop-j.invariant.1,
      inside_next a.form a.s.now a.n.0 j (omega arith) c.loop-j.invariant.2 g.0,
      ap (λ (t : List ℕ). take end t ++ bytes_left a.form a.s.now a.n.0 (j + 1)) g.1
          ∙ rw g.2 (instr_more a.form a.s.now a.n.0 j (omega arith) c.loop-j.frame c.loop-j.at h c.loop-j.invariant.3),
    )

pub returns : goal.returns
returns c =
    let a = c.args in
    let k = c.operand_count-j-end.ensures in
    let few = few_operands a.form in (
      all_inside a.form a.s.now a.n.0 c.loop-j.j (omega arith) c.loop-j.invariant.2,
      all_there a.form a.s.now a.n.0 c.loop-j.j (omega arith) (take c.loop-j.at c.loop-j.frame) c.loop-j.invariant.3,
      omega (arith, c.loop-j.invariant.0),
    )
