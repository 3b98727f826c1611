-- `layout::lay_out` meets its contract. The invariant: every statement before place i settles, and the table is filled below i.
use mathlib.Core.Path.{sym, ap, ◌∙◌}
use Prim.Native.Nat.{◌≤◌}
use native.Mathlib.Omega.{arith}
use lib.ListN.{length-set}
use Rattle.std.specs.Prelude.{Err}
use Rattle.std.proofs.lemmas.Result.{err_from_is_err_and}
use Rattle.env.specs.Answers.{moved_to}
use Rattle.env.proofs.Positions.{laid_start, laid_next, laid_stops, laid_end}
use Rattle.env.proofs.layout.lay_out.Goals as goal

pub loop-i-init : goal.loop-i-init
loop-i-init c = (c.requires.1, omega arith, λ carry owners offsets. laid_start _ c.args.positions.now)

pub returns-in_err-here-clause-laid : goal.returns-in_err-here-clause-laid
returns-in_err-here-clause-laid c carry owners offsets =
    let p = err_from_is_err_and c.from_residual.result c.from_residual.ensures.1 in
    rw p.1
    (laid_stops _ c.loop-i.here.0 c.args.positions.now c.loop-i.positions c.loop-i.i
    (c.loop-i.invariant.2 carry owners offsets)
    (omega (arith, c.requires.0.few, c.requires.1))
    c.loop-i-test.true
    p.0
    (sym (c.advance.ensures.moved carry owners offsets) ∙ c.in_err-here.was ∙ ap Err (sym p.2)))

pub loop-i-preserved : goal.loop-i-preserved
loop-i-preserved c =
    let small : c.in_ok-here.here.0 ≤ 65536 = omega (arith, ap moved_to c.in_ok-here.was, c.advance.ensures.within) in (
      simp length-set c.loop-i.invariant.0,
      small,
      λ carry owners offsets.
          laid_next _ c.loop-i.here.0 c.args.positions.now c.loop-i.positions c.loop-i.i
          (c.loop-i.invariant.2 carry owners offsets)
          (omega (arith, c.requires.0.few, c.requires.1))
          c.loop-i-test.true
          c.in_ok-here.here
          (sym (c.advance.ensures.moved carry owners offsets) ∙ c.in_ok-here.was)
          small,
    )

pub returns : goal.returns
returns c =
    record {
      room = simp length-set c.loop-i.invariant.0;
      laid = λ carry owners offsets.
          laid_end _ c.loop-i.here.0 c.args.positions.now c.loop-i.positions c.loop-i.i (c.loop-i.invariant.2 carry owners offsets)
          (omega (arith, c.requires.0.few, c.requires.1)) (omega arith);
    }
