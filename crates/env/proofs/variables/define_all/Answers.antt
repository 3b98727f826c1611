-- `variables::define_all` meets its contract. The invariant: what is left to define stands behind what the values below i define.
use mathlib.Core.Path.{◌≡◌, sym, ap, ◌∙◌}
use Prim.Native.Nat.{◌<◌}
use native.Mathlib.Omega.{arith}
use lib.ListN.{length-set}
use borrow.Author.Rules.{rules}
use Rattle.std.specs.Prelude.{Err}
use Rattle.std.proofs.lemmas.Result.{err_from_is_err_and}
use Rattle.laws.proofs.Tests.{clash}
use Rattle.expression.proofs.Signed.{at64}
use Rattle.env.proofs.Meaning.{defined_start, defined_next, defined_stops, defined_end}
use Rattle.env.proofs.Telling.{shown_start, shown_next}
use Rattle.env.proofs.variables.define_all.Goals as goal

pub loop-i-init : goal.loop-i-init
loop-i-init c = (c.requires.held.1, λ carry owners offsets. (defined_start _ _ _ c.args.values.now, shown_start _ c.args.values.now))

pub returns-in_err-values-clause-defined : goal.returns-in_err-values-clause-defined
returns-in_err-values-clause-defined c carry owners offsets =
    let p = err_from_is_err_and c.from_residual.result c.from_residual.ensures.1 in
    rw p.1 (
      defined_stops _ _ _ c.args.values.now c.loop-i.values c.loop-i.i
          (c.loop-i.invariant.1 carry owners offsets).0
          (c.requires.any carry owners offsets).named
          c.loop-i-test.true
          p.0
          (sym (c.value_at.ensures carry owners offsets).0 ∙ c.in_err-values.was ∙ ap Err (sym p.2)),
      λ q. clash (cc),
    )

pub loop-i-preserved : goal.loop-i-preserved
loop-i-preserved c =
    let e : at64 c.in_ok-values.field-0 ≡ c.in_ok-values.field-0 = search rules in
    let inside : c.loop-i.i < 1024 = omega (arith, c.requires.held.0.few) in (
      simp length-set c.loop-i.invariant.0,
      λ carry owners offsets. let h = c.loop-i.invariant.1 carry owners offsets in (
        rw e
            (defined_next _ _ _ c.args.values.now c.loop-i.values c.loop-i.i h.0
            (c.requires.any carry owners offsets).named
            c.loop-i-test.true
            c.in_ok-values.field-0
            (omega (arith, inside))
            (sym (c.value_at.ensures carry owners offsets).0 ∙ c.in_ok-values.was)),
        rw e
            (shown_next _ c.requires.held.0 c.loop-i.values c.loop-i.i c.in_ok-values.field-0 c.loop-i-test.true
            (omega (arith, inside)) h.1
            (rw c.in_ok-values.was at (c.value_at.ensures carry owners offsets).1)),
      ),
    )

pub returns : goal.returns
returns c =
    record {
      room = c.loop-i.invariant.0;
      defined = λ carry owners offsets.
          let h = c.loop-i.invariant.1 carry owners offsets in (
            defined_end _ _ _ c.args.values.now c.loop-i.values c.loop-i.i h.0 (omega arith),
            λ q j less. h.1 j (omega arith),
          );
    }
