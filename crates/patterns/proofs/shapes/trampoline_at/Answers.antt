-- `patterns::shapes::trampoline_at` meets its contract: the shape, and no inner label in the way.
use mathlib.Core.Path.{◌≡◌, sym, subst, ◌∙◌}
use mathlib.Core.Bool.{true, false}
use Rattle.rules.specs.Rewriting.{trampoline}
use Rattle.slots.specs.Slots.{Slots, program_of}
use Rattle.slots.specs.State.{table_of}
use Rattle.patterns.specs.Matches.{TrampolineShaped, TrampolineBegins, TrampolineIs}
use Rattle.patterns.proofs.Begins.{begun_none, begun_free, begun_barred}
use Rattle.patterns.proofs.Folds.{told_by}
use Rattle.patterns.proofs.shapes.trampoline_at.Goals as goal

pub returns-in_err-skip : goal.returns-in_err-skip
returns-in_err-skip c =
    let t : Slots = table_of c.args.frames.now c.args.state.now c.args.count in
    subst (TrampolineIs t c.args.form c.args.at.0) (sym c.from_residual.ensures)
    (begun_none (program_of t) (trampoline c.args.form) c.args.at.0
    (subst (TrampolineBegins t c.args.form c.args.at.0) c.in_err-skip.was c.trampoline_shape.ensures))

pub returns : goal.returns
returns c =
    let t : Slots = table_of c.args.frames.now c.args.state.now c.args.count in
    let f = c.in_ok-skip in
    let stands : TrampolineShaped t c.args.form c.args.at.0 f.skip.0 f.t.0 f.last.0 f.s.0 =
    subst (TrampolineBegins t c.args.form c.args.at.0) c.in_ok-skip.was c.trampoline_shape.ensures in
    told_by (TrampolineIs t c.args.form c.args.at.0) c.is_free.result (f.skip, f.t, f.last, f.s) c.then_some.ensures
    (λ (e : c.is_free.result ≡ true). record {
      shaped = stands;
      fold = begun_free (program_of t) (trampoline c.args.form) c.args.at.0 _ stands.shape (sym c.is_free.ensures ∙ e);
    })
    (λ (e : c.is_free.result ≡ false). begun_barred (program_of t) (trampoline c.args.form) c.args.at.0 _ stands.shape
    (sym c.is_free.ensures ∙ e))
