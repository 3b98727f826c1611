-- `patterns::shapes::inverted_at` meets its contract: the shape, and no inner label in the way.
use mathlib.Core.Path.{◌≡◌, sym, subst, ◌∙◌}
use mathlib.Core.Bool.{true, false}
use Rattle.rules.specs.Rewriting.{inverted}
use Rattle.slots.specs.Slots.{Slots, program_of}
use Rattle.slots.specs.State.{table_of}
use Rattle.patterns.specs.Matches.{InvertedShaped, InvertedBegins, InvertedIs}
use Rattle.patterns.proofs.Begins.{begun_none, begun_free, begun_barred}
use Rattle.patterns.proofs.Folds.{told_by}
use Rattle.patterns.proofs.shapes.inverted_at.Goals as goal

pub returns-in_err-jump : goal.returns-in_err-jump
returns-in_err-jump c =
    let t : Slots = table_of c.args.frames.now c.args.state.now c.args.count in
    subst (InvertedIs t c.args.from c.args.at.0) (sym c.from_residual.ensures)
    (λ to. begun_none (program_of t) (inverted c.args.from to) c.args.at.0
    (subst (InvertedBegins t c.args.from c.args.at.0) c.in_err-jump.was c.inverted_shape.ensures to))

pub returns : goal.returns
returns c =
    let t : Slots = table_of c.args.frames.now c.args.state.now c.args.count in
    let stands : InvertedShaped t c.args.from c.args.at.0 c.in_ok-jump.jump.0 c.in_ok-jump.m.0 =
    subst (InvertedBegins t c.args.from c.args.at.0) c.in_ok-jump.was c.inverted_shape.ensures in
    told_by (InvertedIs t c.args.from c.args.at.0) c.is_free.result (c.in_ok-jump.jump, c.in_ok-jump.m) c.then_some.ensures
    (λ (e : c.is_free.result ≡ true). record {
      shaped = stands;
      fold = λ to. begun_free (program_of t) (inverted c.args.from to) c.args.at.0 _ (stands.shape to) (sym c.is_free.ensures ∙ e);
    })
    (λ (e : c.is_free.result ≡ false) to. begun_barred (program_of t) (inverted c.args.from to) c.args.at.0 _ (stands.shape to)
    (sym c.is_free.ensures ∙ e))
