-- `patterns::labels::no_interior_label_at` meets its contract: the iterator goes over the slots.
use mathlib.Core.Path.{refl, sym, ◌∙◌}
use mathlib.Core.Bool.{◌&&◌, not}
use Prim.Native.Nat.{ℕ}
use native.Mathlib.Omega.{arith}
use borrow.Author.Tests.{tests}
use lib.Dec.{eqb, leb}
use Rattle.std.proofs.Common.{rules}
use Rattle.std.proofs.lemmas.Iterator.{YieldsList-from_range}
use Rattle.std.proofs.lemmas.Iterator.Search.{all_from_yields_List}
use Rattle.rules.specs.Rewriting.{no_interior_label_at}
use Rattle.slots.specs.State.{table_of}
use Rattle.patterns.specs.Labels.{label_at, of_label}
use Rattle.patterns.proofs.InnerLabels.{labels_by}
use Rattle.patterns.proofs.Ranges.{all_range}
use Rattle.patterns.proofs.labels.no_interior_label_at.Goals as goal

pub returns : goal.returns
unfolding no_interior_label_at
returns c =
    let t = table_of c.args.frames.now c.args.state.now c.args.count in
    let outside = λ (owner o : ℕ). not (eqb owner c.args.at.0 && leb 1 o) in
    let passes = λ (j : ℕ). of_label outside (label_at t j) in
    all_from_yields_List passes _ _ _ c.all.ensures.ran (YieldsList-from_range 0 t.count t.count refl (omega arith))
    (λ x b q k. search (rules, tests))
    ∙ all_range passes t.count ∙ sym (labels_by t c.requires outside)
