-- `patterns::labels::no_inner_label_between` meets its contract: the iterator goes over the slots.
use mathlib.Core.Path.{refl, sym, ◌∙◌}
use mathlib.Core.Bool.{◌&&◌, not}
use Prim.Native.Nat.{ℕ}
use native.Mathlib.Omega.{arith}
use borrow.Author.Tests.{tests}
use lib.Dec.{leb, ltb}
use Rattle.std.proofs.Common.{rules}
use Rattle.std.proofs.lemmas.Iterator.{YieldsList-from_range}
use Rattle.std.proofs.lemmas.Iterator.Search.{all_from_yields_List}
use Rattle.rules.specs.Rewriting.{no_inner_label_between}
use Rattle.slots.specs.State.{table_of}
use Rattle.patterns.specs.Labels.{label_at, of_label}
use Rattle.patterns.proofs.InnerLabels.{labels_by}
use Rattle.patterns.proofs.Ranges.{all_range}
use Rattle.patterns.proofs.labels.no_inner_label_between.Goals as goal

pub returns : goal.returns
unfolding no_inner_label_between
returns c =
    let t = table_of c.args.frames.now c.args.state.now c.args.count in
    let outside = λ (owner o : ℕ). not (ltb c.args.i.0 owner && leb owner c.args.m.0) in
    let passes = λ (j : ℕ). of_label outside (label_at t j) in
    all_from_yields_List passes _ _ _ c.all.ensures.ran (YieldsList-from_range 0 t.count t.count refl (omega arith))
    (λ x b q k. search (rules, tests))
    ∙ all_range passes t.count ∙ sym (labels_by t c.requires outside)
