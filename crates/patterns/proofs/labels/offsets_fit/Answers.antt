-- `patterns::labels::offsets_fit` meets its contract: the iterator goes over the slots.
use mathlib.Core.Path.{refl, sym, ◌∙◌}
use Prim.Native.Nat.{ℕ}
use native.Mathlib.Omega.{arith}
use borrow.Author.Tests.{tests}
use lib.Dec.{ltb}
use Rattle.std.proofs.Common.{rules}
use Rattle.std.proofs.lemmas.Iterator.{YieldsList-from_range}
use Rattle.std.proofs.lemmas.Iterator.Search.{all_from_yields_List}
use Rattle.rules.specs.Layout.{size_in}
use Rattle.slots.specs.Slots.{program_of}
use Rattle.slots.specs.State.{table_of}
use Rattle.patterns.specs.Labels.{label_at, of_label}
use Rattle.patterns.proofs.InnerLabels.{labels_by}
use Rattle.patterns.proofs.Ranges.{all_range}
use Rattle.patterns.proofs.labels.offsets_fit.Goals as goal

pub returns : goal.returns
returns c =
    let t = table_of c.args.frames.now c.args.state.now c.args.count in
    let fits = λ (owner o : ℕ). ltb o (size_in (program_of t) owner) in
    let passes = λ (j : ℕ). of_label fits (label_at t j) in
    all_from_yields_List passes _ _ _ c.all.ensures.ran (YieldsList-from_range 0 t.count t.count refl (omega arith))
    (λ x b q k. search (rules, tests))
    ∙ all_range passes t.count ∙ sym (labels_by t c.requires.0 fits)
