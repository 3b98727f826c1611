-- `output::stems::count_stems` meets its contract: as many places below count pass the test as are left.
use mathlib.Core.Path.{◌∙◌}
use mathlib.Core.Bool.{Bool, not}
use Prim.Native.Nat.{ℕ}
use native.Mathlib.Omega.{arith}
use lib.Dec.{leb}
use lib.ListN.{get_or}
use Rattle.std.proofs.Common.{rules, tests}
use Rattle.std.proofs.lemmas.Iterator.{YieldsList-from_range}
use Rattle.std.proofs.lemmas.Iterator.Consumers.{YieldsList-from_filter, count_from_yields_List}
use Rattle.std.proofs.lemmas.List.Sums.{length-filter}
use Rattle.std.specs.List.{range_with_len}
use Rattle.slots.specs.Slots.{gone_form}
use Rattle.slots.specs.State.{forms_in}
use Rattle.output.proofs.Left.{kept_count}
use Rattle.output.proofs.stems.count_stems.Goals as goal

pub returns : goal.returns
returns c =
    let f = forms_in c.args.state.now in
    let n = c.args.count in
    let left : ℕ → Bool = λ i. not (leb gone_form (get_or f i 0)) in
    count_from_yields_List c.filter.result _ c.count.ensures.ran
    (YieldsList-from_filter _ left (YieldsList-from_range 0 n n c.filter.ensures.source (omega arith)) c.filter.ensures.closure
    (λ x b q k. search (rules, tests)))
    ∙ length-filter left (range_with_len 0 n)
    ∙ kept_count f n
