-- `mapping::writing::count_rows` meets its contract: as many places below count pass the test as have a row, whatever the end form is.
use mathlib.Core.Path.{◌≡◌, refl, ◌∙◌}
use mathlib.Core.List.{[], ◌∷◌}
use mathlib.Core.Bool.{Bool}
use Prim.Native.Nat.{ℕ}
use native.Mathlib.Omega.{arith}
use Rattle.std.proofs.Common.{rules, tests}
use Rattle.std.proofs.lemmas.Iterator.{YieldsList-from_range}
use Rattle.std.proofs.lemmas.List.FromFn.{length-range_with_len}
use Rattle.std.proofs.lemmas.Iterator.Consumers.{YieldsList-from_filter, count_from_yields_List}
use Rattle.std.proofs.lemmas.List.Sums.{length-filter, count_by-le-length}
use Rattle.std.specs.List.{count_by, range_with_len}
use Rattle.laws.specs.Lists.{is_one_of}
use Rattle.rules.specs.Programs.{kind_of}
use Rattle.listing.specs.Tables.{input_at, input_of}
use Rattle.slots.specs.State.{starts_in}
use Rattle.mapping.proofs.Listed.{count_rows_to}
use Rattle.mapping.proofs.Holding.{row_asked}
use Rattle.mapping.proofs.writing.count_rows.Goals as goal

pub returns : goal.returns
returns c =
    let frames = c.args.frames.now in
    let state = c.args.state.now in
    let n = c.args.count in
    let asked : ℕ → Bool = λ i. is_one_of (1 ∷ 6 ∷ 7 ∷ []) (kind_of (input_at frames (starts_in state) i)) in
    let counted : c.count.result ≡ count_by asked (range_with_len 0 n) =
    count_from_yields_List c.filter.result _ c.count.ensures.ran
    (YieldsList-from_filter _ asked (YieldsList-from_range 0 n n c.filter.ensures.source (omega arith)) c.filter.ensures.closure
    (λ x b q k. search (rules, tests)))
    ∙ length-filter asked (range_with_len 0 n) in (
      λ e. counted ∙ count_rows_to (input_of frames (starts_in state) n) e asked n (λ i h. row_asked frames state n i h _ refl),
      omega (arith, counted, count_by-le-length asked (range_with_len 0 n), length-range_with_len 0 n),
    )
