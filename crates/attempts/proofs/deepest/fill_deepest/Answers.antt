-- `attempts::deepest::fill_deepest` meets its contract: the loop stores the label of each slot.
use mathlib.Core.Path.{sym, ap, ap₂, ◌∙◌}
use mathlib.Core.List.{List}
use Prim.Native.Nat.{ℕ, max}
use lib.ListN.{length, get_or, length-replicate}
use Rattle.slots.specs.Slots.{Slots}
use Rattle.attempts.specs.Deepest.{wanted_of, deepest_to}
use Rattle.attempts.proofs.Depths.{none_yet, one_more}
use Rattle.slots.specs.State.{table_of}
use Rattle.attempts.proofs.deepest.fill_deepest.Goals as goal

abbrev over : (c : goal.After-store_deeper) → Slots
over c = table_of c.args.frames.now c.args.state.now c.args.count

pub loop-j-init : goal.loop-j-init
unfolding deepest_to
loop-j-init c =
    let e = c.requires.1 in (
      ap (λ (l : List ℕ). length l) e ∙ length-replicate {A = ℕ} 1024 0,
      λ i. ap (λ (l : List ℕ). get_or l i 0) e ∙ none_yet
          1024 i,
    )

pub loop-j-preserved : goal.loop-j-preserved
loop-j-preserved c = (
  c.store_deeper.ensures.room,
  λ i.
      c.store_deeper.ensures.stored i
      ∙ ap₂ (λ (m n : ℕ). max m n) (c.loop-j.invariant.1 i) (ap (wanted_of i) c.inner_label_at-label.ensures.0)
      ∙ sym (one_more (over c) i c.loop-j.j),
)
