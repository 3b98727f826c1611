-- `entries::optimizing::rewrite_anchored` meets its contract: comments go once all rewriting is done.
use mathlib.Core.Path.{◌≡◌, sym, ◌∙◌, subst}
use mathlib.Core.Bool.{true}
use mathlib.Core.List.{List}
use Prim.Native.Nat.{ℕ}
use Rattle.rules.specs.Judging.{assembles}
use Rattle.output.specs.Lines.{beside_in}
use Rattle.output.specs.Showing.{Shown}
use Rattle.slots.specs.Slots.{Slots, program_of}
use Rattle.slots.specs.State.{table_of}
use Rattle.slots.specs.Links.{Beside}
use Rattle.attempts.specs.Standing.{Standing}
use Rattle.entries.proofs.Stands.{shown_stands}
use Rattle.entries.proofs.Results.{optimized_fitted, optimized_left}
use Rattle.entries.proofs.optimizing.rewrite_anchored.Goals as goal

abbrev here : (c : goal.After-slice_known-4-1) → Slots
here c = table_of c.args.frames.now c.args.state.now c.args.count

-- the slots that are left
module _ (h : goal.After-judge_end-arg-2-1) where
  abbrev old : Slots
  old = table_of h.args.frames.now h.optimize-rewrites.new.state h.args.count

  abbrev left : Slots
  left = table_of h.args.frames.now h.show.new.state h.args.count

  shown : Shown h.args.wanted.settings old left
  shown = subst (λ (z : Slots). Shown h.args.wanted.settings old z) (sym h.show.ensures.shows.0) h.show.ensures.shows.1

  stands : Standing left × (assembles (program_of left) ≡ true)
  stands =
      let o = h.optimize-rewrites.ensures in
      subst (λ (z : Slots). Standing z × (assembles (program_of z) ≡ true)) (sym h.show.ensures.shows.0)
      (shown_stands h.args.wanted.settings old _ h.show.ensures.shows.1 o.stands o.good h.show.ensures.room.0)

  beside : Beside h.args.frames.now left.starts h.args.count h.args.links.now
  beside =
      subst (λ (z : List ℕ). Beside h.args.frames.now z h.args.count h.args.links.now)
      (sym (h.show.ensures.room.1 ∙ h.optimize-rewrites.ensures.starts_kept)) h.requires.2

-- the slots that are left
module _ (h : goal.After-slice_known-4-1) where
  abbrev old_2 : Slots
  old_2 = table_of h.args.frames.now h.optimize-rewrites.new.state h.args.count

  abbrev left_2 : Slots
  left_2 = table_of h.args.frames.now h.show.new.state h.args.count

  shown_2 : Shown h.args.wanted.settings old_2 left_2
  shown_2 = subst (λ (z : Slots). Shown h.args.wanted.settings old_2 z) (sym h.show.ensures.shows.0) h.show.ensures.shows.1

  stands_2 : Standing left_2 × (assembles (program_of left_2) ≡ true)
  stands_2 =
      let o = h.optimize-rewrites.ensures in
      subst (λ (z : Slots). Standing z × (assembles (program_of z) ≡ true)) (sym h.show.ensures.shows.0)
      (shown_stands h.args.wanted.settings old_2 _ h.show.ensures.shows.1 o.stands o.good h.show.ensures.room.0)

  beside_2 : Beside h.args.frames.now left_2.starts h.args.count h.args.links.now
  beside_2 =
      subst (λ (z : List ℕ). Beside h.args.frames.now z h.args.count h.args.links.now)
      (sym (h.show.ensures.room.1 ∙ h.optimize-rewrites.ensures.starts_kept)) h.requires.2

pub judge_end-requires : goal.judge_end-requires
judge_end-requires c = ((stands c).0, (stands c).1, beside c)

pub returns : goal.returns
returns c =
    let asked = c.args.wanted.settings in
    let marks = beside_in c.args.wanted.marked c.args.lines.now c.args.count in (
      optimized_fitted asked marks (here c) (old_2 c) (left_2 c) _ c.optimize-rewrites.ensures (shown_2 c) c.args.wanted.list c.judge_end.ensures,
      optimized_left asked marks (here c) (old_2 c) (left_2 c) _ c.optimize-rewrites.ensures (shown_2 c),
    )
