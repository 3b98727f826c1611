-- `output::lines::text_length` meets its contract: after i turns n is the length of the mark and the first i lines.
use mathlib.Core.Path.{◌≡◌, sym, ap, ◌∙◌}
use mathlib.Core.List.{List}
use Prim.Native.Nat.{ℕ}
use native.Mathlib.Omega.{arith}
use lib.ListN.{length}
use Rattle.listing.specs.Form.{form_of}
use Rattle.slots.specs.Slots.{Slots, slots}
use Rattle.output.specs.Lines.{lines_to}
use Rattle.output.proofs.Listings.{lines_none, lines_all, length_more}
use Rattle.slots.specs.State.{starts_in, forms_in, carry_in, owners_in}
use Rattle.output.proofs.lines.text_length.Goals.{Start}
use Rattle.output.proofs.lines.text_length.Goals as goal

-- the tables at a start
abbrev over : Start → List ℕ → Slots
over s offsets = slots s.args.frames.now (starts_in s.args.state.now) s.args.count (forms_in s.args.state.now) (carry_in s.args.state.now)
    (owners_in s.args.state.now) offsets

pub loop-i-init : goal.loop-i-init
loop-i-init c =
    let m = c.mark_length-n.ensures in
    (omega (arith, m.1), λ lines offsets sound. m.0 ∙ sym (ap length (lines_none _ _ _)))

pub loop-i-preserved : goal.loop-i-preserved
loop-i-preserved c =
    let l = c.loop-i in (
      omega (arith, c.line_length_at-n.ensures.0),
      λ lines offsets sound. omega (
        arith,
        l.invariant.1 lines offsets sound,
        c.line_length_at-n.ensures.1 lines offsets sound,
        length_more
            (over (goal.at.loop-i-preserved c).Start offsets) (form_of c.args.marked) lines l.i,
      ),
    )

pub returns : goal.returns
returns c lines offsets sound =
    let l = c.loop-i in
    let w = form_of c.args.marked in
    let e : l.i ≡ c.args.count = omega arith in
    l.invariant.1 lines offsets sound ∙ ap (λ k. length (lines_to w lines (over (goal.at.returns c).Start offsets) k)) e ∙ ap length
    (lines_all (over (goal.at.returns c).Start offsets) w lines)
