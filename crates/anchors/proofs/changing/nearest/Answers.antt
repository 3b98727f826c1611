-- `anchors::changing::nearest` meets its contract: the loop goes down as the definition does, whatever the tables on which no kind depends.
use mathlib.Core.Path.{◌≡◌, sym, ap, ◌∙◌}
use mathlib.Core.List.{List}
use Prim.Native.Nat.{ℕ, ◌-◌}
use native.Mathlib.Omega.{arith}
use borrow.Author.Tests.{not-true, not-false}
use Rattle.rules.specs.Programs.{at}
use Rattle.rules.specs.Rewriting.{skipped}
use Rattle.slots.specs.Slots.{Slots, slots, program_of}
use Rattle.image.proofs.Worths.{at_program}
use Rattle.anchors.specs.Changes.{nearest_as}
use Rattle.anchors.proofs.Jumps.{nearest_here, nearest_below, nearest_end}
use Rattle.slots.specs.State.{starts_in, forms_in}
use mathlib.Core.Bool.{not}
use Rattle.anchors.proofs.changing.nearest.Goals as goal

-- the test below j, as the program has it
module _ (c : goal.Then-not-skipped_at) (carry owners offsets : List ℕ) where
  abbrev here : Slots
  here = slots c.args.frames.now (starts_in c.args.state.now) c.args.count (forms_in c.args.state.now) carry owners offsets

  abbrev j : ℕ
  j = c.loop-j.j

  tested : c.skipped_at.result ≡ skipped (at (program_of here) (j - 1))
  tested = c.skipped_at.ensures carry owners offsets ∙ ap skipped
      (sym (at_program here (j - 1) (omega (arith, c.loop-j-test.true, c.loop-j.invariant.0))))

-- the test below j, as the program has it
module _ (c : goal.Else-not-skipped_at) (carry owners offsets : List ℕ) where
  abbrev here_2 : Slots
  here_2 = slots c.args.frames.now (starts_in c.args.state.now) c.args.count (forms_in c.args.state.now) carry owners offsets

  abbrev j_2 : ℕ
  j_2 = c.loop-j.j

  tested_2 : c.skipped_at.result ≡ skipped (at (program_of here_2) (j_2 - 1))
  tested_2 = c.skipped_at.ensures carry owners offsets ∙ ap skipped
      (sym (at_program here_2 (j_2 - 1) (omega (arith, c.loop-j-test.true, c.loop-j.invariant.0))))

pub returns-then-not-skipped_at : goal.returns-then-not-skipped_at
returns-then-not-skipped_at c carry owners offsets =
    sym
    (ap nearest_as
    (c.loop-j.invariant.1 carry owners offsets
    ∙ nearest_here (program_of (here c carry owners offsets)) c.loop-j.j c.loop-j-test.true (sym (tested c carry owners offsets) ∙ not-true
    _ (ap not c.if-not-skipped_at.true))))

pub loop-j-preserved : goal.loop-j-preserved
loop-j-preserved c = (
  omega (arith, c.loop-j.invariant.0),
  λ carry owners offsets.
      c.loop-j.invariant.1 carry owners offsets
      ∙ nearest_below (program_of (here_2 c carry owners offsets)) c.loop-j.j c.loop-j-test.true (sym (tested_2 c carry owners offsets)
      ∙ not-false _ (ap not c.if-not-skipped_at.false)),
)

pub returns : goal.returns
returns c carry owners offsets =
    sym
    (ap nearest_as
    (c.loop-j.invariant.1 carry owners offsets
    ∙ nearest_end (program_of (slots c.args.frames.now (starts_in c.args.state.now) c.args.count (forms_in c.args.state.now) carry owners
    offsets)) c.loop-j.j (omega (arith, c.loop-j-test.false))))
