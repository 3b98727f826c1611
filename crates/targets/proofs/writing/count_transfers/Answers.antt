-- `targets::writing::count_transfers` meets its contract. The loop's invariant: n is the number of transfers among the first i places,
-- whatever the
-- input was.
use mathlib.Core.Path.{◌≡◌, sym, ap, ◌∙◌}
use native.Mathlib.Omega.{arith}
use lib.ListN.{length}
use Rattle.rules.specs.Forms.{is_transfer}
use Rattle.rules.specs.Programs.{at}
use Rattle.slots.specs.Slots.{Slots, program_of}
use Rattle.slots.specs.State.{carry_in, owners_in, offsets_in, table_of}
use Rattle.patterns.specs.Targets.{form_in}
use Rattle.targets.proofs.Listed.{to_none, count_one, count_other}
use Rattle.targets.proofs.writing.count_transfers.Goals as goal
use Rattle.targets.proofs.writing.count_transfers.Goals.{then-is_transfer, else-is_transfer}

abbrev here : (s : goal.After-shared_slice_known-1) → Slots
here s = table_of s.args.frames.now s.args.state.now s.args.count

abbrev here_2 : (s : goal.Joined-is_transfer) → Slots
here_2 s = table_of s.args.frames.now s.args.state.now s.args.count

-- what was asked is the transfer of the place
asked : (c : goal.Joined-is_transfer) → c.is_transfer.result ≡ is_transfer (form_in (at (program_of (here_2 c)) c.loop-i.i))
asked c =
    let z = c.args.state.now in
    c.is_transfer.ensures ∙ ap is_transfer (c.form_at.ensures (carry_in z) (owners_in z) (offsets_in z))

pub loop-i-init : goal.loop-i-init
loop-i-init c = (λ p. sym (ap length (to_none p (program_of (here c)))), omega arith)

pub loop-i-preserved : goal.loop-i-preserved
loop-i-preserved c =
    let e = program_of (here_2 c) in
    let i = c.loop-i.i in
    let n = c.loop-i.n in
    elim c.if-is_transfer.branch [
      | then-is_transfer w ↦ (
        λ p. w.n-is ∙ count_one p e i n (c.loop-i.invariant.0 p) (sym (asked c) ∙ w.if-is_transfer.true),
        omega (arith, w.n-is, c.loop-i.invariant.1),
      )
      | else-is_transfer w ↦ (
        λ p. w.n-is ∙ count_other p e i n (c.loop-i.invariant.0 p) (sym (asked c) ∙ w.if-is_transfer.false),
        omega (arith, w.n-is, c.loop-i.invariant.1),
      )
    ]
