-- `steps::seats::first_change` meets its contract. The loop's invariant: the search goes on from i.
use mathlib.Core.Path.{◌≡◌, sym, ◌∙◌}
use native.Mathlib.Omega.{arith}
use borrow.Author.Rules.{rules}
use Rattle.steps.proofs.InSlots.{search_starts, search_ends, search_hits, search_misses}
use Rattle.steps.proofs.seats.first_change.Goals as goal

pub loop-i-init : goal.loop-i-init
loop-i-init c = search_starts _ _

pub returns-then-is_changed : goal.returns-then-is_changed
returns-then-is_changed c =
    (search rules, search_hits _ _ c.loop-i.i c.loop-i.invariant (search rules) _ _ _ c.is_changed.ensures c.seat_at-old.ensures c.seat_at-new.ensures c.if-is_changed.true)

pub loop-i-preserved : goal.loop-i-preserved
loop-i-preserved c =
    search_misses _ _ c.loop-i.i c.loop-i.invariant (search rules) _ _ _ c.is_changed.ensures c.seat_at-old.ensures c.seat_at-new.ensures c.if-is_changed.false

pub returns : goal.returns
returns c =
    let e : c.loop-i.i ≡ c.args.count = omega arith in
    (search rules, sym e ∙ search_ends _ _ c.loop-i.i c.loop-i.invariant (search rules))
