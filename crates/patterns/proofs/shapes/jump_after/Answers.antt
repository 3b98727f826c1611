-- `patterns::shapes::jump_after` meets its contract.
use mathlib.Core.Path.{◌≡◌, sym, ap, ◌∙◌}
use mathlib.Core.Bool.{true, false}
use Prim.Native.Nat.{ℕ, suc, ◌<◌}
use native.Mathlib.Numerals.{add-one}
use native.Mathlib.Omega.{arith}
use Rattle.laws.proofs.Options.{said_none}
use Rattle.rules.specs.Rewriting.{unconditional, next as next_place}
use Rattle.slots.specs.Slots.{Slots, slots, program_of}
use Rattle.patterns.specs.Targets.{stands_at}
use Rattle.patterns.specs.Matches.{JumpAfter}
use Rattle.patterns.proofs.Programs.{next_within}
use Rattle.patterns.proofs.Folds.{jump_slot, told_by}
use Rattle.slots.specs.State.{starts_in, forms_in}
use Rattle.patterns.proofs.shapes.jump_after.Goals as goal

pub returns : goal.returns
returns c carry owners offsets =
    let t : Slots = slots c.args.frames.now (starts_in c.args.state.now) c.args.count (forms_in c.args.state.now) carry owners offsets in
    let i : ℕ = c.args.at.0 in
    let j : ℕ = c.next-jump.result.0 in
    let place : next_place (program_of t) (suc i) ≡ j =
    sym (c.next-jump.ensures carry owners offsets ∙ ap (next_place (program_of t)) (add-one i)) in
    let rises : i < j = omega (arith, place, (next_within t (suc i) c.requires.1).0) in
    told_by (JumpAfter t i) c.unconditional_at.result c.next-jump.result c.then_some.ensures
    (λ (e : c.unconditional_at.result ≡ true). let m = jump_slot t c.requires.0 j (sym (c.unconditional_at.ensures carry owners offsets) ∙ e) in
    record { next_is = place; rises = rises; moves = m.0; is = m.1 })
    (λ (e : c.unconditional_at.result ≡ false). ap (λ k. unconditional (stands_at t k)) place
    ∙ said_none (unconditional (stands_at t j)) (sym (c.unconditional_at.ensures carry owners offsets) ∙ e))
