-- `store::adding::add_to` meets its contract: no free place, no number left, or the new edition in the first free place.
use mathlib.Core.Path.{sym, ◌∙◌, ap}
use mathlib.Core.Logic.{inl, inr}
use Prim.Native.Nat.{ℕ, ◌+◌}
use native.Mathlib.Omega.{arith}
use borrow.Author.Rules.{rules}
use borrow.Author.Tests.{le-ltb, lt-ltb}
use Rattle.rules.specs.Answers.{ok}
use Rattle.rules.specs.declared.Refusal.TheVariants.{Full}
use Rattle.store.specs.Store.{added, add}
use Rattle.store.specs.Rooms.{store_in, with_place}
use Rattle.store.proofs.Answered.{leaves_no, leaves_ok, no_place, no_number, next_number, added_room}
use Rattle.store.proofs.adding.add_to.Goals as goal

pub returns-then-k-ge32 : goal.returns-then-k-ge32
returns-then-k-ge32 c =
    let a = c.args in
    let ss = store_in a.room.now in
    leaves_no a.room.now (add a.family ss) (added a.family a.switches ss) Full (elim c.then-k-ge32.either [
      | inl w ↦ no_place a.family ss (c.first_free-k.ensures.some ∙ le-ltb c.first_free-k.result 32 w)
      | inr w ↦ no_number a.family ss (omega (arith, c.newest_of-top.ensures, w.1))
    ])

pub returns : goal.returns
returns c =
    let a = c.args in
    let ss = store_in a.room.now in
    let w = c.newest_of-top.ensures in
    let k = c.first_free-k.result in
    let l = c.if-k-ge32.false in
    let e = next_number a.family ss (c.first_free-k.ensures.some ∙ lt-ltb k 32 l) (omega (arith, w, c.if-top-ge65535.false)) in
    let put = ap (λ (m : ℕ). with_place a.room.now k (record { family = a.family; edition = m + 1; switches = a.switches })) w in
    let new = added_room a.room.now (λ j. search rules) c.requires a.family a.switches k c.first_free-k.ensures l in
    leaves_ok a.room.now (add a.family ss) (added a.family a.switches ss) _ _ (e ∙ ap (λ (m : ℕ). ok (m + 1)) (sym w))
    (c.put_setting.ensures ∙ put ∙ new)
