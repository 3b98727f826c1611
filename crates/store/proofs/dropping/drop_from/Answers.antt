-- `store::dropping::drop_from` meets its contract: no edition is there, or the old ones are cleared.
use mathlib.Core.Path.{sym, ◌∙◌, ap}
use mathlib.Core.List.{map}
use Prim.Native.Nat.{ℕ}
use native.Mathlib.Omega.{arith}
use Rattle.rules.specs.Answers.{ok}
use Rattle.rules.specs.declared.Refusal.TheVariants.{Unknown}
use Rattle.store.specs.Store.{cleared, dropped, drop_old}
use Rattle.store.specs.Rooms.{store_in, room_with}
use Rattle.store.proofs.Answered.{leaves_no, leaves_ok, no_family, stays}
use Rattle.store.proofs.dropping.drop_from.Goals as goal

pub returns-then-top-lt1 : goal.returns-then-top-lt1
returns-then-top-lt1 c =
    let a = c.args in
    let ss = store_in a.room.now in
    let e = no_family a.family ss (omega (arith, c.newest_of-top.ensures, c.if-top-lt1.true)) in
    leaves_no a.room.now (drop_old a.family ss) (dropped a.family ss) Unknown e

pub returns : goal.returns
unfolding dropped
returns c =
    let a = c.args in
    let ss = store_in a.room.now in
    let w = c.newest_of-top.ensures in
    let e = stays a.family ss (omega (arith, w, c.if-top-lt1.false)) in
    let m = ap (λ (t : ℕ). room_with a.room.now (map (λ s. cleared a.family t s) ss)) w in
    leaves_ok a.room.now (drop_old a.family ss) (dropped a.family ss) _ _ (e ∙ ap (λ (t : ℕ). ok t) (sym w))
    (c.clear_old.ensures ∙ m)
