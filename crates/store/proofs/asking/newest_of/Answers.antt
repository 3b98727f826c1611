-- `store::asking::newest_of` meets its contract: `top` is the newest before k, and the places from k on may hold a newer one.
use mathlib.Core.Path.{◌≡◌, sym, ◌∙◌, ap}
use mathlib.Core.Bool.{cond}
use Prim.Native.Nat.{max}
use native.Mathlib.Omega.{arith}
use lib.Dec.{eqb}
use Rattle.store.specs.declared.Setting.{Setting}
use Rattle.store.specs.Store.{newest}
use Rattle.store.proofs.PlaceByPlace.{none_left, newest_from}
use Rattle.store.proofs.asking.newest_of.Goals as goal

pub loop-k-preserved : goal.loop-k-preserved
loop-k-preserved c =
    let l = c.loop-k in
    let a = c.args in
    let h = newest_from a.room.now l.k (omega arith) a.family l.top in
    let n =
    c.newer-top.ensures
    ∙ ap (λ (s : Setting). cond (eqb s.family a.family) (max s.edition l.top) l.top) c.read_setting.ensures in
    l.invariant ∙ h ∙ rw n

pub returns : goal.returns
unfolding newest
returns c =
    let l = c.loop-k in
    let n = none_left c.args.room.now l.k (omega arith) in
    let z : max l.top 0 ≡ l.top = omega arith in
    sym (l.invariant ∙ rw n z)
