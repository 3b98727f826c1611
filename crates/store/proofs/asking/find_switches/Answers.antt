-- `store::asking::find_switches` meets its contract: no place before k holds it, so those from k on decide.
use mathlib.Core.Path.{sym, ◌∙◌, ap}
use native.Mathlib.Omega.{arith}
use Rattle.std.specs.Prelude.{Some}
use Rattle.store.specs.declared.Setting.{Setting}
use Rattle.store.specs.Store.{is_of, find}
use Rattle.store.proofs.PlaceByPlace.{none_left, find_from}
use Rattle.store.proofs.asking.find_switches.Goals as goal

pub returns-then-is_of : goal.returns-then-is_of
returns-then-is_of c =
    let l = c.loop-k in
    let a = c.args in
    let h = find_from a.room.now l.k (omega arith) a.family a.edition in
    let t = ap (is_of a.family a.edition) (sym c.read_setting-s.ensures) ∙ sym c.is_of.ensures ∙ c.if-is_of.true in
    rw (l.invariant, h, t) (ap (λ (x : Setting). Some x.switches) c.read_setting-s.ensures)

pub loop-k-preserved : goal.loop-k-preserved
loop-k-preserved c =
    let l = c.loop-k in
    let a = c.args in
    let h = find_from a.room.now l.k (omega arith) a.family a.edition in
    let t = ap (is_of a.family a.edition) (sym c.read_setting-s.ensures) ∙ sym c.is_of.ensures ∙ c.if-is_of.false in
    l.invariant ∙ h ∙ rw t

pub returns : goal.returns
unfolding find
returns c = rw (c.loop-k.invariant, none_left c.args.room.now c.loop-k.k (omega arith))
