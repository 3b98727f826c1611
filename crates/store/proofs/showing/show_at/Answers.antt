-- `store::showing::show_at` meets its contract: behind the last place nothing, else what the place holds.
use mathlib.Core.Path.{sym, ◌∙◌, ap}
use native.Mathlib.Omega.{arith}
use Rattle.laws.proofs.Stores.{get_out}
use Rattle.store.specs.Store.{free}
use Rattle.store.specs.Rooms.{store_in, shown_of}
use Rattle.store.proofs.RoomHolds.{length_store, place_is}
use Rattle.store.proofs.showing.show_at.Goals as goal

pub returns-then-k-ge32 : goal.returns-then-k-ge32
returns-then-k-ge32 c =
    let a = c.args in
    sym (ap shown_of (get_out (store_in a.room.now) a.k free (omega (arith, length_store a.room.now, c.if-k-ge32.true))))

pub returns-then-is_free : goal.returns-then-is_free
returns-then-is_free c =
    let a = c.args in
    let e = c.read_setting-s.ensures ∙ sym (place_is a.room.now a.k c.if-k-ge32.false) in
    sym (ap shown_of (sym e) ∙ rw (← c.is_free.ensures, c.if-is_free.true))

pub returns-else-is_free : goal.returns-else-is_free
returns-else-is_free c =
    let a = c.args in
    let e = c.read_setting-s.ensures ∙ sym (place_is a.room.now a.k c.if-k-ge32.false) in
    sym (ap shown_of (sym e) ∙ rw (← c.is_free.ensures, c.if-is_free.false))
