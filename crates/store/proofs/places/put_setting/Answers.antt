-- `store::places::put_setting` meets its contract: five stores in a row.
use Prim.Native.Nat.{◌*◌}
use native.Mathlib.Omega.{arith}
use Rattle.store.proofs.PlaceByPlace.{five_stores}
use Rattle.store.proofs.places.put_setting.Goals as goal

pub returns : goal.returns
returns c =
    let a = c.args in
    let l = c.requires in
    let high = c.high_byte.ensures in
    let low = c.low_byte.ensures in
    rw (high, low, c.high_byte-2.ensures, c.low_byte-2.ensures)
    (five_stores a.room.now (5 * a.k) _ _ _ _ _ (omega (arith, l.0, l.1)))
