-- `store::asking::newest_of` meets its contract: `top` is the newest before k, and the places from k on may hold a newer one.
use mathlib.Core.Path.{◌≡◌}
use Prim.Native.Nat.{max}
use lib.ListN.{drop}
use Rattle.store.specs.Store.{newest}
use Rattle.store.specs.Rooms.{store_in}
use Rattle.store.proofs.asking.newest_of.Given as goal

abbrev pub invariant-loop-k : goal.invariant-loop-k
invariant-loop-k l = (newest l.family (store_in l.room) ≡ max l.top (newest l.family (drop l.k (store_in l.room))))
