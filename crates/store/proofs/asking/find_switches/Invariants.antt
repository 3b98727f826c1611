-- `store::asking::find_switches` meets its contract: no place before k holds it, so those from k on decide.
use mathlib.Core.Path.{◌≡◌}
use lib.ListN.{drop}
use Rattle.store.specs.Store.{find}
use Rattle.store.specs.Rooms.{store_in}
use Rattle.store.proofs.asking.find_switches.Given as goal

abbrev pub invariant-loop-k : goal.invariant-loop-k
invariant-loop-k l = (find l.family l.edition (store_in l.room) ≡ find l.family l.edition (drop l.k (store_in l.room)))
