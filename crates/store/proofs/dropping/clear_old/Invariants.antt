-- `store::dropping::clear_old` meets its contract: the places before k are cleared where they were old.
use mathlib.Core.Path.{◌≡◌}
use lib.ListN.{length}
use Rattle.store.specs.Store.{cleared}
use Rattle.store.specs.Rooms.{store_in, room_with}
use Rattle.store.proofs.Rewritten.{up_to}
use Rattle.store.proofs.dropping.clear_old.Given as goal

abbrev pub invariant-loop-k : goal.invariant-loop-k
invariant-loop-k l =
    (l.room ≡ room_with l.initial.room (up_to (λ s. cleared l.family l.top s) l.k (store_in l.initial.room))) × (length l.room ≡ length l.initial.room)
