-- `anchors::anchoring::anchor_targets` meets its contract: the loop fills both rows from the front.
use mathlib.Core.Path.{◌≡◌}
use mathlib.Core.List.{List, ◌++◌}
use Prim.Native.Nat.{ℕ, ◌≤◌}
use lib.ListN.{length, drop}
use Rattle.laws.specs.Counts.{tab}
use Rattle.rules.specs.Names.{Key}
use Rattle.expression.specs.Environment.{keys_of}
use Rattle.image.specs.Tables.{Tables, tables_of, program}
use Rattle.slots.specs.State.{owners_in, offsets_in, Labelled}
use Rattle.anchors.specs.Anchored.{origin_at, owner_of, offset_of}
use Rattle.anchors.proofs.anchoring.anchor_targets.Given as goal

-- what the tables are to hold at a place, `moving` being the names that move
abbrev owner_at : Tables → (moving : List Key) (k : ℕ) → ℕ
owner_at d moving k = owner_of (origin_at d.entries moving (program d) k)

abbrev offset_at : Tables → (moving : List Key) (k : ℕ) → ℕ
offset_at d moving k = offset_of (origin_at d.entries moving (program d) k)

pub record Filling (d : Tables) (moving : List Key) (i : ℕ) (next₀ next : List (List ℕ)) : Type 0 where
  pub low : i ≤ d.slots.count
  pub owner : owners_in next ≡ tab (owner_at d moving) i ++ drop i (owners_in next₀)
  pub offset : offsets_in next ≡ tab (offset_at d moving) i ++ drop i (offsets_in next₀)
  pub owner_room : length (owners_in next) ≡ 1025
  pub offset_room : length (offsets_in next) ≡ 1025
  pub labelled : Labelled next₀ next

abbrev pub invariant-loop-i : goal.invariant-loop-i
invariant-loop-i l =
    Filling (tables_of l.frames l.state l.count l.links l.values l.positions) (keys_of l.moving l.contexts l.count) l.i l.initial.next
    l.next
