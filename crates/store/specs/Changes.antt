-- The words of the contracts of adding and dropping.
use Rattle.rules.specs.declared.Refusal.{Refusal}
use Rattle.std.specs.Prelude.{◌≡◌, List, cond, ℕ, ◌<◌, ◌≤◌, ltb, set, Result}
use Rattle.rules.specs.Answers.{Judged}
use Rattle.store.specs.declared.Setting.{Setting}
use Rattle.store.specs.Store.{Store, free, has_free, put, is_old}
use Rattle.store.specs.Rooms.{setting_at, with_place, room_after, numbered_as}

-- place k is the first free one, or 32
pub record FirstFree (ss : Store) (k : ℕ) : Type 0 where
  pub bound : k ≤ 32
  pub some : has_free ss ≡ ltb k 32
  pub there : (x : Setting) → k < 32 → put x ss ≡ set ss k x

-- place k is cleared, if it holds an old edition of the family
abbrev pub cleared_place : (f top : ℕ) (room : List ℕ) (k : ℕ) → List ℕ
cleared_place f top room k = cond (is_old f top (setting_at room k)) (with_place room k free) room

-- the answer r, and what the room holds at the end
pub record Leaves (room : List ℕ) (answer : Judged ℕ) (ss : Store) (r : Result ℕ Refusal) (room' : List ℕ) : Type 0 where
  pub answered : r ≡ numbered_as answer
  pub room_is : room' ≡ room_after room answer ss
