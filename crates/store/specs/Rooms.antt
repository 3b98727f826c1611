-- Document 02, C-24: the store in lent room. 32 places of five bytes: the family and the edition in two bytes each, high byte first,
-- and the switches.
use Rattle.rules.specs.declared.Refusal.{Refusal}
use Rattle.std.specs.Prelude.{List, [], ◌∷◌, ◌++◌, cond, ℕ, ◌+◌, ◌*◌, leb, length, get_or, take, drop, Err, Ok, Result, None, Some, Option as AnOption}
use Rattle.std.proofs.Math.Option.{Option, none, some}
use Rattle.laws.specs.Lists.{each}
use Rattle.laws.specs.Counts.{tab}
use Rattle.rules.specs.Expressions.{pair}
use Rattle.rules.specs.declared.Refusal.TheVariants.{Room, Store as BadStore}
use Rattle.rules.specs.declared.Settings.{Settings}
use Rattle.rules.specs.Answers.{Judged, Check, ok, no, ◌>>◌, require}
use Rattle.store.specs.declared.Setting.{Setting}
use Rattle.store.specs.declared.Edition.{Edition}
use Rattle.store.specs.Switches.{switches_of}
use Rattle.store.specs.Store.{Store, is_free, is_good, get, get_newest, place_at, added, add, dropped, drop_old}

abbrev pub place_count : ℕ
place_count = 32

abbrev pub store_bytes : ℕ
store_bytes = 160

-- ---- reading and writing

abbrev pub setting_at : (room : List ℕ) (k : ℕ) → Setting
setting_at room k =
    record {
      family = get_or room (5 * k) 0 * 256 + get_or room (5 * k + 1) 0;
      edition = get_or room (5 * k + 2) 0 * 256 + get_or room (5 * k + 3) 0;
      switches = get_or room (5 * k + 4) 0;
    }

unfoldable pub store_in : (room : List ℕ) → Store
store_in room = tab (setting_at room) place_count

abbrev pub bytes_of : Setting → List ℕ
bytes_of s = pair s.family ++ (pair s.edition ++ (s.switches ∷ []))

-- place k with this setting, all other bytes as they were
abbrev pub with_place : (room : List ℕ) (k : ℕ) → Setting → List ℕ
with_place room k s = take (5 * k) room ++ bytes_of s ++ drop (5 * k + 5) room

-- a store at the front of the room; what lies beyond is unchanged
unfoldable pub room_with : (room : List ℕ) → Store → List ℕ
room_with room ss = each (λ s. bytes_of s) ss ++ drop store_bytes room

-- ---- "Refusals, before any of document 01: store room short for 32 settings 12; a setting held twice or out of range there 19; unknown
-- family or edition 17; store full after reuse, or a family at edition 65,535, 18"

module _ (room : List ℕ) where
  -- 12 and 19; a store has no statements to count, so 12 gives 0
  unfoldable pub judged : Check
  judged = require (leb store_bytes (length room)) (Room 0) (require (is_good (store_in room)) BadStore (ok tt))

  -- the store is judged before anything is asked of it
  unfoldable pub in_store : {A : Type 0} → (Store → Judged A) → Judged A
  in_store f = do
    judged
    f (store_in room)

  abbrev pub get_in : (f e : ℕ) → Judged Edition
  get_in f e = in_store (λ ss. get f e ss)

  abbrev pub newest_in : (f : ℕ) → Judged Edition
  newest_in f = in_store (λ ss. get_newest f ss)

  abbrev pub place_in : (k : ℕ) → Judged Setting
  place_in k = in_store (λ ss. ok (place_at k ss))

  abbrev pub add_in : (f : ℕ) → Judged ℕ
  add_in f = in_store (λ ss. add f ss)

  abbrev pub drop_in : (f : ℕ) → Judged ℕ
  drop_in f = in_store (λ ss. drop_old f ss)

  -- the room at the end; a refusal changes no byte
  abbrev pub room_after : {A : Type 0} → Judged A → Store → List ℕ
  room_after (ok a) ss = room_with room ss
  room_after (no r) ss = room

  abbrev pub after_add : (f : ℕ) → Settings → List ℕ
  after_add f asked = room_after (add_in f) (added f (switches_of asked) (store_in room))

  abbrev pub after_drop : (f : ℕ) → List ℕ
  after_drop f = room_after (drop_in f) (dropped f (store_in room))

-- ---- what the code answers

abbrev pub verdict_as : Check → Result (Unit {0}) Refusal
verdict_as (ok u) = Ok tt
verdict_as (no r) = Err r

abbrev pub held_as : Option ℕ → AnOption ℕ
held_as none = None
held_as (some w) = Some w

abbrev pub found_as : Judged Edition → Result Edition Refusal
found_as (ok e) = Ok e
found_as (no r) = Err r

abbrev pub shown_of : Setting → AnOption Setting
shown_of s = cond (is_free s) None (Some s)

abbrev pub shown_as : Judged Setting → Result (AnOption Setting) Refusal
shown_as (ok s) = Ok (shown_of s)
shown_as (no r) = Err r

abbrev pub numbered_as : Judged ℕ → Result ℕ Refusal
numbered_as (ok n) = Ok n
numbered_as (no r) = Err r
