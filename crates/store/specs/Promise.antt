-- Document 02, C-24: what is shown of the store.
use Rattle.std.specs.Prelude.{◌≡◌, true, false, cond, ◌≢◌, ◌⊎◌, List, ℕ, suc, ◌+◌, ◌≤◌, ◌<◌, length, take, drop, replicate}
use Rattle.std.proofs.Math.Option.{none, some}
use Rattle.laws.specs.Lists.{total}
use Rattle.rules.specs.declared.Refusal.{Refusal}
use Rattle.rules.specs.declared.Refusal.TheVariants.{Room, Unknown, Full, Store as BadStore}
use Rattle.rules.specs.declared.Settings.{Settings}
use Rattle.rules.specs.Answers.{Judged, ok, no}
use Rattle.store.specs.declared.Setting.{Setting}
use Rattle.store.specs.declared.Edition.{Edition}
use Rattle.store.specs.Switches.{switches_of, settings_of}
use Rattle.store.specs.Store.{Store, is_free, is_old, is_good, find, newest, get, get_newest, has_free, added, add, dropped, drop_old}
use Rattle.store.specs.Rooms.{store_bytes, store_in, get_in, newest_in, place_in, add_in, drop_in, after_add, after_drop}

-- "a new edition, numbered one above the newest from 1 on, never alters an old one, and the newest can be asked for"
pub record Adds (ss : Store) (f w : ℕ) : Type 0 where
  pub old_ones : (g e : ℕ) → 1 ≤ e → (g ≡ f → e ≡ suc (newest f ss) → ⊥) → find g e (added f w ss) ≡ find g e ss
  pub new_one : find f (suc (newest f ss)) (added f w ss) ≡ some w
  pub newest_is : newest f (added f w ss) ≡ suc (newest f ss)
  pub others : (g : ℕ) → g ≢ f → newest g (added f w ss) ≡ newest g ss
  pub good : w < 8 → is_good ss ≡ true → is_good (added f w ss) ≡ true
  pub as_long : length (added f w ss) ≡ length ss

-- a free place counts
abbrev pub freed : Setting → ℕ
freed s = cond (is_free s) 1 0

-- "Dropping old editions of a family gives their room back, and the newest stays."
pub record Drops (ss : Store) (f : ℕ) : Type 0 where
  pub newest_stays : newest f (dropped f ss) ≡ newest f ss
  pub still_held : 1 ≤ newest f ss → find f (newest f ss) (dropped f ss) ≡ find f (newest f ss) ss
  pub others : (g e : ℕ) → 1 ≤ e → g ≢ f → find g e (dropped f ss) ≡ find g e ss
  pub others_newest : (g : ℕ) → g ≢ f → newest g (dropped f ss) ≡ newest g ss
  pub old_gone : (e : ℕ) → 1 ≤ e → e < newest f ss → find f e (dropped f ss) ≡ none
  pub room_back : total freed (dropped f ss) ≡ total freed ss + total (λ s. cond (is_old f (newest f ss) s) 1 0) ss
  pub good : is_good ss ≡ true → is_good (dropped f ss) ≡ true
  pub as_long : length (dropped f ss) ≡ length ss

-- ---- in the lent room

-- a room that holds this store in front, and is otherwise what it was
pub record Holds (room room' : List ℕ) (ss : Store) : Type 0 where
  pub store : store_in room' ≡ ss
  pub beyond : drop store_bytes room' ≡ drop store_bytes room
  pub as_long : length room' ≡ length room

-- after an addition and after a dropping that were not refused, the room holds the store that they make
pub record Keeps (room : List ℕ) (f : ℕ) : Type 0 where
  pub added_is : (asked : Settings) (e : ℕ) → add_in room f ≡ ok e
      → (e ≡ suc (newest f (store_in room))) × Holds room (after_add room f asked) (added f (switches_of asked) (store_in room))
  pub dropped_is : (e : ℕ) → drop_in room f ≡ ok e
      → (e ≡ newest f (store_in room)) × Holds room (after_drop room f) (dropped f (store_in room))

-- "No lent byte changes" on a refusal
pub record Untouched (room : List ℕ) (f : ℕ) : Type 0 where
  pub add_refused : (asked : Settings) (r : Refusal) → add_in room f ≡ no r → after_add room f asked ≡ room
  pub drop_refused : (r : Refusal) → drop_in room f ≡ no r → after_drop room f ≡ room

-- ---- what the entries answer afterwards

-- what is asked for after edition e of the family was added
pub record Grown (room : List ℕ) (f : ℕ) (asked : Settings) (e : ℕ) : Type 0 where
  pub new_one : get_in (after_add room f asked) f e ≡ ok (record { number = e; settings = asked })
  -- "the newest can be asked for"
  pub newest_is : newest_in (after_add room f asked) f ≡ ok (record { number = e; settings = asked })
  -- "never alters an old one"
  pub old_ones : (g n : ℕ) → (g ≡ f → n ≡ e → ⊥) → get_in (after_add room f asked) g n ≡ get_in room g n
  pub others : (g : ℕ) → g ≢ f → newest_in (after_add room f asked) g ≡ newest_in room g
  -- "numbered one above the newest from 1 on"
  pub first_is_1 : newest_in room f ≡ no Unknown → e ≡ 1
  pub one_above : (old : Edition) → newest_in room f ≡ ok old → e ≡ suc old.number

-- what is asked for after the old editions of the family were dropped
pub record Thinned (room : List ℕ) (f e : ℕ) : Type 0 where
  -- "and the newest stays"
  pub newest_stays : newest_in (after_drop room f) f ≡ newest_in room f
  pub old_gone : (n : ℕ) → n < e → get_in (after_drop room f) f n ≡ no Unknown
  pub others : (g n : ℕ) → g ≢ f → get_in (after_drop room f) g n ≡ get_in room g n
  pub others_newest : (g : ℕ) → g ≢ f → newest_in (after_drop room f) g ≡ newest_in room g
  -- the numbers go on where they were
  pub next_number : (n : ℕ) → add_in (after_drop room f) f ≡ ok n → n ≡ suc e
  -- "gives their room back"
  pub room_back : total freed (store_in (after_drop room f)) ≡ total freed (store_in room) + total (λ s. cond (is_old f e s) 1 0) (store_in room)

-- "Refusals, before any of document 01: store room short for 32 settings 12; a setting held twice or out of range there 19; ..": each number
-- has its cause, in this order. `asked` is what is asked of a store
pub data StoreCause {A : Type 0} (room : List ℕ) (asked : Store → Judged A) (r : Refusal) : Type 0 where
  short : length room < store_bytes → r ≡ Room 0 → StoreCause room asked r
  bad : store_bytes ≤ length room → is_good (store_in room) ≡ false → r ≡ BadStore → StoreCause room asked r
  refused : store_bytes ≤ length room → is_good (store_in room) ≡ true → asked (store_in room) ≡ no r → StoreCause room asked r

-- "unknown family or edition 17; store full after reuse, or a family at edition 65,535, 18": what a good store lacks that refuses what it is asked
pub record Lacks (ss : Store) (f : ℕ) : Type 0 where
  pub get_17 : (e : ℕ) (r : Refusal) → get f e ss ≡ no r → (r ≡ Unknown) × ((e ≡ 0) ⊎ (find f e ss ≡ none))
  pub newest_17 : (r : Refusal) → get_newest f ss ≡ no r → (r ≡ Unknown) × (newest f ss ≡ 0)
  pub drop_17 : (r : Refusal) → drop_old f ss ≡ no r → (r ≡ Unknown) × (newest f ss ≡ 0)
  pub add_18 : (r : Refusal) → add f ss ≡ no r → (r ≡ Full) × ((has_free ss ≡ false) ⊎ (65535 ≤ newest f ss))

-- what is shown place by place is what can be asked for: each edition, and nothing else
pub record ShownRight (room : List ℕ) : Type 0 where
  pub shown_found : (k : ℕ) (s : Setting) → place_in room k ≡ ok s → is_free s ≡ false
      → get_in room s.family s.edition ≡ ok (record { number = s.edition; settings = settings_of s.switches })
  pub found_shown : (f e : ℕ) (x : Edition) → get_in room f e ≡ ok x
      → (k : ℕ) × (k < 32) × (w : ℕ) × (place_in room k ≡ ok (record { family = f; edition = e; switches = w }))

-- ---- 19 is for stores that were not made so

-- a room that began with zeros, and was changed by adding and dropping alone
pub data Made : List ℕ → Type 0 where
  zeros : (room : List ℕ) → take store_bytes room ≡ replicate store_bytes 0 → Made room
  adding : {room : List ℕ} → Made room → (f : ℕ) (asked : Settings) → Made (after_add room f asked)
  dropping : {room : List ℕ} → Made room → (f : ℕ) → Made (after_drop room f)

pub record Never19 (room : List ℕ) : Type 0 where
  pub get : (f e : ℕ) → get_in room f e ≡ no BadStore → ⊥
  pub newest : (f : ℕ) → newest_in room f ≡ no BadStore → ⊥
  pub add : (f : ℕ) → add_in room f ≡ no BadStore → ⊥
  pub drop : (f : ℕ) → drop_in room f ≡ no BadStore → ⊥
