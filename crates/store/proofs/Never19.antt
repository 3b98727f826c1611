-- A store made by adding and dropping from zeros is never refused 19.
use mathlib.Core.Path.{◌≡◌, refl, sym, ◌∙◌, ap}
use mathlib.Core.List.{List}
use mathlib.Core.Logic.{⊎_elim}
use mathlib.Core.Option.{Option, none, some}
use mathlib.Core.Bool.{Bool, true, false, ◌&&◌}
use Prim.Native.Nat.{ℕ, ◌+◌, ◌*◌, ◌<◌}
use native.Mathlib.Omega.{arith}
use lib.Dec.{leb, ltb}
use lib.ListN.{length, get_or, take, replicate, get_or-replicate}
use lib.Seq.{get_or-take}
use Rattle.laws.specs.Lists.{every}
use Rattle.laws.specs.Counts.{tab}
use Rattle.laws.proofs.Counts.{tab_ext}
use Rattle.laws.proofs.Tests.{clash, lt_or_le}
use Rattle.rules.specs.declared.Refusal.TheVariants.{Room, Unknown, Full, Store as BadStore}
use Rattle.rules.specs.declared.Settings.{Settings}
use Rattle.rules.specs.Answers.{Judged, ok, no, require}
use Rattle.store.specs.Switches.{switches_of}
use Rattle.store.specs.Store.{Store, free, none_twice, is_good, find, newest, known, get, get_newest, has_free, add, drop_old}
use Rattle.store.specs.Rooms.{store_bytes, setting_at, store_in, in_store, add_in, drop_in, after_add, after_drop}
use Rattle.store.specs.Promise.{Made, zeros, adding, dropping, Never19}
use Rattle.store.proofs.OldOnesStay.{adds}
use Rattle.store.proofs.NewestStays.{drops}
use Rattle.store.proofs.RoomHolds.{in_store_lem, add_ok, keeps, untouched}
use Rattle.store.proofs.Causes.{room_short, asks}
use Rattle.store.proofs.SwitchBits.{small}

-- ---- such a store is good

all_free : is_good (tab (λ k. free) 32) ≡ true
unfolding is_good none_twice every tab
all_free = refl

module _ (room : List ℕ) (z : take store_bytes room ≡ replicate store_bytes 0) where
  byte : (i : ℕ) → i < 160 → get_or room i 0 ≡ 0
  byte i l = sym (get_or-take 160 room i 0 l) ∙ ap (λ (x : List ℕ). get_or x i 0) z ∙ get_or-replicate 160 i 0 0 l

  place : (k : ℕ) → k < 32 → setting_at room k ≡ free
  place k l =
      rw (
        byte (5 * k) (omega arith),
        byte (5 * k + 1) (omega arith),
        byte (5 * k + 2) (omega arith),
        byte (5 * k + 3) (omega arith),
        byte (5 * k + 4) (omega arith),
      )

  zeros_good : is_good (store_in room) ≡ true
  unfolding store_in
  zeros_good = ap is_good (tab_ext (setting_at room) (λ k. free) 32 place) ∙ all_free

module _ (room : List ℕ) (f : ℕ) (good : is_good (store_in room) ≡ true) where
  add_good : (asked : Settings) → is_good (store_in (after_add room f asked)) ≡ true
  add_good asked = on (add_in room f) refl
    where
      on : (x : Judged ℕ) → add_in room f ≡ x → is_good (store_in (after_add room f asked)) ≡ true
      on (ok e) q =
          let t = add_ok f e (store_in room) (in_store_lem room (λ ss. add f ss) e q).2 in
          rw ((keeps room f).added_is asked e q).1.store ((adds (store_in room) f (switches_of asked) t.0).good (small asked) good)
      on (no r) q = rw ((untouched room f).add_refused asked r q) good

  drop_good : is_good (store_in (after_drop room f)) ≡ true
  drop_good = on (drop_in room f) refl
    where
      on : (x : Judged ℕ) → drop_in room f ≡ x → is_good (store_in (after_drop room f)) ≡ true
      on (ok e) q = rw ((keeps room f).dropped_is e q).1.store ((drops (store_in room) f).good good)
      on (no r) q = rw ((untouched room f).drop_refused r q) good

pub made_good : {room : List ℕ} → Made room → is_good (store_in room) ≡ true
made_good (zeros room z) = zeros_good room z
made_good (adding m f asked) = add_good _ f (made_good m) asked
made_good (dropping m f) = drop_good _ f (made_good m)

-- ---- what is asked of it refuses 17 and 18 alone

get_no : (f e : ℕ) (ss : Store) → get f e ss ≡ no BadStore → ⊥
unfolding get require
get_no f e ss h = on (leb 1 e) (find f e ss) h
  where
    on : (t : Bool) (o : Option ℕ) → require t Unknown (known e o) ≡ no BadStore → ⊥
    on true none q = clash (cc)
    on true (some w) q = clash (cc)
    on false o q = clash (cc)

number_no : (t : Bool) (n : ℕ) → (require t Full (ok n) ≡ no BadStore → ⊥) × (require t Unknown (ok n) ≡ no BadStore → ⊥)
unfolding require
number_no true n = (λ q. clash (cc), λ q. clash (cc))
number_no false n = (λ q. clash (cc), λ q. clash (cc))

never : {A : Type 0} (room : List ℕ) (g : Store → Judged A) → is_good (store_in room) ≡ true → (g (store_in room) ≡ no BadStore → ⊥)
    → in_store room g ≡ no BadStore → ⊥
never {A} room g good other h =
    ⊎_elim (λ l. not_12 (sym (room_short room g l) ∙ h)) (λ l. other (sym (asks room g l good) ∙ h)) (lt_or_le (length room) 160)
  where
    not_12 : ◌≡◌ {A = Judged A} (no (Room 0)) (no BadStore) → ⊥
    not_12 q = clash (cc)

pub never_19 : (room : List ℕ) → Made room → Never19 room
unfolding get_newest add drop_old
never_19 room m =
    let good = made_good m in
    let ss : Store = store_in room in
    record {
      get = λ f e. never room (λ ss. get f e ss) good (get_no f e ss);
      newest = λ f. never room (λ ss. get_newest f ss) good (get_no f (newest f ss) ss);
      add = λ f. never room (λ ss. add f ss) good (number_no (has_free ss && ltb (newest f ss) 65535) _).0;
      drop = λ f. never room (λ ss. drop_old f ss) good (number_no (leb 1 (newest f ss)) _).1;
    }
