-- The bytes that are written for a store are read as that store; a refusal changes none.
use mathlib.Core.Path.{◌≡◌, refl, sym, ◌∙◌}
use mathlib.Core.List.{List, [], ◌∷◌, ◌++◌}
use mathlib.Core.Bool.{true, ◌&&◌}
use Prim.Native.Nat.{ℕ, zero, suc, ◌+◌, ◌*◌, ◌/◌, ◌%◌, ◌<◌, ◌≤◌}
use native.Mathlib.Omega.{arith}
use lib.Dec.{leb, ltb}
use lib.ListN.{length, get_or, drop, length-append, length-drop}
use lib.Seq.{drop_at}
use borrow.Author.Tests.{leb-true, ltb-true}
use Rattle.laws.specs.Lists.{each}
use Rattle.laws.proofs.Counts.{tab_is, length_tab, get_or_tab}
use Rattle.laws.proofs.Tests.{and_true}
use Rattle.rules.specs.declared.Refusal.{Refusal}
use Rattle.rules.specs.declared.Refusal.TheVariants.{Room, Unknown, Full, Store as BadStore}
use Rattle.rules.specs.declared.Settings.{Settings}
use Rattle.rules.specs.Answers.{Judged, ok, no}
use Rattle.rules.proofs.Laws.{no_ok, next_ok, require_ok}
use Rattle.store.specs.Switches.{switches_of}
use Rattle.store.specs.Store.{Store, free, is_good, newest, has_free, added, add, dropped, drop_old}
use Rattle.store.specs.Rooms.{store_bytes, setting_at, store_in, bytes_of, room_with, judged, in_store, add_in, drop_in, room_after, after_add, after_drop}
use Rattle.store.specs.Promise.{Holds, Keeps, Untouched}
use Rattle.store.proofs.OldOnesStay.{adds}
use Rattle.store.proofs.NewestStays.{drops}

two : (n : ℕ) → n / 256 * 256 + n % 256 ≡ n
two n = omega arith

-- ---- what is written is read back

pub read_back : (ss : Store) (rest : List ℕ) (k : ℕ) → k < length ss → setting_at (each (λ s. bytes_of s) ss ++ rest) k ≡ get_or ss k free
unfolding each
read_back [] rest k l = absurd (omega arith)
read_back (s ∷ ss) rest zero l = rw (two s.family, two s.edition)
read_back (s ∷ ss) rest (suc k) l =
    let a : 5 * suc k ≡ suc (suc (suc (suc (suc (5 * k))))) = omega arith in
    let b : 5 * suc k + 1 ≡ suc (suc (suc (suc (suc (5 * k + 1))))) = omega arith in
    let c : 5 * suc k + 2 ≡ suc (suc (suc (suc (suc (5 * k + 2))))) = omega arith in
    let d : 5 * suc k + 3 ≡ suc (suc (suc (suc (suc (5 * k + 3))))) = omega arith in
    let e : 5 * suc k + 4 ≡ suc (suc (suc (suc (suc (5 * k + 4))))) = omega arith in
    rw (b, c, d, e, a) (read_back ss rest k (omega arith))

pub length_bytes : (ss : Store) → length (each (λ s. bytes_of s) ss) ≡ 5 * length ss
unfolding each
length_bytes [] = refl
length_bytes (s ∷ ss) = omega (arith, length_bytes ss)

-- the room with a store of 32 places
pub holds : (room : List ℕ) (ss : Store) → length ss ≡ 32 → store_bytes ≤ length room → Holds room (room_with room ss) ss
unfolding store_in room_with
holds room ss l h =
    let x : List ℕ = each (λ s. bytes_of s) ss in
    let n : length x ≡ 160 = length_bytes ss ∙ omega arith in
    let back : (i : ℕ) → i < 32 → get_or ss i free ≡ setting_at (x ++ drop store_bytes room) i =
    λ i m. sym (read_back ss (drop store_bytes room) i (omega arith)) in
    record {
      store = sym (tab_is (setting_at (x ++ drop store_bytes room)) 32 ss free l back);
      beyond = drop_at x (drop store_bytes room) 160 n;
      as_long = length-append x (drop store_bytes room) ∙ omega (arith, length-drop store_bytes room);
    }

pub length_store : (room : List ℕ) → length (store_in room) ≡ 32
unfolding store_in
length_store room = length_tab (setting_at room) 32

pub place_is : (room : List ℕ) (k : ℕ) → k < 32 → get_or (store_in room) k free ≡ setting_at room k
unfolding store_in
place_is room k l = get_or_tab (setting_at room) 32 k free l

-- ---- an answer of a good store

pub in_store_lem : {A : Type 0} (room : List ℕ) (f : Store → Judged A) (a : A) → in_store room f ≡ ok a
    → (store_bytes ≤ length room) × (is_good (store_in room) ≡ true) × (f (store_in room) ≡ ok a)
unfolding in_store judged
in_store_lem room f a e =
    let n = next_ok (judged room) (f (store_in room)) a e in
    let x = require_ok (leb store_bytes (length room)) (Room 0) _ tt n.1 in
    let y = require_ok (is_good (store_in room)) BadStore (ok tt) tt x.1 in
    (leb-true store_bytes (length room) x.0, y.0, n.2)

pub after_ok : {A : Type 0} (room : List ℕ) (x : Judged A) (a : A) (ss : Store) → x ≡ ok a → room_after room x ss ≡ room_with room ss
after_ok room (ok b) a ss e = refl
after_ok room (no r) a ss e = no_ok r a e

after_no : {A : Type 0} (room : List ℕ) (x : Judged A) (r : Refusal) (ss : Store) → x ≡ no r → room_after room x ss ≡ room
after_no room (ok b) r ss e = no_ok r b (sym e)
after_no room (no s) r ss e = refl

-- what an addition and a dropping that are not refused say
pub add_ok : (f e : ℕ) (ss : Store) → add f ss ≡ ok e → (has_free ss ≡ true) × (newest f ss < 65535) × (suc (newest f ss) ≡ e)
unfolding add
add_ok f e ss h =
    let y = require_ok (has_free ss && ltb (newest f ss) 65535) Full (ok (suc (newest f ss))) e h in
    let b = and_true (has_free ss) (ltb (newest f ss) 65535) y.0 in
    let z : suc (newest f ss) ≡ e = cc y.1 in
    (b.0, ltb-true (newest f ss) 65535 b.1, z)

pub drop_ok : (f e : ℕ) (ss : Store) → drop_old f ss ≡ ok e → (1 ≤ newest f ss) × (newest f ss ≡ e)
unfolding drop_old
drop_ok f e ss h =
    let y = require_ok (leb 1 (newest f ss)) Unknown (ok (newest f ss)) e h in
    let z : newest f ss ≡ e = cc y.1 in
    (leb-true 1 (newest f ss) y.0, z)

module _ (room : List ℕ) (f : ℕ) where
  added_holds : (asked : Settings) (e : ℕ) → add_in room f ≡ ok e
      → (e ≡ suc (newest f (store_in room))) × Holds room (after_add room f asked) (added f (switches_of asked) (store_in room))
  added_holds asked e h =
      let ss : Store = store_in room in
      let w : ℕ = switches_of asked in
      let x = in_store_lem room (λ ss. add f ss) e h in
      let y = add_ok f e ss x.2 in
      let n = (adds ss f w y.0).as_long in
      (sym y.2, rw (after_ok room (add_in room f) e (added f w ss) h) (holds room (added f w ss) (n ∙ length_store room) x.0))

  dropped_holds : (e : ℕ) → drop_in room f ≡ ok e → (e ≡ newest f (store_in room)) × Holds room (after_drop room f) (dropped f (store_in room))
  dropped_holds e h =
      let ss : Store = store_in room in
      let x = in_store_lem room (λ ss. drop_old f ss) e h in
      let y = drop_ok f e ss x.2 in
      let n = (drops ss f).as_long in
      (sym y.1, rw (after_ok room (drop_in room f) e (dropped f ss) h) (holds room (dropped f ss) (n ∙ length_store room) x.0))

  pub keeps : Keeps room f
  keeps = record { added_is = added_holds; dropped_is = dropped_holds }

  pub untouched : Untouched room f
  untouched =
      record {
        add_refused = λ asked r h. after_no room (add_in room f) r _ h;
        drop_refused = λ r h. after_no room (drop_in room f) r _ h;
      }
