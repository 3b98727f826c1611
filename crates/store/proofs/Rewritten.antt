-- A room after a place of it was written, or several, is the room with the store that has them. Assumes nothing.
use mathlib.Core.Path.{◌≡◌, refl, sym, ◌∙◌, ap}
use mathlib.Core.List.{List, [], ◌∷◌, ◌++◌, map, append-nil}
use mathlib.Core.Bool.{Bool, true, false, cond}
use Prim.Native.Nat.{ℕ, zero, suc, ◌+◌, ◌*◌, ◌/◌, ◌%◌, ◌<◌, ◌≤◌}
use native.Mathlib.Numerals.{add-one}
use native.Mathlib.Omega.{arith}
use lib.ListN.{length, get_or, set, take, drop, length-drop, take-append-drop, drop_of_length-le}
use lib.Seq.{set-get_or, take-add, get_or-drop, take_all}
use Rattle.laws.specs.Lists.{each}
use Rattle.laws.specs.Counts.{tab}
use Rattle.laws.proofs.Lists.{each_append, each_one}
use Rattle.laws.proofs.Counts.{get_or_tab}
use Rattle.laws.proofs.Tests.{cond_true, cond_false}
use Rattle.store.specs.declared.Setting.{Setting}
use Rattle.store.specs.Store.{Store, free, is_old, cleared}
use Rattle.store.specs.Rooms.{setting_at, store_in, bytes_of, with_place, room_with}
use Rattle.store.specs.Changes.{cleared_place}
use Rattle.store.proofs.RoomHolds.{read_back, length_store}

-- a room of bytes
abbrev pub Bytes : List ℕ → Type 0
Bytes room = (i : ℕ) → get_or room i 0 < 256

-- ---- the bytes that a store was read from are the bytes that are written for it

two_back : (a b : ℕ) → b < 256 → ((a * 256 + b) / 256 ≡ a) × ((a * 256 + b) % 256 ≡ b)
two_back a b h = (omega arith, omega arith)

first_five : (l : List ℕ) → 5 ≤ length l → take 5 l ≡ get_or l 0 0 ∷ get_or l 1 0 ∷ get_or l 2 0 ∷ get_or l 3 0 ∷ get_or l 4 0 ∷ []
first_five [] h = absurd (omega arith)
first_five (a ∷ []) h = absurd (omega arith)
first_five (a ∷ b ∷ []) h = absurd (omega arith)
first_five (a ∷ b ∷ c ∷ []) h = absurd (omega arith)
first_five (a ∷ b ∷ c ∷ d ∷ []) h = absurd (omega arith)
first_five (a ∷ b ∷ c ∷ d ∷ e ∷ l) h = refl

module _ (room : List ℕ) (bytes : Bytes room) where
  place_back : (k : ℕ) → 5 * k + 5 ≤ length room → bytes_of (setting_at room k) ≡ take 5 (drop (5 * k) room)
  place_back k h =
      let f = two_back (get_or room (5 * k) 0) (get_or room (5 * k + 1) 0) (bytes (5 * k + 1)) in
      let e = two_back (get_or room (5 * k + 2) 0) (get_or room (5 * k + 3) 0) (bytes (5 * k + 3)) in
      let z : 5 * k + 0 ≡ 5 * k = omega arith in
      sym (first_five (drop (5 * k) room) (omega (arith, length-drop (5 * k) room)) ∙ simp get_or-drop (rw (z, f.0, f.1, e.0, e.1)))

  places_back : (n : ℕ) → 5 * n ≤ length room → each (λ s. bytes_of s) (tab (setting_at room) n) ≡ take (5 * n) room
  unfolding tab each
  places_back zero h = refl
  places_back (suc n) h =
      let z : 5 * suc n ≡ 5 * n + 5 = omega arith in
      each_append (λ s. bytes_of s) (tab (setting_at room) n) (setting_at room n ∷ [])
      ∙ rw (each_one (λ (s : Setting). bytes_of s) (setting_at room n), places_back n (omega arith), place_back n (omega arith), z)
      (sym (take-add (5 * n) 5 room))

  pub store_back : 160 ≤ length room → room_with room (store_in room) ≡ room
  unfolding room_with store_in
  store_back h = rw (places_back 32 h) (take-append-drop 160 room)

-- ---- one place written

put_bytes : (ss : Store) (rest : List ℕ) (k : ℕ) (s : Setting) → k < length ss
    → with_place (each (λ x. bytes_of x) ss ++ rest) k s ≡ each (λ x. bytes_of x) (set ss k s) ++ rest
unfolding each
put_bytes [] rest k s l = absurd (omega arith)
put_bytes (x ∷ ss) rest zero s l = refl
put_bytes (x ∷ ss) rest (suc k) s l =
    let a : 5 * suc k ≡ suc (suc (suc (suc (suc (5 * k))))) = omega arith in
    let b : 5 * suc k + 5 ≡ suc (suc (suc (suc (suc (5 * k + 5))))) = omega arith in
    rw (b, a, put_bytes ss rest k s (omega arith))

pub put_room : (room : List ℕ) (ss : Store) (k : ℕ) (s : Setting) → k < length ss
    → with_place (room_with room ss) k s ≡ room_with room (set ss k s)
unfolding room_with
put_room room ss k s l = put_bytes ss (drop 160 room) k s l

-- ---- the first k places changed by f
module _ (f : Setting → Setting) where
  abbrev pub up_to : ℕ → Store → Store
  up_to k ss = map f (take k ss) ++ drop k ss

  pub length_up_to : (k : ℕ) (ss : Store) → length (up_to k ss) ≡ length ss
  length_up_to zero ss = refl
  length_up_to (suc k) [] = refl
  length_up_to (suc k) (s ∷ ss) = ap suc (length_up_to k ss)

  pub here_yet : (k : ℕ) (ss : Store) (d : Setting) → get_or (up_to k ss) k d ≡ get_or ss k d
  here_yet zero ss d = refl
  here_yet (suc k) [] d = refl
  here_yet (suc k) (s ∷ ss) d = here_yet k ss d

  pub one_more : (k : ℕ) (ss : Store) (d : Setting) → k < length ss → set (up_to k ss) k (f (get_or ss k d)) ≡ up_to (suc k) ss
  one_more zero [] d l = absurd (omega arith)
  one_more zero (s ∷ ss) d l = refl
  one_more (suc k) [] d l = absurd (omega arith)
  one_more (suc k) (s ∷ ss) d l = ap (λ (x : Store). f s ∷ x) (one_more k ss d (omega arith))

  pub up_to_all : (k : ℕ) (ss : Store) → length ss ≤ k → up_to k ss ≡ map f ss
  up_to_all k ss h = rw (take_all k ss h, drop_of_length-le ss {i = k} h) (append-nil (map f ss))

module _ (room : List ℕ) (f top k : ℕ) (l : k < 32) where
  abbrev mix : Store
  mix = up_to (λ s. cleared f top s) k (store_in room)

  -- the place at hand is yet as it was
  unchanged : setting_at (room_with room mix) k ≡ setting_at room k
  unfolding room_with store_in
  unchanged =
      let n = length_up_to (λ s. cleared f top s) k (store_in room) ∙ length_store room in
      read_back mix (drop 160 room) k (omega arith) ∙ here_yet (λ s. cleared f top s) k (store_in room) free
      ∙ get_or_tab (setting_at room) 32 k free l

  -- it is cleared, if it was old
  pub cleared_more : (now : List ℕ) → now ≡ room_with room mix
      → cleared_place f top now k ≡ room_with room (up_to (λ s. cleared f top s) (k + 1) (store_in room))
  unfolding store_in
  cleared_more now e =
      ap (λ (x : List ℕ). cleared_place f top x k) e
      ∙ ap (λ (s : Setting). cond (is_old f top s) (with_place (room_with room mix) k free) (room_with room mix)) unchanged
      ∙ on (is_old f top (setting_at room k)) refl
      ∙ ap (λ (n : ℕ). room_with room (up_to (λ s. cleared f top s) n (store_in room))) (sym (add-one k))
    where
      g : get_or (store_in room) k free ≡ setting_at room k
      g = get_or_tab (setting_at room) 32 k free l

      next : set mix k (cleared f top (setting_at room k)) ≡ up_to (λ s. cleared f top s) (suc k) (store_in room)
      next =
          ap (λ (s : Setting). set mix k (cleared f top s)) (sym g)
          ∙ one_more (λ s. cleared f top s) k (store_in room) free (omega (arith, length_store room))

      on : (t : Bool) → is_old f top (setting_at room k) ≡ t
          → cond t (with_place (room_with room mix) k free) (room_with room mix)
          ≡ room_with room (up_to (λ s. cleared f top s) (suc k) (store_in room))
      on true q =
          put_room room mix k free (omega (arith, length_up_to (λ s. cleared f top s) k (store_in room), length_store room))
          ∙ ap (room_with room) (ap (set mix k) (sym (cond_true _ free (setting_at room k) q)) ∙ next)
      on false q =
          let h = here_yet (λ s. cleared f top s) k (store_in room) free ∙ g ∙ sym (cond_false _ free (setting_at room k) q) in
          ap (room_with room) (sym (set-get_or mix k free) ∙ ap (set mix k) h ∙ next)
