-- What adding and dropping answer, and leave in the room. Assumes nothing.
use mathlib.Core.Path.{◌≡◌, sym, ◌∙◌, ap}
use mathlib.Core.List.{List}
use mathlib.Core.Bool.{true, false}
use Prim.Native.Nat.{ℕ, suc, ◌+◌, ◌<◌, ◌≤◌}
use native.Mathlib.Numerals.{add-one}
use native.Mathlib.Omega.{arith}
use lib.Dec.{ltb}
use lib.ListN.{length}
use borrow.Author.Tests.{le-ltb, lt-ltb, le-leb, lt-leb}
use Rattle.std.specs.Prelude.{Err, Ok}
use Rattle.laws.proofs.Tests.{second_false}
use Rattle.rules.specs.declared.Refusal.{Refusal}
use Rattle.rules.specs.declared.Refusal.TheVariants.{Unknown, Full}
use Rattle.rules.specs.Answers.{Judged, ok, no, require}
use Rattle.store.specs.declared.Setting.{Setting}
use Rattle.store.specs.Store.{Store, newest, has_free, added, add, drop_old}
use Rattle.store.specs.Rooms.{store_in, with_place, room_with}
use Rattle.store.specs.Changes.{FirstFree, Leaves}
use Rattle.store.proofs.RoomHolds.{length_store}
use Rattle.store.proofs.Rewritten.{Bytes, store_back, put_room}

module _ (room : List ℕ) (answer : Judged ℕ) (ss : Store) where
  pub leaves_no : (r : Refusal) → answer ≡ no r → Leaves room answer ss (Err r) room
  leaves_no r e = record { answered = rw e; room_is = rw e }

  pub leaves_ok : (n : ℕ) (room' : List ℕ) → answer ≡ ok n → room' ≡ room_with room ss → Leaves room answer ss (Ok n) room'
  leaves_ok n room' e h = record { answered = rw e; room_is = rw e h }

module _ (f : ℕ) (ss : Store) where
  pub no_place : has_free ss ≡ false → add f ss ≡ no Full
  unfolding add require
  no_place e = rw e

  pub no_number : 65535 ≤ newest f ss → add f ss ≡ no Full
  unfolding add require
  no_number h = rw (second_false (has_free ss) (ltb (newest f ss) 65535) (le-ltb (newest f ss) 65535 h))

  pub next_number : has_free ss ≡ true → newest f ss < 65535 → add f ss ≡ ok (newest f ss + 1)
  unfolding add require
  next_number e h = rw (e, lt-ltb (newest f ss) 65535 h, add-one (newest f ss))

  pub no_family : newest f ss < 1 → drop_old f ss ≡ no Unknown
  unfolding drop_old require
  no_family h = rw (lt-leb 1 (newest f ss) h)

  pub stays : 1 ≤ newest f ss → drop_old f ss ≡ ok (newest f ss)
  unfolding drop_old require
  stays h = rw (le-leb 1 (newest f ss) h)

-- the new edition in the first free place
module _ (room : List ℕ) (bytes : Bytes room) (l : 160 ≤ length room) where
  pub added_room : (f w k : ℕ) → FirstFree (store_in room) k → k < 32
      → with_place room k (record { family = f; edition = newest f (store_in room) + 1; switches = w })
      ≡ room_with room (added f w (store_in room))
  unfolding added
  added_room f w k h m =
      let x : Setting = record { family = f; edition = suc (newest f (store_in room)); switches = w } in
      ap (λ (n : ℕ). with_place room k (record { family = f; edition = n; switches = w })) (add-one (newest f (store_in room)))
      ∙ ap (λ (y : List ℕ). with_place y k x) (sym (store_back room bytes l))
      ∙ put_room room (store_in room) k x (omega (arith, length_store room))
      ∙ ap (room_with room) (sym (h.there x m))
