-- "No number is given without its cause": of what is asked of a store.
use mathlib.Core.Path.{◌≡◌, sym, ◌∙◌}
use mathlib.Core.List.{List}
use mathlib.Core.Logic.{⊎_elim}
use Prim.Native.Nat.{ℕ, ◌<◌, ◌≤◌}
use lib.ListN.{length}
use borrow.Author.Tests.{le-leb, lt-leb}
use mathlib.Core.Bool.{true, false}
use Rattle.laws.proofs.Tests.{decide, lt_or_le}
use Rattle.rules.specs.declared.Refusal.{Refusal}
use Rattle.rules.specs.declared.Refusal.TheVariants.{Room, Store as BadStore}
use Rattle.rules.specs.Answers.{Judged, no, ◌>>◌, require}
use Rattle.store.specs.Store.{Store, is_good}
use Rattle.store.specs.Rooms.{store_in, judged, in_store}
use Rattle.store.specs.Promise.{StoreCause, short, bad, refused}

module _ {A : Type 0} (room : List ℕ) (asked : Store → Judged A) where
  pub room_short : length room < 160 → in_store room asked ≡ no (Room 0)
  unfolding in_store judged require ◌>>◌
  room_short l = rw (lt-leb 160 (length room) l)

  module _ (long : 160 ≤ length room) where
    store_bad : is_good (store_in room) ≡ false → in_store room asked ≡ no BadStore
    unfolding in_store judged require ◌>>◌
    store_bad e = rw (le-leb 160 (length room) long, e)

    pub asks : is_good (store_in room) ≡ true → in_store room asked ≡ asked (store_in room)
    unfolding in_store judged require ◌>>◌
    asks e = rw (le-leb 160 (length room) long, e)

  -- causes: each refusal has its cause
  pub causes : (r : Refusal) → in_store room asked ≡ no r → StoreCause room asked r
  causes r e = ⊎_elim (λ l. short l (same (Room 0) (sym (room_short l) ∙ e))) (λ l. by_store l) (lt_or_le (length room) 160)
    where
      same : (s : Refusal) → ◌≡◌ {A = Judged A} (no s) (no r) → r ≡ s
      same s q = cc

      by_store : 160 ≤ length room → StoreCause room asked r
      by_store l =
          ⊎_elim (λ g. refused l g (sym (asks l g) ∙ e)) (λ g. bad l g (same BadStore (sym (store_bad l g) ∙ e)))
          (decide (is_good (store_in room)))
