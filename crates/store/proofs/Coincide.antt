-- "Show that any two results allowed by the contract coincide", of each public entry: the answer, and every byte of the room.
use mathlib.Core.Path.{◌≡◌, sym, ◌∙◌}
use mathlib.Core.List.{List}
use Prim.Native.Nat.{ℕ}
use Rattle.store.specs.declared.Setting.{Setting}
use Rattle.store.specs.declared.Edition.{Edition}
use Rattle.rules.specs.declared.Refusal.{Refusal}
use Rattle.std.specs.Prelude.{Result, Option}
use Rattle.rules.specs.declared.Settings.{Settings}
use Rattle.store.specs.Rooms.{get_in, newest_in, place_in, add_in, drop_in, after_add, after_drop, found_as, shown_as, numbered_as}

module _ (room : List ℕ) (f : ℕ) where
  -- `get_edition`
  pub one_edition : (e : ℕ) (r s : Result Edition Refusal) → r ≡ found_as (get_in room f e) → s ≡ found_as (get_in room f e) → r ≡ s
  one_edition e r s a b = a ∙ sym b

  -- `get_newest`
  pub one_newest : (r s : Result Edition Refusal) → r ≡ found_as (newest_in room f) → s ≡ found_as (newest_in room f) → r ≡ s
  one_newest r s a b = a ∙ sym b

  -- `show_place`: f is the place
  pub one_shown : (r s : Result (Option Setting) Refusal) → r ≡ shown_as (place_in room f) → s ≡ shown_as (place_in room f) → r ≡ s
  one_shown r s a b = a ∙ sym b

  -- `add_edition`
  pub one_added : (asked : Settings) (r s : Result ℕ Refusal) (x y : List ℕ)
      → (r ≡ numbered_as (add_in room f)) × (x ≡ after_add room f asked)
      → (s ≡ numbered_as (add_in room f)) × (y ≡ after_add room f asked)
      → (r ≡ s) × (x ≡ y)
  one_added asked r s x y a b = (a.0 ∙ sym b.0, a.1 ∙ sym b.1)

  -- `drop_old`
  pub one_dropped : (r s : Result ℕ Refusal) (x y : List ℕ)
      → (r ≡ numbered_as (drop_in room f)) × (x ≡ after_drop room f)
      → (s ≡ numbered_as (drop_in room f)) × (y ≡ after_drop room f)
      → (r ≡ s) × (x ≡ y)
  one_dropped r s x y a b = (a.0 ∙ sym b.0, a.1 ∙ sym b.1)
