-- The program that the tables hold, by place: as many statements as counted, each as its slot has it, and nothing behind.
use mathlib.Core.Path.{◌≡◌, ap, ◌∙◌}
use mathlib.Core.Logic.{⊎_elim}
use mathlib.Core.List.{List, [], ◌∷◌, map}
use mathlib.Core.Bool.{Bool, not}
use Prim.Native.Nat.{ℕ, ◌-◌, ◌≤◌, ◌<◌}
use native.Mathlib.Omega.{arith}
use lib.ListN.{length}
use types.Run.{OneOf}
use Rattle.laws.specs.Counts.{scan}
use Rattle.laws.proofs.Counts.{length_tab, get_or_tab, scan_bound}
use Rattle.laws.proofs.Stores.{get_out}
use Rattle.rules.specs.Programs.{gone, at}
use Rattle.rules.specs.Rewriting.{insignificant, next}
use Rattle.slots.specs.Slots.{Slots, slot_at, program_of}

module _ (t : Slots) where
  pub length_program : length (program_of t) ≡ t.count
  unfolding program_of
  length_program = length_tab (slot_at t) t.count

  pub at_program : (i : ℕ) → i < t.count → at (program_of t) i ≡ slot_at t i
  unfolding program_of
  at_program i l = get_or_tab (slot_at t) t.count i gone l

  pub past_program : (i : ℕ) → t.count ≤ i → at (program_of t) i ≡ gone
  past_program i l = get_out (program_of t) i gone (omega (arith, length_program))

-- what is the same for every number of a list is so for one of them: joined arms of a match
pub joined : {A : Type 0} (f : ℕ → A) (y : A) (ks : List ℕ) (n : ℕ) → OneOf ks n → map f ks ≡ map (λ k. y) ks → f n ≡ y
joined f y [] n h e = absurd h
joined f y (k ∷ []) n h e = let q : f k ≡ y = cc in ap f h ∙ q
joined f y (k ∷ l ∷ ks) n h e =
    let q : f k ≡ y = cc in
    let r : map f (l ∷ ks) ≡ map (λ k. y) (l ∷ ks) = cc in
    ⊎_elim (λ z. ap f z ∙ q) (λ z. joined f y (l ∷ ks) n z r) h

-- ---- the search for the next significant place, which stands at j
module _ (t : Slots) where
  abbrev pub significant_at : (j : ℕ) → Bool
  significant_at j = not (insignificant (at (program_of t) j))

  pub next_starts : (i : ℕ) → next (program_of t) i ≡ scan significant_at (t.count - i) i
  unfolding next
  next_starts i = rw (length_program t)

  pub next_within : (i : ℕ) → i ≤ t.count → (i ≤ next (program_of t) i) × (next (program_of t) i ≤ t.count)
  next_within i l =
      let b = scan_bound significant_at (t.count - i) i in
      let e = next_starts i in
      (omega (arith, b.0), omega (arith, b.1))
