-- What a pattern that is found at a place says of the fold there. Where none is found, there is no fold.
use Rattle.rules.specs.declared.Place.{Place}
use Rattle.std.specs.Prelude.{◌≡◌, true, [], ◌∷◌, ℕ, suc, ◌<◌, get_or, set, None, Some, Option}
use Rattle.std.proofs.Math.Option.{none, some}
use Rattle.laws.specs.Options.{is_some}
use Rattle.rules.specs.Forms.{is_transfer}
use Rattle.rules.specs.Names.{context_at}
use Rattle.rules.specs.Programs.{Placeℕ, kind_of}
use Rattle.rules.specs.Rewriting.{next, branch, unconditional, local_label, aimed, candidate, drop_all, inverted_at, trampoline_at}
use Rattle.slots.specs.Slots.{Slots, slot_at, program_of}
use Rattle.patterns.specs.Targets.{stands_at, instr_at}
use Rattle.patterns.specs.Shapes.{inverted_shape, trampoline_shape}

-- ---- the next statement of a pattern

-- place j holds a transfer
pub record Moves (t : Slots) (j : Placeℕ) : Type 0 where
  pub inside : j < t.count
  pub kind : kind_of (slot_at t j) ≡ 1
  pub transfer : is_transfer (get_or t.forms j 0) ≡ true

-- the next significant statement behind place i is the unconditional at j
pub record JumpFound (t : Slots) (i j : Placeℕ) : Type 0 where
  pub next_is : next (program_of t) (suc i) ≡ j
  pub rises : i < j
  pub moves : Moves t j
  pub is : unconditional (stands_at t j) ≡ some (instr_at t j)

abbrev pub JumpAfter : Slots → (i : Placeℕ) → Option Place → Type 0
JumpAfter t i (Some j) = JumpFound t i j.0
JumpAfter t i None = unconditional (stands_at t (next (program_of t) (suc i))) ≡ none

-- the next significant statement behind place i is the local label n at m
pub record LandingFound (t : Slots) (i m : Placeℕ) (n : ℕ) : Type 0 where
  pub next_is : next (program_of t) (suc i) ≡ m
  pub rises : i < m
  pub inside : m < t.count
  pub is : local_label (stands_at t m) ≡ some n

abbrev pub LandingAfter : Slots → (i : Placeℕ) → Option (Place × ℕ) → Type 0
LandingAfter t i (Some (m, n)) = LandingFound t i m.0 n
LandingAfter t i None = local_label (stands_at t (next (program_of t) (suc i))) ≡ none

-- ---- what both shapes begin with: a branch of form f at i, an unconditional at j, the local label n at m

pub record OpeningFound (t : Slots) (f : ℕ) (i j m : Placeℕ) (n : ℕ) : Type 0 where
  pub branches : Moves t i
  pub form : get_or t.forms i 0 ≡ f
  pub is : branch f (stands_at t i) ≡ some (instr_at t i)
  pub jumps : JumpFound t i j
  pub lands : LandingFound t j m n

abbrev pub OpeningIs : Slots → (f : ℕ) (i : Placeℕ) → Option (Place × Place × ℕ) → Type 0
OpeningIs t f i (Some (j, m, n)) = OpeningFound t f i j.0 m.0 n
OpeningIs t f i None = ((to : ℕ) → inverted_shape f to (program_of t) i ≡ none) × (trampoline_shape f (program_of t) i ≡ none)

-- ---- the two shapes, whatever inner labels there are

-- the branch is at i, the unconditional at j, the label at m; what the unconditional names means at the branch the same
pub record InvertedShaped (t : Slots) (from : ℕ) (i j m : Placeℕ) : Type 0 where
  pub jump_rises : i < j
  pub label_rises : j < m
  pub inside : m < t.count
  pub branches : Moves t i
  pub form : get_or t.forms i 0 ≡ from
  pub jumps : Moves t j
  pub together : context_at (program_of t) j ≡ context_at (program_of t) i
  pub shape : (to : ℕ) → inverted_shape from to (program_of t) i
      ≡ some (record { last = m; folded = drop_all (j ∷ []) (set (program_of t) i (aimed to (instr_at t i) (instr_at t j))) })

abbrev pub InvertedBegins : Slots → (from : ℕ) (i : Placeℕ) → Option (Place × Place) → Type 0
InvertedBegins t from i (Some (j, m)) = InvertedShaped t from i j.0 m.0
InvertedBegins t from i None = (to : ℕ) → inverted_shape from to (program_of t) i ≡ none

-- the branch is at i, the unconditional to S at skip, T at target, the last unconditional at last, S at label
pub record TrampolineShaped (t : Slots) (f : ℕ) (i skip target last label : Placeℕ) : Type 0 where
  pub skip_rises : i < skip
  pub target_rises : skip < target
  pub last_rises : target < last
  pub label_rises : last < label
  pub inside : label < t.count
  pub branches : Moves t i
  pub form : get_or t.forms i 0 ≡ f
  pub skips : Moves t skip
  pub lands : is_some (local_label (stands_at t target)) ≡ true
  pub jumps : Moves t last
  pub together : context_at (program_of t) last ≡ context_at (program_of t) i
  pub shape : trampoline_shape f (program_of t) i
      ≡ some (record { last = label; folded = drop_all (skip ∷ target ∷ last ∷ []) (set (program_of t) i (aimed f (instr_at t i) (instr_at t last))) })

abbrev pub TrampolineBegins : Slots → (f : ℕ) (i : Placeℕ) → Option (Place × Place × Place × Place) → Type 0
TrampolineBegins t f i (Some (a, b, c, d)) = TrampolineShaped t f i a.0 b.0 c.0 d.0
TrampolineBegins t f i None = trampoline_shape f (program_of t) i ≡ none

-- ---- the folds: no inner label stands in the way

pub record InvertedFound (t : Slots) (from : ℕ) (i j m : Placeℕ) : Type 0 where
  pub shaped : InvertedShaped t from i j m
  pub fold : (to : ℕ) → inverted_at from to (program_of t) i ≡ candidate (drop_all (j ∷ []) (set (program_of t) i (aimed to (instr_at t i) (instr_at t j))))

abbrev pub InvertedIs : Slots → (from : ℕ) (i : Placeℕ) → Option (Place × Place) → Type 0
InvertedIs t from i (Some (j, m)) = InvertedFound t from i j.0 m.0
InvertedIs t from i None = (to : ℕ) → inverted_at from to (program_of t) i ≡ none

pub record TrampolineFound (t : Slots) (f : ℕ) (i skip target last label : Placeℕ) : Type 0 where
  pub shaped : TrampolineShaped t f i skip target last label
  pub fold : trampoline_at f (program_of t) i ≡ candidate (drop_all (skip ∷ target ∷ last ∷ []) (set (program_of t) i (aimed f (instr_at t i) (instr_at t last))))

abbrev pub TrampolineIs : Slots → (f : ℕ) (i : Placeℕ) → Option (Place × Place × Place × Place) → Type 0
TrampolineIs t f i (Some (a, b, c, d)) = TrampolineFound t f i a.0 b.0 c.0 d.0
TrampolineIs t f i None = trampoline_at f (program_of t) i ≡ none
