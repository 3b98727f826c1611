-- The two folds at places where their patterns stand, as edits of the program that the tables hold.
use Rattle.std.specs.Prelude.{◌≡◌, true, [], ◌∷◌, ℕ, ◌<◌, get_or, set}
use Rattle.laws.specs.Options.{is_some}
use Rattle.rules.specs.Programs.{Placeℕ, Program}
use Rattle.rules.specs.Names.{context_at}
use Rattle.rules.specs.Rewriting.{local_label, aimed, drop_all}
use Rattle.slots.specs.Slots.{Slots, program_of, Agree}
use Rattle.patterns.specs.Targets.{stands_at, instr_at}
use Rattle.patterns.specs.Matches.{Moves}

-- the branch at i with form `to` and the target of the unconditional at j, which is dropped
unfoldable pub inverted : Slots → (to : ℕ) (i j : Placeℕ) → Program
inverted t to i j = drop_all (j ∷ []) (set (program_of t) i (aimed to (instr_at t i) (instr_at t j)))

-- the branch at i with its form f and the target of the unconditional at `last`; both unconditionals and T are dropped
unfoldable pub bounced : Slots → (f : ℕ) (i skip target last : Placeℕ) → Program
bounced t f i skip target last = drop_all (skip ∷ target ∷ last ∷ []) (set (program_of t) i (aimed f (instr_at t i) (instr_at t last)))

-- ---- what is known of the places

pub record Inverts (t : Slots) (to : ℕ) (i j : Placeℕ) : Type 0 where
  pub rises : i < j
  pub branches : Moves t i
  pub jumps : Moves t j
  pub together : context_at (program_of t) j ≡ context_at (program_of t) i
  pub agrees : Agree to (get_or t.forms i 0)

pub record Bounces (t : Slots) (f : ℕ) (i skip target last : Placeℕ) : Type 0 where
  pub skip_rises : i < skip
  pub target_rises : skip < target
  pub last_rises : target < last
  pub branches : Moves t i
  pub form : get_or t.forms i 0 ≡ f
  pub skips : Moves t skip
  pub lands : is_some (local_label (stands_at t target)) ≡ true
  pub jumps : Moves t last
  pub together : context_at (program_of t) last ≡ context_at (program_of t) i
