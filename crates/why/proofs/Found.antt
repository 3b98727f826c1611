-- A shape that stands: what its fold asks of the places, and what it leaves.
use mathlib.Core.Path.{◌≡◌, refl, sym, subst}
use mathlib.Core.List.{[], ◌∷◌}
use Prim.Native.Nat.{ℕ}
use lib.ListN.{set}
use Rattle.rules.specs.Rewriting.{aimed, drop_all}
use Rattle.slots.specs.Slots.{Slots, program_of, Agree}
use Rattle.patterns.specs.Targets.{instr_at}
use Rattle.patterns.specs.Matches.{InvertedShaped, TrampolineShaped}
use Rattle.attempts.specs.Folds.{inverted, bounced, Inverts, Bounces}

pub inverts : (t : Slots) (f i j m : ℕ) → InvertedShaped t f i j m → (to : ℕ) → Agree to f → Inverts t to i j
inverts t f i j m h to a =
    record { rises = h.jump_rises; branches = h.branches; jumps = h.jumps; together = h.together; agrees = subst (Agree to) (sym h.form) a }

pub bounces : (t : Slots) (f i skip target last label : ℕ) → TrampolineShaped t f i skip target last label → Bounces t f i skip target last
bounces t f i skip target last label h =
    record {
      skip_rises = h.skip_rises;
      target_rises = h.target_rises;
      last_rises = h.last_rises;
      branches = h.branches;
      form = h.form;
      skips = h.skips;
      lands = h.lands;
      jumps = h.jumps;
      together = h.together;
    }

pub inverted_left : (t : Slots) (to i j : ℕ) → inverted t to i j ≡ drop_all (j ∷ []) (set (program_of t) i (aimed to (instr_at t i) (instr_at t j)))
unfolding inverted
inverted_left t to i j = refl

pub bounced_left : (t : Slots) (f i skip target last : ℕ) → bounced t f i skip target last ≡ drop_all (skip ∷ target ∷ last ∷ []) (set (program_of t) i (aimed f (instr_at t i) (instr_at t last)))
unfolding bounced
bounced_left t f i skip target last = refl
