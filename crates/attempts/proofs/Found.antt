-- A pattern that is found at a place: what its fold asks of the places, and what the definition comes to.
use mathlib.Core.Path.{◌≡◌, sym, subst}
use mathlib.Core.Option.{none}
use Prim.Native.Nat.{ℕ}
use Rattle.std.specs.Prelude.{None, Some, Option}
use Rattle.rules.specs.declared.Place.{Place}
use Rattle.rules.specs.Rewriting.{candidate, inverted_at, trampoline_at}
use Rattle.slots.specs.Slots.{Slots, program_of, Agree}
use Rattle.patterns.specs.Matches.{InvertedFound, InvertedIs, TrampolineFound, TrampolineIs}
use Rattle.attempts.specs.Folds.{inverted, bounced, Inverts, Bounces}

module _ (t : Slots) (f i : ℕ) where
  -- ---- the code's answers, by the case that they are

  pub inverted_found : {r : Option (Place × Place)} {j m : Place} → r ≡ Some (j, m) → InvertedIs t f i r → InvertedFound t f i j.0 m.0
  inverted_found e h = subst (InvertedIs t f i) e h

  pub inverted_none : {r : Option (Place × Place)} → r ≡ None → InvertedIs t f i r → (to : ℕ) → inverted_at f to (program_of t) i ≡ none
  inverted_none e h = subst (InvertedIs t f i) e h

  pub trampoline_found : {r : Option (Place × Place × Place × Place)} {a b c d : Place} → r ≡ Some (a, b, c, d) → TrampolineIs t f i r → TrampolineFound t f i a.0 b.0 c.0 d.0
  trampoline_found e h = subst (TrampolineIs t f i) e h

  pub trampoline_none : {r : Option (Place × Place × Place × Place)} → r ≡ None → TrampolineIs t f i r → trampoline_at f (program_of t) i ≡ none
  trampoline_none e h = subst (TrampolineIs t f i) e h

  -- ---- inverted

  module _ (j m : ℕ) (h : InvertedFound t f i j m) (to : ℕ) where
    pub inverts : Agree to f → Inverts t to i j
    inverts a = record { rises = h.shaped.jump_rises; branches = h.shaped.branches; jumps = h.shaped.jumps; together = h.shaped.together; agrees = subst (Agree to) (sym h.shaped.form) a }

    pub inverted_is : inverted_at f to (program_of t) i ≡ candidate (inverted t to i j)
    unfolding inverted
    inverted_is = h.fold to

  -- ---- trampolines

  module _ (skip target last label : ℕ) (h : TrampolineFound t f i skip target last label) where
    pub bounces : Bounces t f i skip target last
    bounces =
        record {
          skip_rises = h.shaped.skip_rises;
          target_rises = h.shaped.target_rises;
          last_rises = h.shaped.last_rises;
          branches = h.shaped.branches;
          form = h.shaped.form;
          skips = h.shaped.skips;
          lands = h.shaped.lands;
          jumps = h.shaped.jumps;
          together = h.shaped.together;
        }

    pub bounced_is : trampoline_at f (program_of t) i ≡ candidate (bounced t f i skip target last)
    unfolding bounced
    bounced_is = h.fold
