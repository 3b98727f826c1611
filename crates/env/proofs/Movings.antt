-- The names that move with the code, place by place: which name of a statement does, and the keys of one place more.
use mathlib.Core.Path.{◌≡◌, refl, sym, ap, ap₂, ◌∙◌}
use mathlib.Core.Option.{Option}
use mathlib.Core.Bool.{true, false}
use mathlib.Core.List.{List, ◌++◌}
use Prim.Native.Nat.{ℕ, ◌+◌, ◌<◌}
use native.Mathlib.Numerals.{add-one}
use native.Mathlib.Omega.{arith}
use lib.ListN.{length, get_or, set}
use lib.Seq.{get_or-set_same}
use Rattle.laws.proofs.Tests.{cond_true, cond_false}
use Rattle.rules.specs.Expressions.{Expr}
use Rattle.rules.specs.Programs.{Placeℕ, Stmt, gone, instr, label, variable, comment, org, bytes, words, pad, at, kind_of, naming_of, as_name}
use Rattle.rules.specs.Names.{Key, context_at}
use Rattle.rules.specs.Judging.{keys_in}
use Rattle.rules.specs.Rewriting.{holds_label, moves_in, moving_after, moving_of}
use Rattle.expression.specs.Environment.{keys_of}
use Rattle.expression.proofs.Keys.{keys_more, keys_set}
use Rattle.slots.specs.Slots.{Slots, slot_at, program_of}
use Rattle.env.specs.Tables.{name_said, MovesAs}
use Rattle.env.proofs.Programs.{length_program, at_program}
use Rattle.env.proofs.Naming.{said_none}
use Rattle.env.proofs.Passes.{left, moving_turn, moving_end}

-- ---- one statement

module _ (above : List Key) (k : ℕ) where
  abbrev with_name : Option ℕ → List Key
  with_name o = keys_in k o ++ above

  -- a label's name moves, and any other statement but a variable has none
  other : (s : Stmt) → (kind_of s ≡ 3 → ⊥) → with_name (as_name s) ≡ moves_in above k (naming_of s)
  unfolding as_name
  other gone n = refl
  other (instr f xs c) n = refl
  other (label m) n = refl
  other (variable m e) n = absurd (n refl)
  other (comment x) n = refl
  other (org m) n = refl
  other (bytes es) n = refl
  other (words es) n = refl
  other (pad add m) n = refl

  module _ (s : Stmt) (r : ℕ) where
    pub moves_other : as_name s ≡ name_said r → (kind_of s ≡ 3 → ⊥) → MovesAs above k s r
    moves_other q n = ap with_name (sym q) ∙ other s n

    module _ (n : ℕ) (e : Expr) (p : s ≡ variable n e) where
      pub moves_held : as_name s ≡ name_said r → holds_label above k e ≡ true → MovesAs above k s r
      unfolding as_name
      moves_held q h = ap with_name (sym q ∙ ap as_name p) ∙ sym (ap (λ x. moves_in above k (naming_of x)) p ∙ cond_true _ _ _ h)

      pub moves_not : 65536 ≡ r → holds_label above k e ≡ false → MovesAs above k s r
      moves_not q h =
          ap with_name (said_none r (omega arith)) ∙ sym (ap (λ x. moves_in above k (naming_of x)) p ∙ cond_false _ _ _ h)

-- ---- filling, come to place i

module _ (t : Slots) (contexts : List ℕ) where
  abbrev pub MovingTo : (new : List ℕ) (i : Placeℕ) → Type 0
  MovingTo new i = moving_of (program_of t) ≡ moving_after (keys_of new contexts i) (left (program_of t) i)

  pub moving_start : (new : List ℕ) → MovingTo new 0
  unfolding moving_of keys_of
  moving_start new = refl

  pub moving_next : (new : List ℕ) (i : Placeℕ) (r : ℕ) → MovingTo new i → i < t.count → i < length new → get_or contexts i 0 ≡ context_at (program_of t) i
      → MovesAs (keys_of new contexts i) (get_or contexts i 0) (slot_at t i) r → MovingTo (set new i r) (i + 1)
  moving_next new i r h l room c m =
      let p = program_of t in
      let k = get_or contexts i 0 in
      let one : keys_of (set new i r) contexts (i + 1) ≡ keys_in k (name_said r) ++ keys_of new contexts i =
      ap (keys_of (set new i r) contexts) (add-one i)
      ∙ keys_more (set new i r) contexts i
      ∙ ap₂ (λ (n : ℕ) (ks : List Key). keys_in k (name_said n) ++ ks) (get_or-set_same new i r 0 room) (keys_set new contexts i r i (omega arith)) in
      let here : moves_in (keys_of new contexts i) (context_at p i) (naming_of (at p i)) ≡ moves_in (keys_of new contexts i) k (naming_of (slot_at t i)) =
      ap₂ (λ (j : ℕ) (s : Stmt). moves_in (keys_of new contexts i) j (naming_of s)) (sym c) (at_program t i l) in
      h ∙ moving_turn p (keys_of new contexts i) i (omega (arith, length_program t))
      ∙ ap (λ (ks : List Key). moving_after ks (left p (i + 1))) (here ∙ sym m ∙ sym one)

  pub moving_all : (new : List ℕ) (i : Placeℕ) → i ≡ t.count → MovingTo new i → keys_of new contexts t.count ≡ moving_of (program_of t)
  moving_all new i e h =
      sym (h ∙ moving_end (program_of t) (keys_of new contexts i) i (omega (arith, length_program t)) ∙ ap (keys_of new contexts) e)
