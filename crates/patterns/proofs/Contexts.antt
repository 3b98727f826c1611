-- A pattern stands in one context: what it consists of opens none, and what lies between does not either.
use mathlib.Core.Path.{◌≡◌, refl, ap, ◌∙◌}
use mathlib.Core.Bool.{false, not}
use mathlib.Core.List.{[], ◌∷◌}
use mathlib.Core.Logic.{⊎_elim}
use Prim.Native.Nat.{ℕ, zero, suc, ◌-◌, ◌≤◌, ◌<◌}
use native.Mathlib.Omega.{arith}
use borrow.Author.Tests.{le-leb}
use Rattle.laws.proofs.Counts.{scan_least}
use Rattle.laws.proofs.Tests.{true_false, lt_or_le}
use Rattle.rules.specs.Names.{enter, context_from, context_at}
use Rattle.rules.specs.Programs.{Placeℕ, Stmt, gone, instr, label, variable, comment, org, bytes, words, pad, Program, at}
use Rattle.rules.specs.Rewriting.{insignificant, next}
use Rattle.listing.specs.Tables.{Held}
use Rattle.slots.specs.Slots.{Slots, slot_at, program_of}
use Rattle.patterns.specs.Matches.{JumpFound, LandingFound}
use Rattle.patterns.specs.Targets.{stands_at}
use Rattle.patterns.proofs.Instructions.{as_instr_lem}
use Rattle.patterns.proofs.Naming.{label_is, label_high}
use Rattle.patterns.proofs.Programs.{at_program, significant_at, next_starts}

-- ---- where no statement opens a context, it stays

stays : (k : ℕ) (p : Program) (j : Placeℕ) → ((m : Placeℕ) → m ≤ j → (c : ℕ) → enter c (at p m) ≡ c) → context_from k p j ≡ k
unfolding context_from
stays k [] j h = refl
stays k (s ∷ p) zero h = h 0 (omega arith) k
stays k (s ∷ p) (suc j) h = stays (enter k s) p j (λ m l c. h (suc m) (omega arith) c) ∙ h 0 (omega arith) k

stays_from : (k : ℕ) (p : Program) (i j : Placeℕ) → i ≤ j → ((m : Placeℕ) → i < m → m ≤ j → (c : ℕ) → enter c (at p m) ≡ c) → context_from k p j ≡ context_from k p i
unfolding context_from
stays_from k [] i j l h = refl
stays_from k (s ∷ p) zero zero l h = refl
stays_from k (s ∷ p) zero (suc j) l h = stays (enter k s) p j (λ m q c. h (suc m) (omega arith) (omega arith) c)
stays_from k (s ∷ p) (suc i) zero l h = absurd (omega arith)
stays_from k (s ∷ p) (suc i) (suc j) l h = stays_from (enter k s) p i j (omega arith) (λ m a b c. h (suc m) (omega arith) (omega arith) c)

passed : (c : ℕ) (s : Stmt) → not (insignificant s) ≡ false → enter c s ≡ c
passed c gone e = refl
passed c (instr f xs d) e = refl
passed c (label n) e = true_false e
passed c (variable n d) e = refl
passed c (comment x) e = refl
passed c (org l) e = refl
passed c (bytes es) e = refl
passed c (words es) e = refl
passed c (pad add m) e = refl

-- ---- the next statement of a pattern

module _ (t : Slots) (i j : Placeℕ) where
  next_context : next (program_of t) (suc i) ≡ j → i < j → ((c : ℕ) → enter c (stands_at t j) ≡ c) → context_at (program_of t) j ≡ context_at (program_of t) i
  unfolding context_at
  next_context e l h = stays_from 0 (program_of t) i j (omega arith) (λ m a b c. ⊎_elim (λ g. between m a g c) (λ g. let z : m ≡ j = omega arith in rw z (h c)) (lt_or_le m j))
    where
      between : (m : Placeℕ) → i < m → m < j → (c : ℕ) → enter c (at (program_of t) m) ≡ c
      between m a g c = passed c (at (program_of t) m) (scan_least (significant_at t) (t.count - suc i) (suc i) m (omega arith) (omega (arith, e, next_starts t (suc i))))

  -- an instruction opens no context
  pub jump_context : JumpFound t i j → context_at (program_of t) j ≡ context_at (program_of t) i
  jump_context f =
      next_context f.next_is f.rises
      (λ c. ap (enter c) (at_program t j f.moves.inside) ∙ ap (enter c) (as_instr_lem (slot_at t j) f.moves.kind).1)

  -- nor does a local label
  pub landing_context : Held t.frames t.starts t.count → (n : ℕ) → LandingFound t i j n → context_at (program_of t) j ≡ context_at (program_of t) i
  landing_context h n f =
      next_context f.next_is f.rises
      (λ c. ap (enter c) (label_is t h j n f.inside f.is) ∙ rw (le-leb 0x8000 n (label_high t h j n f.inside f.is)))
