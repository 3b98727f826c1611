-- What anchoring leaves at each place: the statement, its target changed where it is anchored.
use mathlib.Core.Path.{◌≡◌, refl, sym, ◌∙◌, ap}
use mathlib.Core.Logic.{⊎_elim}
use mathlib.Core.Bool.{cond}
use Prim.Native.Nat.{◌≤◌, ◌<◌}
use native.Mathlib.Omega.{arith}
use lib.ListN.{length, length-map}
use Rattle.laws.specs.Lists.{total}
use Rattle.laws.proofs.Tests.{lt_or_le, cond_both}
use Rattle.laws.proofs.Stores.{get_out}
use Rattle.laws.proofs.Lists.{get_or_map_in}
use Rattle.rules.specs.Programs.{on_last, instr, Placeℕ, Operand, Stmt, gone, Program, at, retarget}
use Rattle.rules.specs.Names.{Placed, placed, context_at}
use Rattle.rules.specs.Judging.{names_of}
use Rattle.rules.specs.Rewriting.{is_anchored, anchor_target, anchor_at, anchor, instr_bytes, moving_of}
use Rattle.rules.proofs.Laws.{length_placed, placed_at_lem, by_change}
use Rattle.promises.proofs.General.{total_alike}

-- what anchoring makes of a target at place i
abbrev pub anchor_in : Program → Placeℕ → Operand → Operand
anchor_in p i = anchor_target (names_of p) (moving_of p) p (context_at p i)

-- the statement that anchoring leaves at place i
abbrev pub anchored : Program → Placeℕ → Stmt
anchored p i = cond (is_anchored (names_of p) p i (at p i)) (retarget (anchor_in p i) (at p i)) (at p i)

-- as many statements
pub length_anchor : (p : Program) → length (anchor p) ≡ length p
unfolding anchor placed
length_anchor p = rw (length-map, length_placed)

-- at each place
pub at_anchor : (p : Program) (i : Placeℕ) → at (anchor p) i ≡ anchored p i
unfolding anchor
at_anchor p i = ⊎_elim inside outside (lt_or_le i (length p))
  where
    nowhere : Placed
    nowhere = record { place = 0; context = 0; position = 0; stmt = gone }

    inside : i < length p → at (anchor p) i ≡ anchored p i
    inside h =
        let k : i < length (placed p) = unfold placed in rw length_placed h in
        get_or_map_in (anchor_at (names_of p) (moving_of p) p) (placed p) i nowhere gone k ∙ ap (anchor_at (names_of p) (moving_of p) p) (placed_at_lem p i nowhere h)

    outside : length p ≤ i → at (anchor p) i ≡ anchored p i
    outside h =
        get_out (anchor p) i gone (omega (arith, length_anchor p))
        ∙ sym (unfold is_anchored in ap (λ (s : Stmt). cond (is_anchored (names_of p) p i s) (retarget (anchor_in p i) s) s) (get_out p i gone h))

-- what a change of targets keeps, anchoring keeps
pub anchored_keeps {ℓ} : (P : Stmt → Type ℓ) (p : Program) (i : Placeℕ) → P (retarget (anchor_in p i) (at p i)) → P (at p i) → P (anchored p i)
anchored_keeps P p i x y = cond_both P (is_anchored (names_of p) p i (at p i)) (retarget (anchor_in p i) (at p i)) (at p i) x y

-- a change of operands changes no size
pub instr_bytes_retarget : (f : Operand → Operand) (s : Stmt) → instr_bytes (retarget f s) ≡ instr_bytes s
instr_bytes_retarget f s = by_change (λ s t. instr_bytes t ≡ instr_bytes s) (λ x. instr x.form (on_last f x.args) x.carried) (λ g xs c. refl) (λ s n. refl) s

-- so anchoring keeps the instruction bytes
pub instr_bytes_anchor : (p : Program) → total instr_bytes (anchor p) ≡ total instr_bytes p
instr_bytes_anchor p =
    total_alike instr_bytes instr_bytes (anchor p) p gone gone (length_anchor p)
    (λ i h. ap instr_bytes (at_anchor p i) ∙ anchored_keeps (λ s. instr_bytes s ≡ instr_bytes (at p i)) p i (instr_bytes_retarget (anchor_in p i) (at p i)) refl)
