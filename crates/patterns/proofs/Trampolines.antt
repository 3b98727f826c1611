-- The trampoline's shape over the parts that were found: what it comes to by its three tests, which are whether the branch names T bare,
-- whether the unconditional behind it names S bare, and whether T has one reference.
use mathlib.Core.Path.{◌≡◌, sym, ap, ◌∙◌}
use mathlib.Core.Bool.{true, false, ◌&&◌}
use mathlib.Core.Option.{Option, none, some}
use mathlib.Core.List.{List, [], ◌∷◌}
use Prim.Native.Nat.{ℕ}
use lib.Dec.{eqb}
use lib.ListN.{get_or, set}
use borrow.Author.Tests.{eq-eqb, ne_eqb}
use Rattle.laws.specs.Options.{is_some, given}
use Rattle.laws.proofs.Options.{given_true, given_false}
use Rattle.laws.proofs.Tests.{and_both, first_false, second_false}
use Rattle.rules.specs.Names.{context_at}
use Rattle.rules.specs.Rewriting.{names_bare, references, aimed, drop_all}
use Rattle.expression.specs.Naming.{Referred}
use Rattle.expression.specs.Sound.{AreBytes}
use Rattle.listing.specs.Tables.{Held, frame_at}
use Rattle.slots.specs.Slots.{Slots, Sound, program_of}
use Rattle.patterns.specs.Targets.{instr_at}
use Rattle.patterns.specs.Shapes.{Shape, trampoline_shape}
use Rattle.patterns.specs.Matches.{JumpFound, LandingFound, OpeningFound, TrampolineShaped}
use Rattle.patterns.specs.Mentions.{Told}
use Rattle.patterns.proofs.Naming.{bare_to}
use Rattle.patterns.proofs.Contexts.{jump_context, landing_context}
use Rattle.patterns.proofs.Folds.{trampoline_is}

-- the branch at i, the unconditional at skip, T at m with the name n, the unconditional at last, S at s with the name k
module _ {t : Slots} {f i skip m n last s k : ℕ} (opens : OpeningFound t f i skip m n) (jumps : JumpFound t m last)
    (lands : LandingFound t last s k) where
  abbrev standing : Option Shape
  standing = some (
      record {
        last = s;
        folded = drop_all (skip ∷ m ∷ last ∷ []) (set (program_of t) i (aimed f (instr_at t i) (instr_at t last)));
      })

  shape : trampoline_shape f (program_of t) i
      ≡ given
      (names_bare n (instr_at t i)
      && (names_bare k (instr_at t skip) && eqb (references (context_at (program_of t) m) n (program_of t)) 1)) standing
  shape =
      trampoline_is f (program_of t) i skip opens.jumps.next_is m opens.lands.next_is last jumps.next_is s lands.next_is
      (instr_at t i) (instr_at t skip) (instr_at t last) n k opens.is opens.jumps.is opens.lands.is jumps.is lands.is

  -- a test that fails
  pub no_branch_to_t : names_bare n (instr_at t i) ≡ false → trampoline_shape f (program_of t) i ≡ none
  no_branch_to_t e = shape ∙ given_false _ standing (first_false (names_bare n (instr_at t i)) _ e)

  pub no_jump_to_s : names_bare k (instr_at t skip) ≡ false → trampoline_shape f (program_of t) i ≡ none
  no_jump_to_s e =
      shape
      ∙ given_false _ standing (second_false (names_bare n (instr_at t i)) _ (first_false (names_bare k (instr_at t skip)) _ e))

  pub not_once : (references (context_at (program_of t) m) n (program_of t) ≡ 1 → ⊥) → trampoline_shape f (program_of t) i ≡ none
  not_once e =
      shape
      ∙ given_false _ standing
      (second_false (names_bare n (instr_at t i)) _ (second_false (names_bare k (instr_at t skip)) _ (ne_eqb _ 1 e)))

  -- in the branch's context
  skip_together : context_at (program_of t) skip ≡ context_at (program_of t) i
  skip_together = jump_context t i skip opens.jumps

  t_together : Held t.frames t.starts t.count → context_at (program_of t) m ≡ context_at (program_of t) i
  t_together h = landing_context t skip m h n opens.lands ∙ skip_together

  last_together : Held t.frames t.starts t.count → context_at (program_of t) last ≡ context_at (program_of t) i
  last_together h = jump_context t m last jumps ∙ t_together h

  s_together : Held t.frames t.starts t.count → context_at (program_of t) s ≡ context_at (program_of t) i
  s_together h = landing_context t last s h k lands ∙ last_together h

  -- what the two targets refer to
  pub branch_refers : Sound t → AreBytes t.frames → (links : List ℕ) → Told t links
      → Referred (λ x. eqb x n) (frame_at t.frames t.starts (get_or t.carry i 0)) (frame_at links t.starts (get_or t.carry i 0)) m
  branch_refers sound v links told =
      bare_to t sound v links told m n opens.lands.inside opens.lands.is i opens.branches (sym (t_together sound.held))

  pub skip_refers : Sound t → AreBytes t.frames → (links : List ℕ) → Told t links
      → Referred (λ x. eqb x k) (frame_at t.frames t.starts (get_or t.carry skip 0)) (frame_at links t.starts (get_or t.carry skip 0)) s
  skip_refers sound v links told =
      bare_to t sound v links told s k lands.inside lands.is skip opens.jumps.moves (skip_together ∙ sym (s_together sound.held))

  -- the three tests hold
  pub all_found : Held t.frames t.starts t.count → names_bare n (instr_at t i) ≡ true → names_bare k (instr_at t skip) ≡ true
      → references (context_at (program_of t) m) n (program_of t) ≡ 1 → TrampolineShaped t f i skip m last s
  all_found h to_t to_s once =
      record {
        skip_rises = opens.jumps.rises;
        target_rises = opens.lands.rises;
        last_rises = jumps.rises;
        label_rises = lands.rises;
        inside = lands.inside;
        branches = opens.branches;
        form = opens.form;
        skips = opens.jumps.moves;
        lands = ap is_some opens.lands.is;
        jumps = jumps.moves;
        together = last_together h;
        shape = shape
            ∙ given_true _ standing
            (and_both (names_bare n (instr_at t i)) _ to_t (and_both (names_bare k (instr_at t skip)) _ to_s (eq-eqb _ 1 once)));
      }
