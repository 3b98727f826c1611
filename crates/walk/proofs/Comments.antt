-- C-18: comments left out. A comment does nothing on a walk, and neither does a slot that is gone: with comments and without there is one machine.
use mathlib.Core.Path.{◌≡◌, refl, sym, ◌∙◌, ap}
use mathlib.Core.List.{List, [], ◌∷◌, map}
use mathlib.Core.Bool.{Bool, true, false, not, cond}
use Prim.Native.Nat.{ℕ, suc}
use lib.Dec.{ltb}
use Rattle.laws.specs.Lists.{every}
use Rattle.laws.proofs.Tests.{and_both}
use Rattle.laws.proofs.Lists.{every_any, every_all, every_weaken}
use Rattle.rules.specs.declared.Settings.{Settings}
use Rattle.rules.specs.Answers.{is_ok}
use Rattle.rules.specs.Programs.{Placeℕ, Operand, register, value, inner, Stmt, gone, comment, Program, at, args_of, retarget}
use Rattle.rules.specs.Layout.{size_in}
use Rattle.rules.specs.Names.{context_at, key_of}
use Rattle.rules.specs.Judging.{judge, assembles}
use Rattle.rules.specs.Rewriting.{of_inner, every_inner_label, acceptable}
use Rattle.rules.specs.Output.{plain_target, write_back, spoken, shown, stems_from, stems}
use Rattle.promises.proofs.Acceptable.{acceptable_parts}
use Rattle.promises.proofs.Positions.{size_same}
use Rattle.promises.proofs.Ranks.{gone_retarget}
use Rattle.promises.proofs.Shows.{by_spoken, at_shown, length_shown, shown_room, judge_shown, shown_context}
use Rattle.walk.proofs.Machines.{Deed, pass, Machine}
use Rattle.walk.proofs.Links.{Matches, is_gone_lem, is_label, is_comment, is_nop, is_jump, is_test}
use Rattle.walk.proofs.Resolves.{Lands, named, anchored, Resolved}

-- numbers written back drop nothing
stems_retarget : (f : Operand → Operand) (i : Placeℕ) (p : Program) → stems_from i (map (λ s. retarget f s) p) ≡ stems_from i p
unfolding stems_from
stems_retarget f i [] = refl
stems_retarget f i (s ∷ p) = rw (gone_retarget f s, stems_retarget f (suc i) p)

pub stems_written : (p : Program) → stems (write_back p) ≡ stems p
unfolding stems write_back
stems_written p = stems_retarget (plain_target p) 0 p

module _ (asked : Settings) (p : Program) (good : acceptable p ≡ true) where
  -- rule 5 holds of it
  abbrev below : Placeℕ → ℕ → Bool
  below owner o = ltb o (size_in (shown asked p) owner)

  inner_kept : every_inner_label (λ owner o. ltb o (size_in (shown asked p) owner)) (shown asked p) ≡ true
  unfolding every_inner_label
  inner_kept = every_all (λ s. every (of_inner below) (args_of s)) (shown asked p) gone (λ i h. ap (λ (s : Stmt). every (of_inner below) (args_of s)) (at_shown asked p i)
      ∙ by_spoken (λ s t. every (of_inner below) (args_of s) ≡ true → every (of_inner below) (args_of t) ≡ true) asked (λ s e. e) (λ x e. e) (at p i) (once i))
    where
      same : (x : Operand) → of_inner (λ owner o. ltb o (size_in p owner)) x ≡ true → of_inner below x ≡ true
      same (register n) e = refl
      same (value t) e = refl
      same (inner owner o) e = ap (ltb o) (size_same p (shown asked p) (shown_room asked p) owner) ∙ e

      once : (i : Placeℕ) → every (of_inner below) (args_of (at p i)) ≡ true
      once i =
          every_weaken (of_inner (λ owner o. ltb o (size_in p owner))) (of_inner below) (args_of (at p i)) same
          (every_any (λ s. every (of_inner (λ owner o. ltb o (size_in p owner))) (args_of s)) p i gone (unfold every in refl) (acceptable_parts p good).0)

  pub acceptable_shown : acceptable (shown asked p) ≡ true
  unfolding acceptable assembles
  acceptable_shown = and_both _ (is_ok (judge (shown asked p))) inner_kept (ap is_ok (judge_shown asked p) ∙ (unfold assembles in (acceptable_parts p good).1))

module _ (asked : Settings) {p : Program} {m : Machine} (r : Resolved p m) where
  lands_shown : (k : ℕ) (x : Operand) (d : ℕ) → Lands p k x d → Lands (shown asked p) k x d
  lands_shown k x d (named {n = n} e z) = named (at_shown asked p d ∙ ap (spoken asked) e) (ap (λ (c : ℕ). key_of c n) (shown_context asked p d) ∙ z)
  lands_shown k x d anchored = anchored

  -- shown-resolved: the same machine
  pub shown_resolved : Resolved (shown asked p) m
  shown_resolved =
      record {
        good = acceptable_shown asked p r.good;
        as_long = r.as_long ∙ sym (length_shown asked p);
        all = λ i. rw (shown_context asked p i, at_shown asked p i) (deeds (context_at p i) (r.all i));
      }
    where
      quiet : (k : ℕ) (b : Bool) (x : List ℕ) → Matches (Lands (shown asked p) k) (cond (not b) gone (comment x)) pass
      quiet k true x = is_comment
      quiet k false x = is_gone_lem

      deeds : (k : ℕ) {s : Stmt} {x : Deed} → Matches (Lands p k) s x → Matches (Lands (shown asked p) k) (spoken asked s) x
      deeds k is_gone_lem = is_gone_lem
      deeds k is_label = is_label
      deeds k (is_comment {x = x}) = quiet k asked.comments x
      deeds k (is_nop e) = is_nop e
      deeds k (is_jump u l) = is_jump u (lands_shown k _ _ l)
      deeds k (is_test w e l) = is_test w e (lands_shown k _ _ l)
