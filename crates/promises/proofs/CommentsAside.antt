-- "Image, count and demands are as before in either mode, shown once for both."
use mathlib.Core.Path.{◌≡◌, refl, sym, ◌∙◌, ap}
use mathlib.Core.List.{[], ◌∷◌}
use mathlib.Core.Option.{Option, none, some}
use mathlib.Core.Bool.{Bool, true, false, ◌&&◌, cond}
use Prim.Native.Nat.{ℕ, zero, suc}
use Rattle.laws.specs.Lists.{total}
use Rattle.rules.specs.Answers.{ok}
use Rattle.rules.specs.Programs.{Stmt, gone, Program, has_kind, is_gone}
use Rattle.rules.specs.Judging.{judge}
use Rattle.rules.specs.Rewriting.{Chain, more, anchor, instr_bytes, shorter, shrink_at, step, chain, optimized}
use Rattle.rules.specs.Output.{write_back, spoken, shown, compact}
use Rattle.rules.specs.Run.{rewritten}
use Rattle.promises.specs.Demand2.{Input, output_program, asked_for, CommentsAside}
use Rattle.promises.proofs.Chains.{chain_stop, chain_more}
use Rattle.promises.proofs.ImageOfOutput.{image_of_output}
use Rattle.promises.proofs.Compacts.{View, is_gone_lem, is_live, view, compact_live}

module _ (callf folds : Bool) where
  -- no rewrite asks for comments
  step_aside : (p : Program) → step (asked_for false callf folds) p ≡ step (asked_for true callf folds) p
  unfolding step shrink_at shorter
  step_aside p = refl

  chain_aside : (n : ℕ) (p : Program) → chain (asked_for false callf folds) n p ≡ chain (asked_for true callf folds) n p
  unfolding chain
  chain_aside zero p = refl
  chain_aside (suc n) p = on (step (asked_for true callf folds) p) refl (chain_aside n)
    where
      on : (o : Option Program) → step (asked_for true callf folds) p ≡ o → ((q : Program) → chain (asked_for false callf folds) n q ≡ chain (asked_for true callf folds) n q)
          → chain (asked_for false callf folds) (suc n) p ≡ chain (asked_for true callf folds) (suc n) p
      on none e below = chain_stop (asked_for false callf folds) n p (step_aside p ∙ e) ∙ sym (chain_stop (asked_for true callf folds) n p e)
      on (some q) e below = chain_more (asked_for false callf folds) n p q (step_aside p ∙ e) ∙ ap more (below q) ∙ sym (chain_more (asked_for true callf folds) n p q e)

  end_aside : (p : Program) → optimized (asked_for false callf folds) p ≡ optimized (asked_for true callf folds) p
  unfolding optimized
  end_aside p = chain_aside (total instr_bytes p) (anchor p)

  -- asked for, every comment stays
  all_shown : (p : Program) → shown (asked_for true callf folds) p ≡ p
  unfolding shown
  all_shown [] = refl
  all_shown (s ∷ p) = rw (all_shown p, stays s)
    where
      stays : (s : Stmt) → spoken (asked_for true callf folds) s ≡ s
      stays s = on (has_kind (4 ∷ []) s)
        where
          on : (b : Bool) → cond (b && false) gone s ≡ s
          on true = refl
          on false = refl

  -- comments go before or after the slots that are gone
  shown_compact : (p : Program) → compact (shown (asked_for false callf folds) p) ≡ compact (shown (asked_for false callf folds) (compact p))
  unfolding shown compact
  shown_compact [] = refl
  shown_compact (s ∷ p) = on (view s) (shown_compact p)
    where
      on : {s : Stmt} → View s → compact (shown (asked_for false callf folds) p) ≡ compact (shown (asked_for false callf folds) (compact p))
          → compact (shown (asked_for false callf folds) (s ∷ p)) ≡ compact (shown (asked_for false callf folds) (compact (s ∷ p)))
      on is_gone_lem below = below
      on {s} (is_live l) below = rw (compact_live s p l) (ap (λ (t : Program). cond (is_gone (spoken (asked_for false callf folds) s)) t (spoken (asked_for false callf folds) s ∷ t)) below)

  -- comments-aside: asked for or not, comments are all that differs
  pub comments_aside : (p : Program) → Input p → CommentsAside callf folds p
  unfolding rewritten output_program
  comments_aside p h =
      let end = end_aside p in
      let without = image_of_output (asked_for false callf folds) p h in
      let with = image_of_output (asked_for true callf folds) p h in
      let same : ok without.image ≡ ok with.image = sym without.of_end ∙ ap (λ (c : Chain). judge c.program) end ∙ with.of_end in
      let same_image : without.image ≡ with.image = cc same in
      record {
        end = end;
        image = without.handed_out ∙ same_image ∙ sym with.handed_out;
        count = ap (λ (c : Chain). c.count) end;
        statements = ap (λ (c : Chain). compact (shown (asked_for false callf folds) (write_back c.program))) end
            ∙ shown_compact (write_back (optimized (asked_for true callf folds) p).program)
            ∙ ap (λ (q : Program). compact (shown (asked_for false callf folds) (compact q))) (sym (all_shown (write_back (optimized (asked_for true callf folds) p).program)));
      }
