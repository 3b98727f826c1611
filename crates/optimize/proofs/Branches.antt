-- No fold where the pattern's branch does not stand: the table of forms tells, and the places of a form are known one after the other.
use mathlib.Core.Path.{◌≡◌, refl, sym, ap, subst, ◌∙◌}
use mathlib.Core.List.{List}
use mathlib.Core.Logic.{⊎_elim}
use mathlib.Core.Option.{Option, none}
use Prim.Native.Nat.{ℕ, zero, suc, ◌+◌, ◌-◌, ◌≤◌, ◌<◌}
use native.Mathlib.Omega.{arith}
use lib.Dec.{eqb}
use lib.ListN.{length, get_or, set, replicate, length-set, length-replicate, get_or-replicate}
use borrow.Author.Tests.{ne_eqb}
use Rattle.laws.specs.Options.{bind, first_from}
use Rattle.laws.proofs.Options.{given_false, bind_no, first_miss}
use Rattle.laws.proofs.Stores.{Set, here, there, set_view}
use Rattle.laws.proofs.Tests.{eq_or_not}
use Rattle.rules.specs.Programs.{Placeℕ, Stmt, gone, instr, label, variable, comment, org, bytes, words, pad, as_instr, at, kind_of}
use Rattle.rules.specs.Rewriting.{Pattern, inverted, trampoline, branch, inverted_at, trampoline_at, pattern_at}
use Rattle.slots.specs.Slots.{Slots, slot_at, program_of, Sound}
use Rattle.patterns.specs.Targets.{form_in}
use Rattle.patterns.proofs.Programs.{at_program}
use Rattle.patterns.proofs.Instructions.{slot_form}
use Rattle.optimize.specs.Branches.{branch_of, Next, Chained}

branch_none : (f : ℕ) (s : Stmt) → (kind_of s ≡ 1 → form_in s ≡ f → ⊥) → branch f s ≡ none
unfolding branch as_instr bind
branch_none f gone n = refl
branch_none f (instr g xs c) n = given_false (eqb g f) _ (ne_eqb g f (n refl))
branch_none f (label m) n = refl
branch_none f (variable m d) n = refl
branch_none f (comment x) n = refl
branch_none f (org l) n = refl
branch_none f (bytes es) n = refl
branch_none f (words es) n = refl
branch_none f (pad add m) n = refl

module _ (t : Slots) (h : Sound t) (i : Placeℕ) (l : i < t.count) where
  no_branch : (f : ℕ) → (get_or t.forms i 0 ≡ f → ⊥) → branch f (at (program_of t) i) ≡ none
  no_branch f n = ap (branch f) (at_program t i l) ∙ branch_none f (slot_at t i) (λ k e. n (sym (slot_form t h.held i l k) ∙ e))

  pub no_pattern : (p : Pattern) → (get_or t.forms i 0 ≡ branch_of p → ⊥) → pattern_at (program_of t) p i ≡ none
  unfolding inverted_at trampoline_at
  no_pattern (inverted from to) n = bind_no _ _ (no_branch from n)
  no_pattern (trampoline f) n = bind_no _ _ (no_branch f n)

-- ---- the places of a form, one after the other

-- a search goes on behind places that have nothing
pub skipped : {A : Type 0} (f : ℕ → Option A) (n a b d : ℕ) → a + d ≡ b → b ≤ n → ((j : ℕ) → a ≤ j → j < b → f j ≡ none)
    → first_from f (n - a) a ≡ first_from f (n - b) b
skipped f n a b zero e l h = let q : a ≡ b = omega arith in ap (λ m. first_from f (n - m) m) q
skipped f n a b (suc d) e l h =
    first_miss f n a (omega arith) (h a (omega arith) (omega arith)) ∙ skipped f n (a + 1) b d (omega arith) l (λ j p q. h j (omega arith) q)

-- the places from i on are chained
pub record Chaining (forms : List ℕ) (count : ℕ) (first after : List ℕ) (i : Placeℕ) : Type 0 where
  pub inside : i ≤ count
  pub first_full : length first ≡ 256
  pub after_full : length after ≡ 1024
  pub begins : (f : ℕ) → f < 256 → Next forms count f i (get_or first f 0)
  pub goes : (k : Placeℕ) → i ≤ k → k < count → Next forms count (get_or forms k 0) (k + 1) (get_or after k 0)

module _ (forms : List ℕ) (count : ℕ) where
  nowhere : (f : ℕ) → Next forms count f count count
  nowhere f = record { from = omega arith; below = omega arith; between = λ j l m e. omega arith; stands = λ l. absurd (omega arith) }

  pub none_chained : (after : List ℕ) → length after ≡ 1024 → Chaining forms count (replicate 256 count) after count
  none_chained after e =
      record {
        inside = omega arith;
        first_full = length-replicate 256 count;
        after_full = e;
        begins = λ f l. subst (Next forms count f count) (sym (get_or-replicate 256 f count 0 l)) (nowhere f);
        goes = λ k l m. absurd (omega arith);
      }

  at_once : (i : Placeℕ) → i < count → Next forms count (get_or forms i 0) i i
  at_once i l = record { from = omega arith; below = omega arith; between = λ j p q e. omega arith; stands = λ m. refl }

  earlier : (f i b : ℕ) → (get_or forms i 0 ≡ f → ⊥) → Next forms count f (i + 1) b → Next forms count f i b
  earlier f i b n h =
      record {
        from = omega (arith, h.from);
        below = h.below;
        between = λ j l m e. ⊎_elim (λ q. n (ap (λ x. get_or forms x 0) (sym q) ∙ e)) (λ q. h.between j (omega (arith, l, q)) m e) (eq_or_not j i);
        stands = h.stands;
      }

  -- one more place, before the others
  module _ (first after : List ℕ) (i : Placeℕ) (g : ℕ) (l : i < count) (few : count ≤ 1024) (form : get_or forms i 0 ≡ g) (byte : g < 256)
      (h : Chaining forms count first after (i + 1)) where
    starts : (f : ℕ) → f < 256 → Set first g i f 0 → Next forms count f i (get_or (set first g i) f 0)
    starts f m (here e q) = subst (λ x. Next forms count x i (get_or (set first g i) f 0)) (form ∙ sym e) (subst (Next forms count (get_or forms i 0) i) (sym q) (at_once i l))
    starts f m (there n q) = subst (Next forms count f i) (sym q) (earlier f i (get_or first f 0) (λ e. n (sym e ∙ form)) (h.begins f m))

    follows : (k : Placeℕ) → i ≤ k → k < count → Set after i (get_or first g 0) k 0 → Next forms count (get_or forms k 0) (k + 1) (get_or (set after i (get_or first g 0)) k 0)
    follows k p m (here e q) =
        subst (Next forms count (get_or forms k 0) (k + 1)) (sym q)
        (subst (λ x. Next forms count (get_or forms x 0) (x + 1) (get_or first g 0)) (sym e) (subst (λ x. Next forms count x (i + 1) (get_or first g 0)) (sym form) (h.begins g byte)))
    follows k p m (there n q) = subst (Next forms count (get_or forms k 0) (k + 1)) (sym q) (h.goes k (⊎_elim (λ e. absurd (n e)) (λ o. omega (arith, p, o)) (eq_or_not k i)) m)

    pub more_chained : Chaining forms count (set first g i) (set after i (get_or first g 0)) i
    more_chained =
        record {
          inside = omega arith;
          first_full = length-set first g i ∙ h.first_full;
          after_full = length-set after i (get_or first g 0) ∙ h.after_full;
          begins = λ f m. starts f m (set_view first g i f 0 (omega (arith, h.first_full, byte)));
          goes = λ k p m. follows k p m (set_view after i (get_or first g 0) k 0 (omega (arith, h.after_full, l, few)));
        }

  pub all_chained : (first after : List ℕ) (i : Placeℕ) → i ≡ 0 → Chaining forms count first after i → Chained forms count first after
  all_chained first after i e h =
      record {
        begins = λ f l. subst (λ x. Next forms count f x (get_or first f 0)) e (h.begins f l);
        goes = λ k l. h.goes k (omega (arith, e)) l;
      }

-- no pattern between two places where its branch stands
pub none_between : (t : Slots) → Sound t → (p : Pattern) (a b : Placeℕ) → Next t.forms t.count (branch_of p) a b
    → first_from (pattern_at (program_of t) p) (t.count - a) a ≡ first_from (pattern_at (program_of t) p) (t.count - b) b
none_between t h p a b n =
    skipped (pattern_at (program_of t) p) t.count a b (b - a) (omega (arith, n.from)) n.below
    (λ j l m. no_pattern t h j (omega (arith, m, n.below)) p (n.between j l m))

-- the same tables are chained
pub still_chained : {first after : List ℕ} {t₀ t : Slots} → t ≡ t₀ → Chained t₀.forms t₀.count first after → Chained t.forms t.count first after
still_chained {first} {after} same h = subst (λ (z : Slots). Chained z.forms z.count first after) (sym same) h
