-- An inverted fold leaves a program whose machine walks as the old one's, in no more steps: the other branch goes where the jump went.
use mathlib.Core.Path.{◌≡◌, refl, sym, ◌∙◌, ap}
use mathlib.Core.Logic.{◌⊎◌, inl, inr, ⊎_elim, ◌≢◌}
use mathlib.Core.List.{List, [], ◌∷◌}
use mathlib.Core.Bool.{Bool, true, false, not, cond}
use Prim.Native.Nat.{ℕ, suc, ◌≤◌, ◌<◌}
use native.Mathlib.Omega.{arith}
use lib.ListN.{length, set}
use lib.Seq.{get_or-set_other, get_or-set_same}
use borrow.Author.Tests.{eq-eqb, ne_eqb}
use Rattle.laws.proofs.Tests.{false_true, clash, eq_or_not, lt_or_le}
use Rattle.rules.specs.Expressions.{name}
use Rattle.rules.specs.Forms.{pairs}
use Rattle.rules.specs.Programs.{Operand, Stmt, gone, instr, label, Program, at, last_of, on_last}
use Rattle.rules.specs.Names.{enter, context_at}
use Rattle.rules.specs.Rewriting.{insignificant, aimed}
use Rattle.promises.proofs.Looks.{last_of_put}
use Rattle.promises.proofs.Steps.{other_of, Inverted, invert}
use Rattle.promises.proofs.Weights.{instr_inside, jump_behind, next_from, step_length}
use Rattle.walk.specs.Walk.{on, same_test}
use Rattle.walk.proofs.Machines.{Deed, jump, Machine, deed, is_pass, does, steps, steps_found}
use Rattle.walk.proofs.Folds.{Comes}
use Rattle.walk.proofs.Links.{branch_on}
use Rattle.walk.proofs.Resolves.{Resolved, quiet_pass, jump_deed, test_deed, same_context, steady, quiet_enters, label_enters, next_before}
use Rattle.walk.proofs.Rewrites.{Change, folded, change_resolved, change_folded}
use Rattle.walk.proofs.Alikes.{is_in, at_drop, inner_outside, Alike, folded_alike, branch_lands}

pub same_not : (z w : Bool) → same_test z (not w) ≡ not (same_test z w)
same_not true true = refl
same_not true false = refl
same_not false true = refl
same_not false false = refl

other_branch : (w : Bool) → other_of pairs (branch_on w) ≡ branch_on (not w)
other_branch true = refl
other_branch false = refl

-- ---- an inverted fold
module _ {p q : Program} (f : Inverted p q) where
  pub ij : f.i < f.j
  ij = jump_behind f

  pub jm : f.j < f.m
  jm = omega (arith, f.m_is, next_from p (suc f.j))

  abbrev pub put : Stmt
  put = aimed f.to f.b f.jump

  at_new : (n : ℕ) → at q n ≡ cond (is_in n (f.j ∷ [])) gone (at (set p f.i put) n)
  at_new n = rw f.new (at_drop (f.j ∷ []) (set p f.i put) n)

  pub at_i : at q f.i ≡ put
  at_i = at_new f.i ∙ rw (ne_eqb f.i f.j (λ e. omega (arith, ij))) (get_or-set_same p f.i put gone (instr_inside p f.i _ _ _ f.branch_at))

  pub at_j : at q f.j ≡ gone
  at_j = at_new f.j ∙ rw (eq-eqb f.j f.j refl)

  pub at_else : (n : ℕ) → n ≢ f.i → n ≢ f.j → at q n ≡ at p n
  at_else n a b = at_new n ∙ rw (ne_eqb n f.j b) (get_or-set_other p f.i n put gone a)

  pub quiet : (n : ℕ) → f.i < n → n < f.m → n ≢ f.j → insignificant (at p n) ≡ true
  quiet n a b ne = ⊎_elim (λ h. next_before p (suc f.i) f.j f.j_is n a h) (λ h. next_before p (suc f.j) f.m f.m_is n (omega arith) b) (lt_or_le n f.j)

  pub steady_to : (n : ℕ) → f.i < n → n ≤ f.m → (k : ℕ) → enter k (at p n) ≡ k
  steady_to n a b k =
      ⊎_elim (λ (e : n ≡ f.j). rw (e, f.jump_at))
      (λ ne. ⊎_elim (λ (e : n ≡ f.m). rw (e, f.label_at) (label_enters f.n k f.local)) (λ ne'. quiet_enters (at p n) k (quiet n a (omega arith) ne)) (eq_or_not n f.m)) (eq_or_not n f.j)

  pub same_contexts : (n : ℕ) → context_at q n ≡ context_at p n
  same_contexts = same_context p q (λ n k.
      ⊎_elim (λ (e : n ≡ f.i). rw (e, at_i, f.branch_at)) (λ ne. ⊎_elim (λ (e : n ≡ f.j). rw (e, at_j, f.jump_at)) (λ ne'. rw (at_else n ne ne')) (eq_or_not n f.j)) (eq_or_not n f.i))

  unfoldable pub change_inverted : Change p q
  change_inverted =
      record {
        i = f.i;
        e = f.j;
        v = f.m;
        ie = ij;
        ev = jm;
        form = f.to;
        args = on_last (λ old. last_of f.jump.args) f.b.args;
        carried = f.jump.carried;
        new = at_i;
        jumping = f.jump.form;
        jump_args = f.jump.args;
        jump_carried = f.jump.carried;
        jump_at = f.jump_at;
        same_target = last_of_put (last_of f.jump.args) (name f.n) f.b.args f.bare;
        away = λ n a o. at_else n a (λ z. ⊎_elim (λ h. omega (arith, ij)) (λ h. omega (arith, jm)) o);
        hollow = λ n a b. ⊎_elim (λ z. inl (rw z at_j)) (λ z. inr (at_else n (λ y. omega arith) z, quiet n a b z)) (eq_or_not n f.j);
        contexts = same_contexts;
        near = steady p f.i f.j (omega (arith, ij)) (λ n a b k. steady_to n a (omega (arith, jm)) k);
        kept = λ n g c xs d l ne s t e z. (at_else d (λ y. not_instr d l e f.i _ _ _ y f.branch_at) (λ y. not_instr d l e f.j _ _ _ y f.jump_at) ∙ e, outside d l e);
        inner_out = inner_outside p f.i f.m f.none_between;
      }
    where
      not_instr : (d l : ℕ) → at p d ≡ label l → (i g : ℕ) (xs : List Operand) (c : ℕ) → d ≡ i → at p i ≡ instr g xs c → ⊥
      not_instr d l e i g xs c y s = let z : at p d ≡ at p i = ap (at p) y in clash (cc)

      outside : (d l : ℕ) → at p d ≡ label l → (d ≤ f.i) ⊎ (f.m ≤ d)
      outside d l e =
          ⊎_elim (λ a. ⊎_elim (λ b. false_true (sym (ap insignificant e) ∙ quiet d a b (λ y. not_instr d l e f.j _ _ _ y f.jump_at))) (λ b. inr b) (lt_or_le d f.m)) (λ a. inl a) (lt_or_le f.i d)

  module _ {m : Machine} (r : Resolved p m) where
    pub inverted_alike : (m' : Machine) × Resolved q m' × Alike m m'
    unfolding change_inverted
    inverted_alike =
        let t = test_deed f.from f.b.args f.b.carried (r.all f.i) f.branch_at f.from_transfers f.conditional in
        let j = jump_deed f.jump.form f.jump.args f.jump.carried (r.all f.j) f.jump_at f.isjump in
        let w : Bool = t.0 in
        let form_is : f.to ≡ branch_on (not w) = f.other ∙ ap (other_of pairs) t.2 ∙ other_branch w in
        let i_in : f.i < length m = omega (arith, r.as_long, instr_inside p f.i _ _ _ f.branch_at) in
        let m' : Machine = folded r change_inverted f.good (step_length p q (invert f)) i_in (not w) form_is j.0 j.2 in
        let to_m : t.1 ≡ f.m = branch_lands r f.i f.m f.n _ t.1 t.4 f.bare f.label_at (steady p f.i f.m (omega (arith, ij, jm)) steady_to) in (
          m',
          change_resolved r change_inverted f.good (step_length p q (invert f)) i_in (not w) form_is j.0 j.2,
          folded_alike m m' f.i f.m
              (change_folded r change_inverted f.good (step_length p q (invert f)) i_in (not w) form_is j.0 j.2 w t.1 t.3 (λ z. comes m' w t.1 j.0 to_m j.1 z)),
        )
      where
        to_jump : (d : ℕ) → deed m f.j ≡ jump d → (ts : List Bool) → steps m (suc f.i) ts ≡ on [] d ts
        to_jump d e ts =
            steps_found m (suc f.i) f.j ij (λ n a b. quiet_pass (r.all n) (next_before p (suc f.i) f.j f.j_is n a b)) (ap is_pass e) ts
            ∙ ap (λ (x : Deed). does f.j x ts) e

        comes : (m' : Machine) (w : Bool) (a d : ℕ) → a ≡ f.m → deed m f.j ≡ jump d → (z : Bool)
            → Comes m m' f.i f.m (cond (same_test z w) a (suc f.i)) (cond (same_test z (not w)) d f.m)
        comes m' w a d e h z = rw (same_not z w) (split (same_test z w))
          where
            split : (b : Bool) → Comes m m' f.i f.m (cond b a (suc f.i)) (cond (not b) d f.m)
            split true = inl e
            split false = inr (to_jump d h)
