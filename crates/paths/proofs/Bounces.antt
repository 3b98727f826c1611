-- A trampoline fold: the branch goes where the last jump went, and both jumps and T go.
use mathlib.Core.Path.{◌≡◌, refl, sym, ◌∙◌, ap, ap₂}
use mathlib.Core.Logic.{◌⊎◌, inl, inr, ⊎_elim, ◌≢◌}
use mathlib.Core.Bool.{Bool, true, false, cond}
use Prim.Native.Nat.{ℕ, suc, ◌+◌, ◌≤◌, ◌<◌}
use native.Mathlib.Omega.{arith}
use lib.Dec.{eqb}
use lib.ListN.{length, get_or}
use borrow.Author.Tests.{eq-eqb}
use Rattle.laws.proofs.Lists.{total_two}
use Rattle.laws.proofs.Stores.{get_in}
use Rattle.laws.proofs.Tests.{false_true, clash, eq_or_not, lt_or_le, decide}
use Rattle.rules.specs.Expressions.{Expr, name, mentions}
use Rattle.rules.specs.Forms.{not1}
use Rattle.rules.specs.Programs.{Stmt, gone, instr, label, variable, org, unnamed, labels, binds, naming_of, Program, at, is_form, last_of, over_exprs}
use Rattle.rules.specs.Names.{enter, context_at, placed, Key, key_of, same_key}
use Rattle.rules.specs.Judging.{names_of}
use Rattle.rules.specs.Rewriting.{insignificant, references}
use Rattle.promises.proofs.Steps.{Trampoline, bounce}
use Rattle.promises.proofs.Weights.{instr_inside, label_inside, order, step_length}
use Rattle.walk.proofs.Resolves.{label_enters, next_before}
use Rattle.walk.proofs.Lookups.{same_key_lem, key_same}
use Rattle.walk.proofs.Inputs.{not1_plain as unconditional_not1}
use Rattle.rules.proofs.Laws.{length_placed, placed_at_lem}
use Rattle.walk.proofs.Bounces.{weighs, nowhere, refers_once, local_context, made_i, made_j, made_m, made_u, made_else, Inside, is_j, is_m, is_u, is_v, is_quiet, inside_is, context_of, outside₂, change_bounced}
use Rattle.walk.specs.Walk.{same_test}
use Rattle.paths.specs.Walk.{Oracle, Class, jumps, taken_on, event, Spot, here, State, on}
use Rattle.paths.proofs.Machines.{Deed, act, Machine, deed, is_pass, does, steps, steps_found}
use Rattle.paths.proofs.Folds.{Lined, lined, hollowed, Follows}
use Rattle.paths.proofs.Names.{Naked, as_is, dropped, Kin, naming_variable, Unnamed, holds_but, mentions_none, mentions_less}
use Rattle.paths.proofs.Changes.{no_change, no_cloud}
use Rattle.paths.proofs.Forms.{length_on_last, branch_asks, unconditional_jumps, event_aimed}
use Rattle.paths.proofs.Links.{aims}
use Rattle.paths.proofs.Resolves.{Lands, Resolved, Aimed, aimed_deed, quiet_pass, label_pass}
use Rattle.paths.proofs.Rewrites.{Fold, inner_outside, Start, start_was, start_out, folded, jump_deed, aim, old_to, old_lands, fold_resolved, fold_alike, none_before, onward}
use Rattle.paths.proofs.Branches.{quiet_not1, branch_lands}

module _ {p q : Program} (f : Trampoline p q) where
  -- behind the branch and before S stand the two jumps, T, and what is quiet
  within : (P : Stmt → Type 0) → P (instr f.skip.form f.skip.args f.skip.carried) → P (label f.t) → P (instr f.last.form f.last.args f.last.carried)
      → ((s : Stmt) → insignificant s ≡ true → P s) → (n : ℕ) → f.i < n → n < f.v → P (at p n)
  within P a b c d n x y = split (inside_is f n x (omega arith))
    where
      split : Inside f n → P (at p n)
      split (is_j e) = rw (e, f.skip_at) a
      split (is_m e) = rw (e, f.t_at) b
      split (is_u e) = rw (e, f.last_at) c
      split (is_v e) = absurd (omega arith)
      split (is_quiet _ _ _ _ h) = d (at p n) h

  data Where (n : ℕ) : Type 0 where
    at_branch : n ≡ f.i → Where n
    at_skip : n ≡ f.j → Where n
    at_t : n ≡ f.m → Where n
    at_last : n ≡ f.u → Where n
    at_other : n ≢ f.i → n ≢ f.j → n ≢ f.m → n ≢ f.u → Where n

  where_is : (n : ℕ) → Where n
  where_is n =
      ⊎_elim (λ e. at_branch e) (λ a. ⊎_elim (λ e. at_skip e) (λ b. ⊎_elim (λ e. at_t e) (λ c. ⊎_elim (λ e. at_last e) (λ d. at_other a b c d) (eq_or_not n f.u)) (eq_or_not n f.m)) (eq_or_not n f.j)) (eq_or_not n f.i)

  kin_bounced : Kin p q
  kin_bounced = record { as_long = step_length p q (bounce f); enters = λ n k. enters n k (where_is n); naming = λ n. naming n (where_is n) }
    where
      enters : (n k : ℕ) → Where n → enter k (at q n) ≡ enter k (at p n)
      enters n k (at_branch e) = rw (e, made_i f, f.branch_at)
      enters n k (at_skip e) = rw (e, made_j f, f.skip_at)
      enters n k (at_t e) = rw (e, made_m f, f.t_at) (sym (label_enters f.t k f.t_local))
      enters n k (at_last e) = rw (e, made_u f, f.last_at)
      enters n k (at_other a b c d) = rw (made_else f n a b c d)

      naming : (n : ℕ) → Where n → Naked (naming_of (at p n)) (naming_of (at q n))
      naming n (at_branch e) = rw (e, made_i f, f.branch_at) as_is
      naming n (at_skip e) = rw (e, made_j f, f.skip_at) as_is
      naming n (at_t e) = rw (e, made_m f, f.t_at) dropped
      naming n (at_last e) = rw (e, made_u f, f.last_at) as_is
      naming n (at_other a b c d) = rw (made_else f n a b c d) as_is

  -- only the branch names T
  abbrev t_key : Key
  t_key = key_of (context_at p f.m) f.t

  unmentioned : (n : ℕ) → n ≢ f.i → (e : Expr) → n < length p → ((w : Expr → ℕ) → w e ≤ over_exprs w (at p n)) → mentions (λ m. same_key t_key (key_of (context_at p n) m)) e ≡ 0
  unmentioned n ne e l h = ⊎_elim here elsewhere (eq_or_not (context_at p n) (context_at p f.m))
    where
      is_t : (m : ℕ) → same_key t_key (key_of (context_at p n) m) ≡ true → eqb m f.t ≡ true
      is_t m z = eq-eqb m f.t (sym (ap (λ (x : Key). x.called) (same_key_lem t_key (key_of (context_at p n) m) z)))

      here : context_at p n ≡ context_at p f.m → mentions (λ m. same_key t_key (key_of (context_at p n) m)) e ≡ 0
      here z =
          let two : weighs (context_at p f.m) f.t (get_or (placed p) n nowhere) + weighs (context_at p f.m) f.t (get_or (placed p) f.i nowhere) ≤ references (context_at p f.m) f.t p =
          unfold references in total_two (weighs (context_at p f.m) f.t) (placed p) n f.i nowhere (unfold placed in rw length_placed l) (unfold placed in rw length_placed (instr_inside p f.i _ _ _ f.branch_at)) ne in
          let one : 1 ≤ weighs (context_at p f.m) f.t (get_or (placed p) f.i nowhere) =
          refers_once p (context_at p f.m) f.t f.i f.f f.b.args f.b.carried f.branch_at f.bare (sym (context_of f f.m (omega (arith, order f)) (omega (arith, order f)))) in
          let this : weighs (context_at p f.m) f.t (get_or (placed p) n nowhere) ≡ over_exprs (λ e. mentions (λ m. eqb m f.t) e) (at p n) =
          ap (weighs (context_at p f.m) f.t) (placed_at_lem p n nowhere l) ∙ rw (z, eq-eqb (context_at p f.m) (context_at p f.m) refl) in
          let less = mentions_less (λ m. same_key t_key (key_of (context_at p n) m)) (λ m. eqb m f.t) is_t e in
          omega (arith, h (λ e. mentions (λ m. eqb m f.t) e), f.once)

      elsewhere : (context_at p n ≡ context_at p f.m → ⊥) → mentions (λ m. same_key t_key (key_of (context_at p n) m)) e ≡ 0
      elsewhere ne = mentions_none (λ m. same_key t_key (key_of (context_at p n) m)) (λ m. ⊎_elim (λ z. absurd (ne (sym (same m z)))) (λ z. z) (decide (same_key t_key (key_of (context_at p n) m)))) e
        where
          same : (m : ℕ) → same_key t_key (key_of (context_at p n) m) ≡ true → context_at p f.m ≡ context_at p n
          same m z =
              let k : t_key ≡ key_of (context_at p n) m = same_key_lem t_key (key_of (context_at p n) m) z in
              let y : f.t ≡ m = ap (λ (x : Key). x.called) k in
              local_context (context_at p f.m) (context_at p n) f.t f.t_local (k ∙ ap (λ (n' : ℕ). key_of (context_at p n) n') (sym y))

  unnamed_but : (n : ℕ) → Unnamed t_key (context_at p n) (naming_of (at p n)) (naming_of (at q n))
  unnamed_but n = record { naked = kin_bounced.naming n; only = λ l a b. only l a b (where_is n); not_named = λ l e a. not_named l e a }
    where
      only : (l : ℕ) → naming_of (at p n) ≡ labels l → naming_of (at q n) ≡ unnamed → Where n → same_key t_key (key_of (context_at p n) l) ≡ true
      only l a b (at_branch z) = clash (let h : naming_of (at p n) ≡ unnamed = rw (z, f.branch_at) in cc)
      only l a b (at_skip z) = clash (let h : naming_of (at p n) ≡ unnamed = rw (z, f.skip_at) in cc)
      only l a b (at_t z) =
          let h : naming_of (at p n) ≡ labels f.t = rw (z, f.t_at) in
          let y : l ≡ f.t = cc in
          rw (y, z) (key_same t_key t_key refl)
      only l a b (at_last z) = clash (let h : naming_of (at p n) ≡ unnamed = rw (z, f.last_at) in cc)
      only l a b (at_other x y z w) = clash (let h : naming_of (at q n) ≡ naming_of (at p n) = ap naming_of (made_else f n x y z w) in cc)

      not_named : (l : ℕ) (e : Expr) → naming_of (at p n) ≡ binds l e → mentions (λ m. same_key t_key (key_of (context_at p n) m)) e ≡ 0
      not_named l e a =
          let v : at p n ≡ variable l e = naming_variable (at p n) l e a in
          unmentioned n (λ z. clash (let h : naming_of (at p n) ≡ unnamed = rw (z, f.branch_at) in cc)) e (get_in p n gone (λ z. clash (cc))) (λ w. rw v (omega arith))

  -- a label that a variable names is not T
  named_stay : (a n l d : ℕ) → at p a ≡ variable n (name l) → at p d ≡ label l → key_of (context_at p d) l ≡ key_of (context_at p a) l → (at q d ≡ label l) × ((d ≤ f.i) ⊎ (f.v ≤ d))
  unfolding mentions
  named_stay a n l d v s k = (kept (where_is d) ∙ s, outside₂ f d l s not_t)
    where
      not_t : d ≢ f.m
      not_t e =
          let same : l ≡ f.t = cc (let h : at p d ≡ at p f.m = ap (at p) e in h, f.t_at) in
          let own_key : t_key ≡ key_of (context_at p a) l = ap (λ (j : ℕ). key_of (context_at p j) f.t) (sym e) ∙ ap (λ (j : ℕ). key_of (context_at p d) j) (sym same) ∙ k in
          let none : mentions (λ m. same_key t_key (key_of (context_at p a) m)) (name l) ≡ 0 =
          unmentioned a (λ z. clash (let h : at p a ≡ at p f.i = ap (at p) z in cc f.branch_at)) (name l) (get_in p a gone (λ z. clash (cc))) (λ w. rw v (omega arith)) in
          clash (sym none ∙ ap (λ (b : Bool). cond b 1 0) (key_same t_key (key_of (context_at p a) l) own_key))

      kept : Where d → at q d ≡ at p d
      kept (at_branch e) = clash (let h : at p d ≡ at p f.i = ap (at p) e in cc f.branch_at)
      kept (at_skip e) = clash (let h : at p d ≡ at p f.j = ap (at p) e in cc f.skip_at)
      kept (at_t e) = absurd (not_t e)
      kept (at_last e) = clash (let h : at p d ≡ at p f.u = ap (at p) e in cc f.last_at)
      kept (at_other x y z w) = made_else f d x y z w

  pub fold_bounced : Fold p q
  unfolding change_bounced
  fold_bounced =
      record {
        c = change_bounced f;
        step = bounce f;
        good = f.good;
        old_form = f.f;
        old_args = f.b.args;
        old_carried = f.b.carried;
        old_at = f.branch_at;
        asks = branch_asks f.f f.kind;
        asks_too = branch_asks f.f f.kind;
        same_event = event_aimed f.i f.f f.f (λ old. last_of f.last.args) f.b.args f.transfers f.transfers refl;
        as_many = length_on_last (λ old. last_of f.last.args) f.b.args;
        same_size = refl;
        jumps_on = unconditional_jumps f.last.form f.isjump;
        inner_out = inner_outside p f.i f.v f.none_between;
        v_in = omega (arith, label_inside p f.v f.s f.s_at);
        org_out = λ d l e.
            ⊎_elim (λ a. ⊎_elim (λ b. absurd (within (λ s. s ≡ org l → ⊥) (λ z. clash (cc)) (λ z. clash (cc)) (λ z. clash (cc)) (λ s h z. false_true (sym (ap insignificant z) ∙ h)) d a b e)) (λ b. inr b) (lt_or_le d f.v))
            (λ a. inl a) (lt_or_le f.i d);
        no_not1 = within (λ s. is_form not1 s ≡ false) (unconditional_not1 f.skip.form f.skips) refl (unconditional_not1 f.last.form f.isjump) quiet_not1;
        kin = kin_bounced;
        kept_too = λ v n l d a s z. named_stay v n l d a s z;
        moving = λ n e ne l w. holds_but t_key p q (step_length p q (bounce f)) kin_bounced.enters unnamed_but (context_at p n) e (unmentioned n ne e l w);
      }

  module _ {p₀ : Program} {m : Machine} (r : Resolved p₀ p m) where
    pub bounced_alike : (m' : Machine) × Resolved p₀ q m' × ((d : ℕ) → Start p₀ q d → Start p₀ p d × Follows m m' d)
    unfolding fold_bounced change_bounced
    bounced_alike = (folded r fold_bounced, fold_resolved r fold_bounced, λ d s. (start_was r fold_bounced d s, fold_alike r fold_bounced comes d (start_out r fold_bounced d s)))
      where
        to_t : old_to r fold_bounced ≡ here f.m
        to_t =
            branch_lands r f.i f.m f.t (last_of f.b.args) (old_to r fold_bounced) (old_lands r fold_bounced) f.bare f.t_at
            (context_of f f.m (omega (arith, order f)) (omega (arith, order f)))

        to_last : (o : Oracle) (s : State) → s.spot ≡ here f.m → steps o m s ≡ on (event f.u f.last.form f.last.args).place (record { spot = aim r fold_bounced; left = s.left; met = s.met })
        to_last o s e =
            let d = jump_deed r fold_bounced in
            let there : deed m f.u ≡ act jumps (event f.u f.last.form f.last.args) (taken_on f.last.form) d.to = d.is ∙ rw (unconditional_jumps f.last.form f.isjump) in
            steps_found m f.m o f.u (omega (arith, order f))
            (λ n a b. ⊎_elim (λ (z : n ≡ f.m). label_pass r n f.t (ap (at p) z ∙ f.t_at)) (λ z. quiet_pass r n (next_before p (suc f.m) f.u f.u_is n (omega arith) b)) (eq_or_not n f.m)) (ap is_pass there) s e
            ∙ ap (λ (x : Deed). does o f.u x s) there

        skip_deed : Aimed (Lands p₀ p (context_at p f.j)) f.j f.skip.form f.skip.args (deed m f.j)
        skip_deed =
            aimed_deed f.skip.form f.skip.args f.skip.carried (r.all f.j) f.skip_at (no_cloud p f.j (none_before r fold_bounced f.j (omega (arith, order f)) (omega (arith, order f))))
            (no_change (names_of p) p f.j (none_before r fold_bounced f.j (omega (arith, order f)) (omega (arith, order f)))) (ap aims (unconditional_jumps f.skip.form f.skips))

        to_s : skip_deed.to ≡ here f.v
        to_s =
            branch_lands r f.j f.v f.s (last_of f.skip.args) skip_deed.to skip_deed.leads f.skip_bare f.s_at
            (context_of f f.v (omega (arith, order f)) (omega arith) ∙ sym (context_of f f.j (omega (arith, order f)) (omega (arith, order f))))

        to_skip : (o : Oracle) (s : State) → s.spot ≡ here (suc f.i) → steps o m s ≡ on (event f.j f.skip.form f.skip.args).place (record { spot = here f.v; left = s.left; met = s.met })
        to_skip o s e =
            let there : deed m f.j ≡ act jumps (event f.j f.skip.form f.skip.args) (taken_on f.skip.form) (here f.v) = skip_deed.is ∙ ap₂ (λ (c : Class) (g : Spot). act c (event f.j f.skip.form f.skip.args) (taken_on f.skip.form) g) (unconditional_jumps f.skip.form f.skips) to_s in
            steps_found m (suc f.i) o f.j (omega (arith, order f)) (λ n a b. quiet_pass r n (next_before p (suc f.i) f.j f.j_is n a b)) (ap is_pass there) s e
            ∙ ap (λ (x : Deed). does o f.j x s) there

        comes : (z : Bool) → Lined m (folded r fold_bounced) f.i f.v (cond (same_test z (taken_on f.f)) (aim r fold_bounced) (here (suc f.i))) (cond (same_test z (taken_on f.f)) (old_to r fold_bounced) (here (suc f.i)))
            ⊎ ((j : ℕ) × (g : Spot) × Lined m (folded r fold_bounced) f.i f.v (cond (same_test z (taken_on f.f)) (aim r fold_bounced) (here (suc f.i))) g
            × ((o : Oracle) (s : State) → s.spot ≡ cond (same_test z (taken_on f.f)) (old_to r fold_bounced) (here (suc f.i)) → steps o m s ≡ on j (record { spot = g; left = s.left; met = s.met })))
        comes z = split (same_test z (taken_on f.f))
          where
            split : (b : Bool) → Lined m (folded r fold_bounced) f.i f.v (cond b (aim r fold_bounced) (here (suc f.i))) (cond b (old_to r fold_bounced) (here (suc f.i)))
                ⊎ ((j : ℕ) × (g : Spot) × Lined m (folded r fold_bounced) f.i f.v (cond b (aim r fold_bounced) (here (suc f.i))) g
                × ((o : Oracle) (s : State) → s.spot ≡ cond b (old_to r fold_bounced) (here (suc f.i)) → steps o m s ≡ on j (record { spot = g; left = s.left; met = s.met })))
            split true = inr ((event f.u f.last.form f.last.args).place, aim r fold_bounced, lined (onward r fold_bounced).1, λ o s e. to_last o s (e ∙ to_t))
            split false = inr ((event f.j f.skip.form f.skip.args).place, here f.v, hollowed, to_skip)
