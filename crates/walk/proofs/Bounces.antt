-- A trampoline fold leaves a program whose machine walks as the old one's, in no more steps: only the branch names T.
use mathlib.Core.Path.{◌≡◌, refl, sym, ◌∙◌, ap}
use mathlib.Core.Logic.{◌⊎◌, inl, inr, ⊎_elim, ◌≢◌}
use mathlib.Core.List.{List, [], ◌∷◌}
use mathlib.Core.Bool.{Bool, true, false, cond, ◌||◌}
use Prim.Native.Nat.{ℕ, suc, ◌≤◌, ◌<◌}
use native.Mathlib.Omega.{arith}
use lib.Dec.{eqb}
use lib.ListN.{length, get_or, set}
use lib.Seq.{get_or-set_other, get_or-set_same}
use borrow.Author.Tests.{eq-eqb, ne_eqb}
use Rattle.laws.specs.Lists.{total}
use Rattle.laws.proofs.Tests.{false_true, clash, eq_or_not, lt_or_le, cond_true}
use Rattle.laws.proofs.Lists.{total_two}
use Rattle.rules.specs.Expressions.{Expr, name, mentions}
use Rattle.rules.specs.Programs.{Operand, value, Stmt, gone, instr, label, Program, at, last_of, on_last, in_operand, over_exprs}
use Rattle.rules.specs.Names.{is_local, enter, context_at, Placed, placed, Key, key_of}
use Rattle.rules.specs.Rewriting.{insignificant, aimed, references}
use Rattle.rules.proofs.Laws.{length_placed, placed_at_lem}
use Rattle.promises.proofs.Looks.{last_of_put}
use Rattle.promises.proofs.Steps.{Trampoline, bounce}
use Rattle.promises.proofs.Weights.{instr_inside, order, step_length}
use Rattle.walk.specs.Walk.{on, same_test}
use Rattle.walk.proofs.Machines.{Deed, pass, jump, Machine, deed, is_pass, does, steps, steps_found}
use Rattle.walk.proofs.Folds.{Comes}
use Rattle.walk.proofs.Resolves.{Resolved, quiet_pass, label_pass, jump_deed, test_deed, same_context, steady, quiet_enters, label_enters, next_before}
use Rattle.walk.proofs.Rewrites.{Change, folded, change_resolved, change_folded}
use Rattle.walk.proofs.Alikes.{is_in, at_drop, inner_outside, Alike, folded_alike, branch_lands}

-- ---- one reference
pub mention_last : (w : Expr → ℕ) (xs : List Operand) (e : Expr) → last_of xs ≡ value e → w e ≤ total (in_operand w) xs
unfolding total
mention_last w [] e h = clash (cc)
mention_last w (x ∷ []) e h = rw h (omega arith)
mention_last w (x ∷ y ∷ xs) e h = omega (arith, mention_last w (y ∷ xs) e h)

abbrev mentioned : ℕ → Expr → ℕ
mentioned t e = mentions (λ m. eqb m t) e

abbrev pub weighs : (k t : ℕ) → Placed → ℕ
weighs k t x = cond (eqb x.context k) (over_exprs (λ e. mentions (λ m. eqb m t) e) x.stmt) 0

pub nowhere : Placed
nowhere = record { place = 0; context = 0; position = 0; stmt = gone }

pub refers_once : (p : Program) (k t n f : ℕ) (xs : List Operand) (c : ℕ) → at p n ≡ instr f xs c → last_of xs ≡ value (name t) → context_at p n ≡ k
    → 1 ≤ weighs k t (get_or (placed p) n nowhere)
unfolding mentions
refers_once p k t n f xs c s l z =
    let one : mentions (λ m. eqb m t) (name t) ≡ 1 = rw (eq-eqb t t refl) in
    let e : weighs k t (get_or (placed p) n nowhere) ≡ total (in_operand (λ e. mentions (λ m. eqb m t) e)) xs =
    ap (weighs k t) (placed_at_lem p n nowhere (instr_inside p n f xs c s)) ∙ rw (z, eq-eqb k k refl, s) in
    omega (arith, mention_last (λ e. mentions (λ m. eqb m t) e) xs (name t) l)

refers_twice : (p : Program) (k t n i f g : ℕ) (xs ys : List Operand) (c d : ℕ) → n ≢ i → at p n ≡ instr f xs c → last_of xs ≡ value (name t) → context_at p n ≡ k
    → at p i ≡ instr g ys d → last_of ys ≡ value (name t) → context_at p i ≡ k → 2 ≤ references k t p
unfolding references
refers_twice p k t n i f g xs ys c d ne s l z s' l' z' =
    let a : n < length (placed p) = unfold placed in rw length_placed (instr_inside p n f xs c s) in
    let b : i < length (placed p) = unfold placed in rw length_placed (instr_inside p i g ys d s') in
    omega (arith, total_two (weighs k t) (placed p) n i nowhere a b ne, refers_once p k t n f xs c s l z, refers_once p k t i g ys d s' l' z')

-- ---- a trampoline
pub local_context : (k l t : ℕ) → is_local t ≡ true → key_of k t ≡ key_of l t → k ≡ l
local_context k l t h e = sym (cond_true (is_local t) k 0 h) ∙ ap (λ (x : Key). x.context) e ∙ cond_true (is_local t) l 0 h

module _ {p q : Program} (f : Trampoline p q) where
  abbrev put₂ : Stmt
  put₂ = aimed f.f f.b f.last

  abbrev pub dropped : List ℕ
  dropped = f.j ∷ f.m ∷ f.u ∷ []

  made_new : (n : ℕ) → at q n ≡ cond (is_in n dropped) gone (at (set p f.i put₂) n)
  made_new n = rw f.new (at_drop dropped (set p f.i put₂) n)

  pub made_i : at q f.i ≡ put₂
  made_i =
      made_new f.i
      ∙ rw (ne_eqb f.i f.j (λ e. omega (arith, order f)), ne_eqb f.i f.m (λ e. omega (arith, order f)), ne_eqb f.i f.u (λ e. omega (arith, order f)))
      (get_or-set_same p f.i put₂ gone (instr_inside p f.i _ _ _ f.branch_at))

  pub made_j : at q f.j ≡ gone
  made_j = made_new f.j ∙ rw (eq-eqb f.j f.j refl)

  pub made_m : at q f.m ≡ gone
  made_m = made_new f.m ∙ rw (eq-eqb f.m f.m refl) (either (eqb f.m f.j))
    where
      either : (b : Bool) → cond (b || true) gone (at (set p f.i put₂) f.m) ≡ gone
      either true = refl
      either false = refl

  pub made_u : at q f.u ≡ gone
  made_u = made_new f.u ∙ rw (eq-eqb f.u f.u refl) (either (eqb f.u f.j) (eqb f.u f.m))
    where
      either : (a b : Bool) → cond (a || (b || true)) gone (at (set p f.i put₂) f.u) ≡ gone
      either true b = refl
      either false true = refl
      either false false = refl

  pub made_else : (n : ℕ) → n ≢ f.i → n ≢ f.j → n ≢ f.m → n ≢ f.u → at q n ≡ at p n
  made_else n a b c d = made_new n ∙ rw (ne_eqb n f.j b, ne_eqb n f.m c, ne_eqb n f.u d) (get_or-set_other p f.i n put₂ gone a)

  -- a place behind the branch and up to S is one of the pattern's, or quiet
  pub data Inside (n : ℕ) : Type 0 where
    is_j : n ≡ f.j → Inside n
    is_m : n ≡ f.m → Inside n
    is_u : n ≡ f.u → Inside n
    is_v : n ≡ f.v → Inside n
    is_quiet : n ≢ f.j → n ≢ f.m → n ≢ f.u → n ≢ f.v → insignificant (at p n) ≡ true → Inside n

  pub inside_is : (n : ℕ) → f.i < n → n ≤ f.v → Inside n
  inside_is n a b = split (eq_or_not n f.j) (eq_or_not n f.m) (eq_or_not n f.u) (eq_or_not n f.v)
    where
      quietly : n ≢ f.j → n ≢ f.m → n ≢ f.u → n ≢ f.v → insignificant (at p n) ≡ true
      quietly x y z w =
          ⊎_elim (λ h. next_before p (suc f.i) f.j f.j_is n a h)
          (λ h. ⊎_elim (λ h₁. next_before p (suc f.j) f.m f.m_is n (omega arith) h₁)
          (λ h₁. ⊎_elim (λ h₂. next_before p (suc f.m) f.u f.u_is n (omega arith) h₂)
          (λ h₂. next_before p (suc f.u) f.v f.v_is n (omega arith) (omega arith)) (lt_or_le n f.u)) (lt_or_le n f.m)) (lt_or_le n f.j)

      split : (n ≡ f.j) ⊎ (n ≢ f.j) → (n ≡ f.m) ⊎ (n ≢ f.m) → (n ≡ f.u) ⊎ (n ≢ f.u) → (n ≡ f.v) ⊎ (n ≢ f.v) → Inside n
      split (inl e) y z w = is_j e
      split (inr x) (inl e) z w = is_m e
      split (inr x) (inr y) (inl e) w = is_u e
      split (inr x) (inr y) (inr z) (inl e) = is_v e
      split (inr x) (inr y) (inr z) (inr w) = is_quiet x y z w (quietly x y z w)

  steady_on : (n : ℕ) → f.i < n → n ≤ f.v → (k : ℕ) → enter k (at p n) ≡ k
  steady_on n a b k = split (inside_is n a b)
    where
      split : Inside n → enter k (at p n) ≡ k
      split (is_j e) = rw (e, f.skip_at)
      split (is_m e) = rw (e, f.t_at) (label_enters f.t k f.t_local)
      split (is_u e) = rw (e, f.last_at)
      split (is_v e) = rw (e, f.s_at) (label_enters f.s k f.s_local)
      split (is_quiet x y z w h) = quiet_enters (at p n) k h

  pub context_of : (n : ℕ) → f.i < n → n ≤ f.v → context_at p n ≡ context_at p f.i
  context_of n a b = steady p f.i n (omega arith) (λ l x y k. steady_on l x (omega arith) k)

  pub made_contexts : (n : ℕ) → context_at q n ≡ context_at p n
  made_contexts = same_context p q (λ n k. split n k (eq_or_not n f.i) (eq_or_not n f.j) (eq_or_not n f.m) (eq_or_not n f.u))
    where
      split : (n k : ℕ) → (n ≡ f.i) ⊎ (n ≢ f.i) → (n ≡ f.j) ⊎ (n ≢ f.j) → (n ≡ f.m) ⊎ (n ≢ f.m) → (n ≡ f.u) ⊎ (n ≢ f.u) → enter k (at q n) ≡ enter k (at p n)
      split n k (inl e) y z w = rw (e, made_i, f.branch_at)
      split n k (inr x) (inl e) z w = rw (e, made_j, f.skip_at)
      split n k (inr x) (inr y) (inl e) w = rw (e, made_m, f.t_at) (sym (label_enters f.t k f.t_local))
      split n k (inr x) (inr y) (inr z) (inl e) = rw (e, made_u, f.last_at)
      split n k (inr x) (inr y) (inr z) (inr w) = rw (made_else n x y z w)

  pub not_instr₂ : (d l : ℕ) → at p d ≡ label l → (i g : ℕ) (xs : List Operand) (c : ℕ) → d ≡ i → at p i ≡ instr g xs c → ⊥
  not_instr₂ d l e i g xs c y s = let z : at p d ≡ at p i = ap (at p) y in clash (cc)

  -- only the branch names T
  pub not_T : (n g c : ℕ) (xs : List Operand) (d l : ℕ) → n ≢ f.i → at p n ≡ instr g xs c → last_of xs ≡ value (name l) → at p d ≡ label l → key_of (context_at p d) l ≡ key_of (context_at p n) l → d ≢ f.m
  not_T n g c xs d l ne s t e z y =
      let there : at p d ≡ label f.t = ap (at p) y ∙ f.t_at in
      let same : l ≡ f.t = cc in
      let contexts : context_at p f.m ≡ context_at p n = local_context (context_at p f.m) (context_at p n) f.t f.t_local
      (ap (λ (a : ℕ). key_of (context_at p a) f.t) (sym y) ∙ ap (λ (a : ℕ). key_of (context_at p d) a) (sym same) ∙ z ∙ ap (λ (a : ℕ). key_of (context_at p n) a) same) in
      let two : 2 ≤ references (context_at p f.m) f.t p =
      refers_twice p (context_at p f.m) f.t n f.i g f.f xs f.b.args c f.b.carried ne s (t ∙ ap (λ (a : ℕ). value (name a)) same) (sym contexts)
      f.branch_at f.bare (sym (context_of f.m (omega (arith, order f)) (omega (arith, order f)))) in
      omega (arith, f.once)

  pub outside₂ : (d l : ℕ) → at p d ≡ label l → d ≢ f.m → (d ≤ f.i) ⊎ (f.v ≤ d)
  outside₂ d l e ne = ⊎_elim (λ a. ⊎_elim (λ b. inl (absurd (split (inside_is d a (omega arith)) b))) (λ b. inr b) (lt_or_le d f.v)) (λ a. inl a) (lt_or_le f.i d)
    where
      split : Inside d → d < f.v → ⊥
      split (is_j z) b = not_instr₂ d l e f.j _ _ _ z f.skip_at
      split (is_m z) b = ne z
      split (is_u z) b = not_instr₂ d l e f.u _ _ _ z f.last_at
      split (is_v z) b = omega arith
      split (is_quiet x y z w h) b = false_true (sym (ap insignificant e) ∙ h)

  unfoldable pub change_bounced : Change p q
  change_bounced =
      record {
        i = f.i;
        e = f.u;
        v = f.v;
        ie = omega (arith, order f);
        ev = omega (arith, order f);
        form = f.f;
        args = on_last (λ old. last_of f.last.args) f.b.args;
        carried = f.last.carried;
        new = made_i;
        jumping = f.last.form;
        jump_args = f.last.args;
        jump_carried = f.last.carried;
        jump_at = f.last_at;
        same_target = last_of_put (last_of f.last.args) (name f.t) f.b.args f.bare;
        away = λ n a o. made_else n a (off n o f.j (omega (arith, order f)) (omega (arith, order f))) (off n o f.m (omega (arith, order f)) (omega (arith, order f))) (off n o f.u (omega (arith, order f)) (omega (arith, order f)));
        hollow = λ n a b. split n a b (inside_is n a (omega arith));
        contexts = made_contexts;
        near = context_of f.u (omega (arith, order f)) (omega (arith, order f));
        kept = λ n g c xs d l ne s t e z.
            let nm = not_T n g c xs d l ne s t e z in
            (made_else d (λ y. not_instr₂ d l e f.i _ _ _ y f.branch_at) (λ y. not_instr₂ d l e f.j _ _ _ y f.skip_at) nm (λ y. not_instr₂ d l e f.u _ _ _ y f.last_at) ∙ e, outside₂ d l e nm);
        inner_out = inner_outside p f.i f.v f.none_between;
      }
    where
      off : (n : ℕ) → (n ≤ f.i) ⊎ (f.v ≤ n) → (a : ℕ) → f.i < a → a < f.v → n ≢ a
      off n (inl h) a x y z = omega arith
      off n (inr h) a x y z = omega arith

      split : (n : ℕ) → f.i < n → n < f.v → Inside n → (at q n ≡ gone) ⊎ ((at q n ≡ at p n) × (insignificant (at p n) ≡ true))
      split n a b (is_j e) = inl (rw e made_j)
      split n a b (is_m e) = inl (rw e made_m)
      split n a b (is_u e) = inl (rw e made_u)
      split n a b (is_v e) = absurd (omega arith)
      split n a b (is_quiet x y z w h) = inr (made_else n (λ c. omega arith) x y z, h)

  module _ {m : Machine} (r : Resolved p m) where
    pub bounced_alike : (m' : Machine) × Resolved q m' × Alike m m'
    unfolding change_bounced
    bounced_alike =
        let o = order f in
        let t = test_deed f.f f.b.args f.b.carried (r.all f.i) f.branch_at f.transfers f.conditional in
        let s = jump_deed f.skip.form f.skip.args f.skip.carried (r.all f.j) f.skip_at f.skips in
        let j = jump_deed f.last.form f.last.args f.last.carried (r.all f.u) f.last_at f.isjump in
        let w : Bool = t.0 in
        let i_in : f.i < length m = omega (arith, r.as_long, instr_inside p f.i _ _ _ f.branch_at) in
        let m' : Machine = folded r change_bounced f.good (step_length p q (bounce f)) i_in w t.2 j.0 j.2 in
        let to_m : t.1 ≡ f.m = branch_lands r f.i f.m f.t _ t.1 t.4 f.bare f.t_at (context_of f.m (omega arith) (omega arith)) in
        let to_v : s.0 ≡ f.v =
        branch_lands r f.j f.v f.s _ s.0 s.2 f.skip_bare f.s_at (context_of f.v (omega arith) (omega arith) ∙ sym (context_of f.j (omega arith) (omega arith))) in (
          m',
          change_resolved r change_bounced f.good (step_length p q (bounce f)) i_in w t.2 j.0 j.2,
          folded_alike m m' f.i f.v
              (change_folded r change_bounced f.good (step_length p q (bounce f)) i_in w t.2 j.0 j.2 w t.1 t.3 (λ z. comes m' w t.1 j.0 to_m j.1 (s.1 ∙ ap jump to_v) z)),
        )
      where
        to_skip : deed m f.j ≡ jump f.v → (ts : List Bool) → steps m (suc f.i) ts ≡ on [] f.v ts
        to_skip e ts =
            steps_found m (suc f.i) f.j (omega (arith, order f)) (λ n a b. quiet_pass (r.all n) (next_before p (suc f.i) f.j f.j_is n a b)) (ap is_pass e) ts
            ∙ ap (λ (x : Deed). does f.j x ts) e

        to_last : (d : ℕ) → deed m f.u ≡ jump d → (ts : List Bool) → steps m f.m ts ≡ on [] d ts
        to_last d e ts =
            steps_found m f.m f.u (omega (arith, order f)) clear (ap is_pass e) ts
            ∙ ap (λ (x : Deed). does f.u x ts) e
          where
            clear : (n : ℕ) → f.m ≤ n → n < f.u → deed m n ≡ pass
            clear n a b = ⊎_elim (λ (z : n ≡ f.m). label_pass f.t (r.all n) (ap (at p) z ∙ f.t_at)) (λ z. quiet_pass (r.all n) (next_before p (suc f.m) f.u f.u_is n (omega arith) b)) (eq_or_not n f.m)

        comes : (m' : Machine) (w : Bool) (a d : ℕ) → a ≡ f.m → deed m f.u ≡ jump d → deed m f.j ≡ jump f.v → (z : Bool)
            → Comes m m' f.i f.v (cond (same_test z w) a (suc f.i)) (cond (same_test z w) d f.v)
        comes m' w a d e h s z = split (same_test z w)
          where
            split : (b : Bool) → Comes m m' f.i f.v (cond b a (suc f.i)) (cond b d f.v)
            split true = inr (rw e (to_last d h))
            split false = inr (to_skip s)
