-- An inverted fold: the branch becomes the other of its pair, and goes where the jump went.
use mathlib.Core.Path.{◌≡◌, sym, ◌∙◌, ap}
use mathlib.Core.Logic.{◌⊎◌, inl, inr, ⊎_elim}
use mathlib.Core.List.{List}
use mathlib.Core.Bool.{Bool, true, false, not, cond}
use Prim.Native.Nat.{ℕ, suc, ◌≤◌, ◌<◌}
use native.Mathlib.Omega.{arith}
use Rattle.laws.proofs.Tests.{false_true, clash, eq_or_not, lt_or_le}
use Rattle.rules.specs.Forms.{not1}
use Rattle.rules.specs.Programs.{Stmt, instr, label, org, naming_of, Program, at, is_form, last_of}
use Rattle.rules.specs.Names.{context_at, Key}
use Rattle.rules.specs.Rewriting.{holds_label, insignificant}
use Rattle.promises.proofs.Steps.{Inverted, invert}
use Rattle.promises.proofs.Weights.{label_inside, step_length}
use Rattle.walk.proofs.Resolves.{steady, next_before}
use Rattle.walk.proofs.Inverts.{same_not, ij, jm, at_i, at_j, at_else, quiet, steady_to, change_inverted}
use Rattle.walk.proofs.Inputs.{not1_plain as unconditional_not1}
use Rattle.walk.specs.Walk.{same_test}
use Rattle.paths.specs.Walk.{Oracle, jumps, taken_on, event, Spot, here, State, on}
use Rattle.paths.proofs.Machines.{Deed, act, Machine, deed, is_pass, does, steps, steps_found}
use Rattle.paths.proofs.Folds.{Lined, lined, hollowed, Follows}
use Rattle.paths.proofs.Names.{as_is, Kin, moving_same}
use Rattle.paths.proofs.Forms.{length_on_last, Opposite, inverted_asks, unconditional_jumps, event_aimed}
use Rattle.paths.proofs.Resolves.{Resolved, quiet_pass}
use Rattle.paths.proofs.Rewrites.{Fold, inner_outside, Start, start_was, start_out, folded, jump_deed, aim, old_to, old_lands, fold_resolved, fold_alike, onward}
use Rattle.paths.proofs.Branches.{quiet_not1, branch_lands}

module _ {p q : Program} (f : Inverted p q) where
  opposed : Opposite f.from f.to
  opposed = inverted_asks f.from f.to f.other f.to_transfers

  kin_inverted : Kin p q
  kin_inverted =
      record {
        as_long = step_length p q (invert f);
        enters = λ n k. ⊎_elim (λ (e : n ≡ f.i). rw (e, at_i f, f.branch_at)) (λ ne. ⊎_elim (λ (e : n ≡ f.j). rw (e, at_j f, f.jump_at)) (λ ne'. rw (at_else f n ne ne')) (eq_or_not n f.j)) (eq_or_not n f.i);
        naming = λ n. ⊎_elim (λ (e : n ≡ f.i). rw (e, at_i f, f.branch_at) as_is) (λ ne. ⊎_elim (λ (e : n ≡ f.j). rw (e, at_j f, f.jump_at) as_is) (λ ne'. rw (at_else f n ne ne') as_is) (eq_or_not n f.j)) (eq_or_not n f.i);
      }

  naming_inverted : (n : ℕ) → naming_of (at q n) ≡ naming_of (at p n)
  naming_inverted n = ⊎_elim (λ (e : n ≡ f.i). rw (e, at_i f, f.branch_at)) (λ ne. ⊎_elim (λ (e : n ≡ f.j). rw (e, at_j f, f.jump_at)) (λ ne'. rw (at_else f n ne ne')) (eq_or_not n f.j)) (eq_or_not n f.i)

  -- between the branch and the label stands the jump, and what is quiet
  between : (P : Stmt → Type 0) → P (instr f.jump.form f.jump.args f.jump.carried) → ((s : Stmt) → insignificant s ≡ true → P s) → (n : ℕ) → f.i < n → n < f.m → P (at p n)
  between P a b n x y = ⊎_elim (λ (e : n ≡ f.j). rw (e, f.jump_at) a) (λ ne. b (at p n) (quiet f n x y ne)) (eq_or_not n f.j)

  -- labels stay
  labels_stay : (d l : ℕ) → at p d ≡ label l → (at q d ≡ label l) × ((d ≤ f.i) ⊎ (f.m ≤ d))
  labels_stay d l s = (
    at_else f d (λ e. clash (let h : at p d ≡ at p f.i = ap (at p) e in cc f.branch_at)) (λ e. clash (let h : at p d ≡ at p f.j = ap (at p) e in cc f.jump_at)) ∙ s,
    ⊎_elim (λ a. ⊎_elim (λ b. absurd (between (λ x. x ≡ label l → ⊥) (λ z. clash (cc)) (λ x h z. false_true (sym (ap insignificant z) ∙ h)) d a b s)) (λ b. inr b) (lt_or_le d f.m)) (λ a. inl a) (lt_or_le f.i d),
  )

  pub fold_inverted : Fold p q
  unfolding change_inverted
  fold_inverted =
      record {
        c = change_inverted f;
        step = invert f;
        good = f.good;
        old_form = f.from;
        old_args = f.b.args;
        old_carried = f.b.carried;
        old_at = f.branch_at;
        asks = opposed.asks;
        asks_too = opposed.asks_too;
        same_event = event_aimed f.i f.from f.to (λ old. last_of f.jump.args) f.b.args f.from_transfers f.to_transfers opposed.same;
        as_many = length_on_last (λ old. last_of f.jump.args) f.b.args;
        same_size = f.same_size;
        jumps_on = unconditional_jumps f.jump.form f.isjump;
        inner_out = inner_outside p f.i f.m f.none_between;
        v_in = omega (arith, label_inside p f.m f.n f.label_at);
        org_out = λ d l e. ⊎_elim (λ a. ⊎_elim (λ b. absurd (between (λ s. s ≡ org l → ⊥) (λ z. clash (cc)) (λ s h z. false_true (sym (ap insignificant z) ∙ h)) d a b e)) (λ b. inr b) (lt_or_le d f.m)) (λ a. inl a) (lt_or_le f.i d);
        no_not1 = between (λ s. is_form not1 s ≡ false) (unconditional_not1 f.jump.form f.isjump) quiet_not1;
        kin = kin_inverted;
        kept_too = λ v n l d a s z. labels_stay d l s;
        moving = λ n e ne l w. ap (λ (ks : List Key). holds_label ks (context_at p n) e) (moving_same p q (step_length p q (invert f)) kin_inverted.enters naming_inverted);
      }

  module _ {p₀ : Program} {m : Machine} (r : Resolved p₀ p m) where
    pub inverted_alike : (m' : Machine) × Resolved p₀ q m' × ((d : ℕ) → Start p₀ q d → Start p₀ p d × Follows m m' d)
    unfolding fold_inverted change_inverted
    inverted_alike = (folded r fold_inverted, fold_resolved r fold_inverted, λ d s. (start_was r fold_inverted d s, fold_alike r fold_inverted comes d (start_out r fold_inverted d s)))
      where
        to_m : old_to r fold_inverted ≡ here f.m
        to_m =
            branch_lands r f.i f.m f.n (last_of f.b.args) (old_to r fold_inverted) (old_lands r fold_inverted) f.bare f.label_at
            (steady p f.i f.m (omega (arith, ij f, jm f)) (steady_to f))

        to_jump : (o : Oracle) (s : State) → s.spot ≡ here (suc f.i) → steps o m s ≡ on (event f.j f.jump.form f.jump.args).place (record { spot = aim r fold_inverted; left = s.left; met = s.met })
        to_jump o s e =
            let d = jump_deed r fold_inverted in
            let there : deed m f.j ≡ act jumps (event f.j f.jump.form f.jump.args) (taken_on f.jump.form) d.to = d.is ∙ rw (unconditional_jumps f.jump.form f.isjump) in
            steps_found m (suc f.i) o f.j (ij f) (λ n a b. quiet_pass r n (next_before p (suc f.i) f.j f.j_is n a b)) (ap is_pass there) s e
            ∙ ap (λ (x : Deed). does o f.j x s) there

        comes : (z : Bool) → Lined m (folded r fold_inverted) f.i f.m (cond (same_test z (taken_on f.to)) (aim r fold_inverted) (here (suc f.i))) (cond (same_test z (taken_on f.from)) (old_to r fold_inverted) (here (suc f.i)))
            ⊎ ((j : ℕ) × (g : Spot) × Lined m (folded r fold_inverted) f.i f.m (cond (same_test z (taken_on f.to)) (aim r fold_inverted) (here (suc f.i))) g
            × ((o : Oracle) (s : State) → s.spot ≡ cond (same_test z (taken_on f.from)) (old_to r fold_inverted) (here (suc f.i)) → steps o m s ≡ on j (record { spot = g; left = s.left; met = s.met })))
        comes z = rw (opposed.opposite, same_not z (taken_on f.from)) (split (same_test z (taken_on f.from)))
          where
            split : (b : Bool) → Lined m (folded r fold_inverted) f.i f.m (cond (not b) (aim r fold_inverted) (here (suc f.i))) (cond b (old_to r fold_inverted) (here (suc f.i)))
                ⊎ ((j : ℕ) × (g : Spot) × Lined m (folded r fold_inverted) f.i f.m (cond (not b) (aim r fold_inverted) (here (suc f.i))) g
                × ((o : Oracle) (s : State) → s.spot ≡ cond b (old_to r fold_inverted) (here (suc f.i)) → steps o m s ≡ on j (record { spot = g; left = s.left; met = s.met })))
            split true = inl (rw to_m hollowed)
            split false = inr ((event f.j f.jump.form f.jump.args).place, aim r fold_inverted, lined (onward r fold_inverted).1, to_jump)
