-- The first place that a rewrite changes is its own: what it drops stands behind it, and another form or target stands there.
use mathlib.Core.Path.{◌≡◌, refl, sym, ap, ap₂, ◌∙◌}
use mathlib.Core.List.{List}
use mathlib.Core.Bool.{Bool, true, false, not, cond}
use mathlib.Core.Logic.{⊎_elim}
use Prim.Native.Nat.{ℕ, ◌≤◌, ◌<◌}
use native.Mathlib.Omega.{arith}
use lib.Dec.{eqb}
use lib.ListN.{length, set}
use lib.Seq.{get_or-set_same, get_or-set_other}
use borrow.Author.Tests.{eq-eqb, ne_eqb}
use Rattle.laws.specs.Lists.{total}
use Rattle.laws.specs.Counts.{scan}
use Rattle.laws.proofs.Tests.{and_both, first_false, second_false, both_ways, lt_or_le, true_false}
use Rattle.laws.proofs.Counts.{scan_true, scan_least}
use Rattle.laws.proofs.Lists.{total_two_any, total_one, total_none}
use Rattle.rules.specs.Forms.{form_at, is_transfer}
use Rattle.rules.specs.Programs.{Placeℕ, Operand, Stmt, gone, instr, Program, at}
use Rattle.rules.specs.Rewriting.{aimed, drop_all, anchor}
use Rattle.rules.proofs.Laws.{by_instr, other}
use Rattle.promises.proofs.Listings.{WellMade}
use Rattle.promises.proofs.Steps.{Inverted, Trampoline, Shrunk, Step}
use Rattle.promises.proofs.Weights.{instr_inside, jump_behind, order}
use Rattle.promises.proofs.Carried.{of_place, of_place_own, of_place_step, of_place_made}
use Rattle.steps.specs.declared.Seat.{Seat}
use Rattle.steps.specs.Steps.{seat_of, same_seat, is_changed, changed_at, changed, rewrite_at, rewrite_of}

-- ---- the first place at which a test holds
pub scan_is : (P : ℕ → Bool) (n i : ℕ) → i < n → P i ≡ true → ((k : ℕ) → k < i → P k ≡ false) → scan P n 0 ≡ i
scan_is P n i h t f = ⊎_elim (λ l. both_ways (P (scan P n 0)) (scan_true P n 0 (omega arith)) (f (scan P n 0) l)) from (lt_or_le (scan P n 0) i)
  where
    from : i ≤ scan P n 0 → scan P n 0 ≡ i
    from l = ⊎_elim (λ k. both_ways (P i) t (scan_least P n 0 i (omega arith) k)) (λ k. omega arith) (lt_or_le i (scan P n 0))

-- what is the same is not changed
pub same_seat_lem : (a b : Seat) → a ≡ b → same_seat a b ≡ true
same_seat_lem a b e =
    and_both (eqb a.form b.form) (eqb a.carried b.carried) (eq-eqb a.form b.form (ap (λ (s : Seat). s.form) e))
    (eq-eqb a.carried b.carried (ap (λ (s : Seat). s.carried) e))

unchanged : (a : Seat) → is_changed a a ≡ false
unchanged a = second_false (not (eqb a.form 70)) (not (same_seat a a)) (ap not (same_seat_lem a a refl))

-- another form, or another target
pub other_form : (a b : Seat) → (a.form ≡ 70 → ⊥) → (a.form ≡ b.form → ⊥) → is_changed a b ≡ true
other_form a b n d =
    and_both (not (eqb a.form 70)) (not (same_seat a b)) (ap not (ne_eqb a.form 70 n))
    (ap not (first_false (eqb a.form b.form) (eqb a.carried b.carried) (ne_eqb a.form b.form d)))

other_target : (a b : Seat) → (a.form ≡ 70 → ⊥) → (a.carried ≡ b.carried → ⊥) → is_changed a b ≡ true
other_target a b n d =
    and_both (not (eqb a.form 70)) (not (same_seat a b)) (ap not (ne_eqb a.form 70 n))
    (ap not (second_false (eqb a.form b.form) (eqb a.carried b.carried) (ne_eqb a.carried b.carried d)))

-- a transfer has a form below
not_70 : (f : ℕ) → is_transfer f ≡ true → f ≡ 70 → ⊥
unfolding is_transfer form_at
not_70 f t e = true_false (sym t ∙ ap is_transfer e)

-- ---- of two programs that are the same before place i
module _ (p q : Program) (i : Placeℕ) (a b : Seat) (here : seat_of (at p i) ≡ a) (now : seat_of (at q i) ≡ b) (inside : i < length p)
    (before : (k : Placeℕ) → k < i → at q k ≡ at p k) where
  changed_is : is_changed a b ≡ true → changed p q ≡ i
  unfolding changed
  changed_is c =
      scan_is (changed_at p q) (length p) i inside (ap₂ is_changed here now ∙ c)
      (λ k l. ap (λ (s : Stmt). is_changed (seat_of (at p k)) (seat_of s)) (before k l) ∙ unchanged (seat_of (at p k)))

  rewrite_is : is_changed a b ≡ true → rewrite_of p q ≡ rewrite_at i a b
  unfolding rewrite_of
  rewrite_is c = ap (λ (k : ℕ). rewrite_at k (seat_of (at p k)) (seat_of (at q k))) (changed_is c) ∙ ap₂ (rewrite_at i) here now

-- ---- each rewrite
abbrev seat : (form carried : ℕ) → Seat
seat f c = record { form = f; carried = c }

pub told_inverted : {p q : Program} (f : Inverted p q) → (f.from ≡ f.to → ⊥)
    → rewrite_of p q ≡ rewrite_at f.i (seat f.from f.b.carried) (seat f.to f.jump.carried)
unfolding drop_all
told_inverted {p} {q} f n =
    let new : Stmt = aimed f.to f.b f.jump in
    let p₁ : Program = set p f.i new in
    let behind = jump_behind f in
    let inside = instr_inside p f.i _ _ _ f.branch_at in
    let a = seat f.from f.b.carried in
    let b = seat f.to f.jump.carried in
    let at_i : at q f.i ≡ new =
    ap (λ (r : Program). at r f.i) f.new ∙ get_or-set_other p₁ f.j f.i gone gone (λ e. omega arith) ∙ get_or-set_same p f.i new gone inside in
    rewrite_is p q f.i a b (ap seat_of f.branch_at) (ap seat_of at_i) inside
    (λ k l. ap (λ (r : Program). at r k) f.new ∙ get_or-set_other p₁ f.j k gone gone (λ e. omega arith) ∙ get_or-set_other p f.i k new gone (λ e. omega arith))
    (other_form a b (not_70 f.from f.from_transfers) n)

pub told_shrunk : {p q : Program} (h : Shrunk p q) → (h.x.form ≡ h.f → ⊥)
    → rewrite_of p q ≡ rewrite_at h.i (seat h.x.form h.x.carried) (seat h.f h.x.carried)
told_shrunk {p} {q} h n =
    let new : Stmt = instr h.f h.x.args h.x.carried in
    let inside = instr_inside p h.i _ _ _ h.far_at in
    let a = seat h.x.form h.x.carried in
    let b = seat h.f h.x.carried in
    let at_i : at q h.i ≡ new = ap (λ (r : Program). at r h.i) h.new ∙ get_or-set_same p h.i new gone inside in
    rewrite_is p q h.i a b (ap seat_of h.far_at) (ap seat_of at_i) inside
    (λ k l. ap (λ (r : Program). at r k) h.new ∙ get_or-set_other p h.i k new gone (λ e. omega arith))
    (other_form a b (not_70 h.x.form h.far_transfers) n)

pub told_trampoline : {p q : Program} (f : Trampoline p q) → (f.b.carried ≡ f.last.carried → ⊥)
    → rewrite_of p q ≡ rewrite_at f.i (seat f.f f.b.carried) (seat f.f f.last.carried)
unfolding drop_all
told_trampoline {p} {q} f n =
    let new : Stmt = aimed f.f f.b f.last in
    let p₁ : Program = set p f.i new in
    let p₂ : Program = set p₁ f.j gone in
    let p₃ : Program = set p₂ f.m gone in
    let o = order f in
    let inside = instr_inside p f.i _ _ _ f.branch_at in
    let a = seat f.f f.b.carried in
    let b = seat f.f f.last.carried in
    let first : (k : Placeℕ) → k ≤ f.i → at q k ≡ at p₁ k =
    λ k l.
    (ap (λ (r : Program). at r k) f.new ∙ get_or-set_other p₃ f.u k gone gone (λ e. omega (arith, o.ij, o.jm, o.mu))
    ∙ get_or-set_other p₂ f.m k gone gone (λ e. omega (arith, o.ij, o.jm)) ∙ get_or-set_other p₁ f.j k gone gone (λ e. omega (arith, o.ij))) in
    rewrite_is p q f.i a b (ap seat_of f.branch_at) (ap seat_of (first f.i (omega arith) ∙ get_or-set_same p f.i new gone inside)) inside
    (λ k l. first k (omega arith) ∙ get_or-set_other p f.i k new gone (λ e. omega arith))
    (other_target a b (not_70 f.f f.transfers) n)

-- ---- no target is carried twice
abbrev pub Once : Program → Type 0
Once p = (c : Placeℕ) → total (of_place c) p ≤ 1

pub once_step : (p q : Program) → Step p q → Once p → Once q
once_step p q s h c = omega (arith, of_place_step c p q s, h c)

-- two that stand apart carry two
once_apart : (p : Program) (i u : Placeℕ) (f g c d : ℕ) (xs ys : List Operand) → Once p → (u ≡ i → ⊥) → at p i ≡ instr f xs c → at p u ≡ instr g ys d → c ≡ d → ⊥
once_apart p i u f g c d xs ys h n a b e =
    let one : of_place c (at p i) ≡ 1 = ap (of_place c) a ∙ of_place_own c f xs in
    let two : of_place c (at p u) ≡ 1 = ap (of_place c) b ∙ ap (λ (z : ℕ). of_place c (instr g ys z)) (sym e) ∙ of_place_own c g ys in
    omega (arith, h c, one, two, total_two_any (of_place c) p i u gone refl (λ z. n (sym z)))

pub once_trampoline : {p q : Program} (f : Trampoline p q) → Once p → f.b.carried ≡ f.last.carried → ⊥
once_trampoline {p} f h =
    let o = order f in
    once_apart p f.i f.u f.f f.last.form f.b.carried f.last.carried f.b.args f.last.args h (λ e. omega (arith, o.ij, o.jm, o.mu)) f.branch_at f.last_at

-- as it was read, and anchored, each carries its own
pub once_made : (p : Program) → WellMade p → Once (anchor p)
once_made p w c = ⊎_elim inside (λ l. omega (arith, total_none (of_place c) (anchor p) gone (λ j m. of_place_made p w c j (λ e. omega arith)))) (lt_or_le c (length (anchor p)))
  where
    at_most : (s : Stmt) → of_place c s ≤ 1
    at_most = by_instr (λ s. of_place c s ≤ 1) (λ f xs d. one (eqb c d)) (λ s n. omega (arith, other {X = ℕ} 0 (λ x. cond (eqb c x.carried) 1 0) s n))
      where
        one : (b : Bool) → cond b 1 0 ≤ 1
        one true = omega arith
        one false = omega arith

    inside : c < length (anchor p) → total (of_place c) (anchor p) ≤ 1
    inside l = omega (arith, total_one (of_place c) (anchor p) c gone l (λ j m n. of_place_made p w c j n), at_most (at (anchor p) c))
