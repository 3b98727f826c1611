-- An anchored target survives every rewrite: one transfer of the end form carries it, and no other carries anything of the same statement.
use mathlib.Core.Path.{◌≡◌, refl, sym, ◌∙◌, ap}
use mathlib.Core.Logic.{◌≢◌}
use mathlib.Core.List.{List}
use mathlib.Core.Bool.{Bool, true, false, ◌&&◌, cond}
use Prim.Native.Nat.{ℕ, zero, suc, ◌≤◌}
use native.Mathlib.Omega.{arith}
use lib.Dec.{eqb}
use borrow.Author.Tests.{eqb-true, eq-eqb, ne_eqb}
use Rattle.laws.specs.Lists.{total}
use Rattle.laws.proofs.Tests.{and_true}
use Rattle.rules.specs.Expressions.{name}
use Rattle.rules.specs.Forms.{is_transfer}
use Rattle.rules.specs.Programs.{Placeℕ, Operand, register, value, inner, Stmt, gone, instr, label, variable, comment, org, bytes, words, Program, at, on_instr, last_of, on_last, retarget, pad}
use Rattle.rules.specs.Rewriting.{anchor, aimed}
use Rattle.promises.specs.Demand3.{aims_at, carries}
use Rattle.rules.proofs.Laws.{by_instr, by_change, other}
use Rattle.promises.proofs.Looks.{last_of_put}
use Rattle.promises.proofs.Steps.{Step, invert, bounce, shrink}
use Rattle.promises.proofs.Weights.{weigh_inverted, weigh_trampoline, weigh_shrunk}
use Rattle.promises.proofs.Shorter.{unconditional_transfers}
use Rattle.promises.proofs.Anchors.{at_anchor, anchored_keeps, anchor_in}
use Rattle.promises.proofs.Listings.{WellMade, made_instr}

-- ---- carriers of one target
-- what a transfer of form f weighs
carries_is : (c s o f : ℕ) (xs : List Operand) (d : Placeℕ) (x : Operand) → is_transfer f ≡ true → last_of xs ≡ x → carries c s o (instr f xs d) ≡ cond (aims_at s o x && eqb c d) 1 0
carries_is c s o f xs d x t e = rw (t, e)

-- a bare name is no inner label
carries_bare : (c s o f : ℕ) (xs : List Operand) (d n : ℕ) → is_transfer f ≡ true → last_of xs ≡ value (name n) → carries c s o (instr f xs d) ≡ 0
carries_bare c s o f xs d n t e = carries_is c s o f xs d (value (name n)) t e

-- what a carrier looks like
pub record Carrier (i s o : ℕ) (x : Stmt) : Type 0 where
  pub form : ℕ
  pub args : List Operand
  pub is : x ≡ instr form args i
  pub transfers : is_transfer form ≡ true
  pub target_is : last_of args ≡ inner s o

-- what weighs 1 is one
pub carrier : (c s o : ℕ) (x : Stmt) → 1 ≤ carries c s o x → Carrier c s o x
carrier c s o gone h = absurd (omega arith)
carrier c s o (instr f xs d) h = on (is_transfer f) refl (last_of xs) refl h
  where
    found : (i e : ℕ) → is_transfer f ≡ true → last_of xs ≡ inner i e → (b : Bool) → (eqb s i && eqb o e) && eqb c d ≡ b → 1 ≤ cond b 1 0 → Carrier c s o (instr f xs d)
    found i e t l true k h =
        let u = and_true (eqb s i && eqb o e) (eqb c d) k in
        let v = and_true (eqb s i) (eqb o e) u.0 in
        record {
          form = f;
          args = xs;
          is = rw (eqb-true c d u.1);
          transfers = t;
          target_is = l ∙ cc (eqb-true s i v.0, eqb-true o e v.1);
        }
    found i e t l false k h = absurd (omega arith)

    on : (t : Bool) → is_transfer f ≡ t → (x : Operand) → last_of xs ≡ x → 1 ≤ cond (t && (aims_at s o x && eqb c d)) 1 0 → Carrier c s o (instr f xs d)
    on false t x l h = absurd (omega arith)
    on true t (register r) l h = absurd (omega arith)
    on true t (value e) l h = absurd (omega arith)
    on true t (inner i e) l h = found i e t l ((eqb s i && eqb o e) && eqb c d) refl h
carrier c s o (label n) h = absurd (omega arith)
carrier c s o (variable n e) h = absurd (omega arith)
carrier c s o (comment x) h = absurd (omega arith)
carrier c s o (org l) h = absurd (omega arith)
carrier c s o (bytes es) h = absurd (omega arith)
carrier c s o (words es) h = absurd (omega arith)
carrier c s o (pad add m) h = absurd (omega arith)

-- a rewrite keeps their number: the branch holds a bare name and takes the target that the dropped unconditional held
pub carries_step : (c s o : ℕ) (p q : Program) → Step p q → total (carries c s o) q ≡ total (carries c s o) p
carries_step c s o p q (invert f) =
    let w = carries c s o in
    let x : Operand = last_of f.jump.args in
    let old : w (at p f.i) ≡ 0 = ap w f.branch_at ∙ carries_bare c s o f.from f.b.args f.b.carried f.n f.from_transfers f.bare in
    let moved : w (at p f.j) ≡ cond (aims_at s o x && eqb c f.jump.carried) 1 0 =
    ap w f.jump_at ∙ carries_is c s o f.jump.form f.jump.args f.jump.carried x (unconditional_transfers f.jump.form f.isjump) refl in
    let new : w (aimed f.to f.b f.jump) ≡ cond (aims_at s o x && eqb c f.jump.carried) 1 0 =
    carries_is c s o f.to (on_last (λ old. x) f.b.args) f.jump.carried x f.to_transfers (last_of_put x (name f.n) f.b.args f.bare) in
    omega (arith, weigh_inverted f w refl)
carries_step c s o p q (bounce f) =
    let w = carries c s o in
    let x : Operand = last_of f.last.args in
    let old : w (at p f.i) ≡ 0 = ap w f.branch_at ∙ carries_bare c s o f.f f.b.args f.b.carried f.t f.transfers f.bare in
    let skipped : w (at p f.j) ≡ 0 =
    ap w f.skip_at ∙ carries_bare c s o f.skip.form f.skip.args f.skip.carried f.s (unconditional_transfers f.skip.form f.skips) f.skip_bare in
    let dropped : w (at p f.m) ≡ 0 = ap w f.t_at in
    let moved : w (at p f.u) ≡ cond (aims_at s o x && eqb c f.last.carried) 1 0 =
    ap w f.last_at ∙ carries_is c s o f.last.form f.last.args f.last.carried x (unconditional_transfers f.last.form f.isjump) refl in
    let new : w (aimed f.f f.b f.last) ≡ cond (aims_at s o x && eqb c f.last.carried) 1 0 =
    carries_is c s o f.f (on_last (λ old. x) f.b.args) f.last.carried x f.transfers (last_of_put x (name f.t) f.b.args f.bare) in
    omega (arith, weigh_trampoline f w refl)
carries_step c s o p q (shrink h) =
    let w = carries c s o in
    let x : Operand = last_of h.x.args in
    let old : w (at p h.i) ≡ cond (aims_at s o x && eqb c h.x.carried) 1 0 =
    ap w h.far_at ∙ carries_is c s o h.x.form h.x.args h.x.carried x h.far_transfers refl in
    let new : w (instr h.f h.x.args h.x.carried) ≡ cond (aims_at s o x && eqb c h.x.carried) 1 0 =
    carries_is c s o h.f h.x.args h.x.carried x h.transfers refl in
    omega (arith, weigh_shrunk h w)

-- ---- instructions that carry anything of place c
abbrev pub of_place : (c : Placeℕ) → Stmt → ℕ
of_place c s = on_instr 0 (λ x. cond (eqb c x.carried) 1 0) s

-- its own
pub of_place_own : (c f : ℕ) (xs : List Operand) → of_place c (instr f xs c) ≡ 1
of_place_own c f xs = rw (eq-eqb c c refl)

-- a change of operands leaves it
pub of_place_retarget : (c : Placeℕ) (f : Operand → Operand) (s : Stmt) → of_place c (retarget f s) ≡ of_place c s
of_place_retarget c f s = by_change (λ s t. of_place c t ≡ of_place c s) (λ x. instr x.form (on_last f x.args) x.carried) (λ g xs d. refl) (λ s n. refl) s

-- a rewrite makes none
pub of_place_step : (c : Placeℕ) (p q : Program) → Step p q → total (of_place c) q ≤ total (of_place c) p
of_place_step c p q (invert f) =
    let moved : of_place c (at p f.j) ≡ of_place c (aimed f.to f.b f.jump) = ap (of_place c) f.jump_at in
    omega (arith, weigh_inverted f (of_place c) refl)
of_place_step c p q (bounce f) =
    let moved : of_place c (at p f.u) ≡ of_place c (aimed f.f f.b f.last) = ap (of_place c) f.last_at in
    omega (arith, weigh_trampoline f (of_place c) refl)
of_place_step c p q (shrink h) =
    let same : of_place c (at p h.i) ≡ of_place c (instr h.f h.x.args h.x.carried) = ap (of_place c) h.far_at in
    omega (arith, weigh_shrunk h (of_place c))

-- in what was read, and so in what is anchored, only place c has one
pub of_place_made : (p : Program) → WellMade p → (c j : Placeℕ) → j ≢ c → of_place c (at (anchor p) j) ≡ 0
of_place_made p w c j n = ap (of_place c) (at_anchor p j) ∙ anchored_keeps (λ s. of_place c s ≡ 0) p j (of_place_retarget c (anchor_in p j) (at p j) ∙ there) there
  where
    on : (s : Stmt) → at p j ≡ s → of_place c s ≡ 0
    on =
        by_instr (λ s. at p j ≡ s → of_place c s ≡ 0)
        (λ f xs d e. let own = (made_instr p w j f xs d e).0 in rw (ne_eqb c d (λ z. n (sym (z ∙ own)))))
        (λ s k e. other 0 (λ x. cond (eqb c x.carried) 1 0) s k)

    there : of_place c (at p j) ≡ 0
    there = on (at p j) refl

-- a carrier of a target is one of its place
pub carries_of_place : (c s o : ℕ) (x : Stmt) → carries c s o x ≤ of_place c x
carries_of_place c s o x = on (carries c s o x) refl
  where
    on : (n : ℕ) → carries c s o x ≡ n → carries c s o x ≤ of_place c x
    on zero e = omega arith
    on (suc n) e =
        let k = carrier c s o x (omega arith) in
        let one : of_place c x ≡ 1 = ap (of_place c) k.is ∙ of_place_own c k.form k.args in
        omega (arith, most (is_transfer k.form && (aims_at s o (last_of k.args) && eqb c c)), ap (carries c s o) k.is)
      where
        most : (b : Bool) → cond b 1 0 ≤ 1
        most true = omega arith
        most false = omega arith
