-- Each rewrite drops an instruction byte.
use mathlib.Core.Path.{◌≡◌, refl, ap}
use mathlib.Core.Logic.{◌⊎◌, inl, inr, ⊎_elim}
use mathlib.Core.Option.{some}
use mathlib.Core.Bool.{true, ◌||◌}
use Prim.Native.Nat.{ℕ, ◌≤◌, ◌<◌}
use native.Mathlib.Omega.{arith}
use lib.Dec.{eqb}
use borrow.Author.Tests.{eqb-true}
use Rattle.laws.specs.Lists.{total}
use Rattle.laws.proofs.Tests.{or_true}
use Rattle.rules.specs.declared.Settings.{Settings}
use Rattle.rules.specs.Forms.{size_at, form_at, is_unconditional, is_transfer, br, jmp, jmpf}
use Rattle.rules.specs.Programs.{Program, at}
use Rattle.rules.specs.Rewriting.{step, instr_bytes}
use Rattle.promises.proofs.Steps.{Step, invert, bounce, shrink, step_some}
use Rattle.promises.proofs.Weights.{weigh_inverted, weigh_trampoline, weigh_shrunk}

-- an unconditional is one of three forms
pub unconditional_form : (f : ℕ) → is_unconditional f ≡ true → (f ≡ br) ⊎ ((f ≡ jmp) ⊎ (f ≡ jmpf))
unconditional_form f e =
    ⊎_elim (λ h. inl (eqb-true f br h)) (λ h. inr (⊎_elim (λ k. inl (eqb-true f jmp k)) (λ k. inr (eqb-true f jmpf k)) (or_true (eqb f jmp) (eqb f jmpf) h)))
    (or_true (eqb f br) (eqb f jmp || eqb f jmpf) e)

-- which has two bytes or three, and is a transfer
pub unconditional_size : (f : ℕ) → is_unconditional f ≡ true → 2 ≤ size_at f
unfolding form_at
unconditional_size f e = ⊎_elim (λ h. rw h (omega arith)) (⊎_elim (λ h. rw h (omega arith)) (λ h. rw h (omega arith))) (unconditional_form f e)

-- is a transfer
pub unconditional_transfers : (f : ℕ) → is_unconditional f ≡ true → is_transfer f ≡ true
unfolding is_transfer form_at
unconditional_transfers f e = ⊎_elim (λ h. rw h) (⊎_elim (λ h. rw h) (λ h. rw h)) (unconditional_form f e)

step_falls : (p q : Program) → Step p q → total instr_bytes q < total instr_bytes p
step_falls p q (invert f) =
    let old : instr_bytes (at p f.i) ≡ size_at f.from = ap instr_bytes f.branch_at in
    let dropped : instr_bytes (at p f.j) ≡ size_at f.jump.form = ap instr_bytes f.jump_at in
    omega (arith, weigh_inverted f instr_bytes refl, f.same_size, unconditional_size f.jump.form f.isjump)
step_falls p q (bounce f) =
    let old : instr_bytes (at p f.i) ≡ size_at f.f = ap instr_bytes f.branch_at in
    let dropped : instr_bytes (at p f.j) ≡ size_at f.skip.form = ap instr_bytes f.skip_at in
    omega (arith, weigh_trampoline f instr_bytes refl, unconditional_size f.skip.form f.skips)
step_falls p q (shrink h) =
    let old : instr_bytes (at p h.i) ≡ size_at h.x.form = ap instr_bytes h.far_at in
    omega (arith, weigh_shrunk h instr_bytes, h.smaller)

-- step-shorter: each rewrite drops an instruction byte
pub step_shorter : (asked : Settings) (p q : Program) → step asked p ≡ some q → total instr_bytes q < total instr_bytes p
step_shorter asked p q e = step_falls p q (step_some asked p q e)
