-- What a rewrite does to a sum over the statements: what it takes away and what it puts there, for any weight that a gone slot does not have.
use mathlib.Core.Path.{◌≡◌, ◌∙◌, ap}
use mathlib.Core.List.{List}
use mathlib.Core.Bool.{not}
use Prim.Native.Nat.{ℕ, suc, ◌+◌, ◌-◌, ◌≤◌, ◌<◌}
use native.Mathlib.Omega.{arith}
use lib.ListN.{length, set, length-set}
use lib.Seq.{get_or-set_other}
use Rattle.laws.specs.Lists.{total}
use Rattle.laws.proofs.Tests.{clash}
use Rattle.laws.proofs.Stores.{get_in}
use Rattle.laws.proofs.Lists.{total_set}
use Rattle.laws.proofs.Counts.{scan_bound}
use Rattle.rules.specs.Programs.{Placeℕ, Operand, Stmt, gone, instr, label, Program, at}
use Rattle.rules.specs.Rewriting.{insignificant, next, aimed, drop_all}
use Rattle.promises.proofs.Steps.{Inverted, Trampoline, Shrunk, Step, invert, bounce, shrink}

-- where an instruction or a label stands is inside
pub instr_inside : (p : Program) (i : Placeℕ) (f : ℕ) (xs : List Operand) (c : Placeℕ) → at p i ≡ instr f xs c → i < length p
instr_inside p i f xs c e = get_in p i gone (λ g. clash (cc))

-- a label too
pub label_inside : (p : Program) (i : Placeℕ) (n : ℕ) → at p i ≡ label n → i < length p
label_inside p i n e = get_in p i gone (λ g. clash (cc))

-- the next significant place is not before
pub next_from : (p : Program) (i : Placeℕ) → i ≤ next p i
unfolding next
next_from p i = (scan_bound (λ j. not (insignificant (at p j))) (length p - i) i).0

-- ---- an inverted fold
module _ {p q : Program} (f : Inverted p q) where
  abbrev pub placed₁ : Stmt
  placed₁ = aimed f.to f.b f.jump

  -- the unconditional stands behind the branch
  pub jump_behind : f.i < f.j
  jump_behind = omega (arith, f.j_is, next_from p (suc f.i))

  -- the branch and the unconditional go, the new branch comes
  pub weigh_inverted : (w : Stmt → ℕ) → w gone ≡ 0 → total w q + (w (at p f.i) + w (at p f.j)) ≡ total w p + w placed₁
  unfolding drop_all
  weigh_inverted w z =
      let p₁ : Program = set p f.i placed₁ in
      let i_in = instr_inside p f.i _ _ _ f.branch_at in
      let j_in : f.j < length p₁ = rw length-set (instr_inside p f.j _ _ _ f.jump_at) in
      let same : w (at p₁ f.j) ≡ w (at p f.j) = ap w (get_or-set_other p f.i f.j placed₁ gone (λ e. omega (arith, jump_behind))) in
      rw f.new (omega (arith, total_set w p f.i placed₁ gone i_in, total_set w p₁ f.j gone gone j_in, same, z))

-- ---- a trampoline
module _ {p q : Program} (f : Trampoline p q) where
  abbrev pub placed₂ : Stmt
  placed₂ = aimed f.f f.b f.last

  pub record Order : Type 0 where
    pub ij : f.i < f.j
    pub jm : f.j < f.m
    pub mu : f.m < f.u
    pub uv : f.u < f.v

  -- the places of a trampoline, in order
  pub order : Order
  order =
      record {
        ij = omega (arith, f.j_is, next_from p (suc f.i));
        jm = omega (arith, f.m_is, next_from p (suc f.j));
        mu = omega (arith, f.u_is, next_from p (suc f.m));
        uv = omega (arith, f.v_is, next_from p (suc f.u));
      }

  -- the branch, both unconditionals and T go, the new branch comes
  pub weigh_trampoline : (w : Stmt → ℕ) → w gone ≡ 0
      → total w q + (w (at p f.i) + w (at p f.j) + w (at p f.m) + w (at p f.u)) ≡ total w p + w placed₂
  unfolding drop_all
  weigh_trampoline w z =
      let o = order in
      let p₁ : Program = set p f.i placed₂ in
      let p₂ : Program = set p₁ f.j gone in
      let p₃ : Program = set p₂ f.m gone in
      let i_in = instr_inside p f.i _ _ _ f.branch_at in
      let j_in : f.j < length p₁ = rw length-set (instr_inside p f.j _ _ _ f.skip_at) in
      let m_in : f.m < length p₂ = simp length-set (label_inside p f.m _ f.t_at) in
      let u_in : f.u < length p₃ = simp length-set (instr_inside p f.u _ _ _ f.last_at) in
      let j_same : w (at p₁ f.j) ≡ w (at p f.j) = ap w (get_or-set_other p f.i f.j placed₂ gone (λ e. omega arith)) in
      let m_same : w (at p₂ f.m) ≡ w (at p f.m) =
      ap w (get_or-set_other p₁ f.j f.m gone gone (λ e. omega arith) ∙ get_or-set_other p f.i f.m placed₂ gone (λ e. omega arith)) in
      let u_same : w (at p₃ f.u) ≡ w (at p f.u) =
      ap w (get_or-set_other p₂ f.m f.u gone gone (λ e. omega arith) ∙ get_or-set_other p₁ f.j f.u gone gone (λ e. omega arith)
      ∙ get_or-set_other p f.i f.u placed₂ gone (λ e. omega arith)) in
      rw f.new
      (omega (arith, total_set w p f.i placed₂ gone i_in, total_set w p₁ f.j gone gone j_in, total_set w p₂ f.m gone gone m_in, total_set w p₃ f.u gone gone u_in))

-- ---- a shrink
module _ {p q : Program} (h : Shrunk p q) where
  -- the long form goes, the short one comes
  pub weigh_shrunk : (w : Stmt → ℕ) → total w q + w (at p h.i) ≡ total w p + w (instr h.f h.x.args h.x.carried)
  weigh_shrunk w = rw h.new (total_set w p h.i (instr h.f h.x.args h.x.carried) gone (instr_inside p h.i _ _ _ h.far_at))

-- ---- places stay: a rewrite only sets slots
pub step_length : (p q : Program) → Step p q → length q ≡ length p
unfolding drop_all
step_length p q (invert f) = rw f.new (simp length-set)
step_length p q (bounce f) = rw f.new (simp length-set)
step_length p q (shrink h) = rw h.new (simp length-set)
