-- The rewrites one by one: a fold by its own page, a shrink here. Each leaves a program whose machine walks as the old one's, in no more steps.
use mathlib.Core.Path.{◌≡◌, refl, sym, ◌∙◌, ap}
use mathlib.Core.Logic.{◌⊎◌, inl, inr, ⊎_elim, ◌≢◌}
use mathlib.Core.Bool.{Bool, true, false, ◌&&◌}
use Prim.Native.Nat.{ℕ}
use native.Mathlib.Omega.{arith}
use lib.Dec.{eqb}
use lib.Seq.{get_or-set_other, get_or-set_same}
use borrow.Author.Tests.{eqb-true}
use Rattle.laws.proofs.Tests.{clash, eq_or_not, and_true, or_true}
use Rattle.rules.specs.Forms.{is_unconditional, callf}
use Rattle.rules.specs.Programs.{Operand, Stmt, gone, instr, Program, at}
use Rattle.rules.specs.Names.{context_at}
use Rattle.promises.proofs.Steps.{Shrunk, Step, invert, bounce, shrink}
use Rattle.promises.proofs.Weights.{instr_inside, step_length}
use Rattle.walk.proofs.Machines.{Machine, deed}
use Rattle.walk.proofs.Links.{branch_on, Matches, is_jump}
use Rattle.walk.proofs.Resolves.{Lands, named, anchored, Resolved, matches_map, jump_deed, test_deed, same_context}
use Rattle.walk.proofs.Alikes.{Alike, alike_same}
use Rattle.walk.proofs.Inverts.{inverted_alike}
use Rattle.walk.proofs.Bounces.{bounced_alike}

-- ---- a shrink: the same machine
module _ {p q : Program} (f : Shrunk p q) {m : Machine} (r : Resolved p m) where
  abbrev short : Stmt
  short = instr f.f f.x.args f.x.carried

  shrunk_i : at q f.i ≡ short
  shrunk_i = rw f.new (get_or-set_same p f.i short gone (instr_inside p f.i _ _ _ f.far_at))

  shrunk_else : (n : ℕ) → n ≢ f.i → at q n ≡ at p n
  shrunk_else n ne = rw f.new (get_or-set_other p f.i n short gone ne)

  shrunk_contexts : (n : ℕ) → context_at q n ≡ context_at p n
  shrunk_contexts = same_context p q (λ n k. ⊎_elim (λ (e : n ≡ f.i). rw (e, shrunk_i, f.far_at)) (λ ne. rw (shrunk_else n ne)) (eq_or_not n f.i))

  shrunk_lands : (k : ℕ) (x : Operand) (d : ℕ) → Lands p k x d → Lands q k x d
  shrunk_lands k x d (named {n = l} e z) =
      named (shrunk_else d (λ y. clash (let h : at p d ≡ at p f.i = ap (at p) y in cc f.far_at)) ∙ e) (rw (shrunk_contexts d) z)
  shrunk_lands k x d anchored = anchored

  callf_plain : is_unconditional callf ≡ false
  callf_plain = refl

  shrunk_all : (n : ℕ) → Matches (Lands q (context_at q n)) (at q n) (deed m n)
  shrunk_all n =
      rw (shrunk_contexts n)
      (⊎_elim (λ (e : n ≡ f.i). rw (e, shrunk_i) (here (or_true (is_unconditional f.x.form && is_unconditional f.f) (eqb f.x.form callf) f.jump_or_call)))
      (λ ne. rw (shrunk_else n ne) (matches_map (λ x d l. shrunk_lands (context_at p n) x d l) (r.all n))) (eq_or_not n f.i))
    where
      here : (is_unconditional f.x.form && is_unconditional f.f ≡ true) ⊎ (eqb f.x.form callf ≡ true) → Matches (Lands q (context_at p f.i)) short (deed m f.i)
      here (inl u) =
          let h = and_true (is_unconditional f.x.form) (is_unconditional f.f) u in
          let j = jump_deed f.x.form f.x.args f.x.carried (r.all f.i) f.far_at h.0 in
          rw j.1 (is_jump h.1 (shrunk_lands (context_at p f.i) _ j.0 j.2))
      here (inr e) =
          let z : f.x.form ≡ callf = eqb-true f.x.form callf e in
          let t = test_deed f.x.form f.x.args f.x.carried (r.all f.i) f.far_at f.far_transfers (ap is_unconditional z ∙ callf_plain) in
          absurd (no_branch t.0 (sym z ∙ t.2))
        where
          no_branch : (w : Bool) → callf ≡ branch_on w → ⊥
          no_branch true e = omega arith
          no_branch false e = omega arith

  shrunk_resolved : Resolved q m
  shrunk_resolved = record { good = f.good; as_long = r.as_long ∙ sym (step_length p q (shrink f)); all = shrunk_all }

-- ---- any rewrite
pub step_alike : (p q : Program) (m : Machine) → Step p q → Resolved p m → (m' : Machine) × Resolved q m' × Alike m m'
step_alike p q m (invert f) r = inverted_alike f r
step_alike p q m (bounce f) r = bounced_alike f r
step_alike p q m (shrink f) r = (m, shrunk_resolved f r, alike_same m)
