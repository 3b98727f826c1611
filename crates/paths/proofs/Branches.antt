-- The label that a branch names bare, and what stands between a branch and the label of its pattern.
use mathlib.Core.Path.{◌≡◌, refl, sym, ◌∙◌, ap}
use mathlib.Core.Bool.{true, false}
use Prim.Native.Nat.{ℕ}
use Rattle.laws.proofs.Tests.{false_true, true_false, clash}
use Rattle.rules.specs.Expressions.{name}
use Rattle.rules.specs.Forms.{not1}
use Rattle.rules.specs.Programs.{Operand, value, Stmt, gone, instr, label, variable, comment, org, bytes, words, pad, Program, at, is_form}
use Rattle.rules.specs.Names.{context_at, key_of}
use Rattle.walk.proofs.Moves.{label_moves}
use Rattle.rules.specs.Rewriting.{holds_label, moving_of, insignificant}
use Rattle.paths.specs.Walk.{Spot, here, is_name_in, label_names}
use Rattle.paths.proofs.Machines.{Machine}
use Rattle.paths.proofs.Names.{kin_label}
use Rattle.paths.proofs.Standing.{own, stands_seen}
use Rattle.paths.proofs.Resolves.{Lands, named, first, padded, middle, void, unaddressed, computing, Resolved, label_alone}

moves_there : {p₀ p : Program} {m : Machine} → Resolved p₀ p m → (n a t : ℕ) → at p a ≡ label t → context_at p a ≡ context_at p n → holds_label (moving_of p₀) (context_at p n) (name t) ≡ true
moves_there {p₀} {p} r n a t s k =
    label_moves p₀ a t (context_at p n) (kin_label p₀ p r.kin a t s) (ap (λ (y : ℕ). key_of y t) (sym (r.contexts a) ∙ k))

pub quiet_not1 : (s : Stmt) → insignificant s ≡ true → is_form not1 s ≡ false
quiet_not1 gone e = refl
quiet_not1 (instr f xs c) e = false_true e
quiet_not1 (label n) e = refl
quiet_not1 (variable n d) e = refl
quiet_not1 (comment x) e = refl
quiet_not1 (org l) e = refl
quiet_not1 (bytes es) e = refl
quiet_not1 (words es) e = refl
quiet_not1 (pad add m) e = refl

-- the label that a branch names, met in its context
pub branch_lands : {p₀ p : Program} {m : Machine} → Resolved p₀ p m → (n a t : ℕ) (x : Operand) (g : Spot) → Lands p₀ p (context_at p n) x g → x ≡ value (name t) → at p a ≡ label t → context_at p a ≡ context_at p n → g ≡ here a
branch_lands {p₀} {p} r n a t x g (named {n = l} {b = b} {d = d} e) h s k =
    let same : l ≡ t = cc in
    let key : key_of (context_at p n) l ≡ key_of (context_at p a) t = ap (λ (y : ℕ). key_of (context_at p n) y) same ∙ ap (λ (y : ℕ). key_of y t) (sym k) in
    ap here (label_alone r a t s (rw key at e))
branch_lands r n a t x g first h s k = clash (cc)
branch_lands r n a t x g (padded e) h s k = clash (cc)
branch_lands r n a t x g (middle e) h s k = clash (cc)
branch_lands {p₀} {p} r n a t x g (void {e = y} _ e w v) h s k = let z : y ≡ name t = cc in true_false (sym (moves_there r n a t s k) ∙ ap (holds_label (moving_of p₀) (context_at p n)) (sym z) ∙ e)
branch_lands {p₀} {p} r n a t x g (unaddressed {e = y} _ e w) h s k = let z : y ≡ name t = cc in true_false (sym (moves_there r n a t s k) ∙ ap (holds_label (moving_of p₀) (context_at p n)) (sym z) ∙ e)
branch_lands {p₀} {p} r n a t x g (computing {e = y} m e) h s k =
    let z : y ≡ name t = cc in
    true_false (sym (stands_seen p₀ (own a t (kin_label p₀ p r.kin a t s) (ap (λ (y : ℕ). key_of y t) (sym (r.contexts a) ∙ k)))) ∙ ap (is_name_in (label_names p₀) (context_at p n)) (sym z) ∙ e)
