-- C-11: a pad goes up to the least multiple, and no position rises by a rewrite: where a statement comes lower, or gives way to a shorter one, all
-- that follows comes lower too, or as low.
use mathlib.Core.Path.{◌≡◌, refl, ◌∙◌, ap}
use mathlib.Core.Logic.{⊎_elim}
use mathlib.Core.List.{List, [], ◌∷◌}
use Prim.Native.Nat.{ℕ, zero, suc, ◌+◌, ◌-◌, ◌*◌, ◌/◌, ◌%◌, ◌≤◌, ◌<◌}
use native.Mathlib.Nat.{mod-zero, mod-lt, mod_self, mod-eq_of_lt, div-add-mod, mul-suc, mul-mod_right, mul-le-mul_left, lt_of_mul-lt-mul_left}
use native.Mathlib.Omega.{arith}
use lib.ListN.{set}
use lib.Seq.{get_or-set_other}
use Rattle.laws.specs.Lists.{total}
use Rattle.laws.proofs.Tests.{lt_or_le}
use Rattle.rules.specs.declared.Settings.{Settings}
use Rattle.rules.specs.Forms.{size_at}
use Rattle.rules.specs.Programs.{Placeℕ, Addressℕ, Operand, Stmt, gone, instr, label, variable, comment, org, bytes, words, pad, Program, at, up_to, byte_count}
use Rattle.rules.specs.Layout.{after, position_from, position}
use Rattle.rules.specs.Rewriting.{anchor, instr_bytes, drop_all, optimized}
use Rattle.promises.specs.Pads.{LeastMultiple, NeverRises}
use Rattle.promises.proofs.Steps.{Step, invert, bounce, shrink, step_some}
use Rattle.promises.proofs.Weights.{placed₁, jump_behind, placed₂, order}
use Rattle.promises.proofs.Chains.{chain_keeps}
use Rattle.promises.proofs.Positions.{position_same}
use Rattle.promises.proofs.Acceptable.{anchor_room}

-- ---- the least multiple

-- a pad goes up to m times k, and there is no multiple between
record Up (q m : ℕ) : Type 0 where
  k : ℕ
  is : q + up_to q m ≡ m * k
  near : m * k < q + m

up : (q m : ℕ) → 1 ≤ m → Up q m
up q m h = ⊎_elim low high (lt_or_le 0 (q % m))
  where
    whole : m * (q / m) + q % m ≡ q
    whole = div-add-mod q m

    below : q % m < m
    below = mod-lt q (omega (arith, h))

    low : 0 < q % m → Up q m
    low r =
        let z : up_to q m ≡ m - q % m = mod-eq_of_lt (omega (arith, r, h)) in
        let y : m * suc (q / m) ≡ m * (q / m) + m = mul-suc m (q / m) in
        record { k = suc (q / m); is = omega (arith, z, y, whole, below); near = omega (arith, y, whole, r) }

    high : q % m ≤ 0 → Up q m
    high r =
        let n : q % m ≡ 0 = omega (arith, r) in
        let y : m - q % m ≡ m = omega (arith, n) in
        let z : up_to q m ≡ 0 = ap (λ (x : ℕ). x % m) y ∙ mod_self m in
        record { k = q / m; is = omega (arith, z, n, whole); near = omega (arith, n, whole, h) }

up_least : (q m a : ℕ) → 1 ≤ m → q ≤ a → a % m ≡ 0 → q + up_to q m ≤ a
up_least q m a h l e =
    let u = up q m h in
    let whole : m * (a / m) + a % m ≡ a = div-add-mod a m in
    let next : m * suc (a / m) ≡ m * (a / m) + m = mul-suc m (a / m) in
    let few : u.k < suc (a / m) = lt_of_mul-lt-mul_left m (omega (arith, u.near, next, whole, e, l)) in
    let most : m * u.k ≤ m * (a / m) = mul-le-mul_left m (omega (arith, few)) in
    omega (arith, u.is, most, whole, e)

-- least-multiple: of a multiple that a frame can say
pub least_multiple : (q add m : ℕ) → 1 ≤ m → LeastMultiple q add m
least_multiple q add m h =
    let u = up q m h in
    record { goes_to = omega arith; multiple = ap (λ (x : ℕ). x % m) u.is ∙ mul-mod_right m u.k; least = λ a l e. up_least q m a h l e }

-- the later a pad comes, the later it ends
pub up_rises : (q r m : ℕ) → q ≤ r → q + up_to q m ≤ r + up_to r m
up_rises q r zero h =
    let a : up_to q 0 ≡ 0 = mod-zero (0 - q % 0) ∙ omega arith in
    omega (arith, a)
up_rises q r (suc n) h =
    let u = up r (suc n) (omega arith) in
    up_least q (suc n) (r + up_to r (suc n)) (omega arith) (omega (arith, h)) (ap (λ (x : ℕ). x % suc n) u.is ∙ mul-mod_right (suc n) u.k)

-- ---- positions rise with where the first statement comes
after_rises : (q r : Addressℕ) (s : Stmt) → q ≤ r → after q s ≤ after r s
after_rises q r gone h = h
after_rises q r (instr f xs c) h = omega (arith, h)
after_rises q r (label n) h = h
after_rises q r (variable n e) h = h
after_rises q r (comment x) h = h
after_rises q r (org l) h = omega arith
after_rises q r (bytes es) h = omega (arith, h)
after_rises q r (words es) h = omega (arith, h)
after_rises q r (pad add m) h = omega (arith, up_rises q r m h)

from_rises : (q r : Addressℕ) (p : Program) → q ≤ r → (j : Placeℕ) → position_from q p j ≤ position_from r p j
unfolding position_from
from_rises q r [] h j = h
from_rises q r (s ∷ p) h zero = h
from_rises q r (s ∷ p) h (suc j) = from_rises (after q s) (after r s) p (after_rises q r s h) j

-- a statement gives way to one behind which all comes lower, or as low
abbrev Lower : Stmt → Stmt → Type 0
Lower t s = (a : Addressℕ) → after a t ≤ after a s

set_from : (q r : Addressℕ) (p : Program) (i : Placeℕ) (t : Stmt) → Lower t (at p i) → q ≤ r → (j : Placeℕ) → position_from q (set p i t) j ≤ position_from r p j
unfolding position_from
set_from q r [] i t h l j = l
set_from q r (s ∷ p) zero t h l zero = l
set_from q r (s ∷ p) zero t h l (suc j) = from_rises (after q t) (after r s) p (omega (arith, h q, after_rises q r s l)) j
set_from q r (s ∷ p) (suc i) t h l zero = l
set_from q r (s ∷ p) (suc i) t h l (suc j) = set_from (after q s) (after r s) p i t h (after_rises q r s l) j

set_lowers : (p : Program) (i : Placeℕ) (t : Stmt) → Lower t (at p i) → (j : Placeℕ) → position (set p i t) j ≤ position p j
unfolding position
set_lowers p i t h j = set_from 0 0 p i t h (omega arith) j

-- ---- a rewrite is made of statements that give way to shorter ones

-- t gives way to s where each takes a number of bytes that does not depend on where it comes, and t no more
pub record Shorter (t s : Stmt) : Type 0 where
  pub few : ℕ
  pub many : ℕ
  pub fewer : few ≤ many
  pub new : (a : Addressℕ) → (after a t ≡ a + few) × (byte_count a t ≡ few)
  pub old : (a : Addressℕ) → (after a s ≡ a + many) × (byte_count a s ≡ many)

-- an instruction for an instruction; an instruction or a label that goes
instr_shorter : (s : Stmt) (f g : ℕ) (xs ys : List Operand) (c d : Placeℕ) → s ≡ instr f xs c → size_at g ≤ size_at f → Shorter (instr g ys d) s
instr_shorter s f g xs ys c d e l =
    record { few = size_at g; many = size_at f; fewer = l; new = λ a. (refl, refl); old = λ a. (ap (after a) e, ap (byte_count a) e) }

instr_goes : (s : Stmt) (f : ℕ) (xs : List Operand) (c : Placeℕ) → s ≡ instr f xs c → Shorter gone s
instr_goes s f xs c e = record { few = 0; many = size_at f; fewer = omega arith; new = λ a. (omega arith, refl); old = λ a. (ap (after a) e, ap (byte_count a) e) }

label_goes : (s : Stmt) (n : ℕ) → s ≡ label n → Shorter gone s
label_goes s n e = record { few = 0; many = 0; fewer = omega arith; new = λ a. (omega arith, refl); old = λ a. (let z : after a s ≡ a = ap (after a) e in omega arith, ap (byte_count a) e) }

-- what holds wherever a statement gives way to a shorter one, and of one change after another, holds of a rewrite
pub by_sets : (P : Program → Program → Type 0) → ((a b c : Program) → P a b → P b c → P a c) → ((p : Program) (i : Placeℕ) (t : Stmt) → Shorter t (at p i) → P (set p i t) p)
    → (p q : Program) → Step p q → P q p
unfolding drop_all
by_sets P then one p q (invert f) =
    let p₁ : Program = set p f.i (placed₁ f) in
    let same : at p₁ f.j ≡ at p f.j = get_or-set_other p f.i f.j (placed₁ f) gone (λ e. omega (arith, jump_behind f)) in
    rw f.new
    (then (set p₁ f.j gone) p₁ p (one p₁ f.j gone (instr_goes (at p₁ f.j) _ _ _ (same ∙ f.jump_at)))
    (one p f.i (placed₁ f) (instr_shorter (at p f.i) _ _ _ _ _ _ f.branch_at (omega (arith, f.same_size)))))
by_sets P then one p q (bounce f) =
    let o = order f in
    let p₁ : Program = set p f.i (placed₂ f) in
    let p₂ : Program = set p₁ f.j gone in
    let p₃ : Program = set p₂ f.m gone in
    let at₁ : at p₁ f.j ≡ at p f.j = get_or-set_other p f.i f.j (placed₂ f) gone (λ e. omega (arith, o.ij)) in
    let at₂ : at p₂ f.m ≡ at p f.m =
    get_or-set_other p₁ f.j f.m gone gone (λ e. omega (arith, o.jm)) ∙ get_or-set_other p f.i f.m (placed₂ f) gone (λ e. omega (arith, o.ij, o.jm)) in
    let at₃ : at p₃ f.u ≡ at p f.u =
    get_or-set_other p₂ f.m f.u gone gone (λ e. omega (arith, o.mu)) ∙ get_or-set_other p₁ f.j f.u gone gone (λ e. omega (arith, o.jm, o.mu))
    ∙ get_or-set_other p f.i f.u (placed₂ f) gone (λ e. omega (arith, o.ij, o.jm, o.mu)) in
    rw f.new
    (then (set p₃ f.u gone) p₃ p (one p₃ f.u gone (instr_goes (at p₃ f.u) _ _ _ (at₃ ∙ f.last_at)))
    (then p₃ p₂ p (one p₂ f.m gone (label_goes (at p₂ f.m) _ (at₂ ∙ f.t_at)))
    (then p₂ p₁ p (one p₁ f.j gone (instr_goes (at p₁ f.j) _ _ _ (at₁ ∙ f.skip_at)))
    (one p f.i (placed₂ f) (instr_shorter (at p f.i) _ _ _ _ _ _ f.branch_at (omega arith))))))
by_sets P then one p q (shrink h) = rw h.new (one p h.i (instr h.f h.x.args h.x.carried) (instr_shorter (at p h.i) _ _ _ _ _ _ h.far_at (omega (arith, h.smaller))))

pub step_lowers : (p q : Program) → Step p q → (j : Placeℕ) → position q j ≤ position p j
step_lowers =
    by_sets (λ a b. (j : Placeℕ) → position a j ≤ position b j) (λ a b c x y j. omega (arith, x j, y j))
    (λ p i t x. set_lowers p i t (λ a. omega (arith, (x.new a).0, (x.old a).0, x.fewer)))

-- never-rises: no position rises, whatever a pad does
pub never_rises : (asked : Settings) (p : Program) → NeverRises asked p
unfolding optimized
never_rises asked p =
    record {
      by_step = λ r q e i. step_lowers r q (step_some asked r q e) i;
      at_end = chain_keeps asked (λ q. (i : Placeℕ) → position q i ≤ position p i) (λ r t st h i. omega (arith, step_lowers r t st i, h i)) (total instr_bytes p) (anchor p)
          (λ i. omega (arith, position_same p (anchor p) (anchor_room p) i));
    }
