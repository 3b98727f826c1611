-- Answers one after the other: where the first is given, where it is refused, and where what follows is the same.
use mathlib.Core.Path.{◌≡◌, refl}
use Prim.Native.Nat.{ℕ}
use lib.IntN.{ℤ}
use Rattle.std.specs.Prelude.{Result, Ok, Err}
use Rattle.std.specs.Result.{MatchResult, IsErrAnd}
use Rattle.rules.specs.declared.Refusal.{Refusal}
use Rattle.rules.specs.declared.Unvalued.{Unvalued}
use Rattle.rules.specs.Answers.{Judged, ok, no, ◌>>=◌}
use Rattle.rules.specs.Judging.{value_at}

module _ {A B : Type 0} where
  pub bind_ok : (x : Judged A) (f : A → Judged B) (a : A) → x ≡ ok a → x >>= f ≡ f a
  unfolding ◌>>=◌
  bind_ok x f a e = rw e

  pub bind_no : (x : Judged A) (f : A → Judged B) (r : Refusal) → x ≡ no r → x >>= f ≡ no r
  unfolding ◌>>=◌
  bind_no x f r e = rw e

  pub bind_ext : (x : Judged A) (f g : A → Judged B) → ((a : A) → f a ≡ g a) → x >>= f ≡ x >>= g
  unfolding ◌>>=◌
  bind_ext (ok a) f g h = h a
  bind_ext (no r) f g h = refl

pub bind_id : {A : Type 0} (x : Judged A) → x >>= (λ a. ok a) ≡ x
unfolding ◌>>=◌
bind_id (ok a) = refl
bind_id (no r) = refl

pub bind_bind : {A B C : Type 0} (x : Judged A) (f : A → B) (g : B → C) → (x >>= (λ a. ok (f a))) >>= (λ b. ok (g b))
    ≡ x >>= (λ a. ok (g (f a)))
unfolding ◌>>=◌
bind_bind (ok a) f g = refl
bind_bind (no r) f g = refl

-- a worth x whose refusal is judged at place i, as the code passes it on: refused, it was none
pub unvalued_of : (i : ℕ) (x : Result ℤ Unvalued) (y : Result ℤ Refusal) (Q : Unvalued → Refusal → Type 0)
    → MatchResult x (λ v. y ≡ Ok v) (λ e. IsErrAnd y (Q e)) → ((e : Unvalued) (r : Refusal) → Q e r → value_at i (Err e) ≡ no r)
    → (r : Refusal) → y ≡ Err r → (why : Unvalued) × (x ≡ Err why) × (value_at i (Err why) ≡ no r)
unvalued_of i (Ok v) y Q m h r e = absurd (cc)
unvalued_of i (Err u) y Q m h r e = (u, refl, h u r (rw e at m))
