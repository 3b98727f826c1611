-- What an answer says, accepted or refused: one predicate for both, and a law for each way of combining answers.
use mathlib.Core.Path.{◌≡◌, refl, subst}
use mathlib.Core.List.{List, [], ◌∷◌}
use mathlib.Core.Bool.{Bool, true, false, cond}
use Rattle.rules.specs.declared.Refusal.{Refusal}
use Rattle.rules.specs.Answers.{Judged, ok, no, Check, ◌>>=◌, ◌>>◌, check_each, require}

module _ {A : Type 0} where
  -- P holds of what is accepted, Q of why it is refused
  abbrev pub Says : (P : A → Type 0) (Q : Refusal → Type 0) → Judged A → Type 0
  Says P Q (ok a) = P a
  Says P Q (no r) = Q r

  module _ (P : A → Type 0) (Q : Refusal → Type 0) where
    -- what an acceptance says
    pub says_ok : (x : Judged A) (a : A) → Says P Q x → x ≡ ok a → P a
    says_ok x a h e = subst (Says P Q) e h

    -- what a refusal says
    pub says_no : (x : Judged A) (r : Refusal) → Says P Q x → x ≡ no r → Q r
    says_no x r h e = subst (Says P Q) e h

    -- less of a refusal
    pub says_less : (R : Refusal → Type 0) → ((r : Refusal) → Q r → R r) → (x : Judged A) → Says P Q x → Says P R x
    says_less R h (ok a) k = k
    says_less R h (no r) k = h r k

    -- beside a fact
    pub says_with : {X : Type 0} → X → (x : Judged A) → Says P Q x → Says (λ a. X × P a) Q x
    says_with f (ok a) h = (f, h)
    says_with f (no r) h = h

    -- a test, then the rest
    pub says_require : (t : Bool) (r : Refusal) (y : Judged A) → Q r → (t ≡ true → Says P Q y) → Says P Q (require t r y)
    unfolding require
    says_require true r y q h = h refl
    says_require false r y q h = q

    -- one of two
    pub says_cond : (t : Bool) (x y : Judged A) → (t ≡ true → Says P Q x) → (t ≡ false → Says P Q y) → Says P Q (cond t x y)
    says_cond true x y h k = h refl
    says_cond false x y h k = k refl

module _ {A B : Type 0} (P : A → Type 0) (R : B → Type 0) (Q : Refusal → Type 0) where
  -- one after the other, the second with what the first gave
  pub says_bind : (x : Judged A) (f : A → Judged B) → Says P Q x → ((a : A) → P a → Says R Q (f a)) → Says R Q (x >>= f)
  unfolding ◌>>=◌
  says_bind (ok a) f h k = k a h
  says_bind (no r) f h k = h

  -- one after the other
  pub says_then : (x : Judged A) (y : Judged B) → Says P Q x → Says R Q y → Says R Q (x >> y)
  unfolding ◌>>◌
  says_then (ok a) y h k = k
  says_then (no r) y h k = h

abbrev pub Nothing-more : {A : Type 0} → A → Type 0
Nothing-more a = Unit

-- a check of each element
pub says_each : {X : Type 0} (Q : Refusal → Type 0) (f : X → Check) → ((x : X) → Says Nothing-more Q (f x)) → (xs : List X) → Says Nothing-more Q (check_each f xs)
unfolding check_each
says_each Q f h [] = tt
says_each Q f h (x ∷ xs) = says_then Nothing-more Nothing-more Q (f x) (check_each f xs) (h x) (says_each Q f h xs)
