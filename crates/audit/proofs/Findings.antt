-- What a finding says of two images: "same" exactly where they are equal, and else the first address at which they are not.
use mathlib.Core.Path.{◌≡◌, refl, sym, ap, ◌∙◌}
use mathlib.Core.List.{List}
use mathlib.Core.Option.{Option}
use mathlib.Core.Bool.{Bool, true, false, cond}
use Prim.Native.Nat.{ℕ, ◌≤◌, ◌<◌}
use native.Mathlib.Omega.{arith}
use lib.Dec.{ltb}
use lib.ListN.{length, get_or}
use lib.Seq.{take_all}
use borrow.Author.Tests.{ltb-true, ltb-false, lt-ltb, le-ltb}
use Rattle.laws.proofs.Tests.{clash}
use Rattle.rules.specs.Programs.{Addressℕ}
use Rattle.rules.specs.Layout.{Origin}
use Rattle.audit.specs.Audit.{alike, Finding, same, differs, short, long, held}
use Rattle.audit.specs.Promise.{Says}
use Rattle.audit.proofs.Alike.{Front, front_is}

module _ (of : Addressℕ → Option Origin) (w s : List ℕ) where
  -- held-says: what the finding says is so
  pub held_says : Says of w s (held of w s)
  unfolding held
  held_says = on (alike w s) (front_is w s) (ltb (alike w s) (length w)) refl (ltb (alike w s) (length s)) refl
    where
      on : (a : Addressℕ) → Front w s a → (b : Bool) → ltb a (length w) ≡ b → (c : Bool) → ltb a (length s) ≡ c
          → Says of w s (cond b (cond c (differs a (get_or w a 0) (get_or s a 0) (of a)) (short a (of a))) (cond c (long a) same))
      on a f true d true e = (ltb-true a (length w) d, ltb-true a (length s) e, f.same, refl, refl, f.other (ltb-true a (length w) d) (ltb-true a (length s) e), refl)
      on a f true d false e =
          let ends : length s ≤ a = ltb-false a (length s) e in
          (omega (arith, f.in_shipped), ltb-true a (length w) d, sym (take_all a s ends) ∙ f.same, refl)
      on a f false d true e =
          let ends : length w ≤ a = ltb-false a (length w) d in
          (omega (arith, f.in_wanted), ltb-true a (length s) e, f.same ∙ take_all a w ends)
      on a f false d false e = sym (take_all a s (ltb-false a (length s) e)) ∙ f.same ∙ take_all a w (ltb-false a (length w) d)

  -- equal images have no other finding
  pub says_same : s ≡ w → (f : Finding) → Says of w s f → f ≡ same
  says_same e same h = refl
  says_same e (differs a x y o) h = absurd (h.5 (h.3 ∙ sym (ap (λ (l : List ℕ). get_or l a 0) e) ∙ sym h.4))
  says_same e (short a o) h = absurd (omega (arith, h.0, h.1, ap length e))
  says_same e (long a) h = absurd (omega (arith, h.0, h.1, ap length e))

  -- held_same: "same exactly when the bytes are equal"
  pub held_same : (held of w s ≡ same → s ≡ w) × (s ≡ w → held of w s ≡ same)
  held_same = (λ e. on (held of w s) e held_says, λ e. says_same e (held of w s) held_says)
    where
      on : (f : Finding) → f ≡ same → Says of w s f → s ≡ w
      on same e h = h
      on (differs a x y o) e h = clash (cc)
      on (short a o) e h = clash (cc)
      on (long a) e h = clash (cc)

-- ---- a finding, by where the count stops
module _ (of : Addressℕ → Option Origin) (w s : List ℕ) (a : Addressℕ) (e : a ≡ alike w s) where
  at_count : (b c : Bool) → ltb a (length w) ≡ b → ltb a (length s) ≡ c
      → held of w s ≡ cond b (cond c (differs a (get_or w a 0) (get_or s a 0) (of a)) (short a (of a))) (cond c (long a) same)
  unfolding held
  at_count b c d f = rw (sym e, d, f)

  pub held_differs : a < length w → a < length s → held of w s ≡ differs a (get_or w a 0) (get_or s a 0) (of a)
  held_differs h k = at_count true true (lt-ltb a (length w) h) (lt-ltb a (length s) k)

  pub held_short : a < length w → length s ≤ a → held of w s ≡ short a (of a)
  held_short h k = at_count true false (lt-ltb a (length w) h) (le-ltb a (length s) k)

  pub held_long : length w ≤ a → a < length s → held of w s ≡ long a
  held_long h k = at_count false true (le-ltb a (length w) h) (lt-ltb a (length s) k)

  pub held_same_is : length w ≤ a → length s ≤ a → held of w s ≡ same
  held_same_is h k = at_count false false (le-ltb a (length w) h) (le-ltb a (length s) k)
