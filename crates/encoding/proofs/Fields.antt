-- What `field` says in each of its cases, in the order in which it asks. Assumes nothing.
use mathlib.Core.Path.{◌≡◌, refl}
use mathlib.Core.Bool.{Bool, true, false, cond}
use Prim.Native.Nat.{ℕ, ◌+◌, ◌-◌, ◌%◌}
use lib.Dec.{eqb}
use lib.IntN.{ℤ, pos, ◌-ℤ◌}
use Rattle.std.specs.Option.{ok_or}
use Rattle.std.specs.Prelude.{Err, Ok, None, Some}
use Rattle.laws.proofs.Tests.{cond_true}
use Rattle.rules.specs.declared.Kind.{Kind}
use Rattle.rules.specs.declared.Kind.TheVariants.{Reg, I8, D9, Bit, Rel8, A12, A16, Rel16}
use Rattle.rules.specs.declared.Refusal.TheVariants.{Range, Outside, Far, Page}
use Rattle.rules.specs.Answers.{at_place, ok, require}
use Rattle.rules.specs.Values.{below, nat, mod256, signed_byte}
use Rattle.rules.specs.Encoding.{page, field}
use Rattle.encoding.specs.Operands.{field_as, ranged, held, number_as}

-- a value counts as it is, but for a register that no two bytes hold
pub held_same : (k : Kind) (v : ℤ) → (k ≡ Reg → below 65536 v ≡ true) → held k v ≡ v
held_same Reg v h = cond_true (below 65536 v) v (pos 0) (h refl)
held_same I8 v h = refl
held_same D9 v h = refl
held_same Bit v h = refl
held_same Rel8 v h = refl
held_same A12 v h = refl
held_same A16 v h = refl
held_same Rel16 v h = refl

module _ (i j : ℕ) where
  pub ranged_as : (b : ℕ) (v : ℤ) → ok_or (number_as b v) (Range (at_place i) j v) ≡ field_as (ranged i j b v)
  unfolding ranged require
  ranged_as b v = on (below b v)
    where
      on : (t : Bool) → ok_or (cond t (Some (nat v)) None) (Range (at_place i) j v) ≡ field_as (require t (Range (at_place i) j v) (ok (nat v)))
      on true = refl
      on false = refl

  module _ (n : ℕ) (v : ℤ) where
    pub rel8_outside : below 65536 v ≡ false → Err (Outside (at_place i) j v) ≡ field_as (field i j n Rel8 v)
    unfolding field require
    rel8_outside e = rw e

    pub rel8_far : below 65536 v ≡ true → signed_byte (v -ℤ pos n) ≡ false → Err (Far (at_place i) j (v -ℤ pos n)) ≡ field_as (field i j n Rel8 v)
    unfolding field require
    rel8_far e d = rw (e, d)

    pub rel8_in : below 65536 v ≡ true → signed_byte (v -ℤ pos n) ≡ true → Ok (mod256 (v -ℤ pos n)) ≡ field_as (field i j n Rel8 v)
    unfolding field require
    rel8_in e d = rw (e, d)

    pub a12_out : below 65536 v ≡ false → Err (Range (at_place i) j v) ≡ field_as (field i j n A12 v)
    unfolding field require
    a12_out e = rw e

    pub a12_page : below 65536 v ≡ true → eqb (page (nat v)) (page n) ≡ false → Err (Page (at_place i) j v) ≡ field_as (field i j n A12 v)
    unfolding field require
    a12_page e d = rw (e, d)

    pub a12_in : below 65536 v ≡ true → eqb (page (nat v)) (page n) ≡ true → Ok (nat v) ≡ field_as (field i j n A12 v)
    unfolding field require
    a12_in e d = rw (e, d)

    pub rel16_outside : below 65536 v ≡ false → Err (Outside (at_place i) j v) ≡ field_as (field i j n Rel16 v)
    unfolding field require
    rel16_outside e = rw e

    pub rel16_in : below 65536 v ≡ true → Ok ((nat v + 65537 - n) % 65536) ≡ field_as (field i j n Rel16 v)
    unfolding field require
    rel16_in e = rw e
