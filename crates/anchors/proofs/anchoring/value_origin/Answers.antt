-- `anchors::anchoring::value_origin` meets its contract: a number that is not negative is an address.
use mathlib.Core.Path.{◌≡◌, sym, ap, ◌∙◌}
use mathlib.Core.Bool.{Bool}
use mathlib.Core.List.{List}
use Prim.Native.Nat.{ℕ}
use lib.IntN.{ℤ, pos}
use lib.Signed.{lt_z}
use borrow.Author.Rules.{rules}
use Rattle.rules.specs.Values.{nat}
use Rattle.rules.specs.Layout.{origin_from, origin}
use Rattle.expression.proofs.Signed.{at32}
use Rattle.slots.specs.Slots.{Slots, slots, program_of}
use Rattle.asm.specs.Belonging.{origin_as}
use Rattle.anchors.proofs.Targets.{not_negative, origin_negative, origin_address}
use Rattle.slots.specs.State.{starts_in, forms_in}
use Rattle.anchors.proofs.anchoring.value_origin.Goals as goal

abbrev over : (s : goal.Then-v-lt0) (carry owners offsets : List ℕ) → Slots
over s carry owners offsets = slots s.args.frames.now (starts_in s.args.state.now) s.args.count (forms_in s.args.state.now) carry owners
    offsets

abbrev over_2 : (s : goal.After-origin_of) (carry owners offsets : List ℕ) → Slots
over_2 s carry owners offsets = slots s.args.frames.now (starts_in s.args.state.now) s.args.count (forms_in s.args.state.now) carry owners
    offsets

abbrev over_3 : (s : goal.In_default) (carry owners offsets : List ℕ) → Slots
over_3 s carry owners offsets = slots s.args.frames.now (starts_in s.args.state.now) s.args.count (forms_in s.args.state.now) carry owners
    offsets

-- a value that was passed on is read back from its bits
as_passed : (c : goal.Then-v-lt0) → at32 c.in-Ok.v ≡ c.in-Ok.v
as_passed c = search rules

-- a value that was passed on is read back from its bits
as_passed_2 : (c : goal.After-origin_of) → at32 c.in-Ok.v ≡ c.in-Ok.v
as_passed_2 c = search rules

-- the test, of the value itself
tested : (c : goal.Then-v-lt0) (b : Bool) → lt_z (at32 c.in-Ok.v) (pos 0) ≡ b → lt_z c.in-Ok.v (pos 0) ≡ b
tested c b e = ap (λ (z : ℤ). lt_z z (pos 0)) (sym (as_passed c)) ∙ e

-- the test, of the value itself
tested_2 : (c : goal.After-origin_of) (b : Bool) → lt_z (at32 c.in-Ok.v) (pos 0) ≡ b → lt_z c.in-Ok.v (pos 0) ≡ b
tested_2 c b e = ap (λ (z : ℤ). lt_z z (pos 0)) (sym (as_passed_2 c)) ∙ e

-- not negative
is_pos : (c : goal.After-origin_of) → c.in-Ok.v ≡ pos (nat c.in-Ok.v)
is_pos c = not_negative c.in-Ok.v (tested_2 c _ c.if-v-lt0.false)

pub returns-then-v-lt0 : goal.returns-then-v-lt0
returns-then-v-lt0 c carry owners offsets =
    let p = program_of (over c carry owners offsets) in
    record {
      answer = sym (ap origin_as (ap (origin p) c.in-Ok.is ∙ origin_negative p c.in-Ok.v (tested c _ c.if-v-lt0.true)));
      inside = tt;
    }

pub returns : goal.returns
returns c carry owners offsets =
    let p = program_of (over_2 c carry owners offsets) in
    let f = c.origin_of.ensures carry owners offsets in
    record {
      answer =
          f.answer
          ∙ ap (λ (n : ℕ). origin_as (origin_from 0 0 p n)) (c.address.ensures ∙ ap nat (as_passed_2 c))
          ∙ sym (ap origin_as (ap (origin p) c.in-Ok.is ∙ origin_address p c.in-Ok.v (is_pos c)));
      inside = f.inside;
    }

pub returns-in_default : goal.returns-in_default
unfolding origin
returns-in_default c carry owners offsets =
    let p = program_of (over_3 c carry owners offsets) in
    record { answer = sym (ap (λ x. origin_as (origin p x)) c.in_default.is); inside = tt }
