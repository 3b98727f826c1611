-- `encoding::operands::field_of` meets its contract: in each arm the kind is the arm's, and its function was asked for the value as it was passed on. Assumes nothing.
use mathlib.Core.Path.{◌≡◌, ◌∙◌, sym, ap}
use Prim.Native.Nat.{ℕ}
use lib.IntN.{ℤ}
use mir.Facts.{to_z-of_z}
use Rattle.rules.specs.declared.Refusal.{Refusal}
use Rattle.std.specs.Prelude.{Result, Ok}
use Rattle.rules.specs.declared.Kind.{Kind}
use Rattle.rules.specs.Encoding.{field}
use Rattle.encoding.specs.Operands.{field_as, ranged, held}
use Rattle.encoding.proofs.operands.field_of.Goals as goal

abbrev right : ℕ → ℕ → ℕ → Kind → ℤ → Result ℕ Refusal
right i j n k v = field_as (field i j n k (held k v))

-- What an arm wrote for its kind and for the value as it was passed on is what the kind writes for the value.
arm : (i j n : ℕ) {l k : Kind} {v w : ℤ} {r : Result ℕ Refusal} → l ≡ k → w ≡ v → r ≡ right i j n k w → r ≡ right i j n l v
arm i j n {k = k} {v = v} e u h = h ∙ ap (right i j n k) u ∙ sym (ap (λ (m : Kind). right i j n m v) e)

pub returns-in-Reg : goal.returns-in-Reg
unfolding field ranged
returns-in-Reg c = arm c.args.i.0 c.args.j c.args.n.0 c.in-Reg.is (to_z-of_z c.ranges.v) (ap Ok c.register.ensures)

pub returns-in-I8 : goal.returns-in-I8
unfolding field ranged
returns-in-I8 c = arm c.args.i.0 c.args.j c.args.n.0 c.in-I8.is (to_z-of_z c.ranges.v) c.in_range.ensures

pub returns-in-D9 : goal.returns-in-D9
unfolding field ranged
returns-in-D9 c = arm c.args.i.0 c.args.j c.args.n.0 c.in-D9.is (to_z-of_z c.ranges.v) c.in_range-in-D9.ensures

pub returns-in-Bit : goal.returns-in-Bit
unfolding field ranged
returns-in-Bit c = arm c.args.i.0 c.args.j c.args.n.0 c.in-Bit.is (to_z-of_z c.ranges.v) c.in_range-in-Bit.ensures

pub returns-in-A16 : goal.returns-in-A16
unfolding field ranged
returns-in-A16 c = arm c.args.i.0 c.args.j c.args.n.0 c.in-A16.is (to_z-of_z c.ranges.v) c.in_range-in-A16.ensures
