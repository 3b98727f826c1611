-- `patterns::counting::references` meets its contract: one statement more at each turn.
use mathlib.Core.Path.{refl, ◌∙◌}
use mathlib.Core.Bool.{Bool}
use mathlib.Core.List.{List, []}
use Prim.Native.Nat.{ℕ}
use native.Mathlib.Omega.{arith}
use Rattle.laws.specs.Counts.{sum_to}
use Rattle.laws.proofs.Counts.{sum_more, at_end}
use Rattle.rules.specs.Expressions.{mentions}
use Rattle.rules.specs.Programs.{over_exprs}
use Rattle.slots.specs.Slots.{Slots, slots, slot_at}
use Rattle.slots.specs.State.{starts_in, forms_in, carry_in, owners_in}
use Rattle.patterns.proofs.counting.references.Goals as goal

-- what the statement at place j adds
abbrev adds : (F : ℕ → ℕ → Bool) (t : Slots) (j : ℕ) → ℕ
adds F t j = over_exprs (mentions (F j)) (slot_at t j)

abbrev over : (c : goal.After-in_statement-found) (offsets : List ℕ) → Slots
over c offsets = slots c.args.frames.now (starts_in c.args.state.now) c.args.count (forms_in c.args.state.now) (carry_in c.args.state.now)
    (owners_in c.args.state.now) offsets

abbrev over_2 : (c : goal.After-loop-j) (offsets : List ℕ) → Slots
over_2 c offsets = slots c.args.frames.now (starts_in c.args.state.now) c.args.count (forms_in c.args.state.now)
    (carry_in c.args.state.now) (owners_in c.args.state.now) offsets

pub loop-j-init : goal.loop-j-init
unfolding sum_to
loop-j-init c = (omega arith, λ F offsets r. refl)

pub overflow_add-found : goal.overflow_add-found
overflow_add-found c =
    record { fits = omega (arith, c.loop-j.invariant.0, c.in_statement-found.ensures.few, c.loop-j-test.true, (c.requires.1 []).held.few) }

pub loop-j-preserved : goal.loop-j-preserved
loop-j-preserved c =
    let l = c.loop-j in (
      omega (arith, l.invariant.0, c.in_statement-found.ensures.few),
      λ F offsets r.
          omega (
            arith,
            l.invariant.1 F offsets r,
            c.in_statement-found.ensures.by_index (F l.j) offsets (r l.j c.loop-j-test.true),
            sum_more (adds F (over c offsets)) l.j,
          ),
    )

pub returns : goal.returns
returns c F offsets r =
    let l = c.loop-j in
    l.invariant.1 F offsets r ∙ at_end (sum_to (adds F (over_2 c offsets))) l.j c.args.count l.auto.j-end c.loop-j-test.false
