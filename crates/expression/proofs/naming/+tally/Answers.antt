-- `naming::tally` meets its contract. The measure is the slice's length, which falls with each operand. Assumes nothing.
use mathlib.Core.Path.{sym, ◌∙◌}
use mathlib.Core.Bool.{cond}
use Prim.Native.Nat.{ℕ, ◌+◌, ◌≤◌}
use native.Mathlib.Omega.{arith}
use lib.Dec.{leb, eqb}
use lib.ListN.{length, get_or, drop}
use Rattle.laws.proofs.Tests.{cond_both, cond_le}
use Rattle.expression.specs.declared.Tally.{Tally}
use Rattle.expression.specs.Naming.{no_names, Counted}
use Rattle.expression.proofs.Tallies.{rest_counted, empty_counted, bad_counted, number_counted, name_counted, one_counted, two_counted}
use Rattle.expression.proofs.naming.+tally.Goals as goal

abbrev Few : Tally → Type 0
Few a = a.found ≤ a.taken

abbrev leaf : (k n : ℕ) → Tally
leaf k n = record { found = n; taken = k }

-- what was counted in the operands: in the only one, in the first of two, and in both
only : (t : ℕ) (c : goal.After-struct_known-1 t) →
    let a = c.args in
    Counted (drop 1 a.s.now) (drop 1 a.links.now) a.place c.tally-a.result.found c.tally-a.result.taken
only t c =
    let a = c.args in
    rest_counted a.s.now a.links.now a.place 1 c.tally-a.result.found c.tally-a.result.taken c.tally-a.ensures.counted

first : (t : ℕ) (c : goal.After-struct_known-in-Two-4-1 t) →
    let a = c.args in
    Counted (drop 1 a.s.now) (drop 1 a.links.now) a.place c.tally-a-in-Two.result.found c.tally-a-in-Two.result.taken
first t c =
    let a = c.args in
    rest_counted a.s.now a.links.now a.place 1 c.tally-a-in-Two.result.found c.tally-a-in-Two.result.taken c.tally-a-in-Two.ensures.counted

both : (t : ℕ) (c : goal.After-struct_known-in-Two-4-1 t) →
    let a = c.args in
    let x = c.tally-a-in-Two.result in
    let y = c.tally-b.result in
    Counted a.s.now a.links.now a.place (x.found + y.found) (1 + x.taken + y.taken)
both t c =
    let a = c.args in
    let x = c.tally-a-in-Two.result in
    let y = c.tally-b.result in
    two_counted a.s.now a.links.now a.place c.in-Two.field-0 (sym c.tag_of.ensures ∙ c.in-Two.is)
    c.if-s-lt1.false x.found x.taken (first t c) y.found y.taken
    (rest_counted a.s.now a.links.now a.place (1 + x.taken) y.found y.taken c.tally-b.ensures.counted)

both_few : (t : ℕ) (c : goal.After-struct_known-in-Two-4-1 t) →
    c.tally-a-in-Two.result.found + c.tally-b.result.found ≤ 1 + c.tally-a-in-Two.result.taken + c.tally-b.result.taken
both_few t c = omega (arith, c.tally-a-in-Two.ensures.few, c.tally-b.ensures.few)

pub returns-then-s-lt1 : goal.returns-then-s-lt1
returns-then-s-lt1 t c = record { few = omega arith; counted = empty_counted _ _ _ (omega arith) 0 }

pub returns-in-Number : goal.returns-in-Number
returns-in-Number t c =
    rw c.leaf.ensures
    record {
      few = cond_both Few (leb 5 (length c.args.s.now)) (leaf 5 0) no_names (omega arith) (omega arith);
      counted = number_counted c.args.s.now c.args.links.now c.args.place (sym c.tag_of.ensures ∙ c.in-Number.is);
    }

pub returns-in-Name : goal.returns-in-Name
returns-in-Name t c =
    let here = eqb (get_or c.args.links.now 0 0) c.args.place in
    rw c.linked.ensures
    record {
      few = cond_both Few (leb 3 (length c.args.s.now)) (leaf 3 (cond here 1 0)) no_names
          (cond_le here 1 0 3 (omega arith) (omega arith)) (omega arith);
      counted = name_counted c.args.s.now c.args.links.now c.args.place (sym c.tag_of.ensures ∙ c.in-Name.is);
    }

pub returns-in-One : goal.returns-in-One
returns-in-One t c =
    let x = c.tally-a.result in
    record {
      few = omega (arith, c.tally-a.ensures.few);
      counted = one_counted _ _ _ c.in-One.field-0 (sym c.tag_of.ensures ∙ c.in-One.is) c.if-s-lt1.false x.found x.taken (only t c);
    }

pub returns-in-Two : goal.returns-in-Two
returns-in-Two t c = record { few = both_few t c; counted = both t c }

pub returns-in-Bad : goal.returns-in-Bad
returns-in-Bad t c =
    record { few = omega arith; counted = bad_counted _ _ _ (sym c.tag_of.ensures ∙ c.in-Bad.is) 0 }
