-- `labels::count_seen` meets its contract. The measure is the slice's length, which falls with each operand. Assumes nothing.
use mathlib.Core.Path.{refl, sym, ◌∙◌}
use mathlib.Core.Bool.{cond}
use Prim.Native.Nat.{ℕ, ◌+◌, ◌≤◌}
use native.Mathlib.Omega.{arith}
use lib.Dec.{leb}
use lib.ListN.{length, drop}
use Rattle.laws.proofs.Tests.{cond_both, cond_le}
use Rattle.rules.specs.Expressions.{Expr, mentions, name_of}
use Rattle.rules.specs.Names.{key_of}
use Rattle.rules.specs.Judging.{is_seen}
use Rattle.expression.specs.declared.Tally.{Tally}
use Rattle.expression.specs.Environment.{keys_of}
use Rattle.expression.specs.Naming.{no_names}
use Rattle.expression.specs.Along.{Along}
use Rattle.expression.proofs.Alongs.{empty_along, bad_along, number_along, name_along, rest_along, one_along, two_along}
use Rattle.expression.proofs.labels.+count_seen.Goals as goal

-- the two parts of an answer, and that of a leaf
found : Tally → ℕ
found a = a.found

taken : Tally → ℕ
taken a = a.taken

abbrev Few : Tally → Type 0
Few a = a.found ≤ a.taken

abbrev leaf : (k n : ℕ) → Tally
leaf k n = record { found = n; taken = k }

-- how many names of a tree count
abbrev of : (t : ℕ) (c : goal.Then-s-lt1 t) → Expr → ℕ
of t c = mentions (λ m. is_seen (keys_of c.args.names.now c.args.contexts.now c.args.limit) (key_of c.args.context m))

-- how many names of a tree count
abbrev of_2 : (t : ℕ) (c : goal.After-leaf t) → Expr → ℕ
of_2 t c = mentions (λ m. is_seen (keys_of c.args.names.now c.args.contexts.now c.args.limit) (key_of c.args.context m))

-- how many names of a tree count
abbrev of_3 : (t : ℕ) (c : goal.After-named t) → Expr → ℕ
of_3 t c = mentions (λ m. is_seen (keys_of c.args.names.now c.args.contexts.now c.args.limit) (key_of c.args.context m))

-- how many names of a tree count
abbrev of_4 : (t : ℕ) (c : goal.After-struct_known-1 t) → Expr → ℕ
of_4 t c = mentions (λ m. is_seen (keys_of c.args.names.now c.args.contexts.now c.args.limit) (key_of c.args.context m))

-- how many names of a tree count
abbrev of_5 : (t : ℕ) (c : goal.After-struct_known-in-Two-4-1 t) → Expr → ℕ
of_5 t c = mentions (λ m. is_seen (keys_of c.args.names.now c.args.contexts.now c.args.limit) (key_of c.args.context m))

-- how many names of a tree count
abbrev of_6 : (t : ℕ) (c : goal.In-Bad t) → Expr → ℕ
of_6 t c = mentions (λ m. is_seen (keys_of c.args.names.now c.args.contexts.now c.args.limit) (key_of c.args.context m))

-- what was counted in the operands: in the only one, in the first of two, in the second, and in both
only : (t : ℕ) (c : goal.After-struct_known-1 t) →
    Along (of_4 t c) (drop 1 c.args.s.now) c.count_seen-a.result.found c.count_seen-a.result.taken
only t c =
    rest_along (of_4 t c) c.args.s.now 1 c.count_seen-a.result.found c.count_seen-a.result.taken c.count_seen-a.ensures.along

first : (t : ℕ) (c : goal.After-struct_known-in-Two-4-1 t) →
    Along (of_5 t c) (drop 1 c.args.s.now) c.count_seen-a-in-Two.result.found c.count_seen-a-in-Two.result.taken
first t c =
    rest_along (of_5 t c) c.args.s.now 1 c.count_seen-a-in-Two.result.found c.count_seen-a-in-Two.result.taken
    c.count_seen-a-in-Two.ensures.along

second : (t : ℕ) (c : goal.After-struct_known-in-Two-4-1 t) →
    Along (of_5 t c) (drop (1 + c.count_seen-a-in-Two.result.taken) c.args.s.now) c.count_seen-b.result.found c.count_seen-b.result.taken
second t c =
    rest_along (of_5 t c) c.args.s.now (1 + c.count_seen-a-in-Two.result.taken) c.count_seen-b.result.found c.count_seen-b.result.taken
    c.count_seen-b.ensures.along

both : (t : ℕ) (q : goal.After-struct_known-in-Two-4-1 t) →
    let x = q.count_seen-a-in-Two.result in
    let y = q.count_seen-b.result in
    Along (of_5 t q) q.args.s.now (x.found + y.found) (1 + x.taken + y.taken)
unfolding mentions
both t q =
    let x = q.count_seen-a-in-Two.result in
    let y = q.count_seen-b.result in
    two_along (of_5 t q) q.args.s.now q.in-Two.field-0 (sym q.tag_of.ensures ∙ q.in-Two.is) q.if-s-lt1.false
    ◌+◌ (λ e d. refl) x.found x.taken (first t q) y.found y.taken (second t q)

both_few : (t : ℕ) (q : goal.After-struct_known-in-Two-4-1 t) →
    q.count_seen-a-in-Two.result.found + q.count_seen-b.result.found ≤ 1 + q.count_seen-a-in-Two.result.taken + q.count_seen-b.result.taken
both_few t q = omega (arith, q.count_seen-a-in-Two.ensures.few, q.count_seen-b.ensures.few)

pub returns-then-s-lt1 : goal.returns-then-s-lt1
returns-then-s-lt1 t c = record { few = omega arith; along = empty_along (of t c) c.args.s.now (omega arith) 0 }

pub returns-in-Number : goal.returns-in-Number
unfolding mentions found taken
returns-in-Number t c =
    let bytes = c.args.s.now in
    rw c.leaf.ensures
    record {
      few = cond_both Few (leb 5 (length bytes)) (leaf 5 0) no_names (omega arith) (omega arith);
      along = number_along (of_2 t c) bytes found taken (leaf 5 0) no_names (sym c.tag_of.ensures ∙ c.in-Number.is) refl refl refl;
    }

pub returns-in-Name : goal.returns-in-Name
unfolding mentions found taken
returns-in-Name t c =
    let bytes = c.args.s.now in
    let wanted = is_seen (keys_of c.args.names.now c.args.contexts.now c.args.limit) (key_of c.args.context (name_of bytes)) in
    let here : Tally = leaf 3 (cond wanted 1 0) in
    rw c.named.ensures
    record {
      few = cond_both Few (leb 3 (length bytes)) here no_names (cond_le wanted 1 0 3 (omega arith) (omega arith)) (omega arith);
      along = name_along (of_3 t c) bytes found taken here no_names (sym c.tag_of.ensures ∙ c.in-Name.is) refl refl refl;
    }

pub returns-in-One : goal.returns-in-One
unfolding mentions
returns-in-One t c =
    let x = c.count_seen-a.result in record {
      few = omega (arith, c.count_seen-a.ensures.few);
      along = one_along (of_4 t c) c.args.s.now c.in-One.field-0 (sym c.tag_of.ensures ∙ c.in-One.is) c.if-s-lt1.false
          (λ n. n) (λ e. refl) x.found x.taken (only t c);
    }

pub returns-in-Two : goal.returns-in-Two
returns-in-Two t c = record { few = both_few t c; along = both t c }

pub returns-in-Bad : goal.returns-in-Bad
returns-in-Bad t c =
    record { few = omega arith; along = bad_along (of_6 t c) c.args.s.now (sym c.tag_of.ensures ∙ c.in-Bad.is) 0 }
