-- `slots::item_in` meets its contract: the items stand one behind the other, each within the frame.
use mathlib.Core.Path.{◌≡◌, refl, sym, ap, ◌∙◌}
use Prim.Native.Nat.{ℕ, ◌+◌, ◌<◌}
use native.Mathlib.Numerals.{add-one}
use native.Mathlib.Omega.{arith}
use mathlib.Core.List.{List}
use lib.ListN.{length, get_or, drop}
use Rattle.rules.specs.Expressions.{Expr, read_expr}
use Rattle.expression.specs.Along.{Wide}
use Rattle.rules.specs.Statements.{took_of}
use Rattle.laws.proofs.Stores.{rest_is}
use Rattle.slots.specs.Slots.{item_at, DataIn}
use Rattle.slots.proofs.Operands.{reads_inside}
use Rattle.slots.proofs.Frames.{Reads}
use Rattle.slots.proofs.Items.{item_more, items_in}
use Rattle.slots.proofs.item_in.Goals as goal

-- item k begins within the frame
begins : {s : List ℕ} → (i : ℕ) × DataIn i s → (k : ℕ) → k < get_or s 1 0 → item_at s 2 k < length s
begins {s} r k h = reads_inside s _ _ ((items_in r.0 s r.1).1.each k h)

here : (c : goal.In-loop) → c.loop.a < length c.args.frame.now
here c = omega (arith, c.loop.invariant, begins c.requires.0 c.loop.counter (omega (arith, c.requires.1)))

-- what is taken of an expression that reads
took : (s : List ℕ) (t : ℕ) (e : Expr) → Wide s t → Reads s e → t ≡ took_of (read_expr s)
unfolding read_expr
took s t e w r = (w.tree 32 32 e r.width r.reads).1 ∙ sym (ap took_of r.reads)

next_is : (c : goal.After-width-a) → c.loop.a + c.width-a.result ≡ item_at c.args.frame.now 2 (c.loop.counter + 1)
next_is c =
    let s = c.args.frame.now in
    let k = c.loop.counter in
    let r = (items_in c.requires.0.0 s c.requires.0.1).1.each k (omega (arith, c.requires.1)) in
    let v = took _ _ _ (rw (rest_is c.loop.a s, c.loop.invariant) at c.width-a.ensures) r in
    rw (v, c.loop.invariant, add-one k) (sym (item_more s 2 k))

pub loop-init : goal.loop-init
unfolding item_at
loop-init c = refl

pub slice_bounds-width-count : goal.slice_bounds-width-count
slice_bounds-width-count c = omega (arith, here c)

pub slice_bounds-width-start : goal.slice_bounds-width-start
slice_bounds-width-start c = omega (arith, here c)

pub overflow_add-a : goal.overflow_add-a
overflow_add-a c = record { fits = omega (arith, next_is c, begins c.requires.0 (c.loop.counter + 1) (omega (arith, c.requires.1))) }

pub loop-preserved : goal.loop-preserved
loop-preserved c = next_is c
