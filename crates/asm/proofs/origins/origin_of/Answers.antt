-- `asm::origins::origin_of` meets its contract. The invariant: the origin is found from place i on.
use mathlib.Core.Path.{sym, ◌∙◌}
use native.Mathlib.Omega.{arith}
use Rattle.slots.specs.Slots.{slots, program_of}
use Rattle.asm.proofs.Finding.{from_start, found_none, found_here, found_later}
use Rattle.slots.specs.State.{starts_in, forms_in}
use Rattle.asm.proofs.origins.origin_of.Goals as goal

pub loop-i-init : goal.loop-i-init
loop-i-init c carry owners offsets =
    let t = slots c.args.frames.now (starts_in c.args.state.now) c.args.count (forms_in c.args.state.now) carry owners offsets in
    from_start (program_of t) c.args.address.0

pub returns-then-has_byte : goal.returns-then-has_byte
returns-then-has_byte c carry owners offsets =
    found_here _ c.requires.0 (λ i. (c.type_inv.frames i).fits) c.args.address.0 c.loop-i.i c.loop-i-test.true _ c.size_at-size.result
    (c.requires.1 carry owners offsets c.loop-i.i (omega (arith, c.loop-i-test.true)))
    (c.size_at-size.ensures carry owners offsets) (c.loop-i.invariant carry owners offsets)
    (sym c.has_byte.ensures ∙ c.if-has_byte.true)

pub loop-i-preserved : goal.loop-i-preserved
loop-i-preserved c carry owners offsets =
    found_later _ c.requires.0 (λ i. (c.type_inv.frames i).fits) c.args.address.0 c.loop-i.i c.loop-i-test.true _ c.size_at-size.result
    (c.requires.1 carry owners offsets c.loop-i.i (omega (arith, c.loop-i-test.true)))
    (c.size_at-size.ensures carry owners offsets) (c.loop-i.invariant carry owners offsets)
    (sym c.has_byte.ensures ∙ c.if-has_byte.false)

pub returns : goal.returns
returns c carry owners offsets =
    found_none _ c.requires.0 (λ i. (c.type_inv.frames i).fits) c.args.address.0 c.loop-i.i (omega arith)
    (c.loop-i.invariant carry owners offsets)
