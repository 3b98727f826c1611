-- `worth::own_worth` meets its contract: the argument stands where it begins, and is a register or reads as an expression there.
use mathlib.Core.Path.{◌≡◌, sym, ap, ◌∙◌}
use Prim.Native.Nat.{◌<◌}
use native.Mathlib.Omega.{arith}
use lib.IntN.{pos}
use mir.Syntax.{w32}
use mir.Val.{to_z, of_z}
use Rattle.std.specs.Prelude.{Ok}
use Rattle.std.proofs.lemmas.Int.{ints}
use lib.ListN.{length, get_or, drop}
use Rattle.rules.specs.Expressions.{got, read_expr}
use Rattle.rules.specs.Forms.{operands_at}
use Rattle.rules.specs.Statements.{arg_at, argument_at, expr_at}
use Rattle.rules.specs.Names.{key_of, lookup}
use Rattle.instruction.proofs.Numbers.{few_operands}
use Rattle.laws.proofs.Stores.{rest_is}
use Rattle.slots.specs.Slots.{worth_in}
use Rattle.slots.proofs.Linking.{part_linked}
use Rattle.slots.proofs.Operands.{instr_in}
use Rattle.image.proofs.Operands.{begin, operand_read, own_register, own_value, own_reads}
use Rattle.image.proofs.worth.own_worth.Goals as goal
use Rattle.image.proofs.worth.own_worth.Goals.{After-argument_at-a}

-- the argument begins where reading found it, within the frame
module _ (s : After-argument_at-a) where
  found : s.argument_at-a.result ≡ argument_at s.args.frame.now (operands_at (get_or s.args.frame.now 1 0)) 2 s.args.j
  found = s.argument_at-a.ensures s.args.frame.now s.requires.5 s.requires.0.kind s.requires.1

  inside : s.argument_at-a.result < length s.args.frame.now
  inside = omega (arith, found, (operand_read s.args.at.0 s.args.frame.now s.requires.0 s.args.j s.requires.1).inside)

pub argument_at-a-requires : goal.argument_at-a-requires
argument_at-a-requires c = (omega arith, omega (arith, few_operands (get_or c.args.frame.now 1 0)))

pub bounds-frame-1 : goal.bounds-frame-1
bounds-frame-1 c = omega (arith, (instr_in c.args.at.0 c.args.frame.now c.requires.0).long)

pub bounds-frame-a : goal.bounds-frame-a
bounds-frame-a c = inside (goal.at.bounds-frame-a c).After-argument_at-a

pub returns-then-is_register : goal.returns-then-is_register
returns-then-is_register c names k l positions =
    let f = c.args.frame.now in
    let n = c.argument_at-a.result in
    let wide : to_z w32 (of_z w32 c.from.result) ≡ pos (get_or f n 0) = omega (arith, ints, c.type_inv.frame n) in
    ap Ok wide
    ∙ ap (λ n. Ok (pos (get_or f n 0))) (found (goal.at.returns-then-is_register c).After-argument_at-a)
    ∙ sym
    (ap (worth_in names positions k)
    (own_register c.args.at.0 f c.requires.0 c.args.j c.requires.1 (sym c.is_register.ensures ∙ c.if-is_register.true)))

pub slice_bounds-linked_worth-count : goal.slice_bounds-linked_worth-count
slice_bounds-linked_worth-count c = omega (arith, inside (goal.at.slice_bounds-linked_worth-count c).After-argument_at-a)

pub slice_bounds-linked_worth-start : goal.slice_bounds-linked_worth-start
slice_bounds-linked_worth-start c = omega (arith, inside (goal.at.slice_bounds-linked_worth-start c).After-argument_at-a)

pub offset_bounds-links-a : goal.offset_bounds-links-a
offset_bounds-links-a c =
    record { fits = omega (arith, inside (goal.at.offset_bounds-links-a c).After-argument_at-a, c.well_formed.1.1.1.1.0) }

pub slice_bounds-linked_worth-count-2 : goal.slice_bounds-linked_worth-count-2
slice_bounds-linked_worth-count-2 c = omega (arith, inside (goal.at.slice_bounds-linked_worth-count-2 c).After-argument_at-a)

pub slice_bounds-linked_worth-start-2 : goal.slice_bounds-linked_worth-start-2
slice_bounds-linked_worth-start-2 c = omega (arith, inside (goal.at.slice_bounds-linked_worth-start-2 c).After-argument_at-a)

pub returns : goal.returns
returns c names k l positions =
    let f = c.args.frame.now in
    let n = c.argument_at-a.result in
    let no : _ = sym c.is_register.ensures ∙ c.if-is_register.false in
    let r = own_reads c.args.at.0 f c.requires.0 c.args.j c.requires.1 no in
    let at : read_expr _ ≡ got (expr_at f (arg_at (begin f c.args.j))) r.width =
    ap read_expr (rest_is n f) ∙ ap (λ m. read_expr (drop m f)) (found (goal.at.returns c).After-argument_at-a) ∙ r.reads in
    c.linked_worth.ensures (λ m. lookup names (key_of k m)) (part_linked (λ m. lookup names (key_of k m)) f c.args.links.now
    c.args.values.now c.args.count n l)
    (expr_at f (arg_at (begin f c.args.j))) r.width at
    ∙ sym (ap (worth_in names positions k) (own_value c.args.at.0 f c.requires.0 c.args.j c.requires.1 no))
