use mathlib.Core.Path.{sym, ap, ◌∙◌}
use Prim.Native.Nat.{◌+◌}
use native.Mathlib.Omega.{arith}
use lib.ListN.{drop}
use Rattle.std.specs.Prelude.{Err}
use Rattle.std.proofs.lemmas.Result.{err_from_is_err_and}
use Rattle.rules.specs.Expressions.{name, bytes_of}
use Rattle.grammar.specs.Reading.{look}
use Rattle.grammar.specs.Going.{fixed}
use Rattle.leaves.proofs.Leafs.{local_starts, dot_starts, leaf_ends, leaf_stuck, some_byte, two_bytes, valued_after, valued_takes, rest_is}
use Rattle.grammar.specs.Going.{leafs}
use Rattle.leaves.proofs.operands.local.Goals as goal

pub returns-then-look-ne108 : goal.returns-then-look-ne108
returns-then-look-ne108 c =
    let s = c.args.s.now in (
      leafs (dot_starts s c.requires.2 (λ e. c.if-look-ne108.true (c.look.ensures ∙ ap look (rest_is 1 s) ∙ e))),
      some_byte c.args.s.now 45 c.requires.2,
    )

pub after-requires : goal.after-requires
after-requires c = omega (arith, valued_takes _ _ _ c.fixed.result c.fixed.ensures)

pub returns : goal.returns
unfolding bytes_of
returns c =
    let a = c.args in
    let s = a.s.now in
    let l = ap look (sym (rest_is 1 s)) ∙ sym c.look.ensures ∙ c.if-look-ne108.false in
    leaf_ends s a.out.now c.put_name.new.out a.at (λ n. name (0x8000 + n)) (fixed 32767 5 0 (drop 2 s)) 32767
    (local_starts s c.requires.2 l) c.after.result
    (valued_after 2 s (λ t. fixed 32767 5 0 t) 32767 c.fixed.result c.after.result (two_bytes s 107 l) c.fixed.ensures c.after.ensures)
    c.in_ok-n.n c.in_ok-n.v c.put_name.result c.in_ok-n.was c.put_name.ensures

pub returns-in_err-n : goal.returns-in_err-n
returns-in_err-n c =
    let a = c.args in
    let s = a.s.now in
    let l = ap look (sym (rest_is 1 s)) ∙ sym c.look.ensures ∙ c.if-look-ne108.false in
    let p = err_from_is_err_and c.from_residual.result c.from_residual.ensures.1 in
    leaf_stuck s a.out.now a.out.now a.at (λ n. name (0x8000 + n)) (fixed 32767 5 0 (drop 2 s)) 32767
    (local_starts s c.requires.2 l) c.after.result
    (valued_after 2 s (λ t. fixed 32767 5 0 t) 32767 c.fixed.result c.after.result (two_bytes s 107 l) c.fixed.ensures c.after.ensures)
    c.in_err-n.field-0.0 c.in_err-n.was c.from_residual.result (p.1 ∙ ap Err p.2)
