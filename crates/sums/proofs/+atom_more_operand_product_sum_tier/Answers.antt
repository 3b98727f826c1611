use mathlib.Core.Path.{◌≡◌, sym, ap, ◌∙◌, subst}
use Prim.Native.Nat.{suc, ◌+◌, ◌-◌, ◌≤◌}
use lib.ListN.{length}
use Rattle.std.specs.Prelude.{Err}
use Rattle.std.proofs.lemmas.Result.{err_from_is_err_and}
use Rattle.grammar.specs.Going.{alone, whole, op_at}
use Rattle.leaves.specs.Answering.{Answered, Continued, takes, after_of, code_of}
use Rattle.leaves.proofs.Leafs.{some_byte}
use Rattle.sums.proofs.Readings.{Reached, reached, took, part_length, paren_ends, paren_stuck, sign_ends, sign_stuck, sign_byte, trail_ends, trail_stuck, chain_ends, chain_stuck, continued, more_none, more_ends, more_stuck, op_byte, takes_is}
use native.Mathlib.Omega.{arith}
use Rattle.sums.proofs.+atom_more_operand_product_sum_tier.Goals as goal

pub atom-after-requires : goal.atom-after-requires
atom-after-requires t c = omega (arith, took _ _ _ _ _ c.tier.result c.tier.ensures, part_length 1 c.args.s.now)

pub atom-returns-then-look-eq40 : goal.atom-returns-then-look-eq40
atom-returns-then-look-eq40 t c =
    let a = c.args in
    let s = a.s.now in
    let q = sym c.look.ensures ∙ c.if-look-eq40.true in
    let g = reached (whole 5) 1 s a.out.now c.tier.new.out a.at c.tier.result c.after.result (some_byte s 39 q) c.tier.ensures c.after.ensures in
    paren_ends s a.out.now a.at c.tier.new.out c.in_ok-n.n c.in_ok-n.to q
    (subst (λ x. Reached (whole 5) 1 s a.out.now c.tier.new.out a.at x) c.in_ok-n.was g) c.closing.result c.closing.ensures

pub atom-returns-in_err-n : goal.atom-returns-in_err-n
atom-returns-in_err-n t c =
    let a = c.args in
    let s = a.s.now in
    let q = sym c.look.ensures ∙ c.if-look-eq40.true in
    let g = reached (whole 5) 1 s a.out.now c.tier.new.out a.at c.tier.result c.after.result (some_byte s 39 q) c.tier.ensures c.after.ensures in
    let p = err_from_is_err_and c.from_residual.result c.from_residual.ensures.1 in
    subst (λ x. Answered alone s a.out.now c.tier.new.out a.at x) (sym (p.1 ∙ ap Err p.2))
    (paren_stuck s a.out.now a.at c.tier.new.out c.in_err-n.field-0.0 q
    (subst (λ x. Reached (whole 5) 1 s a.out.now c.tier.new.out a.at x) c.in_err-n.was g))

pub atom-past_sign-k-requires : goal.atom-past_sign-k-requires
atom-past_sign-k-requires t c =
    let a = c.args in
    let s = a.s.now in
    let o = a.out.now in
    sign_byte s c.sign_of-code.result c.sign_of-code.ensures (omega arith)

pub atom-after-requires-2 : goal.atom-after-requires-2
atom-after-requires-2 t c =
    let k = c.past_sign-k.result in
    omega (arith, took _ _ _ _ _ c.atom.result c.atom.ensures, part_length k c.args.s.now)

pub atom-returns : goal.atom-returns
atom-returns t c =
    let a = c.args in
    let s = a.s.now in
    let k = c.past_sign-k.result in
    let kp = c.past_sign-k.ensures in
    let g = reached alone k s a.out.now c.atom.new.out a.at c.atom.result c.after-2.result (omega arith) c.atom.ensures c.after-2.ensures in
    sign_ends s a.out.now a.at c.atom.new.out c.insert.new.out k c.in_ok-n-2.n c.in_ok-n-2.end c.sign_of-code.result c.insert.result
    c.requires.0 c.requires.1 c.sign_of-code.ensures (omega arith) kp.2
    (subst (λ x. Reached alone k s a.out.now c.atom.new.out a.at x) c.in_ok-n-2.was g) c.insert.ensures

pub atom-returns-in_err-n-2 : goal.atom-returns-in_err-n-2
atom-returns-in_err-n-2 t c =
    let a = c.args in
    let s = a.s.now in
    let k = c.past_sign-k.result in
    let kp = c.past_sign-k.ensures in
    let g = reached alone k s a.out.now c.atom.new.out a.at c.atom.result c.after-2.result (omega arith) c.atom.ensures c.after-2.ensures in
    let p = err_from_is_err_and c.from_residual-in_err-n-2.result c.from_residual-in_err-n-2.ensures.1 in
    subst (λ x. Answered alone s a.out.now c.atom.new.out a.at x) (sym (p.1 ∙ ap Err p.2))
    (sign_stuck s a.out.now a.at c.atom.new.out k c.in_err-n-2.field-0.0 c.sign_of-code.result c.sign_of-code.ensures (omega arith) kp.2
    (subst (λ x. Reached alone k s a.out.now c.atom.new.out a.at x) c.in_err-n-2.was g))

pub more-returns-then-code-eq0 : goal.more-returns-then-code-eq0
more-returns-then-code-eq0 t c =
    let a = c.args in
    let s = a.s.now in
    let o = a.out.now in (
      omega arith,
      more_none a.level s a.at a.to c.op_at-code.result (c.op_at-code.ensures
          ∙ ap (λ x. code_of (op_at (a.level + 1) x)) c.look.ensures) o (omega arith),
    )

pub more-past-k-requires : goal.more-past-k-requires
more-past-k-requires t c =
    let a = c.args in
    let s = a.s.now in
    let o = a.out.now in
    let code = c.op_at-code.result in
    let ce = c.op_at-code.ensures ∙ ap (λ x. code_of (op_at (a.level + 1) x)) c.look.ensures in
    let ch : 1 ≤ code = omega arith in
    op_byte (a.level + 1) s code ce ch

pub more-after-requires : goal.more-after-requires
more-after-requires t c =
    let k = c.past-k.result in
    omega (arith, took _ _ _ _ _ c.tier.result c.tier.ensures, part_length k c.args.s.now)

pub more-returns : goal.more-returns
more-returns t c =
    let a = c.args in
    let s = a.s.now in
    let o = a.out.now in
    let k = c.past-k.result in
    let kp = c.past-k.ensures in
    let code = c.op_at-code.result in
    let ce = c.op_at-code.ensures ∙ ap (λ x. code_of (op_at (a.level + 1) x)) c.look.ensures in
    let ch : 1 ≤ code = omega arith in
    let g = reached (whole a.level) k s o c.tier.new.out a.to c.tier.result c.after.result (omega arith) c.tier.ensures c.after.ensures in
    let n = c.in_ok-n.n in
    let w = subst (λ x. Reached (whole a.level) k s o c.tier.new.out a.to x) c.in_ok-n.was g in
    let q = c.more.result in
    let x : after_of n q ≡ c.after-2.result = sym c.after-2.ensures in (
      subst (λ y. takes y ≤ length s) x (omega (arith, takes_is n q, c.more.ensures.0, part_length n s, w.1.1.0)),
      subst (λ y. Continued a.level s o c.more.new.out a.at a.to y) x
          (more_ends a.level s a.at a.to code ce o c.tier.new.out c.insert-top.new.out c.more.new.out k n c.in_ok-n.end c.insert-top.result q
          ch kp.2 w c.insert-top.ensures
          (continued a.level n s c.insert-top.new.out c.more.new.out a.at c.insert-top.result q c.more.ensures.1)),
    )

pub more-returns-in_err-n : goal.more-returns-in_err-n
more-returns-in_err-n t c =
    let a = c.args in
    let s = a.s.now in
    let o = a.out.now in
    let k = c.past-k.result in
    let kp = c.past-k.ensures in
    let code = c.op_at-code.result in
    let ce = c.op_at-code.ensures ∙ ap (λ x. code_of (op_at (a.level + 1) x)) c.look.ensures in
    let ch : 1 ≤ code = omega arith in
    let g = reached (whole a.level) k s o c.tier.new.out a.to c.tier.result c.after.result (omega arith) c.tier.ensures c.after.ensures in
    let n = c.in_err-n.field-0.0 in
    let w = subst (λ x. Reached (whole a.level) k s o c.tier.new.out a.to x) c.in_err-n.was g in
    let p = err_from_is_err_and c.from_residual.result c.from_residual.ensures.1 in
    let x : Err n ≡ c.from_residual.result = sym (p.1 ∙ ap Err p.2) in (
      subst (λ y. takes y ≤ length s) x w.1,
      subst (λ y. Continued a.level s o c.tier.new.out a.at a.to y) x (more_stuck a.level s a.at a.to code ce o c.tier.new.out k n ch kp.2 w),
    )

pub operand-returns : goal.operand-returns
operand-returns t c =
    let a = c.args in
    let s = a.s.now in
    trail_ends s a.out.now a.at c.atom.new.out c.in_ok-n.n c.in_ok-n.to
    (subst (λ x. Answered alone s a.out.now c.atom.new.out a.at x) c.in_ok-n.was c.atom.ensures) c.trail.result c.trail.ensures

pub operand-returns-in_err-n : goal.operand-returns-in_err-n
operand-returns-in_err-n t c =
    let a = c.args in
    let s = a.s.now in
    let p = err_from_is_err_and c.from_residual.result c.from_residual.ensures.1 in
    subst (λ x. Answered (whole 0) s a.out.now c.atom.new.out a.at x) (sym (p.1 ∙ ap Err p.2))
    (trail_stuck s a.out.now a.at c.atom.new.out c.in_err-n.field-0.0
    (subst (λ x. Answered alone s a.out.now c.atom.new.out a.at x) c.in_err-n.was c.atom.ensures))

pub product-returns : goal.product-returns
product-returns t c =
    let a = c.args in
    let s = a.s.now in
    let o = a.out.now in
    let n = c.in_ok-n.n in
    let to = c.in_ok-n.to in
    let g = subst (λ x. Answered (whole 0) s o c.operand.new.out a.at x) c.in_ok-n.was c.operand.ensures in
    subst (λ x. Answered (whole 1) s o c.more.new.out a.at x) (sym c.after.ensures)
    (chain_ends s o a.at 0 c.operand.new.out c.more.new.out n to c.requires.0 g c.more.result
    (continued 0 n s c.operand.new.out c.more.new.out a.at to c.more.result c.more.ensures.1))

pub product-returns-in_err-n : goal.product-returns-in_err-n
product-returns-in_err-n t c =
    let a = c.args in
    let s = a.s.now in
    let o = a.out.now in
    let n = c.in_err-n.field-0.0 in
    let g = subst (λ x. Answered (whole 0) s o c.operand.new.out a.at x) c.in_err-n.was c.operand.ensures in
    let p = err_from_is_err_and c.from_residual.result c.from_residual.ensures.1 in
    subst (λ x. Answered (whole 1) s o c.operand.new.out a.at x) (sym (p.1 ∙ ap Err p.2)) (chain_stuck s o a.at 0 c.operand.new.out n g)

pub sum-returns : goal.sum-returns
sum-returns t c =
    let a = c.args in
    let s = a.s.now in
    let o = a.out.now in
    let n = c.in_ok-n.n in
    let to = c.in_ok-n.to in
    let g = subst (λ x. Answered (whole 1) s o c.product.new.out a.at x) c.in_ok-n.was c.product.ensures in
    subst (λ x. Answered (whole 2) s o c.more.new.out a.at x) (sym c.after.ensures)
    (chain_ends s o a.at 1 c.product.new.out c.more.new.out n to c.requires.0 g c.more.result
    (continued 1 n s c.product.new.out c.more.new.out a.at to c.more.result c.more.ensures.1))

pub sum-returns-in_err-n : goal.sum-returns-in_err-n
sum-returns-in_err-n t c =
    let a = c.args in
    let s = a.s.now in
    let o = a.out.now in
    let n = c.in_err-n.field-0.0 in
    let g = subst (λ x. Answered (whole 1) s o c.product.new.out a.at x) c.in_err-n.was c.product.ensures in
    let p = err_from_is_err_and c.from_residual.result c.from_residual.ensures.1 in
    subst (λ x. Answered (whole 2) s o c.product.new.out a.at x) (sym (p.1 ∙ ap Err p.2)) (chain_stuck s o a.at 1 c.product.new.out n g)

pub tier-returns : goal.tier-returns
tier-returns t c =
    let a = c.args in
    let s = a.s.now in
    let o = a.out.now in
    let l = a.level - 1 in
    let n = c.in_ok-n.n in
    let to = c.in_ok-n.to in
    let g = subst (λ x. Answered (whole l) s o c.tier.new.out a.at x) c.in_ok-n.was c.tier.ensures in
    let e : suc (a.level - 1) ≡ a.level = omega arith in
    subst (λ x. Answered (whole x) s o c.more.new.out a.at c.after.result) e
    (subst (λ x. Answered (whole (suc l)) s o c.more.new.out a.at x) (sym c.after.ensures)
    (chain_ends s o a.at l c.tier.new.out c.more.new.out n to c.requires.0 g c.more.result
    (continued l n s c.tier.new.out c.more.new.out a.at to c.more.result c.more.ensures.1)))

pub tier-returns-in_err-n : goal.tier-returns-in_err-n
tier-returns-in_err-n t c =
    let a = c.args in
    let s = a.s.now in
    let o = a.out.now in
    let l = a.level - 1 in
    let n = c.in_err-n.field-0.0 in
    let g = subst (λ x. Answered (whole l) s o c.tier.new.out a.at x) c.in_err-n.was c.tier.ensures in
    let e : suc (a.level - 1) ≡ a.level = omega arith in
    let p = err_from_is_err_and c.from_residual.result c.from_residual.ensures.1 in
    subst (λ x. Answered (whole a.level) s o c.tier.new.out a.at x) (sym (p.1 ∙ ap Err p.2))
    (subst (λ x. Answered (whole x) s o c.tier.new.out a.at (Err n)) e (chain_stuck s o a.at l c.tier.new.out n g))
