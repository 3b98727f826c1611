use mathlib.Core.Path.{◌≡◌, sym, ap, ◌∙◌}
use Prim.Native.Nat.{◌+◌, ◌*◌, ◌-◌}
use lib.ListN.{length, get_or, drop}
use Rattle.grammar.specs.Going.{digits}
use Rattle.grammar.proofs.Lexes.{digits_no, digits_end, digits_go, digits_big}
use native.Mathlib.Omega.{arith}
use Rattle.leaves.proofs.lexing.digits.Goals as goal

pub returns-then-not-is_decimal : goal.returns-then-not-is_decimal
returns-then-not-is_decimal c =
    let a = c.args in
    let s = a.s.now in
    let i = c.loop-i.i in
    let e = sym c.is_decimal.ensures ∙ c.if-not-is_decimal.true in
    (c.loop-i.invariant.1 ∙ digits_no s a.most c.loop-i.v i c.loop-i-test.true e, omega arith, omega arith)

pub returns-then-w-most : goal.returns-then-w-most
returns-then-w-most c =
    let a = c.args in
    let s = a.s.now in
    let i = c.loop-i.i in
    let n = 10 * c.loop-i.v + (get_or s i 0 - 48) in
    let e = sym c.is_decimal.ensures ∙ c.if-not-is_decimal.false in
    let w : 10 * c.loop-i.v + c.digit.result ≡ n = ap (λ x. 10 * c.loop-i.v + x) c.digit.ensures.0 in
    (c.loop-i.invariant.1 ∙ digits_big s a.most c.loop-i.v i c.loop-i-test.true e (omega (arith, c.if-w-most.true, w)), omega arith)

pub loop-i-preserved : goal.loop-i-preserved
loop-i-preserved c =
    let a = c.args in
    let s = a.s.now in
    let i = c.loop-i.i in
    let n = 10 * c.loop-i.v + (get_or s i 0 - 48) in
    let e = sym c.is_decimal.ensures ∙ c.if-not-is_decimal.false in
    let w : 10 * c.loop-i.v + c.digit.result ≡ n = ap (λ x. 10 * c.loop-i.v + x) c.digit.ensures.0 in (
      omega (arith, c.if-w-most.false),
      c.loop-i.invariant.1 ∙ digits_go s a.most c.loop-i.v i c.loop-i-test.true e (omega (arith, c.if-w-most.false, w))
          ∙ ap (λ x. digits a.most x (drop (i + 1) s)) (sym w),
    )

pub returns : goal.returns
returns c =
    let a = c.args in
    let s = a.s.now in
    let i : c.loop-i.i ≡ length s = omega arith in
    (c.loop-i.invariant.1 ∙ ap (λ n. digits a.most c.loop-i.v (drop n s)) i ∙ digits_end s a.most c.loop-i.v (length s) (omega arith), omega arith, omega arith)
