use mathlib.Core.Path.{◌≡◌, refl, sym, ap, ◌∙◌}
use Prim.Native.Nat.{ℕ, suc, ◌≤◌, ◌+◌, ◌*◌, ◌-◌}
use lib.ListN.{get_or, drop}
use mathlib.Core.List.{List}
use Rattle.grammar.specs.Going.{got, fixed}
use Rattle.text.specs.Text.{tens}
use Rattle.grammar.proofs.Lexes.{fixed_go, fixed_end, fixed_no, fixed_big, tens_grow}
use native.Mathlib.Omega.{arith}
use Rattle.leaves.proofs.lexing.fixed.Goals as goal
use Rattle.leaves.proofs.lexing.fixed.Goals.{then-s-i-via-then-s-i, then-s-i-via-else-s-i+then-not-is_decimal}

pub returns-then-s-i : goal.returns-then-s-i
returns-then-s-i c =
    let s = c.args.s.now in
    let i = c.loop-i.i in
    let k : 5 - i ≡ suc (4 - i) = omega arith in
    let f : fixed 32767 5 0 s ≡ fixed 32767 (suc (4 - i)) c.loop-i.v (drop i s) = c.loop-i.invariant.2
    ∙ ap (λ x. fixed 32767 x c.loop-i.v (drop i s)) k in
    elim c.then-s-i.branch [
      | then-s-i-via-then-s-i w ↦ (f ∙ fixed_end s 32767 (4 - i) c.loop-i.v i w.if-s-i.true, omega arith)
      | then-s-i-via-else-s-i+then-not-is_decimal w ↦
          (f ∙ fixed_no s 32767 (4 - i) c.loop-i.v i w.if-s-i.false (sym w.is_decimal.ensures ∙ w.if-not-is_decimal.true), omega arith)
    ]

pub returns-then-w-tens-gt32767 : goal.returns-then-w-tens-gt32767
returns-then-w-tens-gt32767 c =
    let s = c.args.s.now in
    let i = c.loop-i.i in
    let k : 5 - i ≡ suc (4 - i) = omega arith in
    let f : fixed 32767 5 0 s ≡ fixed 32767 (suc (4 - i)) c.loop-i.v (drop i s) = c.loop-i.invariant.2
    ∙ ap (λ x. fixed 32767 x c.loop-i.v (drop i s)) k in
    let n = 10 * c.loop-i.v + (get_or s i 0 - 48) in
    let e = sym c.is_decimal.ensures ∙ c.if-not-is_decimal.false in
    let w : (10 * c.loop-i.v + c.digit.result) * c.tens.result ≡ n * tens (4 - i) =
    ap (λ x. (10 * c.loop-i.v + x) * c.tens.result) c.digit.ensures.0 ∙ ap (λ x. n * x) c.tens.ensures in
    (f ∙ fixed_big s 32767 (4 - i) c.loop-i.v i c.if-s-i.false (omega (arith, c.if-w-tens-gt32767.true, w)), omega arith)

pub loop-i-preserved : goal.loop-i-preserved
loop-i-preserved c =
    let s = c.args.s.now in
    let i = c.loop-i.i in
    let k : 5 - i ≡ suc (4 - i) = omega arith in
    let f : fixed 32767 5 0 s ≡ fixed 32767 (suc (4 - i)) c.loop-i.v (drop i s) = c.loop-i.invariant.2
    ∙ ap (λ x. fixed 32767 x c.loop-i.v (drop i s)) k in
    let n = 10 * c.loop-i.v + (get_or s i 0 - 48) in
    let e = sym c.is_decimal.ensures ∙ c.if-not-is_decimal.false in
    let w : (10 * c.loop-i.v + c.digit.result) * c.tens.result ≡ n * tens (4 - i) =
    ap (λ x. (10 * c.loop-i.v + x) * c.tens.result) c.digit.ensures.0 ∙ ap (λ x. n * x) c.tens.ensures in
    let h : n * tens (4 - i) ≤ 32767 = omega (arith, c.if-w-tens-gt32767.false, w) in
    let x : 10 * c.loop-i.v + c.digit.result ≡ n = ap (λ x. 10 * c.loop-i.v + x) c.digit.ensures.0 in
    let z : 4 - i ≡ 5 - (i + 1) = omega arith in (
      omega arith,
      omega (arith, tens_grow n (4 - i), h, x),
      f ∙ fixed_go s 32767 (4 - i) c.loop-i.v i c.if-s-i.false e h ∙ ap (λ y. fixed 32767 y n (drop (i + 1) s)) z
          ∙ ap (λ y. fixed 32767 (5 - (i + 1)) y (drop (i + 1) s)) (sym x),
    )

pub returns : goal.returns
unfolding fixed
returns c =
    let s = c.args.s.now in
    let k : c.loop-i.i ≡ 5 = omega arith in (
      c.loop-i.invariant.2 ∙ ap (λ x. fixed 32767 (5 - x) c.loop-i.v (drop x s)) k
          ∙ done c.loop-i.v (drop 5 s),
      omega arith,
      omega arith,
    )
  where
    done : (v : ℕ) (t : List ℕ) → fixed 32767 0 v t ≡ got v t
    done v t = refl
