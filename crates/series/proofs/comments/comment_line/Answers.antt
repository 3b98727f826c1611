use mathlib.Core.Path.{sym, ap, ◌∙◌}
use native.Mathlib.Omega.{arith}
use Prim.Native.Nat.{◌+◌, ◌*◌, ◌<◌}
use lib.ListN.{length, get_or}
use Rattle.rules.specs.Listing.{digit}
use Rattle.series.proofs.Hexes.{none_paired, empty_comment, pair_first, pair_cut, pair_second, pair_next, pairs_end}
use Rattle.series.proofs.comments.comment_line.Goals as goal

-- src/comments.rt:38:9
pub returns-then-k-s : goal.returns-then-k-s
returns-then-k-s c = let a = c.args in empty_comment a.s.now a.k a.out.now c.requires.0 c.if-k-s.true

-- src/comments.rt:42:5
pub loop-i-init : goal.loop-i-init
loop-i-init c =
    let a = c.args in (
      c.put-at.ensures.size,
      (
        c.put-at.ensures.within,
        (c.requires.0, none_paired a.s.now a.k a.out.now c.put-at.new.out c.put-at.result c.requires.1 c.put-at.ensures),
      ),
    )

-- src/comments.rt:45:13
pub returns-then-not-is_digit : goal.returns-then-not-is_digit
returns-then-not-is_digit c =
    let a = c.args in
    let s = a.s.now in
    let o : a.k < length s = omega (arith, c.if-k-s.false) in
    pair_first s a.k c.loop-i.out c.loop-i.at c.loop-i.i o c.loop-i.invariant.1.1.1 (omega arith) (sym c.is_digit.ensures
    ∙ c.if-not-is_digit.true)

-- src/comments.rt:49:13
pub returns-then-j-s : goal.returns-then-j-s
returns-then-j-s c =
    let a = c.args in
    let s = a.s.now in
    let o : a.k < length s = omega (arith, c.if-k-s.false) in
    pair_cut s a.k c.loop-i.out c.loop-i.at c.loop-i.i o c.loop-i.invariant.1.1.1 (omega arith) (sym c.is_digit.ensures
    ∙ c.if-not-is_digit.false) (omega (arith, c.if-j-s.true))

-- src/comments.rt:53:13
pub returns-then-not-is_digit-2 : goal.returns-then-not-is_digit-2
returns-then-not-is_digit-2 c =
    let a = c.args in
    let s = a.s.now in
    let o : a.k < length s = omega (arith, c.if-k-s.false) in
    pair_second s a.k c.loop-i.out c.loop-i.at c.loop-i.i o c.loop-i.invariant.1.1.1 (omega (arith, c.if-j-s.false)) (sym c.is_digit.ensures
    ∙ c.if-not-is_digit.false) (sym c.is_digit-in-loop-i.ensures ∙ c.if-not-is_digit-2.true)

-- src/comments.rt:42:5
pub loop-i-preserved : goal.loop-i-preserved
loop-i-preserved c =
    let a = c.args in
    let s = a.s.now in
    let o : a.k < length s = omega (arith, c.if-k-s.false) in
    let v = c.digit.result * 16 + c.digit-in-loop-i.result in
    let z = ap (λ n. n * 16 + c.digit-in-loop-i.result) c.digit.ensures.0
    ∙ ap (λ n. digit (get_or s c.loop-i.i 0) * 16 + n) c.digit-in-loop-i.ensures.0 in (
      c.put-at-in-loop-i.ensures.size,
      (
        c.put-at-in-loop-i.ensures.within,
        (
          omega (arith, c.if-j-s.false),
          pair_next s a.k c.loop-i.out c.loop-i.at c.loop-i.i o c.loop-i.invariant.1.1.1 c.put-at-in-loop-i.new.out
              c.put-at-in-loop-i.result v (omega (arith, c.if-j-s.false)) (sym c.is_digit.ensures
              ∙ c.if-not-is_digit.false) (sym c.is_digit-in-loop-i.ensures ∙ c.if-not-is_digit-2.false) z c.put-at-in-loop-i.ensures,
        ),
      ),
    )

-- src/comments.rt:33:1
pub returns : goal.returns
returns c =
    let a = c.args in
    let s = a.s.now in
    let o : a.k < length s = omega (arith, c.if-k-s.false) in
    pairs_end s a.k c.loop-i.out c.loop-i.at c.loop-i.i o c.loop-i.invariant.1.1.1 c.loop-i-test.false
