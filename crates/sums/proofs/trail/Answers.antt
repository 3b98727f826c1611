use mathlib.Core.Path.{◌≡◌, refl, ap, ◌∙◌}
use Prim.Native.Nat.{ℕ, ◌+◌}
use lib.ListN.{drop, length-drop}
use Rattle.grammar.specs.Reading.{look}
use lib.Seq.{drop-drop}
use Rattle.grammar.specs.Going.{skip, infix_of}
use Rattle.leaves.specs.Answering.{code_of}
use Rattle.leaves.proofs.Leafs.{rest_is}
use Rattle.sums.proofs.Readings.{past_is, spaced_look, gap_stuck, gap_op, gap_near}
use native.Mathlib.Omega.{arith}
use Rattle.sums.proofs.trail.Goals as goal
use Rattle.sums.proofs.trail.Goals.{else-k-n-via-then-k-n+else-infix_of-eq0, else-k-n-via-else-k-n}

pub returns-then-infix_of-eq0 : goal.returns-then-infix_of-eq0
returns-then-infix_of-eq0 c =
    let s = c.args.s.now in
    let n = c.args.n in
    let p = past_is n c.spaces.result s c.requires c.spaces.ensures.0 c.spaces.ensures.1 in
    let e : drop n s ≡ drop n s = refl in
    let d : drop c.spaces.result (drop n s) ≡ skip (drop n s) = drop-drop c.spaces.result n s ∙ p.1 in (
      p.0,
      gap_stuck (drop n s) (drop (n + c.spaces.result) s) c.infix_of.result
          (spaced_look (drop n s) c.spaces.result (omega arith) (omega (arith, length-drop n s, p.0)) d) p.1
          (c.infix_of.ensures ∙ ap (λ x. code_of (infix_of x)) (c.look.ensures ∙ ap look (rest_is (n + c.spaces.result) s)))
          (omega arith),
    )

pub returns : goal.returns
returns c =
    let s = c.args.s.now in
    let n = c.args.n in
    let k : ℕ = n + c.spaces.result in
    let p = past_is n c.spaces.result s c.requires c.spaces.ensures.0 c.spaces.ensures.1 in
    let d : drop c.spaces.result (drop n s) ≡ skip (drop n s) = drop-drop c.spaces.result n s ∙ p.1 in
    elim c.else-k-n.branch [
      | else-k-n-via-then-k-n+else-infix_of-eq0 w ↦ (
        refl,
        p.0,
        gap_op (drop n s) (drop k s) w.infix_of.result (spaced_look (drop n s) c.spaces.result (omega arith) (omega (arith, length-drop n s, p.0)) d) p.1
            (w.infix_of.ensures ∙ ap (λ x. code_of (infix_of x)) (w.look.ensures ∙ ap look (rest_is k s))) (omega arith),
      )
      | else-k-n-via-else-k-n w ↦
          let z : k ≡ n = omega arith in (refl, p.0, gap_near (drop n s) (drop k s) (ap (λ x. drop x s) z) p.1)
    ]
