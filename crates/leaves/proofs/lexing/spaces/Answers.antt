-- `lexing::spaces` meets its contract: the first byte that is no space, or the length.
use mathlib.Core.Path.{◌≡◌, refl, ap, ◌∙◌}
use mathlib.Core.Bool.{Bool, true, false, cond, not}
use mathlib.Core.List.{List, [], ◌∷◌}
use Prim.Native.Nat.{ℕ, suc, ◌+◌, ◌≤◌}
use native.Mathlib.Omega.{arith}
use borrow.Author.Tests.{tests}
use lib.Dec.{eqb, ltb}
use lib.ListN.{length, drop}
use Rattle.std.specs.List.{position_or_len}
use Rattle.std.specs.Option.{unwrap_or}
use Rattle.std.proofs.Common.{rules, Option, Some, None}
use Rattle.std.proofs.lemmas.Grind.{common_steps}
use Rattle.std.proofs.lemmas.Iterator.{YieldsList-from_slice}
use Rattle.std.proofs.lemmas.Iterator.Search.{position_from_yields_List}
use Rattle.std.proofs.lemmas.List.Sums.{prefix_len-le-length}
use Rattle.grammar.specs.Going.{skip}
use Rattle.leaves.proofs.lexing.spaces.Goals as goal

abbrev filled : ℕ → Bool
filled n = not (eqb n 32)

or_length : (n m : ℕ) → n ≤ m → unwrap_or (cond (ltb n m) (Some n) None) m ≡ n
or_length n m h = grind (arith, common_steps)

behind : (t : List ℕ) → drop (position_or_len (λ n. filled n) t) t ≡ skip t
unfolding skip
behind [] = refl
behind (c ∷ t) = on (behind t) (eqb c 32) refl
  where
    n : ℕ
    n = position_or_len (λ n. filled n) t

    on : drop n t ≡ skip t → (b : Bool) → eqb c 32 ≡ b → drop (position_or_len (λ n. filled n) (c ∷ t)) (c ∷ t) ≡ skip (c ∷ t)
    on h true e = let s : 1 + n ≡ suc n = omega arith in rw e (ap (λ k. drop k (c ∷ t)) s ∙ h)
    on h false e = rw e

pub returns : goal.returns
returns c =
    let s = c.args.s.now in
    let n : ℕ = position_or_len (λ n. filled n) s in
    let l : n ≤ length s = prefix_len-le-length _ s in
    let p = position_from_yields_List (λ n. filled n) _ _ _ c.position.ensures.ran (YieldsList-from_slice s cc) (λ x b q k. search (rules, tests)) in
    let e : c.unwrap_or.result ≡ n = c.unwrap_or.ensures ∙ ap (λ (o : Option ℕ). unwrap_or o (length s)) p ∙ or_length n (length s) l in
    (omega arith, ap (λ (k : ℕ). drop k s) e ∙ behind s)
