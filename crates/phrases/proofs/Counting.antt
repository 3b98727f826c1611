-- `.org` and `.align`. Assumes nothing.
use mathlib.Core.Path.{◌≡◌, refl, sym, ap, ◌∙◌, subst}
use mathlib.Core.List.{List, [], ◌∷◌}
use mathlib.Core.Option.{none}
use mathlib.Core.Bool.{Bool, true, false, cond}
use Prim.Native.Nat.{ℕ, zero, suc, ◌+◌, ◌/◌, ◌%◌, ◌≤◌, ◌<◌}
use native.Mathlib.Omega.{arith}
use lib.Dec.{eqb}
use lib.ListN.{length, drop, length-drop, drop_of_length-le}
use borrow.Author.Tests.{ne_eqb}
use Rattle.std.specs.Prelude.{Result, Ok, Err}
use Rattle.rules.specs.Expressions.{pair}
use Rattle.rules.specs.Programs.{Stmt, org, pad}
use Rattle.rules.specs.Output.{frame_of}
use Rattle.grammar.specs.Reading.{is_decimal, look}
use Rattle.grammar.specs.Going.{Read, got, stuck, digits}
use Rattle.plans.specs.Plans as plans
use Rattle.plans.specs.Plans.{Plan, done, fork, decimal, finish, Walks}
use Rattle.plans.specs.Finals.{counted, multiples}
use Rattle.plans.specs.Lines.{org_plan, align_plan}
use Rattle.laying.specs.Laying.{Stands, Added}
use Rattle.laying.proofs.Laying.{nothing_stands}
use Rattle.laying.specs.Speaking.{Held, Spoken, ends_at, number_of, Counted}
use Rattle.laying.proofs.Speaking.{through, done_spoken, fork_byte, fork_wrong, decimal_got, decimal_stuck}

pub counted_most : (s : List ℕ) (k most : ℕ) (r : Result (ℕ × ℕ) ℕ) (n v : ℕ) → r ≡ Ok (n, v) → Counted s k most r → v ≤ most
counted_most s k most r n v q c = (subst (λ x. Counted s k most x) q c).1.1

org_held : (a : List ℕ) (to n : ℕ) → Stands a to (5 ∷ pair n) 0 → Held a to (org n)
unfolding frame_of
org_held a to n w = w

pub org_ends : (s : List ℕ) (k : ℕ) (a : List ℕ) (r : Result (ℕ × ℕ) ℕ) (n v to : ℕ) → r ≡ Ok (n, v) → Counted s k 65535 r → Stands a to (5 ∷ pair v) 0
    → Spoken org_plan s k a (ends_at (length s) n to)
unfolding org_plan
org_ends s k a r n v to q c w =
    let y = subst (λ x. Counted s k 65535 x) q c in
    through (decimal 65535 (λ l. done (org l))) (done (org v)) s k n a (ends_at (length s) n to)
    (λ o g. decimal_got 65535 (λ l. done (org l)) (drop k s) (drop n s) v o y.0 g) (done_spoken (org v) s n a to y.1.0 (org_held a to v w))

pub org_wrong : (s : List ℕ) (k : ℕ) (a : List ℕ) (r : Result (ℕ × ℕ) ℕ) (n : ℕ) → r ≡ Err n → Counted s k 65535 r → Spoken org_plan s k a (Err n)
unfolding org_plan
org_wrong s k a r n q c =
    let y = subst (λ x. Counted s k 65535 x) q c in (decimal_stuck 65535 (λ l. done (org l)) (drop k s) (drop n s) y.0, y.1)

-- ---- pads

pub pad_stands : (b₀ b₁ b₂ b₃ b₄ : List ℕ) (add m hi lo p q r to : ℕ) → length b₀ ≡ 120 → Added b₀ b₁ 0 p (8 ∷ []) 0
    → Added b₁ b₂ p q (add ∷ []) 0
    → Added b₂ b₃ q r (hi ∷ []) 0 → Added b₃ b₄ r to (lo ∷ []) 0 → hi ≡ m / 256 → lo ≡ m % 256 → Stands b₄ to (frame_of (pad add m)) 0
unfolding frame_of
pad_stands b₀ b₁ b₂ b₃ b₄ add m hi lo p q r to e x y z w u v =
    subst (λ n. Stands b₄ to (8 ∷ add ∷ n ∷ m % 256 ∷ []) 0) u
    (subst (λ n. Stands b₄ to (8 ∷ add ∷ hi ∷ n ∷ []) 0) v
    (w.adds (8 ∷ add ∷ hi ∷ []) 0 (z.adds (8 ∷ add ∷ []) 0 (y.adds (8 ∷ []) 0 (x.adds [] 0 (nothing_stands b₀ e))))))

multiples_is : (f : ℕ → Stmt) (t : List ℕ) (o : Read ℕ) → number_of 256 t ≡ o → multiples 256 f t ≡ counted f o
unfolding multiples number_of
multiples_is f t o e = on (is_decimal (look t)) refl e
  where
    on : (b : Bool) → is_decimal (look t) ≡ b → cond b (digits 256 0 t) (stuck t) ≡ o
        → cond b (counted f (digits 256 0 t)) (stuck t) ≡ counted f o
    on true q e = ap (counted f) e
    on false q e = ap (counted f) e

module _ (add : ℕ) (s : List ℕ) (k : ℕ) (a : List ℕ) (r : Result (ℕ × ℕ) ℕ) (c : Counted s k 256 r) where
  pub multiple_not : (n : ℕ) → r ≡ Err n → Spoken (finish (multiples 256 (pad add))) s k a (Err n)
  multiple_not n q =
      let y = subst (λ x. Counted s k 256 x) q c in
      (plans.Walks.finishes (multiples_is (pad add) (drop k s) (stuck (drop n s)) y.0), y.1)

  module _ (n v : ℕ) (q : r ≡ Ok (n, v)) where
    pub multiple_sizes : (n ≤ length s) × (v ≤ 256)
    multiple_sizes = let y = subst (λ x. Counted s k 256 x) q c in y.1

    pub multiple_more : n < length s → Spoken (finish (multiples 256 (pad add))) s k a (Err n)
    multiple_more h =
        let y = subst (λ x. Counted s k 256 x) q c in (
          plans.Walks.finishes (multiples_is (pad add) (drop k s) (got v (drop n s)) y.0
              ∙ on v (drop n s) (omega (arith, length-drop n s))),
          y.1.0,
        )
      where
        on : (v : ℕ) (t : List ℕ) → 1 ≤ length t → counted (pad add) (got v t) ≡ stuck t
        on v [] l = absurd (omega arith)
        on zero (d ∷ t) l = refl
        on (suc v) (d ∷ t) l = refl

    pub multiple_zero : length s ≤ n → v < 1 → Spoken (finish (multiples 256 (pad add))) s k a (Err n)
    multiple_zero h z =
        let y = subst (λ x. Counted s k 256 x) q c in
        let e : drop n s ≡ [] = drop_of_length-le s h in (
          plans.Walks.finishes (multiples_is (pad add) (drop k s) (got v (drop n s)) y.0 ∙ ap (λ t. counted (pad add) (got v t)) e ∙ on v z
              ∙ ap stuck (sym e)),
          y.1.0,
        )
      where
        on : (v : ℕ) → v < 1 → counted (pad add) (got v []) ≡ stuck []
        on zero l = refl
        on (suc v) l = absurd (omega arith)

    pub multiple_ends : (to : ℕ) → length s ≤ n → 1 ≤ v → Stands a to (frame_of (pad add v)) 0
        → Spoken (finish (multiples 256 (pad add))) s k a (Ok to)
    multiple_ends to h z w =
        let y = subst (λ x. Counted s k 256 x) q c in
        let e : drop n s ≡ [] = drop_of_length-le s h in (
          pad add v,
          (
            plans.Walks.finishes (multiples_is (pad add) (drop k s) (got v (drop n s)) y.0 ∙ ap (λ t. counted (pad add) (got v t)) e
                ∙ on v z),
            w,
          ),
        )
      where
        on : (v : ℕ) → 1 ≤ v → counted (pad add) (got v []) ≡ got (pad add v) []
        on zero l = absurd (omega arith)
        on (suc v) l = refl

-- ---- `.align`

abbrev Comma : ℕ → Plan
Comma n = fork none (λ c. eqb c 44) (λ c. finish (multiples 256 (pad n)))

module _ (s : List ℕ) (k : ℕ) (a : List ℕ) (r : Result (ℕ × ℕ) ℕ) (c : Counted s k 255 r) where
  pub align_not : (n : ℕ) → r ≡ Err n → Spoken (align_plan pad) s k a (Err n)
  unfolding align_plan
  align_not n q =
      let y = subst (λ x. Counted s k 255 x) q c in (decimal_stuck 255 Comma (drop k s) (drop n s) y.0, y.1)

  module _ (n v : ℕ) (q : r ≡ Ok (n, v)) where
    pub align_sizes : (n ≤ length s) × (v ≤ 255)
    align_sizes = let y = subst (λ x. Counted s k 255 x) q c in y.1

    pub align_comma : (x : Result ℕ ℕ) → look (drop n s) ≡ 44 → Spoken (finish (multiples 256 (pad v))) s (n + 1) a x
        → Spoken (align_plan pad) s k a x
    unfolding align_plan
    align_comma x e g =
        let y = subst (λ x. Counted s k 255 x) q c in
        through (decimal 255 Comma) (finish (multiples 256 (pad v))) s k (n + 1) a x
        (λ o w.
        decimal_got 255 Comma (drop k s) (drop n s) v o y.0 (fork_byte none (λ c. eqb c 44) (λ c. finish (multiples 256 (pad v))) s n 43 o e
        refl w)) g

    pub align_wrong : (look (drop n s) ≡ 44 → ⊥) → Spoken (align_plan pad) s k a (Err n)
    unfolding align_plan
    align_wrong e =
        let y = subst (λ x. Counted s k 255 x) q c in (
          decimal_got 255 Comma (drop k s) (drop n s) v (stuck (drop n s)) y.0
              (fork_wrong (λ c. eqb c 44) (λ c. finish (multiples 256 (pad v))) (drop n s) (ne_eqb (look (drop n s)) 44 e)),
          y.1.0,
        )
