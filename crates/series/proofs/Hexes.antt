-- A comment's bytes, pair by pair. Assumes nothing.
use mathlib.Core.Path.{◌≡◌, refl, sym, ap, ◌∙◌}
use mathlib.Core.List.{List, [], ◌∷◌, ◌++◌, append_assoc, append-nil}
use mathlib.Core.Bool.{Bool, true, false}
use Prim.Native.Nat.{ℕ, suc, ◌+◌, ◌*◌, ◌-◌, ◌≤◌, ◌<◌}
use native.Mathlib.Omega.{arith}
use lib.Dec.{leb}
use borrow.Author.Tests.{le-leb, lt-leb, leb-true, leb-false}
use Rattle.std.specs.Prelude.{Ok, Err}
use Rattle.laws.proofs.Tests.{false_true}
use lib.ListN.{length, drop, get_or, length-drop, drop_of_length-le}
use lib.Seq.{drop-cons}
use native.Mathlib.Numerals.{add-one}
use Rattle.rules.specs.Listing.{is_digit, digit}
use Rattle.rules.specs.Programs.{comment}
use Rattle.rules.specs.Output.{frame_of}
use Rattle.grammar.specs.Going.{Read, got, stuck, on_got}
use Rattle.plans.specs.Plans as plans
use Rattle.plans.specs.Plans.{Plan, finish, Walks}
use Rattle.plans.specs.Finals.{hexes, comments}
use Rattle.laying.specs.Laying.{Stands, Added}
use Rattle.laying.proofs.Laying.{nothing_stands}
use Rattle.laying.specs.Speaking.{Spoken}

on_same : (o : Read (List ℕ)) → on_got (λ r. [] ++ r) o ≡ o
on_same (got x r) = refl
on_same (stuck r) = refl

on_both : (xs : List ℕ) (v : ℕ) (o : Read (List ℕ)) → on_got (λ r. xs ++ r) (on_got (λ r. v ∷ r) o) ≡ on_got (λ r. (xs ++ (v ∷ [])) ++ r) o
on_both xs v (got x r) = ap (λ y. got y r) (sym (append_assoc xs (v ∷ []) x))
on_both xs v (stuck r) = refl

-- ---- one pair

no_first : (c : ℕ) (t : List ℕ) → is_digit c ≡ false → hexes (c ∷ t) ≡ stuck (c ∷ t)
unfolding hexes
no_first c [] e = rw e
no_first c (d ∷ t) e = rw e

no_second : (c : ℕ) (t : List ℕ) → is_digit c ≡ true → length t ≤ 0 → hexes (c ∷ t) ≡ stuck t
unfolding hexes
no_second c [] e h = rw e
no_second c (d ∷ t) e h = absurd (omega arith)

bad_second : (c d : ℕ) (t : List ℕ) → is_digit c ≡ true → is_digit d ≡ false → hexes (c ∷ d ∷ t) ≡ stuck (d ∷ t)
unfolding hexes
bad_second c d t e q = rw (e, q)

good_pair : (c d : ℕ) (t : List ℕ) → is_digit c ≡ true → is_digit d ≡ true
    → hexes (c ∷ d ∷ t) ≡ on_got (λ r. (digit c * 16 + digit d) ∷ r) (hexes t)
unfolding hexes
good_pair c d t e q = rw (e, q)

comments_is : (t : List ℕ) → 1 ≤ length t → comments t ≡ on_got (λ x. comment x) (hexes t)
unfolding comments
comments_is [] h = absurd (omega arith)
comments_is (c ∷ t) h = refl

-- ---- so far

pub record Paired (s : List ℕ) (k : ℕ) (b : List ℕ) (at i : ℕ) : Type 0 where
  pub xs : List ℕ
  pub stands : Stands b at (4 ∷ xs) 0
  pub leads : hexes (drop k s) ≡ on_got (λ r. xs ++ r) (hexes (drop i s))

pub none_paired : (s : List ℕ) (k : ℕ) (b₀ b₁ : List ℕ) (p : ℕ) → length b₀ ≡ 120 → Added b₀ b₁ 0 p (4 ∷ []) 0 → Paired s k b₁ p k
none_paired s k b₀ b₁ p e x = record { xs = []; stands = x.adds [] 0 (nothing_stands b₀ e); leads = sym (on_same (hexes (drop k s))) }

pub empty_comment : (s : List ℕ) (k : ℕ) (a : List ℕ) → k ≤ length s → length s ≤ k → Spoken (finish comments) s k a (Err k)
unfolding comments
empty_comment s k a h g = (plans.Walks.finishes (ap comments (drop_of_length-le s g) ∙ ap stuck (sym (drop_of_length-le s g))), h)

module _ (s : List ℕ) (k : ℕ) (b : List ℕ) (at i : ℕ) (some : k < length s) (p : Paired s k b at i) where
  -- what hexes comes to at i, it comes to at k
  stuck_so : (c : ℕ) → c ≤ length s → hexes (drop i s) ≡ stuck (drop c s) → Spoken (finish comments) s k b (Err c)
  stuck_so c h e = (
    plans.Walks.finishes (comments_is (drop k s) (omega (arith, length-drop k s))
        ∙ ap (on_got (λ x. comment x)) (p.leads ∙ ap (on_got (λ r. p.xs ++ r)) e)),
    h,
  )

  pub pair_first : i < length s → is_digit (get_or s i 0) ≡ false → Spoken (finish comments) s k b (Err i)
  pair_first h e =
      stuck_so i (omega arith) (ap hexes (drop-cons s i 0 h) ∙ no_first (get_or s i 0) (drop (suc i) s) e
      ∙ ap stuck (sym (drop-cons s i 0 h)))

  pub pair_cut : i < length s → is_digit (get_or s i 0) ≡ true → length s ≤ i + 1 → Spoken (finish comments) s k b (Err (i + 1))
  pair_cut h e g =
      stuck_so (i + 1) (omega arith)
      (ap hexes (drop-cons s i 0 h) ∙ no_second (get_or s i 0) (drop (suc i) s) e (omega (arith, length-drop (suc i) s))
      ∙ ap (λ n. stuck (drop n s)) (sym (add-one i)))

  two : i + 1 < length s → drop i s ≡ get_or s i 0 ∷ get_or s (i + 1) 0 ∷ drop (i + 2) s
  two h =
      let a : suc i ≡ i + 1 = sym (add-one i) in
      let c : suc (i + 1) ≡ i + 2 = omega arith in
      let k : i < length s = omega arith in
      drop-cons s i 0 k ∙ ap (λ n. get_or s i 0 ∷ drop n s) a ∙ ap (λ t. get_or s i 0 ∷ t) (drop-cons s (i + 1) 0 h
      ∙ ap (λ n. get_or s (i + 1) 0 ∷ drop n s) c)

  pub pair_second : i + 1 < length s → is_digit (get_or s i 0) ≡ true → is_digit (get_or s (i + 1) 0) ≡ false
      → Spoken (finish comments) s k b (Err (i + 1))
  pair_second h e q =
      let c : suc (i + 1) ≡ i + 2 = omega arith in
      stuck_so (i + 1) (omega arith)
      (ap hexes (two h) ∙ bad_second (get_or s i 0) (get_or s (i + 1) 0) (drop (i + 2) s) e q
      ∙ ap stuck (sym (drop-cons s (i + 1) 0 h ∙ ap (λ n. get_or s (i + 1) 0 ∷ drop n s) c)))

  pub pair_next : (a : List ℕ) (to v : ℕ) → i + 1 < length s → is_digit (get_or s i 0) ≡ true → is_digit (get_or s (i + 1) 0) ≡ true
      → v ≡ digit (get_or s i 0) * 16 + digit (get_or s (i + 1) 0) → Added b a at to (v ∷ []) 0 → Paired s k a to (i + 2)
  pair_next a to v h e q z x =
      record {
        xs = p.xs ++ (v ∷ []);
        stands = x.adds (4 ∷ p.xs) 0 p.stands;
        leads =
            p.leads ∙ ap (on_got (λ r. p.xs ++ r)) (ap hexes (two h) ∙ good_pair (get_or s i 0) (get_or s (i + 1) 0) (drop (i + 2) s) e q
            ∙ ap (λ v. on_got (λ r. v ∷ r) (hexes (drop (i + 2) s))) (sym z))
            ∙ on_both p.xs v (hexes (drop (i + 2) s));
      }

  pub pairs_end : length s ≤ i → Spoken (finish comments) s k b (Ok at)
  unfolding frame_of hexes
  pairs_end h = (
    comment p.xs,
    (
      plans.Walks.finishes (comments_is (drop k s) (omega (arith, length-drop k s))
          ∙ ap (on_got (λ x. comment x)) (p.leads ∙ ap (λ t. on_got (λ r. p.xs ++ r) (hexes t)) (drop_of_length-le s h))
          ∙ ap (λ x. got (comment x) []) (append-nil p.xs)),
      p.stands,
    ),
  )

-- ---- digits

pub hex_low : (c : ℕ) → c < 48 → false ≡ is_digit c
hex_low c h = rw (lt-leb 48 c h, lt-leb 65 c (omega arith))

pub hex_dec : (c : ℕ) → 48 ≤ c → c < 58 → true ≡ is_digit c
hex_dec c h l = rw (le-leb 48 c h, le-leb c 57 (omega arith))

pub hex_up : (c : ℕ) → 65 ≤ c → leb c 70 ≡ is_digit c
hex_up c h = rw (le-leb 48 c (omega arith), lt-leb c 57 (omega arith), le-leb 65 c h)

pub hex_gap : (c : ℕ) → 58 ≤ c → c < 65 → false ≡ is_digit c
hex_gap c h l = rw (le-leb 48 c (omega arith), lt-leb c 57 (omega arith), lt-leb 65 c l)

pub hex_least : (c : ℕ) → is_digit c ≡ true → 48 ≤ c
hex_least c e = on (leb 48 c) refl
  where
    on : (b : Bool) → leb 48 c ≡ b → 48 ≤ c
    on true q = leb-true 48 c q
    on false q = false_true (hex_low c (leb-false 48 c q) ∙ e)

pub hex_first : (c : ℕ) → is_digit c ≡ true → c < 58 → (c - 48 ≡ digit c) × (c - 48 ≤ 15)
hex_first c e h = (rw (le-leb c 57 (omega arith)), omega arith)

pub hex_second : (c : ℕ) → is_digit c ≡ true → 58 ≤ c → (c - 55 ≡ digit c) × (c - 55 ≤ 15)
hex_second c e h = (rw (lt-leb c 57 (omega arith)), on (leb 65 c) refl)
  where
    on : (b : Bool) → leb 65 c ≡ b → c - 55 ≤ 15
    on true q = omega (arith, leb-true c 70 (hex_up c (leb-true 65 c q) ∙ e))
    on false q = omega (arith, leb-false 65 c q)
