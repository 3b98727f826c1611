-- The list of stems, slot by slot: one more place or none, and how many bytes the places have. Assumes nothing.
use mathlib.Core.Path.{◌≡◌, refl, sym, ap, ◌∙◌, subst}
use mathlib.Core.List.{List, [], ◌∷◌, ◌++◌, append-nil}
use mathlib.Core.Logic.{⊎_elim}
use mathlib.Core.Bool.{Bool, true, false, not, cond}
use Prim.Native.Nat.{ℕ, zero, suc, ◌+◌, ◌*◌, ◌≤◌, ◌<◌}
use native.Mathlib.Numerals.{add-one}
use native.Mathlib.Omega.{arith}
use lib.ListN.{length, get_or, length-append}
use lib.Dec.{leb}
use Rattle.std.specs.List.{count_by, range_with_len}
use borrow.Author.Tests.{le-leb, lt-leb}
use Rattle.std.proofs.lemmas.List.{map-id}
use Rattle.std.proofs.lemmas.List.FromFn.{map-range_with_len_more}
use Rattle.std.proofs.lemmas.List.Sums.{sum_by-append}
use Rattle.laws.specs.Counts.{tab}
use Rattle.laws.specs.Lists.{each}
use Rattle.laws.proofs.Lists.{each_append, each_one}
use Rattle.laws.proofs.Counts.{rises}
use Rattle.laws.proofs.Tests.{lt_or_le}
use Rattle.rules.specs.Expressions.{pair}
use Rattle.rules.specs.Programs.{Placeℕ, Program, is_gone}
use Rattle.rules.specs.Output.{compact, stems_from}
use Rattle.slots.specs.Slots.{gone_form}
use Rattle.output.specs.Stems.{kept_to, list_of}
use Rattle.output.proofs.Listings.{kept_more}

-- ---- one more place, or none

module _ (forms : List ℕ) where
  pub kept_one : (i : ℕ) → get_or forms i 0 < gone_form → kept_to forms (i + 1) ≡ kept_to forms i ++ (i ∷ [])
  kept_one i n = kept_more forms i ∙ rw (lt-leb gone_form (get_or forms i 0) n)

  pub kept_none : (i : ℕ) → gone_form ≤ get_or forms i 0 → kept_to forms (i + 1) ≡ kept_to forms i
  kept_none i e = kept_more forms i ∙ rw (le-leb gone_form (get_or forms i 0) e, append-nil)

  pub counts_one : (i : ℕ) → get_or forms i 0 < gone_form → length (kept_to forms (i + 1)) ≡ length (kept_to forms i) + 1
  counts_one i n = ap length (kept_one i n) ∙ length-append (kept_to forms i) (i ∷ [])

  -- no slot takes a place away
  pub kept_within : (i n : ℕ) → i ≤ n → length (kept_to forms i) ≤ length (kept_to forms n)
  kept_within i n l = rises (λ k. length (kept_to forms k)) rise i n l
    where
      rise : (k : ℕ) → length (kept_to forms k) ≤ length (kept_to forms (suc k))
      rise k =
          let z : length (kept_to forms (suc k)) ≡ length (kept_to forms (k + 1)) = ap (λ m. length (kept_to forms m)) (sym (add-one k)) in
          ⊎_elim (λ n. omega (arith, counts_one k n)) (λ e. omega (arith, ap length (kept_none k e)))
          (lt_or_le (get_or forms k 0) gone_form)

-- ---- one entry for each statement that comes out

pub stems_many : (i : ℕ) (p : Program) → length (stems_from i p) ≡ length (compact p)
unfolding stems_from compact
stems_many i [] = refl
stems_many i (s ∷ p) = on (is_gone s) (stems_many (suc i) p)
  where
    on : (b : Bool) → length (stems_from (suc i) p) ≡ length (compact p)
        → length (cond b (stems_from (suc i) p) (i ∷ stems_from (suc i) p)) ≡ length (cond b (compact p) (s ∷ compact p))
    on true e = e
    on false e = ap suc e

-- ---- two bytes for each

pub length_list : (is : List Placeℕ) → length (list_of is) ≡ 2 * length is
unfolding list_of each
length_list [] = refl
length_list (i ∷ is) = omega (arith, length_list is)

pub list_more : (is : List Placeℕ) (i : Placeℕ) → list_of (is ++ (i ∷ [])) ≡ list_of is ++ pair i
unfolding list_of
list_more is i = each_append (λ k. pair k) is (i ∷ []) ∙ ap (λ (l : List ℕ). list_of is ++ l) (each_one (λ k. pair k) i)

-- ---- the places that pass a count

kept_length : (b : Bool) (n : ℕ) → cond (not b) 1 0 ≡ length (cond b [] (n ∷ []))
kept_length true n = refl
kept_length false n = refl

pub kept_count : (forms : List ℕ) (n : ℕ)
    → count_by (λ i. not (leb gone_form (get_or forms i 0))) (range_with_len 0 n) ≡ length (kept_to forms n)
unfolding kept_to each tab
kept_count forms zero = refl
kept_count forms (suc n) =
    let left : ℕ → Bool = λ i. not (leb gone_form (get_or forms i 0)) in
    let more : range_with_len 0 (n + 1) ≡ range_with_len 0 n ++ (n ∷ []) =
    sym (map-id (range_with_len 0 (n + 1))) ∙ map-range_with_len_more (λ x. x) 0 n n (omega arith)
    ∙ ap (λ l. l ++ (n ∷ [])) (map-id (range_with_len 0 n)) in
    let counted : count_by left (range_with_len 0 (n + 1)) ≡ count_by left (range_with_len 0 n) + (0 + cond (left n) 1 0) =
    ap (count_by left) more ∙ sum_by-append (λ x. cond (left x) 1 0) (range_with_len 0 n) (n ∷ []) in
    let kept : length (kept_to forms (n + 1)) ≡ length (kept_to forms n) + length (cond (leb gone_form (get_or forms n 0)) [] (n ∷ [])) =
    ap length (kept_more forms n) ∙ length-append (kept_to forms n) _ in
    let both : count_by left (range_with_len 0 (n + 1)) ≡ length (kept_to forms (n + 1)) =
    omega (arith, counted, kept, kept_count forms n, kept_length (leb gone_form (get_or forms n 0)) n) in
    subst (λ m. count_by left (range_with_len 0 m) ≡ length (kept_to forms m)) (add-one n) both
