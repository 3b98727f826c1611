-- What is known of each pattern of the list, by one test that is computed over the list.
use mathlib.Core.Path.{◌≡◌, refl, sym, ap, ap₂, ◌∙◌}
use mathlib.Core.Bool.{Bool, true, false, ◌&&◌}
use mathlib.Core.List.{List, [], ◌∷◌, map}
use Prim.Native.Nat.{ℕ, ◌<◌}
use lib.Dec.{ltb}
use lib.ListN.{get_or}
use borrow.Author.Tests.{ltb-true}
use Rattle.laws.specs.Lists.{every}
use Rattle.laws.proofs.Lists.{every_at, get_or_map_in}
use Rattle.laws.proofs.Tests.{false_true, and_true}
use Rattle.rules.specs.Forms.{form_at, is_transfer, operands_at}
use Rattle.rules.specs.Rewriting.{Pattern, inverted, trampoline, patterns}
use Rattle.slots.specs.Slots.{gone_form, is_reg}
use Rattle.patterns.specs.declared.Pattern.{Pattern as Tried}
use Rattle.patterns.specs.declared.Pattern.TheVariants.{Inverted, Trampoline}
use Rattle.patterns.specs.Order.{pattern_at, pattern_of, Known}

-- two lists of tests are the same
abbrev same_tests : List Bool → List Bool → Bool
same_tests [] [] = true
same_tests [] (y ∷ ys) = false
same_tests (x ∷ xs) [] = false
same_tests (true ∷ xs) (y ∷ ys) = y && same_tests xs ys
same_tests (false ∷ xs) (true ∷ ys) = false
same_tests (false ∷ xs) (false ∷ ys) = same_tests xs ys

same_tests_lem : (xs ys : List Bool) → same_tests xs ys ≡ true → xs ≡ ys
same_tests_lem [] [] e = refl
same_tests_lem [] (y ∷ ys) e = false_true e
same_tests_lem (x ∷ xs) [] e = false_true e
same_tests_lem (true ∷ xs) (y ∷ ys) e = let h = and_true y (same_tests xs ys) e in ap₂ (λ (b : Bool) (l : List Bool). b ∷ l) (sym h.0) (same_tests_lem xs ys h.1)
same_tests_lem (false ∷ xs) (true ∷ ys) e = false_true e
same_tests_lem (false ∷ xs) (false ∷ ys) e = ap₂ (λ (b : Bool) (l : List Bool). b ∷ l) refl (same_tests_lem xs ys e)

abbrev registers : ℕ → List Bool
registers f = map (λ k. is_reg k) (operands_at f)

abbrev is_known : Pattern → Bool
is_known (inverted from to) = is_transfer from && (is_transfer to && (ltb to gone_form && same_tests (registers to) (registers from)))
is_known (trampoline f) = is_transfer f

known : (x : Pattern) → is_known x ≡ true → Known x
known (inverted from to) e =
    let a = and_true (is_transfer from) _ e in
    let b = and_true (is_transfer to) _ a.1 in
    let c = and_true (ltb to gone_form) _ b.1 in
    (a.0, record { known = ltb-true to gone_form c.0; registers = same_tests_lem (registers to) (registers from) c.1; transfer = b.0 ∙ sym a.0 })
known (trampoline f) e = e

each_known : every is_known patterns ≡ true
unfolding every is_transfer form_at
each_known = refl

pub pattern_known : (k : ℕ) → k < 23 → Known (pattern_at k)
pattern_known k l = known (pattern_at k) (every_at is_known patterns k (trampoline 0) l each_known)

-- ---- the list as the code has it

abbrev pub tried : Pattern → Tried
tried (inverted from to) = Inverted from to
tried (trampoline f) = Trampoline f

tried_back : (x : Pattern) → pattern_of (tried x) ≡ x
tried_back (inverted from to) = refl
tried_back (trampoline f) = refl

pub pattern_at_lem : (k : ℕ) (d : Tried) → k < 23 → pattern_of (get_or (map (λ x. tried x) patterns) k d) ≡ pattern_at k
pattern_at_lem k d l = ap pattern_of (get_or_map_in (λ x. tried x) patterns k (trampoline 0) d l) ∙ tried_back (pattern_at k)
