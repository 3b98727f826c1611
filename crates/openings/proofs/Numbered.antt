-- The words by number are the words that lines begin with, but for the two of names. Assumes nothing.
use mathlib.Core.Path.{◌≡◌, refl, sym, ap, ◌∙◌, subst}
use mathlib.Core.Logic.{◌⊎◌, inl, inr}
use mathlib.Core.List.{List, [], ◌∷◌, ◌++◌, append-nil}
use mathlib.Core.Bool.{Bool, true, false, ◌&&◌, cond}
use Prim.Native.Nat.{ℕ, suc, ◌-◌, ◌≤◌, ◌<◌}
use native.Mathlib.Omega.{arith}
use lib.Dec.{eqb, ltb}
use lib.ListN.{length, drop}
use borrow.Author.Tests.{lt-ltb, le-ltb, ltb-true, ltb-false, eqb-true, ne_eqb, eq-eqb}
use Rattle.laws.specs.Counts.{all_to}
use Rattle.laws.specs.Lists.{same}
use Rattle.laws.proofs.Tests.{eq_or_not, true_false, false_true, and_true, and_both}
use Rattle.instruction.proofs.Entries.{alike_at, holds_at}
use Rattle.rules.specs.Forms.{form_at, operands_at}
use Rattle.rules.specs.Patterns.{codes}
use Rattle.rules.specs.Programs.{comment, instr, bytes, words, pad}
use Rattle.text.specs.Text.{mnemonic}
use Rattle.text.specs.Words.{dot_word}
use Rattle.grammar.specs.Reading.{look}
use Rattle.plans.specs.Plans.{finish}
use Rattle.plans.specs.Words.{Word, opening, closing, In, here, there}
use Rattle.plans.specs.Families.{Way, way, args_plan, narrow, family, word_of, family_of, mnemonics}
use Rattle.plans.specs.Finals.{comments}
use Rattle.plans.specs.Lines.{global_plan, local_plan, org_plan, items_plan, align_plan, dot_words, word_list}
use Rattle.plans.specs.Fronts.{common, spelling, opens, Misses, Far}
use Rattle.plans.proofs.Heads.{word_form, form_word}
use Rattle.plans.proofs.Lined.{no_in, in_either, in_first, in_second}
use Rattle.openings.specs.Numbered.{word_at, tail_of}
use Rattle.openings.specs.declared.Begun.{Begun}
use Rattle.openings.specs.declared.Begun.TheVariants.{Global, Local, Row, Nothing}
use Rattle.openings.specs.Fronting.{FarTo, Started, Begins}

-- ---- by number

pub at_form : (i : ℕ) → i < 70 → word_at i ≡ word_of (mnemonic i) (family_of i)
unfolding word_at
at_form i h = rw (lt-ltb i 70 h)

-- the six from 70 on
pub from_seventy : (P : ℕ → Type 0) → P 70 → P 71 → P 72 → P 73 → P 74 → P 75 → (i : ℕ) → 70 ≤ i → i < 76 → P i
from_seventy P a b c d e f i l h = one (eq_or_not i 70)
  where
    last : i ≡ 75 → P i
    last q = subst P (sym q) f

    five : (i ≡ 74) ⊎ (i ≡ 74 → ⊥) → (i ≡ 75 ⊎ i ≡ 74) → P i
    five (inl q) z = subst P (sym q) e
    five (inr n) (inl q) = last q
    five (inr n) (inr q) = absurd (n q)

    four : (i ≡ 73) ⊎ (i ≡ 73 → ⊥) → (i ≡ 73 → ⊥) ⊎ (i ≡ 73) → 73 ≤ i → P i
    four (inl q) z k = subst P (sym q) d
    four (inr n) z k = five (eq_or_not i 74) (top (eq_or_not i 74))
      where
        top : (i ≡ 74) ⊎ (i ≡ 74 → ⊥) → i ≡ 75 ⊎ i ≡ 74
        top (inl q) = inr q
        top (inr m) = inl (omega (arith, n, m))

    three : (i ≡ 72) ⊎ (i ≡ 72 → ⊥) → 72 ≤ i → P i
    three (inl q) k = subst P (sym q) c
    three (inr n) k = four (eq_or_not i 73) (turn (eq_or_not i 73)) (omega (arith, n))
      where
        turn : (i ≡ 73) ⊎ (i ≡ 73 → ⊥) → (i ≡ 73 → ⊥) ⊎ (i ≡ 73)
        turn (inl q) = inr q
        turn (inr m) = inl m

    two : (i ≡ 71) ⊎ (i ≡ 71 → ⊥) → 71 ≤ i → P i
    two (inl q) k = subst P (sym q) b
    two (inr n) k = three (eq_or_not i 72) (omega (arith, n))

    one : (i ≡ 70) ⊎ (i ≡ 70 → ⊥) → P i
    one (inl q) = subst P (sym q) a
    one (inr n) = two (eq_or_not i 71) (omega (arith, n))

-- ---- each is among the words

dot_in : (w : Word) → In w dot_words → In w word_list
unfolding word_list
dot_in w i = in_first w dot_words mnemonics i

seventy_in : (i : ℕ) → 70 ≤ i → i < 76 → In (word_at i) word_list
unfolding word_at
seventy_in i l h =
    from_seventy (λ i. In (word_at i) word_list)
    (dot_in (opening (codes ".comment ") (finish comments)) (there (there (there (there (there (there here)))))))
    (dot_in (opening (codes ".org ") org_plan) (there (there here)))
    (dot_in (opening (codes ".byte ") (items_plan bytes 15 [])) (there (there (there here))))
    (dot_in (opening (codes ".word ") (items_plan words 15 [])) (there (there (there (there here)))))
    (dot_in (opening (codes ".align ") (align_plan pad)) (there (there (there (there (there (there (there here))))))))
    (dot_in (closing (codes ".comment") (comment [])) (there (there (there (there (there here))))))
    i l h

form_in : (i : ℕ) → i < 70 → In (word_at i) word_list
unfolding word_list
form_in i h = subst (λ w. In w (dot_words ++ mnemonics)) (sym (at_form i h))
    (in_second (word_of (mnemonic i) (family_of i)) dot_words mnemonics (form_word i h))

pub number_in : (i : ℕ) → i < 76 → In (word_at i) word_list
number_in i h = on (ltb i 70) refl
  where
    on : (b : Bool) → ltb i 70 ≡ b → In (word_at i) word_list
    on true q = form_in i (omega (arith, ltb_yes i q))
      where
        ltb_yes : (i : ℕ) → ltb i 70 ≡ true → i < 70
        ltb_yes i q = ltb-true i 70 q
    on false q = seventy_in i (ltb-false i 70 q) h

-- ---- each of the words is a name's or has a number

pub data Which (w : Word) : Type 0 where
  global : w ≡ opening (codes "g") global_plan → Which w
  local : w ≡ opening (codes ".l") local_plan → Which w
  numbered : (i : ℕ) → i < 76 → w ≡ word_at i → Which w

dot_which : (w : Word) → In w dot_words → Which w
unfolding word_at
dot_which w here = global refl
dot_which w (there here) = local refl
dot_which w (there (there here)) = numbered 71 (omega arith) refl
dot_which w (there (there (there here))) = numbered 72 (omega arith) refl
dot_which w (there (there (there (there here)))) = numbered 73 (omega arith) refl
dot_which w (there (there (there (there (there here))))) = numbered 75 (omega arith) refl
dot_which w (there (there (there (there (there (there here)))))) = numbered 70 (omega arith) refl
dot_which w (there (there (there (there (there (there (there here))))))) = numbered 74 (omega arith) refl
dot_which w (there (there (there (there (there (there (there (there i)))))))) = no_in w [] i refl

which : (w : Word) → In w word_list → Which w
unfolding word_list
which w i = on (in_either w dot_words mnemonics i)
  where
    on : In w dot_words ⊎ In w mnemonics → Which w
    on (inl j) = dot_which w j
    on (inr j) = let r = word_form w j in numbered r.0 (omega (arith, r.1.0)) (r.1.1 ∙ sym (at_form r.0 r.1.0))

-- ---- a line that begins with no name, and with none of the words

common_first : (c : ℕ) (x t : List ℕ) → (look t ≡ c → ⊥) → common (c ∷ x) t ≡ 0
unfolding common
common_first c x [] n = refl
common_first c x (d ∷ t) n = rw (ne_eqb c d (λ e. n (sym e)))

-- `.l` goes no further than `.org ` if it is not met
local_short : (t : List ℕ) → ((look t ≡ 46) × (look (drop 1 t) ≡ 108) → ⊥) → common (codes ".l") t ≤ common (codes ".org ") t
unfolding common
local_short [] n = omega arith
local_short (c ∷ t) n = on (eqb 46 c) refl
  where
    next : eqb 46 c ≡ true → common (108 ∷ []) t ≡ 0
    next q = common_first 108 [] t (λ e. n (sym (eqb-true 46 c q), e))

    on : (b : Bool) → eqb 46 c ≡ b → cond b (suc (common (108 ∷ []) t)) 0 ≤ cond b (suc (common (codes "org ") t)) 0
    on true q = omega (arith, next q)
    on false q = omega arith

short : (t : List ℕ) → ((look t ≡ 46) × (look (drop 1 t) ≡ 108) → ⊥) → common (codes ".l") t < 2
unfolding common
short [] n = omega arith
short (c ∷ t) n = on (eqb 46 c) refl
  where
    on : (b : Bool) → eqb 46 c ≡ b → cond b (suc (common (108 ∷ []) t)) 0 < 2
    on true q = omega (arith, common_first 108 [] t (λ e. n (sym (eqb-true 46 c q), e)))
    on false q = omega arith

pub far_all : (t : List ℕ) (c : ℕ) → FarTo 76 t c → (look t ≡ 103 → ⊥) → ((look t ≡ 46) × (look (drop 1 t) ≡ 108) → ⊥) → Far word_list t c
unfolding word_at
far_all t c f g l =
    record {
      misses = λ w i. misses w (which w i);
      most = λ w i. most w (which w i);
      some = some f.some;
    }
  where
    far_local : common (codes ".l") t ≤ common (codes ".org ") t
    far_local = local_short t l

    misses : (w : Word) → Which w → Misses (opens w) (spelling w) t
    misses w (global e) = subst (λ y. Misses (opens y) (spelling y) t) (sym e) (omega (arith, common_first 103 [] t g))
    misses w (local e) = subst (λ y. Misses (opens y) (spelling y) t) (sym e) (short t l)
    misses w (numbered i h e) = subst (λ y. Misses (opens y) (spelling y) t) (sym e) (f.misses i h)

    most : (w : Word) → Which w → common (spelling w) t ≤ c
    most w (global e) = subst (λ y. common (spelling y) t ≤ c) (sym e) (omega (arith, common_first 103 [] t g))
    most w (local e) = subst (λ y. common (spelling y) t ≤ c) (sym e) (omega (arith, far_local, f.most 71 (omega arith)))
    most w (numbered i h e) = subst (λ y. common (spelling y) t ≤ c) (sym e) (f.most i h)

    some : (c ≡ 0) ⊎ ((i : ℕ) × ((i < 76) × (common (spelling (word_at i)) t ≡ c)))
        → (c ≡ 0) ⊎ ((w : Word) × (In w word_list × (common (spelling w) t ≡ c)))
    some (inl e) = inl e
    some (inr (i, (h, e))) = inr (word_at i, (number_in i h, e))

-- ---- what a form's word is

abbrev has_arguments : ℕ → Bool
has_arguments f = ltb 0 (length (operands_at f))

-- a form without arguments is alone in its family
abbrev single : List Way → ℕ → Bool
single [] f = false
single (way g [] ∷ []) f = eqb g f
single (way g [] ∷ w ∷ ws) f = false
single (way g (k ∷ ks) ∷ ws) f = true

opens_test : (f : ℕ) → f < 70 → opens (word_of (mnemonic f) (family_of f)) ≡ has_arguments f
unfolding all_to narrow family same mnemonic form_at
opens_test f h = alike_at (λ f. opens (word_of (mnemonic f) (family_of f))) (λ f. has_arguments f) 70 tt f h

single_test : (f : ℕ) → f < 70 → single (family_of f) f ≡ true
unfolding all_to narrow family same mnemonic form_at
single_test f h = holds_at (λ f. single (family_of f) f) 70 tt f h

pub form_opens : (i : ℕ) → i < 70 → opens (word_at i) ≡ ltb 0 (length (operands_at i))
form_opens i h = ap opens (at_form i h) ∙ opens_test i h

word_spelling : (m : List ℕ) (ws : List Way) → spelling (word_of m ws) ≡ m ++ tail_of (opens (word_of m ws))
word_spelling m [] = refl
word_spelling m (way f [] ∷ []) = sym (append-nil m)
word_spelling m (way f [] ∷ w ∷ ws) = refl
word_spelling m (way f (k ∷ ks) ∷ ws) = refl

pub form_spelling : (i : ℕ) → i < 70 → spelling (word_at i) ≡ mnemonic i ++ tail_of (opens (word_at i))
form_spelling i h = subst (λ w. spelling w ≡ mnemonic i ++ tail_of (opens w)) (sym (at_form i h)) (word_spelling (mnemonic i) (family_of i))

pub dot_opens : (i : ℕ) → 70 ≤ i → i < 76 → opens (word_at i) ≡ ltb i 75
unfolding word_at
dot_opens i l h = from_seventy (λ i. opens (word_at i) ≡ ltb i 75) refl refl refl refl refl refl i l h

pub dot_spelling : (i : ℕ) → 70 ≤ i → i < 76 → i < 75 → spelling (word_at i) ≡ dot_word (i - 66) ++ tail_of (opens (word_at i))
unfolding word_at dot_word
dot_spelling i l h =
    from_seventy (λ i. i < 75 → spelling (word_at i) ≡ dot_word (i - 66) ++ tail_of (opens (word_at i))) (λ k. refl) (λ k. refl) (λ k. refl)
    (λ k. refl) (λ k. refl)
    (λ k. absurd (omega arith)) i l h

pub last_spelling : (i : ℕ) → i ≡ 75 → spelling (word_at i) ≡ dot_word 4 ++ tail_of (opens (word_at i))
unfolding word_at dot_word
last_spelling i e = subst (λ i. spelling (word_at i) ≡ dot_word 4 ++ tail_of (opens (word_at i))) (sym e) refl

opening_word : (m : List ℕ) (ws : List Way) → opens (word_of m ws) ≡ true → word_of m ws ≡ opening (m ++ (32 ∷ [])) (args_plan 3 ws [])
opening_word m [] e = refl
opening_word m (way f [] ∷ []) e = false_true e
opening_word m (way f [] ∷ w ∷ ws) e = refl
opening_word m (way f (k ∷ ks) ∷ ws) e = refl

closing_word : (m : List ℕ) (ws : List Way) (f : ℕ) → opens (word_of m ws) ≡ false → single ws f ≡ true
    → word_of m ws ≡ closing m (instr f [] 0)
closing_word m [] f e s = true_false e
closing_word m (way g [] ∷ []) f e s = ap (λ x. closing m (instr x [] 0)) (eqb-true g f s)
closing_word m (way g [] ∷ w ∷ ws) f e s = true_false e
closing_word m (way g (k ∷ ks) ∷ ws) f e s = true_false e

-- a form with arguments opens a line, and one without is a line
pub with_arguments : (i : ℕ) → i < 70 → 0 < length (operands_at i)
    → word_at i ≡ opening (mnemonic i ++ (32 ∷ [])) (args_plan 3 (family_of i) [])
with_arguments i h a = at_form i h ∙ opening_word (mnemonic i) (family_of i) (opens_test i h ∙ lt-ltb 0 (length (operands_at i)) a)

pub without_arguments : (i : ℕ) → i < 70 → length (operands_at i) ≤ 0 → word_at i ≡ closing (mnemonic i) (instr i [] 0)
without_arguments i h a =
    at_form i h ∙ closing_word (mnemonic i) (family_of i) i (opens_test i h ∙ le-ltb 0 (length (operands_at i)) a) (single_test i h)

-- ---- what a line begins with

pub local_is : (s : List ℕ) → eqb (look s) 46 && eqb (look (drop 1 s)) 108 ≡ true → (look s ≡ 46) × (look (drop 1 s) ≡ 108)
local_is s e =
    let p = and_true (eqb (look s) 46) (eqb (look (drop 1 s)) 108) e in (eqb-true (look s) 46 p.0, eqb-true (look (drop 1 s)) 108 p.1)

pub local_yes : (s : List ℕ) → (look s ≡ 46) × (look (drop 1 s) ≡ 108) → eqb (look s) 46 && eqb (look (drop 1 s)) 108 ≡ true
local_yes s p = and_both (eqb (look s) 46) (eqb (look (drop 1 s)) 108) (eq-eqb (look s) 46 p.0) (eq-eqb (look (drop 1 s)) 108 p.1)

pub begins_so : (t : List ℕ) (r : Begun) → Started t r → (look t ≡ 103 → ⊥) → ((look t ≡ 46) × (look (drop 1 t) ≡ 108) → ⊥) → Begins t r
begins_so t Global f g l = absurd f
begins_so t Local f g l = absurd f
begins_so t (Row i n) f g l = f
begins_so t (Nothing c) f g l = far_all t c f g l
