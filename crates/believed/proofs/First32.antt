-- same-reading: an expression is read from its first 32 bytes.
use mathlib.Core.Path.{◌≡◌, refl, sym, ◌∙◌, ap}
use mathlib.Core.Logic.{⊎_elim}
use mathlib.Core.List.{List, [], ◌∷◌}
use mathlib.Core.Bool.{Bool, true, false, cond}
use Prim.Native.Nat.{ℕ, zero, suc, ◌+◌, ◌-◌, ◌≤◌, ◌<◌, min}
use native.Mathlib.Omega.{arith}
use lib.Dec.{leb, ltb}
use lib.ListN.{length, take, drop, length-take, length-drop}
use lib.Seq.{get_or-take}
use borrow.Author.Tests.{leb-true, leb-false, lt-ltb, le-ltb, le-leb, lt-leb}
use Rattle.laws.proofs.Tests.{lt_or_le}
use Rattle.rules.specs.declared.Op1.{Op1}
use Rattle.rules.specs.declared.Op2.{Op2}
use Rattle.rules.specs.declared.Tag.{Tag}
use Rattle.rules.specs.declared.Tag.TheVariants.{Number, Name, Two, One, Bad}
use Rattle.rules.specs.Expressions.{Expr, num, name, Parsed, got, long, broken, tag_of, lack_of, need, number_of, name_of, one_more, two_more, then_second, by_tag, parse, read_expr}
use Rattle.believed.specs.First32.{Plain, tree, out, bad, under_one, under_two, second, by_first, plain, told, read_first32, SameReading}

-- what is told where `room` bytes may be read of s
abbrev tell : (room : ℕ) → List ℕ → Plain → Parsed
tell room s (tree e n) = got e n
tell room s out = lack_of room s
tell room s bad = broken

-- what is lacking behind n bytes is lacking of the whole
lack_of_lem : (l m n k : ℕ) → l ≡ n + k → (r : ℕ) → r ≡ n + m → cond (ltb k m) broken long ≡ cond (ltb l r) broken long
lack_of_lem l m n k e r d =
    ⊎_elim (λ h. rw (lt-ltb k m h, lt-ltb l r (omega arith))) (λ h. rw (le-ltb k m h, le-ltb l r (omega arith))) (lt_or_le k m)

-- ---- the parts of a reading
one_told : (o : Op1) (m : ℕ) (b : ℕ) (s : List ℕ) (x : Plain) → one_more o (tell m s x) ≡ tell (suc m) (b ∷ s) (under_one o x)
unfolding one_more
one_told o m b s (tree e n) = refl
one_told o m b s bad = refl
one_told o m b s out = on (ltb (length s) m) ∙ lack_of_lem (suc (length s)) m 1 (length s) (omega arith) (suc m) (omega arith)
  where
    on : (t : Bool) → one_more o (cond t broken long) ≡ cond t broken long
    on true = refl
    on false = refl

two_told : (o : Op2) (e : Expr) (n m : ℕ) (b : ℕ) (s : List ℕ) → n ≤ m → n ≤ length s → (x : Plain)
    → two_more o e n (tell (m - n) (drop n s) x) ≡ tell (suc m) (b ∷ s) (under_two o e n x)
unfolding two_more
two_told o e n m b s l h (tree d k) = refl
two_told o e n m b s l h bad = refl
two_told o e n m b s l h out =
    on (ltb (length (drop n s)) (m - n))
    ∙ lack_of_lem (suc (length s)) (m - n) (suc n) (length (drop n s)) (omega (arith, length-drop n s)) (suc m) (omega arith)
  where
    on : (t : Bool) → two_more o e n (cond t broken long) ≡ cond t broken long
    on true = refl
    on false = refl

-- a leaf of k bytes behind the first
module _ (k m b : ℕ) (s : List ℕ) (f : List ℕ → Expr) (n : ℕ) (n_is : n ≡ suc k) (same : k ≤ length (take m s) → f (b ∷ take m s) ≡ f (b ∷ s)) where
  leaf_told : need n (suc m) (b ∷ s) (got (f (b ∷ s)) n)
      ≡ tell (suc m) (b ∷ s) (cond (leb k (length (take m s))) (tree (f (b ∷ take m s)) n) out)
  leaf_told = on (leb k (length (take m s))) refl
    where
      t : length (take m s) ≡ min m (length s)
      t = length-take m s

      on : (x : Bool) → leb k (length (take m s)) ≡ x
          → need n (suc m) (b ∷ s) (got (f (b ∷ s)) n) ≡ tell (suc m) (b ∷ s) (cond x (tree (f (b ∷ take m s)) n) out)
      on true e =
          let h : k ≤ length (take m s) = leb-true k (length (take m s)) e in
          rw (le-leb n (min (suc m) (suc (length s))) (omega (arith, t))) (ap (λ (y : Expr). got y n) (sym (same h)))
      on false e =
          let h : length (take m s) < k = leb-false k (length (take m s)) e in
          rw (lt-leb n (min (suc m) (suc (length s))) (omega (arith, t)))

number_same : (m b : ℕ) (s : List ℕ) → 4 ≤ length (take m s) → number_of (b ∷ take m s) ≡ number_of (b ∷ s)
number_same m b s h =
    let l : 4 ≤ m = omega (arith, length-take m s) in
    rw (get_or-take m s 0 0 (omega arith), get_or-take m s 1 0 (omega arith), get_or-take m s 2 0 (omega arith), get_or-take m s 3 0 (omega arith))

name_same : (m b : ℕ) (s : List ℕ) → 2 ≤ length (take m s) → name_of (b ∷ take m s) ≡ name_of (b ∷ s)
name_same m b s h =
    let l : 2 ≤ m = omega (arith, length-take m s) in
    rw (get_or-take m s 0 0 (omega arith), get_or-take m s 1 0 (omega arith))

-- no more bytes are taken than there are
abbrev Within : ℕ → Plain → Type 0
Within l (tree e n) = n ≤ l
Within l out = Unit
Within l bad = Unit

one_within : (o : Op1) (l : ℕ) (x : Plain) → Within l x → Within (suc l) (under_one o x)
one_within o l (tree e n) h = omega arith
one_within o l out h = tt
one_within o l bad h = tt

second_within : (o : Op2) (f : List ℕ → Plain) (s : List ℕ) → ((t : List ℕ) → Within (length t) (f t)) → (x : Plain)
    → Within (length s) x → Within (suc (length s)) (second o f s x)
second_within o f s h out k = tt
second_within o f s h bad k = tt
second_within o f s h (tree e n) k = on (f (drop n s)) (h (drop n s))
  where
    on : (x : Plain) → Within (length (drop n s)) x → Within (suc (length s)) (under_two o e n x)
    on (tree d m) l = omega (arith, length-drop n s)
    on out l = tt
    on bad l = tt

leaf_within : (k : ℕ) (t : Bool) (l : ℕ) (e : Expr) → (t ≡ true → suc k ≤ suc l) → Within (suc l) (cond t (tree e (suc k)) out)
leaf_within k true l e h = h refl
leaf_within k false l e h = tt

within : (f : ℕ) (s : List ℕ) → Within (length s) (plain f s)
unfolding plain
within zero s = tt
within (suc f) [] = tt
within (suc f) (b ∷ s) = on (tag_of b) (within f)
  where
    on : (t : Tag) → ((s : List ℕ) → Within (length s) (plain f s)) → Within (suc (length s)) (by_first t (plain f) b s)
    on Number h = leaf_within 4 (leb 4 (length s)) (length s) _ (λ e. let l = leb-true 4 (length s) e in omega arith)
    on Name h = leaf_within 2 (leb 2 (length s)) (length s) _ (λ e. let l = leb-true 2 (length s) e in omega arith)
    on (One o) h = one_within o (length s) (plain f s) (h s)
    on (Two o) h = second_within o (plain f) s h (plain f s) (h s)
    on Bad h = tt

nothing_taken : (k : ℕ) → take {A = ℕ} k [] ≡ []
nothing_taken zero = refl
nothing_taken (suc k) = refl

-- what follows n of the first m bytes
part_of : (n m : ℕ) (s : List ℕ) → take (m - n) (drop n s) ≡ drop n (take m s)
part_of zero m s = let z : m - 0 ≡ m = omega arith in rw z
part_of (suc n) zero s = let z : 0 - suc n ≡ 0 = omega arith in rw z
part_of (suc n) (suc m) [] = nothing_taken (suc m - suc n)
part_of (suc n) (suc m) (x ∷ s) = let z : suc m - suc n ≡ m - n = omega arith in rw z (part_of n m s)

-- ---- the whole
module _ (f m b : ℕ) (s : List ℕ) (below : (room : ℕ) (s : List ℕ) → room ≤ f → parse f room s ≡ tell room s (plain f (take room s))) (enough : m ≤ f) where
  second_told : (o : Op2) (x : Plain) → Within (length (take m s)) x
      → then_second o (parse f) (suc m) (b ∷ s) (tell m s x) ≡ tell (suc m) (b ∷ s) (second o (plain f) (take m s) x)
  unfolding then_second
  second_told o bad l = refl
  second_told o out l = on (ltb (length s) m) ∙ lack_of_lem (suc (length s)) m 1 (length s) (omega arith) (suc m) (omega arith)
    where
      on : (t : Bool) → then_second o (parse f) (suc m) (b ∷ s) (cond t broken long) ≡ cond t broken long
      on true = refl
      on false = refl
  second_told o (tree e n) l =
      let t = length-take m s in
      let y : suc m - (1 + n) ≡ m - n = omega arith in
      let z : 1 + n ≡ suc n = omega arith in
      rw (y, z, below (m - n) (drop n s) (omega arith), part_of n m s) (two_told o e n m b s (omega arith) (omega arith) (plain f (drop n (take m s))))

  tag_told : (t : Tag) → by_tag t (parse f) (suc m) (b ∷ s) ≡ tell (suc m) (b ∷ s) (by_first t (plain f) b (take m s))
  unfolding by_tag
  tag_told Number = leaf_told 4 m b s (λ x. num (number_of x)) 5 refl (λ h. ap num (number_same m b s h))
  tag_told Name = leaf_told 2 m b s (λ x. name (name_of x)) 3 refl (λ h. ap name (name_same m b s h))
  tag_told (One o) = let z : suc m - 1 ≡ m = omega arith in rw (z, below m s enough) (one_told o m b s (plain f (take m s)))
  tag_told (Two o) =
      let z : suc m - 1 ≡ m = omega arith in rw (z, below m s enough) (second_told o (plain f (take m s)) (within f (take m s)))
  tag_told Bad = refl

all_told : (f room : ℕ) (s : List ℕ) → room ≤ f → parse f room s ≡ tell room s (plain f (take room s))
unfolding parse plain
all_told zero room s h = rw (le-ltb (length s) room (omega arith))
all_told (suc f) zero s h = rw (lt-leb 1 (min 0 (length s)) (omega arith))
all_told (suc f) (suc m) [] h = rw (lt-leb 1 (min (suc m) 0) (omega arith))
all_told (suc f) (suc m) (b ∷ s) h =
    rw (le-leb 1 (min (suc m) (suc (length s))) (omega arith)) (tag_told f m b s (all_told f) (omega arith) (tag_of b))

-- 32 bytes ran out, or fewer
ran_out : (there : ℕ) → cond (leb 32 there) long broken ≡ cond (ltb there 32) broken long
ran_out there =
    ⊎_elim (λ h. rw (lt-leb 32 there h, lt-ltb there 32 h)) (λ h. rw (le-leb 32 there h, le-ltb there 32 h)) (lt_or_le there 32)

-- same-reading: the reader from the first 32 bytes is the one in use
pub same_reading : (s : List ℕ) → SameReading s
unfolding read_first32 read_expr
same_reading s = on (plain 32 (take 32 s)) ∙ sym (all_told 32 32 s (omega arith))
  where
    on : (x : Plain) → told (length s) x ≡ tell 32 s x
    on (tree e n) = refl
    on bad = refl
    on out = ran_out (length s)
