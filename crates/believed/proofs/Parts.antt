-- "encoding by statement and argument": a statement is refused with the refusal of its first argument or item that is refused.
use mathlib.Core.Path.{◌≡◌, refl, sym, ◌∙◌, ap}
use mathlib.Core.Logic.{◌↔◌, ⊎_elim}
use mathlib.Core.List.{List, [], ◌∷◌}
use mathlib.Core.Option.{Option, none, some}
use mathlib.Core.Bool.{Bool, true, false}
use Prim.Native.Nat.{ℕ, zero, suc, ◌+◌, ◌<◌}
use native.Mathlib.Omega.{arith}
use lib.ListN.{length}
use Rattle.laws.specs.Options.{or_else, first_from}
use Rattle.laws.proofs.Tests.{none_some}
use Rattle.laws.proofs.Options.{first_from_ext, first_from_empty}
use Rattle.rules.specs.declared.Kind.{Kind}
use Rattle.rules.specs.declared.Refusal.{Refusal}
use Rattle.rules.specs.declared.Refusal.TheVariants.{Range}
use Rattle.rules.specs.Answers.{at_place, Judged, ok, no, ◌>>=◌, require}
use Rattle.rules.specs.Values.{below, nat}
use Rattle.rules.specs.Encoding.{field, byte, word}
use Rattle.rules.specs.Expressions.{Expr}
use Rattle.rules.specs.Patterns.{bytes_at}
use Rattle.rules.specs.Forms.{size_at, operands_at}
use Rattle.rules.specs.Programs.{Placeℕ, Addressℕ, Operand, Stmt, gone, instr, label, variable, comment, org, bytes, words, pad, Program, at}
use Rattle.rules.specs.Layout.{position}
use Rattle.rules.specs.Names.{Entry, context_at}
use Rattle.rules.specs.Judging.{value_at, worth, worth_of, fields, items, encode}
use Rattle.promises.specs.Faults.{FirstRefused, encode_at}
use Rattle.believed.specs.Causes.{nth, Argument, Item, argument_of, item_of, part_of, part_at}
use Rattle.believed.proofs.Refusals.{refusal_of, is_refusal, first_later, first_refused}

-- how many parts a statement has that are judged
abbrev pub parts_of : Stmt → ℕ
parts_of gone = 0
parts_of (instr f xs c) = length xs
parts_of (label n) = 0
parts_of (variable n e) = 0
parts_of (comment x) = 0
parts_of (org l) = 0
parts_of (bytes es) = length es
parts_of (words es) = length es
parts_of (pad add m) = 0

-- ---- three answers one behind the other, of which the last sees nothing of the others
three : {A B C D : Type 0} (x : Judged A) (y : A → Judged B) (z : Judged C) (g : B → C → D)
    → refusal_of (x >>= (λ a. y a >>= (λ b. z >>= (λ c. ok (g b c))))) ≡ or_else (refusal_of (x >>= y)) (refusal_of z)
unfolding ◌>>=◌ or_else
three (no r) y z g = refl
three {A} {B} {C} {D} (ok a) y z g = on (y a) z
  where
    on : (u : Judged B) (z : Judged C) → refusal_of (u >>= (λ b. z >>= (λ c. ok (g b c)))) ≡ or_else (refusal_of u) (refusal_of z)
    on (no r) z = refl
    on (ok b) (no r) = refl
    on (ok b) (ok c) = refl

-- a value, a test, the rest
tested : {A C D : Type 0} (x : Judged A) (t : A → Bool) (r : A → Refusal) (w : A → ℕ) (z : Judged C) (g : A → C → D)
    → refusal_of (x >>= (λ a. require (t a) (r a) z >>= (λ c. ok (g a c))))
    ≡ or_else (refusal_of (x >>= (λ a. require (t a) (r a) (ok (w a))))) (refusal_of z)
unfolding ◌>>=◌ or_else require
tested (no r) t f w z g = refl
tested {A} {C} {D} (ok a) t f w z g = on (t a) z
  where
    on : (b : Bool) (z : Judged C)
        → refusal_of (require b (f a) z >>= (λ c. ok (g a c))) ≡ or_else (refusal_of (require b (f a) (ok (w a)))) (refusal_of z)
    on false z = refl
    on true (no r) = refl
    on true (ok c) = refl

-- ---- arguments and items, from j on
module _ (names : List Entry) (p : Program) (i : Placeℕ) where
  argument_search : (n : Addressℕ) (j : ℕ) (ds : List Kind) (xs : List Operand)
      → refusal_of (fields names p i (context_at p i) n j ds xs)
      ≡ first_from (λ m. refusal_of (argument_of names p i (j + m) n (nth ds m) (nth xs m))) (length xs) 0
  unfolding fields first_from
  argument_search n j [] xs =
      sym (first_from_empty (λ m. refusal_of (argument_of names p i (j + m) n none (nth xs m))) (length xs) 0 (λ m a b. refl))
  argument_search n j (d ∷ ds) [] = refl
  argument_search n j (d ∷ ds) (x ∷ xs) =
      three (value_at i (worth_of names p (context_at p i) x)) (field i j n d) (fields names p i (context_at p i) n (suc j) ds xs) (λ b bs. b ∷ bs)
      ∙ ap (or_else (refusal_of (value_at i (worth_of names p (context_at p i) x) >>= field i j n d)))
      (argument_search n (suc j) ds xs ∙ first_from_ext _ (λ m. later (suc m)) (length xs) 0 (λ m a b. shifted m) ∙ sym (first_later later (length xs) 0))
      ∙ ap (λ (o : Option Refusal). or_else o (first_from later (length xs) 1)) (sym here)
    where
      later : ℕ → Option Refusal
      later m = refusal_of (argument_of names p i (j + m) n (nth (d ∷ ds) m) (nth (x ∷ xs) m))

      here : later 0 ≡ refusal_of (value_at i (worth_of names p (context_at p i) x) >>= field i j n d)
      here = let z : j + 0 ≡ j = omega arith in rw z

      shifted : (m : ℕ) → refusal_of (argument_of names p i (suc j + m) n (nth ds m) (nth xs m)) ≡ later (suc m)
      shifted m = let z : suc j + m ≡ j + suc m = omega arith in rw z

  item_search : (bound : ℕ) (write : ℕ → List ℕ) (j : ℕ) (es : List Expr)
      → refusal_of (items names bound write i (context_at p i) j es)
      ≡ first_from (λ m. refusal_of (item_of names p i (j + m) bound (nth es m))) (length es) 0
  unfolding items first_from
  item_search bound write j [] = refl
  item_search bound write j (e ∷ es) =
      tested (value_at i (worth names (context_at p i) e)) (below bound) (Range (at_place i) j) nat (items names bound write i (context_at p i) (suc j) es) _
      ∙ ap (or_else (refusal_of (value_at i (worth names (context_at p i) e) >>= (λ v. require (below bound v) (Range (at_place i) j v) (ok (nat v))))))
      (item_search bound write (suc j) es ∙ first_from_ext _ (λ m. later (suc m)) (length es) 0 (λ m a b. shifted m) ∙ sym (first_later later (length es) 0))
      ∙ ap (λ (o : Option Refusal). or_else o (first_from later (length es) 1)) (sym here)
    where
      later : ℕ → Option Refusal
      later m = refusal_of (item_of names p i (j + m) bound (nth (e ∷ es) m))

      here : later 0
          ≡ refusal_of (value_at i (worth names (context_at p i) e) >>= (λ v. require (below bound v) (Range (at_place i) j v) (ok (nat v))))
      here = let z : j + 0 ≡ j = omega arith in rw z

      shifted : (m : ℕ) → refusal_of (item_of names p i (suc j + m) bound (nth es m)) ≡ later (suc m)
      shifted m = let z : suc j + m ≡ j + suc m = omega arith in rw z

  -- ---- a statement
  zero_first : {X : Type 0} (f : ℕ → X → Judged ℕ) (x : ℕ → X) (n : ℕ)
      → first_from (λ m. refusal_of (f (0 + m) (x m))) n 0 ≡ first_from (λ m. refusal_of (f m (x m))) n 0
  zero_first f x n = first_from_ext _ _ n 0 (λ m a b. let z : 0 + m ≡ m = omega arith in ap (λ (k : ℕ). refusal_of (f k (x m))) z)

  -- what is made of the fields refuses nothing
  made : {A B : Type 0} (x : Judged A) (g : A → B) → refusal_of (x >>= (λ a. ok (g a))) ≡ refusal_of x
  unfolding ◌>>=◌
  made (ok a) g = refl
  made (no r) g = refl

  part_search : (s : Stmt)
      → refusal_of (encode names p i (context_at p i) (position p i) s) ≡ first_from (λ j. refusal_of (part_of names p i j s)) (parts_of s) 0
  unfolding encode first_from
  part_search gone = refl
  part_search (instr f xs c) =
      made (fields names p i (context_at p i) (position p i + size_at f) 0 (operands_at f) xs) (bytes_at f)
      ∙ argument_search (position p i + size_at f) 0 (operands_at f) xs
      ∙ zero_first (λ k (m : ℕ). argument_of names p i k (position p i + size_at f) (nth (operands_at f) m) (nth xs m)) (λ m. m) (length xs)
  part_search (label n) = refl
  part_search (variable n e) = refl
  part_search (comment x) = refl
  part_search (org l) = refl
  part_search (bytes es) = item_search 256 byte 0 es ∙ zero_first (λ k (m : ℕ). item_of names p i k 256 (nth es m)) (λ m. m) (length es)
  part_search (words es) = item_search 65536 word 0 es ∙ zero_first (λ k (m : ℕ). item_of names p i k 65536 (nth es m)) (λ m. m) (length es)
  part_search (pad add m) = refl

  -- a statement is refused with the refusal of its first part that is
  pub parts_refuse : (r : Refusal) → encode_at names p i ≡ no r ↔ FirstRefused (parts_of (at p i)) (part_at names p i) r
  parts_refuse r = (
    λ h. (first_refused (parts_of (at p i)) (part_at names p i) r).0 (sym (part_search (at p i)) ∙ ap refusal_of h),
    λ h. is_refusal (encode_at names p i) r (part_search (at p i) ∙ (first_refused (parts_of (at p i)) (part_at names p i) r).1 h),
  )

-- ---- where a part is
nth_below : {A : Type 0} (xs : List A) (j : ℕ) (x : A) → nth xs j ≡ some x → j < length xs
nth_below [] j x e = none_some x e
nth_below (y ∷ xs) zero x e = omega arith
nth_below (y ∷ xs) (suc j) x e = omega (arith, nth_below xs j x e)

pub argument_below : (p : Program) (i j : ℕ) (d : Kind) (x : Operand) → Argument p i j d x → j < parts_of (at p i)
argument_below p i j d x a = rw a.stands (nth_below a.args j x a.written)

pub item_below : (p : Program) (i j bound : ℕ) (e : Expr) → Item p i j bound e → j < parts_of (at p i)
item_below p i j bound e a =
    ⊎_elim (λ h. rw h.0 (nth_below a.items j e a.written)) (λ h. rw h.0 (nth_below a.items j e a.written)) a.stands
