-- Which numbers each pass of judging gives, and that it names a statement of the program.
use mathlib.Core.Path.{◌≡◌, refl}
use mathlib.Core.List.{List, [], ◌∷◌, ◌++◌}
use mathlib.Core.Bool.{Bool, true}
use Prim.Native.Nat.{ℕ, suc, ◌+◌, ◌≤◌, ◌<◌}
use native.Mathlib.Omega.{arith}
use lib.Dec.{leb, eqb}
use lib.ListN.{length}
use lib.IntN.{ℤ, pos, ◌-ℤ◌}
use Rattle.rules.specs.declared.Unvalued.TheVariants.{Unknown, Nothing}
use Rattle.rules.specs.declared.Unvalued.{Unvalued}
use Rattle.std.specs.Prelude.{Result, Err, Ok}
use Rattle.rules.specs.declared.Refusal.{Refusal}
use Rattle.rules.specs.declared.Refusal.TheVariants.{Again, Back, Beyond, Range, Outside, Far, Page}
use Rattle.rules.specs.declared.Kind.{Kind}
use Rattle.rules.specs.declared.Kind.TheVariants.{Reg, I8, D9, Bit, Rel8, A12, A16, Rel16}
use Rattle.rules.specs.Refusals.{fault_of}
use Rattle.rules.specs.Answers.{at_place, Judged, ok, check_each, require}
use Rattle.rules.specs.Values.{below, signed_byte, nat}
use Rattle.rules.specs.Expressions.{Expr}
use Rattle.rules.specs.Forms.{size_at, operands_at}
use Rattle.rules.specs.Programs.{Placeℕ, Addressℕ, Operand, Stmt, gone, instr, label, variable, comment, org, bytes, words, Program, as_name, Space, empty, exactly, from, space_at, Naming as NamingOf, unnamed, labels, binds, naming_of, pad}
use Rattle.rules.specs.Layout.{after}
use Rattle.rules.specs.Names.{enter, Key, Entry, placed_from, placed}
use Rattle.rules.specs.Encoding.{page, field, byte, word}
use Rattle.rules.specs.Judging.{keys_in, are_new, no_name_twice, reaches, settles, positions_fit, value_at, worth, worth_of, define, define_all, fields, items, encode, encode_all, settles_in, define_in}
use Rattle.promises.specs.Demand1.{has_number, Blames}
use Rattle.promises.proofs.Says.{Says, says_less, says_require, says_bind, says_then, Nothing-more}

-- one of these numbers, and a place with P
pub record Tells (xs : List ℕ) (P : Placeℕ → Type 0) (r : Refusal) : Type 0 where
  pub number : has_number xs r ≡ true
  pub place : P (fault_of r).place

-- the numbers of each pass
abbrev Naming : (Placeℕ → Type 0) → Refusal → Type 0
Naming P r = Tells (3 ∷ []) P r

abbrev Laying : (Placeℕ → Type 0) → Refusal → Type 0
Laying P r = Tells (5 ∷ 6 ∷ []) P r

abbrev Defining : (Placeℕ → Type 0) → Refusal → Type 0
Defining P r = Tells (4 ∷ 7 ∷ []) P r

abbrev Encoding : (Placeℕ → Type 0) → Refusal → Type 0
Encoding P r = Tells (4 ∷ 7 ∷ 8 ∷ 9 ∷ 10 ∷ 11 ∷ []) P r

abbrev Any : {A : Type 0} → A → Type 0
Any a = Nothing-more a

-- ---- a statement at a place i with P: 3 aside, which its pass gives itself
module _ (P : Placeℕ → Type 0) where
  -- 5 and 6
  reaches_says : (i : Placeℕ) (q : Addressℕ) → P i → Says Any (Laying P) (reaches i q)
  reaches_says i q h = says_require Any (Laying P) (leb q 65536) (Beyond (at_place i)) (ok tt) (record { number = refl; place = h }) (λ t. tt)

  pub settles_says : (i : Placeℕ) (q : Addressℕ) (s : Stmt) → P i → Says Any (Laying P) (settles i q s)
  settles_says i q s h = on (space_at q s)
    where
      on : (x : Space) → Says Any (Laying P) (settles_in i q x)
      on empty = tt
      on (exactly n) = reaches_says i (q + n) h
      on (from l) = says_require Any (Laying P) (leb q l) (Back (at_place i)) (ok tt) (record { number = refl; place = h }) (λ t. tt)

  -- 4 and 7
  value_defines : (i : Placeℕ) (o : Result ℤ Unvalued) → P i → Says Any (Defining P) (value_at i o)
  value_defines i (Ok z) h = tt
  value_defines i (Err Unknown) h = record { number = refl; place = h }
  value_defines i (Err Nothing) h = record { number = refl; place = h }

  pub define_says : (above : List Entry) (i : Placeℕ) (k : ℕ) (q : Addressℕ) (s : Stmt) → P i → Says Any (Defining P) (define above i k q s)
  define_says above i k q s h = on (naming_of s)
    where
      on : (x : NamingOf) → Says Any (Defining P) (define_in above i k q x)
      on unnamed = tt
      on (labels m) = tt
      on (binds m e) = says_bind Any Any (Defining P) (value_at i (worth above k e)) _ (value_defines i (worth above k e) h) (λ z t. tt)

  -- 4, 7 and 8 to 11
  value_encodes : (i : Placeℕ) (o : Result ℤ Unvalued) → P i → Says Any (Encoding P) (value_at i o)
  value_encodes i (Ok z) h = tt
  value_encodes i (Err Unknown) h = record { number = refl; place = h }
  value_encodes i (Err Nothing) h = record { number = refl; place = h }

  range_says : (i : Placeℕ) (j : ℕ) (v : ℤ) (t : Bool) (y : Judged ℕ) → P i → Says Any (Encoding P) y → Says Any (Encoding P) (require t (Range (at_place i) j v) y)
  range_says i j v t y h k = says_require Any (Encoding P) t (Range (at_place i) j v) y (record { number = refl; place = h }) (λ e. k)

  outside_says : (i : Placeℕ) (j : ℕ) (v : ℤ) (t : Bool) (y : Judged ℕ) → P i → Says Any (Encoding P) y → Says Any (Encoding P) (require t (Outside (at_place i) j v) y)
  outside_says i j v t y h k = says_require Any (Encoding P) t (Outside (at_place i) j v) y (record { number = refl; place = h }) (λ e. k)

  field_says : (i : Placeℕ) (j : ℕ) (a : Addressℕ) (d : Kind) (v : ℤ) → P i → Says Any (Encoding P) (field i j a d v)
  unfolding field
  field_says i j a Reg v h = tt
  field_says i j a I8 v h = range_says i j v (below 256 v) (ok (nat v)) h tt
  field_says i j a D9 v h = range_says i j v (below 512 v) (ok (nat v)) h tt
  field_says i j a Bit v h = range_says i j v (below 8 v) (ok (nat v)) h tt
  field_says i j a Rel8 v h =
      outside_says i j v (below 65536 v) _ h
      (says_require Any (Encoding P) (signed_byte (v -ℤ pos a)) (Far (at_place i) j (v -ℤ pos a)) _ (record { number = refl; place = h }) (λ t. tt))
  field_says i j a A12 v h =
      range_says i j v (below 65536 v) _ h
      (says_require Any (Encoding P) (eqb (page (nat v)) (page a)) (Page (at_place i) j v) (ok (nat v)) (record { number = refl; place = h }) (λ t. tt))
  field_says i j a A16 v h = range_says i j v (below 65536 v) (ok (nat v)) h tt
  field_says i j a Rel16 v h = outside_says i j v (below 65536 v) _ h tt

  fields_say : (names : List Entry) (p : Program) (i : Placeℕ) (k a j : ℕ) (ds : List Kind) (xs : List Operand) → P i → Says Any (Encoding P) (fields names p i k a j ds xs)
  unfolding fields
  fields_say names p i k a j [] xs h = tt
  fields_say names p i k a j (d ∷ ds) [] h = tt
  fields_say names p i k a j (d ∷ ds) (x ∷ xs) h =
      says_bind Any Any (Encoding P) (value_at i (worth_of names p k x)) _ (value_encodes i (worth_of names p k x) h) (λ v t.
      says_bind Any Any (Encoding P) (field i j a d v) _ (field_says i j a d v h) (λ b t.
      says_bind Any Any (Encoding P) (fields names p i k a (suc j) ds xs) _ (fields_say names p i k a (suc j) ds xs h) (λ bs t. tt)))

  items_say : (names : List Entry) (bound : ℕ) (write : ℕ → List ℕ) (i : Placeℕ) (k j : ℕ) (es : List Expr) → P i → Says Any (Encoding P) (items names bound write i k j es)
  unfolding items
  items_say names bound write i k j [] h = tt
  items_say names bound write i k j (e ∷ es) h =
      says_bind Any Any (Encoding P) (value_at i (worth names k e)) _ (value_encodes i (worth names k e) h) (λ v t.
      says_bind Any Any (Encoding P) _ _
      (says_require Any (Encoding P) (below bound v) (Range (at_place i) j v) (items names bound write i k (suc j) es) (record { number = refl; place = h })
      (λ u. items_say names bound write i k (suc j) es h)) (λ bs u. tt))

  pub encode_says : (names : List Entry) (p : Program) (i : Placeℕ) (k : ℕ) (q : Addressℕ) (s : Stmt) → P i → Says Any (Encoding P) (encode names p i k q s)
  unfolding encode
  encode_says names p i k q gone h = tt
  encode_says names p i k q (instr f xs c) h =
      says_bind Any Any (Encoding P) (fields names p i k (q + size_at f) 0 (operands_at f) xs) _ (fields_say names p i k (q + size_at f) 0 (operands_at f) xs h) (λ vs t. tt)
  encode_says names p i k q (label m) h = tt
  encode_says names p i k q (variable m e) h = tt
  encode_says names p i k q (comment x) h = tt
  encode_says names p i k q (org l) h = tt
  encode_says names p i k q (bytes es) h = items_say names 256 byte i k 0 es h
  encode_says names p i k q (words es) h = items_say names 65536 word i k 0 es h
  encode_says names p i k q (pad add m) h = tt

-- ---- the passes, over n statements at most
module _ (n : ℕ) where
  abbrev BelowN : Placeℕ → Type 0
  BelowN i = i < n

  naming_from : (seen : List Key) (i k q : ℕ) (p : Program) → i + length p ≤ n → Says Any (Naming BelowN) (no_name_twice seen (placed_from i k q p))
  unfolding no_name_twice placed_from
  naming_from seen i k q [] h = tt
  naming_from seen i k q (s ∷ p) h =
      says_require Any (Naming BelowN) (are_new seen (keys_in (enter k s) (as_name s))) (Again (at_place i)) _ (record { number = refl; place = omega arith })
      (λ t. naming_from (keys_in (enter k s) (as_name s) ++ seen) (suc i) (enter k s) (after q s) p (omega arith))

  laying_from : (i k q : ℕ) (p : Program) → i + length p ≤ n → Says Any (Laying BelowN) (positions_fit (placed_from i k q p))
  unfolding positions_fit check_each placed_from
  laying_from i k q [] h = tt
  laying_from i k q (s ∷ p) h =
      says_then Any Any (Laying BelowN) (settles i q s) _ (settles_says BelowN i q s (omega arith)) (laying_from (suc i) (enter k s) (after q s) p (omega arith))

  defining_from : (above : List Entry) (i k q : ℕ) (p : Program) → i + length p ≤ n → Says Any (Defining BelowN) (define_all above (placed_from i k q p))
  unfolding define_all placed_from
  defining_from above i k q [] h = tt
  defining_from above i k q (s ∷ p) h =
      says_bind Any Any (Defining BelowN) (define above i (enter k s) q s) _ (define_says BelowN above i (enter k s) q s (omega arith))
      (λ names t. defining_from names (suc i) (enter k s) (after q s) p (omega arith))

  encoding_from : (names : List Entry) (p₀ : Program) (i k q : ℕ) (p : Program) → i + length p ≤ n → Says Any (Encoding BelowN) (encode_all names p₀ (placed_from i k q p))
  unfolding encode_all placed_from
  encoding_from names p₀ i k q [] h = tt
  encoding_from names p₀ i k q (s ∷ p) h =
      says_bind Any Any (Encoding BelowN) (encode names p₀ i (enter k s) q s) _ (encode_says BelowN names p₀ i (enter k s) q s (omega arith)) (λ b t.
      says_bind Any Any (Encoding BelowN) (encode_all names p₀ (placed_from (suc i) (enter k s) (after q s) p)) _
      (encoding_from names p₀ (suc i) (enter k s) (after q s) p (omega arith)) (λ r u. tt))

-- ---- over a whole program
module _ (p : Program) where
  blamed : {A : Type 0} (xs : List ℕ) (x : Judged A) → Says Any (λ r. Tells xs (λ i. i < length p) r) x → Says Any (λ r. Blames xs (length p) r) x
  blamed xs x h = says_less Any _ _ (λ r t. record { number = t.number; place = t.place }) x h

  -- 3 alone
  pub naming_says : Says Any (λ r. Blames (3 ∷ []) (length p) r) (no_name_twice [] (placed p))
  unfolding placed
  naming_says = blamed (3 ∷ []) (no_name_twice [] (placed p)) (naming_from (length p) [] 0 0 0 p (omega arith))

  -- 5 and 6 alone
  pub laying_says : Says Any (λ r. Blames (5 ∷ 6 ∷ []) (length p) r) (positions_fit (placed p))
  unfolding placed
  laying_says = blamed (5 ∷ 6 ∷ []) (positions_fit (placed p)) (laying_from (length p) 0 0 0 p (omega arith))

  -- 4 and 7 alone
  pub defining_says : Says Any (λ r. Blames (4 ∷ 7 ∷ []) (length p) r) (define_all [] (placed p))
  unfolding placed
  defining_says = blamed (4 ∷ 7 ∷ []) (define_all [] (placed p)) (defining_from (length p) [] 0 0 0 p (omega arith))

  -- 4, 7 and 8 to 11 alone
  pub encoding_says : (names : List Entry) → Says Any (λ r. Blames (4 ∷ 7 ∷ 8 ∷ 9 ∷ 10 ∷ 11 ∷ []) (length p) r) (encode_all names p (placed p))
  unfolding placed
  encoding_says names = blamed (4 ∷ 7 ∷ 8 ∷ 9 ∷ 10 ∷ 11 ∷ []) (encode_all names p (placed p)) (encoding_from (length p) names p 0 0 0 p (omega arith))
