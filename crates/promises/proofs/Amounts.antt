-- C-12: the argument's place and the number at fault that a refusal of encoding gives are those of the argument that was refused.
use mathlib.Core.Path.{◌≡◌, refl, sym, ap, subst}
use mathlib.Core.Logic.{◌⊎◌, inl, inr}
use mathlib.Core.List.{List, [], ◌∷◌}
use mathlib.Core.Bool.{true}
use Prim.Native.Nat.{ℕ, suc, ◌+◌, ◌<◌}
use native.Mathlib.Omega.{arith}
use lib.Dec.{eqb}
use lib.IntN.{ℤ, pos, ◌-ℤ◌}
use lib.ListN.{length, get_or}
use Rattle.rules.specs.declared.Unvalued.TheVariants.{Unknown, Nothing}
use Rattle.rules.specs.declared.Unvalued.{Unvalued}
use Rattle.std.specs.Prelude.{Result, Err, Ok}
use Rattle.laws.proofs.Tests.{clash}
use Rattle.rules.specs.declared.Kind.{Kind}
use Rattle.rules.specs.declared.Kind.TheVariants.{Reg, I8, D9, Bit, Rel8, A12, A16, Rel16}
use Rattle.rules.specs.declared.Refusal.{Refusal}
use Rattle.rules.specs.declared.Refusal.TheVariants.{Range}
use Rattle.rules.specs.Answers.{at_place, Judged, ok, no, ◌>>=◌, require}
use Rattle.rules.specs.Values.{below, signed_byte, nat, mod256}
use Rattle.rules.specs.Encoding.{page, field, byte, word}
use Rattle.rules.specs.Expressions.{Expr, num}
use Rattle.rules.specs.Forms.{size_at, operands_at}
use Rattle.rules.specs.Programs.{Placeℕ, Addressℕ, Operand, register, Stmt, gone, instr, label, variable, comment, org, bytes, words, pad, Program, at}
use Rattle.rules.specs.Layout.{after, position}
use Rattle.rules.specs.Names.{Entry, context_at}
use Rattle.rules.specs.Judging.{value_at, worth, worth_of, fields, items, encode}
use Rattle.promises.specs.Demand1.{has_number}
use Rattle.promises.specs.Faults.{Amounts, out_of_range, outside, far, other_page, NumberAtFault, no_value, of_argument, of_item, encode_at}
use Rattle.promises.proofs.Says.{Says, says_no, says_require}

-- nothing is said of an acceptance
abbrev Any : {A : Type 0} → A → Type 0
Any a = Unit

-- ---- one argument
field_amount : (i j : ℕ) (n : Addressℕ) (d : Kind) (v : ℤ) → Says Any (Amounts n i j v) (field i j n d v)
unfolding field
field_amount i j n Reg v = tt
field_amount i j n I8 v = says_require Any (Amounts n i j v) (below 256 v) _ _ out_of_range (λ t. tt)
field_amount i j n D9 v = says_require Any (Amounts n i j v) (below 512 v) _ _ out_of_range (λ t. tt)
field_amount i j n Bit v = says_require Any (Amounts n i j v) (below 8 v) _ _ out_of_range (λ t. tt)
field_amount i j n A16 v = says_require Any (Amounts n i j v) (below 65536 v) _ _ out_of_range (λ t. tt)
field_amount i j n A12 v =
    says_require Any (Amounts n i j v) (below 65536 v) _ _ out_of_range (λ t. says_require Any (Amounts n i j v) (eqb (page (nat v)) (page n)) _ _ other_page (λ u. tt))
field_amount i j n Rel8 v =
    says_require Any (Amounts n i j v) (below 65536 v) _ _ outside (λ t. says_require Any (Amounts n i j v) (signed_byte (v -ℤ pos n)) _ (ok (mod256 (v -ℤ pos n))) far (λ u. tt))
field_amount i j n Rel16 v = says_require Any (Amounts n i j v) (below 65536 v) _ _ outside (λ t. tt)

-- what refuses from argument j on: a value, or the argument m of those that are left
abbrev Of : {X : Type 0} → (X → Result ℤ Unvalued) → X → (n : Addressℕ) (i : Placeℕ) (j : ℕ) → List X → Refusal → Type 0
Of worth d n i j xs r = (has_number (4 ∷ 7 ∷ []) r ≡ true) ⊎ ((m : ℕ) × (v : ℤ) × (m < length xs) × (worth (get_or xs m d) ≡ Ok v) × Amounts n i (j + m) v r)

-- the first of them
of_first : {X : Type 0} (worth : X → Result ℤ Unvalued) (d : X) (n : Addressℕ) (i : Placeℕ) (j : ℕ) (x : X) (xs : List X) (v : ℤ) (r : Refusal) → worth x ≡ Ok v → Amounts n i j v r → Of worth d n i j (x ∷ xs) r
of_first worth d n i j x xs v r e a = let z : j ≡ j + 0 = omega arith in inr (0, v, omega arith, e, subst (λ (k : ℕ). Amounts n i k v r) z a)

-- a later one
of_later : {X : Type 0} (worth : X → Result ℤ Unvalued) (d : X) (n : Addressℕ) (i : Placeℕ) (j : ℕ) (x : X) (xs : List X) (r : Refusal) → Of worth d n i (suc j) xs r → Of worth d n i j (x ∷ xs) r
of_later worth d n i j x xs r (inl h) = inl h
of_later worth d n i j x xs r (inr h) = let z : suc j + h.0 ≡ j + suc h.0 = omega arith in inr (suc h.0, h.1, omega (arith, h.2), h.3, subst (λ (k : ℕ). Amounts n i k h.1 r) z h.4)

value_says : (i : Placeℕ) (o : Result ℤ Unvalued) → Says (λ v. o ≡ Ok v) (λ r. has_number (4 ∷ 7 ∷ []) r ≡ true) (value_at i o)
value_says i (Ok z) = refl
value_says i (Err Unknown) = refl
value_says i (Err Nothing) = refl

-- ---- the arguments of an instruction, and the items of data
bind_says : {A B : Type 0} (P : A → Type 0) (Q R : Refusal → Type 0) (x : Judged A) (f : A → Judged B) → Says P Q x → ((r : Refusal) → Q r → R r) → ((a : A) → P a → Says Any R (f a)) → Says Any R (x >>= f)
unfolding ◌>>=◌
bind_says P Q R (ok a) f h k g = g a h
bind_says P Q R (no r) f h k g = k r h

fields_amount : (names : List Entry) (p : Program) (i : Placeℕ) (k : ℕ) (n : Addressℕ) (j : ℕ) (ds : List Kind) (xs : List Operand)
    → Says Any (Of (worth_of names p k) (register 0) n i j xs) (fields names p i k n j ds xs)
unfolding fields
fields_amount names p i k n j [] xs = tt
fields_amount names p i k n j (d ∷ ds) [] = tt
fields_amount names p i k n j (d ∷ ds) (x ∷ xs) =
    let w : Operand → Result ℤ Unvalued = worth_of names p k in
    let R : Refusal → Type 0 = Of w (register 0) n i j (x ∷ xs) in
    bind_says (λ v. w x ≡ Ok v) (λ r. has_number (4 ∷ 7 ∷ []) r ≡ true) R (value_at i (w x)) _ (value_says i (w x)) (λ r h. inl h) (λ v e.
    bind_says Any (Amounts n i j v) R (field i j n d v) _ (field_amount i j n d v) (λ r a. of_first w (register 0) n i j x xs v r e a) (λ b t.
    bind_says Any (Of w (register 0) n i (suc j) xs) R (fields names p i k n (suc j) ds xs) _ (fields_amount names p i k n (suc j) ds xs) (λ r h. of_later w (register 0) n i j x xs r h) (λ bs u. tt)))

items_amount : (names : List Entry) (bound : ℕ) (write : ℕ → List ℕ) (n : Addressℕ) (i : Placeℕ) (k j : ℕ) (es : List Expr)
    → Says Any (Of (worth names k) (num (pos 0)) n i j es) (items names bound write i k j es)
unfolding items
items_amount names bound write n i k j [] = tt
items_amount names bound write n i k j (e ∷ es) =
    let w : Expr → Result ℤ Unvalued = worth names k in
    let R : Refusal → Type 0 = Of w (num (pos 0)) n i j (e ∷ es) in
    bind_says (λ v. w e ≡ Ok v) (λ r. has_number (4 ∷ 7 ∷ []) r ≡ true) R (value_at i (w e)) _ (value_says i (w e)) (λ r h. inl h) (λ v h.
    bind_says Any R R (require (below bound v) (Range (at_place i) j v) (items names bound write i k (suc j) es)) _
    (says_require Any R (below bound v) (Range (at_place i) j v) (items names bound write i k (suc j) es) (of_first w (num (pos 0)) n i j e es v (Range (at_place i) j v) h out_of_range)
    (λ t. later (items names bound write i k (suc j) es) (items_amount names bound write n i k (suc j) es)))
    (λ r x. x) (λ bs u. tt))
  where
    later : (x : Judged (List ℕ)) → Says Any (Of (worth names k) (num (pos 0)) n i (suc j) es) x → Says Any (Of (worth names k) (num (pos 0)) n i j (e ∷ es)) x
    later (ok b) h = tt
    later (no r) h = of_later (worth names k) (num (pos 0)) n i j e es r h

-- ---- a statement
module _ (names : List Entry) (p : Program) (i : Placeℕ) (r : Refusal) where
  from_argument : (f : ℕ) (xs : List Operand) (c : Placeℕ) → at p i ≡ instr f xs c → Of (worth_of names p (context_at p i)) (register 0) (position p i + size_at f) i 0 xs r → NumberAtFault names p i r
  from_argument f xs c e (inl h) = no_value h
  from_argument f xs c e (inr h) =
      let n : position p i + size_at f ≡ after (position p i) (at p i) = sym (ap (after (position p i)) e) in
      let z : 0 + h.0 ≡ h.0 = omega arith in
      of_argument f xs c h.0 h.1 e h.2 h.3 (subst (λ (k : ℕ). Amounts k i h.0 h.1 r) n (subst (λ (k : ℕ). Amounts (position p i + size_at f) i k h.1 r) z h.4))

  from_item : (es : List Expr) → (at p i ≡ bytes es) ⊎ (at p i ≡ words es) → Of (worth names (context_at p i)) (num (pos 0)) (after (position p i) (at p i)) i 0 es r → NumberAtFault names p i r
  from_item es e (inl h) = no_value h
  from_item es e (inr h) =
      let z : 0 + h.0 ≡ h.0 = omega arith in
      of_item es h.0 h.1 e h.2 h.3 (subst (λ (k : ℕ). Amounts (after (position p i) (at p i)) i k h.1 r) z h.4)

  by_statement : (s : Stmt) → at p i ≡ s → encode names p i (context_at p i) (position p i) s ≡ no r → NumberAtFault names p i r
  unfolding encode
  by_statement gone e h = clash (cc h)
  by_statement (instr f xs c) e h =
      from_argument f xs c e
      (says_no Any (Of (worth_of names p (context_at p i)) (register 0) (position p i + size_at f) i 0 xs) _ r
      (bind_says Any (Of (worth_of names p (context_at p i)) (register 0) (position p i + size_at f) i 0 xs) (Of (worth_of names p (context_at p i)) (register 0) (position p i + size_at f) i 0 xs)
      (fields names p i (context_at p i) (position p i + size_at f) 0 (operands_at f) xs) _ (fields_amount names p i (context_at p i) (position p i + size_at f) 0 (operands_at f) xs) (λ s x. x) (λ vs t. tt)) h)
  by_statement (label n) e h = clash (cc h)
  by_statement (variable n d) e h = clash (cc h)
  by_statement (comment x) e h = clash (cc h)
  by_statement (org l) e h = clash (cc h)
  by_statement (bytes es) e h =
      from_item es (inl e) (says_no Any (Of (worth names (context_at p i)) (num (pos 0)) (after (position p i) (at p i)) i 0 es) _ r (items_amount names 256 byte (after (position p i) (at p i)) i (context_at p i) 0 es) h)
  by_statement (words es) e h =
      from_item es (inr e) (says_no Any (Of (worth names (context_at p i)) (num (pos 0)) (after (position p i) (at p i)) i 0 es) _ r (items_amount names 65536 word (after (position p i) (at p i)) i (context_at p i) 0 es) h)
  by_statement (pad add m) e h = clash (cc h)

  -- number-at-fault: what encoding refuses has the argument's place and the number at fault
  pub number_at_fault : encode_at names p i ≡ no r → NumberAtFault names p i r
  number_at_fault h = by_statement (at p i) refl h
