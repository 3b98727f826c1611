-- 4 and 7 to 11: what refuses an argument or item is what the row of its number says, and back.
use mathlib.Core.Path.{◌≡◌, refl, sym, ◌∙◌, ap, subst}
use mathlib.Core.Logic.{◌⊎◌, inl, inr, ⊎_elim}
use mathlib.Core.List.{List}
use mathlib.Core.Option.{Option, none, some}
use mathlib.Core.Bool.{true, false}
use Prim.Native.Nat.{ℕ, ◌+◌, ◌<◌}
use lib.Dec.{eqb}
use lib.IntN.{ℤ, pos, negsuc, ◌-ℤ◌}
use borrow.Author.Tests.{ltb-true, lt-ltb, eqb-false, ne_eqb}
use Rattle.rules.specs.declared.Unvalued.TheVariants.{Unknown, Nothing}
use Rattle.rules.specs.declared.Unvalued.{Unvalued}
use Rattle.std.specs.Prelude.{Result, Err, Ok}
use Rattle.laws.proofs.Tests.{clash, none_some}
use Rattle.rules.specs.declared.Kind.{Kind}
use Rattle.rules.specs.declared.Kind.TheVariants.{Reg, I8, D9, Bit, Rel8, A12, A16, Rel16}
use Rattle.rules.specs.declared.Refusal.{Refusal}
use Rattle.rules.specs.declared.Refusal.TheVariants.{NoName, NoValue, Range, Outside, Far, Page}
use Rattle.rules.specs.Answers.{at_place, Judged, ok, no, ◌>>=◌, require}
use Rattle.rules.specs.Values.{mod256, below, signed_byte, nat}
use Rattle.rules.specs.Encoding.{page, field}
use Rattle.rules.specs.Expressions.{Expr, eval_tree}
use Rattle.rules.specs.Forms.{size_at, operands_at}
use Rattle.rules.specs.Programs.{Placeℕ, Addressℕ, Operand, register, value, inner, Stmt, gone, instr, label, variable, comment, org, bytes, words, pad, Program, at}
use Rattle.rules.specs.Layout.{after, position}
use Rattle.rules.specs.Names.{key_of, Entry, context_at}
use Rattle.rules.specs.Judging.{value_at, worth, worth_of}
use Rattle.believed.specs.Causes.{nth, Argument, Item, argument_of, item_of, part_of, part_at, ComesToPart, amongst, ComesToExpr, of_argument, of_item, bound_of, OutOfRange, argument_out, item_out, is_relative, NoAddress, after_at, TooFar, OtherPage, OwnCause, of_4, of_7, of_8, of_9, of_10, of_11}
use Rattle.believed.proofs.Expressions.{unknown, nothing, entries_valued}
use Rattle.believed.proofs.Rows.{require_no}

-- an address is a number that is not negative
is_address : (v : ℤ) → below 65536 v ≡ true → (a : Addressℕ) × (v ≡ pos a) × (a < 65536)
is_address (pos a) e = (a, refl, ltb-true a 65536 e)
is_address (negsuc a) e = clash (cc)

module _ (text : List ℕ) (Short : Program → List ℕ → Type 0) (p : Program) (names : List Entry) (i : Placeℕ) (j : ℕ) (c : ComesToPart text p names i j) (r : Refusal) where
  given_by : (s : Refusal) → r ≡ s → OwnCause text Short s → OwnCause text Short r
  given_by s e h = subst (OwnCause text Short) (sym e) h

  -- ---- a value that is there
  module _ (x : Operand) (v : ℤ) (w : worth_of names p (context_at p i) x ≡ Ok v) where
    bounded : (d : Kind) → Argument p i j d x → (bound : ℕ) → bound_of d ≡ some bound
        → require (below bound v) (Range (at_place i) j v) (ok (nat v)) ≡ no r → OwnCause text Short r
    bounded d a bound b e =
        ⊎_elim (λ h. given_by (Range (at_place i) j v) h.1 (of_8 p names i j v c (argument_out d x bound a w b h.0))) (λ h. clash (cc h.1))
        (require_no (below bound v) (Range (at_place i) j v) (ok (nat v)) r e)

    outside : (d : Kind) → Argument p i j d x → is_relative d ≡ true → below 65536 v ≡ false → r ≡ Outside (at_place i) j v
        → OwnCause text Short r
    outside d a t h e =
        given_by (Outside (at_place i) j v) e (of_9 p names i j v c (record { kind = d; operand = x; argument = a; relative = t; valued = w; outside = h }))

    other_page : Argument p i j A12 x → below 65536 v ≡ true → eqb (page (nat v)) (page (after_at p i)) ≡ false → r ≡ Page (at_place i) j v
        → OwnCause text Short r
    other_page a b h e =
        let z = is_address v b in
        given_by (Page (at_place i) j v) e
        (of_11 p names i j v c (record {
          operand = x;
          argument = a;
          address = z.0;
          address_is = z.1;
          valued = w;
          is_address = z.2;
          differ = λ q. eqb-false (page (nat v)) (page (after_at p i)) h (ap (λ (u : ℤ). page (nat u)) z.1 ∙ q);
        }))

    too_far : Argument p i j Rel8 x → below 65536 v ≡ true → signed_byte (v -ℤ pos (after_at p i)) ≡ false
        → r ≡ Far (at_place i) j (v -ℤ pos (after_at p i)) → OwnCause text Short r
    too_far a b h e =
        let z = is_address v b in
        given_by (Far (at_place i) j (v -ℤ pos (after_at p i))) e
        (of_10 p names i j (v -ℤ pos (after_at p i)) c (record {
          operand = x;
          argument = a;
          address = z.0;
          valued = w ∙ ap Ok z.1;
          is_address = z.2;
          difference_is = ap (λ (u : ℤ). u -ℤ pos (after_at p i)) z.1;
          outside = h;
        }))

    field_row : (d : Kind) → Argument p i j d x → field i j (after_at p i) d v ≡ no r → OwnCause text Short r
    unfolding field
    field_row Reg a e = clash (cc)
    field_row I8 a e = bounded I8 a 256 refl e
    field_row D9 a e = bounded D9 a 512 refl e
    field_row Bit a e = bounded Bit a 8 refl e
    field_row A16 a e = bounded A16 a 65536 refl e
    field_row A12 a e =
        ⊎_elim (λ h. given_by (Range (at_place i) j v) h.1 (of_8 p names i j v c (argument_out A12 x 65536 a w refl h.0)))
        (λ h. ⊎_elim (λ k. other_page a h.0 k.0 k.1) (λ k. clash (cc k.1)) (require_no (eqb (page (nat v)) (page (after_at p i))) (Page (at_place i) j v) (ok (nat v)) r h.1))
        (require_no (below 65536 v) (Range (at_place i) j v) _ r e)
    field_row Rel8 a e =
        ⊎_elim (λ h. outside Rel8 a refl h.0 h.1)
        (λ h. ⊎_elim (λ k. too_far a h.0 k.0 k.1) (λ k. clash (cc k.1))
        (require_no (signed_byte (v -ℤ pos (after_at p i))) (Far (at_place i) j (v -ℤ pos (after_at p i))) (ok (mod256 (v -ℤ pos (after_at p i)))) r h.1))
        (require_no (below 65536 v) (Outside (at_place i) j v) _ r e)
    field_row Rel16 a e =
        ⊎_elim (λ h. outside Rel16 a refl h.0 h.1) (λ h. clash (cc h.1)) (require_no (below 65536 v) (Outside (at_place i) j v) (ok _) r e)

  -- ---- an expression that has none
  name_missing : (env : ℕ → Result ℤ Unvalued) (e : Expr) → ComesToExpr text p i env e → eval_tree env e ≡ Err Unknown → r ≡ NoName (at_place i)
      → OwnCause text Short r
  name_missing env e k h d = given_by (NoName (at_place i)) d (of_4 p i env e k (unknown env e h))

  value_missing : (env : ℕ → Result ℤ Unvalued) (e : Expr) → ((n : ℕ) → env n ≡ Err Nothing → ⊥) → ComesToExpr text p i env e
      → eval_tree env e ≡ Err Nothing → r ≡ NoValue (at_place i) → OwnCause text Short r
  value_missing env e valued k h d = given_by (NoValue (at_place i)) d (of_7 p i env e k (nothing env valued e h))

  among_valued : (n : ℕ) → amongst names p i n ≡ Err Nothing → ⊥
  among_valued = entries_valued names (key_of (context_at p i))

  -- ---- an argument, an item
  argument_row : (d : Kind) (x : Operand) → Argument p i j d x → (o : Result ℤ Unvalued) → worth_of names p (context_at p i) x ≡ o
      → value_at i o >>= field i j (after_at p i) d ≡ no r → OwnCause text Short r
  unfolding ◌>>=◌
  argument_row d x a (Ok v) w e = field_row x v w d a e
  argument_row d (register n) a (Err Unknown) w e = clash (cc)
  argument_row d (value t) a (Err Unknown) w e = name_missing (amongst names p i) t (of_argument names j d t c a) w (cc)
  argument_row d (inner s o) a (Err Unknown) w e = clash (cc)
  argument_row d (register n) a (Err Nothing) w e = clash (cc)
  argument_row d (value t) a (Err Nothing) w e = value_missing (amongst names p i) t among_valued (of_argument names j d t c a) w (cc)
  argument_row d (inner s o) a (Err Nothing) w e = clash (cc)

  item_row : (bound : ℕ) (t : Expr) → Item p i j bound t → (o : Result ℤ Unvalued) → worth names (context_at p i) t ≡ o
      → value_at i o >>= (λ v. require (below bound v) (Range (at_place i) j v) (ok (nat v))) ≡ no r → OwnCause text Short r
  unfolding ◌>>=◌
  item_row bound t a (Ok v) w e =
      ⊎_elim (λ h. given_by (Range (at_place i) j v) h.1 (of_8 p names i j v c (item_out bound t a w h.0))) (λ h. clash (cc h.1))
      (require_no (below bound v) (Range (at_place i) j v) (ok (nat v)) r e)
  item_row bound t a (Err Unknown) w e = name_missing (amongst names p i) t (of_item names j bound t c a) w (cc)
  item_row bound t a (Err Nothing) w e = value_missing (amongst names p i) t among_valued (of_item names j bound t c a) w (cc)

  of_items : (bound : ℕ) (es : List Expr) → ((at p i ≡ bytes es) × (bound ≡ 256)) ⊎ ((at p i ≡ words es) × (bound ≡ 65536))
      → (o : Option Expr) → nth es j ≡ o
      → item_of names p i j bound o ≡ no r → OwnCause text Short r
  of_items bound es d none a h = clash (cc)
  of_items bound es d (some t) a h =
      item_row bound t (record { items = es; stands = d; written = a }) (worth names (context_at p i) t) refl h

  of_statement : (s : Stmt) → at p i ≡ s → part_of names p i j s ≡ no r → OwnCause text Short r
  of_statement gone d e = clash (cc)
  of_statement (instr f xs k) d e = on (nth (operands_at f) j) (nth xs j) refl refl e
    where
      n : position p i + size_at f ≡ after_at p i
      n = sym (ap (after (position p i)) d)

      on : (u : Option Kind) (x : Option Operand) → nth (operands_at f) j ≡ u → nth xs j ≡ x
          → argument_of names p i j (position p i + size_at f) u x ≡ no r → OwnCause text Short r
      on none x a b h = clash (cc)
      on (some u) none a b h = clash (cc)
      on (some u) (some x) a b h =
          argument_row u x (record { form = f; args = xs; carried = k; stands = d; kind = a; written = b }) (worth_of names p (context_at p i) x) refl
          (subst (λ (m : ℕ). value_at i (worth_of names p (context_at p i) x) >>= field i j m u ≡ no r) n h)
  of_statement (label m) d e = clash (cc)
  of_statement (variable m t) d e = clash (cc)
  of_statement (comment x) d e = clash (cc)
  of_statement (org l) d e = clash (cc)
  of_statement (bytes es) d e = of_items 256 es (inl (d, refl)) (nth es j) refl e
  of_statement (words es) d e = of_items 65536 es (inr (d, refl)) (nth es j) refl e
  of_statement (pad add m) d e = clash (cc)

  -- a part that is refused has the cause of its number
  pub part_row : part_at names p i j ≡ no r → OwnCause text Short r
  part_row e = of_statement (at p i) refl e

-- ---- and back
module _ (p : Program) (names : List Entry) (i : Placeℕ) (j : ℕ) where
  argument_is : (d : Kind) (x : Operand) → Argument p i j d x
      → part_at names p i j ≡ value_at i (worth_of names p (context_at p i) x) >>= field i j (after_at p i) d
  argument_is d x a = rw (a.stands, a.kind, a.written)

  item_is : (bound : ℕ) (e : Expr) → Item p i j bound e
      → part_at names p i j
      ≡ value_at i (worth names (context_at p i) e) >>= (λ v. require (below bound v) (Range (at_place i) j v) (ok (nat v)))
  item_is bound e a = ⊎_elim (λ h. rw (h.0, a.written) (same (sym h.1))) (λ h. rw (h.0, a.written) (same (sym h.1))) a.stands
    where
      same : {b c : ℕ} → b ≡ c
          → value_at i (worth names (context_at p i) e) >>= (λ v. require (below b v) (Range (at_place i) j v) (ok (nat v)))
          ≡ value_at i (worth names (context_at p i) e) >>= (λ v. require (below c v) (Range (at_place i) j v) (ok (nat v)))
      same z =
          ap (λ (b : ℕ). value_at i (worth names (context_at p i) e) >>= (λ v. require (below b v) (Range (at_place i) j v) (ok (nat v)))) z

  bound_field : (n : Addressℕ) (d : Kind) (bound : ℕ) (v : ℤ) → bound_of d ≡ some bound → below bound v ≡ false
      → field i j n d v ≡ no (Range (at_place i) j v)
  unfolding field require
  bound_field n Reg bound v b h = none_some bound b
  bound_field n I8 bound v b h = let z : below 256 v ≡ false = ap (λ (m : ℕ). below m v) (cc) ∙ h in rw z
  bound_field n D9 bound v b h = let z : below 512 v ≡ false = ap (λ (m : ℕ). below m v) (cc) ∙ h in rw z
  bound_field n Bit bound v b h = let z : below 8 v ≡ false = ap (λ (m : ℕ). below m v) (cc) ∙ h in rw z
  bound_field n Rel8 bound v b h = none_some bound b
  bound_field n A12 bound v b h = let z : below 65536 v ≡ false = ap (λ (m : ℕ). below m v) (cc) ∙ h in rw z
  bound_field n A16 bound v b h = let z : below 65536 v ≡ false = ap (λ (m : ℕ). below m v) (cc) ∙ h in rw z
  bound_field n Rel16 bound v b h = none_some bound b

  pub row_8 : (v : ℤ) → OutOfRange names p i j v → part_at names p i j ≡ no (Range (at_place i) j v)
  unfolding ◌>>=◌ require
  row_8 v (argument_out d x bound a w b h) = argument_is d x a ∙ rw w (bound_field (after_at p i) d bound v b h)
  row_8 v (item_out bound e a w h) = item_is bound e a ∙ rw (w, h)

  pub row_9 : (v : ℤ) → NoAddress names p i j v → part_at names p i j ≡ no (Outside (at_place i) j v)
  unfolding ◌>>=◌
  row_9 v h = argument_is h.kind h.operand h.argument ∙ rw h.valued (on h.kind h.relative)
    where
      on : (d : Kind) → is_relative d ≡ true → field i j (after_at p i) d v ≡ no (Outside (at_place i) j v)
      on Reg t = clash (cc)
      on I8 t = clash (cc)
      on D9 t = clash (cc)
      on Bit t = clash (cc)
      on Rel8 t = unfold field require in rw h.outside
      on A12 t = clash (cc)
      on A16 t = clash (cc)
      on Rel16 t = unfold field require in rw h.outside

  pub row_10 : (v : ℤ) → TooFar names p i j v → part_at names p i j ≡ no (Far (at_place i) j v)
  unfolding ◌>>=◌ field require
  row_10 v h =
      let z : signed_byte (pos h.address -ℤ pos (after_at p i)) ≡ false = ap signed_byte (sym h.difference_is) ∙ h.outside in
      argument_is Rel8 h.operand h.argument ∙ rw (h.valued, lt-ltb h.address 65536 h.is_address, z)
      (ap (λ (d : ℤ). no (Far (at_place i) j d)) (sym h.difference_is))

  pub row_11 : (v : ℤ) → OtherPage names p i j v → part_at names p i j ≡ no (Page (at_place i) j v)
  unfolding ◌>>=◌ field require
  row_11 v h =
      let w = h.valued ∙ ap Ok h.address_is in
      argument_is A12 h.operand h.argument
      ∙ rw (w, lt-ltb h.address 65536 h.is_address, ne_eqb (page h.address) (page (after_at p i)) h.differ)
      (ap (λ (d : ℤ). no (Page (at_place i) j d)) (sym h.address_is))

  -- a value that is missing
  module _ (o : Result ℤ Unvalued) (r : Refusal) (d : value_at i o ≡ no r) where
    pub row_argument : (k : Kind) (e : Expr) → Argument p i j k (value e) → eval_tree (amongst names p i) e ≡ o → part_at names p i j ≡ no r
    row_argument k e a w = argument_is k (value e) a ∙ rw w (missing (field i j (after_at p i) k))
      where
        missing : {B : Type 0} (f : ℤ → Judged B) → value_at i o >>= f ≡ no r
        missing f = unfold ◌>>=◌ in rw d

    pub row_item : (bound : ℕ) (e : Expr) → Item p i j bound e → eval_tree (amongst names p i) e ≡ o → part_at names p i j ≡ no r
    row_item bound e a w = item_is bound e a ∙ rw w (unfold ◌>>=◌ in rw d)
