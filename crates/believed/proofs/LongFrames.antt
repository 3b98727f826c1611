-- A frame is refused 2 exactly where an expression of it comes to its 33rd byte, and else 1.
use mathlib.Core.Path.{◌≡◌, refl, sym, ◌∙◌, ap, subst}
use mathlib.Core.Logic.{◌⊎◌, inl, inr, ⊎_elim}
use mathlib.Core.List.{List, [], ◌∷◌}
use mathlib.Core.Bool.{Bool, true, false, ◌&&◌, cond}
use Prim.Native.Nat.{ℕ, zero, suc, ◌+◌, ◌*◌, ◌≤◌}
use native.Mathlib.Omega.{arith}
use lib.Dec.{leb, ltb, eqb}
use lib.ListN.{length, drop}
use lib.Seq.{drop-drop}
use borrow.Author.Tests.{leb-true, ltb-true, le-leb, lt-ltb, eqb-true}
use Rattle.laws.proofs.Tests.{clash, and_true, and_both}
use Rattle.rules.specs.declared.Kind.{Kind}
use Rattle.rules.specs.declared.Kind.TheVariants.{Reg, I8, D9, Bit, Rel8, A12, A16, Rel16}
use Rattle.rules.specs.declared.Refusal.{Refusal}
use Rattle.rules.specs.declared.Refusal.TheVariants.{Broken, Limit}
use Rattle.rules.specs.Answers.{at_place, Judged, ok, no, ◌>>=◌, require, is_ok}
use Rattle.rules.specs.Expressions.{Expr, Parsed, got, long, broken, read_expr}
use Rattle.rules.specs.Forms.{operands_at}
use Rattle.rules.specs.Programs.{Placeℕ, Operand, register, value, Stmt, comment}
use Rattle.rules.specs.Listing.{Taken, taken, take_byte, take_pair, parsed, take_expr, take_register, take_value, take_operand, take_operands, take_exprs, take_items, alone, read_instr, read_label, read_variable, read_org, read_bytes, read_words, read_pad, read_frame, ListingForm, old_form, new_form, read_frame_in}
use Rattle.rules.proofs.Laws.{then_ok}
use Rattle.believed.specs.Causes.{is_register, OperandBegins, operand_here, behind_register, behind_expr, ItemBegins, item_here, item_later, Begins, in_instruction, in_variable, in_bytes, in_words, Reaches33}
use Rattle.believed.proofs.Rows.{require_no}

-- a refusal of two parts is the first's, or the second's after an acceptance
bind_no : {A B : Type 0} (x : Judged A) (f : A → Judged B) (r : Refusal) → x >>= f ≡ no r
    → (x ≡ no r) ⊎ ((a : A) × (x ≡ ok a) × (f a ≡ no r))
unfolding ◌>>=◌
bind_no (ok a) f r e = inr (a, refl, e)
bind_no (no s) f r e = inl (ap no (cc))

module _ (i : Placeℕ) where
  -- why bytes t are refused: broken, or long from where an expression begins
  abbrev Why : (ℕ → Type 0) → List ℕ → Refusal → Type 0
  Why Starts t r = (r ≡ Broken (at_place i)) ⊎ ((r ≡ Limit (at_place i)) × (k : ℕ) × Starts k × (read_expr (drop k t) ≡ long))

  -- what stands m bytes further on
  further : (Starts Later : ℕ → Type 0) (m : ℕ) (t : List ℕ) (r : Refusal) → ((k : ℕ) → Later k → Starts (m + k)) → Why Later (drop m t) r
      → Why Starts t r
  further Starts Later m t r f (inl h) = inl h
  further Starts Later m t r f (inr h) = inr (h.0, m + h.1, f h.1 h.2, ap read_expr (sym (drop-drop h.1 m t)) ∙ h.3)

  -- ---- parts
  byte_no : (s : List ℕ) (r : Refusal) → take_byte i s ≡ no r → r ≡ Broken (at_place i)
  unfolding take_byte
  byte_no [] r e = cc
  byte_no (b ∷ s) r e = clash (cc)

  pair_no : (s : List ℕ) (r : Refusal) → take_pair i s ≡ no r → r ≡ Broken (at_place i)
  unfolding take_pair
  pair_no s r e =
      ⊎_elim (byte_no s r) (λ h. ⊎_elim (byte_no h.0.rest r) (λ k. clash (cc k.2)) (bind_no (take_byte i h.0.rest) _ r h.2)) (bind_no (take_byte i s) _ r e)

  alone_no : {A : Type 0} (x : A) (s : List ℕ) (r : Refusal) → alone i x s ≡ no r → r ≡ Broken (at_place i)
  alone_no x [] r e = clash (cc)
  alone_no x (b ∷ s) r e = cc

  expr_no : (t : List ℕ) (r : Refusal) → take_expr i t ≡ no r → (r ≡ Broken (at_place i)) ⊎ ((r ≡ Limit (at_place i)) × (read_expr t ≡ long))
  unfolding take_expr
  expr_no t r e = on (read_expr t) refl e
    where
      on : (x : Parsed) → read_expr t ≡ x → parsed i t x ≡ no r → (r ≡ Broken (at_place i)) ⊎ ((r ≡ Limit (at_place i)) × (read_expr t ≡ long))
      on (got d n) h e = clash (cc)
      on long h e = inr (cc, h)
      on broken h e = inl (cc)

  expr_ok : (t : List ℕ) (x : Taken Expr) → take_expr i t ≡ ok x → (e : Expr) × (m : ℕ) × (read_expr t ≡ got e m) × (x.rest ≡ drop m t)
  unfolding take_expr
  expr_ok t x e = on (read_expr t) refl e
    where
      on : (y : Parsed) → read_expr t ≡ y → parsed i t y ≡ ok x → (e : Expr) × (m : ℕ) × (read_expr t ≡ got e m) × (x.rest ≡ drop m t)
      on (got d n) h e = let z : x ≡ record { it = d; rest = drop n t } = cc in (d, n, h, ap (λ (y : Taken Expr). y.rest) z)
      on long h e = clash (cc)
      on broken h e = clash (cc)

  expr_long : (t : List ℕ) → read_expr t ≡ long → take_expr i t ≡ no (Limit (at_place i))
  unfolding take_expr
  expr_long t e = rw e

  expr_got : (t : List ℕ) (e : Expr) (m : ℕ) → read_expr t ≡ got e m → take_expr i t ≡ ok (record { it = e; rest = drop m t })
  unfolding take_expr
  expr_got t e m h = rw h

  -- ---- items
  items_no : (n : ℕ) (t : List ℕ) (r : Refusal) → take_exprs i n t ≡ no r → Why (ItemBegins n t) t r
  unfolding take_exprs
  items_no zero t r e = clash (cc)
  items_no (suc n) t r e =
      ⊎_elim (λ h. ⊎_elim (λ k. inl k) (λ k. inr (k.0, 0, item_here n t, k.1)) (expr_no t r h))
      (λ h. on h.0 (expr_ok t h.0 h.1) (bind_no (take_exprs i n h.0.rest) _ r h.2) (items_no n h.0.rest r)) (bind_no (take_expr i t) _ r e)
    where
      on : (x : Taken Expr) → (e : Expr) × (m : ℕ) × (read_expr t ≡ got e m) × (x.rest ≡ drop m t)
          → (take_exprs i n x.rest ≡ no r) ⊎ ((a : Taken (List Expr)) × (take_exprs i n x.rest ≡ ok a) × (taken (x.it ∷ a.it) a.rest ≡ no r))
          → (take_exprs i n x.rest ≡ no r → Why (ItemBegins n x.rest) x.rest r) → Why (ItemBegins (suc n) t) t r
      on x d (inl h) below =
          further (ItemBegins (suc n) t) (ItemBegins n (drop d.1 t)) d.1 t r (λ k b. item_later n t d.0 d.1 k d.2 b)
          (subst (λ (u : List ℕ). Why (ItemBegins n u) u r) d.3 (below h))
      on x d (inr h) below = clash (cc h.2)

  items_long : {n : ℕ} {t : List ℕ} {k : ℕ} → ItemBegins n t k → read_expr (drop k t) ≡ long → take_exprs i n t ≡ no (Limit (at_place i))
  unfolding take_exprs ◌>>=◌
  items_long (item_here n t) e = rw (expr_long t e)
  items_long (item_later n t d m k g b) e =
      rw (expr_got t d m g, ◌>>=◌, items_long b (ap read_expr (drop-drop k m t) ∙ e))

  -- ---- operands
  value_is : (d : Kind) (t : List ℕ) → is_register d ≡ false → take_operand i d t ≡ take_value i t
  value_is Reg t h = clash (cc)
  value_is I8 t h = refl
  value_is D9 t h = refl
  value_is Bit t h = refl
  value_is Rel8 t h = refl
  value_is A12 t h = refl
  value_is A16 t h = refl
  value_is Rel16 t h = refl

  value_no : (t : List ℕ) (r : Refusal) → take_value i t ≡ no r → (r ≡ Broken (at_place i)) ⊎ ((r ≡ Limit (at_place i)) × (read_expr t ≡ long))
  unfolding take_value
  value_no t r e = ⊎_elim (expr_no t r) (λ h. clash (cc h.2)) (bind_no (take_expr i t) _ r e)

  value_ok : (t : List ℕ) (x : Taken Operand) → take_value i t ≡ ok x → (e : Expr) × (m : ℕ) × (read_expr t ≡ got e m) × (x.rest ≡ drop m t)
  unfolding take_value
  value_ok t x e =
      let h = then_ok (take_expr i t) _ x e in
      let k = expr_ok t h.0 h.1 in
      let z : x ≡ record { it = value h.0.it; rest = h.0.rest } = cc h.2 in
      (k.0, k.1, k.2, ap (λ (y : Taken Operand). y.rest) z ∙ k.3)

  -- one that is no register, then the others
  by_value : (d : Kind) (ds : List Kind) (t : List ℕ) (r : Refusal) → is_register d ≡ false
      → ((u : List ℕ) → take_operands i ds u ≡ no r → Why (OperandBegins ds u) u r)
      → take_operands i (d ∷ ds) t ≡ no r → Why (OperandBegins (d ∷ ds) t) t r
  unfolding take_operands
  by_value d ds t r v below e =
      ⊎_elim (λ h. ⊎_elim (λ k. inl k) (λ k. inr (k.0, 0, operand_here d ds t v, k.1)) (value_no t r (sym (value_is d t v) ∙ h)))
      (λ h. on h.0 (value_ok t h.0 (sym (value_is d t v) ∙ h.1)) (bind_no (take_operands i ds h.0.rest) _ r h.2)) (bind_no (take_operand i d t) _ r e)
    where
      on : (x : Taken Operand) → (e : Expr) × (m : ℕ) × (read_expr t ≡ got e m) × (x.rest ≡ drop m t)
          → (take_operands i ds x.rest ≡ no r) ⊎ ((a : Taken (List Operand)) × (take_operands i ds x.rest ≡ ok a) × (taken (x.it ∷ a.it) a.rest ≡ no r))
          → Why (OperandBegins (d ∷ ds) t) t r
      on x g (inl h) =
          further (OperandBegins (d ∷ ds) t) (OperandBegins ds (drop g.1 t)) g.1 t r (λ k b. behind_expr d ds t g.0 g.1 k v g.2 b)
          (subst (λ (u : List ℕ). Why (OperandBegins ds u) u r) g.3 (below x.rest h))
      on x g (inr h) = clash (cc h.2)

  by_register : (ds : List Kind) (t : List ℕ) (r : Refusal) → ((u : List ℕ) → take_operands i ds u ≡ no r → Why (OperandBegins ds u) u r)
      → take_operands i (Reg ∷ ds) t ≡ no r → Why (OperandBegins (Reg ∷ ds) t) t r
  unfolding take_operands take_register take_byte ◌>>=◌ require
  by_register ds [] r below e = inl (cc)
  by_register ds (b ∷ t) r below e = on (leb b 3) refl e
    where
      on : (x : Bool) → leb b 3 ≡ x
          → require x (Broken (at_place i)) (taken (register b) t) >>= (λ y. take_operands i ds y.rest >>= (λ a. taken (y.it ∷ a.it) a.rest)) ≡ no r
          → Why (OperandBegins (Reg ∷ ds) (b ∷ t)) (b ∷ t) r
      on true l h =
          ⊎_elim (λ k. further (OperandBegins (Reg ∷ ds) (b ∷ t)) (OperandBegins ds t) 1 (b ∷ t) r (λ n o. behind_register ds b t n (leb-true b 3 l) o) (below t k)) (λ k. clash (cc k.2))
          (bind_no (take_operands i ds t) _ r h)
      on false l h = inl (cc)

  operands_no : (ds : List Kind) (t : List ℕ) (r : Refusal) → take_operands i ds t ≡ no r → Why (OperandBegins ds t) t r
  operands_no [] t r e = clash (unfold take_operands in cc)
  operands_no (Reg ∷ ds) t r e = by_register ds t r (λ u. operands_no ds u r) e
  operands_no (I8 ∷ ds) t r e = by_value I8 ds t r refl (λ u. operands_no ds u r) e
  operands_no (D9 ∷ ds) t r e = by_value D9 ds t r refl (λ u. operands_no ds u r) e
  operands_no (Bit ∷ ds) t r e = by_value Bit ds t r refl (λ u. operands_no ds u r) e
  operands_no (Rel8 ∷ ds) t r e = by_value Rel8 ds t r refl (λ u. operands_no ds u r) e
  operands_no (A12 ∷ ds) t r e = by_value A12 ds t r refl (λ u. operands_no ds u r) e
  operands_no (A16 ∷ ds) t r e = by_value A16 ds t r refl (λ u. operands_no ds u r) e
  operands_no (Rel16 ∷ ds) t r e = by_value Rel16 ds t r refl (λ u. operands_no ds u r) e

  operands_long : {ds : List Kind} {t : List ℕ} {k : ℕ} → OperandBegins ds t k → read_expr (drop k t) ≡ long
      → take_operands i ds t ≡ no (Limit (at_place i))
  unfolding take_operands take_value take_register take_byte ◌>>=◌ require
  operands_long (operand_here d ds t v) e = rw (value_is d t v, expr_long t e)
  operands_long (behind_register ds b t k l o) e =
      let z : 1 + k ≡ suc k = omega arith in
      rw (le-leb b 3 l, operands_long o (ap (λ (n : ℕ). read_expr (drop n (b ∷ t))) (sym z) ∙ e))
  operands_long (behind_expr d ds t x m k v g o) e =
      rw (value_is d t v, expr_got t x m g, operands_long o (ap read_expr (drop-drop k m t) ∙ e))

  -- ---- frames, by the first byte
  instr_no : (s : List ℕ) (r : Refusal) → read_instr i s ≡ no r → Why (Begins (1 ∷ s)) (1 ∷ s) r
  unfolding read_instr take_byte ◌>>=◌
  instr_no [] r e = inl (cc)
  instr_no (f ∷ t) r e =
      ⊎_elim (λ h. ⊎_elim (λ k. inl k.1) (λ k. further (Begins (1 ∷ f ∷ t)) (OperandBegins (operands_at f) t) 2 (1 ∷ f ∷ t) r (λ n o. in_instruction f t n (ltb-true f 70 k.0) o) (operands_no (operands_at f) t r k.1))
      (require_no (ltb f 70) (Broken (at_place i)) (take_operands i (operands_at f) t) r h)) (λ h. inl (alone_no _ h.0.rest r h.2))
      (bind_no (require (ltb f 70) (Broken (at_place i)) (take_operands i (operands_at f) t)) _ r e)

  variable_no : (s : List ℕ) (r : Refusal) → read_variable i s ≡ no r → Why (Begins (3 ∷ s)) (3 ∷ s) r
  unfolding read_variable take_pair take_byte ◌>>=◌
  variable_no [] r e = inl (cc)
  variable_no (a ∷ []) r e = inl (cc)
  variable_no (a ∷ b ∷ t) r e =
      ⊎_elim (λ h. ⊎_elim (λ k. inl k.1) (λ k. ⊎_elim (λ l. inl l) (λ l. inr (l.0, 3, in_variable a b t (ltb-true (a * 256 + b) 0x8000 k.0), l.1)) (expr_no t r k.1))
      (require_no (ltb (a * 256 + b) 0x8000) (Broken (at_place i)) (take_expr i t) r h)) (λ h. inl (alone_no _ h.0.rest r h.2))
      (bind_no (require (ltb (a * 256 + b) 0x8000) (Broken (at_place i)) (take_expr i t)) _ r e)

  -- a count, then items
  counted_no : (kind n : ℕ) (t : List ℕ) (r : Refusal) → ((k : ℕ) → 1 ≤ n → n ≤ 16 → ItemBegins n t k → Begins (kind ∷ n ∷ t) (2 + k))
      → require (leb 1 n && leb n 16) (Broken (at_place i)) (take_exprs i n t) ≡ no r → Why (Begins (kind ∷ n ∷ t)) (kind ∷ n ∷ t) r
  counted_no kind n t r starts e =
      ⊎_elim (λ k. inl k.1)
      (λ k. let l = and_true (leb 1 n) (leb n 16) k.0 in
      further (Begins (kind ∷ n ∷ t)) (ItemBegins n t) 2 (kind ∷ n ∷ t) r (λ m o. starts m (leb-true 1 n l.0) (leb-true n 16 l.1) o) (items_no n t r k.1))
      (require_no (leb 1 n && leb n 16) (Broken (at_place i)) (take_exprs i n t) r e)

  bytes_no : (s : List ℕ) (r : Refusal) → read_bytes i s ≡ no r → Why (Begins (6 ∷ s)) (6 ∷ s) r
  unfolding read_bytes take_items take_byte ◌>>=◌
  bytes_no [] r e = inl (cc)
  bytes_no (n ∷ t) r e =
      ⊎_elim (counted_no 6 n t r (λ k a b o. in_bytes n t k a b o)) (λ h. inl (alone_no _ h.0.rest r h.2))
      (bind_no (require (leb 1 n && leb n 16) (Broken (at_place i)) (take_exprs i n t)) _ r e)

  words_no : (s : List ℕ) (r : Refusal) → read_words i s ≡ no r → Why (Begins (7 ∷ s)) (7 ∷ s) r
  unfolding read_words take_items take_byte ◌>>=◌
  words_no [] r e = inl (cc)
  words_no (n ∷ t) r e =
      ⊎_elim (counted_no 7 n t r (λ k a b o. in_words n t k a b o)) (λ h. inl (alone_no _ h.0.rest r h.2))
      (bind_no (require (leb 1 n && leb n 16) (Broken (at_place i)) (take_exprs i n t)) _ r e)

  label_no : (s : List ℕ) (r : Refusal) → read_label i s ≡ no r → r ≡ Broken (at_place i)
  unfolding read_label
  label_no s r e = ⊎_elim (pair_no s r) (λ h. alone_no _ h.0.rest r h.2) (bind_no (take_pair i s) _ r e)

  org_no : (s : List ℕ) (r : Refusal) → read_org i s ≡ no r → r ≡ Broken (at_place i)
  unfolding read_org
  org_no s r e = ⊎_elim (pair_no s r) (λ h. alone_no _ h.0.rest r h.2) (bind_no (take_pair i s) _ r e)

  pad_no : (s : List ℕ) (r : Refusal) → read_pad i s ≡ no r → r ≡ Broken (at_place i)
  unfolding read_pad
  pad_no s r e =
      ⊎_elim (byte_no s r) (λ h. ⊎_elim (pair_no h.0.rest r) (λ k. ⊎_elim (λ l. l.1) (λ l. alone_no _ k.0.rest r l.1)
      (require_no (leb 1 k.0.it && leb k.0.it 256) (Broken (at_place i)) _ r k.2)) (bind_no (take_pair i h.0.rest) _ r h.2)) (bind_no (take_byte i s) _ r e)

  -- the kind is n, or another
  by_kind : (k n : ℕ) (s : List ℕ) (r : Refusal) (x y : Judged Stmt) → (x ≡ no r → Why (Begins (n ∷ s)) (n ∷ s) r)
      → (y ≡ no r → Why (Begins (k ∷ s)) (k ∷ s) r)
      → cond (eqb k n) x y ≡ no r → Why (Begins (k ∷ s)) (k ∷ s) r
  by_kind k n s r x y f g e = on (eqb k n) refl e
    where
      on : (b : Bool) → eqb k n ≡ b → cond b x y ≡ no r → Why (Begins (k ∷ s)) (k ∷ s) r
      on true d h = subst (λ (m : ℕ). Why (Begins (m ∷ s)) (m ∷ s) r) (sym (eqb-true k n d)) (f h)
      on false d h = g h

  frame_no : (s : List ℕ) (r : Refusal) → read_frame i s ≡ no r → Why (Begins s) s r
  unfolding read_frame take_byte ◌>>=◌
  frame_no [] r e = inl (cc)
  frame_no (k ∷ s) r e =
      by_kind k 1 s r (read_instr i s) _ (instr_no s r)
      (by_kind k 2 s r (read_label i s) _ (λ h. inl (label_no s r h))
      (by_kind k 3 s r (read_variable i s) _ (variable_no s r)
      (by_kind k 4 s r (ok (comment s)) _ (λ h. clash (cc))
      (by_kind k 5 s r (read_org i s) _ (λ h. inl (org_no s r h))
      (by_kind k 6 s r (read_bytes i s) _ (bytes_no s r)
      (by_kind k 7 s r (read_words i s) _ (words_no s r)
      (by_kind k 8 s r (read_pad i s) (no (Broken (at_place i))) (λ h. inl (pad_no s r h)) (λ h. inl (cc))))))))) e

  begins_long : {s : List ℕ} {k : ℕ} → Begins s k → read_expr (drop k s) ≡ long → read_frame i s ≡ no (Limit (at_place i))
  unfolding read_frame read_instr read_variable read_bytes read_words take_items take_pair take_byte ◌>>=◌ require
  begins_long (in_instruction f t k l o) e =
      let z : 2 + k ≡ suc (suc k) = omega arith in
      rw (lt-ltb f 70 l, operands_long o (ap (λ (n : ℕ). read_expr (drop n (1 ∷ f ∷ t))) (sym z) ∙ e))
  begins_long (in_variable a b t l) e = rw (lt-ltb (a * 256 + b) 0x8000 l, expr_long t e)
  begins_long (in_bytes n t k a b o) e =
      let z : 2 + k ≡ suc (suc k) = omega arith in
      rw (and_both (leb 1 n) (leb n 16) (le-leb 1 n a) (le-leb n 16 b), items_long o (ap (λ (m : ℕ). read_expr (drop m (6 ∷ n ∷ t))) (sym z) ∙ e))
  begins_long (in_words n t k a b o) e =
      let z : 2 + k ≡ suc (suc k) = omega arith in
      rw (and_both (leb 1 n) (leb n 16) (le-leb 1 n a) (le-leb n 16 b), items_long o (ap (λ (m : ℕ). read_expr (drop m (7 ∷ n ∷ t))) (sym z) ∙ e))

  -- ---- of either form
  pub frame_refuses : (w : ListingForm) (s : List ℕ) (r : Refusal) → read_frame_in w i s ≡ no r
      → (r ≡ Broken (at_place i)) ⊎ ((r ≡ Limit (at_place i)) × Reaches33 w s)
  unfolding read_frame take_byte ◌>>=◌
  frame_refuses old_form s r e =
      ⊎_elim (λ h. inl h) (λ h. inr (h.0, record { lined = refl; place = h.1; begins = h.2; reaches = h.3 })) (frame_no s r e)
  frame_refuses new_form [] r e = inl (cc)
  frame_refuses new_form (k ∷ s) r e =
      ⊎_elim (λ h. inl h.1) (λ h. ⊎_elim (λ l. inl l) (λ l. inr (l.0, record { lined = h.0; place = l.1; begins = l.2; reaches = l.3 })) (frame_no (k ∷ drop 4 s) r h.1))
      (require_no (leb 4 (length s)) (Broken (at_place i)) (read_frame i (k ∷ drop 4 s)) r e)

  pub reaches_refuses : (w : ListingForm) (s : List ℕ) → Reaches33 w s → read_frame_in w i s ≡ no (Limit (at_place i))
  unfolding require
  reaches_refuses old_form s h = begins_long h.begins h.reaches
  reaches_refuses new_form [] h = clash (cc h.lined)
  reaches_refuses new_form (k ∷ s) h = rw h.lined (begins_long h.begins h.reaches)

  -- what is no frame, and has no expression that is too long, is broken
  pub broken_only : (w : ListingForm) (s : List ℕ) → is_ok (read_frame_in w i s) ≡ false → (Reaches33 w s → ⊥)
      → read_frame_in w i s ≡ no (Broken (at_place i))
  unfolding is_ok
  broken_only w s e n = on (read_frame_in w i s) refl e
    where
      on : (x : Judged Stmt) → read_frame_in w i s ≡ x → is_ok x ≡ false → read_frame_in w i s ≡ no (Broken (at_place i))
      on (ok y) d h = clash (cc)
      on (no r) d h = ⊎_elim (λ k. d ∙ ap no k) (λ k. absurd (n k.1)) (frame_refuses w s r d)
