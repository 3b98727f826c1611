-- Arguments written one behind the other.
use mathlib.Core.Path.{◌≡◌, refl, sym, ap, ◌∙◌, subst}
use mathlib.Core.Bool.{false}
use mathlib.Core.List.{List, [], ◌∷◌, ◌++◌, append_assoc}
use Prim.Native.Nat.{ℕ, zero, suc, ◌+◌, ◌-◌, ◌≤◌, ◌<◌}
use native.Mathlib.Omega.{arith}
use lib.ListN.{length, get_or, drop, take}
use lib.Seq.{drop_at}
use Rattle.std.specs.Prelude.{None, Some}
use Rattle.laws.specs.Lists.{each}
use Rattle.laws.proofs.Tests.{clash}
use Rattle.laws.proofs.Stores.{rest_is}
use Rattle.rules.specs.declared.Kind.{Kind}
use Rattle.rules.specs.declared.Kind.TheVariants.{Reg, I8, D9, Bit, Rel8, A12, A16, Rel16}
use Rattle.rules.specs.Expressions.{Expr, got, parse, read_expr, bytes_of}
use Rattle.rules.specs.Forms.{operands_at}
use Rattle.rules.specs.Output.{operand_bytes}
use Rattle.rules.specs.Programs.{Operand, value}
use Rattle.expression.proofs.RoundTrip.{reads_expr}
use Rattle.instruction.specs.Tables.{operand_in}
use Rattle.instruction.proofs.Numbers.{few_operands}
use Rattle.slots.specs.Slots.{is_reg}
use Rattle.text.specs.Fits.{ExprFits, OperandFits, is_register, is_value, OperandsFit}
use Rattle.text.specs.Text.{expr_text, arg_text, args_text}
use Rattle.terms.specs.Writing.{Wrote, Told}
use Rattle.wording.specs.Writing.{Registered, Argued, Arguing}
use Rattle.terms.proofs.Writes.{wrote_then, wrote_none, same_text}

-- ---- one argument

pub no_register : (s b : List ℕ) (at : ℕ) → length b ≡ 1024 → at ≤ 1025 → (1 ≤ length s → 3 < get_or s 0 0) → Registered s b b at 0 at
no_register s b at z m h = record { size = z; bound = m; within = omega arith; is = λ r rest e k. absurd (far r rest e k) }
  where
    far : (r : ℕ) (rest : List ℕ) → s ≡ r ∷ rest → r ≤ 3 → ⊥
    far r rest e k = omega (arith, h (subst (λ y. 1 ≤ length y) (sym e) (omega arith)), ap (λ y. get_or y 0 0) e)

pub one_register : {b a : List ℕ} {at to : ℕ} (s : List ℕ) → 1 ≤ length s → Wrote b a at (64 ∷ 82 ∷ (48 + get_or s 0 0) ∷ []) to
    → Registered s b a at 1 to
one_register s h p =
    record {
      size = p.size;
      bound = p.within;
      within = h;
      is =
          λ r rest e k. (same_text (ap (λ y. 64 ∷ 82 ∷ (48 + get_or y 0 0) ∷ []) e) p, refl);
    }

pub register_argued : {b a : List ℕ} {at t to : ℕ} (s : List ℕ) → Registered s b a at t to → Argued Reg s b a at t to
register_argued {b} {a} {at} {t} {to} s r = record { size = r.size; bound = r.bound; within = r.within; is = on }
  where
    on : (x : Operand) (rest : List ℕ) → OperandFits Reg x → s ≡ operand_bytes x ++ rest
        → Wrote b a at (arg_text Reg x) to × (t ≡ length (operand_bytes x))
    on x rest (is_register n p h) e = r.is n rest e h
    on x rest (is_value e p h) q = clash (cc)

-- an expression: `m` is what its kind marks it with
tree_argued : {b a₀ a : List ℕ} {at m₀ t to : ℕ} (s : List ℕ) (mark : List ℕ) → Wrote b a₀ at mark m₀ → Told false s a₀ a m₀ t to
    → (e : Expr) (rest : List ℕ) → ExprFits e → s ≡ bytes_of e ++ rest
    → Wrote b a at (mark ++ expr_text e) to × (t ≡ length (bytes_of e))
unfolding read_expr
tree_argued s mark p w e rest k z =
    let g : parse 32 32 s ≡ got e (length (bytes_of e)) = ap (parse 32 32) z ∙ reads_expr e k.sound rest k.short in
    let x = w.tree 32 32 e (length (bytes_of e)) g in
    (wrote_then p x.0, x.1)

pub value_argued : {b a₀ a : List ℕ} {at m₀ t to : ℕ} (k : Kind) (s mark : List ℕ) → is_reg k ≡ false
    → ((e : Expr) → arg_text k (value e) ≡ mark ++ expr_text e) → Wrote b a₀ at mark m₀
    → Told false s a₀ a m₀ t to → Argued k s b a at t to
value_argued {b} {a₀} {a} {at} {m₀} {t} {to} k s mark n f p w = record { size = w.size; bound = w.bound; within = w.within; is = on }
  where
    on : (x : Operand) (rest : List ℕ) → OperandFits k x → s ≡ operand_bytes x ++ rest
        → Wrote b a at (arg_text k x) to × (t ≡ length (operand_bytes x))
    on x rest (is_register r q h) e = clash (cc)
    on x rest (is_value v q h) e = let y = tree_argued s mark p w v rest h e in (same_text (sym (f v)) y.0, y.1)

-- ---- the rest of the arguments

no_kinds : (by : ℕ) (s b : List ℕ) (at : ℕ) → length b ≡ 1024 → at ≤ 1025 → Arguing [] by s b b at at
unfolding args_text
no_kinds by s b at z m = record { size = z; bound = m; all = λ xs rest f e. wrote_none b at z m }

in_nothing : (ks : List Kind) (j : ℕ) → operand_in ks j ≡ None → drop j ks ≡ []
in_nothing [] zero e = refl
in_nothing [] (suc j) e = refl
in_nothing (k ∷ ks) zero e = clash (cc)
in_nothing (k ∷ ks) (suc j) e = in_nothing ks j e

in_is : (ks : List Kind) (j : ℕ) (k : Kind) → operand_in ks j ≡ Some k → drop j ks ≡ k ∷ drop (suc j) ks
in_is [] j k e = clash (cc)
in_is (l ∷ ks) zero k e = ap (λ y. y ∷ ks) (is e)
  where
    is : {x y : Kind} → Some x ≡ Some y → x ≡ y
    is e = cc
in_is (l ∷ ks) (suc j) k e = in_is ks j k e

past : (ks : List Kind) (j : ℕ) → length ks ≤ j → drop j ks ≡ []
past [] zero h = refl
past [] (suc j) h = refl
past (k ∷ ks) zero h = absurd (omega arith)
past (k ∷ ks) (suc j) h = past ks j (omega arith)

pub all_written : (form j by : ℕ) (s b : List ℕ) (at : ℕ) → length b ≡ 1024 → at ≤ 1025 → 2 < j
    → Arguing (drop j (operands_at form)) by s b b at at
all_written form j by s b at z m h =
    subst (λ ks. Arguing ks by s b b at at) (sym (past (operands_at form) j (omega (arith, few_operands form)))) (no_kinds by s b at z m)

pub none_left : (form j by : ℕ) (s b : List ℕ) (at : ℕ) → length b ≡ 1024 → at ≤ 1025 → operand_in (operands_at form) j ≡ None
    → Arguing (drop j (operands_at form)) by s b b at at
none_left form j by s b at z m e = subst (λ ks. Arguing ks by s b b at at) (sym (in_nothing (operands_at form) j e))
    (no_kinds by s b at z m)

fits_head : (k : Kind) (ks : List Kind) (x : Operand) (xs : List Operand) → OperandsFit (k ∷ ks) (x ∷ xs) → OperandFits k x
fits_head k ks x xs f = f.each 0 (omega arith)

fits_tail : (k : Kind) (ks : List Kind) (x : Operand) (xs : List Operand) → OperandsFit (k ∷ ks) (x ∷ xs) → OperandsFit ks xs
fits_tail k ks x xs f = record { count = omega (arith, f.count); each = λ j h. f.each (suc j) (omega arith) }

more_kinds : {b a₀ a₁ a₂ : List ℕ} {at m₀ m₁ t to : ℕ} (k : Kind) (ks : List Kind) (by : ℕ) (s : List ℕ) → Wrote b a₀ at (by ∷ []) m₀
    → Argued k s a₀ a₁ m₀ t m₁
    → Arguing ks 44 (drop t s) a₁ a₂ m₁ to → Arguing (k ∷ ks) by s b a₂ at to
unfolding args_text each
more_kinds {b} {a₀} {a₁} {a₂} {at} {m₀} {m₁} {t} {to} k ks by s p w r = record { size = r.size; bound = r.bound; all = on }
  where
    on : (xs : List Operand) (rest : List ℕ) → OperandsFit (k ∷ ks) xs → s ≡ each (λ x. operand_bytes x) xs ++ rest
        → Wrote b a₂ at (args_text by (k ∷ ks) xs) to
    on [] rest f e = absurd (omega (arith, f.count))
    on (x ∷ xs) rest f e =
        let v : List ℕ = each (λ x. operand_bytes x) xs ++ rest in
        let z : s ≡ operand_bytes x ++ v = e ∙ append_assoc (operand_bytes x) (each (λ x. operand_bytes x) xs) rest in
        let y = w.is x v (fits_head k ks x xs f) z in
        let d : drop t s ≡ v = ap (λ n. drop n s) y.1 ∙ ap (drop (length (operand_bytes x))) z
        ∙ drop_at (operand_bytes x) v (length (operand_bytes x)) refl in
        wrote_then p (wrote_then y.0 (r.all xs rest (fits_tail k ks x xs f) d))

pub one_more : {b a₀ a₁ a₂ : List ℕ} {at m₀ m₁ t to : ℕ} (form j : ℕ) (k : Kind) (by : ℕ) (s : List ℕ)
    → operand_in (operands_at form) j ≡ Some k → Wrote b a₀ at (by ∷ []) m₀ → Argued k s a₀ a₁ m₀ t m₁
    → Arguing (drop (j + 1) (operands_at form)) 44 (take (length s - t) (drop t s)) a₁ a₂ m₁ to
    → Arguing (drop j (operands_at form)) by s b a₂ at to
one_more {b} {a₀} {a₁} {a₂} {at} {m₀} {m₁} {t} {to} form j k by s e p w r =
    subst (λ ks. Arguing ks by s b a₂ at to) (sym (in_is (operands_at form) j k e))
    (more_kinds k (drop (suc j) (operands_at form)) by s p w
    (subst (λ n. Arguing (drop n (operands_at form)) 44 (drop t s) a₁ a₂ m₁ to) next
    (subst (λ y. Arguing (drop (j + 1) (operands_at form)) 44 y a₁ a₂ m₁ to) (rest_is t s) r)))
  where
    next : j + 1 ≡ suc j
    next = omega arith

pub argued_as : {b a : List ℕ} {at t to : ℕ} {k l : Kind} (s : List ℕ) → k ≡ l → Argued l s b a at t to → Argued k s b a at t to
argued_as {b} {a} {at} {t} {to} s e w = subst (λ y. Argued y s b a at t to) (sym e) w

-- neither a register nor marked with `#`
pub unmarked : (k : Kind) → (k ≡ Reg → ⊥) → (k ≡ I8 → ⊥) → (is_reg k ≡ false) × ((e : Expr) → arg_text k (value e) ≡ expr_text e)
unmarked Reg n m = absurd (n refl)
unmarked I8 n m = absurd (m refl)
unmarked D9 n m = (refl, λ e. refl)
unmarked Bit n m = (refl, λ e. refl)
unmarked Rel8 n m = (refl, λ e. refl)
unmarked A12 n m = (refl, λ e. refl)
unmarked A16 n m = (refl, λ e. refl)
unmarked Rel16 n m = (refl, λ e. refl)

-- an expression with no mark
pub plain_argued : {b a : List ℕ} {at t to : ℕ} (k : Kind) (s : List ℕ) → is_reg k ≡ false
    → ((e : Expr) → arg_text k (value e) ≡ expr_text e) → length b ≡ 1024 → at ≤ 1025 → Told false s b a at t to
    → Argued k s b a at t to
plain_argued {b} {a} {at} k s n f z m w = value_argued k s [] n f (wrote_none b at z m) w
