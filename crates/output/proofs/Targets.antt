-- The operands of a frame with the last one changed: the bytes before it are the frame's own. And the target itself, as it stands in its
-- frame.
-- Assumes nothing.
use mathlib.Core.Path.{◌≡◌, refl, sym, ap, ◌∙◌}
use mathlib.Core.List.{List, [], ◌∷◌, ◌++◌, append_assoc, append-nil}
use mathlib.Core.Bool.{Bool, true, false}
use Prim.Native.Nat.{ℕ, zero, suc, ◌+◌, ◌-◌, ◌≤◌, ◌<◌}
use native.Mathlib.Omega.{arith}
use lib.ListN.{length, get_or, take, drop, length-drop}
use lib.Seq.{drop-cons, drop-drop, take-add, drop_at, length-take-le}
use Rattle.laws.specs.Lists.{each}
use Rattle.laws.proofs.Tests.{false_true}
use Rattle.rules.specs.declared.Kind.{Kind}
use Rattle.rules.specs.declared.Kind.TheVariants.{Reg, I8, D9, Bit, Rel8, A12, A16, Rel16}
use Rattle.rules.specs.Expressions.{read_expr}
use Rattle.rules.specs.Forms.{is_transfer, ends_in_address, operands_at}
use Rattle.rules.specs.Output.{operand_bytes, plain_target}
use Rattle.rules.specs.Programs.{Operand, value, Stmt, Program, last_of, on_last}
use Rattle.rules.specs.Statements.{took_of, arg_at, width_at, argument_at, expr_at, operand_at}
use Rattle.expression.specs.Sound.{AreBytes}
use Rattle.expression.proofs.RoundTrip.{bytes_drop, written_expr}
use Rattle.slots.specs.Slots.{is_reg, InstrIn}
use Rattle.slots.proofs.Frames.{Left, InstrFrame}
use Rattle.slots.proofs.Operands.{OperandRead, OperandsRead, operands_read, instr_in, operands_in}
use Rattle.output.specs.Lines.{own_end}
use Rattle.output.proofs.Frames.{operands_end}

-- ---- the last operand

pub last_same : (f : Operand → Operand) (xs : List Operand) → f (last_of xs) ≡ last_of xs → on_last f xs ≡ xs
last_same f [] e = refl
last_same f (x ∷ []) e = ap (λ y. y ∷ []) e
last_same f (x ∷ y ∷ xs) e = ap (λ l. x ∷ l) (last_same f (y ∷ xs) e)

pub last_twice : (f g : Operand → Operand) (xs : List Operand) → on_last f (on_last g xs) ≡ on_last (λ x. f (g x)) xs
last_twice f g [] = refl
last_twice f g (x ∷ []) = refl
last_twice f g (x ∷ y ∷ []) = refl
last_twice f g (x ∷ y ∷ z ∷ xs) = ap (λ l. x ∷ l) (last_twice f g (y ∷ z ∷ xs))

-- what was read is no inner label
plain_read : (p : Program) (s : List ℕ) (k : Kind) (a : ℕ) (x : Operand) → OperandRead s k a x → plain_target p x ≡ x
plain_read p s k a x r = rw r.is (on k)
  where
    on : (k : Kind) → plain_target p (operand_at s k (arg_at a)) ≡ operand_at s k (arg_at a)
    on Reg = refl
    on I8 = refl
    on D9 = refl
    on Bit = refl
    on Rel8 = refl
    on A12 = refl
    on A16 = refl
    on Rel16 = refl

rest_read : (s : List ℕ) (k : Kind) (ks : List Kind) (a : ℕ) (x : Operand) (xs : List Operand) → OperandsRead s (k ∷ ks) a (x ∷ xs)
    → OperandsRead s ks (a + width_at s k a) xs
unfolding argument_at
rest_read s k ks a x xs r = record {
  count = (let n : suc (length xs) ≡ suc (length ks) = r.count in omega arith);
  each = λ j h. r.each (suc j) (omega arith);
}

pub plain_last : (p : Program) (s : List ℕ) (kinds : List Kind) (a : ℕ) (xs : List Operand) → OperandsRead s kinds a xs → plain_target p
    (last_of xs) ≡ last_of xs
unfolding argument_at
plain_last p s kinds a [] r = refl
plain_last p s [] a (x ∷ xs) r = absurd (let n : suc (length xs) ≡ 0 = r.count in omega arith)
plain_last p s (k ∷ ks) a (x ∷ []) r = plain_read p s k a x (r.each 0 (omega arith))
plain_last p s (k ∷ ks) a (x ∷ y ∷ xs) r = plain_last p s ks (a + width_at s k a) (y ∷ xs) (rest_read s k ks a x (y ∷ xs) r)

-- ---- bytes

module _ (s : List ℕ) (v : AreBytes s) where
  value_bytes_lem : (k : Kind) (a : ℕ) (x : Operand) → OperandRead s k a x → is_reg k ≡ false → operand_at s k (arg_at a)
      ≡ value (expr_at s (arg_at a))
      → width_at s k a ≡ took_of (read_expr (drop a s)) → operand_bytes x ≡ take (width_at s k a) (drop a s)
  value_bytes_lem k a x r n is width =
      let q = r.reads n in
      let w = written_expr (drop a s) (bytes_drop a s v) (expr_at s (arg_at a)) q.width q.reads in
      ap operand_bytes (r.is ∙ is) ∙ sym w.is ∙ ap (λ m. take m (drop a s)) (sym (width ∙ ap took_of q.reads))

  operand_bytes_lem : (k : Kind) (a : ℕ) (x : Operand) → OperandRead s k a x → operand_bytes x ≡ take (width_at s k a) (drop a s)
  operand_bytes_lem Reg a x r = ap operand_bytes r.is ∙ rw (drop-cons s a 0 r.inside)
  operand_bytes_lem I8 a x r = value_bytes_lem I8 a x r refl refl refl
  operand_bytes_lem D9 a x r = value_bytes_lem D9 a x r refl refl refl
  operand_bytes_lem Bit a x r = value_bytes_lem Bit a x r refl refl refl
  operand_bytes_lem Rel8 a x r = value_bytes_lem Rel8 a x r refl refl refl
  operand_bytes_lem A12 a x r = value_bytes_lem A12 a x r refl refl refl
  operand_bytes_lem A16 a x r = value_bytes_lem A16 a x r refl refl refl
  operand_bytes_lem Rel16 a x r = value_bytes_lem Rel16 a x r refl refl refl

  -- the last operand begins `before` bytes behind a, and what stands there is what is written for the others
  record LastIn (k : Kind) (ks : List Kind) (a : ℕ) (xs : List Operand) : Type 0 where
    before : ℕ
    begins : argument_at s (k ∷ ks) a (length ks) ≡ a + before
    inside : a + before < length s
    others : (f : Operand → Operand) → each (λ x. operand_bytes x) (on_last f xs) ≡ take before (drop a s) ++ operand_bytes (f (last_of xs))

  last_in : (k : Kind) (ks : List Kind) (a : ℕ) (xs : List Operand) → OperandsRead s (k ∷ ks) a xs → LastIn k ks a xs
  unfolding argument_at each
  last_in k ks a [] r = absurd (let n : 0 ≡ suc (length ks) = r.count in omega arith)
  last_in k [] a (x ∷ y ∷ xs) r = absurd (let n : suc (suc (length xs)) ≡ 1 = r.count in omega arith)
  last_in k (l ∷ ks) a (x ∷ []) r = absurd (let n : 1 ≡ suc (suc (length ks)) = r.count in omega arith)
  last_in k [] a (x ∷ []) r =
      record {
        before = 0;
        begins = omega arith;
        inside = omega (arith, (r.each 0 (omega arith)).inside);
        others = λ f. append-nil (operand_bytes (f x));
      }
  last_in k (l ∷ ks) a (x ∷ y ∷ xs) r =
      more (last_in l ks (a + width_at s k a) (y ∷ xs) (rest_read s k (l ∷ ks) a x (y ∷ xs) r))
      (operand_bytes_lem k a x (r.each 0 (omega arith)))
    where
      more : LastIn l ks (a + width_at s k a) (y ∷ xs) → operand_bytes x ≡ take (width_at s k a) (drop a s) → LastIn k (l ∷ ks) a
          (x ∷ y ∷ xs)
      more q own =
          record {
            before = width_at s k a + q.before;
            begins = omega (arith, q.begins);
            inside = omega (arith, q.inside);
            others = λ f. joined f;
          }
        where
          joined : (f : Operand → Operand) → operand_bytes x ++ each (λ z. operand_bytes z) (on_last f (y ∷ xs))
              ≡ take (width_at s k a + q.before) (drop a s) ++ operand_bytes (f (last_of (y ∷ xs)))
          joined f =
              ap (λ z. operand_bytes x ++ z) (q.others f) ∙ ap (λ z. z ++ (take q.before (drop (a + width_at s k a) s) ++ operand_bytes
              (f (last_of (y ∷ xs))))) own
              ∙ rw (take-add (width_at s k a) q.before (drop a s), drop-drop (width_at s k a) a s, append_assoc)

-- ---- a transfer's frame: where its target begins, what stands before it, and the target

pub record TargetIn (s : List ℕ) (xs : List Operand) : Type 0 where
  pub inside : own_end s < length s
  pub behind : 2 ≤ own_end s
  pub others : (f : Operand → Operand) → each (λ x. operand_bytes x) (on_last f xs) ≡ take (own_end s - 2) (drop 2 s) ++ operand_bytes
      (f (last_of xs))
  pub target : operand_bytes (last_of xs) ≡ drop (own_end s) s

-- a form that ends in an address has operands
some_operands : (kinds : List Kind) → ends_in_address kinds ≡ true → (k : Kind) × (ks : List Kind) × (kinds ≡ k ∷ ks)
some_operands [] e = false_true e
some_operands (k ∷ ks) e = (k, ks, refl)

pub transfer_some : (f : ℕ) → is_transfer f ≡ true → 1 ≤ length (operands_at f)
unfolding is_transfer
transfer_some f e = let o = some_operands (operands_at f) e in rw o.2 (omega arith)

pub own_transfer : (s : List ℕ) → is_transfer (get_or s 1 0) ≡ true → own_end s ≡ argument_at s (operands_at (get_or s 1 0)) 2
    (length (operands_at (get_or s 1 0)) - 1)
unfolding own_end
own_transfer s e = rw e

pub own_other : (s : List ℕ) → is_transfer (get_or s 1 0) ≡ false → own_end s ≡ length s
unfolding own_end
own_other s e = rw e

pub target_in : (i : ℕ) (s : List ℕ) (x : Stmt) (f : InstrFrame i s x) → AreBytes s → is_transfer (get_or s 1 0) ≡ true → TargetIn s f.args
unfolding is_transfer
target_in i s x f v e =
    let o = some_operands (operands_at (get_or s 1 0)) e in
    let r = operands_read i s (operands_at (get_or s 1 0)) 2 (Left f.args []) f.operands in
    on o.0 o.1 o.2 (last_in s v o.0 o.1 2 f.args (rw (← o.2) r)) (operands_end i s x f v)
  where
    on : (k : Kind) (ks : List Kind) → operands_at (get_or s 1 0) ≡ k ∷ ks → LastIn s v k ks 2 f.args → each (λ y. operand_bytes y) f.args
        ≡ drop 2 s
        → TargetIn s f.args
    on k ks q l end =
        let n : suc (length ks) - 1 ≡ length ks = omega arith in
        let at : own_end s ≡ 2 + l.before = own_transfer s e ∙ ap (λ kinds. argument_at s kinds 2 (length kinds - 1)) q
        ∙ ap (argument_at s (k ∷ ks) 2) n ∙ l.begins in
        let less : own_end s - 2 ≡ l.before = omega arith in
        let size : length (take l.before (drop 2 s)) ≡ l.before = length-take-le l.before (drop 2 s)
        (omega (arith, l.inside, length-drop 2 s)) in
        let same = last_same (λ y. y) f.args refl in
        let whole : drop 2 s ≡ take l.before (drop 2 s) ++ operand_bytes (last_of f.args) = sym end ∙ ap (each (λ y. operand_bytes y))
        (sym same) ∙ l.others (λ y. y) in
        record {
          inside = omega (arith, l.inside);
          behind = omega arith;
          others = λ g. l.others g ∙ ap (λ m. take m (drop 2 s) ++ operand_bytes (g (last_of f.args))) (sym less);
          target =
              sym (drop_at (take l.before (drop 2 s)) (operand_bytes (last_of f.args)) l.before size)
              ∙ ap (drop l.before) (sym whole) ∙ drop-drop l.before 2 s ∙ ap (λ m. drop m s) (sym at);
        }

-- ---- the same without a look at the bytes: within which bounds an instruction's own part ends

argument_after : (s : List ℕ) (kinds : List Kind) (a j : ℕ) → a ≤ argument_at s kinds a j
unfolding argument_at
argument_after s [] a j = omega arith
argument_after s (k ∷ ks) a zero = omega arith
argument_after s (k ∷ ks) a (suc j) = omega (arith, argument_after s ks (a + width_at s k a) j)

pub end_within : (i : ℕ) (s : List ℕ) → InstrIn i s → (2 ≤ own_end s) × (own_end s ≤ length s)
end_within i s h = on (is_transfer (get_or s 1 0)) refl
  where
    on : (b : Bool) → is_transfer (get_or s 1 0) ≡ b → (2 ≤ own_end s) × (own_end s ≤ length s)
    on true e =
        let last = length (operands_at (get_or s 1 0)) - 1 in
        let o = transfer_some (get_or s 1 0) e in
        let at = own_transfer s e in (
          omega (arith, argument_after s (operands_at (get_or s 1 0)) 2 last),
          omega
              (arith, ((operands_in i s h).each last (omega arith)).inside),
        )
    on false e = let at = own_other s e in (omega (arith, (instr_in i s h).long), omega arith)
