-- What operand j of an instruction is: by the bytes of its frame, and in a slot, where a transfer's last one is the target that it carries.
use mathlib.Core.Path.{◌≡◌, refl, sym, ap, ◌∙◌}
use mathlib.Core.List.{List, [], ◌∷◌}
use mathlib.Core.Bool.{Bool, true, false, ◌&&◌, cond}
use Prim.Native.Nat.{ℕ, zero, suc, ◌-◌, ◌≤◌, ◌<◌}
use native.Mathlib.Omega.{arith}
use lib.Dec.{eqb}
use lib.ListN.{length, drop, get_or, length-map}
use borrow.Author.Tests.{eqb-true, eq-eqb, lt-ltb, le-ltb}
use Rattle.std.specs.Prelude.{None, Option, Some}
use Rattle.laws.proofs.Tests.{clash, true_false, false_true, and_true, cond_true}
use Rattle.rules.specs.declared.Kind.{Kind}
use Rattle.rules.specs.declared.Kind.TheVariants.{Reg, I8, D9, Bit, Rel8, A12, A16, Rel16}
use Rattle.rules.specs.Forms.{operands_at, is_transfer}
use Rattle.rules.specs.Programs.{Operand, register, value, inner, instr, args_of, last_of, on_last, kind_of}
use Rattle.rules.specs.Statements.{arg_at, argument_at, expr_at, operand_at}
use Rattle.instruction.specs.Tables.{target_at, operand_in as kind_in}
use Rattle.instruction.proofs.Rows.{has_target}
use Rattle.listing.specs.Tables.{frame_at, input_at, Held}
use Rattle.slots.specs.Slots.{Slots, written, target_of, aimed_at, slot_at, no_owner, is_reg, register_at, InstrIn, Agree, WroteTarget}
use Rattle.slots.proofs.Frames.{Reads}
use Rattle.slots.proofs.Operands.{OperandRead, register_at_lem, read_in, instr_in, operands_in}
use Rattle.slots.proofs.Tables.{frame_is}
use Rattle.slots.proofs.Slots.{kind_read, kind_kept, not_gone, slot_instr, written_frame}
use Rattle.image.specs.Tables.{is_target, operand_in, operand_at as operand_is}

-- ---- of a frame

as_register : (s : List ℕ) (k : Kind) (a : ℕ) → is_reg k ≡ true → operand_at s k (arg_at a) ≡ register (get_or s a 0)
as_register s Reg a e = refl
as_register s I8 a e = false_true e
as_register s D9 a e = false_true e
as_register s Bit a e = false_true e
as_register s Rel8 a e = false_true e
as_register s A12 a e = false_true e
as_register s A16 a e = false_true e
as_register s Rel16 a e = false_true e

as_value : (s : List ℕ) (k : Kind) (a : ℕ) → is_reg k ≡ false → operand_at s k (arg_at a) ≡ value (expr_at s (arg_at a))
as_value s Reg a e = true_false e
as_value s I8 a e = refl
as_value s D9 a e = refl
as_value s Bit a e = refl
as_value s Rel8 a e = refl
as_value s A12 a e = refl
as_value s A16 a e = refl
as_value s Rel16 a e = refl

-- where argument j begins
abbrev pub begin : (s : List ℕ) (j : ℕ) → ℕ
begin s j = argument_at s (operands_at (get_or s 1 0)) 2 j

module _ (i : ℕ) (s : List ℕ) (h : InstrIn i s) (j : ℕ) (l : j < length (operands_at (get_or s 1 0))) where
  abbrev kind : Kind
  kind = get_or (operands_at (get_or s 1 0)) j Reg

  pub operand_read : OperandRead s kind (begin s j) (operand_in i s j)
  operand_read = rw (ap args_of (instr_in i s h).is) ((operands_in i s h).each j l)

  pub own_register : register_at (operands_at (get_or s 1 0)) j ≡ true → operand_in i s j ≡ register (get_or s (begin s j) 0)
  own_register e = operand_read.is ∙ as_register s kind (begin s j) (sym (register_at_lem (operands_at (get_or s 1 0)) j l) ∙ e)

  pub own_small : register_at (operands_at (get_or s 1 0)) j ≡ true → get_or s (begin s j) 0 ≤ 3
  own_small e = operand_read.small (sym (register_at_lem (operands_at (get_or s 1 0)) j l) ∙ e)

  pub own_value : register_at (operands_at (get_or s 1 0)) j ≡ false → operand_in i s j ≡ value (expr_at s (arg_at (begin s j)))
  own_value e = operand_read.is ∙ as_value s kind (begin s j) (sym (register_at_lem (operands_at (get_or s 1 0)) j l) ∙ e)

  pub own_reads : register_at (operands_at (get_or s 1 0)) j ≡ false → Reads (drop (begin s j) s) (expr_at s (arg_at (begin s j)))
  own_reads e = operand_read.reads (sym (register_at_lem (operands_at (get_or s 1 0)) j l) ∙ e)

-- ---- the last operand

last_is : (xs : List Operand) (n : ℕ) → length xs ≡ suc n → last_of xs ≡ get_or xs n (register 0)
last_is [] n e = absurd (omega arith)
last_is (x ∷ []) n e = let z : n ≡ 0 = omega arith in rw z
last_is (x ∷ y ∷ xs) zero e = absurd (omega arith)
last_is (x ∷ y ∷ xs) (suc n) e = last_is (y ∷ xs) n (omega arith)

changed_last : (g : Operand → Operand) (xs : List Operand) (j : ℕ) → length xs ≡ suc j → get_or (on_last g xs) j (register 0) ≡ g (last_of xs)
changed_last g [] j e = absurd (omega arith)
changed_last g (x ∷ []) j e = let z : j ≡ 0 = omega arith in rw z
changed_last g (x ∷ y ∷ xs) zero e = absurd (omega arith)
changed_last g (x ∷ y ∷ xs) (suc j) e = changed_last g (y ∷ xs) j (omega arith)

unchanged : (g : Operand → Operand) (xs : List Operand) (j : ℕ) → (length xs ≡ suc j → ⊥) → get_or (on_last g xs) j (register 0) ≡ get_or xs j (register 0)
unchanged g [] j n = refl
unchanged g (x ∷ []) zero n = absurd (n refl)
unchanged g (x ∷ []) (suc j) n = refl
unchanged g (x ∷ y ∷ xs) zero n = refl
unchanged g (x ∷ y ∷ xs) (suc j) n = unchanged g (y ∷ xs) j (λ e. n (ap suc e))

length_changed : (g : Operand → Operand) (xs : List Operand) → length (on_last g xs) ≡ length xs
length_changed g [] = refl
length_changed g (x ∷ []) = refl
length_changed g (x ∷ y ∷ xs) = ap suc (length_changed g (y ∷ xs))

-- which argument is the target, as the code finds it
pub target_arg : (f k j : ℕ) {o : Option ℕ} → o ≡ target_at f → o ≡ Some k → eqb k j ≡ is_target f j
target_arg f k j {o} e q = on (is_transfer f) (sym e ∙ q)
  where
    on : (b : Bool) → cond b (Some (length (operands_at f) - 1)) None ≡ Some k → eqb k j ≡ b && eqb (length (operands_at f) - 1) j
    on true p = let n : length (operands_at f) - 1 ≡ k = cc in ap (λ m. eqb m j) (sym n)
    on false p = clash (cc)

pub target_none : (f j : ℕ) {o : Option ℕ} → o ≡ target_at f → o ≡ None → false ≡ is_target f j
target_none f j {o} e q = on (is_transfer f) (sym e ∙ q)
  where
    on : (b : Bool) → cond b (Some (length (operands_at f) - 1)) None ≡ None → false ≡ b && eqb (length (operands_at f) - 1) j
    on true p = clash (cc)
    on false p = refl

-- ---- the target that was written at place c

pub target_inner : (t : Slots) (c : ℕ) → get_or t.owners c 0 < no_owner → target_of t c ≡ inner (get_or t.owners c 0) (get_or t.offsets c 0)
unfolding target_of
target_inner t c l = rw (lt-ltb (get_or t.owners c 0) no_owner l)

target_own : (t : Slots) (c : ℕ) → no_owner ≤ get_or t.owners c 0 → target_of t c ≡ last_of (args_of (written t c))
unfolding target_of
target_own t c l = rw (le-ltb (get_or t.owners c 0) no_owner l)

pub wrote_in : (t : Slots) → Held t.frames t.starts t.count → (c : ℕ) → WroteTarget t c → InstrIn c (frame_at t.frames t.starts c)
wrote_in t h c w =
    record {
      reads = h.reads c w.inside;
      kind = sym (kind_read c (frame_at t.frames t.starts c) (written t c) (frame_is t.frames t.starts t.count h c w.inside)) ∙ w.instruction;
    }

count_in : (i : ℕ) (s : List ℕ) → InstrIn i s → length (args_of (read_in i s)) ≡ length (operands_at (get_or s 1 0))
count_in i s h = rw (ap args_of (instr_in i s h).is) (operands_in i s h).count

pub target_last : (t : Slots) → Held t.frames t.starts t.count → (c : ℕ) → WroteTarget t c → no_owner ≤ get_or t.owners c 0
    → target_of t c ≡ operand_in c (frame_at t.frames t.starts c) (length (operands_at (get_or (frame_at t.frames t.starts c) 1 0)) - 1)
unfolding input_at
target_last t h c w l =
    let s = frame_at t.frames t.starts c in
    let n = length (operands_at (get_or s 1 0)) in
    target_own t c l
    ∙ last_is (args_of (read_in c s)) (n - 1) (omega (arith, count_in c s (wrote_in t h c w), has_target (get_or s 1 0) w.transfer))

-- ---- of a slot

module _ (t : Slots) (h : Held t.frames t.starts t.count) (i : ℕ) (l : i < t.count) (e : kind_of (slot_at t i) ≡ 1) where
  abbrev frame : List ℕ
  frame = frame_at t.frames t.starts i

  pub slot_in : InstrIn i frame
  slot_in =
      record {
        reads = h.reads i l;
        kind = sym (kind_read i frame (written t i) (frame_is t.frames t.starts t.count h i l)) ∙ sym (kind_kept t i (not_gone t i 0 e)) ∙ e;
      }

  abbrev form : ℕ
  form = get_or t.forms i 0

  abbrev carried : ℕ
  carried = get_or t.carry i 0

  pub slot_is : slot_at t i ≡ instr form (aimed_at t form carried (args_of (written t i))) carried
  slot_is =
      let w = written_frame t h i l 0 e in
      slot_instr t i (get_or frame 1 0) w.args i (not_gone t i 0 e) w.is ∙ ap (λ xs. instr form (aimed_at t form carried xs) carried) (sym (ap args_of w.is))

  module _ (a : Agree form (get_or frame 1 0)) where
    -- as many operands as the form has
    pub count_kinds : length (operands_at form) ≡ length (operands_at (get_or frame 1 0))
    count_kinds = sym (length-map (operands_at form) _) ∙ ap length a.registers ∙ length-map (operands_at (get_or frame 1 0)) _

    count_written : length (args_of (written t i)) ≡ length (operands_at form)
    unfolding input_at
    count_written = count_in i frame slot_in ∙ sym count_kinds

    pub operand_target : (j : ℕ) → is_target form j ≡ true → operand_is t i j ≡ target_of t carried
    operand_target j q =
        let b = and_true (is_transfer form) (eqb (length (operands_at form) - 1) j) q in
        let n : length (args_of (written t i)) ≡ suc j = omega (arith, count_written, has_target form b.0, eqb-true (length (operands_at form) - 1) j b.1) in
        ap (λ s. get_or (args_of s) j (register 0)) slot_is
        ∙ ap (λ xs. get_or xs j (register 0)) (cond_true (is_transfer form) (on_last (λ old. target_of t carried) (args_of (written t i))) (args_of (written t i)) b.0)
        ∙ changed_last (λ old. target_of t carried) (args_of (written t i)) j n

    pub operand_own : (j : ℕ) → is_target form j ≡ false → operand_is t i j ≡ operand_in i frame j
    unfolding input_at
    operand_own j q = ap (λ s. get_or (args_of s) j (register 0)) slot_is ∙ on (is_transfer form) refl
      where
        on : (b : Bool) → is_transfer form ≡ b → get_or (cond b (on_last (λ old. target_of t carried) (args_of (written t i))) (args_of (written t i))) j (register 0) ≡ operand_in i frame j
        on false b = refl
        on true b =
            unchanged (λ old. target_of t carried) (args_of (written t i)) j
            (λ n. true_false (sym (rw b (eq-eqb (length (operands_at form) - 1) j (omega (arith, count_written, n)))) ∙ q))

    pub count_args : length (args_of (slot_at t i)) ≡ length (operands_at form)
    count_args = ap (λ s. length (args_of s)) slot_is ∙ on (is_transfer form) ∙ count_written
      where
        on : (b : Bool) → length (cond b (on_last (λ old. target_of t carried) (args_of (written t i))) (args_of (written t i))) ≡ length (args_of (written t i))
        on true = length_changed (λ old. target_of t carried) (args_of (written t i))
        on false = refl

-- ---- of a form

-- operand j's kind, as the code finds it
pub kind_found : (ks : List Kind) (j : ℕ) → j < length ks → {o : Option Kind} {k : Kind} → o ≡ kind_in ks j → o ≡ Some k → k ≡ get_or ks j Reg
kind_found [] j l e q = absurd (omega arith)
kind_found (d ∷ ks) zero l e q = cc
kind_found (d ∷ ks) (suc j) l e q = kind_found ks j (omega arith) e q

pub kind_there {ℓ} : {X : Type ℓ} (ks : List Kind) (j : ℕ) → j < length ks → {o : Option Kind} → o ≡ kind_in ks j → o ≡ None → X
kind_there [] j l e q = absurd (omega arith)
kind_there (d ∷ ks) zero l e q = clash (cc)
kind_there (d ∷ ks) (suc j) l e q = kind_there ks j (omega arith) e q
