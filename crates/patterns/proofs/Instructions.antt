-- What the instruction in a slot is: its form, its operands, and as a transfer its target, which reads where the frame says.
use mathlib.Core.Path.{◌≡◌, refl, sym, ap, ◌∙◌}
use mathlib.Core.List.{List, [], ◌∷◌}
use mathlib.Core.Option.{some}
use mathlib.Core.Bool.{Bool, true, false}
use mathlib.Core.Logic.{⊎_elim}
use Prim.Native.Nat.{ℕ, suc, ◌-◌, ◌≤◌, ◌<◌}
use native.Mathlib.Omega.{arith}
use lib.Dec.{eqb}
use lib.ListN.{length, get_or}
use borrow.Author.Tests.{ne_eqb, lt-ltb, le-ltb, lt-leb, le-leb}
use Rattle.std.specs.Prelude.{None, Some}
use Rattle.laws.specs.Options.{is_some, given, bind}
use Rattle.laws.proofs.Tests.{false_true, true_false, cond_true, cond_false, lt_or_le}
use Rattle.rules.specs.declared.Kind.{Kind}
use Rattle.rules.specs.declared.Kind.TheVariants.{Reg, I8, D9, Bit, Rel8, A12, A16, Rel16}
use Rattle.rules.specs.Expressions.{Expr}
use Rattle.rules.specs.Forms.{form_at, is_address, ends_in_address, is_transfer, is_unconditional, operands_at}
use Rattle.rules.specs.Programs.{Operand, register, value, inner, Stmt, gone, instr, label, variable, comment, org, bytes, words, pad, Instruction, as_instr, as_label, args_of, last_of, on_last, kind_of}
use Rattle.rules.specs.Rewriting.{branch, unconditional, local_label}
use Rattle.rules.specs.Statements.{arg_at, argument_at, expr_at, operand_at}
use Rattle.listing.specs.Tables.{frame_at, input_at, Held}
use Rattle.slots.specs.Slots.{Slots, slots, gone_form, no_owner, written, target_of, aimed_at, slot_at, is_reg, Sound}
use Rattle.slots.proofs.Frames.{InstrFrame, Left, Reads, frame_of_lem}
use Rattle.slots.proofs.Operands.{OperandRead, OperandsRead, operands_read}
use Rattle.slots.proofs.Tables.{frame_is}
use Rattle.slots.proofs.Slots.{slot_gone, kind_kept, kind_read, slot_instr, not_gone, written_frame}
use Rattle.instruction.proofs.Rows.{has_target}
use Rattle.patterns.proofs.Programs.{at_program}
use Rattle.patterns.specs.Targets.{stands_at, form_in, instr_at, label_as, TargetIn, last_bytes}

-- ---- a statement by its form

-- an instruction is what its parts say
pub as_instr_lem : (s : Stmt) → kind_of s ≡ 1 → (x : Instruction) × (s ≡ instr x.form x.args x.carried)
as_instr_lem gone e = absurd (omega arith)
as_instr_lem (instr f xs c) e = (record { form = f; args = xs; carried = c }, refl)
as_instr_lem (label n) e = absurd (omega arith)
as_instr_lem (variable n d) e = absurd (omega arith)
as_instr_lem (comment x) e = absurd (omega arith)
as_instr_lem (org l) e = absurd (omega arith)
as_instr_lem (bytes es) e = absurd (omega arith)
as_instr_lem (words es) e = absurd (omega arith)
as_instr_lem (pad add m) e = absurd (omega arith)

-- no form, no instruction
pub not_instr : (s : Stmt) → (kind_of s ≡ 1 → ⊥) → form_in s ≡ gone_form
not_instr gone n = refl
not_instr (instr f xs c) n = absurd (n refl)
not_instr (label m) n = refl
not_instr (variable m d) n = refl
not_instr (comment x) n = refl
not_instr (org l) n = refl
not_instr (bytes es) n = refl
not_instr (words es) n = refl
not_instr (pad add m) n = refl

pub form_kind : (s : Stmt) → (form_in s ≡ gone_form → ⊥) → kind_of s ≡ 1
form_kind gone n = absurd (n refl)
form_kind (instr f xs c) n = refl
form_kind (label m) n = absurd (n refl)
form_kind (variable m d) n = absurd (n refl)
form_kind (comment x) n = absurd (n refl)
form_kind (org l) n = absurd (n refl)
form_kind (bytes es) n = absurd (n refl)
form_kind (words es) n = absurd (n refl)
form_kind (pad add m) n = absurd (n refl)

given_is : {A : Type 0} (b : Bool) (a : A) → is_some (given b (some a)) ≡ b
unfolding given
given_is true a = refl
given_is false a = refl

-- a branch of form f, and an unconditional, are known by the form
pub branch_form : (f : ℕ) → f < gone_form → (s : Stmt) → is_some (branch f s) ≡ eqb (form_in s) f
unfolding branch as_instr bind
branch_form f l gone = sym (ne_eqb gone_form f (λ e. omega arith))
branch_form f l (instr g xs c) = given_is (eqb g f) _
branch_form f l (label m) = sym (ne_eqb gone_form f (λ e. omega arith))
branch_form f l (variable m d) = sym (ne_eqb gone_form f (λ e. omega arith))
branch_form f l (comment x) = sym (ne_eqb gone_form f (λ e. omega arith))
branch_form f l (org m) = sym (ne_eqb gone_form f (λ e. omega arith))
branch_form f l (bytes es) = sym (ne_eqb gone_form f (λ e. omega arith))
branch_form f l (words es) = sym (ne_eqb gone_form f (λ e. omega arith))
branch_form f l (pad add m) = sym (ne_eqb gone_form f (λ e. omega arith))

pub unconditional_form : (s : Stmt) → is_some (unconditional s) ≡ is_unconditional (form_in s)
unfolding unconditional as_instr bind
unconditional_form gone = refl
unconditional_form (instr g xs c) = given_is (is_unconditional g) _
unconditional_form (label m) = refl
unconditional_form (variable m d) = refl
unconditional_form (comment x) = refl
unconditional_form (org m) = refl
unconditional_form (bytes es) = refl
unconditional_form (words es) = refl
unconditional_form (pad add m) = refl

given_found : {A : Type 0} (b : Bool) (a : A) → is_some (given b (some a)) ≡ true → given b (some a) ≡ some a
unfolding given
given_found true a e = refl
given_found false a e = false_true e

-- what is found is the instruction that stands there
pub branch_found : (f : ℕ) (s : Stmt) (x : Instruction) → s ≡ instr x.form x.args x.carried → is_some (branch f s) ≡ true → branch f s ≡ some x
unfolding branch as_instr bind
branch_found f s x q e =
    let o : branch f s ≡ given (eqb x.form f) (some x) = ap (branch f) q in
    o ∙ given_found (eqb x.form f) x (ap is_some (sym o) ∙ e)

pub unconditional_found : (s : Stmt) (x : Instruction) → s ≡ instr x.form x.args x.carried → is_some (unconditional s) ≡ true → unconditional s ≡ some x
unfolding unconditional as_instr bind
unconditional_found s x q e =
    let o : unconditional s ≡ given (is_unconditional x.form) (some x) = ap unconditional q in
    o ∙ given_found (is_unconditional x.form) x (ap is_some (sym o) ∙ e)

-- ---- the last operand

shifted : (x : Operand) (xs : List Operand) → get_or (x ∷ xs) (suc (length xs) - 1) (register 0) ≡ get_or (x ∷ xs) (length xs) (register 0)
shifted x xs = let z : suc (length xs) - 1 ≡ length xs = omega arith in rw z

pub last_get : (xs : List Operand) → last_of xs ≡ get_or xs (length xs - 1) (register 0)
last_get [] = refl
last_get (x ∷ []) = sym (shifted x [])
last_get (x ∷ y ∷ xs) = last_get (y ∷ xs) ∙ shifted y xs ∙ sym (shifted x (y ∷ xs))

pub last_aimed : (x : Operand) (xs : List Operand) → 1 ≤ length xs → last_of (on_last (λ old. x) xs) ≡ x
last_aimed x [] h = absurd (omega arith)
last_aimed x (y ∷ []) h = refl
last_aimed x (y ∷ z ∷ []) h = refl
last_aimed x (y ∷ z ∷ w ∷ xs) h = last_aimed x (z ∷ w ∷ xs) (omega arith)

-- an address is no register
address_value : (k : Kind) → is_address k ≡ true → is_reg k ≡ false
address_value Reg e = false_true e
address_value I8 e = refl
address_value D9 e = refl
address_value Bit e = refl
address_value Rel8 e = refl
address_value A12 e = refl
address_value A16 e = refl
address_value Rel16 e = refl

kind_shifted : (k : Kind) (ks : List Kind) → get_or (k ∷ ks) (suc (length ks) - 1) Reg ≡ get_or (k ∷ ks) (length ks) Reg
kind_shifted k ks = let z : suc (length ks) - 1 ≡ length ks = omega arith in rw z

last_value : (ks : List Kind) → ends_in_address ks ≡ true → is_reg (get_or ks (length ks - 1) Reg) ≡ false
last_value [] e = false_true e
last_value (k ∷ []) e = ap is_reg (kind_shifted k []) ∙ address_value k e
last_value (k ∷ l ∷ ks) e = ap is_reg (kind_shifted k (l ∷ ks) ∙ sym (kind_shifted l ks)) ∙ last_value (l ∷ ks) e

pub value_at : (s : List ℕ) (k : Kind) (a : ℕ) → is_reg k ≡ false → operand_at s k (arg_at a) ≡ value (expr_at s (arg_at a))
value_at s Reg a e = true_false e
value_at s I8 a e = refl
value_at s D9 a e = refl
value_at s Bit a e = refl
value_at s Rel8 a e = refl
value_at s A12 a e = refl
value_at s A16 a e = refl
value_at s Rel16 a e = refl

-- ---- the frame of a transfer: its last argument is its target

pub read_operands : (i : ℕ) (s : List ℕ) (x : Stmt) (f : InstrFrame i s x) → OperandsRead s (operands_at (get_or s 1 0)) 2 f.args
read_operands i s x f = operands_read i s (operands_at (get_or s 1 0)) 2 (Left f.args []) f.operands

module _ (frames starts : List ℕ) (count : ℕ) (h : Held frames starts count) (c : ℕ) (w : TargetIn frames starts count c) where
  abbrev source : List ℕ
  source = frame_at frames starts c

  pub target_frame : InstrFrame c source (input_at frames starts c)
  target_frame = frame_of_lem c source (input_at frames starts c) 1 (frame_is frames starts count h c w.inside) w.instruction

  pub target_count : 1 ≤ length (operands_at (get_or source 1 0))
  target_count = has_target (get_or source 1 0) w.transfer

  last_read : OperandRead source (get_or (operands_at (get_or source 1 0)) (length (operands_at (get_or source 1 0)) - 1) Reg)
      (argument_at source (operands_at (get_or source 1 0)) 2 (length (operands_at (get_or source 1 0)) - 1))
      (get_or target_frame.args (length (operands_at (get_or source 1 0)) - 1) (register 0))
  last_read = (read_operands c source (input_at frames starts c) target_frame).each (length (operands_at (get_or source 1 0)) - 1) (omega (arith, target_count))

  -- it begins within the frame
  pub target_inside : argument_at source (operands_at (get_or source 1 0)) 2 (length (operands_at (get_or source 1 0)) - 1) < length source
  target_inside = last_read.inside

  -- and reads there
  pub target_reads : (e : Expr) × Reads (last_bytes source) e × (last_of (args_of (input_at frames starts c)) ≡ value e)
  unfolding last_bytes is_transfer
  target_reads =
      let kinds = operands_at (get_or source 1 0) in
      let a = argument_at source kinds 2 (length kinds - 1) in
      let v = last_value kinds w.transfer in
      let n = (read_operands c source (input_at frames starts c) target_frame).count in (
        expr_at source (arg_at a),
        last_read.reads v,
        ap (λ x. last_of (args_of x)) target_frame.is ∙ last_get target_frame.args
            ∙ ap (λ m. get_or target_frame.args (m - 1) (register 0)) n ∙ last_read.is ∙ value_at source (get_or kinds (length kinds - 1) Reg) a v,
      )

-- the target that a place wrote, where it became no inner label and where it did
pub target_inner : (t : Slots) (c : ℕ) → get_or t.owners c 0 < no_owner → target_of t c ≡ inner (get_or t.owners c 0) (get_or t.offsets c 0)
unfolding target_of
target_inner t c l = cond_true _ _ _ (lt-ltb (get_or t.owners c 0) no_owner l)

pub target_written : (t : Slots) (c : ℕ) → no_owner ≤ get_or t.owners c 0 → target_of t c ≡ last_of (args_of (written t c))
unfolding target_of
target_written t c l = cond_false _ _ _ (le-ltb (get_or t.owners c 0) no_owner l)

-- ---- the instruction in a slot

module _ (t : Slots) (h : Held t.frames t.starts t.count) (i : ℕ) (l : i < t.count) (e : kind_of (slot_at t i) ≡ 1) where
  abbrev form : ℕ
  form = get_or t.forms i 0

  pub own : InstrFrame i (frame_at t.frames t.starts i) (written t i)
  own = written_frame t h i l 0 e

  pub slot_is : slot_at t i ≡ instr form (aimed_at t form (get_or t.carry i 0) own.args) (get_or t.carry i 0)
  slot_is = slot_instr t i _ own.args i (not_gone t i 0 e) own.is

  pub slot_form : form_in (slot_at t i) ≡ form
  slot_form = ap form_in slot_is

  pub slot_self : slot_at t i ≡ instr (instr_at t i).form (instr_at t i).args (instr_at t i).carried
  slot_self = slot_is ∙ ap (λ (xs : List Operand). instr form xs (get_or t.carry i 0)) (sym (ap args_of slot_is))

  -- not a transfer: the operands as they were read
  pub args_own : is_transfer form ≡ false → args_of (slot_at t i) ≡ own.args
  args_own n = ap args_of slot_is ∙ cond_false (is_transfer form) _ _ n

  -- a transfer: the last of them is the target that it carries
  pub args_aimed : is_transfer form ≡ true → args_of (slot_at t i) ≡ on_last (λ old. target_of t (get_or t.carry i 0)) own.args
  args_aimed n = ap args_of slot_is ∙ cond_true (is_transfer form) _ _ n

  own_count : length own.args ≡ length (operands_at (get_or (frame_at t.frames t.starts i) 1 0))
  own_count = (read_operands i _ _ own).count

module _ (t : Slots) (s : Sound t) (i : ℕ) (l : i < t.count) (e : kind_of (slot_at t i) ≡ 1) (n : is_transfer (get_or t.forms i 0) ≡ true) where
  pub carried_target : TargetIn t.frames t.starts t.count (get_or t.carry i 0)
  carried_target =
      let c = get_or t.carry i 0 in
      let w = s.carried i l e n in
      record {
        inside = w.inside;
        instruction = sym (kind_read c _ (written t c) (frame_is t.frames t.starts t.count s.held c w.inside)) ∙ w.instruction;
        transfer = w.transfer;
      }

  pub own_some : 1 ≤ length (own t s.held i l e).args
  own_some = omega (arith, own_count t s.held i l e, has_target (get_or (frame_at t.frames t.starts i) 1 0) (sym (s.forms i l e).transfer ∙ n))

  pub last_target : last_of (args_of (slot_at t i)) ≡ target_of t (get_or t.carry i 0)
  last_target = ap last_of (args_aimed t s.held i l e n) ∙ last_aimed (target_of t (get_or t.carry i 0)) (own t s.held i l e).args own_some

-- ---- local labels

pub no_label : (s : Stmt) → (kind_of s ≡ 2 → ⊥) → label_as (local_label s) ≡ None
unfolding local_label as_label bind
no_label gone n = refl
no_label (instr f xs c) n = refl
no_label (label m) n = absurd (n refl)
no_label (variable m d) n = refl
no_label (comment x) n = refl
no_label (org l) n = refl
no_label (bytes es) n = refl
no_label (words es) n = refl
no_label (pad add m) n = refl

pub low_label : (n : ℕ) → n < 0x8000 → label_as (local_label (label n)) ≡ None
unfolding local_label as_label bind given
low_label n l = rw (lt-leb 0x8000 n l)

pub high_label : (n : ℕ) → 0x8000 ≤ n → label_as (local_label (label n)) ≡ Some n
unfolding local_label as_label bind given
high_label n l = rw (le-leb 0x8000 n l)

-- ---- a transfer is known by its form

no_transfer : is_transfer gone_form ≡ false
unfolding is_transfer form_at
no_transfer = refl

pub transfer_slot : (t : Slots) → Held t.frames t.starts t.count → (i : ℕ) → i < t.count → is_transfer (form_in (stands_at t i)) ≡ true
    → (kind_of (slot_at t i) ≡ 1) × (is_transfer (get_or t.forms i 0) ≡ true)
transfer_slot t h i l e =
    let q = ap form_in (at_program t i l) in
    let k = form_kind (slot_at t i) (λ g. false_true (sym no_transfer ∙ ap is_transfer (sym (q ∙ g)) ∙ e)) in
    (k, ap is_transfer (sym (q ∙ slot_form t h i l k)) ∙ e)

-- ---- no kind depends on the offsets, and so nothing that is known of the tables does

module _ (frames starts : List ℕ) (count : ℕ) (forms carry owners offsets others : List ℕ) where
  abbrev these : Slots
  these = slots frames starts count forms carry owners offsets

  abbrev those : Slots
  those = slots frames starts count forms carry owners others

  kind_any : (i : ℕ) → kind_of (slot_at those i) ≡ kind_of (slot_at these i)
  kind_any i =
      ⊎_elim (λ n. kind_kept those i n ∙ sym (kind_kept these i n))
      (λ e. ap kind_of (slot_gone those i e) ∙ sym (ap kind_of (slot_gone these i e)))
      (lt_or_le (get_or forms i 0) gone_form)

  pub sound_any : Sound these → Sound those
  sound_any s =
      record {
        held = s.held;
        forms = λ i l e. s.forms i l (sym (kind_any i) ∙ e);
        carried = λ i l e m. let w = s.carried i l (sym (kind_any i) ∙ e) m in record { inside = w.inside; instruction = w.instruction; transfer = w.transfer };
        owned = s.owned;
      }
