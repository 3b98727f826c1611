-- What the code's statement in a slot means, kind by kind.
use mathlib.Core.Path.{◌≡◌, refl, sym, ap, ap₂, ◌∙◌}
use mathlib.Core.Bool.{Bool, true, cond}
use mathlib.Core.Logic.{⊎_elim}
use mathlib.Core.List.{List, [], ◌∷◌, map}
use Prim.Native.Nat.{ℕ, zero, suc, ◌-◌, ◌<◌, ◌≤◌}
use native.Mathlib.Omega.{arith}
use lib.Dec.{eqb}
use lib.ListN.{length, get_or, take, length-map}
use denote.Enum.Declared.{tag_of}
use borrow.Author.Tests.{eq-eqb}
use types.Run.{OneOf}
use Rattle.rules.specs.contracts.Statement.{the_type}
use Rattle.slots.specs.contracts.Slot.{the_type as slot_type}
use Rattle.laws.proofs.Stores.{get_in}
use Rattle.laws.proofs.Tests.{clash}
use Rattle.rules.specs.declared.Arg.{Arg}
use Rattle.rules.specs.declared.Instr.{Instr}
use Rattle.rules.specs.declared.Kind.{Kind}
use Rattle.rules.specs.declared.Kind.TheVariants.{Reg, I8, D9, Bit, Rel8, A12, A16, Rel16}
use Rattle.rules.specs.declared.Statement.{Statement}
use Rattle.rules.specs.declared.Statement.TheVariants.{Instr as OfInstr, Label, Variable, Comment, Org, Bytes, Words, Pad}
use Rattle.rules.specs.Answers.{is_ok, judged_or}
use Rattle.rules.specs.Forms.{operands_at}
use Rattle.rules.specs.Listing.{read_frame}
use Rattle.rules.specs.Instructions.{instr_of, form_of, arguments_of}
use Rattle.rules.specs.Programs.{Stmt, gone, instr, label, variable, comment, org, bytes, words, pad, Operand, Instruction, on_instr, kind_of}
use Rattle.rules.specs.Statements.{arg_at, argument_at, operand_at, operands_of, pair_at, instruction_of, statement_of, stmt_of}
use Rattle.instruction.proofs.Numbers.{number_back, places_back, few_operands}
use Rattle.listing.specs.Tables.{frame_at, Held}
use Rattle.listing.proofs.Statements.{statement_stands}
use Rattle.slots.specs.Slots.{Slots, slot_at, written, is_reg, aimed_at, reformed, Agree}
use Rattle.slots.specs.Meaning.{meant_by, kind_for, kind_in, Agrees, Stands}
use Rattle.slots.specs.declared.Slot.{Slot}
use Rattle.slots.specs.declared.Slot.TheVariants.{Gone, Form, Holds}
use Rattle.slots.proofs.Frames.{Frame, FrameOf, of_instr, of_label, of_variable, of_comment, of_org, of_bytes, of_words, of_pad, frame_read, was_read, frame_of_lem}
use Rattle.slots.proofs.Slots.{slot_kept, slot_instr, kind_kept, kind_read, not_gone, written_frame}
use Rattle.slots.proofs.Tables.{reads_as, frame_is}
use Rattle.slots.proofs.Operands.{argument_first}

-- ---- operands are the same for forms that agree

head_same : (k l : Kind) → is_reg k ≡ is_reg l → (s : List ℕ) (x : Arg) → operand_at s k x ≡ operand_at s l x
head_same k l e s x = by_reg k ∙ ap (λ (b : Bool). cond b (operand_at s Reg x) (operand_at s I8 x)) e ∙ sym (by_reg l)
  where
    by_reg : (k : Kind) → operand_at s k x ≡ cond (is_reg k) (operand_at s Reg x) (operand_at s I8 x)
    by_reg Reg = refl
    by_reg I8 = refl
    by_reg D9 = refl
    by_reg Bit = refl
    by_reg Rel8 = refl
    by_reg A12 = refl
    by_reg A16 = refl
    by_reg Rel16 = refl

operands_same : (s : List ℕ) (ks ls : List Kind) (xs : List Arg) → map (λ k. is_reg k) ks ≡ map (λ k. is_reg k) ls → operands_of s ks xs ≡ operands_of s ls xs
unfolding operands_of
operands_same s [] [] xs e = refl
operands_same s [] (l ∷ ls) xs e = clash (cc)
operands_same s (k ∷ ks) [] xs e = clash (cc)
operands_same s (k ∷ ks) (l ∷ ls) [] e = refl
operands_same s (k ∷ ks) (l ∷ ls) (x ∷ xs) e =
    let h : is_reg k ≡ is_reg l = cc in
    let r : map (λ k. is_reg k) ks ≡ map (λ k. is_reg k) ls = cc in
    ap₂ (λ (a : Operand) (ys : List Operand). a ∷ ys) (head_same k l h s x) (operands_same s ks ls xs r)

length_same : (ks ls : List Kind) → map (λ k. is_reg k) ks ≡ map (λ k. is_reg k) ls → length ks ≡ length ls
length_same ks ls e = sym (length-map ks (λ k. is_reg k)) ∙ ap length e ∙ length-map ls (λ k. is_reg k)

-- the first n of three
take_three : (n : ℕ) (a b c d e f : Arg) → n ≤ 3 → a ≡ d → (1 < n → b ≡ e) → (2 < n → c ≡ f)
    → take n (a ∷ b ∷ c ∷ []) ≡ take n (d ∷ e ∷ f ∷ [])
take_three zero a b c d e f h p q r = refl
take_three (suc zero) a b c d e f h p q r = ap (λ (x : Arg). x ∷ []) p
take_three (suc (suc zero)) a b c d e f h p q r = ap₂ (λ (x y : Arg). x ∷ y ∷ []) p (q (omega arith))
take_three (suc (suc (suc zero))) a b c d e f h p q r = rw (p, q (omega arith), r (omega arith))
take_three (suc (suc (suc (suc n)))) a b c d e f h p q r = absurd (omega arith)

-- ---- what was read

read_instr : (s : List ℕ) → get_or s 0 0 ≡ 1 → statement_of s ≡ instruction_of s
unfolding statement_of
read_instr s e = rw (eq-eqb (get_or s 0 0) 1 e)

-- aiming and reforming change only instructions
still : (f : Instruction → Stmt) (x : Stmt) → (kind_of x ≡ 1 → ⊥) → on_instr x f x ≡ x
still f gone e = refl
still f (instr g xs c) e = absurd (e refl)
still f (label n) e = refl
still f (variable n d) e = refl
still f (comment d) e = refl
still f (org l) e = refl
still f (bytes es) e = refl
still f (words es) e = refl
still f (pad add m) e = refl

module _ (t : Slots) (h : Held t.frames t.starts t.count) (i : ℕ) (l : i < t.count) where
  abbrev s : List ℕ
  s = frame_at t.frames t.starts i

  stands : stmt_of i s (statement_of s) ≡ written t i
  stands = statement_stands i s (written t i) (reads_as t.frames t.starts t.count h i l)

  -- a frame's first byte is the kind of what stands there
  pub first_is : (k : ℕ) → kind_of (slot_at t i) ≡ suc k → get_or s 0 0 ≡ suc k
  first_is k e = sym (kind_read i s (written t i) (frame_is t.frames t.starts t.count h i l)) ∙ sym (kind_kept t i (not_gone t i k e)) ∙ e

  -- no instruction: as it was read
  pub other_means : get_or t.forms i 0 < 70 → (get_or s 0 0 ≡ 1 → ⊥) → slot_at t i ≡ meant_by t i (statement_of s)
  other_means g n =
      let o : kind_of (written t i) ≡ 1 → ⊥ = λ k. n (sym (kind_read i s (written t i) (frame_is t.frames t.starts t.count h i l)) ∙ k) in
      slot_kept t i g ∙ still (reformed t i) (written t i) o ∙ sym (rw stands (still (λ x. instr x.form (aimed_at t x.form (get_or t.carry i 0) x.args) (get_or t.carry i 0)) (written t i) o))

  module _ (f : ℕ) (e : get_or t.forms i 0 ≡ f) (kept : get_or t.forms i 0 < 70) (k : get_or s 0 0 ≡ 1) (ag : Agrees t i) (b c : ℕ)
      (p : (j : ℕ) → 1 < length (operands_at (get_or s 1 0)) → b ≡ argument_at s (operands_at (get_or s 1 0)) 2 1)
      (q : (j : ℕ) → 2 < length (operands_at (get_or s 1 0)) → c ≡ argument_at s (operands_at (get_or s 1 0)) 2 2) where
    abbrev f₀ : ℕ
    f₀ = get_or s 1 0

    abbrev place : ℕ → Arg
    place j = arg_at (argument_at s (operands_at f₀) 2 j)

    pub kind_one : kind_of (slot_at t i) ≡ 1
    kind_one = kind_kept t i kept ∙ kind_read i s (written t i) (frame_is t.frames t.starts t.count h i l) ∙ k

    agrees : Agree f f₀
    agrees = rw e at (ag kind_one)

    pub form_known : f < 70
    form_known = agrees.known

    known : f₀ < 70
    known = (written_frame t h i l 0 kind_one).known

    -- as it was read, and as it stands
    abbrev was : Instr
    was = instr_of f₀ (place 0) (place 1) (place 2)

    abbrev is : Instr
    is = instr_of f (arg_at 2) (arg_at b) (arg_at c)

    arguments : arguments_of is ≡ arguments_of was
    arguments =
        places_back f (arg_at 2) (arg_at b) (arg_at c) form_known
        ∙ ap (λ (n : ℕ). take n (arg_at 2 ∷ arg_at b ∷ arg_at c ∷ [])) (length_same (operands_at f) (operands_at f₀) agrees.registers)
        ∙ take_three (length (operands_at f₀)) (arg_at 2) (arg_at b) (arg_at c) (place 0) (place 1) (place 2) (few_operands f₀)
        (ap arg_at (sym (argument_first s (operands_at f₀) 2))) (λ m. ap arg_at (p 1 m)) (λ m. ap arg_at (q 2 m))
        ∙ sym (places_back f₀ (place 0) (place 1) (place 2) known)

    operands : operands_of s (operands_at (form_of is)) (arguments_of is) ≡ operands_of s (operands_at (form_of was)) (arguments_of was)
    operands =
        ap (λ (n : ℕ). operands_of s (operands_at n) (arguments_of is)) (number_back f (arg_at 2) (arg_at b) (arg_at c) form_known)
        ∙ operands_same s (operands_at f) (operands_at f₀) (arguments_of is) agrees.registers
        ∙ ap (operands_of s (operands_at f₀)) arguments
        ∙ sym (ap (λ (n : ℕ). operands_of s (operands_at n) (arguments_of was)) (number_back f₀ (place 0) (place 1) (place 2) known))

    written_is : written t i ≡ instr (form_of was) (operands_of s (operands_at (form_of was)) (arguments_of was)) i
    unfolding stmt_of instruction_of
    written_is = sym stands ∙ ap (stmt_of i s) (read_instr s k)

    pub instr_means : slot_at t i ≡ meant_by t i (OfInstr is)
    unfolding stmt_of
    instr_means =
        let c' = get_or t.carry i 0 in
        slot_instr t i (form_of was) (operands_of s (operands_at (form_of was)) (arguments_of was)) i kept written_is
        ∙ ap₂ (λ (n : ℕ) (xs : List Operand). instr n (aimed_at t n c' xs) c') (e ∙ sym (number_back f (arg_at 2) (arg_at b) (arg_at c) form_known)) (sym operands)

-- ---- a frame that reads

abbrev pub by_kind : (k : ℕ) (s : List ℕ) → Statement
by_kind k s =
    cond (eqb k 1) (instruction_of s)
    (cond (eqb k 2) (Label (pair_at s 1))
    (cond (eqb k 3) (Variable (pair_at s 1) (arg_at 3))
    (cond (eqb k 4) (Comment (length s - 1))
    (cond (eqb k 5) (Org (pair_at s 1))
    (cond (eqb k 6) (Bytes (get_or s 1 0) (arg_at 2))
    (cond (eqb k 7) (Words (get_or s 1 0) (arg_at 2))
    (Pad (get_or s 1 0) (pair_at s 2))))))))

pub kind_is : (s : List ℕ) (k : ℕ) → get_or s 0 0 ≡ k → statement_of s ≡ by_kind k s
unfolding statement_of
kind_is s k e = ap (λ (n : ℕ). by_kind n s) e

module _ (i : ℕ) (s : List ℕ) (h : is_ok (read_frame i s) ≡ true) where
  as_frame : Frame i s (judged_or (read_frame i s) gone)
  as_frame = frame_read i s _ (was_read (read_frame i s) h)

  pub a_kind : (1 ≤ get_or s 0 0) × (get_or s 0 0 ≤ 8)
  a_kind = on as_frame
    where
      on : Frame i s (judged_or (read_frame i s) gone) → (1 ≤ get_or s 0 0) × (get_or s 0 0 ≤ 8)
      on (of_instr f) = (omega arith, omega arith)
      on (of_label f) = (omega arith, omega arith)
      on (of_variable f) = (omega arith, omega arith)
      on (of_comment f) = (omega arith, omega arith)
      on (of_org f) = (omega arith, omega arith)
      on (of_bytes f) = (omega arith, omega arith)
      on (of_words f) = (omega arith, omega arith)
      on (of_pad f) = (omega arith, omega arith)

  pub a_byte : 0 < length s
  a_byte = get_in s 0 0 (λ e. omega (arith, a_kind.0))

  pub of_kind : (k : ℕ) → get_or s 0 0 ≡ k → FrameOf k i s (judged_or (read_frame i s) gone)
  of_kind k e = frame_of_lem i s (judged_or (read_frame i s) gone) k as_frame e

-- ---- what stands in a slot, by its variant

pub kind_meant : (t : Slots) (i : ℕ) (x : Statement) → kind_of (meant_by t i x) ≡ kind_for x
unfolding stmt_of
kind_meant t i (OfInstr x) = refl
kind_meant t i (Label n) = refl
kind_meant t i (Variable n a) = refl
kind_meant t i (Comment n) = refl
kind_meant t i (Org l) = refl
kind_meant t i (Bytes n a) = refl
kind_meant t i (Words n a) = refl
kind_meant t i (Pad a m) = refl

pub kind_none : (x : Stmt) → kind_of x ≡ 0 → x ≡ gone
kind_none gone e = refl
kind_none (instr f xs c) e = absurd (omega arith)
kind_none (label n) e = absurd (omega arith)
kind_none (variable n d) e = absurd (omega arith)
kind_none (comment d) e = absurd (omega arith)
kind_none (org l) e = absurd (omega arith)
kind_none (bytes es) e = absurd (omega arith)
kind_none (words es) e = absurd (omega arith)
kind_none (pad add m) e = absurd (omega arith)

module _ (t : Slots) (i : ℕ) (r : Slot) (h : Stands t i r) where
  pub none_stands : r ≡ Gone → slot_at t i ≡ gone
  none_stands e = kind_none (slot_at t i) (h.kind ∙ ap kind_in e)

  pub form_stands : (f : ℕ) → r ≡ Form f → kind_of (slot_at t i) ≡ 1
  form_stands f e = h.kind ∙ ap kind_in e

  pub kind_stands : (x : Statement) → r ≡ Holds x → kind_of (slot_at t i) ≡ kind_for x
  kind_stands x e = h.kind ∙ ap kind_in e

-- what a statement says that is no instruction, in its frame
module _ (t : Slots) (held : Held t.frames t.starts t.count) (i : ℕ) (l : i < t.count) (r : Slot) (h : Stands t i r) where
  abbrev f : List ℕ
  f = frame_at t.frames t.starts i

  by_frame : (x : Statement) → r ≡ Holds x → (k : ℕ) → kind_for x ≡ suc (suc k) → x ≡ by_kind (suc (suc k)) f
  by_frame x e k n =
      (h.holds x e).read
      ∙ kind_is f (suc (suc k)) (first_is t held i l (suc k) (kind_stands t i r h x e ∙ n))

  pub variable_says : (n : ℕ) (a : Arg) → r ≡ Holds (Variable n a) → (n ≡ pair_at f 1) × (a ≡ arg_at 3)
  variable_says n a e = let z = by_frame (Variable n a) e 1 refl in (cc, cc)

  pub bytes_says : (n : ℕ) (a : Arg) → r ≡ Holds (Bytes n a) → (n ≡ get_or f 1 0) × (a ≡ arg_at 2)
  bytes_says n a e = let z = by_frame (Bytes n a) e 4 refl in (cc, cc)

  pub words_says : (n : ℕ) (a : Arg) → r ≡ Holds (Words n a) → (n ≡ get_or f 1 0) × (a ≡ arg_at 2)
  words_says n a e = let z = by_frame (Words n a) e 5 refl in (cc, cc)

  pub pad_says : (a m : ℕ) → r ≡ Holds (Pad a m) → (a ≡ get_or f 1 0) × (m ≡ pair_at f 2)
  pad_says a m e = let z = by_frame (Pad a m) e 6 refl in (cc, cc)

-- one of the first two variants: no statement as it was read
pub none_tag : (r : Slot) → OneOf (0 ∷ 1 ∷ []) (tag_of slot_type r) → kind_in r ≤ 1
none_tag Gone k = omega arith
none_tag (Form f) k = omega arith
none_tag (Holds x) k = ⊎_elim (λ e. absurd (omega arith)) (λ e. absurd (omega arith)) k

-- the first variant or the last: no instruction
pub no_instr : (t : Slots) (i : ℕ) (r : Slot) → Stands t i r → OneOf (0 ∷ 2 ∷ []) (tag_of slot_type r) → kind_of (slot_at t i) ≡ 1 → ⊥
no_instr t i Gone h k e = let z : ◌≡◌ {A = ℕ} 0 1 = sym h.kind ∙ e in omega arith
no_instr t i (Form f) h k e = ⊎_elim (λ z. omega arith) (λ z. omega arith) k
no_instr t i (Holds x) h k e = omega (arith, h.kind, (h.holds x refl).other)

-- a variant's number is one less
pub tag_kind : (x : Statement) → kind_for x ≡ suc (tag_of the_type x)
tag_kind (OfInstr x) = refl
tag_kind (Label n) = refl
tag_kind (Variable n a) = refl
tag_kind (Comment n) = refl
tag_kind (Org l) = refl
tag_kind (Bytes n a) = refl
tag_kind (Words n a) = refl
tag_kind (Pad a m) = refl
