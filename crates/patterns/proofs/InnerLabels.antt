-- Inner labels by slot: only the last operand can be one, so a test of all of them goes over the slots.
use mathlib.Core.Path.{◌≡◌, refl, sym, ap, ◌∙◌}
use mathlib.Core.List.{List, [], ◌∷◌}
use mathlib.Core.Bool.{Bool, true, false, ◌&&◌, not}
use mathlib.Core.Logic.{⊎_elim}
use Prim.Native.Nat.{ℕ, ◌≤◌, ◌<◌}
use native.Mathlib.Omega.{arith}
use lib.Dec.{eqb, leb, ltb}
use lib.ListN.{length, get_or}
use borrow.Author.Tests.{lt-ltb, le-ltb, le-leb, lt-leb, eq-eqb, ne_eqb}
use Rattle.std.specs.Prelude.{Option, None, Some}
use Rattle.laws.specs.Counts.{all_to}
use Rattle.laws.specs.Lists.{every}
use Rattle.laws.proofs.Tests.{false_true, eq_or_not, lt_or_le, and_true}
use Rattle.laws.proofs.Lists.{every_all}
use Rattle.laws.proofs.Counts.{every_tab, all_ext}
use Rattle.rules.specs.declared.Place.{Place}
use Rattle.rules.specs.declared.Kind.{Kind}
use Rattle.rules.specs.declared.Kind.TheVariants.{Reg, I8, D9, Bit, Rel8, A12, A16, Rel16}
use Rattle.rules.specs.Forms.{is_transfer, operands_at}
use Rattle.rules.specs.Programs.{Operand, register, value, inner, Stmt, gone, instr, label, variable, comment, org, bytes, words, pad, args_of, last_of, on_last, kind_of}
use Rattle.rules.specs.Rewriting.{of_inner, every_inner_label}
use Rattle.rules.specs.Statements.{arg_at, argument_at, operand_at}
use Rattle.slots.specs.Slots.{Slots, no_owner, slot_at, program_of, target_of, Sound}
use Rattle.slots.proofs.Frames.{InstrFrame}
use Rattle.patterns.specs.Labels.{label_of, label_at, of_label}
use Rattle.patterns.specs.Targets.{stands_at, form_in, TargetIn}
use Rattle.patterns.proofs.Programs.{at_program}
use Rattle.patterns.proofs.Instructions.{read_operands, own, own_some, slot_form, args_own, args_aimed, last_aimed, last_target, carried_target, transfer_slot, target_inner, target_written, target_reads}

-- ---- operands as they are read are never inner labels

abbrev is_plain : Operand → Bool
is_plain (register r) = true
is_plain (value e) = true
is_plain (inner i o) = false

plain_at : (s : List ℕ) (k : Kind) (a : ℕ) → is_plain (operand_at s k (arg_at a)) ≡ true
plain_at s Reg a = refl
plain_at s I8 a = refl
plain_at s D9 a = refl
plain_at s Bit a = refl
plain_at s Rel8 a = refl
plain_at s A12 a = refl
plain_at s A16 a = refl
plain_at s Rel16 a = refl

plain_read : (i : ℕ) (s : List ℕ) (x : Stmt) (f : InstrFrame i s x) → every is_plain f.args ≡ true
plain_read i s x f =
    let r = read_operands i s x f in
    every_all is_plain f.args (register 0) (λ j l.
    ap is_plain (r.each j (omega (arith, r.count))).is ∙ plain_at s (get_or (operands_at (get_or s 1 0)) j Reg) (argument_at s (operands_at (get_or s 1 0)) 2 j))

module _ (f : ℕ → ℕ → Bool) where
  plain_passes : (x : Operand) → is_plain x ≡ true → of_inner f x ≡ true
  plain_passes (register r) e = refl
  plain_passes (value d) e = refl
  plain_passes (inner i o) e = false_true e

  -- operands of which the last may be an inner label: it decides
  last_decides : (xs : List Operand) → every is_plain xs ≡ true → every (of_inner f) xs ≡ of_inner f (last_of xs)
  unfolding every
  last_decides [] p = refl
  last_decides (x ∷ []) p = rw (plain_passes x (and_true (is_plain x) true p).0)
  last_decides (x ∷ y ∷ xs) p =
      let h = and_true (is_plain x) (every is_plain (y ∷ xs)) p in
      rw (plain_passes x h.0) (last_decides (y ∷ xs) h.1)

  and_one : (b : Bool) → b && true ≡ b
  and_one true = refl
  and_one false = refl

  aimed_decides : (x : Operand) (xs : List Operand) → 1 ≤ length xs → every is_plain xs ≡ true → every (of_inner f) (on_last (λ old. x) xs) ≡ of_inner f x
  unfolding every
  aimed_decides x [] l p = absurd (omega arith)
  aimed_decides x (y ∷ []) l p = and_one (of_inner f x)
  aimed_decides x (y ∷ z ∷ xs) l p =
      let h = and_true (is_plain y) (every is_plain (z ∷ xs)) p in
      rw (plain_passes y h.0) (aimed_decides x (z ∷ xs) (omega arith) h.1)

  -- what is no instruction has no operand
  none_decides : (s : Stmt) → (kind_of s ≡ 1 → ⊥) → every (of_inner f) (args_of s) ≡ of_inner f (last_of (args_of s))
  unfolding every
  none_decides gone n = refl
  none_decides (instr g xs c) n = absurd (n refl)
  none_decides (label m) n = refl
  none_decides (variable m d) n = refl
  none_decides (comment x) n = refl
  none_decides (org l) n = refl
  none_decides (bytes es) n = refl
  none_decides (words es) n = refl
  none_decides (pad add m) n = refl

  of_label_lem : (x : Operand) → of_inner f x ≡ of_label f (label_of x)
  of_label_lem (register r) = refl
  of_label_lem (value e) = refl
  of_label_lem (inner i o) = refl

-- the last operand of what carries no target is no inner label
plain_label : (x : Operand) → is_plain x ≡ true → label_of x ≡ None
plain_label (register r) e = refl
plain_label (value d) e = refl
plain_label (inner i o) e = false_true e

last_plain : (xs : List Operand) → every is_plain xs ≡ true → is_plain (last_of xs) ≡ true
unfolding every
last_plain [] p = refl
last_plain (x ∷ []) p = (and_true (is_plain x) true p).0
last_plain (x ∷ y ∷ xs) p = last_plain (y ∷ xs) (and_true (is_plain x) (every is_plain (y ∷ xs)) p).1

none_label : (s : Stmt) → (kind_of s ≡ 1 → ⊥) → label_of (last_of (args_of s)) ≡ None
none_label gone n = refl
none_label (instr g xs c) n = absurd (n refl)
none_label (label m) n = refl
none_label (variable m d) n = refl
none_label (comment x) n = refl
none_label (org l) n = refl
none_label (bytes es) n = refl
none_label (words es) n = refl
none_label (pad add m) n = refl

-- ---- by slot

module _ (t : Slots) (s : Sound t) (f : ℕ → ℕ → Bool) (j : ℕ) (l : j < t.count) where
  instr_label : (e : kind_of (slot_at t j) ≡ 1) (b : Bool) → is_transfer (get_or t.forms j 0) ≡ b → every (of_inner f) (args_of (slot_at t j)) ≡ of_inner f (last_of (args_of (slot_at t j)))
  instr_label e true n =
      let o = own t s.held j l e in
      let x = target_of t (get_or t.carry j 0) in
      let c = own_some t s j l e n in
      let a = args_aimed t s.held j l e n in
      rw a (aimed_decides f x o.args c (plain_read j _ _ o) ∙ ap (of_inner f) (sym (last_aimed x o.args c)))
  instr_label e false n = let o = own t s.held j l e in rw (args_own t s.held j l e n) (last_decides f o.args (plain_read j _ _ o))

  pub slot_label : every (of_inner f) (args_of (slot_at t j)) ≡ of_label f (label_at t j)
  unfolding label_at
  slot_label =
      ⊎_elim (λ e. instr_label e (is_transfer (get_or t.forms j 0)) refl) (λ n. none_decides f (slot_at t j) n) (eq_or_not (kind_of (slot_at t j)) 1)
      ∙ of_label_lem f (last_of (args_of (slot_at t j)))

-- a test of every inner label goes over the slots
pub labels_by : (t : Slots) (s : Sound t) (f : ℕ → ℕ → Bool) → every_inner_label f (program_of t) ≡ all_to (λ j. of_label f (label_at t j)) t.count
unfolding every_inner_label program_of
labels_by t s f =
    every_tab (λ x. every (of_inner f) (args_of x)) (slot_at t) t.count
    ∙ all_ext (λ j. every (of_inner f) (args_of (slot_at t j))) (λ j. of_label f (label_at t j)) t.count (λ j l. slot_label t s f j l)

-- ---- the label of one slot

module _ (t : Slots) (s : Sound t) (i : ℕ) (l : i < t.count) where
  -- what is no transfer carries no target
  pub label_none : is_transfer (form_in (stands_at t i)) ≡ false → label_at t i ≡ None
  unfolding label_at
  label_none n = ⊎_elim on (none_label (slot_at t i)) (eq_or_not (kind_of (slot_at t i)) 1)
    where
      on : kind_of (slot_at t i) ≡ 1 → label_of (last_of (args_of (slot_at t i))) ≡ None
      on e =
          let o = own t s.held i l e in
          let m : is_transfer (get_or t.forms i 0) ≡ false = ap is_transfer (sym (ap form_in (at_program t i l) ∙ slot_form t s.held i l e)) ∙ n in
          ap (λ xs. label_of (last_of xs)) (args_own t s.held i l e m) ∙ plain_label (last_of o.args) (last_plain o.args (plain_read i _ _ o))

  module _ (n : is_transfer (form_in (stands_at t i)) ≡ true) where
    carries : label_at t i ≡ label_of (target_of t (get_or t.carry i 0))
    unfolding label_at
    carries = let h = transfer_slot t s.held i l n in ap label_of (last_target t s i l h.0 h.1)

    pub label_target : TargetIn t.frames t.starts t.count (get_or t.carry i 0)
    label_target = let h = transfer_slot t s.held i l n in carried_target t s i l h.0 h.1

    pub label_inner : get_or t.owners (get_or t.carry i 0) 0 < no_owner
        → label_at t i ≡ Some ((record { 0 = get_or t.owners (get_or t.carry i 0) 0 }), (get_or t.offsets (get_or t.carry i 0) 0))
    label_inner m = carries ∙ ap label_of (target_inner t (get_or t.carry i 0) m)

    pub label_written : no_owner ≤ get_or t.owners (get_or t.carry i 0) 0 → label_at t i ≡ None
    label_written m =
        let c = get_or t.carry i 0 in
        carries ∙ ap label_of (target_written t c m ∙ (target_reads t.frames t.starts t.count s.held c label_target).2)

-- ---- tests of one label

above : (a b : ℕ) → ltb a b ≡ not (leb b a)
above a b = ⊎_elim (λ l. rw (lt-ltb a b l, lt-leb b a l)) (λ l. rw (le-ltb a b l, le-leb b a l)) (lt_or_le a b)

module _ (i m : ℕ) {l : Option (Place × ℕ)} {w : Place} {o : ℕ} (e : l ≡ Some (w, o)) where
  abbrev pub outside : Option (Place × ℕ) → Bool
  outside x = of_label (λ owner k. not (ltb i owner && leb owner m)) x

  pub outside_behind : i < w.0 → ltb m w.0 ≡ outside l
  outside_behind h = above m w.0 ∙ sym (ap outside e ∙ rw (lt-ltb i w.0 h))

  pub outside_before : w.0 ≤ i → true ≡ outside l
  outside_before h = sym (ap outside e ∙ rw (le-ltb i w.0 h))

module _ (i : ℕ) {l : Option (Place × ℕ)} {w : Place} {o : ℕ} (e : l ≡ Some (w, o)) where
  abbrev pub not_interior : Option (Place × ℕ) → Bool
  not_interior x = of_label (λ owner k. not (eqb owner i && leb 1 k)) x

  pub interior_here : w.0 ≡ i → ltb o 1 ≡ not_interior l
  interior_here h = above o 1 ∙ sym (ap not_interior e ∙ rw (eq-eqb w.0 i h))

  pub interior_other : (w.0 ≡ i → ⊥) → true ≡ not_interior l
  interior_other h = sym (ap not_interior e ∙ rw (ne_eqb w.0 i h))
