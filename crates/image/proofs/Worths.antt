-- What an operand of a slot is worth by the table of positions is what it is worth in the program: an inner label's owner is one of its
-- statements. A register's number is small, so that its field holds it as it is.
use Rattle.rules.specs.declared.Unvalued.{Unvalued}
use mathlib.Core.Path.{◌≡◌, refl, sym, ap, ◌∙◌}
use mathlib.Core.List.{List, [], ◌∷◌}
use mathlib.Core.Bool.{Bool, true, false}
use mathlib.Core.Logic.{⊎_elim}
use Prim.Native.Nat.{ℕ, zero, suc, ◌+◌, ◌-◌, ◌≤◌, ◌<◌}
use native.Mathlib.Omega.{arith}
use lib.Dec.{eqb}
use lib.ListN.{length, get_or}
use lib.IntN.{ℤ, pos}
use borrow.Author.Tests.{eqb-true, lt-ltb}
use Rattle.std.specs.Prelude.{Ok, Result}
use Rattle.laws.proofs.Tests.{true_false, false_true, and_true, lt_or_le}
use Rattle.laws.proofs.Lists.{get_or_map_in}
use Rattle.laws.proofs.Counts.{length_tab, get_or_tab}
use Rattle.rules.specs.declared.Kind.{Kind}
use Rattle.rules.specs.declared.Kind.TheVariants.{Reg, I8, D9, Bit, Rel8, A12, A16, Rel16}
use Rattle.rules.specs.Forms.{operands_at, size_at, is_address, ends_in_address, is_transfer}
use Rattle.rules.specs.Programs.{Operand, register, value, inner, gone, Program, at, kind_of}
use Rattle.rules.specs.Layout.{after, position}
use Rattle.rules.specs.Names.{Entry, context_at}
use Rattle.rules.specs.Judging.{worth_of}
use Rattle.rules.specs.Statements.{arg_at, operand_at}
use Rattle.encoding.specs.Operands.{held}
use Rattle.listing.specs.Tables.{frame_at}
use Rattle.slots.specs.Slots.{Slots, target_of, slot_at, program_of, worth_in, no_owner, is_reg, register_at, InstrIn, Agree, WroteTarget, Sound}
use Rattle.slots.proofs.Operands.{register_at_lem}
use Rattle.instruction.proofs.Rows.{has_target}
use Rattle.image.specs.Tables.{Tables, program, is_target, operand_in, operand_at as operand_is, Ready}
use Rattle.image.proofs.Placed.{position_after}
use Rattle.image.proofs.Operands.{begin, operand_read, own_register, own_small, target_inner, target_last, wrote_in, slot_in, slot_is, count_kinds, operand_target, operand_own}

-- the owner of an inner label is one of n statements
abbrev pub Inside : (n : ℕ) → Operand → Type 0
Inside n (register r) = Unit {0}
Inside n (value e) = Unit {0}
Inside n (inner i o) = i < n

-- the law: where a table holds the positions of n statements, an operand inside is worth the same by either
pub worth_same : (names : List Entry) (positions : List ℕ) (p : Program) (n k : ℕ) → ((i : ℕ) → i < n → get_or positions i 0 ≡ position p i)
    → (x : Operand) → Inside n x → worth_in names positions k x ≡ worth_of names p k x
worth_same names positions p n k h (register r) l = refl
worth_same names positions p n k h (value e) l = refl
worth_same names positions p n k h (inner i o) l = ap (λ q. Ok (pos (q + o))) (h i l)

read_inside : (n : ℕ) (s : List ℕ) (k : Kind) (a : ℕ) → Inside n (operand_at s k (arg_at a))
read_inside n s Reg a = tt
read_inside n s I8 a = tt
read_inside n s D9 a = tt
read_inside n s Bit a = tt
read_inside n s Rel8 a = tt
read_inside n s A12 a = tt
read_inside n s A16 a = tt
read_inside n s Rel16 a = tt

own_inside : (n i : ℕ) (s : List ℕ) → InstrIn i s → (j : ℕ) → j < length (operands_at (get_or s 1 0)) → Inside n (operand_in i s j)
own_inside n i s h j l = rw (operand_read i s h j l).is (read_inside n s (get_or (operands_at (get_or s 1 0)) j Reg) (begin s j))

target_inside : (t : Slots) → Sound t → (c : ℕ) → WroteTarget t c → Inside t.count (target_of t c)
target_inside t h c w =
    let s = frame_at t.frames t.starts c in
    ⊎_elim (λ l. rw (target_inner t c l) (h.owned c w.inside l))
    (λ l.
    rw (target_last t h.held c w l)
    (own_inside t.count c s (wrote_in t h.held c w) (length (operands_at (get_or s 1 0)) - 1) (omega (arith, has_target (get_or s 1 0) w.transfer))))
    (lt_or_le (get_or t.owners c 0) no_owner)

module _ (t : Slots) (h : Sound t) (i : ℕ) (l : i < t.count) (e : kind_of (slot_at t i) ≡ 1) (j : ℕ) (m : j < length (operands_at (get_or t.forms i 0))) where
  abbrev form : ℕ
  form = get_or t.forms i 0

  abbrev frame : List ℕ
  frame = frame_at t.frames t.starts i

  agree : Agree form (get_or frame 1 0)
  agree = h.forms i l e

  within : j < length (operands_at (get_or frame 1 0))
  within = omega (arith, m, count_kinds t h.held i l e agree)

  pub operand_inside : Inside t.count (operand_is t i j)
  operand_inside = on (is_target form j) refl
    where
      on : (b : Bool) → is_target form j ≡ b → Inside t.count (operand_is t i j)
      on true q =
          rw (operand_target t h.held i l e agree j q)
          (target_inside t h (get_or t.carry i 0) (h.carried i l e (and_true (is_transfer form) (eqb (length (operands_at form) - 1) j) q).0))
      on false q = rw (operand_own t h.held i l e agree j q) (own_inside t.count i frame (slot_in t h.held i l e) j within)

  -- ---- a register's number

  address_last : (ks : List Kind) (n : ℕ) → length ks ≡ suc n → ends_in_address ks ≡ true → is_reg (get_or ks n Reg) ≡ false
  address_last [] n q a = absurd (omega arith)
  address_last (k ∷ []) n q a = let z : n ≡ 0 = omega arith in rw z (no_register k a)
    where
      no_register : (d : Kind) → is_address d ≡ true → is_reg d ≡ false
      no_register Reg b = false_true b
      no_register I8 b = refl
      no_register D9 b = refl
      no_register Bit b = refl
      no_register Rel8 b = refl
      no_register A12 b = refl
      no_register A16 b = refl
      no_register Rel16 b = refl
  address_last (k ∷ d ∷ ks) zero q a = absurd (omega arith)
  address_last (k ∷ d ∷ ks) (suc n) q a = address_last (d ∷ ks) n (omega arith) a

  -- a register is no target, and the frame has it where the form does
  no_target : is_reg (get_or (operands_at form) j Reg) ≡ true → is_target form j ≡ false
  unfolding is_transfer
  no_target q = on (is_target form j) refl
    where
      on : (b : Bool) → is_target form j ≡ b → is_target form j ≡ false
      on false r = r
      on true r =
          let a = and_true (is_transfer form) (eqb (length (operands_at form) - 1) j) r in
          true_false (sym q ∙ address_last (operands_at form) j (omega (arith, has_target form a.0, eqb-true (length (operands_at form) - 1) j a.1)) a.0)

  same_register : is_reg (get_or (operands_at form) j Reg) ≡ true → register_at (operands_at (get_or frame 1 0)) j ≡ true
  same_register q =
      register_at_lem (operands_at (get_or frame 1 0)) j within
      ∙ sym (get_or_map_in is_reg (operands_at (get_or frame 1 0)) j Reg false within)
      ∙ sym (ap (λ bs. get_or bs j false) agree.registers)
      ∙ get_or_map_in is_reg (operands_at form) j Reg false m
      ∙ q

  register_held : (names : List Entry) (positions : List ℕ) (k : ℕ) (z : ℤ) → is_reg (get_or (operands_at form) j Reg) ≡ true
      → worth_in names positions k (operand_is t i j) ≡ Ok z → held Reg z ≡ z
  register_held names positions k z q w =
      let s = slot_in t h.held i l e in
      let r = same_register q in
      let n = get_or frame (begin frame j) 0 in
      let is : ◌≡◌ {A = Result ℤ Unvalued} (Ok (pos n)) (Ok z) =
      sym (ap (worth_in names positions k) (operand_own t h.held i l e agree j (no_target q) ∙ own_register i frame s j within r)) ∙ w in
      let y : pos n ≡ z = cc in
      rw (← y) (rw (lt-ltb n 65536 (omega (arith, own_small i frame s j within r))))

  -- the field of any operand holds its value as it is
  pub value_held : (names : List Entry) (positions : List ℕ) (k : ℕ) (z : ℤ) (d : Kind) → d ≡ get_or (operands_at form) j Reg
      → worth_in names positions k (operand_is t i j) ≡ Ok z → held d z ≡ z
  value_held names positions k z Reg q w = register_held names positions k z (ap is_reg (sym q)) w
  value_held names positions k z I8 q w = refl
  value_held names positions k z D9 q w = refl
  value_held names positions k z Bit q w = refl
  value_held names positions k z Rel8 q w = refl
  value_held names positions k z A12 q w = refl
  value_held names positions k z A16 q w = refl
  value_held names positions k z Rel16 q w = refl

-- ---- the program of the tables

pub count_program : (t : Slots) → length (program_of t) ≡ t.count
unfolding program_of
count_program t = length_tab (slot_at t) t.count

pub at_program : (t : Slots) (i : ℕ) → i < t.count → at (program_of t) i ≡ slot_at t i
unfolding program_of
at_program t i l = get_or_tab (slot_at t) t.count i gone l

pub worth_at_lem : (d : Tables) → Ready d → (i : ℕ) → i < d.slots.count → kind_of (slot_at d.slots i) ≡ 1 → (j : ℕ) → j < length (operands_at (get_or d.slots.forms i 0))
    → worth_in d.entries d.positions (get_or d.contexts i 0) (operand_is d.slots i j) ≡ worth_of d.entries (program d) (context_at (program d) i) (operand_is d.slots i j)
worth_at_lem d h i l e j m =
    ap (λ k. worth_in d.entries d.positions k (operand_is d.slots i j)) (h.context i l)
    ∙ worth_same d.entries d.positions (program d) d.slots.count (context_at (program d) i) (λ k b. h.position k (omega arith))
    (operand_is d.slots i j) (operand_inside d.slots h.sound i l e j m)

-- the address after an instruction
pub end_low : (d : Tables) → Ready d → (i : ℕ) → i < d.slots.count → kind_of (slot_at d.slots i) ≡ 1
    → get_or d.positions i 0 + size_at (get_or d.slots.forms i 0) ≤ 65536
end_low d h i l e =
    let f = get_or d.slots.forms i 0 in
    let next : position (program d) (suc i) ≡ position (program d) i + size_at f =
    position_after (program d) i (omega (arith, count_program d.slots))
    ∙ ap (after (position (program d) i)) (at_program d.slots i l ∙ slot_is d.slots h.sound.held i l e) in
    omega (arith, next, h.position (suc i) (omega arith), h.position i (omega arith), h.low (suc i) (omega arith))
