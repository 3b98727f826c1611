-- Out of reach: a target that has its value without any name has it in every program, and a form that refuses it from where it lies makes no candidate.
use mathlib.Core.Path.{◌≡◌, refl, sym, ap, ◌∙◌}
use mathlib.Core.List.{List, [], ◌∷◌}
use mathlib.Core.Option.{Option, none, some}
use mathlib.Core.Bool.{Bool, true, false, cond}
use Prim.Native.Nat.{ℕ, zero, suc, ◌+◌, ◌-◌, ◌<◌}
use native.Mathlib.Omega.{arith}
use lib.Dec.{eqb}
use lib.IntN.{ℤ, pos}
use lib.ListN.{length, get_or, set}
use lib.Seq.{get_or-set_same}
use borrow.Author.Tests.{le-ltb}
use Rattle.rules.specs.declared.Unvalued.TheVariants.{Unknown, Nothing}
use Rattle.rules.specs.declared.Unvalued.{Unvalued}
use Rattle.std.specs.Prelude.{Result, Err, Ok}
use Rattle.laws.specs.Options.{given}
use Rattle.laws.proofs.Tests.{clash, true_false, and_both}
use Rattle.laws.proofs.Options.{given_false}
use Rattle.rules.specs.declared.Kind.{Kind}
use Rattle.rules.specs.declared.Kind.TheVariants.{Reg, I8, D9, Bit, Rel8, A12, A16, Rel16}
use Rattle.rules.specs.declared.Op1.{Op1}
use Rattle.rules.specs.declared.Op2.{Op2}
use Rattle.rules.specs.declared.Refusal.{Refusal}
use Rattle.rules.specs.Answers.{Judged, ok, no, is_ok, judged_or}
use Rattle.rules.specs.Expressions.{Expr, num, name, two, one, with1, with2, eval_tree}
use Rattle.rules.specs.Values.{in_range}
use Rattle.rules.specs.Forms.{operands_at, is_transfer, size_at}
use Rattle.rules.specs.Programs.{Placeℕ, Addressℕ, register, Stmt, gone, instr, args_of, Program, kind_of}
use Rattle.rules.specs.Layout.{position_from, position, after}
use Rattle.rules.specs.Names.{Entry, context_at, placed}
use Rattle.rules.specs.Encoding.{field}
use Rattle.rules.specs.Judging.{encode_all, judge, names_of, no_name_twice, positions_fit, define_all, assembles}
use Rattle.rules.specs.Rewriting.{candidate, acceptable, no_interior_label_at}
use Rattle.rules.proofs.Laws.{then_ok, next_ok}
use Rattle.expression.specs.Linked.{Linked, unless_gone}
use Rattle.encoding.specs.Operands.{held}
use Rattle.slots.specs.Slots.{Slots, slots, slot_at, target_of, program_of, Agree}
use Rattle.listing.specs.Tables.{frame_at}
use Rattle.image.specs.Tables.{Tables}
use Rattle.image.specs.Encoding.{field_of, encode_at, encode_slots}
use Rattle.image.proofs.Operands.{operand_target, count_args}
use Rattle.image.proofs.Fields.{left_start, left_no}
use Rattle.image.proofs.Passes.{slot_fails}
use Rattle.patterns.proofs.Programs.{at_program, length_program}
use Rattle.attempts.specs.Standing.{Standing}
use Rattle.attempts.specs.Shrinks.{shrunk}
use Rattle.attempts.specs.Reach.{OutOfReach}
use Rattle.attempts.proofs.Attempts.{Holding, formed_holds, counts_not}

-- ---- a value that needs no name

one_fixed : (o : Op1) (x y : Result ℤ Unvalued) (z : ℤ) → ((a : ℤ) → x ≡ Ok a → y ≡ Ok a) → with1 o x ≡ Ok z → with1 o y ≡ Ok z
one_fixed o (Ok a) y z f h = rw (f a refl) h
one_fixed o (Err Unknown) y z f h = clash (cc)
one_fixed o (Err Nothing) y z f h = clash (cc)

two_fixed : (o : Op2) (x y x' y' : Result ℤ Unvalued) (z : ℤ) → ((a : ℤ) → x ≡ Ok a → x' ≡ Ok a) → ((b : ℤ) → y ≡ Ok b → y' ≡ Ok b)
    → with2 o x y ≡ Ok z → with2 o x' y' ≡ Ok z
two_fixed o (Ok a) (Ok b) x' y' z f g h = rw (f a refl, g b refl) h
two_fixed o (Ok a) (Err Unknown) x' y' z f g h = clash (cc)
two_fixed o (Ok a) (Err Nothing) x' y' z f g h = clash (cc)
two_fixed o (Err Unknown) y x' y' z f g h = clash (cc)
two_fixed o (Err Nothing) y x' y' z f g h = clash (cc)

pub tree_fixed : (env : ℕ → Result ℤ Unvalued) (e : Expr) (z : ℤ) → eval_tree (λ n. (Err Unknown)) e ≡ Ok z → eval_tree env e ≡ Ok z
unfolding eval_tree
tree_fixed env (num a) z h = h
tree_fixed env (name n) z h = clash (cc)
tree_fixed env (two o e d) z h =
    two_fixed o (eval_tree (λ n. (Err Unknown)) e) (eval_tree (λ n. (Err Unknown)) d) (eval_tree env e) (eval_tree env d) z (tree_fixed env e) (tree_fixed env d) h
tree_fixed env (one o e) z h = one_fixed o (eval_tree (λ n. (Err Unknown)) e) (eval_tree env e) z (tree_fixed env e) h

-- by no place below 0 is any name known
pub none_linked : (s links : List ℕ) (values : List ℤ) → Linked (λ m. (Err Unknown)) s links values 0
none_linked s links values =
    record { name = λ j l q. ap (λ (b : Bool). cond b (unless_gone (in_range (get_or values (get_or links j 0) (pos 0)))) (Err Unknown)) (le-ltb (get_or links j 0) 0 (omega arith)) }

-- ---- a field that is refused

pub held_fails : (i j n : ℕ) (k : Kind) (v : ℤ) → is_ok (field i j n k (held k v)) ≡ false → is_ok (field i j n k v) ≡ false
unfolding field is_ok
held_fails i j n Reg v e = true_false e
held_fails i j n I8 v e = e
held_fails i j n D9 v e = e
held_fails i j n Bit v e = e
held_fails i j n Rel8 v e = e
held_fails i j n A12 v e = e
held_fails i j n A16 v e = e
held_fails i j n Rel16 v e = e

-- ---- what stands before a changed place keeps its position

position_from_lem : (q : Addressℕ) (p : Program) (i : Placeℕ) (s : Stmt) → position_from q (set p i s) i ≡ position_from q p i
unfolding position_from
position_from_lem q [] i s = refl
position_from_lem q (x ∷ p) zero s = refl
position_from_lem q (x ∷ p) (suc i) s = position_from_lem (after q x) p i s

-- ---- a program that assembles encodes

encodes_whole : (p : Program) → is_ok (encode_all (names_of p) p (placed p)) ≡ false → assembles p ≡ false
unfolding assembles judge is_ok names_of judged_or
encodes_whole p e = on (judge p) refl
  where
    on : (x : Judged (List ℕ)) → judge p ≡ x → is_ok x ≡ false
    on (no r) h = refl
    on (ok image) h =
        let a = next_ok (no_name_twice [] (placed p)) _ image h in
        let b = next_ok (positions_fit (placed p)) _ image a.2 in
        let c = then_ok (define_all [] (placed p)) _ image b.2 in
        true_false (sym (rw c.1 (ap is_ok c.2)) ∙ e)

-- ---- no candidate

given_none : (b : Bool) → ◌≡◌ {A = Option Program} (given b none) none
unfolding given
given_none true = refl
given_none false = refl

no_field : (x : Judged ℕ) → is_ok x ≡ false → (r : Refusal) × (x ≡ no r)
unfolding is_ok
no_field (ok n) e = true_false e
no_field (no r) e = (r, refl)

module _ (frames starts : List ℕ) (count : ℕ) (forms carry owners offsets : List ℕ) (st : Standing (slots frames starts count forms carry owners offsets))
    (f : ℕ) (i : Placeℕ) (l : i < count) (kind : kind_of (slot_at (slots frames starts count forms carry owners offsets) i) ≡ 1) (a : Agree f (get_or forms i 0))
    (moves : is_transfer f ≡ true) (alone : length (operands_at f) ≡ 1) where
  abbrev old : Slots
  old = slots frames starts count forms carry owners offsets

  abbrev new : Slots
  new = slots frames starts count (set forms i f) carry owners offsets

  abbrev formed : Program
  formed = set (program_of old) i (instr f (args_of (slot_at old i)) (get_or carry i 0))

  held_new : Holding new formed
  held_new = formed_holds frames starts count forms carry owners offsets st f i (set forms i f) carry l kind a refl refl

  abbrev judged : Tables
  judged = record { slots = new; entries = names_of (program_of new); contexts = []; links = []; values = []; positions = [] }

  same_position : position (program_of new) i ≡ position (program_of old) i
  unfolding position
  same_position = ap (λ (p : Program). position_from 0 p i) held_new.is ∙ position_from_lem 0 (program_of old) i (instr f (args_of (slot_at old i)) (get_or carry i 0))

  abbrev shorter : Stmt
  shorter = instr f (args_of (slot_at old i)) (get_or carry i 0)

  slot_now : slot_at new i ≡ shorter
  slot_now =
      sym (at_program new i l)
      ∙ ap (λ (p : Program). get_or p i gone) held_new.is
      ∙ get_or-set_same (program_of old) i shorter gone (omega (arith, length_program old))

  now_kind : kind_of (slot_at new i) ≡ 1
  now_kind = ap kind_of slot_now

  form_now : get_or (set forms i f) i 0 ≡ f
  form_now = get_or-set_same forms i f 0 (omega (arith, st.forms_full, st.sound.held.few))

  agrees : Agree (get_or (set forms i f) i 0) (get_or (frame_at frames starts i) 1 0)
  agrees = held_new.stands.sound.forms i l now_kind

  abbrev names : List Entry
  names = names_of (program_of new)

  abbrev context : ℕ
  context = context_at (program_of new) i

  aims : get_or (args_of (slot_at new i)) 0 (register 0) ≡ target_of new (get_or carry i 0)
  aims =
      operand_target new held_new.stands.sound.held i l now_kind agrees 0
      (rw form_now (and_both (is_transfer f) (eqb (length (operands_at f) - 1) 0) moves (rw alone refl)))

  many : length (args_of (slot_at new i)) ≡ length (operands_at f)
  many = count_args new held_new.stands.sound.held i l now_kind agrees ∙ ap (λ (g : ℕ). length (operands_at g)) form_now

  not_encoded : OutOfReach new (position (program_of old) i) f i → is_ok (encode_at judged i) ≡ false
  unfolding encode_at is_ok
  not_encoded far =
      let n = position (program_of new) i + size_at f in
      let xs = args_of (slot_at new i) in
      let d = get_or (operands_at f) 0 Reg in
      let away : is_ok (field_of names (program_of new) i context n 0 d (get_or xs 0 (register 0))) ≡ false =
      ap (λ x. is_ok (field_of names (program_of new) i context n 0 d x)) aims
      ∙ ap (λ q. is_ok (field_of names (program_of new) i context (q + size_at f) 0 d (target_of new (get_or carry i 0)))) same_position
      ∙ far names (program_of new) context in
      let r = no_field (field_of names (program_of new) i context n 0 d (get_or xs 0 (register 0))) away in
      ap is_ok
      (left_start names (program_of new) i context n f (get_or carry i 0) (position (program_of new) i) (args_of (slot_at old i)) (slot_at new i) [] slot_now refl
      ∙ left_no names (program_of new) i context n f xs many 0 [] r.0 (omega (arith, alone)) r.1)

  pub out_of_reach : OutOfReach new (position (program_of old) i) f i → shrunk old i f ≡ none
  unfolding encode_slots shrunk candidate
  out_of_reach far =
      let fails : assembles formed ≡ false = ap assembles (sym held_new.is) ∙ encodes_whole (program_of new) (slot_fails judged i l (not_encoded far)) in
      let counts : acceptable formed ≡ false = sym (counts_not formed (assembles formed) refl fails) in
      ap (given (no_interior_label_at (program_of old) i)) (given_false (acceptable formed) (some formed) counts) ∙ given_none (no_interior_label_at (program_of old) i)
