-- `codes::encode_at` meets its contract. The invariant: what is left of the encoding from argument j on, with the fields before it in hand.
use mathlib.Core.Path.{◌≡◌, refl, sym, ap, ◌∙◌}
use mathlib.Core.List.{[], ◌∷◌}
use Prim.Native.Nat.{ℕ, zero, suc, ◌+◌, ◌<◌}
use native.Mathlib.Numerals.{add-one}
use native.Mathlib.Omega.{arith}
use lib.ListN.{length, get_or, set, length-set}
use lib.Seq.{get_or-set_other}
use Rattle.std.specs.Prelude.{Ok, Err}
use Rattle.std.proofs.lemmas.Result.{err_from_is_err_and}
use Rattle.rules.specs.declared.Kind.TheVariants.{Reg}
use Rattle.rules.specs.Forms.{operands_at, size_at}
use Rattle.rules.specs.Programs.{args_of}
use Rattle.rules.specs.Names.{context_at}
use Rattle.instruction.proofs.Numbers.{size_bound, few_operands}
use Rattle.slots.specs.Slots.{slot_at}
use Rattle.encoding.specs.Encode.{code_at}
use Rattle.encoding.proofs.Codes.{code_of}
use Rattle.image.specs.Tables.{Tables, tables_of, program, operand_at}
use Rattle.image.specs.Encoding.{field_of, encode_at, encoded_as}
use Rattle.image.proofs.Operands.{slot_is, count_args}
use Rattle.image.proofs.Worths.{end_low}
use Rattle.image.proofs.Fields.{field_ok, field_no, left_of, left_start, left_ok, left_no, left_end, code_is}
use Rattle.slots.specs.State.{forms_in}
use Rattle.image.proofs.codes.encode_at.Goals as goal
use Rattle.image.proofs.codes.encode_at.Goals.{After-operand_count-j-end}

-- what each goal of the loop knows: the slot's form, its operands, and the address after the instruction
module _ (s : After-operand_count-j-end) where
  abbrev here : Tables
  here =
      tables_of s.args.frames.now s.args.state.now s.args.count
      s.args.links.now s.args.values.now s.args.positions.now

  abbrev place : ℕ
  place = s.args.at.0

  abbrev form : ℕ
  form = get_or (forms_in s.args.state.now) place 0

  same_count : length (args_of (slot_at here.slots place)) ≡ length (operands_at form)
  same_count = count_args here.slots s.requires.0.sound.held place s.requires.1 s.requires.2
      (s.requires.0.sound.forms place s.requires.1 s.requires.2)

  ends_at : s.after-n.result.0 ≡ get_or s.args.positions.now place 0 + size_at form
  ends_at =
      s.after-n.ensures ∙ ap (λ n. get_or s.args.positions.now place 0 + n) (s.size.ensures ∙ ap size_at s.form_in-form.ensures)

  operands : s.operand_count-j-end.result ≡ length (operands_at form)
  operands = s.operand_count-j-end.ensures ∙ ap (λ f. length (operands_at f)) s.form_in-form.ensures

none : (m : ℕ) → get_or {A = ℕ} (0 ∷ 0 ∷ 0 ∷ []) m 0 ≡ 0
none zero = refl
none (suc zero) = refl
none (suc (suc zero)) = refl
none (suc (suc (suc m))) = refl

pub after-n-requires : goal.after-n-requires
after-n-requires c =
    (c.requires.0.low c.args.at.0 (omega arith), omega (arith, size_bound c.form_in-form.result))

pub loop-j-init : goal.loop-j-init
unfolding encode_at
loop-j-init c =
    let d = here c in (
      refl,
      λ m l. none m,
      left_start d.entries (program d) (place c) _ c.after-n.result.0 (form c) _ _ _ _ (0 ∷ 0 ∷ 0 ∷ [])
          (slot_is d.slots c.requires.0.sound.held (place c) c.requires.1 c.requires.2)
          (ends_at c ∙ ap (λ n. n + size_at (form c)) (c.requires.0.position (place c) (omega arith))),
    )

pub field_at-requires : goal.field_at-requires
field_at-requires c =
    let s = (goal.at.field_at-requires c).After-operand_count-j-end in
    record {
      fact = c.requires;
      j_in_bounds = (
        omega (arith, operands s),
        omega (arith, ends_at s, end_low (here s) c.requires.0 (place s) c.requires.1 c.requires.2),
      );
    }

pub offset_bounds-fields-j : goal.offset_bounds-fields-j
offset_bounds-fields-j c =
    let s = (goal.at.offset_bounds-fields-j c).After-operand_count-j-end in
    record { fits = omega (arith, operands s, few_operands (form s)) }

pub bounds-fields-j : goal.bounds-fields-j
bounds-fields-j c =
    let s = (goal.at.bounds-fields-j c).After-operand_count-j-end in
    omega (arith, operands s, few_operands (form s))

pub returns-in_err-fields : goal.returns-in_err-fields
returns-in_err-fields c =
    let l = c.loop-j in
    let s = (goal.at.returns-in_err-fields c).After-operand_count-j-end in
    let d = here s in
    let x = field_of d.entries (program d) (place s) (context_at (program d) (place s)) c.after-n.result.0 l.j
    (get_or (operands_at (form s)) l.j Reg) (operand_at d.slots (place s) l.j) in
    let p = err_from_is_err_and c.from_residual.result c.from_residual.ensures.1 in
    rw p.1
    (sym
    (ap encoded_as
    (l.invariant.2
    ∙ left_no d.entries (program d) (place s) _ c.after-n.result.0 (form s) _ (same_count s) l.j l.fields p.0
    (omega (arith, operands s)) (field_no x c.field_at.ensures (c.in_err-fields.was ∙ ap Err (sym p.2))))))

pub loop-j-preserved : goal.loop-j-preserved
loop-j-preserved c =
    let l = c.loop-j in
    let s = (goal.at.loop-j-preserved c).After-operand_count-j-end in
    let d = here s in
    let v = c.in_ok-fields.field-0 in
    let x = field_of d.entries (program d) (place s) (context_at (program d) (place s)) c.after-n.result.0 l.j
    (get_or (operands_at (form s)) l.j Reg) (operand_at d.slots (place s) l.j) in
    let some : l.j < length (operands_at (form s)) = omega (arith, operands s) in
    let left = left_of d.entries (program d) (place s) (context_at (program d) (place s)) c.after-n.result.0 (form s)
    (args_of (slot_at d.slots (place s))) in (
      length-set l.fields l.j v ∙ l.invariant.0,
      λ m h. get_or-set_other l.fields l.j m v 0 (λ e. omega arith) ∙ l.invariant.1 m (omega arith),
      l.invariant.2
          ∙ left_ok d.entries (program d) (place s) _ c.after-n.result.0 (form s) _ (same_count s) l.j l.fields v
          some (omega (arith, few_operands (form s))) (field_ok x c.field_at.ensures c.in_ok-fields.was)
          ∙ ap (λ m. left m (set l.fields l.j v)) (sym (add-one l.j)),
    )

pub returns : goal.returns
returns c =
    let l = c.loop-j in
    let s = (goal.at.returns c).After-operand_count-j-end in
    let d = here s in
    let all : length (operands_at (form s)) ≡ l.j = omega (arith, operands s) in
    ap Ok
    (c.encode.ensures
    ∙ code_of _ _ _ _
    ∙ ap (λ f. code_at f (get_or l.fields 0 0) (get_or l.fields 1 0) (get_or l.fields 2 0)) c.instr_at.ensures.form
    ∙ sym (code_is (form s) l.fields))
    ∙ sym
    (ap encoded_as
    (l.invariant.2
    ∙ left_end d.entries (program d) (place s) _ c.after-n.result.0 (form s) _ (same_count s) l.j l.fields
    (omega arith) (omega (arith, few_operands (form s))) l.invariant.1))
