-- `optimize::shrinking::shrink_at` meets its contract: the form in the tables is the instruction's.
use native.Mathlib.Omega.{arith}
use mathlib.Core.Path.{◌≡◌, sym, ◌∙◌}
use Rattle.rules.specs.Judging.{names_of}
use Rattle.rules.specs.Rewriting.{shrink_at}
use Rattle.slots.specs.Slots.{Slots, program_of}
use Rattle.slots.specs.State.{carry_in, owners_in, offsets_in, table_of}
use Rattle.slots.specs.Meaning.{Stands}
use Rattle.slots.proofs.Stands.{form_stands, no_instr}
use Rattle.optimize.proofs.Tries.{tried_as, tried_is, tried_none}
use Rattle.optimize.proofs.Shorter.{call_for, call_alone, shrink_other, shrink_none, shrink_call, shrink_uncalled}
use borrow.Enum.Refused.{opened}
use Rattle.optimize.proofs.shrinking.shrink_at.Goals as goal

pub returns-in_default : goal.returns-in_default
returns-in_default c =
    let t : Slots = table_of c.args.frames.now c.args.state.now c.args.count in
    let its = names_of (program_of t) in
    let stands : Stands t c.args.at.0 c.slot_at.result =
    c.slot_at.ensures (carry_in c.args.state.now) (owners_in c.args.state.now) (offsets_in c.args.state.now) in
    tried_none (shrink_at c.args.asked its (program_of t) c.args.at.0)
    (shrink_other c.args.asked its t c.args.at.0 c.requires.4 (no_instr t c.args.at.0 c.slot_at.result stands
    (opened c.in_default.in_default-own.keys2))) c.requires.0

pub returns-else-asked : goal.returns-else-asked
returns-else-asked c =
    let t : Slots = table_of c.args.frames.now c.args.state.now c.args.count in
    let its = names_of (program_of t) in
    let stands : Stands t c.args.at.0 c.slot_at.result =
    c.slot_at.ensures (carry_in c.args.state.now) (owners_in c.args.state.now) (offsets_in c.args.state.now) in
    let instruction = form_stands t c.args.at.0 c.slot_at.result stands c.in-Form.form c.in-Form.is in
    let is = sym (stands.form c.in-Form.form c.in-Form.is) in
    tried_is (shrink_at c.args.asked its (program_of t) c.args.at.0) c.if-asked.false
    (tried_none (shrink_at c.args.asked its (program_of t) c.args.at.0)
    (shrink_uncalled c.args.asked its t c.args.at.0 c.requires.4 instruction (is ∙ c.in-60.is) c.if-asked.false) c.requires.0)

pub try_form-requires : goal.try_form-requires
try_form-requires c =
    let t : Slots = table_of c.args.frames.now c.args.state.now c.args.count in
    let its = names_of (program_of t) in
    let stands : Stands t c.args.at.0 c.slot_at.result =
    c.slot_at.ensures (carry_in c.args.state.now) (owners_in c.args.state.now) (offsets_in c.args.state.now) in
    let instruction = form_stands t c.args.at.0 c.slot_at.result stands c.in-Form.form c.in-Form.is in
    let is = sym (stands.form c.in-Form.form c.in-Form.is) in (
      c.requires.0,
      c.requires.1,
      c.requires.4,
      instruction,
      call_for _ (is ∙ c.in-60.is),
      c.requires.3,
      c.requires.2.position,
      call_alone.0,
      call_alone.1,
    )

pub returns-then-asked : goal.returns-then-asked
returns-then-asked c =
    let t : Slots = table_of c.args.frames.now c.args.state.now c.args.count in
    let its = names_of (program_of t) in
    let stands : Stands t c.args.at.0 c.slot_at.result =
    c.slot_at.ensures (carry_in c.args.state.now) (owners_in c.args.state.now) (offsets_in c.args.state.now) in
    let instruction = form_stands t c.args.at.0 c.slot_at.result stands c.in-Form.form c.in-Form.is in
    let is = sym (stands.form c.in-Form.form c.in-Form.is) in
    tried_as _ (shrink_at c.args.asked its (program_of t) c.args.at.0)
    (shrink_call c.args.asked its t c.args.at.0 c.requires.4 instruction (is ∙ c.in-60.is) c.if-asked.true) c.try_form.ensures

pub returns-in_default-form : goal.returns-in_default-form
returns-in_default-form c =
    let t : Slots = table_of c.args.frames.now c.args.state.now c.args.count in
    let its = names_of (program_of t) in
    let stands : Stands t c.args.at.0 c.slot_at.result =
    c.slot_at.ensures (carry_in c.args.state.now) (owners_in c.args.state.now) (offsets_in c.args.state.now) in
    let instruction = form_stands t c.args.at.0 c.slot_at.result stands c.in-Form.form c.in-Form.is in
    let is = sym (stands.form c.in-Form.form c.in-Form.is) in
    tried_none (shrink_at c.args.asked its (program_of t) c.args.at.0)
    (shrink_none c.args.asked its t c.args.at.0 c.requires.4 instruction (λ e. let told : c.in-Form.form ≡ 43 = sym is ∙ e in omega arith)
    (λ e. let told : c.in-Form.form ≡ 60 = sym is ∙ e in omega arith)) c.requires.0
