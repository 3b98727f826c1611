-- `worth::argument_worth` meets its contract: a transfer's last argument is the target that the slot carries, any other its frame's own.
use mathlib.Core.Path.{◌≡◌, sym, ap, ◌∙◌}
use mathlib.Core.Bool.{Bool, true, false}
use mathlib.Core.List.{List}
use Prim.Native.Nat.{ℕ}
use native.Mathlib.Omega.{arith}
use lib.Dec.{eqb}
use lib.ListN.{get_or, length}
use Rattle.rules.specs.Forms.{is_transfer}
use Rattle.rules.specs.Names.{Entry, key_of, lookup, context_at}
use Rattle.expression.specs.Linked.{Linked}
use Rattle.listing.specs.Tables.{frame_at}
use Rattle.laws.proofs.Tests.{and_true}
use Rattle.slots.specs.Slots.{Slots, target_of, program_of, worth_in, Agree}
use Rattle.slots.proofs.Linking.{spans, length_beside}
use Rattle.image.specs.Tables.{Tables, tables_of, is_target, operand_in}
use Rattle.image.proofs.Operands.{slot_in, count_kinds, operand_target, operand_own}
use Rattle.slots.specs.State.{starts_in, forms_in, carry_in}
use Rattle.image.proofs.worth.argument_worth.Goals as goal

abbrev held : (s : goal.After-target_worth) → Tables
held s =
    tables_of s.args.frames.now s.args.state.now s.args.count
    s.args.links.now s.args.values.now s.args.positions.now

abbrev held_2 : (s : goal.After-links_at-beside) → Tables
held_2 s =
    tables_of s.args.frames.now s.args.state.now s.args.count
    s.args.links.now s.args.values.now s.args.positions.now

abbrev held_3 : (s : goal.After-own_worth) → Tables
held_3 s =
    tables_of s.args.frames.now s.args.state.now s.args.count
    s.args.links.now s.args.values.now s.args.positions.now

abbrev here : (s : goal.After-target_worth) → Slots
here s = (held s).slots

abbrev here_2 : (s : goal.After-links_at-beside) → Slots
here_2 s = (held_2 s).slots

abbrev here_3 : (s : goal.After-own_worth) → Slots
here_3 s = (held_3 s).slots

abbrev seen : (s : goal.After-target_worth) → List Entry
seen s = (held s).entries

abbrev seen_2 : (s : goal.After-own_worth) → List Entry
seen_2 s = (held_3 s).entries

abbrev form : (s : goal.After-target_worth) → ℕ
form s = get_or (forms_in s.args.state.now) s.args.at.0 0

abbrev form_2 : (s : goal.After-links_at-beside) → ℕ
form_2 s = get_or (forms_in s.args.state.now) s.args.at.0 0

abbrev form_3 : (s : goal.After-own_worth) → ℕ
form_3 s = get_or (forms_in s.args.state.now) s.args.at.0 0

abbrev context : (s : goal.After-target_worth) → ℕ
context s = get_or (held s).contexts s.args.at.0 0

abbrev context_2 : (s : goal.After-own_worth) → ℕ
context_2 s = get_or (held_3 s).contexts s.args.at.0 0

abbrev carried : (s : goal.After-target_worth) → ℕ
carried s = get_or (carry_in s.args.state.now) s.args.at.0 0

abbrev frame : (s : goal.After-target_worth) → List ℕ
frame s = frame_at s.args.frames.now (starts_in s.args.state.now) s.args.at.0

abbrev frame_2 : (s : goal.After-links_at-beside) → List ℕ
frame_2 s = frame_at s.args.frames.now (starts_in s.args.state.now) s.args.at.0

abbrev frame_3 : (s : goal.After-own_worth) → List ℕ
frame_3 s = frame_at s.args.frames.now (starts_in s.args.state.now) s.args.at.0

agrees : (s : goal.After-target_worth) → Agree (form s) (get_or (frame s) 1 0)
agrees s = s.requires.0.sound.forms s.args.at.0 s.requires.1 s.requires.2

agrees_2 : (s : goal.After-links_at-beside) → Agree (form_2 s) (get_or (frame_2 s) 1 0)
agrees_2 s = s.requires.0.sound.forms s.args.at.0 s.requires.1 s.requires.2

agrees_3 : (s : goal.After-own_worth) → Agree (form_3 s) (get_or (frame_3 s) 1 0)
agrees_3 s = s.requires.0.sound.forms s.args.at.0 s.requires.1 s.requires.2

-- the test, of the form that stands there
target_if : (c : goal.After-target_worth) (b : Bool) → c.is_target.result ≡ b →
    is_target (form c) c.args.j ≡ b
target_if c b e =
    sym (ap (λ f. is_target f c.args.j) c.form_in-form.ensures) ∙ sym c.is_target.ensures ∙ e

-- the test, of the form that stands there
target_if_2 : (c : goal.After-own_worth) (b : Bool) → c.is_target.result ≡ b →
    is_target (form_3 c) c.args.j ≡ b
target_if_2 c b e =
    sym (ap (λ f. is_target f c.args.j) c.form_in-form.ensures) ∙ sym c.is_target.ensures ∙ e

-- the target means in the context of its own frame what it means here
carried_linked : (s : goal.After-target_worth) → is_target (form s) s.args.j ≡ true
    → Linked (λ m. lookup (seen s) (key_of (context s) m)) (frame_at s.args.frames.now (starts_in s.args.state.now) (carried s))
    (frame_at s.args.links.now (starts_in s.args.state.now) (carried s)) s.args.values.now s.args.count
carried_linked s q =
    let d = held s in
    let moves = (and_true (is_transfer (form s)) (eqb _ s.args.j) q).0 in
    let w = s.requires.0.sound.carried s.args.at.0 s.requires.1 s.requires.2 moves in
    let same : context_at (program_of (here s)) (carried s) ≡ context s =
    s.requires.0.together s.args.at.0 s.requires.1 s.requires.2 moves ∙ sym (s.requires.0.context s.args.at.0 s.requires.1) in
    rw same at (s.requires.0.says.linked (carried s) w.inside)

-- as many links as bytes
beside : (s : goal.After-links_at-beside) → length (frame_at s.args.links.now (starts_in s.args.state.now) s.args.at.0) ≡ length (frame_2 s)
beside s = length_beside s.args.frames.now (starts_in s.args.state.now) s.args.count s.requires.0.sound.held s.args.links.now
    s.requires.0.says.full s.args.at.0 s.requires.1

pub returns-then-is_target : goal.returns-then-is_target
returns-then-is_target c =
    let target = target_of (here c) in
    let q = target_if c true c.if-is_target.true in
    c.target_worth.ensures (seen c) (context c) (rw c.carry_at-c.ensures (carried_linked c q)) (forms_in c.args.state.now)
    (carry_in c.args.state.now)
    ∙ ap (λ n. worth_in (seen c) c.args.positions.now (context c) (target n)) c.carry_at-c.ensures
    ∙ sym
    (ap (worth_in (seen c) c.args.positions.now (context c))
    (operand_target (here c) c.requires.0.sound.held c.args.at.0 c.requires.1 c.requires.2 (agrees c) c.args.j q))

pub links_at-beside-requires : goal.links_at-beside-requires
links_at-beside-requires c =
    spans c.args.frames.now (starts_in c.args.state.now) c.args.count c.requires.0.sound.held c.args.links.now c.requires.0.says.full
    c.args.at.0 c.requires.1

pub own_worth-requires : goal.own_worth-requires
own_worth-requires c =
    let held_2 = c.requires.0.sound.held in
    rw (c.frame_at-frame.ensures, c.links_at-beside.ensures) (
      slot_in (here_2 c) held_2 c.args.at.0 c.requires.1 c.requires.2,
      omega (arith, c.requires.3, count_kinds (here_2 c) held_2 c.args.at.0 c.requires.1 c.requires.2 (agrees_2 c)),
      held_2.few,
      beside c,
      c.requires.1,
      held_2.noted c.args.at.0 c.requires.1,
    )

pub returns : goal.returns
returns c =
    let own : Linked (λ m. lookup (seen_2 c) (key_of (context_2 c) m)) (frame_3 c) (frame_at c.args.links.now (starts_in c.args.state.now)
    c.args.at.0) c.args.values.now c.args.count =
    rw (c.requires.0.context c.args.at.0 c.requires.1) (c.requires.0.says.linked c.args.at.0 c.requires.1) in
    c.own_worth.ensures (seen_2 c) (context_2 c) (rw (c.frame_at-frame.ensures, c.links_at-beside.ensures) own) c.args.positions.now
    ∙ ap (λ l. worth_in (seen_2 c) c.args.positions.now (context_2 c) (operand_in c.args.at.0 l c.args.j)) c.frame_at-frame.ensures
    ∙ sym
    (ap (worth_in (seen_2 c) c.args.positions.now (context_2 c))
    (operand_own (here_3 c) c.requires.0.sound.held c.args.at.0 c.requires.1 c.requires.2 (agrees_3 c) c.args.j
    (target_if_2 c false c.if-is_target.false)))
