-- `patterns::counting::in_instruction` meets its contract: the operands as read, but for the target that a transfer carries.
use mathlib.Core.Path.{◌≡◌, sym, subst₂, ap, ap₂, ◌∙◌}
use mathlib.Core.Bool.{Bool, true}
use mathlib.Core.List.{List, []}
use Prim.Native.Nat.{ℕ, ◌+◌, ◌-◌, ◌≤◌, ◌<◌}
use lib.ListN.{length, get_or, take}
use native.Mathlib.Omega.{arith}
use Rattle.laws.specs.Lists.{total}
use Rattle.rules.specs.Expressions.{mentions}
use Rattle.rules.specs.Forms.{is_transfer, operands_at}
use Rattle.rules.specs.Programs.{args_of, in_operand}
use Rattle.expression.specs.Naming.{Referred}
use Rattle.listing.specs.Tables.{frame_at, Noted}
use Rattle.slots.specs.Slots.{Slots, slots, target_of, InstrIn}
use Rattle.slots.proofs.Linking.{spans}
use Rattle.slots.proofs.Operands.{instr_in}
use Rattle.instruction.proofs.Numbers.{few_operands}
use Rattle.instruction.proofs.Rows.{has_target}
use Rattle.patterns.specs.Mentions.{read_as, Short}
use Rattle.patterns.specs.Targets.{TargetIn}
use Rattle.patterns.proofs.Instructions.{carried_target}
use Rattle.patterns.proofs.Mentions.{instr_here, in_own, in_aimed}
use Rattle.patterns.proofs.Naming.{beside_short}
use Rattle.slots.specs.State.{starts_in, forms_in, carry_in, owners_in}
use Rattle.patterns.proofs.counting.in_instruction.Goals as goal

module _ (c : goal.After-shared_slice_known-2-1-unread) where
  abbrev frame : List ℕ
  frame = frame_at c.args.frames.now (starts_in c.args.state.now) c.args.at.0

  abbrev over : (offsets : List ℕ) → Slots
  over offsets = slots c.args.frames.now (starts_in c.args.state.now) c.args.count (forms_in c.args.state.now) (carry_in c.args.state.now)
      (owners_in c.args.state.now) offsets

  here : InstrIn c.args.at.0 frame
  here = instr_here (over []) (c.requires.2 []).0 c.args.at.0 c.requires.0 (c.requires.2 []).1

module _ (c : goal.After-carry_at-written) where
  abbrev over_2 : (offsets : List ℕ) → Slots
  over_2 offsets = slots c.args.frames.now (starts_in c.args.state.now) c.args.count (forms_in c.args.state.now)
      (carry_in c.args.state.now) (owners_in c.args.state.now) offsets

module _ (c : goal.After-in_target-carried) where
  abbrev frame_3 : List ℕ
  frame_3 = frame_at c.args.frames.now (starts_in c.args.state.now) c.args.at.0

  abbrev over_3 : (offsets : List ℕ) → Slots
  over_3 offsets = slots c.args.frames.now (starts_in c.args.state.now) c.args.count (forms_in c.args.state.now)
      (carry_in c.args.state.now) (owners_in c.args.state.now) offsets

  here_3 : InstrIn c.args.at.0 frame_3
  here_3 = instr_here (over_3 []) (c.requires.2 []).0 c.args.at.0 c.requires.0 (c.requires.2 []).1

  abbrev beside_3 : List ℕ
  beside_3 = frame_at c.args.links.now (starts_in c.args.state.now) c.args.at.0

  short_3 : Short frame_3 beside_3
  short_3 = beside_short c.args.frames.now (starts_in c.args.state.now) c.args.count (c.requires.2 []).0.held c.args.links.now c.requires.1
      c.args.at.0 c.requires.0

module _ (c : goal.After-in_arguments) where
  abbrev frame_4 : List ℕ
  frame_4 = frame_at c.args.frames.now (starts_in c.args.state.now) c.args.at.0

  abbrev over_4 : (offsets : List ℕ) → Slots
  over_4 offsets = slots c.args.frames.now (starts_in c.args.state.now) c.args.count (forms_in c.args.state.now)
      (carry_in c.args.state.now) (owners_in c.args.state.now) offsets

  abbrev beside_4 : List ℕ
  beside_4 = frame_at c.args.links.now (starts_in c.args.state.now) c.args.at.0

module _ (c : goal.Else-is_transfer) where
  abbrev frame_5 : List ℕ
  frame_5 = frame_at c.args.frames.now (starts_in c.args.state.now) c.args.at.0

  abbrev over_5 : (offsets : List ℕ) → Slots
  over_5 offsets = slots c.args.frames.now (starts_in c.args.state.now) c.args.count (forms_in c.args.state.now)
      (carry_in c.args.state.now) (owners_in c.args.state.now) offsets

  here_5 : InstrIn c.args.at.0 frame_5
  here_5 = instr_here (over_5 []) (c.requires.2 []).0 c.args.at.0 c.requires.0 (c.requires.2 []).1

  abbrev beside_5 : List ℕ
  beside_5 = frame_at c.args.links.now (starts_in c.args.state.now) c.args.at.0

  short_5 : Short frame_5 beside_5
  short_5 = beside_short c.args.frames.now (starts_in c.args.state.now) c.args.count (c.requires.2 []).0.held c.args.links.now c.requires.1
      c.args.at.0 c.requires.0

module _ (c : goal.After-in_arguments-2) where
  abbrev frame_6 : List ℕ
  frame_6 = frame_at c.args.frames.now (starts_in c.args.state.now) c.args.at.0

  abbrev over_6 : (offsets : List ℕ) → Slots
  over_6 offsets = slots c.args.frames.now (starts_in c.args.state.now) c.args.count (forms_in c.args.state.now)
      (carry_in c.args.state.now) (owners_in c.args.state.now) offsets

  abbrev beside_6 : List ℕ
  beside_6 = frame_at c.args.links.now (starts_in c.args.state.now) c.args.at.0

-- the count, as the frame has it, and the sum over the first of its arguments
module _ (c : goal.After-in_target-carried) where
  counted : c.operand_count-own.result ≡ length (operands_at (get_or (frame_3 c) 1 0))
  counted = c.operand_count-own.ensures ∙ ap (λ s. length (operands_at (get_or s 1 0))) c.frame_at-frame.ensures

  few : c.operand_count-own.result ≤ 3
  few = omega (arith, counted, few_operands (get_or (frame_3 c) 1 0))

  asked : (k : ℕ) → k ≤ c.operand_count-own.result → InstrIn c.args.at.0 c.frame_at-frame.result.now
      × (k ≤ length (operands_at (get_or c.frame_at-frame.result.now 1 0))) × Short c.frame_at-frame.result.now c.links_at-beside.result.now
      × (c.args.at.0 < 1024) × Noted (starts_in c.args.state.now) c.args.at.0 c.frame_at-frame.result.now
  asked k l =
      subst₂ (λ (s b : List ℕ). InstrIn c.args.at.0 s × (k ≤ length (operands_at (get_or s 1 0))) × Short s b × (c.args.at.0 < 1024)
      × Noted (starts_in c.args.state.now) c.args.at.0 s)
      (sym c.frame_at-frame.ensures) (sym c.links_at-beside.ensures) (
        here_3 c,
        omega (arith, counted),
        short_3 c,
        omega (arith, c.requires.0, (c.requires.2 []).0.held.few),
        (c.requires.2 []).0.held.noted c.args.at.0 c.requires.0,
      )

-- the count, as the frame has it, and the sum over the first of its arguments
module _ (c : goal.After-in_arguments) where
  counted_2 : c.operand_count-own.result ≡ length (operands_at (get_or (frame_4 c) 1 0))
  counted_2 = c.operand_count-own.ensures ∙ ap (λ s. length (operands_at (get_or s 1 0))) c.frame_at-frame.ensures

  few_2 : c.operand_count-own.result ≤ 3
  few_2 = omega (arith, counted_2, few_operands (get_or (frame_4 c) 1 0))

  abbrev sum_2 : (f : ℕ → Bool) (s : List ℕ) (k : ℕ) → ℕ
  sum_2 f s k = total (in_operand (mentions f)) (take k (args_of (read_as c.args.at.0 s)))

  told_2 : (f : ℕ → Bool) → Referred f (frame_4 c) (beside_4 c) c.args.place.0 → Referred f c.frame_at-frame.result.now
      c.links_at-beside.result.now c.args.place.0
  told_2 f r = subst₂ (λ (s b : List ℕ). Referred f s b c.args.place.0) (sym c.frame_at-frame.ensures) (sym c.links_at-beside.ensures) r

-- the count, as the frame has it, and the sum over the first of its arguments
module _ (c : goal.Else-is_transfer) where
  counted_3 : c.operand_count-own.result ≡ length (operands_at (get_or (frame_5 c) 1 0))
  counted_3 = c.operand_count-own.ensures ∙ ap (λ s. length (operands_at (get_or s 1 0))) c.frame_at-frame.ensures

  asked_3 : (k : ℕ) → k ≤ c.operand_count-own.result → InstrIn c.args.at.0 c.frame_at-frame.result.now
      × (k ≤ length (operands_at (get_or c.frame_at-frame.result.now 1 0))) × Short c.frame_at-frame.result.now c.links_at-beside.result.now
      × (c.args.at.0 < 1024) × Noted (starts_in c.args.state.now) c.args.at.0 c.frame_at-frame.result.now
  asked_3 k l =
      subst₂ (λ (s b : List ℕ). InstrIn c.args.at.0 s × (k ≤ length (operands_at (get_or s 1 0))) × Short s b × (c.args.at.0 < 1024)
      × Noted (starts_in c.args.state.now) c.args.at.0 s)
      (sym c.frame_at-frame.ensures) (sym c.links_at-beside.ensures) (
        here_5 c,
        omega (arith, counted_3),
        short_5 c,
        omega (arith, c.requires.0, (c.requires.2 []).0.held.few),
        (c.requires.2 []).0.held.noted c.args.at.0 c.requires.0,
      )

-- the count, as the frame has it, and the sum over the first of its arguments
module _ (c : goal.After-in_arguments-2) where
  counted_4 : c.operand_count-own.result ≡ length (operands_at (get_or (frame_6 c) 1 0))
  counted_4 = c.operand_count-own.ensures ∙ ap (λ s. length (operands_at (get_or s 1 0))) c.frame_at-frame.ensures

  few_4 : c.operand_count-own.result ≤ 3
  few_4 = omega (arith, counted_4, few_operands (get_or (frame_6 c) 1 0))

  abbrev sum_4 : (f : ℕ → Bool) (s : List ℕ) (k : ℕ) → ℕ
  sum_4 f s k = total (in_operand (mentions f)) (take k (args_of (read_as c.args.at.0 s)))

  told_4 : (f : ℕ → Bool) → Referred f (frame_6 c) (beside_6 c) c.args.place.0 → Referred f c.frame_at-frame.result.now
      c.links_at-beside.result.now c.args.place.0
  told_4 f r = subst₂ (λ (s b : List ℕ). Referred f s b c.args.place.0) (sym c.frame_at-frame.ensures) (sym c.links_at-beside.ensures) r

-- a transfer, and the place that it carries
module _ (c : goal.After-carry_at-written) where
  moves : is_transfer (get_or (forms_in c.args.state.now) c.args.at.0 0) ≡ true
  moves = sym (ap is_transfer c.form_in.ensures) ∙ sym c.is_transfer.ensures ∙ c.if-is_transfer.true

  target : TargetIn c.args.frames.now (starts_in c.args.state.now) c.args.count (get_or (carry_in c.args.state.now) c.args.at.0 0)
  target = carried_target (over_2 c []) (c.requires.2 []).0 c.args.at.0 c.requires.0 (c.requires.2 []).1 moves

-- a transfer, and the place that it carries
module _ (c : goal.After-in_target-carried) where
  moves_2 : is_transfer (get_or (forms_in c.args.state.now) c.args.at.0 0) ≡ true
  moves_2 = sym (ap is_transfer c.form_in.ensures) ∙ sym c.is_transfer.ensures ∙ c.if-is_transfer.true

-- a transfer, and the place that it carries
module _ (c : goal.After-in_arguments) where
  moves_3 : is_transfer (get_or (forms_in c.args.state.now) c.args.at.0 0) ≡ true
  moves_3 = sym (ap is_transfer c.form_in.ensures) ∙ sym c.is_transfer.ensures ∙ c.if-is_transfer.true

-- it has an operand, its target
some : (c : goal.After-in_target-carried) → 1 ≤ c.operand_count-own.result
some c =
    omega (
      arith,
      counted c,
      has_target (get_or (frame_3 c) 1 0) (sym ((c.requires.2 []).0.forms c.args.at.0 c.requires.0 (c.requires.2 []).1).transfer ∙ moves_2
          c),
    )

pub frame_at-frame-requires : goal.frame_at-frame-requires
frame_at-frame-requires c = ((c.requires.2 []).0.held, c.requires.0)

pub links_at-beside-requires : goal.links_at-beside-requires
links_at-beside-requires c =
    spans c.args.frames.now (starts_in c.args.state.now) c.args.count (c.requires.2 []).0.held c.args.links.now c.requires.1 c.args.at.0
    c.requires.0

pub bounds-frame-1 : goal.bounds-frame-1
bounds-frame-1 c =
    omega (arith, ap length c.frame_at-frame.ensures, (instr_in c.args.at.0 (frame c) (here c)).long)

pub form_in-requires : goal.form_in-requires
form_in-requires c = omega (arith, c.requires.0, (c.requires.2 []).0.held.few)

pub carry_at-written-requires : goal.carry_at-written-requires
carry_at-written-requires c = omega (arith, c.requires.0, (c.requires.2 []).0.held.few)

pub in_target-carried-requires : goal.in_target-carried-requires
in_target-carried-requires c = rw c.carry_at-written.ensures ((c.requires.2 []).0.held, target c, c.requires.1)

pub overflow_sub-own : goal.overflow_sub-own
overflow_sub-own c = omega (arith, some c)

pub in_arguments-requires : goal.in_arguments-requires
in_arguments-requires c = asked c (c.operand_count-own.result - 1) (omega (arith, some c))

pub overflow_add-result : goal.overflow_add-result
overflow_add-result c = record { fits = omega (arith, c.in_arguments.ensures.few, c.in_target-carried.ensures.few, few_2 c) }

pub returns-then-is_transfer : goal.returns-then-is_transfer
returns-then-is_transfer c =
    let m = c.operand_count-own.result in record {
      few = omega (arith, c.in_arguments.ensures.few, c.in_target-carried.ensures.few, few_2 c);
      by_index = λ f offsets r.
          ap₂ (λ (a b : ℕ). a + b)
          (c.in_arguments.ensures.by_index f (told_2 c f r.own)
          ∙ ap (λ x. sum_2 c f x (m - 1)) c.frame_at-frame.ensures ∙ ap (λ (j : ℕ). sum_2 c f (frame_4 c) (j - 1)) (counted_2 c))
          (c.in_target-carried.ensures.by_index f (rw c.carry_at-written.ensures (r.carried (c.requires.2 offsets).1 (moves_3 c)))
          (forms_in c.args.state.now) (carry_in c.args.state.now) offsets
          ∙ ap (λ (w : ℕ). in_operand (mentions f) (target_of (over_4 c offsets) w)) c.carry_at-written.ensures)
          ∙ sym (in_aimed (over_4 c offsets) (c.requires.2 offsets).0 c.args.at.0 c.requires.0 (c.requires.2 offsets).1 (mentions f)
          (moves_3 c));
    }

pub in_arguments-requires-2 : goal.in_arguments-requires-2
in_arguments-requires-2 c = asked_3 c c.operand_count-own.result (omega arith)

pub returns : goal.returns
returns c =
    record {
      few = omega (arith, c.in_arguments-2.ensures.few, few_4 c);
      by_index = λ f offsets r.
          c.in_arguments-2.ensures.by_index f (told_4 c f r.own)
          ∙ ap (λ x. sum_4 c f x c.operand_count-own.result) c.frame_at-frame.ensures ∙ ap (λ (m : ℕ). sum_4 c f (frame_6 c) m)
          (counted_4 c)
          ∙ sym
          (in_own (over_6 c offsets) (c.requires.2 offsets).0 c.args.at.0 c.requires.0 (c.requires.2 offsets).1 (mentions f)
          (sym (ap is_transfer c.form_in.ensures) ∙ sym c.is_transfer.ensures ∙ c.if-is_transfer.false));
    }
