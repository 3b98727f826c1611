-- `worth::target_worth` meets its contract: an owner says that the target became an inner label; else it is its frame's last argument.
use mathlib.Core.Path.{◌≡◌, sym, ap, ◌∙◌}
use mathlib.Core.List.{List, []}
use Prim.Native.Nat.{ℕ, ◌+◌, ◌-◌, ◌<◌}
use native.Mathlib.Omega.{arith}
use lib.IntN.{pos}
use lib.ListN.{length, get_or}
use Rattle.std.specs.Prelude.{Ok}
use Rattle.rules.specs.Forms.{operands_at}
use Rattle.listing.specs.Tables.{frame_at}
use Rattle.slots.specs.Slots.{Slots, slots, worth_in, InstrIn, WroteTarget}
use Rattle.slots.proofs.Linking.{spans, length_beside}
use Rattle.slots.proofs.Operands.{instr_in}
use Rattle.instruction.proofs.Rows.{has_target}
use Rattle.image.specs.Tables.{operand_in}
use Rattle.image.proofs.Operands.{target_inner, target_last, wrote_in}
use Rattle.slots.specs.State.{starts_in, owners_in, offsets_in}
use borrow.Author.Rules.{rules}
use Rattle.expression.proofs.Signed.{at32}
use Rattle.image.proofs.worth.target_worth.Goals as goal

abbrev over : (s : goal.After-inner_worth) → (forms carry : List ℕ) → Slots
over s forms carry = slots s.args.frames.now (starts_in s.args.state.now) s.args.count forms carry (owners_in s.args.state.now)
    (offsets_in s.args.state.now)

abbrev over_2 : (s : goal.After-shared_slice_known-2-1-unread) → (forms carry : List ℕ) → Slots
over_2 s forms carry = slots s.args.frames.now (starts_in s.args.state.now) s.args.count forms carry (owners_in s.args.state.now)
    (offsets_in s.args.state.now)

abbrev over_3 : (s : goal.After-operand_count-last) → (forms carry : List ℕ) → Slots
over_3 s forms carry = slots s.args.frames.now (starts_in s.args.state.now) s.args.count forms carry (owners_in s.args.state.now)
    (offsets_in s.args.state.now)

abbrev over_4 : (s : goal.After-own_worth) → (forms carry : List ℕ) → Slots
over_4 s forms carry = slots s.args.frames.now (starts_in s.args.state.now) s.args.count forms carry (owners_in s.args.state.now)
    (offsets_in s.args.state.now)

-- the same is known with any forms and carried targets
wrote : (s : goal.After-own_worth) (forms carry : List ℕ) → WroteTarget (over_4 s forms carry) s.args.c.0
wrote s forms carry = let w = s.requires.0.wrote in record { inside = w.inside; instruction = w.instruction; transfer = w.transfer }

abbrev frame : (s : goal.After-shared_slice_known-2-1-unread) → List ℕ
frame s = frame_at s.args.frames.now (starts_in s.args.state.now) s.args.c.0

abbrev frame_2 : (s : goal.After-operand_count-last) → List ℕ
frame_2 s = frame_at s.args.frames.now (starts_in s.args.state.now) s.args.c.0

abbrev frame_3 : (s : goal.After-own_worth) → List ℕ
frame_3 s = frame_at s.args.frames.now (starts_in s.args.state.now) s.args.c.0

-- the frame is an instruction that ends in a target
instruction : (s : goal.After-shared_slice_known-2-1-unread) → InstrIn s.args.c.0 (frame s)
instruction s = wrote_in (over_2 s [] []) s.requires.0.held s.args.c.0 s.requires.0.wrote

-- the frame is an instruction that ends in a target
instruction_2 : (s : goal.After-operand_count-last) → InstrIn s.args.c.0 (frame_2 s)
instruction_2 s = wrote_in (over_3 s [] []) s.requires.0.held s.args.c.0 s.requires.0.wrote

-- as many links as bytes
beside : (s : goal.After-operand_count-last) → length (frame_at s.args.links.now (starts_in s.args.state.now) s.args.c.0) ≡ length
    (frame_2 s)
beside s = length_beside s.args.frames.now (starts_in s.args.state.now) s.args.count s.requires.0.held s.args.links.now s.requires.1
    s.args.c.0 s.requires.0.wrote.inside

some : (c : goal.After-operand_count-last) →
    (c.operand_count-last.result ≡ length (operands_at (get_or (frame_2 c) 1 0))) × (0 < length (operands_at (get_or (frame_2 c) 1 0)))
some c = (
  c.operand_count-last.ensures ∙ ap (λ l. length (operands_at (get_or l 1 0))) c.frame_at-frame.ensures,
  has_target (get_or (frame_2 c) 1 0) c.requires.0.wrote.transfer,
)

some_2 : (c : goal.After-own_worth) →
    (c.operand_count-last.result ≡ length (operands_at (get_or (frame_3 c) 1 0))) × (0 < length (operands_at (get_or (frame_3 c) 1 0)))
some_2 c = (
  c.operand_count-last.ensures ∙ ap (λ l. length (operands_at (get_or l 1 0))) c.frame_at-frame.ensures,
  has_target (get_or (frame_3 c) 1 0) c.requires.0.wrote.transfer,
)

pub returns-then-owner-lt-NO_OWNER : goal.returns-then-owner-lt-NO_OWNER
returns-then-owner-lt-NO_OWNER c names k l forms carry =
    let o = get_or (owners_in c.args.state.now) c.args.c.0 0 in
    let same : at32 c.inner_worth.result ≡ c.inner_worth.result = search rules in
    ap Ok (same ∙ c.inner_worth.ensures)
    ∙ ap (λ n. Ok (pos (get_or c.args.positions.now n 0 + get_or (offsets_in c.args.state.now) c.args.c.0 0))) c.owner_at-owner.ensures
    ∙ sym (ap (worth_in names c.args.positions.now k) (target_inner (over c forms carry) c.args.c.0
    (omega (arith, c.owner_at-owner.ensures, c.if-owner-lt-NO_OWNER.true))))

pub links_at-beside-requires : goal.links_at-beside-requires
links_at-beside-requires c =
    spans c.args.frames.now (starts_in c.args.state.now) c.args.count c.requires.0.held c.args.links.now c.requires.1 c.args.c.0
    c.requires.0.wrote.inside

pub bounds-frame-1 : goal.bounds-frame-1
bounds-frame-1 c =
    rw c.frame_at-frame.ensures (omega (arith, (instr_in c.args.c.0 (frame c) (instruction c)).long))

pub overflow_sub-last : goal.overflow_sub-last
overflow_sub-last c = let h = some c in omega (arith, h.0, h.1)

pub own_worth-requires : goal.own_worth-requires
own_worth-requires c =
    let h = some c in
    rw (c.frame_at-frame.ensures, c.links_at-beside.ensures) (
      instruction_2 c,
      omega (arith, h.0, h.1),
      c.requires.0.held.few,
      beside c,
      c.requires.0.wrote.inside,
      c.requires.0.held.noted c.args.c.0 c.requires.0.wrote.inside,
    )

pub returns : goal.returns
returns c names k l forms carry =
    c.own_worth.ensures names k (rw (c.frame_at-frame.ensures, c.links_at-beside.ensures) l) c.args.positions.now
    ∙ ap (λ l. worth_in names c.args.positions.now k (operand_in c.args.c.0 l (c.operand_count-last.result - 1))) c.frame_at-frame.ensures
    ∙ ap (λ m. worth_in names c.args.positions.now k (operand_in c.args.c.0 (frame_3 c) (m - 1))) (some_2 c).0
    ∙ sym
    (ap (worth_in names c.args.positions.now k)
    (target_last (over_4 c forms carry) c.requires.0.held c.args.c.0 (wrote c forms carry)
    (omega (arith, c.owner_at-owner.ensures, c.if-owner-lt-NO_OWNER.false))))
