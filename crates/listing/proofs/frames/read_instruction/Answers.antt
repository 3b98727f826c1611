-- `read_instruction` meets its contract: each operand is read where the one before it ends, and stands there. Assumes nothing.
use mathlib.Core.Path.{refl, sym, ap, ap₂, ◌∙◌}
use mathlib.Core.List.{List}
use Prim.Native.Nat.{ℕ, ◌+◌, ◌-◌}
use lib.ListN.{length, get_or, take, drop}
use Rattle.std.specs.Prelude.{Err, Result}
use Rattle.std.proofs.lemmas.Result.{err_from_is_err_and}
use Rattle.laws.proofs.Stores.{rest_is}
use Rattle.rules.specs.declared.Statement.TheVariants.{Instr as OfInstr}
use Rattle.rules.specs.Forms.{operands_at}
use Rattle.rules.specs.Instructions.{instr_of}
use Rattle.rules.specs.Statements.{arg_at, instruction_of}
use Rattle.expression.specs.declared.Unread.{Unread}
use Rattle.expression.specs.Reading.{takes}
use Rattle.instruction.specs.Tables.{operand_in}
use Rattle.instruction.proofs.Numbers.{made_is, made_nothing}
use Rattle.listing.specs.Frames.{operand_end}
use Rattle.listing.proofs.FrameParts.{nth_end, part_next, part_ends}
use Rattle.listing.proofs.FrameKinds.{instruction_short, no_instruction, instruction_read, instruction_fails}
use Rattle.listing.proofs.frames.read_instruction.Goals as goal

-- the operands, as they are lent
abbrev lent : List ℕ → List ℕ
lent frame = take (length frame - 2) (drop 2 frame)

-- where operand j of the frame's form ends, from a on
abbrev ends : (frame : List ℕ) (j a : ℕ) → Result ℕ Unread
ends frame j a = operand_end (lent frame) (operand_in (operands_at (get_or frame 1 0)) j) a

-- the same behind what was read before it
abbrev behind : (frame : List ℕ) (j : ℕ) → Result ℕ Unread → Result ℕ Unread
behind frame j r = nth_end (operands_at (get_or frame 1 0)) (lent frame) j r

pub returns-then-frame-lt2 : goal.returns-then-frame-lt2
returns-then-frame-lt2 c i = instruction_short i c.args.frame.now (instruction_of c.args.frame.now) c.if-frame-lt2.true

pub returns-in_err-second : goal.returns-in_err-second
returns-in_err-second c i =
    let frame = c.args.frame.now in
    let p = err_from_is_err_and c.from_residual.result c.from_residual.ensures.1 in
    p.1 ∙ ap Err p.2
    ∙ instruction_fails frame (lent frame) _ _ _ c.if-frame-lt2.false (rest_is 2 frame) c.operand_end.ensures.0 refl refl
    (ap (λ (r : Result ℕ Unread). behind frame 2 (behind frame 1 r)) c.in_err-second.was) i

pub returns-in_err-third : goal.returns-in_err-third
returns-in_err-third c i =
    let frame = c.args.frame.now in
    let p = err_from_is_err_and c.from_residual-in_err-third.result c.from_residual-in_err-third.ensures.1 in
    p.1 ∙ ap Err p.2
    ∙ instruction_fails frame (lent frame) _ _ _ c.if-frame-lt2.false (rest_is 2 frame) c.operand_end.ensures.0
    (part_next (ends frame 1) c.in_ok-second.was c.operand_end-2.ensures.0) refl (ap (behind frame 2) c.in_err-third.was) i

pub returns-in_err-end : goal.returns-in_err-end
returns-in_err-end c i =
    let frame = c.args.frame.now in
    let p = err_from_is_err_and c.from_residual-in_err-end.result c.from_residual-in_err-end.ensures.1 in
    p.1 ∙ ap Err p.2
    ∙ instruction_fails frame (lent frame) _ _ _ c.if-frame-lt2.false (rest_is 2 frame) c.operand_end.ensures.0
    (part_next (ends frame 1) c.in_ok-second.was c.operand_end-2.ensures.0)
    (part_next (ends frame 2) c.in_ok-third.was c.operand_end-3.ensures.0) c.in_err-end.was i

pub returns-in-Some : goal.returns-in-Some
returns-in-Some c i =
    let frame = c.args.frame.now in
    let x = c.in-Some.x in
    let made = made_is (get_or frame 1 0) (arg_at 2) _ _ c.make.ensures c.in-Some.is in
    let places = ap₂ (λ (a b : ℕ). instr_of (get_or frame 1 0) (arg_at 2) (arg_at (2 + a)) (arg_at (2 + b)))
    (sym (ap takes c.in_ok-second.was)) (sym (ap takes c.in_ok-third.was)) in
    part_ends (length (lent frame)) (OfInstr x) c.in_ok-end.was c.whole.ensures
    ∙ instruction_read frame (lent frame) c.operand_end.result c.operand_end-2.result c.operand_end-3.result x
    c.if-frame-lt2.false (rest_is 2 frame) c.operand_end.ensures.0
    (part_next (ends frame 1) c.in_ok-second.was c.operand_end-2.ensures.0)
    (part_next (ends frame 2) c.in_ok-third.was c.operand_end-3.ensures.0) made.0 (made.1 ∙ places) i

pub returns-in-None : goal.returns-in-None
returns-in-None c i =
    let frame = c.args.frame.now in
    no_instruction i frame (instruction_of frame) c.if-frame-lt2.false
    (made_nothing (get_or frame 1 0) (arg_at 2) _ _ c.make.ensures c.in-None.is)
