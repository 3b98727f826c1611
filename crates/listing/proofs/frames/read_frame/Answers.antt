-- `read_frame` meets its contract: by the first byte. Assumes nothing.
use mathlib.Core.Path.{ap, ◌∙◌}
use lib.ListN.{length, get_or}
use Rattle.std.specs.Prelude.{Err}
use Rattle.std.proofs.lemmas.Result.{err_from_is_err_and}
use Rattle.rules.specs.declared.Statement.TheVariants.{Label, Variable, Org, Bytes, Words, Pad}
use Rattle.rules.specs.Statements.{arg_at, pair_at, statement_of}
use Rattle.listing.proofs.FrameParts.{part_ends, part_fails}
use Rattle.listing.proofs.FrameKinds.{frame_empty, frame_instruction, frame_label, frame_variable, frame_comment, frame_org, frame_bytes_lem, frame_words, frame_pad, no_frame}
use Rattle.listing.proofs.frames.read_frame.Goals as goal

pub returns-then-length-lt1 : goal.returns-then-length-lt1
returns-then-length-lt1 c i = frame_empty i c.args.frame.now (statement_of c.args.frame.now) c.if-length-lt1.true

pub returns-in-1 : goal.returns-in-1
returns-in-1 c i = c.read_instruction.ensures i ∙ frame_instruction i c.args.frame.now c.if-length-lt1.false c.in-1.is

pub returns-in_ok-pair_end-in-2 : goal.returns-in_ok-pair_end-in-2
returns-in_ok-pair_end-in-2 c i =
    let frame = c.args.frame.now in
    let is = frame_label i frame c.if-length-lt1.false c.in-2.is in
    part_ends (length frame) _ c.in_ok-pair_end-in-2.was c.whole.ensures ∙ rw (c.pair_end.ensures, c.pair.ensures) is

pub returns-in_err-pair_end-in-2 : goal.returns-in_err-pair_end-in-2
returns-in_err-pair_end-in-2 c i =
    let frame = c.args.frame.now in
    let is = frame_label i frame c.if-length-lt1.false c.in-2.is in
    let p = err_from_is_err_and c.from_residual.result c.from_residual.ensures.1 in
    part_fails (length frame) (Label (pair_at frame 1)) c.in_err-pair_end-in-2.was (p.1 ∙ ap Err p.2) ∙ rw c.pair_end.ensures is

pub returns-in_ok-variable_end-in-3 : goal.returns-in_ok-variable_end-in-3
returns-in_ok-variable_end-in-3 c i =
    let frame = c.args.frame.now in
    let is = frame_variable i frame c.if-length-lt1.false c.in-3.is in
    part_ends (length frame) _ c.in_ok-variable_end-in-3.was c.whole-in-3.ensures ∙ rw (c.variable_end.ensures, c.pair-in-3.ensures) is

pub returns-in_err-variable_end-in-3 : goal.returns-in_err-variable_end-in-3
returns-in_err-variable_end-in-3 c i =
    let frame = c.args.frame.now in
    let is = frame_variable i frame c.if-length-lt1.false c.in-3.is in
    let p = err_from_is_err_and c.from_residual-in_err-variable_end-in-3.result c.from_residual-in_err-variable_end-in-3.ensures.1 in
    part_fails (length frame) (Variable (pair_at frame 1) (arg_at 3)) c.in_err-variable_end-in-3.was (p.1 ∙ ap Err p.2) ∙ rw c.variable_end.ensures is

pub returns-in_ok-pair_end-in-5 : goal.returns-in_ok-pair_end-in-5
returns-in_ok-pair_end-in-5 c i =
    let frame = c.args.frame.now in
    let is = frame_org i frame c.if-length-lt1.false c.in-5.is in
    part_ends (length frame) _ c.in_ok-pair_end-in-5.was c.whole-in-5.ensures ∙ rw (c.pair_end-in-5.ensures, c.pair-in-5.ensures) is

pub returns-in_err-pair_end-in-5 : goal.returns-in_err-pair_end-in-5
returns-in_err-pair_end-in-5 c i =
    let frame = c.args.frame.now in
    let is = frame_org i frame c.if-length-lt1.false c.in-5.is in
    let p = err_from_is_err_and c.from_residual-in_err-pair_end-in-5.result c.from_residual-in_err-pair_end-in-5.ensures.1 in
    part_fails (length frame) (Org (pair_at frame 1)) c.in_err-pair_end-in-5.was (p.1 ∙ ap Err p.2) ∙ rw c.pair_end-in-5.ensures is

pub returns-in_ok-items_end-in-6 : goal.returns-in_ok-items_end-in-6
returns-in_ok-items_end-in-6 c i =
    let frame = c.args.frame.now in
    let is = frame_bytes_lem i frame c.if-length-lt1.false c.in-6.is in
    part_ends (length frame) _ c.in_ok-items_end-in-6.was c.whole-in-6.ensures ∙ rw (c.items_end.ensures, c.count.ensures) is

pub returns-in_err-items_end-in-6 : goal.returns-in_err-items_end-in-6
returns-in_err-items_end-in-6 c i =
    let frame = c.args.frame.now in
    let is = frame_bytes_lem i frame c.if-length-lt1.false c.in-6.is in
    let p = err_from_is_err_and c.from_residual-in_err-items_end-in-6.result c.from_residual-in_err-items_end-in-6.ensures.1 in
    part_fails (length frame) (Bytes (get_or frame 1 0) (arg_at 2)) c.in_err-items_end-in-6.was (p.1 ∙ ap Err p.2) ∙ rw c.items_end.ensures is

pub returns-in_ok-items_end-in-7 : goal.returns-in_ok-items_end-in-7
returns-in_ok-items_end-in-7 c i =
    let frame = c.args.frame.now in
    let is = frame_words i frame c.if-length-lt1.false c.in-7.is in
    part_ends (length frame) _ c.in_ok-items_end-in-7.was c.whole-in-7.ensures ∙ rw (c.items_end-in-7.ensures, c.count-in-7.ensures) is

pub returns-in_err-items_end-in-7 : goal.returns-in_err-items_end-in-7
returns-in_err-items_end-in-7 c i =
    let frame = c.args.frame.now in
    let is = frame_words i frame c.if-length-lt1.false c.in-7.is in
    let p = err_from_is_err_and c.from_residual-in_err-items_end-in-7.result c.from_residual-in_err-items_end-in-7.ensures.1 in
    part_fails (length frame) (Words (get_or frame 1 0) (arg_at 2)) c.in_err-items_end-in-7.was (p.1 ∙ ap Err p.2) ∙ rw c.items_end-in-7.ensures is

pub returns-in_ok-pad_end-in-8 : goal.returns-in_ok-pad_end-in-8
returns-in_ok-pad_end-in-8 c i =
    let frame = c.args.frame.now in
    let is = frame_pad i frame c.if-length-lt1.false c.in-8.is in
    part_ends (length frame) _ c.in_ok-pad_end-in-8.was c.whole-in-8.ensures ∙ rw (c.pad_end.ensures, c.count-in-8.ensures, c.multiple.ensures) is

pub returns-in_err-pad_end-in-8 : goal.returns-in_err-pad_end-in-8
returns-in_err-pad_end-in-8 c i =
    let frame = c.args.frame.now in
    let is = frame_pad i frame c.if-length-lt1.false c.in-8.is in
    let p = err_from_is_err_and c.from_residual-in_err-pad_end-in-8.result c.from_residual-in_err-pad_end-in-8.ensures.1 in
    part_fails (length frame) (Pad (get_or frame 1 0) (pair_at frame 2)) c.in_err-pad_end-in-8.was (p.1 ∙ ap Err p.2) ∙ rw c.pad_end.ensures is

pub returns-in-4 : goal.returns-in-4
returns-in-4 c i = frame_comment i c.args.frame.now c.if-length-lt1.false c.in-4.is

pub returns-in_default : goal.returns-in_default
returns-in_default c i = no_frame i c.args.frame.now (statement_of c.args.frame.now) c.if-length-lt1.false c.in_default.in_default-own.rest
