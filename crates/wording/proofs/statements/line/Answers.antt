-- `statements::line` meets its contract.
use mathlib.Core.Path.{◌≡◌}
use native.Mathlib.Omega.{arith}
use lib.ListN.{get_or}
use Rattle.wording.proofs.Lineds.{NoOther, least, long, long_by, known_form, data_left, data_long, lined, lined_data}
use Rattle.wording.proofs.statements.line.Goals as goal

pub bounds-frame-0 : goal.bounds-frame-0
bounds-frame-0 c = (long c.args.frame.now c.requires.1).0

pub instruction_line-requires : goal.instruction_line-requires
unfolding least
instruction_line-requires c =
    let s = c.args.frame.now in
    let t : get_or s 0 0 ≡ 1 = c.in-1.is in
    (c.requires.0, long_by s c.requires.1 1 t, known_form s c.requires.1 t)

pub returns-in-1 : goal.returns-in-1
returns-in-1 c = lined c.args.frame.now 1 c.in-1.is c.instruction_line.ensures

pub label_line-requires : goal.label_line-requires
unfolding least
label_line-requires c =
    (c.requires.0, long_by c.args.frame.now c.requires.1 2 c.in-2.is)

pub returns-in-2 : goal.returns-in-2
returns-in-2 c = lined c.args.frame.now 2 c.in-2.is c.label_line.ensures

pub variable_line-requires : goal.variable_line-requires
unfolding least
variable_line-requires c =
    (c.requires.0, long_by c.args.frame.now c.requires.1 3 c.in-3.is)

pub returns-in-3 : goal.returns-in-3
returns-in-3 c =
    lined c.args.frame.now 3 c.in-3.is c.variable_line.ensures

pub returns-in-4 : goal.returns-in-4
returns-in-4 c =
    lined c.args.frame.now 4 c.in-4.is
    c.comment_line.ensures

pub org_line-requires : goal.org_line-requires
unfolding least
org_line-requires c =
    (c.requires.0, long_by c.args.frame.now c.requires.1 5 c.in-5.is)

pub returns-in-5 : goal.returns-in-5
returns-in-5 c =
    lined c.args.frame.now 5 c.in-5.is
    c.org_line.ensures

pub pad_line-requires : goal.pad_line-requires
unfolding least
pad_line-requires c =
    (c.requires.0, long_by c.args.frame.now c.requires.1 8 c.in-8.is)

pub returns-in-8 : goal.returns-in-8
returns-in-8 c =
    lined c.args.frame.now 8 c.in-8.is
    c.pad_line.ensures

pub data_line-requires : goal.data_line-requires
data_line-requires c =
    let s = c.args.frame.now in
    let n : NoOther (get_or s 0 0) = record {
      no_instr = λ e. omega arith;
      no_label = λ e. omega arith;
      no_variable = λ e. omega arith;
      no_comment = λ e. omega arith;
      no_org = λ e. omega arith;
      no_pad = λ e. omega arith;
    } in
    let w = data_long s c.requires.1 (data_left s c.requires.1 n) in
    (c.requires.0, w.0, w.1, w.2)

pub returns-in_default : goal.returns-in_default
returns-in_default c =
    let s = c.args.frame.now in
    let n : NoOther (get_or s 0 0) = record {
      no_instr = λ e. omega arith;
      no_label = λ e. omega arith;
      no_variable = λ e. omega arith;
      no_comment = λ e. omega arith;
      no_org = λ e. omega arith;
      no_pad = λ e. omega arith;
    } in
    lined_data s (data_left s c.requires.1 n) c.data_line.ensures
