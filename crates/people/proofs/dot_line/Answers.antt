use mathlib.Core.List.{[]}
use Rattle.rules.specs.Patterns.{codes}
use Rattle.rules.specs.Programs.{comment, bytes, words, pad}
use Rattle.plans.specs.Plans.{finish}
use Rattle.plans.specs.Finals.{comments}
use Rattle.plans.specs.Lines.{org_plan, items_plan, align_plan}
use Rattle.people.proofs.Rows.{row_within, row_opens, row_closes, comment_held, at_70, at_71, at_72, at_73, at_74, at_75, last_row}
use Rattle.people.proofs.dot_line.Goals as goal

pub comment_line-requires : goal.comment_line-requires
comment_line-requires c =
    let a = c.args in
    (row_within a.s.now a.n a.row c.requires.1 c.requires.3 (codes ".comment ") (finish comments) (at_70 a.row c.in-70.is), c.requires.2)

pub org_line-requires : goal.org_line-requires
org_line-requires c =
    let a = c.args in
    (row_within a.s.now a.n a.row c.requires.1 c.requires.3 (codes ".org ") (org_plan) (at_71 a.row c.in-71.is), c.requires.2)

pub bytes_line-requires : goal.bytes_line-requires
bytes_line-requires c =
    let a = c.args in (
      row_within a.s.now a.n a.row c.requires.1 c.requires.3 (codes ".byte ") (items_plan bytes 15 []) (at_72 a.row c.in-72.is),
      c.requires.2,
    )

pub words_line-requires : goal.words_line-requires
words_line-requires c =
    let a = c.args in (
      row_within a.s.now a.n a.row c.requires.1 c.requires.3 (codes ".word ") (items_plan words 15 []) (at_73 a.row c.in-73.is),
      c.requires.2,
    )

pub align_line-requires : goal.align_line-requires
align_line-requires c =
    let a = c.args in
    (row_within a.s.now a.n a.row c.requires.1 c.requires.3 (codes ".align ") (align_plan pad) (at_74 a.row c.in-74.is), c.requires.2)

pub returns-in-70 : goal.returns-in-70
returns-in-70 c =
    let a = c.args in
    row_opens a.s.now a.n a.row c.requires.1 c.requires.3 (codes ".comment ") (finish comments) c.comment_line.new.out c.comment_line.result
    (at_70 a.row c.in-70.is) c.comment_line.ensures

pub returns-in-71 : goal.returns-in-71
returns-in-71 c =
    let a = c.args in
    row_opens a.s.now a.n a.row c.requires.1 c.requires.3 (codes ".org ") (org_plan) c.org_line.new.out c.org_line.result
    (at_71 a.row c.in-71.is) c.org_line.ensures

pub returns-in-72 : goal.returns-in-72
returns-in-72 c =
    let a = c.args in
    row_opens a.s.now a.n a.row c.requires.1 c.requires.3 (codes ".byte ") (items_plan bytes 15 []) c.bytes_line.new.out c.bytes_line.result
    (at_72 a.row c.in-72.is) c.bytes_line.ensures

pub returns-in-73 : goal.returns-in-73
returns-in-73 c =
    let a = c.args in
    row_opens a.s.now a.n a.row c.requires.1 c.requires.3 (codes ".word ") (items_plan words 15 []) c.words_line.new.out c.words_line.result
    (at_73 a.row c.in-73.is) c.words_line.ensures

pub returns-in-74 : goal.returns-in-74
returns-in-74 c =
    let a = c.args in
    row_opens a.s.now a.n a.row c.requires.1 c.requires.3 (codes ".align ") (align_plan pad) c.align_line.new.out c.align_line.result
    (at_74 a.row c.in-74.is) c.align_line.ensures

pub returns-in_default : goal.returns-in_default
returns-in_default c =
    let a = c.args in
    row_closes a.s.now a.n a.row c.requires.1 c.requires.3 (codes ".comment") (comment []) c.put.new.out c.put.result
    (at_75 a.row (last_row a.row c.requires.0 c.requires.1 c.in_default.in_default-own.rest))
    (comment_held a.out.now c.put.new.out c.put.result c.requires.2 c.put.ensures)
