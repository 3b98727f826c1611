use mathlib.Core.Path.{subst}
use Rattle.std.specs.Prelude.{Err}
use Rattle.openings.specs.Fronting.{Begins}
use Rattle.people.proofs.Rows.{global_spoken, local_spoken, none_spoken}
use Rattle.people.proofs.Answers.{answers}
use Rattle.people.proofs.read_line.Goals as goal

pub returns-then-row-lt70 : goal.returns-then-row-lt70
returns-then-row-lt70 c =
    let a = c.args in
    answers a.s.now c.form_line.new.out c.form_line.result c.form_line.ensures

pub returns-in-Global : goal.returns-in-Global
returns-in-Global c =
    let a = c.args in
    let s = a.s.now in
    let y = subst (λ r. Begins s r) c.in-Global.is c.begin.ensures in
    answers s c.global_line.new.out c.global_line.result (global_spoken s c.global_line.new.out c.global_line.result y
    c.global_line.ensures)

pub returns-in-Local : goal.returns-in-Local
returns-in-Local c =
    let a = c.args in
    let s = a.s.now in
    let y = subst (λ r. Begins s r) c.in-Local.is c.begin.ensures in
    answers s c.local_line.new.out c.local_line.result (local_spoken s c.local_line.new.out c.local_line.result y.0 y.1
    c.local_line.ensures)

pub returns-else-row-lt70 : goal.returns-else-row-lt70
returns-else-row-lt70 c =
    let a = c.args in
    answers a.s.now c.dot_line.new.out c.dot_line.result c.dot_line.ensures

pub returns-in-Nothing : goal.returns-in-Nothing
returns-in-Nothing c =
    let a = c.args in
    let s = a.s.now in
    let y = subst (λ r. Begins s r) c.in-Nothing.is c.begin.ensures in
    answers s a.out.now (Err c.in-Nothing.c) (none_spoken s a.out.now c.in-Nothing.c y)
