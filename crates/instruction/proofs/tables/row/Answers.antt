-- `instruction::tables::row` meets its contract: in each arm the number is the arm's, where the definition computes. Assumes nothing.
use mathlib.Core.Path.{◌≡◌, ◌∙◌, sym, ap}
use Prim.Native.Nat.{ℕ}
use Rattle.laws.proofs.Tests.{past}
use Rattle.rules.specs.Forms.{form_at}
use Rattle.instruction.specs.Tables.{row_at}
use Rattle.instruction.proofs.Rows.{no_row}
use Rattle.instruction.proofs.tables.row.Goals as goal

via : {f k n : ℕ} → f ≡ k → n ≡ row_at k → n ≡ row_at f
via e h = h ∙ sym (ap row_at e)

pub returns-in-0 : goal.returns-in-0
unfolding form_at
returns-in-0 c = search via

pub returns-in-1 : goal.returns-in-1
unfolding form_at
returns-in-1 c = search via

pub returns-in-2 : goal.returns-in-2
unfolding form_at
returns-in-2 c = search via

pub returns-in-3 : goal.returns-in-3
unfolding form_at
returns-in-3 c = search via

pub returns-in-4 : goal.returns-in-4
unfolding form_at
returns-in-4 c = search via

pub returns-in-5 : goal.returns-in-5
unfolding form_at
returns-in-5 c = search via

pub returns-in-6 : goal.returns-in-6
unfolding form_at
returns-in-6 c = search via

pub returns-in-7 : goal.returns-in-7
unfolding form_at
returns-in-7 c = search via

pub returns-in-8 : goal.returns-in-8
unfolding form_at
returns-in-8 c = search via

pub returns-in-9 : goal.returns-in-9
unfolding form_at
returns-in-9 c = search via

pub returns-in-10 : goal.returns-in-10
unfolding form_at
returns-in-10 c = search via

pub returns-in-11 : goal.returns-in-11
unfolding form_at
returns-in-11 c = search via

pub returns-in-12 : goal.returns-in-12
unfolding form_at
returns-in-12 c = search via

pub returns-in-13 : goal.returns-in-13
unfolding form_at
returns-in-13 c = search via

pub returns-in-14 : goal.returns-in-14
unfolding form_at
returns-in-14 c = search via

pub returns-in-15 : goal.returns-in-15
unfolding form_at
returns-in-15 c = search via

pub returns-in-16 : goal.returns-in-16
unfolding form_at
returns-in-16 c = search via

pub returns-in-17 : goal.returns-in-17
unfolding form_at
returns-in-17 c = search via

pub returns-in-18 : goal.returns-in-18
unfolding form_at
returns-in-18 c = search via

pub returns-in-19 : goal.returns-in-19
unfolding form_at
returns-in-19 c = search via

pub returns-in-20 : goal.returns-in-20
unfolding form_at
returns-in-20 c = search via

pub returns-in-21 : goal.returns-in-21
unfolding form_at
returns-in-21 c = search via

pub returns-in-22 : goal.returns-in-22
unfolding form_at
returns-in-22 c = search via

pub returns-in-23 : goal.returns-in-23
unfolding form_at
returns-in-23 c = search via

pub returns-in-24 : goal.returns-in-24
unfolding form_at
returns-in-24 c = search via

pub returns-in-25 : goal.returns-in-25
unfolding form_at
returns-in-25 c = search via

pub returns-in-26 : goal.returns-in-26
unfolding form_at
returns-in-26 c = search via

pub returns-in-27 : goal.returns-in-27
unfolding form_at
returns-in-27 c = search via

pub returns-in-28 : goal.returns-in-28
unfolding form_at
returns-in-28 c = search via

pub returns-in-29 : goal.returns-in-29
unfolding form_at
returns-in-29 c = search via

pub returns-in-30 : goal.returns-in-30
unfolding form_at
returns-in-30 c = search via

pub returns-in-31 : goal.returns-in-31
unfolding form_at
returns-in-31 c = search via

pub returns-in-32 : goal.returns-in-32
unfolding form_at
returns-in-32 c = search via

pub returns-in-33 : goal.returns-in-33
unfolding form_at
returns-in-33 c = search via

pub returns-in-34 : goal.returns-in-34
unfolding form_at
returns-in-34 c = search via

pub returns-in-35 : goal.returns-in-35
unfolding form_at
returns-in-35 c = search via

pub returns-in-36 : goal.returns-in-36
unfolding form_at
returns-in-36 c = search via

pub returns-in-37 : goal.returns-in-37
unfolding form_at
returns-in-37 c = search via

pub returns-in-38 : goal.returns-in-38
unfolding form_at
returns-in-38 c = search via

pub returns-in-39 : goal.returns-in-39
unfolding form_at
returns-in-39 c = search via

pub returns-in-40 : goal.returns-in-40
unfolding form_at
returns-in-40 c = search via

pub returns-in-41 : goal.returns-in-41
unfolding form_at
returns-in-41 c = search via

pub returns-in-42 : goal.returns-in-42
unfolding form_at
returns-in-42 c = search via

pub returns-in-43 : goal.returns-in-43
unfolding form_at
returns-in-43 c = search via

pub returns-in-44 : goal.returns-in-44
unfolding form_at
returns-in-44 c = search via

pub returns-in-45 : goal.returns-in-45
unfolding form_at
returns-in-45 c = search via

pub returns-in-46 : goal.returns-in-46
unfolding form_at
returns-in-46 c = search via

pub returns-in-47 : goal.returns-in-47
unfolding form_at
returns-in-47 c = search via

pub returns-in-48 : goal.returns-in-48
unfolding form_at
returns-in-48 c = search via

pub returns-in-49 : goal.returns-in-49
unfolding form_at
returns-in-49 c = search via

pub returns-in-50 : goal.returns-in-50
unfolding form_at
returns-in-50 c = search via

pub returns-in-51 : goal.returns-in-51
unfolding form_at
returns-in-51 c = search via

pub returns-in-52 : goal.returns-in-52
unfolding form_at
returns-in-52 c = search via

pub returns-in-53 : goal.returns-in-53
unfolding form_at
returns-in-53 c = search via

pub returns-in-54 : goal.returns-in-54
unfolding form_at
returns-in-54 c = search via

pub returns-in-55 : goal.returns-in-55
unfolding form_at
returns-in-55 c = search via

pub returns-in-56 : goal.returns-in-56
unfolding form_at
returns-in-56 c = search via

pub returns-in-57 : goal.returns-in-57
unfolding form_at
returns-in-57 c = search via

pub returns-in-58 : goal.returns-in-58
unfolding form_at
returns-in-58 c = search via

pub returns-in-59 : goal.returns-in-59
unfolding form_at
returns-in-59 c = search via

pub returns-in-60 : goal.returns-in-60
unfolding form_at
returns-in-60 c = search via

pub returns-in-61 : goal.returns-in-61
unfolding form_at
returns-in-61 c = search via

pub returns-in-62 : goal.returns-in-62
unfolding form_at
returns-in-62 c = search via

pub returns-in-63 : goal.returns-in-63
unfolding form_at
returns-in-63 c = search via

pub returns-in-64 : goal.returns-in-64
unfolding form_at
returns-in-64 c = search via

pub returns-in-65 : goal.returns-in-65
unfolding form_at
returns-in-65 c = search via

pub returns-in-66 : goal.returns-in-66
unfolding form_at
returns-in-66 c = search via

pub returns-in-67 : goal.returns-in-67
unfolding form_at
returns-in-67 c = search via

pub returns-in-68 : goal.returns-in-68
unfolding form_at
returns-in-68 c = search via

pub returns-in-69 : goal.returns-in-69
unfolding form_at
returns-in-69 c = search via

pub returns-in_default : goal.returns-in_default
returns-in_default c = sym (no_row c.args.form (past 70 c.args.form c.in_default.in_default-own.rest))
