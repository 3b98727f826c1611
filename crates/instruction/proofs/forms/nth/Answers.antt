-- `instruction::forms::nth` meets its contract: in each arm the number is the arm's, where the definition computes. Assumes nothing.
use mathlib.Core.Path.{◌≡◌, refl, ◌∙◌, sym, ap}
use Prim.Native.Nat.{ℕ}
use native.Mathlib.Omega.{arith}
use Rattle.laws.proofs.Tests.{past}
use Rattle.rules.specs.declared.Arg.{Arg}
use Rattle.rules.specs.declared.Instr.{Instr}
use Rattle.rules.specs.Instructions.{instr_of}
use Rattle.instruction.proofs.forms.nth.Goals as goal

via : (a b c : Arg) {f k : ℕ} {m : Instr} → f ≡ k → m ≡ instr_of k a b c → m ≡ instr_of f a b c
via a b c e h = h ∙ sym (ap (λ (n : ℕ). instr_of n a b c) e)

pub returns-in-0 : goal.returns-in-0
unfolding instr_of
returns-in-0 c = search via

pub returns-in-1 : goal.returns-in-1
unfolding instr_of
returns-in-1 c = search via

pub returns-in-2 : goal.returns-in-2
unfolding instr_of
returns-in-2 c = search via

pub returns-in-3 : goal.returns-in-3
unfolding instr_of
returns-in-3 c = search via

pub returns-in-4 : goal.returns-in-4
unfolding instr_of
returns-in-4 c = search via

pub returns-in-5 : goal.returns-in-5
unfolding instr_of
returns-in-5 c = search via

pub returns-in-6 : goal.returns-in-6
unfolding instr_of
returns-in-6 c = search via

pub returns-in-7 : goal.returns-in-7
unfolding instr_of
returns-in-7 c = search via

pub returns-in-8 : goal.returns-in-8
unfolding instr_of
returns-in-8 c = search via

pub returns-in-9 : goal.returns-in-9
unfolding instr_of
returns-in-9 c = search via

pub returns-in-10 : goal.returns-in-10
unfolding instr_of
returns-in-10 c = search via

pub returns-in-11 : goal.returns-in-11
unfolding instr_of
returns-in-11 c = search via

pub returns-in-12 : goal.returns-in-12
unfolding instr_of
returns-in-12 c = search via

pub returns-in-13 : goal.returns-in-13
unfolding instr_of
returns-in-13 c = search via

pub returns-in-14 : goal.returns-in-14
unfolding instr_of
returns-in-14 c = search via

pub returns-in-15 : goal.returns-in-15
unfolding instr_of
returns-in-15 c = search via

pub returns-in-16 : goal.returns-in-16
unfolding instr_of
returns-in-16 c = search via

pub returns-in-17 : goal.returns-in-17
unfolding instr_of
returns-in-17 c = search via

pub returns-in-18 : goal.returns-in-18
unfolding instr_of
returns-in-18 c = search via

pub returns-in-19 : goal.returns-in-19
unfolding instr_of
returns-in-19 c = search via

pub returns-in-20 : goal.returns-in-20
unfolding instr_of
returns-in-20 c = search via

pub returns-in-21 : goal.returns-in-21
unfolding instr_of
returns-in-21 c = search via

pub returns-in-22 : goal.returns-in-22
unfolding instr_of
returns-in-22 c = search via

pub returns-in-23 : goal.returns-in-23
unfolding instr_of
returns-in-23 c = search via

pub returns-in-24 : goal.returns-in-24
unfolding instr_of
returns-in-24 c = search via

pub returns-in-25 : goal.returns-in-25
unfolding instr_of
returns-in-25 c = search via

pub returns-in-26 : goal.returns-in-26
unfolding instr_of
returns-in-26 c = search via

pub returns-in-27 : goal.returns-in-27
unfolding instr_of
returns-in-27 c = search via

pub returns-in-28 : goal.returns-in-28
unfolding instr_of
returns-in-28 c = search via

pub returns-in-29 : goal.returns-in-29
unfolding instr_of
returns-in-29 c = search via

pub returns-in-30 : goal.returns-in-30
unfolding instr_of
returns-in-30 c = search via

pub returns-in-31 : goal.returns-in-31
unfolding instr_of
returns-in-31 c = search via

pub returns-in-32 : goal.returns-in-32
unfolding instr_of
returns-in-32 c = search via

pub returns-in-33 : goal.returns-in-33
unfolding instr_of
returns-in-33 c = search via

pub returns-in-34 : goal.returns-in-34
unfolding instr_of
returns-in-34 c = search via

pub returns-in-35 : goal.returns-in-35
unfolding instr_of
returns-in-35 c = search via

pub returns-in-36 : goal.returns-in-36
unfolding instr_of
returns-in-36 c = search via

pub returns-in-37 : goal.returns-in-37
unfolding instr_of
returns-in-37 c = search via

pub returns-in-38 : goal.returns-in-38
unfolding instr_of
returns-in-38 c = search via

pub returns-in-39 : goal.returns-in-39
unfolding instr_of
returns-in-39 c = search via

pub returns-in-40 : goal.returns-in-40
unfolding instr_of
returns-in-40 c = search via

pub returns-in-41 : goal.returns-in-41
unfolding instr_of
returns-in-41 c = search via

pub returns-in-42 : goal.returns-in-42
unfolding instr_of
returns-in-42 c = search via

pub returns-in-43 : goal.returns-in-43
unfolding instr_of
returns-in-43 c = search via

pub returns-in-44 : goal.returns-in-44
unfolding instr_of
returns-in-44 c = search via

pub returns-in-45 : goal.returns-in-45
unfolding instr_of
returns-in-45 c = search via

pub returns-in-46 : goal.returns-in-46
unfolding instr_of
returns-in-46 c = search via

pub returns-in-47 : goal.returns-in-47
unfolding instr_of
returns-in-47 c = search via

pub returns-in-48 : goal.returns-in-48
unfolding instr_of
returns-in-48 c = search via

pub returns-in-49 : goal.returns-in-49
unfolding instr_of
returns-in-49 c = search via

pub returns-in-50 : goal.returns-in-50
unfolding instr_of
returns-in-50 c = search via

pub returns-in-51 : goal.returns-in-51
unfolding instr_of
returns-in-51 c = search via

pub returns-in-52 : goal.returns-in-52
unfolding instr_of
returns-in-52 c = search via

pub returns-in-53 : goal.returns-in-53
unfolding instr_of
returns-in-53 c = search via

pub returns-in-54 : goal.returns-in-54
unfolding instr_of
returns-in-54 c = search via

pub returns-in-55 : goal.returns-in-55
unfolding instr_of
returns-in-55 c = search via

pub returns-in-56 : goal.returns-in-56
unfolding instr_of
returns-in-56 c = search via

pub returns-in-57 : goal.returns-in-57
unfolding instr_of
returns-in-57 c = search via

pub returns-in-58 : goal.returns-in-58
unfolding instr_of
returns-in-58 c = search via

pub returns-in-59 : goal.returns-in-59
unfolding instr_of
returns-in-59 c = search via

pub returns-in-60 : goal.returns-in-60
unfolding instr_of
returns-in-60 c = search via

pub returns-in-61 : goal.returns-in-61
unfolding instr_of
returns-in-61 c = search via

pub returns-in-62 : goal.returns-in-62
unfolding instr_of
returns-in-62 c = search via

pub returns-in-63 : goal.returns-in-63
unfolding instr_of
returns-in-63 c = search via

pub returns-in-64 : goal.returns-in-64
unfolding instr_of
returns-in-64 c = search via

pub returns-in-65 : goal.returns-in-65
unfolding instr_of
returns-in-65 c = search via

pub returns-in-66 : goal.returns-in-66
unfolding instr_of
returns-in-66 c = search via

pub returns-in-67 : goal.returns-in-67
unfolding instr_of
returns-in-67 c = search via

pub returns-in-68 : goal.returns-in-68
unfolding instr_of
returns-in-68 c = search via

pub returns-in_default : goal.returns-in_default
unfolding instr_of
returns-in_default c = via _ _ _ {f = c.args.form} {k = 69} (omega (arith, past 69 c.args.form c.in_default.in_default-own.rest)) refl
