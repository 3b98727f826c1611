-- `instructions::argument` meets its contract.
use mathlib.Core.Path.{refl}
use mathlib.Core.List.{[], ◌∷◌}
use native.Mathlib.Omega.{arith}
use Rattle.rules.specs.declared.Kind.TheVariants.{I8}
use Rattle.wording.proofs.Arguings.{unmarked, register_argued, value_argued, plain_argued, argued_as}
use Rattle.wording.proofs.instructions.argument.Goals as goal

pub returns-in-Reg : goal.returns-in-Reg
returns-in-Reg c =
    argued_as c.args.s.now c.in-Reg.is (register_argued c.args.s.now c.register.ensures)

pub returns-in-I8 : goal.returns-in-I8
returns-in-I8 c =
    argued_as c.args.s.now c.in-I8.is (value_argued I8 c.args.s.now (35 ∷ []) refl (λ e. refl) c.put-a.ensures c.term.ensures)

pub returns-in-D9 : goal.returns-in-D9
returns-in-D9 c =
    let k = c.args.k in
    let n = unmarked k (λ e. grind (arith, c.in-D9.is)) (λ e. grind (arith, c.in-D9.is)) in
    plain_argued k c.args.s.now n.0 n.1 c.requires.0 c.requires.1 c.term-in-D9.ensures
