-- `patterns::targets::names_bare` meets its contract: the last operand of a transfer is the target that it carries.
use mathlib.Core.Path.{sym, ap, ◌∙◌}
use Prim.Native.Nat.{ℕ}
use Rattle.rules.specs.Rewriting.{bare_in, names_bare}
use Rattle.slots.specs.Slots.{slots, target_of}
use Rattle.patterns.proofs.Instructions.{last_target}
use Rattle.slots.specs.State.{starts_in, carry_in, owners_in}
use Rattle.patterns.proofs.targets.names_bare.Goals as goal

pub returns : goal.returns
unfolding names_bare
returns c n l forms offsets sound kind transfer =
    let t = slots c.args.frames.now (starts_in c.args.state.now) c.args.count forms (carry_in c.args.state.now)
    (owners_in c.args.state.now) offsets in
    c.is_bare_target.ensures n (rw c.carry_at-written.ensures l) forms (carry_in c.args.state.now) offsets
    ∙ ap (λ (w : ℕ). bare_in n (target_of t w)) c.carry_at-written.ensures
    ∙ sym (ap (bare_in n) (last_target t sound c.args.at.0 c.requires.1 kind transfer))
