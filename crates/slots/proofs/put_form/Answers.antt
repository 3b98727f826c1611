-- `slots::put_form` meets its contract: a form is a byte, and the other rows are left.
use Prim.Native.Nat.{◌<◌}
use native.Mathlib.Omega.{arith}
use Rattle.slots.proofs.State.{form_put}
use Rattle.slots.proofs.put_form.Goals as goal

pub returns : goal.returns
returns c =
    let byte : c.args.form < 256 = omega arith in
    rw c.from.ensures (form_put c.args.state.now c.args.at.0 c.args.form byte c.requires.1)
