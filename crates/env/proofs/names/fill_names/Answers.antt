-- `names::fill_names` meets its contract. The invariant: the table is filled below i.
use native.Mathlib.Omega.{arith}
use lib.ListN.{length-set}
use Rattle.env.proofs.Naming.{names_start, names_next, names_all}
use Rattle.env.proofs.names.fill_names.Goals as goal

pub loop-i-init : goal.loop-i-init
loop-i-init c = (c.requires.1, λ carry owners offsets. names_start _ c.args.names.now)

pub loop-i-preserved : goal.loop-i-preserved
loop-i-preserved c = (
  simp length-set c.loop-i.invariant.0,
  λ carry owners offsets.
      names_next _ c.args.names.now c.loop-i.names c.loop-i.i c.name_at.result
      (c.loop-i.invariant.1 carry owners offsets)
      (omega (arith, c.requires.0.few))
      (c.name_at.ensures carry owners offsets),
)

pub returns : goal.returns
returns c =
    record {
      room = c.loop-i.invariant.0;
      filled = λ carry owners offsets.
          names_all _ c.args.names.now c.loop-i.names c.loop-i.i (omega arith) (c.loop-i.invariant.1 carry owners offsets);
    }
