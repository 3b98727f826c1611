-- `names::no_name_twice` meets its contract. The invariant: no name is defined twice before place i.
use Rattle.rules.specs.Programs.{Program}
use Rattle.env.specs.Tables.{Named}
use Rattle.env.proofs.Naming.{OnceTo}
use Rattle.env.proofs.names.no_name_twice.Given as goal

abbrev pub invariant-loop-i : goal.invariant-loop-i
invariant-loop-i l =
    (p : Program) (h : Named p l.count l.names l.contexts) → OnceTo p l.count l.names l.contexts h l.i
