-- `patterns::counting::in_part` meets its contract: what is counted from a byte on, by the links from the same byte on.
use mathlib.Core.Path.{ap, ◌∙◌}
use native.Mathlib.Omega.{arith}
use lib.ListN.{length, length-drop}
use Rattle.laws.proofs.Stores.{rest_is}
use Rattle.rules.specs.Expressions.{read_expr}
use Rattle.slots.proofs.Linking.{part_referred}
use Rattle.patterns.proofs.counting.in_part.Goals as goal

pub returns : goal.returns
returns c =
    let b = c.args.frame.now in
    record {
      few = omega (arith, c.count_links.ensures.few, ap length (rest_is c.args.a b), length-drop c.args.a b, c.requires.1.1);
      by_index = λ f l e k r. c.count_links.ensures.by_index f (part_referred f b c.args.links.now c.args.place.0 c.args.a l) e k
          (ap read_expr (rest_is c.args.a b) ∙ r);
    }
