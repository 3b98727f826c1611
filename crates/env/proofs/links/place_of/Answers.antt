-- `links::place_of` meets its contract: the first place that defines the name is the only one.
use mathlib.Core.Path.{◌≡◌}
use mathlib.Core.Bool.{true, false}
use Prim.Native.Nat.{◌<◌}
use native.Mathlib.Omega.{arith}
use lib.ListN.{get_or}
use borrow.Author.Rules.{rules}
use Rattle.std.proofs.Common.{Some, tests}
use Rattle.std.proofs.lemmas.Iterator.{first_from_Range}
use Rattle.expression.specs.Environment.{is_here}
use Rattle.env.proofs.Linking.{means_found}
use Rattle.env.proofs.links.place_of.Goals as goal

-- a place that defines the name
found : (c : goal.In-Some) →
    let a = c.args in
    let i = c.in-Some.i in
    (i < a.count) × (is_here (get_or a.names.now i 0) (get_or a.contexts.now i 0) a.name a.context ≡ true)
found c =
    let a = c.args in
    let first = first_from_Range _ _ _ (Some c.in-Some.i)
    (λ i. is_here (get_or a.names.now i 0) (get_or a.contexts.now i 0) a.name a.context ≡ true)
    (λ i. is_here (get_or a.names.now i 0) (get_or a.contexts.now i 0) a.name a.context ≡ false)
    c.in-Some.ensures.ran
    (λ x q h. search (rules, tests)) (λ x q h. search (rules, tests)) in
    (first.1, first.2)

pub overflow_cast-result : goal.overflow_cast-result
overflow_cast-result c = let f = found c in omega (arith, f.0, c.requires.0)

pub returns-in-Some : goal.returns-in-Some
returns-in-Some c =
    let f = found c in
    means_found c.args.names.now c.args.contexts.now c.args.count c.args.context c.args.name c.in-Some.i c.requires.1 f.0 f.1
