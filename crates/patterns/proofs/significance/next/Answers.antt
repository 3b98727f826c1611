-- `patterns::significance::next` meets its contract: the iterator's search is the definition's, whatever the tables on which no kind depends.
use mathlib.Core.Path.{◌≡◌, sym, ap, ◌∙◌}
use mathlib.Core.Bool.{not, true, false}
use Prim.Native.Nat.{ℕ, ◌-◌}
use native.Mathlib.Omega.{arith}
use borrow.Author.Tests.{tests}
use Rattle.std.proofs.Common.{rules}
use Rattle.std.proofs.lemmas.Iterator.{first_from_Range}
use Rattle.std.specs.Option.{unwrap_or}
use Rattle.laws.proofs.Counts.{scan_ext}
use Rattle.patterns.proofs.Ranges.{scan_range}
use Rattle.rules.specs.Rewriting.{insignificant}
use Rattle.slots.specs.Slots.{slots, slot_at}
use Rattle.patterns.proofs.Programs.{at_program, significant_at, next_starts}
use Rattle.slots.specs.State.{starts_in, forms_in}
use Rattle.patterns.proofs.significance.next.Goals as goal

pub returns : goal.returns
returns c carry owners offsets =
    let t = slots c.args.frames.now (starts_in c.args.state.now) c.args.count (forms_in c.args.state.now) carry owners offsets in
    let tested = λ (j : ℕ). not (insignificant (slot_at t j)) in
    let found = first_from_Range _ _ _ c.find-found.result (λ k. tested k ≡ true) (λ k. tested k ≡ false) c.find-found.ensures.ran
    (λ x q k. search (rules, tests)) (λ x q k. search (rules, tests)) in
    c.unwrap_or.ensures ∙ ap (unwrap_or c.find-found.result) c.max.ensures
    ∙ scan_range tested c.args.count c.args.from.0 c.find-found.result found
    ∙ scan_ext tested (significant_at t) (c.args.count - c.args.from.0) c.args.from.0
    (λ j l m. ap (λ x. not (insignificant x)) (sym (at_program t j (omega arith))))
    ∙ sym (next_starts t c.args.from.0)
