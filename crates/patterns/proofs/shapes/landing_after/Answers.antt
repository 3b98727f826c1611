-- `patterns::shapes::landing_after` meets its contract.
use mathlib.Core.Path.{◌≡◌, sym, ap, ◌∙◌}
use Prim.Native.Nat.{ℕ, suc}
use native.Mathlib.Numerals.{add-one}
use native.Mathlib.Omega.{arith}
use Rattle.rules.specs.Rewriting.{local_label, next as next_place}
use Rattle.slots.specs.Slots.{Slots, slots, program_of}
use Rattle.patterns.specs.Targets.{stands_at}
use Rattle.patterns.proofs.Programs.{next_within}
use Rattle.patterns.proofs.Folds.{named_label, label_inside}
use Rattle.slots.specs.State.{starts_in, forms_in}
use Rattle.patterns.proofs.shapes.landing_after.Goals as goal

pub returns : goal.returns
returns c carry owners offsets =
    let t : Slots = slots c.args.frames.now (starts_in c.args.state.now) c.args.count (forms_in c.args.state.now) carry owners offsets in
    let i : ℕ = c.args.at.0 in
    let m : ℕ = c.next-label.result.0 in
    let place : next_place (program_of t) (suc i) ≡ m =
    sym (c.next-label.ensures carry owners offsets ∙ ap (next_place (program_of t)) (add-one i)) in
    let e = named_label (local_label (stands_at t m)) _ (sym c.in_ok-n.was ∙ c.local_label_at.ensures carry owners offsets) in
    record {
      next_is = place;
      rises = omega (arith, place, (next_within t (suc i) c.requires.1).0);
      inside = label_inside t c.requires.0 m _ e;
      is = e;
    }
