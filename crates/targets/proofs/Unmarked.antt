-- Of the lines that the entry tells, whatever room was lent: where one is not marked, the output names the byte that the input named.
use mathlib.Core.Path.{◌≡◌, subst}
use mathlib.Core.List.{List}
use Prim.Native.Nat.{ℕ}
use lib.Dec.{leb}
use lib.ListN.{length}
use Rattle.rules.specs.declared.Settings.{Settings}
use Rattle.rules.specs.declared.Refusal.TheVariants.{Room}
use Rattle.rules.specs.Answers.{ok}
use Rattle.rules.proofs.Laws.{then_ok, require_ok}
use Rattle.starting.specs.Begun.{accepted}
use Rattle.starting.proofs.Accepts.{accepted_input}
use Rattle.targets.specs.Targets.{Target, targets}
use Rattle.targets.specs.Entry.{target_lines, fitted, told}
use Rattle.targets.specs.InOutput.{UnmarkedKept}
use Rattle.targets.proofs.InOutput.{AllUnmarked, unmarked_at, all_unmarked}

pub unmarked_kept : (asked : Settings) (text : List ℕ) (room : ℕ) (ts : List Target) → told asked text room ≡ ok ts → UnmarkedKept asked text ts
unfolding told fitted
unmarked_kept asked text room ts h =
    let a = then_ok (accepted text) (λ p. fitted (length p) room (targets asked p)) ts h in
    let p = a.0 in
    let z = (require_ok (leb (length (target_lines (targets asked p))) room) (Room (length p)) (ok (targets asked p)) ts a.2).1 in
    let y : targets asked p ≡ ts = cc in
    let i = accepted_input text p a.1 in
    record { program = p; reads = a.1; named = unmarked_at asked p i ts (subst (AllUnmarked asked p i) y (all_unmarked asked p i)) }
