-- `steps::entry::count_steps` meets its contract.
use mathlib.Core.Path.{sym, ap, ap₂, ◌∙◌}
use Prim.Native.Nat.{ℕ}
use Rattle.std.specs.Prelude.{Ok}
use Rattle.starting.specs.Begun.{accepted}
use Rattle.starting.proofs.Begins.{begun_read}
use Rattle.steps.specs.Entry.{counted_as}
use Rattle.steps.proofs.Told.{same_count, counted_steps}
use Rattle.steps.proofs.entry.count_steps.Goals as goal

pub returns : goal.returns
returns c =
    let h = begun_read (accepted c.args.listing.now) _ _ _ _ c.in_ok-count.was c.begin.ensures in
    ap₂ (λ (n k : ℕ). Ok (n, k)) (same_count c.args.asked _ h.0 h.2.starts.anchored) (counted_steps c.args.asked _ h.0 h.2.starts.anchored _ _ c.optimize.ensures)
    ∙ sym (ap (counted_as c.args.asked) h.1)
