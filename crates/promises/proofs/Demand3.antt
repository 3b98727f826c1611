-- Demand 3 as a whole: "For every accepted program".
use mathlib.Core.Path.{◌≡◌}
use mathlib.Core.List.{List}
use Prim.Native.Nat.{ℕ}
use Rattle.rules.specs.declared.Settings.{Settings}
use Rattle.rules.specs.Answers.{ok}
use Rattle.rules.specs.Programs.{Program}
use Rattle.rules.specs.Listing.{read_listing, beside_of}
use Rattle.rules.specs.Run.{Output, output_of, run}
use Rattle.promises.specs.Demand2.{Input}
use Rattle.promises.specs.Demand3.{Demand3}
use Rattle.promises.proofs.Accepted.{accepted_iff}
use Rattle.promises.proofs.RunEnds.{run_ends, rewrites_bound}
use Rattle.promises.proofs.TargetKept.{target_kept}

-- of a program that was read and assembles
pub demand_3_of : (asked : Settings) (p : Program) → Input p → Demand3 asked p
demand_3_of asked p h = record { targets_kept = target_kept asked p h; none_remains = run_ends asked p; bounded = rewrites_bound asked p }

-- demand-3: a text that is accepted was read as a program, the answer is its output, and demand 3 holds of it
pub demand_3 : (asked : Settings) (text : List ℕ) (listing_room image_room : ℕ) (o : Output) → run asked text listing_room image_room ≡ ok o
    → (p : Program) × (read_listing text ≡ ok p) × (o ≡ output_of asked (beside_of text) p) × Demand3 asked p
demand_3 asked text listing_room image_room o e =
    let a = (accepted_iff asked text listing_room image_room o).0 e in
    (a.program, a.keeps_rules, a.result, demand_3_of asked a.program (record { text = text; reads = a.keeps_rules; image = a.image; assembles = a.assembles }))
