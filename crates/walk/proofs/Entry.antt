-- C-23 of whatever `optimize_jumps` answers and writes: it starts from the entry's contract, `Answered`.
use mathlib.Core.Path.{sym, ◌∙◌, ap, subst}
use mathlib.Core.List.{List}
use Prim.Native.Nat.{ℕ}
use lib.ListN.{take}
use Rattle.std.specs.Prelude.{Ok}
use Rattle.rules.specs.declared.Sizes.{Sizes}
use Rattle.rules.specs.declared.Settings.{Settings}
use Rattle.rules.specs.Programs.{Program}
use Rattle.promises.specs.Demand2.{Answered, Input}
use Rattle.promises.proofs.Entry.{on_acceptance}
use Rattle.walk.specs.SameWalk.{only_walked, SameWalk, stem_of}
use Rattle.walk.specs.Entry.{WalkedAlike}
use Rattle.walk.proofs.Inputs.{no_constants}
use Rattle.walk.proofs.SameWalks.{same_walk_again, output_walked}

-- walked-alike: `Ok sizes` says that the front of the listing room reads again, and that it walks as the input does
pub walked_alike : (asked : Settings) (text listing image : List ℕ) (sizes : Sizes) (listing' image' : List ℕ) → Answered asked text listing image (Ok sizes) listing' image'
    → WalkedAlike asked text (take sizes.listing listing')
walked_alike asked text listing image sizes listing' image' x =
    let a = (on_acceptance asked text listing image sizes listing' image' x).promised in
    let p : Program = a.program in
    let in_p : Input p = record { text = text; reads = a.keeps_rules; image = a.image; assembles = a.assembles } in
    record {
      program = p;
      reads = a.keeps_rules;
      again = a.again;
      reads_again = λ only. a.no_constants (no_constants p in_p only);
      walks = λ only. subst (λ (q : Program). SameWalk p q (stem_of asked p)) (sym a.again_is) (same_walk_again asked p in_p only);
      walked_again = λ only. ap only_walked a.again_is ∙ output_walked asked p in_p only;
    }
