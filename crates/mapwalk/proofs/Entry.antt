-- The two images walk alike under the map that is handed out: it starts from the entry's contract, `Answered`.
use mathlib.Core.Path.{◌≡◌, sym, subst}
use mathlib.Core.List.{List}
use Prim.Native.Nat.{ℕ}
use lib.ListN.{take}
use Rattle.std.specs.Prelude.{Ok}
use Rattle.rules.specs.declared.Sizes.{Sizes}
use Rattle.rules.specs.declared.Settings.{Settings}
use Rattle.rules.specs.Programs.{Program}
use Rattle.rules.specs.Run.{rewritten}
use Rattle.promises.specs.Demand2.{Answered, Input}
use Rattle.promises.proofs.Entry.{on_acceptance}
use Rattle.mapwalk.specs.Stands.{SameImages}
use Rattle.mapwalk.specs.Maps.{stands_of, in_slots}
use Rattle.mapwalk.specs.Entry.{ImagesAlike}
use Rattle.mapwalk.proofs.SameImages.{same_images}
use Rattle.mapwalk.proofs.MapRows.{rows_are}

-- images-alike: `Ok sizes` says that the front of the image room walks as the image of the input, by the map that `mapping` hands out
pub images_alike : (asked : Settings) (text listing image : List ℕ) (sizes : Sizes) (listing' image' : List ℕ) → Answered asked text listing image (Ok sizes) listing' image'
    → ImagesAlike asked text (take sizes.image image')
images_alike asked text listing image sizes listing' image' x =
    let a = (on_acceptance asked text listing image sizes listing' image' x).promised in
    let p : Program = a.program in
    let in_p : Input p = record { text = text; reads = a.keeps_rules; image = a.image; assembles = a.assembles } in
    let b : (rewritten asked p).image ≡ take sizes.image image' = sym a.as_defined.image in
    record {
      program = p;
      reads = a.keeps_rules;
      image = a.image;
      assembles = a.assembles;
      longs = stands_of p p;
      shorts = stands_of p (in_slots asked p);
      map_is = rows_are asked p in_p;
      walks = subst (λ (s : List ℕ). SameImages (stands_of p p) (stands_of p (in_slots asked p)) a.image s) b (same_images asked p in_p);
    }
