-- "A listing is accepted exactly when it keeps the listing rules, assembles as given and the lent room holds the result."
use mathlib.Core.Path.{◌≡◌, ◌∙◌, ap}
use mathlib.Core.Logic.{◌↔◌}
use mathlib.Core.List.{List}
use mathlib.Core.Bool.{true}
use Prim.Native.Nat.{ℕ, ◌≤◌}
use lib.Dec.{leb}
use lib.ListN.{length}
use borrow.Author.Tests.{leb-true, le-leb}
use Rattle.laws.proofs.Tests.{and_true, and_both}
use Rattle.rules.specs.declared.Settings.{Settings}
use Rattle.rules.specs.declared.Refusal.TheVariants.{Room}
use Rattle.rules.specs.Answers.{ok, ◌>>=◌, ◌>>◌, require}
use Rattle.rules.specs.Programs.{Program}
use Rattle.rules.specs.Listing.{read_listing, beside_of}
use Rattle.rules.specs.Judging.{judge}
use Rattle.rules.specs.Run.{Output, output_of, fits, run}
use Rattle.rules.proofs.Laws.{then_ok, next_ok, require_ok}
use Rattle.promises.specs.Demand2.{Accepted}

module _ (asked : Settings) (text : List ℕ) (listing_room image_room : ℕ) (o : Output) where
  -- both rooms hold the result
  fits_both : fits listing_room image_room o ≡ true ↔ ((length o.listing ≤ listing_room) × (length o.image ≤ image_room))
  unfolding fits
  fits_both = (
    λ e. let h = and_true (leb (length o.listing) listing_room) (leb (length o.image) image_room) e in (leb-true _ _ h.0, leb-true _ _ h.1),
    λ h. and_both (leb (length o.listing) listing_room) (leb (length o.image) image_room) (le-leb _ _ h.0) (le-leb _ _ h.1),
  )

  -- what an accepted run says
  accepted_only : run asked text listing_room image_room ≡ ok o → Accepted asked text listing_room image_room o
  unfolding run
  accepted_only e =
      let read = then_ok (read_listing text) _ o e in
      let p : Program = read.0 in
      let judged = next_ok (judge p) _ o read.2 in
      let room = require_ok (fits listing_room image_room (output_of asked (beside_of text) p)) (Room (length p)) (ok (output_of asked (beside_of text) p)) o judged.2 in
      let same : o ≡ output_of asked (beside_of text) p = cc in
      let both = fits_both.0 (ap (fits listing_room image_room) same ∙ room.0) in
      record {
        program = p;
        keeps_rules = read.1;
        image = judged.0;
        assembles = judged.1;
        result = same;
        listing_fits = both.0;
        image_fits = both.1;
      }

  -- and back
  accepted_if : Accepted asked text listing_room image_room o → run asked text listing_room image_room ≡ ok o
  unfolding run ◌>>=◌ ◌>>◌ require
  accepted_if a =
      let both : fits listing_room image_room o ≡ true = fits_both.1 (a.listing_fits, a.image_fits) in
      rw (a.keeps_rules, ◌>>=◌, a.assembles, ◌>>◌, ← a.result, both)

  -- accepted-iff: a run answers o exactly when the text reads, the program assembles as given, and both rooms hold the result
  pub accepted_iff : run asked text listing_room image_room ≡ ok o ↔ Accepted asked text listing_room image_room o
  accepted_iff = (accepted_only, accepted_if)
