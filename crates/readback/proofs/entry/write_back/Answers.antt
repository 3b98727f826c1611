-- `readback::entry::write_back` meets its contract: the limits, then the room, then the listing. Assumes nothing.
use mathlib.Core.Path.{sym, ap, ◌∙◌}
use Prim.Native.Nat.{ℕ, ◌≤◌}
use native.Mathlib.Omega.{arith}
use lib.ListN.{length}
use Rattle.rules.specs.declared.Refusal.TheVariants.{Limit, Room}
use Rattle.rules.specs.Answers.{at_place, no}
use Rattle.readback.specs.ReadBack.{statements_of, listing_of, read_back}
use Rattle.readback.proofs.Judged.{too_many, no_room, all_fits, refused, written}
use Rattle.readback.proofs.entry.write_back.Goals as goal

few : (i : goal.Then-listing-chars) → length (statements_of i.args.image.now i.args.start.0) ≤ 1024
few i = omega (arith, i.if-count-gt1024.false, i.extent-whole.ensures.count)

few_2 : (i : goal.After-slice_known-2-1) → length (statements_of i.args.image.now i.args.start.0) ≤ 1024
few_2 i = omega (arith, i.if-count-gt1024.false, i.extent-whole.ensures.count)

pub returns-then-count-gt1024 : goal.returns-then-count-gt1024
returns-then-count-gt1024 c =
    let room = length c.args.listing.now in
    refused (read_back c.args.image.now c.args.start.0 room) (Limit (at_place 1024)) c.args.listing.now
    (too_many c.args.image.now c.args.start.0 room c.requires.0 c.requires.1
    (omega (arith, c.if-count-gt1024.true, c.extent-whole.ensures.count)))

pub returns-then-listing-chars : goal.returns-then-listing-chars
returns-then-listing-chars c =
    let room = length c.args.listing.now in
    refused (read_back c.args.image.now c.args.start.0 room) (Room c.extent-whole.result.0) c.args.listing.now
    (no_room c.args.image.now c.args.start.0 room c.requires.0 c.requires.1 (few c)
    (omega (arith, c.if-listing-chars.true, c.extent-whole.ensures.length_is))
    ∙ ap (λ (n : ℕ). no (Room n)) (sym c.extent-whole.ensures.count))

pub returns : goal.returns
returns c =
    let room = length c.args.listing.now in
    let p = statements_of c.args.image.now c.args.start.0 in
    written (read_back c.args.image.now c.args.start.0 room) (listing_of p) c.extent-whole.result.1 c.args.listing.now
    c.write_all.new.listing
    (all_fits c.args.image.now c.args.start.0 room c.requires.0 c.requires.1 (few_2 c)
    (omega (arith, c.if-listing-chars.false, c.extent-whole.ensures.length_is)))
    c.extent-whole.ensures.length_is c.write_all.ensures
