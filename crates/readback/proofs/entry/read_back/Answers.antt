-- `readback::entry::read_back` meets its contract: the start first, then the image's length. Assumes nothing.
use lib.ListN.{length}
use Rattle.rules.specs.declared.Refusal.TheVariants.{Limit, Start}
use Rattle.rules.specs.Answers.{at_place}
use Rattle.readback.specs.ReadBack.{read_back}
use Rattle.readback.proofs.Judged.{beyond_end, too_long, refused}
use Rattle.readback.proofs.entry.read_back.Goals as goal

pub returns-then-image-start : goal.returns-then-image-start
returns-then-image-start c =
    let a = c.args in
    let room = length a.listing.now in
    refused (read_back a.image.now a.start room) Start a.listing.now (beyond_end a.image.now a.start room c.if-image-start.true)

pub returns-then-image-gt65536 : goal.returns-then-image-gt65536
returns-then-image-gt65536 c =
    let a = c.args in
    let room = length a.listing.now in
    refused (read_back a.image.now a.start room) (Limit (at_place 0)) a.listing.now
    (too_long a.image.now a.start room c.if-image-start.false c.if-image-gt65536.true)
