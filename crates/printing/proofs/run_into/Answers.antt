-- `printing::run_into` meets its contract: a listing in the page's front is one in the page.
use Rattle.printing.proofs.Pages.{lent_front}
use Rattle.printing.proofs.run_into.Goals as goal

pub returns : goal.returns
returns c =
    lent_front c.args.asked c.args.listing.now c.args.page.now c.args.image.now _ _ _ c.requires c.optimize_jumps.ensures
