-- `sits::all::all_sit` meets its contract, on every input: the text is read, and its statements are laid out.
use Rattle.sits.proofs.AllLaid.{all_read, all_unread, places_same, unread_places}
use Rattle.sits.proofs.all.all_sit.Goals as goal

pub returns-in-Err : goal.returns-in-Err
returns-in-Err c =
    unread_places (all_unread _ c.read_listing.new.frames c.read_listing.new.starts _ c.read_listing.result c.in-Err.is c.read_listing.ensures.listed) _

pub returns-in-Ok : goal.returns-in-Ok
returns-in-Ok c =
    places_same (all_read _ c.read_listing.new.frames c.read_listing.new.starts _ c.read_listing.result c.in-Ok.is c.read_listing.ensures.listed).1
    c.lay_all.ensures
