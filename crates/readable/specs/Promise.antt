-- Document 02, C-16: what is shown.
use Rattle.std.specs.Prelude.{ℕ}
use Rattle.rules.specs.Listing.{ListingForm, old_form, new_form}

-- the room that is never short for the text of a listing of this form, line feeds included
abbrev pub enough : ListingForm → ℕ
enough old_form = 79872
enough new_form = 86016
