-- C-16 and C-19 joined, of a listing of the old form. Assumes nothing.
use mathlib.Core.Path.{◌≡◌, subst}
use mathlib.Core.List.{List}
use Prim.Native.Nat.{ℕ, ◌*◌, ◌≤◌}
use lib.ListN.{length}
use Rattle.rules.specs.declared.Refusal.{Refusal}
use Rattle.rules.specs.declared.Sizes.{Sizes}
use Rattle.std.specs.Prelude.{Result}
use Rattle.laws.specs.Lists.{total}
use Rattle.rules.specs.Answers.{ok}
use Rattle.rules.specs.Programs.{Program}
use Rattle.rules.specs.Listing.{ListingForm, old_form, most_characters, lines_of, form_in, read_listing}
use Rattle.promises.specs.Demand2.{WithinTotal}
use Rattle.promises.proofs.Listings.{line_room, read_limits}
use Rattle.joined.specs.Joined.{written, Ran}
use Rattle.joined.proofs.Again.{read_again}

-- a listing of the old form keeps the total: it comes back byte for byte, with no condition
pub old_again : (listing : List ℕ) (p : Program) → read_listing listing ≡ ok p → form_in (lines_of listing) ≡ old_form
    → (text text' out out' : List ℕ) (a b : Result Sizes Refusal) → 86016 ≤ length text → 50176 ≤ length out → Ran listing text text' out out' a b
    → written b out' ≡ listing
old_again listing p e o text text' out out' a b long wide r =
    let m = (read_limits listing p e).1 in
    let k : WithinTotal old_form p = subst (λ (w : ListingForm). 2 * total (line_room w) p ≤ most_characters w) o m in
    (read_again listing p e text text' out out' a b long r k wide).as_given o
