-- A result and the rooms that it is to fit: refused with 12 where one is too short, else in front of what each room held.
use mathlib.Core.Path.{◌≡◌, sym, ap, ◌∙◌}
use mathlib.Core.List.{List}
use mathlib.Core.Bool.{false}
use Prim.Native.Nat.{ℕ, ◌*◌, ◌≤◌, ◌<◌}
use native.Mathlib.Omega.{arith}
use lib.Dec.{leb}
use lib.ListN.{length}
use borrow.Author.Tests.{le-leb, lt-leb}
use Rattle.std.specs.Prelude.{Err, Ok}
use Rattle.laws.proofs.Tests.{first_false, second_false}
use Rattle.rules.specs.declared.Refusal.{Refusal}
use Rattle.rules.specs.declared.Refusal.TheVariants.{Room}
use Rattle.rules.specs.Answers.{Judged, ok, no, require}
use Rattle.rules.specs.Run.{Output, fits, answer_of, front, listing_after, image_after}
use Rattle.output.specs.Stems.{list_of}
use Rattle.output.proofs.Left.{length_list}
use Rattle.finishing.specs.Ending.{fits_all, roomed, Delivers, Fitted}

-- a refusal changes nothing
pub delivers_no : (x : Judged Output) (q : Refusal) (out image : List ℕ) → x ≡ no q → Delivers x (Err q) out image out image
delivers_no x q out image e =
    record {
      answers = sym (ap answer_of e);
      listing_is = sym (ap (λ y. listing_after y out) e);
      image_is = sym (ap (λ y. image_after y image) e);
    }

module _ (count room : ℕ) (o : Output) (out image : List ℕ) where
  short : fits_all (length out) (length image) room o ≡ false → Fitted count room o (Err (Room count)) out image out image
  unfolding roomed require
  short e = delivers_no (roomed count (length out) (length image) room o) (Room count) out image (rw e)

  short_both : fits (length out) (length image) o ≡ false → Fitted count room o (Err (Room count)) out image out image
  unfolding fits_all
  short_both e = short (first_false (fits (length out) (length image) o) (leb (length (list_of o.stems)) room) e)

  -- the listing room is too short
  pub fitted_listing : length out < length o.listing → Fitted count room o (Err (Room count)) out image out image
  unfolding fits
  fitted_listing h =
      short_both (first_false (leb (length o.listing) (length out)) (leb (length o.image) (length image)) (lt-leb _ _ h))

  -- the image room is too short
  pub fitted_image : length image < length o.image → Fitted count room o (Err (Room count)) out image out image
  unfolding fits
  fitted_image h =
      short_both (second_false (leb (length o.listing) (length out)) (leb (length o.image) (length image)) (lt-leb _ _ h))

  -- the list's room is too short
  pub fitted_list : room < 2 * length o.stems → Fitted count room o (Err (Room count)) out image out image
  unfolding fits_all
  fitted_list h =
      let less : room < length (list_of o.stems) = omega (arith, length_list o.stems) in
      short (second_false (fits (length out) (length image) o) (leb (length (list_of o.stems)) room) (lt-leb _ _ less))

  whole : length o.listing ≤ length out → length o.image ≤ length image → 2 * length o.stems ≤ room
      → roomed count (length out) (length image) room o ≡ ok o
  unfolding roomed require fits_all fits
  whole h k l =
      let m : length (list_of o.stems) ≤ room = omega (arith, length_list o.stems) in
      rw (le-leb (length o.listing) (length out) h, le-leb (length o.image) (length image) k, le-leb (length (list_of o.stems)) room m)

  -- all hold the result
  pub fitted_whole : (a n b : ℕ) (out' image' : List ℕ) → length o.listing ≤ length out → length o.image ≤ length image
      → 2 * length o.stems ≤ room → a ≡ length o.listing → n ≡ o.count → b ≡ length o.image
      → out' ≡ front o.listing out → image' ≡ front o.image image
      → Fitted count room o (Ok (record { listing = a; rewrites = n; image = b })) out image out' image'
  fitted_whole a n b out' image' h k l ea en eb el ei =
      let e = whole h k l in
      record {
        answers = rw (ea, en, eb) (sym (ap answer_of e));
        listing_is = el ∙ sym (ap (λ y. listing_after y out) e);
        image_is = ei ∙ sym (ap (λ y. image_after y image) e);
      }
