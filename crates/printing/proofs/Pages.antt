-- A page that the program prints: its front is lent to the run, and the last line is laid behind the listing.
use mathlib.Core.Path.{◌≡◌, refl, sym, ◌∙◌, ap, subst}
use mathlib.Core.List.{List, [], ◌∷◌, ◌++◌, append_assoc, append-nil}
use Prim.Native.Nat.{ℕ, ◌+◌, ◌-◌, ◌/◌, ◌%◌, ◌≤◌}
use native.Mathlib.Omega.{arith}
use lib.Dec.{leb}
use lib.ListN.{length, take, drop, length-append, length-take, length-drop, take-append-drop, drop_of_length-le}
use lib.Seq.{drop-append-le}
use borrow.Author.Tests.{le-leb}
use Rattle.rules.specs.declared.Refusal.{Refusal}
use Rattle.std.specs.Prelude.{Result, Ok}
use Rattle.laws.proofs.Tests.{cond_true}
use Rattle.laws.proofs.Stores.{rest_is, front_put}
use Rattle.rules.specs.declared.Sizes.{Sizes}
use Rattle.rules.specs.declared.Settings.{Settings}
use Rattle.rules.specs.Answers.{Judged, ok, no}
use Rattle.rules.specs.Expressions.{pair}
use Rattle.rules.specs.Output.{done_line}
use Rattle.rules.specs.Run.{Output, run, answer_of, front, listing_after, image_after, listing_room_of_program, image_room_of_program}
use Rattle.promises.specs.Demand2.{Answered}
use Rattle.promises.proofs.Accepted.{accepted_iff}
use Rattle.digits.proofs.Rooms.{length_line}
use Rattle.printing.specs.Page.{Lent, LineFits, Printable, last_after, page_length, on_page, PrintedRun}
use Rattle.printing.proofs.Places.{few_rewrites}

-- ---- the last line

length_done : (count len : ℕ) → length (done_line count len) ≡ 13
unfolding done_line
length_done count len = length_line (0x7F ∷ (pair count ++ (len / 65536 ∷ len / 256 % 256 ∷ len % 256 ∷ [])))

-- what is asked of an answer, by its kind
pub done_fits : (a : Result Sizes Refusal) (s : Sizes) (room : ℕ) → a ≡ Ok s → Printable a room → LineFits s room
done_fits a s room e h = subst (λ (x : Result Sizes Refusal). Printable x room) e h

-- the part from n on, and a line in it
pub part_room : (page : List ℕ) (n k : ℕ) → n + k ≤ length page → k ≤ length (take (length page - n) (drop n page))
part_room page n k h = rw (rest_is n page) (omega (arith, length-drop n page))

pub line_behind : (line page part : List ℕ) (n : ℕ) → part ≡ front line (take (length page - n) (drop n page))
    → take n page ++ (part ++ drop (length page - n) (drop n page)) ≡ take n page ++ front line (drop n page)
line_behind line page part n e =
    let none : drop (length page - n) (drop n page) ≡ [] = drop_of_length-le (drop n page) {i = length page - n} (omega (arith, length-drop n page)) in
    rw (none, append-nil, e, rest_is n page)

-- ---- the run

-- a result in the first n bytes is one in the page
front_part : (result page : List ℕ) (n : ℕ) → length result ≤ n → n ≤ length page → front result (take n page) ++ drop n page ≡ front result page
front_part result page n h k =
    append_assoc result (drop (length result) (take n page)) (drop n page)
    ∙ ap (λ (l : List ℕ). result ++ l)
    (sym (drop-append-le (length result) (take n page) (drop n page) (omega (arith, length-take n page))) ∙ ap (drop (length result)) (take-append-drop n page))

module _ (asked : Settings) (text : List ℕ) where
  -- of a run with the first n bytes for its listing
  listing_part : (page : List ℕ) (n image_room : ℕ) → n ≤ length page → listing_after (run asked text n image_room) (take n page) ++ drop n page ≡ listing_after (run asked text n image_room) page
  listing_part page n image_room h = on (run asked text n image_room) refl
    where
      on : (x : Judged Output) → run asked text n image_room ≡ x → listing_after x (take n page) ++ drop n page ≡ listing_after x page
      on (ok o) e = front_part o.listing page n ((accepted_iff asked text n image_room o).0 e).listing_fits h
      on (no r) e = take-append-drop n page

  pub lent_front : (page image part image' : List ℕ) (r : Result Sizes Refusal) → listing_room_of_program ≤ length page → Answered asked text (take listing_room_of_program page) image r part image'
      → Lent asked text page image r (part ++ drop listing_room_of_program page) image'
  lent_front page image part image' r h a =
      let size : length (take listing_room_of_program page) ≡ listing_room_of_program = omega (arith, length-take listing_room_of_program page) in
      lent (length (take listing_room_of_program page)) size a.answers a.listing_is a.image_is
    where
      lent : (n : ℕ) → n ≡ listing_room_of_program → r ≡ answer_of (run asked text n (length image)) → part ≡ listing_after (run asked text n (length image)) (take listing_room_of_program page)
          → image' ≡ image_after (run asked text n (length image)) image → Lent asked text page image r (part ++ drop listing_room_of_program page) image'
      lent n e x y z =
          record {
            answers = x ∙ ap (λ (m : ℕ). answer_of (run asked text m (length image))) e;
            page_is =
                ap (λ (l : List ℕ). l ++ drop listing_room_of_program page) (y ∙ ap (λ (m : ℕ). listing_after (run asked text m (length image)) (take listing_room_of_program page)) e)
                ∙ listing_part page listing_room_of_program (length image) h;
            image_is = z ∙ ap (λ (m : ℕ). image_after (run asked text m (length image)) image) e;
          }

  abbrev whole : Judged Output
  whole = run asked text listing_room_of_program image_room_of_program

  -- ---- what it answers has room in the last line, and the last line on the page
  answer_fits : (room : ℕ) (x : Judged Output) → whole ≡ x → 62482 ≤ room → Printable (answer_of x) room
  answer_fits room (ok o) e h =
      let a = (accepted_iff asked text listing_room_of_program image_room_of_program o).0 e in
      let few : o.count ≤ 3072 = rw a.result (few_rewrites asked text a.program a.keeps_rules) in
      record { rewrites = omega arith; image = a.image_fits; listing = omega (arith, a.listing_fits) }
  answer_fits room (no r) e h = tt

  -- and makes up what is printed
  answer_page : (page : List ℕ) (x : Judged Output) → last_after (answer_of x) (listing_after x page) ≡ front (on_page x) page
  answer_page page (ok o) =
      let line : List ℕ = done_line o.count (length o.image) in
      front_put o.listing page (front o.listing page) (length o.listing) refl refl line _ (length line) refl
      ∙ ap (λ (n : ℕ). (o.listing ++ line) ++ drop n page) (sym (length-append o.listing line))
  answer_page page (no r) = refl

  answer_length : (x : Judged Output) → whole ≡ x → page_length (answer_of x) ≡ length (on_page x)
  answer_length (ok o) e =
      let l : ℕ = length o.listing in
      let a = (accepted_iff asked text listing_room_of_program image_room_of_program o).0 e in
      cond_true (leb l listing_room_of_program) (l + 13) (listing_room_of_program + 13) (le-leb l listing_room_of_program a.listing_fits)
      ∙ omega (arith, length-append o.listing (done_line o.count (length o.image)), length_done o.count (length o.image))
  answer_length (no r) e = refl

  -- ---- both together
  module _ (page image page₁ image₁ : List ℕ) (r : Result Sizes Refusal) (room : length image ≡ image_room_of_program) (lent : Lent asked text page image r page₁ image₁) where
    answered : r ≡ answer_of whole
    answered = lent.answers ∙ ap (λ (m : ℕ). answer_of (run asked text listing_room_of_program m)) room

    pub lent_printable : (n : ℕ) → 62482 ≤ n → Printable r n
    lent_printable n h = rw answered (answer_fits n whole refl h)

    pub lent_printed : (page₂ : List ℕ) → page₂ ≡ last_after r page₁ → PrintedRun asked text page image r page₂ image₁
    lent_printed page₂ e =
        let after : page₁ ≡ listing_after whole page = lent.page_is ∙ ap (λ (m : ℕ). listing_after (run asked text listing_room_of_program m) page) room in
        record {
          answers = answered;
          page_is = e ∙ ap (λ (x : Result Sizes Refusal). last_after x page₁) answered ∙ ap (last_after (answer_of whole)) after ∙ answer_page page whole;
          image_is = lent.image_is ∙ ap (λ (m : ℕ). image_after (run asked text listing_room_of_program m) image) room;
          page_length_is = ap page_length answered ∙ answer_length whole refl;
        }
