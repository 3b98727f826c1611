-- Demand 2 of the letter, "A listing is accepted exactly when ..", and document 01's "any two results allowed by the contract coincide".
use Rattle.rules.specs.declared.Refusal.{Refusal}
use Rattle.std.specs.Prelude.{◌≡◌, List, [], ◌∷◌, ℕ, suc, ◌≤◌, ◌+◌, ◌*◌, length, take, drop, Bool, true, false, Result}
use Rattle.rules.specs.declared.Settings.{Settings}
use Rattle.rules.specs.declared.Sizes.{Sizes}
use Rattle.rules.specs.Answers.{ok}
use Rattle.rules.specs.Programs.{Placeℕ, Stmt, instr, Program, on_instr}
use Rattle.rules.specs.Listing.{read_listing, read_lines, lines_of, ListingForm, old_form, line_bytes, most_characters, Beside, beside_of}
use Rattle.rules.specs.Judging.{judge}
use Rattle.rules.specs.Rewriting.{optimized}
use Rattle.rules.specs.Output.{write_back, shown, compact, frame_of, line_of, lines_from}
use Rattle.rules.specs.Run.{Output, output_of, run, answer_of, listing_after, image_after, rewritten}
use Rattle.laws.specs.Lists.{total, each}

-- "A listing is accepted exactly when it keeps the listing rules, assembles as given and the lent room holds the result."
pub record Accepted (asked : Settings) (text : List ℕ) (listing_room image_room : ℕ) (o : Output) : Type 0 where
  pub program : Program
  pub keeps_rules : read_listing text ≡ ok program
  pub image : List ℕ
  pub assembles : judge program ≡ ok image
  pub result : o ≡ output_of asked (beside_of text) program
  pub listing_fits : length o.listing ≤ listing_room
  pub image_fits : length o.image ≤ image_room

-- "Every public function states its result and the final content of each lent buffer": what the entry states of its answer, if it is lent the
-- rooms `listing` and `image` and leaves `listing'` and `image'` in them
pub record Answered (asked : Settings) (text listing image : List ℕ) (answer : Result Sizes Refusal) (listing' image' : List ℕ) : Type 0 where
  pub answers : answer ≡ answer_of (run asked text (length listing) (length image))
  pub listing_is : listing' ≡ listing_after (run asked text (length listing) (length image)) listing
  pub image_is : image' ≡ image_after (run asked text (length listing) (length image)) image

-- "On acceptance, room beyond the result is unchanged": a room that holds a result in front, and is otherwise what it was
pub record Filled (result room room' : List ℕ) : Type 0 where
  pub front : take (length result) room' ≡ result
  pub beyond : drop (length result) room' ≡ drop (length result) room
  pub as_long : length room' ≡ length room

-- both rooms of an accepted run, and the sizes that it answers
pub record Delivered (asked : Settings) (text listing image : List ℕ) (sizes : Sizes) (listing' image' : List ℕ) : Type 0 where
  pub output : Output
  pub accepted : run asked text (length listing) (length image) ≡ ok output
  pub listing_size : sizes.listing ≡ length output.listing
  pub rewrites : sizes.rewrites ≡ output.count
  pub image_size : sizes.image ≡ length output.image
  pub listing_room_holds : Filled output.listing listing listing'
  pub image_room_holds : Filled output.image image image'

-- ---- the image

-- a program that was read from a text and assembles: what the promises about "every accepted program" speak of
pub record Input (p : Program) : Type 0 where
  pub text : List ℕ
  pub reads : read_listing text ≡ ok p
  pub image : List ℕ
  pub assembles : judge p ≡ ok image

-- the statements of the output's listing
unfoldable pub output_program : (asked : Settings) → Program → Program
output_program asked p = compact (shown asked (write_back (optimized asked p).program))

-- "the listing and image": the image that is handed out is the end form's, and what the output's own statements assemble to
pub record ImageOfOutput (asked : Settings) (p : Program) : Type 0 where
  pub image : List ℕ
  pub of_end : judge (optimized asked p).program ≡ ok image
  pub of_output : judge (output_program asked p) ≡ ok image
  pub handed_out : (rewritten asked p).image ≡ image

-- C-18: "Image, count and demands are as before in either mode": with comments and without there is one end form, one image and one count, and the
-- one listing has the other's statements, without the comments
abbrev pub asked_for : (comments callf folds : Bool) → Settings
asked_for comments callf folds = record { comments = comments; callf = callf; folds = folds }

pub record CommentsAside (callf folds : Bool) (p : Program) : Type 0 where
  pub end : optimized (asked_for false callf folds) p ≡ optimized (asked_for true callf folds) p
  pub image : (rewritten (asked_for false callf folds) p).image ≡ (rewritten (asked_for true callf folds) p).image
  pub count : (rewritten (asked_for false callf folds) p).count ≡ (rewritten (asked_for true callf folds) p).count
  pub statements : output_program (asked_for false callf folds) p ≡ compact (shown (asked_for false callf folds) (output_program (asked_for true callf folds) p))

-- ---- the listing

-- the statement at place i as reading makes it: an instruction of a listing carries its own place
abbrev pub own : (i : Placeℕ) → Stmt → Stmt
own i s = on_instr s (λ x. instr x.form x.args i) s

unfoldable pub own_from : (i : Placeℕ) → Program → Program
own_from i [] = []
own_from i (s ∷ p) = own i s ∷ own_from (suc i) p

-- C-15: "the total limit is judged on the input", so that an output with constants as targets may pass it; any other limit is kept. A listing of
-- these statements and this form, within the total
abbrev pub WithinTotal : ListingForm → Program → Type 0
WithinTotal w q = 2 * total (λ s. length (frame_of s) + line_bytes w) q ≤ most_characters w

-- the listing that is handed out, in the input's form
abbrev pub KeepsTotal : (asked : Settings) → Beside → Program → Type 0
KeepsTotal asked b p = WithinTotal b.form (output_program asked p)

-- the listing that is handed out keeps the listing rules, reads as the output's statements, and assembles as given to the image that is handed out.
-- C-20: "The output has the input's form", and each of its statements has the source line of the one that it stems from
pub record ReadsBack (asked : Settings) (b : Beside) (p : Program) : Type 0 where
  pub reads : KeepsTotal asked b p → read_listing (output_of asked b p).listing ≡ ok (own_from 0 (output_program asked p))
  pub form : (beside_of (output_of asked b p).listing).form ≡ b.form
  pub lines : (beside_of (output_of asked b p).listing).lines ≡ lines_from b.lines (rewritten asked p).stems
  pub assembles : judge (own_from 0 (output_program asked p)) ≡ ok (rewritten asked p).image

-- C-20: "Source lines alter no image, count or rewrite": of two texts that read as the same statements, whatever they say beside them. Their outputs
-- are texts of the same statements, and differ in their lines alone
pub record LinesAside (asked : Settings) (text text' : List ℕ) (p : Program) : Type 0 where
  pub stems : (output_of asked (beside_of text) p).stems ≡ (output_of asked (beside_of text') p).stems
  pub count : (output_of asked (beside_of text) p).count ≡ (output_of asked (beside_of text') p).count
  pub image : (output_of asked (beside_of text) p).image ≡ (output_of asked (beside_of text') p).image
  pub statements : KeepsTotal asked (beside_of text) p → KeepsTotal asked (beside_of text') p
      → read_listing (output_of asked (beside_of text) p).listing ≡ read_listing (output_of asked (beside_of text') p).listing

-- "the old form is still read", and written, byte for byte as document 01 has it: each line a statement, and a line for each
pub record AsBefore (asked : Settings) (text : List ℕ) (p : Program) : Type 0 where
  pub reads : read_listing text ≡ read_lines old_form 0 0 (lines_of text)
  pub written : (output_of asked (beside_of text) p).listing ≡ each (λ s. line_of (frame_of s)) (output_program asked p)
