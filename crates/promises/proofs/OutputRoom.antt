-- "The output never needs more frame bytes than the input", and the program itself never gives 12.
use mathlib.Core.Path.{◌≡◌, refl, ◌∙◌, ap}
use mathlib.Core.List.{List, [], ◌∷◌}
use Prim.Native.Nat.{ℕ, ◌+◌, ◌*◌, ◌≤◌, suc}
use native.Mathlib.Omega.{arith}
use lib.Dec.{leb}
use lib.ListN.{length, length-append, get_or, drop}
use borrow.Author.Tests.{le-leb}
use Rattle.laws.specs.Lists.{total, each}
use Rattle.laws.proofs.Tests.{false_true, and_both, both_ways}
use Rattle.rules.specs.declared.Settings.{Settings}
use Rattle.rules.specs.declared.Refusal.TheVariants.{Room}
use Rattle.rules.specs.Programs.{Program, Stmt, Instruction, on_instr, last_of, Placeℕ}
use Rattle.rules.specs.Rewriting.{anchor, instr_bytes, optimized, moving_of}
use Rattle.rules.specs.Output.{hex_byte, frame_of, line_of, text_of, write_back, compact, shown, with_line, frame_in, lines_in, mark_of, lines_from}
use Rattle.rules.specs.Run.{output_of, fits, listing_room_of_program, image_room_of_program, rewritten}
use Rattle.promises.specs.Demand1.{Cause, reading, naming, laying, defining, encoding, room}
use Rattle.promises.specs.Demand2.{Input, output_program, KeepsTotal}
use Rattle.promises.specs.Room.{frame_bytes, OutputRoom, NeverRoom, constant_at, constants, is_constant}
use mathlib.Core.Bool.{Bool, true, false, cond, ◌&&◌}
use Rattle.rules.specs.Names.{Placed, placed_from, placed, enter}
use Rattle.rules.specs.Layout.{after}
use Rattle.rules.proofs.Laws.{by_instr, other}
use Rattle.rules.specs.Forms.{is_transfer}
use Rattle.rules.specs.Listing.{lines_of, ListingForm, old_form, new_form, form_in, line_bytes, most_characters, Beside, beside_of}
use Rattle.promises.proofs.Shows.{length_shown}
use Rattle.promises.proofs.Weights.{step_length}
use Rattle.promises.proofs.Chains.{chain_keeps}
use Rattle.promises.proofs.Anchors.{length_anchor}
use Rattle.promises.proofs.RefusedOnce.{refused_once}
use Rattle.promises.proofs.Listings.{read_made, read_limits, read_whole, line_room}
use Rattle.promises.proofs.WritesBack.{length_write_back}
use Rattle.promises.proofs.Ranks.{length_compact}
use Rattle.promises.proofs.FrameRoom.{output_frames}
use Rattle.promises.proofs.ImageOfOutput.{image_of_output}
use Rattle.promises.proofs.ImageRoom.{image_room_holds}

-- two characters a byte, and a line feed
pub digits_length : (s : List ℕ) → length (each (λ b. hex_byte b) s) ≡ 2 * length s
unfolding each
digits_length [] = refl
digits_length (b ∷ s) = omega (arith, digits_length s)

line_length_lem : (s : List ℕ) → length (line_of s) ≡ 2 * length s + 1
unfolding line_of
line_length_lem s = length-append (each (λ b. hex_byte b) s) (10 ∷ []) ∙ ap (λ (n : ℕ). n + 1) (digits_length s)

-- of a statement's line in a listing of form w
frame_length : (w : ListingForm) (n : ℕ) (s : Stmt) → length (frame_in w n s) ≤ line_room w s
frame_length old_form n s = omega arith
frame_length new_form n s = on (frame_of s)
  where
    on : (f : List ℕ) → length (with_line n f) ≤ length f + 4
    on [] = omega arith
    on (k ∷ f) = omega arith

-- and of a text
lines_room : (w : ListingForm) (ns : List ℕ) (p : Program) → length (lines_in w ns p) ≤ 2 * total (line_room w) p + length p
unfolding lines_in total
lines_room w ns [] = omega arith
lines_room w ns (s ∷ p) =
    omega (arith, length-append (line_of (frame_in w (get_or ns 0 0) s)) (lines_in w (drop 1 ns) p), line_length_lem (frame_in w (get_or ns 0 0) s), frame_length w (get_or ns 0 0) s, lines_room w (drop 1 ns) p)

text_room : (b : Beside) (is : List Placeℕ) (p : Program) → length (text_of b is p) ≤ length (mark_of b.form) + (2 * total (line_room b.form) p + length p)
unfolding text_of
text_room b is p =
    omega (arith, length-append (mark_of b.form) (lines_in b.form (lines_from b.lines is) p), lines_room b.form (lines_from b.lines is) p)

-- the source lines of a program take four bytes each, or none
line_total : (w : ListingForm) (p : Program) → total (line_room w) p ≡ total frame_bytes p + line_bytes w * length p
unfolding total
line_total old_form [] = refl
line_total old_form (s ∷ p) = omega (arith, line_total old_form p)
line_total new_form [] = refl
line_total new_form (s ∷ p) = omega (arith, line_total new_form p)

lines_fewer : (w : ListingForm) (p q : Program) (n : ℕ) → total frame_bytes q ≤ total frame_bytes p + n → length q ≤ length p → total (line_room w) q ≤ total (line_room w) p + n
lines_fewer old_form p q n h k = omega (arith, line_total old_form p, line_total old_form q)
lines_fewer new_form p q n h k = omega (arith, line_total new_form p, line_total new_form q)

-- what either form may have
pub room_enough : (w : ListingForm) → length (mark_of w) + most_characters w ≤ 57349
unfolding line_of each
room_enough old_form = omega arith
room_enough new_form = omega arith

-- one slot for each statement of the input
end_length : (asked : Settings) (p : Program) → length (optimized asked p).program ≡ length p
unfolding optimized
end_length asked p = chain_keeps asked (λ q. length q ≡ length p) (λ r t st h. step_length r t st ∙ h) (total instr_bytes p) (anchor p) (length_anchor p)

-- one such transfer at most for each statement
on_one : (g : Instruction → ℕ) → ((y : Instruction) → g y ≤ 1) → (s : Stmt) → on_instr 0 g s ≤ 1
on_one g h = by_instr (λ s. on_instr 0 g s ≤ 1) (λ f xs c. h (record { form = f; args = xs; carried = c })) (λ s n. omega (arith, other 0 g s n))

constant_one : (p : Program) (x : Placed) → constant_at p x ≤ 1
constant_one p x = on_one _ (λ y. one (is_transfer y.form && is_constant (moving_of p) x.context (last_of y.args))) x.stmt
  where
    one : (b : Bool) → cond b 1 0 ≤ 1
    one true = omega arith
    one false = omega arith

constants_from : (p : Program) (i k q : ℕ) (l : Program) → total (constant_at p) (placed_from i k q l) ≤ length l
unfolding total placed_from
constants_from p i k q [] = omega arith
constants_from p i k q (s ∷ l) = omega (arith, constant_one p (record { place = i; context = enter k s; position = q; stmt = s }), constants_from p (suc i) (enter k s) (after q s) l)

constants_few : (p : Program) → constants p ≤ length p
unfolding constants placed
constants_few p = constants_from p 0 0 0 p

-- output-room: no more frame bytes, statements or text than the input, and both results fit in the program's rooms
pub output_room : (asked : Settings) (p : Program) (h : Input p) → OutputRoom asked h.text p
unfolding output_program
output_room asked p h =
    let left : Program = shown asked (write_back (optimized asked p).program) in
    let q : Program = compact left in
    let frames : total frame_bytes q ≤ total frame_bytes p + 2 * constants p = unfold output_program in output_frames asked p (read_made h.text p h.reads) in
    let limits = read_limits h.text p h.reads in
    let image = image_of_output asked p h in
    let fewer : length q ≤ length p = omega (arith, length_compact left, length_shown asked (write_back (optimized asked p).program), length_write_back (optimized asked p).program, end_length asked p) in
    let b : Beside = beside_of h.text in
    let w : ListingForm = form_in (lines_of h.text) in
    let lines = lines_fewer w p q (2 * constants p) frames fewer in
    let text : length (output_of asked b p).listing ≤ length (mark_of w) + (2 * total (line_room w) q + length q) = unfold output_of rewritten beside_of in text_room b (rewritten asked p).stems q in
    record {
      frames = frames;
      statements = fewer;
      as_text = omega (arith, text, lines, fewer, read_whole h.text p h.reads);
      listing = omega (arith, text, lines, fewer, limits.0, limits.1, constants_few p, room_enough w);
      image = rw image.handed_out (image_room_holds q image.image image.of_output);
    }

-- keeps-total: where no constant was a target the output keeps the total limit, as the input did
pub keeps_total : (asked : Settings) (p : Program) (h : Input p) → constants p ≡ 0 → KeepsTotal asked (beside_of h.text) p
unfolding beside_of
keeps_total asked p h e =
    let w : ListingForm = form_in (lines_of h.text) in
    let room = output_room asked p h in
    let limits = read_limits h.text p h.reads in
    omega (arith, lines_fewer w p (output_program asked p) (2 * constants p) room.frames room.statements, limits.1)

-- never-room: 12 never comes from the program
pub never_room : (asked : Settings) (text : List ℕ) → NeverRoom asked text
unfolding fits output_of
never_room asked text n e = on ((refused_once asked text listing_room_of_program image_room_of_program (Room n)).0 e)
  where
    on : Cause asked text listing_room_of_program image_room_of_program (Room n) → ⊥
    on (reading d x) = false_true x
    on (naming p d a x) = false_true x.number
    on (laying p d a b x) = false_true x.number
    on (defining p d a b c x) = false_true x.number
    on (encoding p names d a b c f x) = false_true x.number
    on (room p image d j f x) =
        let o = output_room asked p (record { text = text; reads = d; image = image; assembles = j }) in
        both_ways (fits listing_room_of_program image_room_of_program (output_of asked (beside_of text) p))
        (and_both (leb (length (output_of asked (beside_of text) p).listing) listing_room_of_program) (leb (length (rewritten asked p).image) image_room_of_program) (le-leb _ _ o.listing) (le-leb _ _ o.image)) f
