-- The room that is never short: 86,016 bytes for a text of C-16, 79,872 for one of the old form. 12 is not given there.
use mathlib.Core.Path.{◌≡◌, ◌∙◌}
use mathlib.Core.List.{List, [], ◌∷◌}
use Prim.Native.Nat.{ℕ, suc, ◌+◌, ◌*◌, ◌≤◌}
use native.Mathlib.Omega.{arith}
use lib.ListN.{length, length-append}
use Rattle.laws.specs.Lists.{total, each}
use Rattle.rules.specs.Answers.{ok}
use Rattle.rules.specs.Programs.{Placeℕ, Stmt, gone, instr, label, variable, comment, org, bytes, words, pad, Program, at}
use Rattle.rules.specs.Listing.{ListingForm, old_form, new_form, line_bytes, most_characters, lines_of, form_in, read_listing}
use Rattle.promises.specs.Room.{frame_bytes}
use Rattle.promises.proofs.Sounds.{SoundStmt}
use Rattle.promises.proofs.Listings.{line_room, read_made, read_limits}
use Rattle.text.proofs.Lengths.{Numbered, line_by_frame}
use Rattle.readable.specs.Readable.{line_of, text_of, readable}
use Rattle.readable.specs.Promise.{enough}
use Rattle.readable.proofs.Turns.{length_line}
use Rattle.readable.proofs.Judged.{all_fits, read_ok}

-- what can be read from a frame has its numbers in their fields
pub numbered : (s : Stmt) → SoundStmt s → Numbered s
numbered gone h = tt
numbered (instr f xs c) h = h.0
numbered (label n) h = tt
numbered (variable n e) h = tt
numbered (comment x) h = tt
numbered (org l) h = h
numbered (bytes es) h = tt
numbered (words es) h = tt
numbered (pad add m) h = (h.0, h.2)

text_by_frames : (p : Program) → ((i : Placeℕ) → Numbered (at p i)) → length (text_of p) ≤ 3 * total frame_bytes p + 6 * length p
unfolding text_of each total
text_by_frames [] h = omega arith
text_by_frames (s ∷ p) h =
    omega (arith, length-append (line_of s) (text_of p), length_line s, line_by_frame s (h 0), text_by_frames p (λ i. h (suc i)))

total_room : (w : ListingForm) (p : Program) → total (line_room w) p ≡ total frame_bytes p + line_bytes w * length p
unfolding total
total_room old_form [] = omega arith
total_room new_form [] = omega arith
total_room old_form (s ∷ p) = omega (arith, total_room old_form p)
total_room new_form (s ∷ p) = omega (arith, total_room new_form p)

by_limits : (w : ListingForm) (n room : ℕ) → n ≤ 1024 → 2 * (room + line_bytes w * n) ≤ most_characters w → 3 * room + 6 * n ≤ enough w
by_limits old_form n room h k = omega arith
by_limits new_form n room h k = omega arith

pub never_short : (listing : List ℕ) (p : Program) → read_listing listing ≡ ok p → length (text_of p) ≤ enough (form_in (lines_of listing))
never_short listing p e =
    let w : ListingForm = form_in (lines_of listing) in
    let l = read_limits listing p e in
    let t = text_by_frames p (λ i. numbered (at p i) ((read_made listing p e).sound i)) in
    let r = total_room w p in
    omega (arith, t, by_limits w (length p) (total frame_bytes p) l.0 (omega (arith, l.1, r)))

-- what is accepted as a listing is then written, whatever it holds
pub not_refused : (listing : List ℕ) (p : Program) (room : ℕ) → read_listing listing ≡ ok p → 86016 ≤ room
    → readable listing room ≡ ok (text_of p)
not_refused listing p room e h =
    read_ok listing p room e ∙ all_fits p room (omega (arith, h, never_short listing p e, enough_most (form_in (lines_of listing))))
  where
    enough_most : (w : ListingForm) → enough w ≤ 86016
    enough_most old_form = omega arith
    enough_most new_form = omega arith
