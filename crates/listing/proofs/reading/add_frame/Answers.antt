-- `add_frame` meets its contract: the frame is read where it was stored. Assumes nothing.
use mathlib.Core.Path.{◌≡◌, ap, ap₂, ◌∙◌}
use mathlib.Core.List.{List}
use Prim.Native.Nat.{ℕ, ◌-◌, ◌/◌}
use native.Mathlib.Omega.{arith}
use lib.ListN.{length, get_or}
use lib.Seq.{paste}
use Rattle.rules.specs.Listing.{unhex, ListingForm, line_bytes}
use Rattle.listing.specs.Form.{form_of, without}
use Rattle.listing.specs.Reading.{bytes_kept}
use Rattle.listing.proofs.DigitPairs.{length_unhex}
use Rattle.listing.proofs.Forms.{length_without}
use Rattle.listing.proofs.FramesKept.{bytes_there}
use Rattle.listing.proofs.reading.add_frame.Goals as goal

pub returns : goal.returns
returns c =
    let line = c.args.line.now in
    let w : ListingForm = form_of c.args.marked in
    let u : List ℕ = without (line_bytes w) (unhex line) in
    let at = get_or c.args.starts.now c.args.i 0 in
    let k : ℕ = bytes_kept w line in
    let is : c.from-start.result ≡ at = c.from-start.ensures in
    let b : c.line_bytes-b.result ≡ line_bytes w = c.line_bytes-b.ensures.0 in
    let stored : c.unhex_into.new.frames ≡ paste c.args.frames.now at u k =
    c.unhex_into.ensures ∙ ap₂ (λ (a m : ℕ). paste c.args.frames.now a (without m (unhex line)) (length line / 2 - m)) is b in
    let size : length u ≡ k = length_without (line_bytes w) (unhex line) (omega (arith, length_unhex line, c.requires.long))
    ∙ ap (λ (n : ℕ). n - line_bytes w) (length_unhex line) in
    let there = bytes_there c.args.frames.now u at k size (omega (arith, c.requires.fits, c.requires.frames_size)) in
    record { stored = record { bytes = stored; next = rw (is, b) }; read = λ i. c.frame_at.ensures i ∙ rw (is, b, stored, there) }
