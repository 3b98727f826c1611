-- The kind of a statement as it was read is its frame's first byte.
use mathlib.Core.Path.{◌≡◌, sym, ap, ◌∙◌}
use mathlib.Core.List.{List}
use mathlib.Core.Bool.{true}
use Prim.Native.Nat.{ℕ}
use lib.ListN.{get_or}
use Rattle.rules.specs.Answers.{is_ok, judged_or}
use Rattle.rules.specs.Listing.{read_frame}
use Rattle.rules.specs.Programs.{Placeℕ, Stmt, gone, kind_of}
use Rattle.listing.specs.Tables.{frame_at, input_at}
use Rattle.slots.proofs.Frames.{Frame, of_instr, of_label, of_variable, of_comment, of_org, of_bytes, of_words, of_pad, frame_read, was_read}

by_frame : (i : ℕ) (s : List ℕ) (x : Stmt) → Frame i s x → kind_of x ≡ get_or s 0 0
by_frame i s x (of_instr f) = ap kind_of f.is ∙ sym f.kind
by_frame i s x (of_label f) = ap kind_of f.is ∙ sym f.kind
by_frame i s x (of_variable f) = ap kind_of f.is ∙ sym f.kind
by_frame i s x (of_comment f) = ap kind_of f.is ∙ sym f.kind
by_frame i s x (of_org f) = ap kind_of f.is ∙ sym f.kind
by_frame i s x (of_bytes f) = ap kind_of f.is ∙ sym f.kind
by_frame i s x (of_words f) = ap kind_of f.is ∙ sym f.kind
by_frame i s x (of_pad f) = ap kind_of f.is ∙ sym f.kind

pub kind_of_frame : (frames starts : List ℕ) (i : Placeℕ) → is_ok (read_frame i (frame_at frames starts i)) ≡ true
    → kind_of (input_at frames starts i) ≡ get_or (frame_at frames starts i) 0 0
unfolding input_at
kind_of_frame frames starts i h =
    let s : List ℕ = frame_at frames starts i in
    by_frame i s (judged_or (read_frame i s) gone) (frame_read i s _ (was_read (read_frame i s) h))
