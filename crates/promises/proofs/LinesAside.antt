-- C-20: source lines alter no image, count or rewrite, and a listing of the old form is read and written as before there were any.
use mathlib.Core.Path.{◌≡◌, refl, sym, ◌∙◌, ap}
use mathlib.Core.List.{List, [], ◌∷◌, ◌++◌}
use mathlib.Core.Bool.{Bool, true, false, cond}
use Prim.Native.Nat.{ℕ}
use lib.ListN.{drop}
use Rattle.laws.specs.Lists.{each}
use Rattle.laws.proofs.Tests.{clash}
use Rattle.rules.specs.declared.Settings.{Settings}
use Rattle.rules.specs.Answers.{ok}
use Rattle.rules.specs.Programs.{Placeℕ, Program}
use Rattle.rules.specs.Listing.{Line, ListingForm, old_form, new_form, is_mark, form_in, statement_lines, lines_of, read_lines, read_listing, Beside, beside_of}
use Rattle.rules.specs.Judging.{judge}
use Rattle.rules.specs.Output.{line_of, frame_of, lines_in, lines_from, mark_of, text_of}
use Rattle.rules.specs.Run.{output_of, rewritten}
use Rattle.promises.specs.Demand2.{Input, LinesAside, AsBefore, output_program}
use Rattle.promises.proofs.ReadsBack.{reads_back}

-- lines-aside: of any two texts that read as one accepted program
pub lines_aside : (asked : Settings) (text text' : List ℕ) (p : Program) (image : List ℕ)
    → read_listing text ≡ ok p → read_listing text' ≡ ok p → judge p ≡ ok image → LinesAside asked text text' p
unfolding output_of
lines_aside asked text text' p image e e' j =
    let one : Input p = record { text = text; reads = e; image = image; assembles = j } in
    let other : Input p = record { text = text'; reads = e'; image = image; assembles = j } in
    record {
      stems = refl;
      count = refl;
      image = refl;
      statements = λ k k'. (reads_back asked p one).reads k ∙ sym ((reads_back asked p other).reads k');
    }

-- a text without the mark
no_mark : (ls : List Line) → form_in ls ≡ old_form → statement_lines ls ≡ ls
no_mark [] e = refl
no_mark (l ∷ ls) e = on (is_mark l) e
  where
    on : (b : Bool) → cond b new_form old_form ≡ old_form → cond b ls (l ∷ ls) ≡ l ∷ ls
    on true e = clash (ap size e)
      where
        size : ListingForm → ℕ
        size old_form = 1
        size new_form = 0
    on false e = refl

-- its lines are the statements' frames
old_lines : (ns : List ℕ) (p : Program) → lines_in old_form ns p ≡ each (λ s. line_of (frame_of s)) p
unfolding lines_in each
old_lines ns [] = refl
old_lines ns (s ∷ p) = rw (old_lines (drop 1 ns) p)

-- what is written in the old form
old_text : (b : Beside) (is : List Placeℕ) (p : Program) → b.form ≡ old_form → text_of b is p ≡ each (λ s. line_of (frame_of s)) p
unfolding text_of
old_text b is p e =
    ap (λ (w : ListingForm). mark_of w ++ lines_in w (lines_from b.lines is) p) e ∙ old_lines (lines_from b.lines is) p

-- as_before: a text whose first line is no mark
pub as_before : (asked : Settings) (text : List ℕ) (p : Program) → form_in (lines_of text) ≡ old_form → AsBefore asked text p
unfolding read_listing beside_of output_of rewritten output_program
as_before asked text p e = record {
  reads = ap (λ (w : ListingForm). read_lines w 0 0 (statement_lines (lines_of text))) e ∙ ap (read_lines old_form 0 0) (no_mark (lines_of text) e);
  written = old_text (beside_of text) (rewritten asked p).stems (output_program asked p) e;
}
