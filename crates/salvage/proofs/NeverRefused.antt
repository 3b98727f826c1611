-- "The output is never refused 1 or 2."
use mathlib.Core.Path.{◌≡◌, refl, ap, ap₂, ◌∙◌}
use mathlib.Core.List.{List, [], ◌∷◌, ◌++◌}
use mathlib.Core.Bool.{Bool, true, false, cond}
use Prim.Native.Nat.{ℕ, suc, ◌+◌}
use lib.ListN.{length}
use Rattle.laws.specs.Lists.{each, same}
use Rattle.rules.specs.Answers.{ok}
use Rattle.rules.specs.Programs.{Program}
use Rattle.rules.specs.Listing.{Line, lines_of, ListingForm, old_form, new_form, is_mark, form_in, statement_lines, read_lines, read_listing}
use Rattle.rules.specs.Output.{line_of, mark_of}
use Rattle.promises.proofs.RoundTrip.{AllBytes}
use Rattle.lines.specs.Alone.{by_itself, standing, told}
use Rattle.lines.proofs.Comments.{Good}
use Rattle.salvage.specs.Salvage.{Salvaged, left_off, in_front, keeps_limits, salvage_from, salvaged}
use Rattle.salvage.specs.Promise.{Reads}
use Rattle.salvage.proofs.Feedless.{AllLines, lines_bytes}
use Rattle.salvage.proofs.Goods.{in_front_lem, standing_good, good_text, good_unmarked}

-- ---- line by line
record From (w : ListingForm) (i sum : ℕ) (x : Salvaged) : Type 0 where
  program : Program
  reads : read_lines w i sum (lines_of x.listing) ≡ ok program
  count : length program ≡ x.count

nothing_reads : (w : ListingForm) (i sum : ℕ) → read_lines w i sum (lines_of []) ≡ ok []
unfolding read_lines lines_of
nothing_reads w i sum = refl

from_reads : (w : ListingForm) (i sum : ℕ) (ls : List Line) → AllLines ls → From w i sum (salvage_from w i sum ls)
unfolding salvage_from
from_reads w i sum [] h = record { program = []; reads = nothing_reads w i sum; count = refl }
from_reads w i sum (l ∷ ls) h =
    let n : ℕ = length (standing w l) in
    on (keeps_limits w i sum n) refl (standing_good w l h.0) (from_reads w (suc i) (sum + n) ls h.1)
  where
    on : (b : Bool) → keeps_limits w i sum (length (standing w l)) ≡ b → Good w (record { chars = standing w l; ended = true })
        → From w (suc i) (sum + length (standing w l)) (salvage_from w (suc i) (sum + length (standing w l)) ls)
        → From w i sum (cond b (in_front (standing w l) (told i (by_itself w l)) (salvage_from w (suc i) (sum + length (standing w l)) ls))
        (left_off i))
    on true k g below =
        let rest : List ℕ = (salvage_from w (suc i) (sum + length (standing w l)) ls).listing in
        let s = in_front_lem w i sum (record { chars = standing w l; ended = true }) g k (lines_of rest) below.program below.reads in
        record {
          program = s.0 ∷ below.program;
          reads = ap (read_lines w i sum) (good_text w (standing w l) rest g) ∙ s.1;
          count = ap suc below.count;
        }
    on false k g below = record { program = []; reads = nothing_reads w i sum; count = refl }

-- ---- the form of what comes out
record Formed (w : ListingForm) (t : List ℕ) : Type 0 where
  form : form_in (lines_of (mark_of w ++ t)) ≡ w
  lines : statement_lines (lines_of (mark_of w ++ t)) ≡ lines_of t

marked : (t : List ℕ) → Formed new_form t
unfolding lines_of line_of each same
marked t = record { form = refl; lines = refl }

abbrev Plain : List Line → Type 0
Plain ks = (form_in ks ≡ old_form) × (statement_lines ks ≡ ks)

no_lines : Plain (lines_of [])
unfolding lines_of
no_lines = (refl, refl)

old_first : (ls : List Line) → AllLines ls → Plain (lines_of (salvage_from old_form 0 0 ls).listing)
unfolding salvage_from
old_first [] h = no_lines
old_first (l ∷ ls) h = on (keeps_limits old_form 0 0 (length (standing old_form l))) (standing_good old_form l h.0)
  where
    rest : Salvaged
    rest = salvage_from old_form 1 (0 + length (standing old_form l)) ls

    plain : (k : Line) (ks : List Line) → is_mark k ≡ false → Plain (k ∷ ks)
    plain k ks e = (rw e, rw e)

    on : (b : Bool) → Good old_form (record { chars = standing old_form l; ended = true })
        → Plain (lines_of (cond b (in_front (standing old_form l) (told 0 (by_itself old_form l)) rest) (left_off 0)).listing)
    on true g =
        rw (good_text old_form (standing old_form l) rest.listing g)
        (plain _ (lines_of rest.listing) (good_unmarked (standing old_form l) g))
    on false g = no_lines

formed : (w : ListingForm) (ls : List Line) → AllLines ls → Formed w (salvage_from w 0 0 ls).listing
formed old_form ls h = let p = old_first ls h in record { form = p.0; lines = p.1 }
formed new_form ls h = marked (salvage_from new_form 0 0 ls).listing

-- ---- the whole
statements_bytes : (ls : List Line) → AllLines ls → AllLines (statement_lines ls)
statements_bytes [] h = tt
statements_bytes (l ∷ ls) h = on (is_mark l)
  where
    on : (b : Bool) → AllLines (cond b ls (l ∷ ls))
    on true = h.1
    on false = h

pub never_refused : (text : List ℕ) → AllBytes text → Reads text
unfolding read_listing salvaged
never_refused text h =
    let w : ListingForm = form_in (lines_of text) in
    let ls : List Line = statement_lines (lines_of text) in
    let b = statements_bytes (lines_of text) (lines_bytes text h) in
    let r = from_reads w 0 0 ls b in
    let f = formed w ls b in
    record {
      program = r.program;
      reads = ap₂ (λ (v : ListingForm) (ks : List Line). read_lines v 0 0 ks) f.form f.lines ∙ r.reads;
      count = r.count;
      form = f.form;
    }
