-- The listing that is handed out keeps the listing rules, reads as the output's statements, and assembles to the image that is handed out: the output
-- is an accepted input again.
use mathlib.Core.Path.{◌≡◌, refl, sym, ◌∙◌, ap, ap₂}
use mathlib.Core.List.{List, [], ◌∷◌, map}
use mathlib.Core.Bool.{Bool, true, false, cond}
use Prim.Native.Nat.{zero, suc, ◌+◌, ◌*◌, ◌≤◌, ℕ}
use native.Mathlib.Omega.{arith}
use lib.Dec.{leb}
use lib.ListN.{length, length-append, length-map, get_or}
use borrow.Author.Tests.{leb-true}
use Rattle.laws.specs.Lists.{every, each}
use Rattle.laws.specs.Counts.{all_to}
use Rattle.laws.proofs.Lists.{every_any}
use Rattle.laws.proofs.Counts.{all_at}
use Rattle.rules.specs.declared.Settings.{Settings}
use Rattle.rules.specs.Answers.{ok}
use Rattle.rules.specs.Forms.{form_at, operands_at}
use Rattle.rules.specs.Programs.{Placeℕ, Operand, register, value, inner, Stmt, gone, instr, label, variable, comment, org, bytes, words, Program, at, as_name, pad, is_gone}
use Rattle.rules.specs.Listing.{read_listing, Line, unhex, read_lines, ListingForm, source_line, Beside, beside_of, lines_of, form_in, statement_lines}
use Rattle.rules.specs.Judging.{judge, encode, names_of}
use Rattle.rules.specs.Rewriting.{optimized}
use Rattle.rules.specs.Output.{operand_bytes, frame_of, write_back, compact, shown, lines_from, stems_from, stems, lines_in, text_of}
use Rattle.rules.specs.Run.{output_of, rewritten}
use Rattle.promises.specs.Demand2.{Input, output_program, own, own_from, ReadsBack, KeepsTotal}
use Rattle.promises.specs.Room.{frame_bytes}
use Rattle.rules.proofs.Laws.{by_change}
use Rattle.rules.specs.Names.{Entry, context_from}
use Rattle.promises.proofs.Shows.{by_spoken, at_shown, shown_plain}
use Rattle.promises.proofs.Sounds.{shapes, Sound, Sounds}
use Rattle.promises.proofs.Listings.{read_made, read_limits, LineFits, zero_fits, read_sources}
use Rattle.promises.proofs.Compacts.{plain_stmt, View, is_gone_lem, is_live, view, compact_live}
use Rattle.promises.proofs.Alike.{Alike, judge_alike}
use Rattle.promises.proofs.Positions.{SameRoom, AllSameRoom, room_same, position_same}
use Rattle.promises.proofs.Retargets.{Kept, positions_kept, same_alike}
use Rattle.promises.proofs.Acceptable.{end_acceptable}
use Rattle.promises.proofs.WritesBack.{inner_end, write_back_plain}
use Rattle.promises.proofs.ImageOfOutput.{image_of_output}
use Rattle.promises.proofs.OutputRoom.{output_room}
use Rattle.promises.proofs.SoundEnd.{Kept-sound, written_sound}
use Rattle.promises.proofs.TextBack.{AllWritable, text_back, sources_back, Formed, form_back}

-- ---- a frame has 120 bytes at most: an instruction has three operands at most, of 32 bytes
few_operands : all_to (λ f. leb (length (operands_at f)) 3) 70 ≡ true
unfolding all_to form_at
few_operands = refl

operand_short : (b : Bool) (x : Operand) → Sound b x → length (operand_bytes x) ≤ 32
operand_short true (register r) s = omega arith
operand_short true (value e) s = absurd s
operand_short true (inner i o) s = absurd s
operand_short false (register r) s = absurd s
operand_short false (value e) s = s.1
operand_short false (inner i o) s = omega arith

operands_short : (bs : List Bool) (xs : List Operand) → Sounds bs xs → length (each (λ x. operand_bytes x) xs) ≤ 32 * length bs
unfolding each
operands_short [] [] s = omega arith
operands_short [] (x ∷ xs) s = absurd s
operands_short (b ∷ bs) [] s = absurd s
operands_short (b ∷ bs) (x ∷ xs) s =
    omega (arith, operand_short b x s.0, operands_short bs xs s.1, length-append (operand_bytes x) (each (λ x. operand_bytes x) xs))

frame_short : (s : Stmt) → Kept-sound s → frame_bytes s ≤ 120
unfolding frame_of
frame_short gone k = omega arith
frame_short (instr f xs c) k =
    let few = leb-true (length (operands_at f)) 3 (all_at (λ f. leb (length (operands_at f)) 3) f 70 k.sound.0 few_operands) in
    let wide = operands_short (shapes f) xs k.sound.1 in
    let n : length (shapes f) ≡ length (operands_at f) = length-map (operands_at f) _ in
    omega arith
frame_short (label n) k = leb-true (frame_bytes (label n)) 120 k.short
frame_short (variable n e) k = leb-true (frame_bytes (variable n e)) 120 k.short
frame_short (comment x) k = leb-true (frame_bytes (comment x)) 120 k.short
frame_short (org l) k = leb-true (frame_bytes (org l)) 120 k.short
frame_short (bytes es) k = leb-true (frame_bytes (bytes es)) 120 k.short
frame_short (words es) k = leb-true (frame_bytes (words es)) 120 k.short
frame_short (pad add m) k = leb-true (frame_bytes (pad add m)) 120 k.short

-- ---- what is left can be written
shown_sound : (asked : Settings) (p : Program) → ((i : Placeℕ) → Kept-sound (at p i)) → (i : Placeℕ) → Kept-sound (at (shown asked p) i)
unfolding frame_of
shown_sound asked p k i = rw (at_shown asked p i) (by_spoken (λ s t. Kept-sound s → Kept-sound t) asked (λ s h. h) (λ x h. record { sound = tt; short = refl }) (at p i) (k i))

compact_writable : (p : Program) → ((i : Placeℕ) → Kept-sound (at p i)) → ((i : Placeℕ) → plain_stmt (at p i) ≡ true) → AllWritable (compact p)
unfolding compact
compact_writable [] k h = tt
compact_writable (s ∷ p) k h = on (view s) (k 0) (h 0) (compact_writable p (λ i. k (suc i)) (λ i. h (suc i)))
  where
    on : {s : Stmt} → View s → Kept-sound s → plain_stmt s ≡ true → AllWritable (compact p) → AllWritable (compact (s ∷ p))
    on is_gone_lem k h below = below
    on {s} (is_live l) k h below = rw (compact_live s p l) (record { sound = k.sound; plain = h; live = l; short = frame_short s k }, below)

-- ---- an instruction's own place is not seen by judging
own_alike : (p p' : Program) → Kept p p' → (names : List Entry) (k : ℕ) (i : Placeℕ) (s : Stmt) → Alike names p p' k s (own i s)
unfolding as_name encode
own_alike p p' kept names k i s =
    by_change (Alike names p p' k) (λ x. instr x.form x.args i)
    (λ f xs c. let a = same_alike p p' kept names k (instr f xs c) in
    record {
      goes_on = a.goes_on;
      enters = a.enters;
      called = a.called;
      settled = a.settled;
      defined = a.defined;
      encoded = a.encoded;
      laid = a.laid;
    })
    (λ s n. same_alike p p' kept names k s) s

own_room : (i : Placeℕ) (s : Stmt) → SameRoom s (own i s)
own_room i s = by_change SameRoom (λ x. instr x.form x.args i) (λ f xs c. record { goes_on = λ q. refl; as_big = λ q. refl }) (λ s n. room_same s) s

-- as many statements
pub length_own : (i : Placeℕ) (p : Program) → length (own_from i p) ≡ length p
unfolding own_from
length_own i [] = refl
length_own i (s ∷ p) = ap suc (length_own (suc i) p)

pub at_own : (i : Placeℕ) (p : Program) (j : Placeℕ) → at (own_from i p) j ≡ own (i + j) (at p j)
unfolding own_from
at_own i [] j = refl
at_own i (s ∷ p) zero = let z : i + 0 ≡ i = omega arith in rw z
at_own i (s ∷ p) (suc j) = let z : i + suc j ≡ suc i + j = omega arith in rw z (at_own (suc i) p j)

pub own_same : (p : Program) → AllSameRoom p (own_from 0 p)
own_same p = (length_own 0 p, λ i. rw (at_own 0 p i) (own_room (0 + i) (at p i)))

judge_own : (p : Program) → judge (own_from 0 p) ≡ judge p
judge_own p =
    let kept : Kept p (own_from 0 p) = positions_kept p (own_from 0 p) (position_same p (own_from 0 p) (own_same p)) in
    judge_alike p (own_from 0 p) (length_own 0 p, λ i h. rw (at_own 0 p i) (own_alike p (own_from 0 p) kept (names_of p) (context_from 0 p i) (0 + i) (at p i)))

-- the source lines of places fit, if those of the input do
lines_fit : (w : ListingForm) (ls : List ℕ) → ((i : Placeℕ) → LineFits w (get_or ls i 0)) → (is : List Placeℕ) (j : ℕ) → LineFits w (get_or (lines_from ls is) j 0)
lines_fit w ls h [] j = zero_fits w
lines_fit w ls h (i ∷ is) zero = h i
lines_fit w ls h (i ∷ is) (suc j) = lines_fit w ls h is j

stems_length : (i : Placeℕ) (p : Program) → length (stems_from i p) ≡ length (compact p)
unfolding stems_from compact
stems_length i [] = refl
stems_length i (s ∷ p) = on (is_gone s) (stems_length (suc i) p)
  where
    on : (b : Bool) → length (stems_from (suc i) p) ≡ length (compact p) → length (cond b (stems_from (suc i) p) (i ∷ stems_from (suc i) p)) ≡ length (cond b (compact p) (s ∷ compact p))
    on true e = e
    on false e = ap suc e

-- what is handed out, beside what a text says
module _ (asked : Settings) (p : Program) (h : Input p) where
  abbrev left : Program
  left = shown asked (write_back (optimized asked p).program)

  writable : AllWritable (compact left)
  writable =
      let w = read_made h.text p h.reads in
      let e : Program = (optimized asked p).program in
      let plain = shown_plain asked (write_back e) (write_back_plain e (inner_end asked p w)) in
      compact_writable left (shown_sound asked (write_back e) (written_sound asked p w (end_acceptable asked p w h.image h.assembles))) (λ i. every_any plain_stmt left i gone (unfold every in refl) plain)

  abbrev beside : Beside
  beside = beside_of h.text

  lines_good : (j : ℕ) → LineFits beside.form (get_or (lines_from beside.lines (stems left)) j 0)
  lines_good = lines_fit beside.form beside.lines (read_sources h.text p h.reads) (stems left)

  formed : Formed beside (stems left) (compact left)
  formed = form_back beside.form beside.lines (stems left) (compact left) writable lines_good

-- what is read beside a text, by its form and its lines
beside_back : (text : List ℕ) (w : ListingForm) (ls : List Line) (ns : List ℕ) → form_in (lines_of text) ≡ w → statement_lines (lines_of text) ≡ ls
    → map (λ l. source_line w (unhex l.chars)) ls ≡ ns → ((beside_of text).form ≡ w) × ((beside_of text).lines ≡ ns)
unfolding beside_of
beside_back text w ls ns f l e = (f, ap₂ (λ (w : ListingForm) (ls : List Line). map (λ l. source_line w (unhex l.chars)) ls) f l ∙ e)

-- reads-back: the output's listing reads as the output's statements, with the source lines of the input, and assembles to the image that is handed out
pub reads_back : (asked : Settings) (p : Program) (h : Input p) → ReadsBack asked (beside_of h.text) p
unfolding output_program output_of rewritten read_listing stems
reads_back asked p h =
    let q : Program = compact (left asked p h) in
    let b : Beside = beside_of h.text in
    let ns : List ℕ = lines_from b.lines (stems (left asked p h)) in
    let room = output_room asked p h in
    let limits = read_limits h.text p h.reads in
    let image = image_of_output asked p h in
    let f = formed asked p h in
    let many : length ns ≡ length q = length-map (stems (left asked p h)) _ ∙ stems_length 0 (left asked p h) in
    let back = beside_back (text_of b (stems (left asked p h)) q) b.form (lines_of (lines_in b.form ns q)) ns f.form f.lines (sources_back b.form ns q (writable asked p h) (lines_good asked p h) many) in
    record {
      reads = λ l. ap₂ (λ (w : ListingForm) (ls : List Line). read_lines w 0 0 ls) f.form f.lines
          ∙ text_back b.form 0 0 ns q (writable asked p h) (lines_good asked p h) (omega (arith, room.statements, limits.0)) (omega (arith, l));
      form = back.0;
      lines = back.1;
      assembles = judge_own q ∙ image.of_output ∙ ap ok (sym image.handed_out);
    }

-- the output is an accepted input again, if it keeps the total limit
pub output_again : (asked : Settings) (p : Program) (h : Input p) → KeepsTotal asked (beside_of h.text) p → Input (own_from 0 (output_program asked p))
output_again asked p h l =
    let b = reads_back asked p h in
    record { text = (output_of asked (beside_of h.text) p).listing; reads = b.reads l; image = (rewritten asked p).image; assembles = b.assembles }
