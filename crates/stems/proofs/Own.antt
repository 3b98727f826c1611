-- C-13 under the optimizer's own list: no statement is added, every dropped one is removed, every changed one is a transfer.
use mathlib.Core.Path.{◌≡◌, refl, sym, ap, ap₂, ◌∙◌, subst}
use mathlib.Core.List.{List, [], ◌∷◌, map}
use mathlib.Core.Option.{some}
use mathlib.Core.Bool.{Bool, true, false, cond}
use Prim.Native.Nat.{ℕ, ◌+◌, ◌*◌, ◌/◌, ◌%◌, ◌<◌}
use native.Mathlib.Omega.{arith}
use lib.Dec.{leb}
use lib.ListN.{length, get_or, length-map, get_or-map}
use borrow.Author.Tests.{eq-eqb}
use Rattle.laws.specs.Lists.{each, total, same as alike}
use Rattle.laws.proofs.Tests.{true_false}
use Rattle.laws.proofs.Lists.{same_refl}
use Rattle.laws.proofs.Stores.{get_any}
use Rattle.rules.specs.declared.Settings.{Settings}
use Rattle.rules.specs.declared.Refusal.TheVariants.{Room}
use Rattle.rules.specs.Answers.{ok, require}
use Rattle.rules.specs.Programs.{Placeℕ, Stmt, gone, instr, label, variable, comment, org, bytes, words, pad, Program, at, is_gone}
use Rattle.rules.specs.Listing.{ListingForm, old_form, new_form, lines_of, form_in, read_listing, beside_of}
use Rattle.rules.specs.Rewriting.{anchor, instr_bytes, optimized}
use Rattle.rules.specs.Output.{write_back, spoken, shown, compact, stems, frame_of, with_line, frame_in, lines_from}
use Rattle.rules.specs.Run.{Output, output_of, rewritten}
use Rattle.promises.specs.Demand2.{Input, output_program, own, own_from, KeepsTotal}
use Rattle.promises.proofs.Listings.{read_made}
use Rattle.promises.proofs.ReadsBack.{reads_back, length_own, at_own}
use Rattle.promises.proofs.Anchors.{length_anchor}
use Rattle.promises.proofs.Chains.{chain_keeps}
use Rattle.promises.proofs.Weights.{step_length}
use Rattle.promises.proofs.Shows.{length_shown}
use Rattle.promises.proofs.WritesBack.{length_write_back}
use Rattle.promises.proofs.Ranks.{rank, at_rank, stems_rank}
use Rattle.output.specs.Stems.{list_of}
use Rattle.output.proofs.Left.{stems_many}
use Rattle.pairing.specs.Pairings.{Frames, frames_of, entries_of, pairs_from, good_entries}
use Rattle.pairing.proofs.Orders.{stems_order}
use Rattle.differences.specs.Changes.{Change, kept, removed, changed, paired, changes_of, text_of}
use Rattle.differences.specs.Differences.{of_both, text, after, same_form, read_second, compared, differences}
use Rattle.stems.specs.Own.{transfers, slots_at_end, own_changes, OfRun, OwnList, CommentsStay}
use Rattle.stems.proofs.Turned.{Turned, dropped, same, turned, slots_turned}
use Rattle.stems.proofs.Frames.{frames_with, frame_with, frames_many, listing_frames}
use Rattle.stems.proofs.SlotBySlot.{slot_changes, slot_by_slot, slots_many, slot_at}

-- ---- the list as bytes is read as it was written

list_reads : (is : List Placeℕ) → entries_of (list_of is) ≡ is
unfolding entries_of list_of each
list_reads [] = refl
list_reads (i ∷ is) = let z : i / 256 * 256 + i % 256 ≡ i = omega arith in ap₂ (λ (j : ℕ) (js : List ℕ). j ∷ js) z (list_reads is)

-- ---- what a frame says does not hang on whose target it carries

frame_own : (i : Placeℕ) (s : Stmt) → frame_of (own i s) ≡ frame_of s
unfolding frame_of
frame_own i gone = refl
frame_own i (instr f xs c) = refl
frame_own i (label n) = refl
frame_own i (variable n e) = refl
frame_own i (comment x) = refl
frame_own i (org l) = refl
frame_own i (bytes es) = refl
frame_own i (words es) = refl
frame_own i (pad add m) = refl

frame_in_own : (w : ListingForm) (n i : ℕ) (s : Stmt) → frame_in w n (own i s) ≡ frame_in w n s
frame_in_own old_form n i s = frame_own i s
frame_in_own new_form n i s = ap (with_line n) (frame_own i s)

form_same : (w : ListingForm) → same_form w w ≡ true
form_same old_form = refl
form_same new_form = refl

-- one slot for each statement of the input
end_length : (asked : Settings) (p : Program) → length (optimized asked p).program ≡ length p
unfolding optimized
end_length asked p = chain_keeps asked (λ q. length q ≡ length p) (λ r t st h. step_length r t st ∙ h) (total instr_bytes p) (anchor p) (length_anchor p)

all_stems : (q : Program) → length (stems q) ≡ length (compact q)
unfolding stems
all_stems q = stems_many 0 q

-- the source line of a statement of the output is that of the one it stems from
line_from : (ns : List ℕ) (is : List Placeℕ) (k : ℕ) → k < length is → get_or (lines_from ns is) k 0 ≡ get_or ns (get_or is k 0) 0
line_from ns is k l =
    get_any (lines_from ns is) k 0 (get_or ns 0 0) (rw (length-map is (λ (i : ℕ). get_or ns i 0)) l)
    ∙ get_or-map (λ (i : ℕ). get_or ns i 0) is k 0

-- ---- an accepted text whose output keeps the total limit, and so reads back

module _ (asked : Settings) (p : Program) (h : Input p) (within : KeepsTotal asked (beside_of h.text) p) where
  abbrev t : List ℕ
  t = h.text

  abbrev o : Output
  o = output_of asked (beside_of t) p

  abbrev w : ListingForm
  w = (beside_of t).form

  abbrev ns : List ℕ
  ns = (beside_of t).lines

  abbrev q : Program
  q = slots_at_end asked p

  abbrev a : Frames
  a = frames_of t

  abbrev b : Frames
  b = frames_of o.listing

  again : Program
  again = own_from 0 (compact q)

  stems_are : o.stems ≡ stems q
  unfolding output_of rewritten
  stems_are = refl

  reads_again : read_listing o.listing ≡ ok again
  unfolding output_program again
  reads_again = (reads_back asked p h).reads within

  first_frames : a ≡ frames_with w ns p
  first_frames = listing_frames t p h.reads

  stems_too : (rewritten asked p).stems ≡ stems q
  unfolding rewritten
  stems_too = refl

  second_frames : b ≡ frames_with w (lines_from ns (stems q)) again
  second_frames =
      let r = reads_back asked p h in
      listing_frames o.listing again reads_again
      ∙ ap₂ (λ (v : ListingForm) (ls : List ℕ). frames_with v ls again) r.form (r.lines ∙ ap (lines_from ns) stems_too)

  first_many : length a ≡ length p
  first_many = ap length first_frames ∙ frames_many w ns p

  again_many : length again ≡ length (compact q)
  unfolding again
  again_many = length_own 0 (compact q)

  second_many : length b ≡ length (compact q)
  second_many = ap length second_frames ∙ frames_many w (lines_from ns (stems q)) again ∙ again_many

  slots_many_are : length q ≡ length a
  slots_many_are =
      length_shown asked (write_back (optimized asked p).program) ∙ length_write_back (optimized asked p).program ∙ end_length asked p ∙ sym first_many

  -- ---- frame by frame

  first_at : (i : Placeℕ) → i < length p → get_or a i [] ≡ frame_in w (get_or ns i 0) (at p i)
  first_at i l = ap (λ (fs : Frames). get_or fs i []) first_frames ∙ frame_with w ns p i l

  again_at : (i : Placeℕ) → is_gone (at q i) ≡ false → at again (rank q i) ≡ own (rank q i) (at q i)
  unfolding again
  again_at i g =
      let z : 0 + rank q i ≡ rank q i = omega arith in
      at_own 0 (compact q) (rank q i) ∙ ap₂ own z (at_rank q i g)

  second_at : (i : Placeℕ) → is_gone (at q i) ≡ false → get_or b (rank q i) [] ≡ frame_in w (get_or ns i 0) (at q i)
  second_at i g =
      let k : Placeℕ = rank q i in
      let r = stems_rank q i 0 g in
      let inside : k < length again = omega (arith, r.0, again_many, all_stems q) in
      let line : get_or (lines_from ns (stems q)) k 0 ≡ get_or ns i 0 = line_from ns (stems q) k r.0 ∙ ap (λ (n : ℕ). get_or ns n 0) r.1 in
      ap (λ (fs : Frames). get_or fs k []) second_frames ∙ frame_with w (lines_from ns (stems q)) again k inside
      ∙ ap₂ (frame_in w) line (again_at i g) ∙ frame_in_own w (get_or ns i 0) k (at q i)

  -- ---- change by change

  changes_are : own_changes t o ≡ slot_changes a b 0 0 q
  changes_are = ap (λ (is : List ℕ). changes_of a b (pairs_from 0 is)) stems_are ∙ slot_by_slot a b q slots_many_are (sym second_many)

  one_each : length (own_changes t o) ≡ length p
  one_each = ap length changes_are ∙ slots_many a b 0 0 q ∙ slots_many_are ∙ first_many

  change_at : (i : Placeℕ) (d : Change) → i < length p
      → get_or (own_changes t o) i d ≡ cond (is_gone (at q i)) (removed i (get_or a i [])) (paired i (rank q i) (get_or a i []) (get_or b (rank q i) []))
  change_at i d l =
      let x : 0 + i ≡ i = omega arith in
      let y : 0 + rank q i ≡ rank q i = omega arith in
      ap (λ (ds : List Change). get_or ds i d) changes_are
      ∙ slot_at a b 0 0 q i d (omega (arith, slots_many_are, first_many))
      ∙ ap₂ (λ (k r : ℕ). cond (is_gone (at q i)) (removed k (get_or a k [])) (paired k r (get_or a k []) (get_or b r []))) x y

  dropped_removed : (i : Placeℕ) (d : Change) → i < length p → is_gone (at q i) ≡ true → get_or (own_changes t o) i d ≡ removed i (get_or a i [])
  dropped_removed i d l g =
      change_at i d l
      ∙ ap (λ (u : Bool). cond u (removed i (get_or a i [])) (paired i (rank q i) (get_or a i []) (get_or b (rank q i) []))) g

  -- of a slot that is not gone: kept, or a transfer
  pair_right : (i : Placeℕ) → i < length p → is_gone (at q i) ≡ false → OfRun p q (paired i (rank q i) (get_or a i []) (get_or b (rank q i) []))
  pair_right i l g = on (alike (get_or a i []) (get_or b (rank q i) [])) refl
    where
      on : (u : Bool) → alike (get_or a i []) (get_or b (rank q i) []) ≡ u
          → OfRun p q (cond u (kept i (rank q i) (get_or b (rank q i) [])) (changed i (rank q i) (get_or a i []) (get_or b (rank q i) [])))
      on true e = g
      on false e = by (slots_turned asked p (read_made t p h.reads) i)
        where
          by : Turned (at p i) (at q i) → (transfers (at p i) ≡ true) × (transfers (at q i) ≡ true)
          by (dropped z) = true_false (sym (ap is_gone z) ∙ g)
          by (same z) =
              let f : get_or a i [] ≡ get_or b (rank q i) [] = first_at i l ∙ ap (frame_in w (get_or ns i 0)) (sym z) ∙ sym (second_at i g) in
              true_false (sym (same_refl (get_or b (rank q i) [])) ∙ sym (ap (λ (s : List ℕ). alike s (get_or b (rank q i) [])) f) ∙ e)
          by (turned x y) = (x, y)

  each_right : (k : ℕ) (d : Change) → k < length (own_changes t o) → OfRun p q (get_or (own_changes t o) k d)
  each_right k d m = on (is_gone (at q k)) refl
    where
      l : k < length p
      l = omega (arith, m, one_each)

      on : (u : Bool) → is_gone (at q k) ≡ u → OfRun p q (get_or (own_changes t o) k d)
      on true g = subst (OfRun p q) (sym (dropped_removed k d l g)) g
      on false g =
          let e : get_or (own_changes t o) k d ≡ paired k (rank q k) (get_or a k []) (get_or b (rank q k) []) =
          change_at k d l
          ∙ ap (λ (u : Bool). cond u (removed k (get_or a k [])) (paired k (rank q k) (get_or a k []) (get_or b (rank q k) []))) g in
          subst (OfRun p q) (sym e) (pair_right k l g)

  -- ---- neither 1, nor 2, nor 13

  second_read : read_second t o.listing ≡ ok again
  unfolding read_second require beside_of
  second_read =
      let f : form_in (lines_of o.listing) ≡ form_in (lines_of t) = (reads_back asked p h).form in
      rw (f, form_same (form_in (lines_of t)), reads_again)

  abbrev written : List ℕ
  written = text_of (own_changes t o)

  list_good : good_entries (length a) (length b) o.stems ≡ length o.stems
  list_good =
      ap₂ (λ (n m : ℕ). good_entries n m o.stems) (sym slots_many_are) second_many
      ∙ ap (good_entries (length q) (length (compact q))) stems_are ∙ stems_order q ∙ ap length (sym stems_are)

  compared_so : (room : ℕ) → compared a b (some (list_of o.stems)) (length p) room ≡ require (leb (length written) room) (Room (length p)) (ok written)
  unfolding compared require
  compared_so room = rw (list_reads o.stems, list_good, eq-eqb (length o.stems) (length o.stems) refl)

  never_refused : (room : ℕ) → differences t o.listing (some (list_of o.stems)) room ≡ after of_both (require (leb (length written) room) (Room (length p)) (ok written)) text
  unfolding differences
  never_refused room = rw (h.reads, second_read, compared_so room)

  -- own-list: of every accepted text whose output reads back
  pub own_list : OwnList asked t p o
  own_list = record { never_refused = never_refused; each_right = each_right; one_each = one_each; dropped_removed = dropped_removed }

-- comments-stay: with comments asked for, none is removed
pub comments_stay : (asked : Settings) (p : Program) → CommentsStay asked p
unfolding shown
comments_stay asked p e = on (write_back (optimized asked p).program)
  where
    as_is : (s : Stmt) → spoken asked s ≡ s
    as_is gone = refl
    as_is (instr f xs c) = refl
    as_is (label n) = refl
    as_is (variable n d) = refl
    as_is (comment x) = rw e
    as_is (org l) = refl
    as_is (bytes es) = refl
    as_is (words es) = refl
    as_is (pad add m) = refl

    on : (q : Program) → map (spoken asked) q ≡ q
    on [] = refl
    on (s ∷ q) = ap₂ (λ (x : Stmt) (r : Program). x ∷ r) (as_is s) (on q)
