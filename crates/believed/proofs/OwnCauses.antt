-- own-cause: a run, and assembling alone, is refused with r exactly when r has the cause of its number. So no other number has one.
use mathlib.Core.Path.{◌≡◌, refl, sym, ◌∙◌, ap, subst}
use mathlib.Core.Logic.{◌↔◌, ◌⊎◌, inl, inr, ⊎_elim}
use mathlib.Core.List.{List, []}
use mathlib.Core.Bool.{true, ◌&&◌}
use Prim.Native.Nat.{ℕ, ◌<◌}
use lib.Dec.{leb}
use lib.IntN.{ℤ}
use lib.ListN.{length}
use borrow.Author.Tests.{leb-false, lt-leb}
use Rattle.rules.specs.declared.Unvalued.TheVariants.{Unknown, Nothing}
use Rattle.rules.specs.declared.Unvalued.{Unvalued}
use Rattle.std.specs.Prelude.{Result, Err, Ok}
use Rattle.laws.proofs.Tests.{clash, and_false, first_false, second_false}
use Rattle.rules.specs.declared.Kind.TheVariants.{Rel8, A12}
use Rattle.rules.specs.declared.Refusal.{Refusal}
use Rattle.rules.specs.declared.Refusal.TheVariants.{Broken, Limit, Again, NoName, Back, Beyond, NoValue, Room}
use Rattle.rules.specs.declared.Settings.{Settings}
use Rattle.rules.specs.Settings.{by_default}
use Rattle.rules.specs.Answers.{at_place, Judged, ok, no, ◌>>=◌, ◌>>◌, require, is_ok}
use Rattle.rules.specs.Expressions.{Expr, eval_tree}
use Rattle.rules.specs.Programs.{Placeℕ, Stmt, gone, instr, label, variable, comment, org, bytes, words, pad, Program, at, Naming, unnamed, labels, binds, naming_of}
use Rattle.rules.specs.Layout.{position}
use Rattle.rules.specs.Listing.{Line, lines_of, read_listing, read_frame_in, ListingForm, form_in, statement_lines, beside_of}
use Rattle.rules.specs.Names.{key_of, Entry, placed, context_at}
use Rattle.rules.specs.Judging.{value_at, worth, no_name_twice, positions_fit, define_in, define_all, encode_all, judge}
use Rattle.rules.specs.Run.{Output, output_of, fits, run, assembled}
use Rattle.promises.specs.Demand1.{Cause, reading, naming, laying, defining, encoding, room}
use Rattle.promises.specs.Faults.{line_at, define_at}
use Rattle.promises.proofs.RefusedOnce.{refused_once}
use Rattle.believed.specs.Causes.{part_at, ComesToLine, ComesToPosition, ComesToVariable, ComesToPart, frame_at, is_within, is_pairs, Reaches33, BreaksForm, bad_line, bad_frame, PassesLimit, in_line, in_frame, amongst, names_above, ComesToExpr, of_variable, of_argument, of_item, OutOfRange, argument_out, item_out, OwnCause, of_1, of_2, of_3, of_4, of_5, of_6, of_7, of_8, of_9, of_10, of_11, of_12, RunShort, ImageShort, ByNumber}
use Rattle.believed.proofs.Refusals.{lines_refuse, names_refuse, positions_refuse, variables_refuse, statements_refuse}
use Rattle.believed.proofs.Parts.{parts_of, parts_refuse, argument_below, item_below}
use Rattle.believed.proofs.LongFrames.{frame_refuses, reaches_refuses, broken_only}
use Rattle.believed.proofs.Expressions.{unknown, nothing, not_found, node_without, entries_valued}
use Rattle.believed.proofs.Rows.{require_no, name_row, row_name, settle_row, row_back, row_beyond}
use Rattle.believed.proofs.PartRows.{part_row, row_8, row_9, row_10, row_11, row_argument, row_item}

-- ---- from the refusal of a pass to the row
module _ (text : List ℕ) (Short : Program → List ℕ → Type 0) (r : Refusal) where
  given_by : (s : Refusal) → r ≡ s → OwnCause text Short s → OwnCause text Short r
  given_by s e h = subst (OwnCause text Short) (sym e) h

  abbrev form : ListingForm
  form = form_in (lines_of text)

  abbrev lines : List Line
  lines = statement_lines (lines_of text)

  -- 1 and 2
  line_row : (i : Placeℕ) → ComesToLine text i → line_at form lines i ≡ no r → OwnCause text Short r
  line_row i c e =
      ⊎_elim (λ h. given_by (Limit (at_place i)) h.1 (of_2 i c (in_line h.0))) (λ h.
      ⊎_elim (λ k. given_by (Broken (at_place i)) k.1 (of_1 i c (bad_line h.0 k.0))) (λ k. on h.0 k.0 k.1 (frame_refuses i form (frame_at text i) r k.1))
      (require_no (is_pairs text i) (Broken (at_place i)) _ r h.1))
      (require_no (is_within text i) (Limit (at_place i)) _ r e)
    where
      on : is_within text i ≡ true → is_pairs text i ≡ true → read_frame_in form i (frame_at text i) ≡ no r
          → (r ≡ Broken (at_place i)) ⊎ ((r ≡ Limit (at_place i)) × Reaches33 form (frame_at text i)) → OwnCause text Short r
      on w d f (inl h) =
          given_by (Broken (at_place i)) h
          (of_1 i c (bad_frame w d (ap is_ok f ∙ unfold is_ok in refl) (λ x. let z = reaches_refuses i form (frame_at text i) x in clash (cc))))
      on w d f (inr h) = given_by (Limit (at_place i)) h.0 (of_2 i c (in_frame w d h.1))

  -- 4 and 7 of a variable
  variable_valued : (p : Program) (i : Placeℕ) → ComesToVariable text p i → (n : ℕ) (t : Expr) → at p i ≡ variable n t → (o : Result ℤ Unvalued)
      → eval_tree (amongst (names_above p i) p i) t ≡ o
      → {B : Type 0} (f : ℤ → B) → value_at i o >>= (λ z. ok (f z)) ≡ no r → OwnCause text Short r
  unfolding ◌>>=◌
  variable_valued p i c n t d (Ok v) w f h = clash (cc)
  variable_valued p i c n t d (Err Unknown) w f h =
      given_by (NoName (at_place i)) (cc) (of_4 p i (amongst (names_above p i) p i) t (of_variable n t c d) (unknown (amongst (names_above p i) p i) t w))
  variable_valued p i c n t d (Err Nothing) w f h =
      given_by (NoValue (at_place i)) (cc)
      (of_7 p i (amongst (names_above p i) p i) t (of_variable n t c d) (nothing (amongst (names_above p i) p i) (entries_valued (names_above p i) (key_of (context_at p i))) t w))

  variable_row : (p : Program) (i : Placeℕ) → ComesToVariable text p i → define_at p i ≡ no r → OwnCause text Short r
  variable_row p i c e = on (naming_of (at p i)) refl e
    where
      binds_variable : (s : Stmt) (n : ℕ) (t : Expr) → naming_of s ≡ binds n t → s ≡ variable n t
      binds_variable gone n t e = clash (cc)
      binds_variable (instr f xs k) n t e = clash (cc)
      binds_variable (label m) n t e = clash (cc)
      binds_variable (variable m u) n t e = cc
      binds_variable (comment x) n t e = clash (cc)
      binds_variable (org l) n t e = clash (cc)
      binds_variable (bytes es) n t e = clash (cc)
      binds_variable (words es) n t e = clash (cc)
      binds_variable (pad add m) n t e = clash (cc)

      on : (x : Naming) → naming_of (at p i) ≡ x → define_in (names_above p i) i (context_at p i) (position p i) x ≡ no r
          → OwnCause text Short r
      on unnamed d h = clash (cc)
      on (labels n) d h = clash (cc)
      on (binds n t) d h = variable_valued p i c n t (binds_variable (at p i) n t d) (worth (names_above p i) (context_at p i) t) refl _ h

  -- by the pass, and in it by the first place; of 12 it is left to be said
  from_cause : (asked : Settings) (listing_room image_room : ℕ)
      → ((p : Program) (image : List ℕ) → read_listing text ≡ ok p → judge p ≡ ok image → r ≡ Room (length p) → OwnCause text Short r)
      → Cause asked text listing_room image_room r → OwnCause text Short r
  from_cause asked listing_room image_room last (reading d x) =
      let f = (lines_refuse text r).0 d in
      line_row f.place (record { within = f.within; lines = f.earlier }) f.refused
  from_cause asked listing_room image_room last (naming p d a x) =
      let f = (names_refuse p r).0 a in
      let h = name_row p f.place r f.refused in
      given_by (Again (at_place f.place)) h.0 (of_3 p f.place (record { reads = d; within = f.within; names = f.earlier }) h.1)
  from_cause asked listing_room image_room last (laying p d a b x) =
      let f = (positions_refuse p r).0 b in
      let c : ComesToPosition text p f.place = record { reads = d; once = a; within = f.within; positions = f.earlier } in
      ⊎_elim (λ h. given_by (Back (at_place f.place)) h.0 (of_5 p f.place c h.1)) (λ h. given_by (Beyond (at_place f.place)) h.0 (of_6 p f.place c h.1))
      (settle_row p f.place r f.refused)
  from_cause asked listing_room image_room last (defining p d a b e x) =
      let f = (variables_refuse p r).0 e in
      variable_row p f.place (record { reads = d; once = a; laid = b; within = f.within; variables = f.earlier }) f.refused
  from_cause asked listing_room image_room last (encoding p names d a b e g x) =
      let f = (statements_refuse p r names).0 g in
      let h = (parts_refuse names p f.place r).0 f.refused in
      part_row text Short p names f.place h.place
      (record { reads = d; once = a; laid = b; defined = e; within = f.within; statements = f.earlier; parts = h.earlier }) r h.refused
  from_cause asked listing_room image_room last (room p image d j f x) = last p image d j x

-- ---- and back: a row refuses its pass, and the pass the whole
module _ (p : Program) (r : Refusal) where
  by_naming : no_name_twice [] (placed p) ≡ no r → judge p ≡ no r
  unfolding judge ◌>>◌
  by_naming e = rw e

  by_laying : no_name_twice [] (placed p) ≡ ok tt → positions_fit (placed p) ≡ no r → judge p ≡ no r
  unfolding judge ◌>>◌
  by_laying a e = rw (a, ◌>>◌, e)

  by_defining : no_name_twice [] (placed p) ≡ ok tt → positions_fit (placed p) ≡ ok tt → define_all [] (placed p) ≡ no r → judge p ≡ no r
  unfolding judge ◌>>◌ ◌>>=◌
  by_defining a b e = rw (a, ◌>>◌, b, ◌>>◌, e)

  by_encoding : (names : List Entry) → no_name_twice [] (placed p) ≡ ok tt → positions_fit (placed p) ≡ ok tt
      → define_all [] (placed p) ≡ ok names → encode_all names p (placed p) ≡ no r
      → judge p ≡ no r
  unfolding judge ◌>>◌ ◌>>=◌
  by_encoding names a b d e = rw (a, ◌>>◌, b, ◌>>◌, d, ◌>>=◌) e

-- an argument or item that is refused
part_refused : (text : List ℕ) (p : Program) (names : List Entry) (i j : ℕ) (r : Refusal) → ComesToPart text p names i j
    → j < parts_of (at p i) → part_at names p i j ≡ no r → judge p ≡ no r
part_refused text p names i j r c l e =
    by_encoding p r names c.once c.laid c.defined
    ((statements_refuse p r names).1 (record { place = i; within = c.within; refused = (parts_refuse names p i r).1 (record { place = j; within = l; refused = e; earlier = c.parts }); earlier = c.statements }))

-- an expression that has no value
expr_refused : (text : List ℕ) (p : Program) (i : Placeℕ) (o : Result ℤ Unvalued) (r : Refusal) → value_at i o ≡ no r
    → {env : ℕ → Result ℤ Unvalued} {e : Expr} → ComesToExpr text p i env e → eval_tree env e ≡ o
    → (read_listing text ≡ ok p) × (judge p ≡ no r)
unfolding ◌>>=◌
expr_refused text p i o r d (of_variable n e c s) w =
    (c.reads, by_defining p r c.once c.laid ((variables_refuse p r).1 (record { place = i; within = c.within; refused = rw (s, w, d); earlier = c.variables })))
expr_refused text p i o r d (of_argument names j k e c a) w =
    (c.reads, part_refused text p names i j r c (argument_below p i j k _ a) (row_argument p names i j o r d k e a w))
expr_refused text p i o r d (of_item names j bound e c a) w =
    (c.reads, part_refused text p names i j r c (item_below p i j bound e a) (row_item p names i j o r d bound e a w))

range_below : (p : Program) (names : List Entry) (i j : ℕ) (v : ℤ) → OutOfRange names p i j v → j < parts_of (at p i)
range_below p names i j v (argument_out d x bound a w b h) = argument_below p i j d x a
range_below p names i j v (item_out bound e a w h) = item_below p i j bound e a

-- a row of 1 to 11: the text is not read, or what is read does not assemble
data Refused (text : List ℕ) (r : Refusal) : Type 0 where
  unread : read_listing text ≡ no r → Refused text r
  unjudged : (p : Program) → read_listing text ≡ ok p → judge p ≡ no r → Refused text r

breaks_line : (text : List ℕ) (i : Placeℕ) → BreaksForm text i
    → line_at (form_in (lines_of text)) (statement_lines (lines_of text)) i ≡ no (Broken (at_place i))
unfolding require
breaks_line text i (bad_line w d) = rw (w, d)
breaks_line text i (bad_frame w d e n) = rw (w, d) (broken_only i (form_in (lines_of text)) (frame_at text i) e n)

passes_line : (text : List ℕ) (i : Placeℕ) → PassesLimit text i
    → line_at (form_in (lines_of text)) (statement_lines (lines_of text)) i ≡ no (Limit (at_place i))
unfolding require
passes_line text i (in_line w) = rw w
passes_line text i (in_frame w d h) = rw (w, d) (reaches_refuses i (form_in (lines_of text)) (frame_at text i) h)

-- ---- a whole: the text is read, judged, and what assembles is handed to `rest`, which refuses only what is too short
module _ {B : Type 0} (text : List ℕ) (rest : Program → List ℕ → Judged B) (Short : Program → List ℕ → Type 0)
    (short : (p : Program) (image : List ℕ) (r : Refusal) → rest p image ≡ no r ↔ ((r ≡ Room (length p)) × Short p image)) where
  abbrev whole : Judged B
  whole = read_listing text >>= (λ p. judge p >>= rest p)

  module _ (r : Refusal) where
    refused_whole : Refused text r → whole ≡ no r
    unfolding ◌>>=◌
    refused_whole (unread e) = rw e
    refused_whole (unjudged p d e) = rw (d, ◌>>=◌, e)

    short_whole : (p : Program) (image : List ℕ) → read_listing text ≡ ok p → judge p ≡ ok image → rest p image ≡ no r → whole ≡ no r
    unfolding ◌>>=◌
    short_whole p image d j e = rw (d, ◌>>=◌, j) e

    -- reading's and judging's refusals are those of any run
    first_assembly : (p : Program) → read_listing text ≡ ok p → judge p ≡ no r → run by_default text 0 0 ≡ no r
    unfolding run ◌>>=◌ ◌>>◌
    first_assembly p d e = rw (d, ◌>>=◌, e)

    not_read : read_listing text ≡ no r → run by_default text 0 0 ≡ no r
    unfolding run ◌>>=◌
    not_read e = rw e

    by_run : ((p : Program) (image : List ℕ) → read_listing text ≡ ok p → judge p ≡ ok image → r ≡ Room (length p) → OwnCause text Short r)
        → run by_default text 0 0 ≡ no r → OwnCause text Short r
    by_run last e = from_cause text Short r by_default 0 0 last ((refused_once by_default text 0 0 r).0 e)

    whole_cause : whole ≡ no r → OwnCause text Short r
    whole_cause e = of_text (read_listing text) refl e
      where
        of_program : (p : Program) → read_listing text ≡ ok p → (x : Judged (List ℕ)) → judge p ≡ x → x >>= rest p ≡ no r
            → OwnCause text Short r
        of_program p d (ok image) j h =
            let k = (short p image r).0 (unfold ◌>>=◌ in h) in
            given_by text Short r (Room (length p)) k.0 (of_12 p image d j k.1)
        of_program p d (no s) j h =
            let g : judge p ≡ no r = j ∙ ap no (unfold ◌>>=◌ in cc) in
            by_run (λ q image a b z. clash (cc)) (first_assembly p d g)

        of_text : (x : Judged Program) → read_listing text ≡ x → x >>= (λ p. judge p >>= rest p) ≡ no r → OwnCause text Short r
        of_text (ok p) d h = of_program p d (judge p) refl (unfold ◌>>=◌ in h)
        of_text (no s) d h =
            let g : read_listing text ≡ no r = d ∙ ap no (unfold ◌>>=◌ in cc) in
            by_run (λ q image a b z. clash (cc)) (not_read g)

  -- a row refuses the whole
  cause_whole : {r : Refusal} → OwnCause text Short r → whole ≡ no r
  cause_whole (of_1 i c h) =
      refused_whole (Broken (at_place i)) (unread ((lines_refuse text (Broken (at_place i))).1 (record { place = i; within = c.within; refused = breaks_line text i h; earlier = c.lines })))
  cause_whole (of_2 i c h) =
      refused_whole (Limit (at_place i)) (unread ((lines_refuse text (Limit (at_place i))).1 (record { place = i; within = c.within; refused = passes_line text i h; earlier = c.lines })))
  cause_whole (of_3 p i c h) =
      refused_whole (Again (at_place i))
      (unjudged p c.reads (by_naming p (Again (at_place i)) ((names_refuse p (Again (at_place i))).1 (record { place = i; within = c.within; refused = row_name p i c.within h; earlier = c.names }))))
  cause_whole (of_4 p i env e c h) =
      let k = expr_refused text p i (Err Unknown) (NoName (at_place i)) refl c (not_found env h) in
      refused_whole (NoName (at_place i)) (unjudged p k.0 k.1)
  cause_whole (of_5 p i c h) =
      refused_whole (Back (at_place i))
      (unjudged p c.reads (by_laying p (Back (at_place i)) c.once ((positions_refuse p (Back (at_place i))).1 (record { place = i; within = c.within; refused = row_back p i h; earlier = c.positions }))))
  cause_whole (of_6 p i c h) =
      refused_whole (Beyond (at_place i))
      (unjudged p c.reads (by_laying p (Beyond (at_place i)) c.once ((positions_refuse p (Beyond (at_place i))).1 (record { place = i; within = c.within; refused = row_beyond p i h; earlier = c.positions }))))
  cause_whole (of_7 p i env e c h) =
      let k = expr_refused text p i (Err Nothing) (NoValue (at_place i)) refl c (node_without env h) in
      refused_whole (NoValue (at_place i)) (unjudged p k.0 k.1)
  cause_whole (of_8 p names i j v c h) =
      refused_whole _ (unjudged p c.reads (part_refused text p names i j _ c (range_below p names i j v h) (row_8 p names i j v h)))
  cause_whole (of_9 p names i j v c h) =
      refused_whole _ (unjudged p c.reads (part_refused text p names i j _ c (argument_below p i j h.kind h.operand h.argument) (row_9 p names i j v h)))
  cause_whole (of_10 p names i j v c h) =
      refused_whole _ (unjudged p c.reads (part_refused text p names i j _ c (argument_below p i j Rel8 h.operand h.argument) (row_10 p names i j v h)))
  cause_whole (of_11 p names i j v c h) =
      refused_whole _ (unjudged p c.reads (part_refused text p names i j _ c (argument_below p i j A12 h.operand h.argument) (row_11 p names i j v h)))
  cause_whole (of_12 p image d j h) = short_whole (Room (length p)) p image d j ((short p image (Room (length p))).1 (refl, h))

  -- exactly when, and so no other
  whole_iff : (r : Refusal) → whole ≡ no r ↔ OwnCause text Short r
  whole_iff r = (whole_cause r, cause_whole)

  whole_number : (r : Refusal) → whole ≡ no r → ByNumber text Short r
  whole_number r e =
      record {
        own = whole_cause r e;
        no_other = λ s c. let z : no s ≡ no r = sym (cause_whole c) ∙ e in cc;
      }

-- ---- a run
module _ (asked : Settings) (text : List ℕ) (listing_room image_room : ℕ) where
  abbrev finish : Program → List ℕ → Judged Output
  finish p image =
      require (fits listing_room image_room (output_of asked (beside_of text) p)) (Room (length p)) (ok (output_of asked (beside_of text) p))

  run_short : (p : Program) (image : List ℕ) (r : Refusal)
      → finish p image ≡ no r ↔ ((r ≡ Room (length p)) × RunShort asked text listing_room image_room p image)
  unfolding fits require
  run_short p image r = (
    λ e. ⊎_elim (λ h. (h.1, ⊎_elim (λ a. inl (leb-false l listing_room a)) (λ a. inr (leb-false m image_room a)) (and_false (leb l listing_room) (leb m image_room) h.0))) (λ h. clash (cc h.1))
        (require_no (leb l listing_room && leb m image_room) (Room (length p)) (ok o) r e),
    λ h. ⊎_elim (λ a. rw (first_false (leb l listing_room) (leb m image_room) (lt-leb l listing_room a)) (ap no (sym h.0)))
        (λ a. rw (second_false (leb l listing_room) (leb m image_room) (lt-leb m image_room a)) (ap no (sym h.0))) h.1,
  )
    where
      o : Output
      o = output_of asked (beside_of text) p

      l : ℕ
      l = length o.listing

      m : ℕ
      m = length o.image

  run_is : run asked text listing_room image_room ≡ read_listing text >>= (λ p. judge p >>= finish p)
  unfolding run
  run_is = on (read_listing text)
    where
      next : (p : Program) (x : Judged (List ℕ)) → x >> finish p [] ≡ x >>= finish p
      next p (ok image) = unfold ◌>>◌ ◌>>=◌ in refl
      next p (no s) = unfold ◌>>◌ ◌>>=◌ in refl

      on : (x : Judged Program) → x >>= (λ p. judge p >> finish p []) ≡ x >>= (λ p. judge p >>= finish p)
      on (ok p) = unfold ◌>>=◌ in next p (judge p)
      on (no s) = unfold ◌>>=◌ in refl

  -- own-cause: a run is refused with r exactly when r has the cause of its number
  pub own_cause : (r : Refusal)
      → run asked text listing_room image_room ≡ no r ↔ OwnCause text (RunShort asked text listing_room image_room) r
  own_cause r =
      let w = whole_iff text finish (RunShort asked text listing_room image_room) run_short r in
      (λ e. w.0 (sym run_is ∙ e), λ c. run_is ∙ w.1 c)

  -- by_number: its own and no other
  pub by_number : (r : Refusal) → run asked text listing_room image_room ≡ no r
      → ByNumber text (RunShort asked text listing_room image_room) r
  by_number r e = whole_number text finish (RunShort asked text listing_room image_room) run_short r (sym run_is ∙ e)

-- ---- assembling alone
module _ (text : List ℕ) (image_room : ℕ) where
  abbrev keep : Program → List ℕ → Judged (List ℕ)
  keep p image = require (leb (length image) image_room) (Room (length p)) (ok image)

  assembly_short : (p : Program) (image : List ℕ) (r : Refusal)
      → keep p image ≡ no r ↔ ((r ≡ Room (length p)) × ImageShort image_room p image)
  unfolding require
  assembly_short p image r = (
    λ e. ⊎_elim (λ h. (h.1, leb-false (length image) image_room h.0)) (λ h. clash (cc h.1)) (require_no (leb (length image) image_room) (Room (length p)) (ok image) r e),
    λ h. rw (lt-leb (length image) image_room h.1) (ap no (sym h.0)),
  )

  -- the same of assembling
  pub assembly_cause : (r : Refusal) → assembled text image_room ≡ no r ↔ OwnCause text (ImageShort image_room) r
  unfolding assembled
  assembly_cause r = whole_iff text keep (ImageShort image_room) assembly_short r

  pub assembly_number : (r : Refusal) → assembled text image_room ≡ no r → ByNumber text (ImageShort image_room) r
  unfolding assembled
  assembly_number r e = whole_number text keep (ImageShort image_room) assembly_short r e
