-- The two images walk alike under the map.
use mathlib.Core.Path.{◌≡◌, refl, sym, ◌∙◌, ap, subst}
use mathlib.Core.Logic.{inl, inr}
use mathlib.Core.List.{List, [], ◌∷◌, ◌++◌}
use mathlib.Core.Bool.{Bool, true, false, cond}
use Prim.Native.Nat.{ℕ, zero, suc, ◌<◌}
use native.Mathlib.Omega.{arith}
use lib.ListN.{length, get_or}
use borrow.Author.Tests.{not-true}
use Rattle.laws.specs.Lists.{every}
use Rattle.laws.proofs.Tests.{false_true}
use Rattle.rules.specs.declared.Settings.{Settings}
use Rattle.rules.specs.Answers.{Judged, ok, judged_or}
use Rattle.rules.specs.Programs.{Placeℕ, Operand, register, value, inner, Stmt, gone, is_gone, instr, label, variable, comment, org, bytes, words, pad, Program, at, byte_count}
use Rattle.rules.specs.Layout.{position}
use Rattle.rules.specs.Names.{context_at}
use Rattle.rules.specs.Judging.{judge, worth_of, names_of}
use Rattle.rules.specs.Rewriting.{moving_of, insignificant, acceptable, optimized}
use Rattle.rules.specs.Output.{write_back, compact, stems}
use Rattle.rules.specs.Run.{rewritten}
use Rattle.promises.specs.Demand2.{Input, output_program}
use Rattle.promises.proofs.Acceptable.{acceptable_parts, end_acceptable}
use Rattle.promises.proofs.Compacts.{plain_stmt, judge_compact}
use Rattle.promises.proofs.Listings.{WellMade, read_made}
use Rattle.promises.proofs.Passes.{Passes, judge_passes, assembles_image}
use Rattle.promises.proofs.Ranks.{rank, at_rank, position_rank, stems_rank}
use Rattle.promises.proofs.Shows.{by_spoken, at_shown, judge_shown, shown_plain, write_back_shown}
use Rattle.promises.proofs.SoundEnd.{written_sound}
use Rattle.promises.proofs.Sounds.{SoundStmt}
use Rattle.promises.proofs.WritesBack.{judge_write_back, write_back_plain, inner_end}
use Rattle.decoding.proofs.Tables.{shaped}
use Rattle.walk.proofs.Links.{position_zero}
use Rattle.endings.specs.Endings.{Open, report}
use Rattle.endings.proofs.WalksOn.{input_walks_on}
use Rattle.paths.specs.Walk.{Oracle, Ending, going, off_the_end, in_data, inside, leaves, computed, clouded, unreturned, no_address, Walk, is_code, holds_none, walk, start_at, meets}
use Rattle.paths.specs.SamePath.{itself, Agrees, Alike, Starts, at_zero, at_kept}
use Rattle.walk.specs.SameWalk.{stem_of}
use Rattle.paths.proofs.Runs.{run_same}
use Rattle.paths.proofs.Compacts.{meets_rank}
use Rattle.paths.proofs.Shapes.{shape_names, shape_context}
use Rattle.paths.proofs.Outputs.{shape_written}
use Rattle.paths.proofs.Resolves.{worth_kept}
use Rattle.paths.proofs.SamePaths.{end, ends, same_path}
use Rattle.decoded.proofs.Images.{decodes}
use Rattle.mapwalk.specs.Stands.{Stand, image_walk, Among, SameImages}
use Rattle.mapwalk.specs.Maps.{stand_at, stands_up, stands_of, in_slots}
use Rattle.mapwalk.proofs.Tells.{tell_ending, tell_walk, tell_oracle, image_tells}

-- an instruction and data have bytes
solid_stmt : (q : ℕ) (s : Stmt) → SoundStmt s → is_code s ≡ true → 0 < byte_count q s
solid_stmt q gone h e = false_true e
solid_stmt q (instr f xs c) h e = omega (arith, (shaped f h.0).some)
solid_stmt q (label n) h e = false_true e
solid_stmt q (variable n d) h e = false_true e
solid_stmt q (comment x) h e = false_true e
solid_stmt q (org l) h e = false_true e
solid_stmt q (bytes es) h e = omega (arith, h.0)
solid_stmt q (words es) h e = omega (arith, h.0)
solid_stmt q (pad add m) h e = false_true e

-- and are left where they stand
pub code_kept : (s : Stmt) → is_code s ≡ true → (is_gone s ≡ false) × (insignificant s ≡ false)
code_kept gone e = false_true e
code_kept (instr f xs c) e = (refl, refl)
code_kept (label n) e = false_true e
code_kept (variable n d) e = false_true e
code_kept (comment x) e = false_true e
code_kept (org l) e = false_true e
code_kept (bytes es) e = (refl, refl)
code_kept (words es) e = (refl, refl)
code_kept (pad add m) e = false_true e

-- a row is that of a place
among_up : (base p : Program) (i n : ℕ) (x : Stand) → Among x (stands_up base p i n) → (b : Placeℕ) × (is_code (at p b) ≡ true) × (x ≡ stand_at base p b)
unfolding stands_up
among_up base p i zero x h = absurd h
among_up base p i (suc n) x h = split (is_code (at p i)) refl h (among_up base p (suc i) n x)
  where
    split : (t : Bool) → is_code (at p i) ≡ t → Among x (cond t (stand_at base p i ∷ []) [] ++ stands_up base p (suc i) n)
        → (Among x (stands_up base p (suc i) n) → (b : Placeℕ) × (is_code (at p b) ≡ true) × (x ≡ stand_at base p b)) → (b : Placeℕ) × (is_code (at p b) ≡ true) × (x ≡ stand_at base p b)
    split false e h below = below h
    split true e (inl z) below = (i, e, z)
    split true e (inr z) below = below z

agrees_told : (base : Program) (w' w : Walk) → Agrees w' w → Agrees (tell_walk base w') (tell_walk base w)
agrees_told base w' w k =
    record {
      met = ap (λ l. (tell_walk base (record { met = l; ending = w.ending })).met) k.met;
      stops = λ h. ap (tell_ending base) (k.stops (λ i e. h (position base i) (ap (tell_ending base) e)));
    }

-- two families of walks that are told of two that are alike
alike_told : (base : Program) (long short : Oracle → ℕ → Walk) (long' short' : Oracle → ℕ → Walk)
    → ((o : Oracle) (n : ℕ) → long' o n ≡ tell_walk base (long (tell_oracle base o) n)) → ((o : Oracle) (n : ℕ) → short' o n ≡ tell_walk base (short (tell_oracle base o) n))
    → Alike long short → Alike long' short'
alike_told base long short long' short' l s a =
    record {
      forth = λ o n.
          let k = a.forth (tell_oracle base o) n in
          record {
            steps = k.steps;
            no_larger = k.no_larger;
            agrees = subst (λ (x : Walk). Agrees x (long' o n)) (sym (s o k.steps))
                (subst (λ (x : Walk). Agrees (tell_walk base (short (tell_oracle base o) k.steps)) x) (sym (l o n)) (agrees_told base _ _ k.agrees));
          };
      back = λ o n.
          let k = a.back (tell_oracle base o) n in
          record { steps = k.steps; no_fewer = k.no_fewer; same = s o n ∙ ap (tell_walk base) k.same ∙ sym (l o k.steps) };
    }

alike_as : (long short short' : Oracle → ℕ → Walk) → ((o : Oracle) (n : ℕ) → short o n ≡ short' o n) → Alike long short → Alike long short'
alike_as long short short' e a =
    record {
      forth = λ o n. let k = a.forth o n in record { steps = k.steps; no_larger = k.no_larger; agrees = subst (λ (x : Walk). Agrees x (long o n)) (e o k.steps) k.agrees };
      back = λ o n. let k = a.back o n in record { steps = k.steps; no_fewer = k.no_fewer; same = sym (e o n) ∙ k.same };
    }

module _ (asked : Settings) (p : Program) (in_p : Input p) where
  -- ---- the output in its slots
  abbrev e : Program
  e = (optimized asked p).program

  abbrev q : Program
  q = in_slots asked p

  made : WellMade p
  made = read_made in_p.text p in_p.reads

  good : acceptable e ≡ true
  good = end_acceptable asked p made in_p.image in_p.assembles

  assembled : (image : List ℕ) × (judge e ≡ ok image)
  assembled = assembles_image e (acceptable_parts e good).1

  short_judged : judge q ≡ ok assembled.0
  short_judged = judge_shown asked (write_back e) ∙ judge_write_back e ∙ assembled.1

  plainly : every plain_stmt q ≡ true
  plainly = shown_plain asked (write_back e) (write_back_plain e (inner_end asked p made))

  image_is : (rewritten asked p).image ≡ assembled.0
  unfolding rewritten judged_or
  image_is = ap (λ (j : Judged (List ℕ)). judged_or j []) (judge_compact q assembled.0 plainly short_judged)

  sound_q : (j : Placeℕ) → SoundStmt (at q j)
  sound_q j =
      rw (at_shown asked (write_back e) j)
      (by_spoken (λ s t. SoundStmt s → SoundStmt t) asked (λ s h. h) (λ x h. tt) (at (write_back e) j) (written_sound asked p made good j).sound)

  passes_p : Passes p in_p.image
  passes_p = judge_passes p in_p.image in_p.assembles

  passes_q : Passes q assembled.0
  passes_q = judge_passes q assembled.0 short_judged

  -- ---- what holds no label is worth what it is worth in the input
  as_end : write_back (end asked p in_p) ≡ q
  as_end = write_back_shown asked e

  names_q : names_of q ≡ names_of (end asked p in_p)
  names_q = ap names_of (sym as_end) ∙ shape_names (shape_written (ends asked p in_p))

  context_q : (d : Placeℕ) → context_at q d ≡ context_at p d
  context_q d = ap (λ (r : Program). context_at r d) (sym as_end) ∙ shape_context (shape_written (ends asked p in_p)) d ∙ (ends asked p in_p).contexts d

  worths_q : (d : Placeℕ) (x : Operand) → holds_none (moving_of p) (context_at p d) x ≡ true → worth_of (names_of q) q (context_at q d) x ≡ worth_of (names_of p) p (context_at p d) x
  worths_q d (register r) z = refl
  worths_q d (value y) z = rw (names_q, context_q d) (worth_kept (ends asked p in_p) (context_at p d) y (not-true _ z))
  worths_q d (inner i o) z = false_true z

  -- ---- the output walks as it does in its slots
  short_walk : (a : ℕ) (o : Oracle) (n : ℕ) → walk o (stem_of asked p) n (output_program asked p) a ≡ walk o itself n q a
  unfolding walk output_program rewritten
  short_walk a o n = run_same (meets o (stem_of asked p) (compact q)) (meets o itself q) (meets_rank q passes_q plainly o) n (start_at a)

  row_start : (b : Placeℕ) → is_code (at q b) ≡ true → Starts p (output_program asked p) (stem_of asked p) (position p b) (position q b)
  unfolding output_program rewritten
  row_start b c =
      let k = code_kept (at q b) c in
      let x : Starts p (compact q) (λ i. get_or (stems q) i 0) (position p (get_or (stems q) (rank q b) 0)) (position (compact q) (rank q b)) =
      at_kept (rank q b) (ap insignificant (at_rank q b k.0) ∙ k.1) in
      rw ((stems_rank q b 0 k.0).1, position_rank q b k.0) at x

  long_told : (a : ℕ) (o : Oracle) (n : ℕ) → image_walk o n (stands_of p p) in_p.image a ≡ tell_walk p (walk (tell_oracle p o) itself n p a)
  long_told a o n =
      image_tells p p in_p.image (decodes p in_p.image in_p.assembles made.sound) (record { worths = λ d l x z. refl }) o passes_p.laid
      (λ j c. solid_stmt (position p j) (at p j) (made.sound j) c) n a

  short_told : (a : ℕ) (o : Oracle) (n : ℕ) → image_walk o n (stands_of p q) assembled.0 a ≡ tell_walk p (walk (tell_oracle p o) itself n q a)
  short_told a o n =
      image_tells p q assembled.0 (decodes q assembled.0 short_judged sound_q) (record { worths = λ d l x z. worths_q d x z }) o passes_q.laid
      (λ j c. solid_stmt (position q j) (at q j) (sound_q j) c) n a

  alike : (a b : ℕ) → Starts p (output_program asked p) (stem_of asked p) a b
      → Alike (λ o n. image_walk o n (stands_of p p) in_p.image a) (λ o n. image_walk o n (stands_of p q) (rewritten asked p).image b)
  alike a b s =
      rw image_is
      (alike_told p (λ o n. walk o itself n p a) (λ o n. walk o itself n q b) _ _ (long_told a) (short_told b)
      (alike_as _ _ _ (short_walk b) ((same_path asked p in_p).alike a b s)))

  -- same-images: the image that is handed out walks as the input's, by the map alone
  pub same_images : SameImages (stands_of p p) (stands_of p q) in_p.image (rewritten asked p).image
  unfolding stands_of
  same_images =
      record {
        from_zero = alike 0 0 at_zero;
        from_row = λ x h. let r = among_up p q 0 (length q) x h in rw r.2 (alike (position p r.0) (position q r.0) (row_start r.0 r.1));
      }

  -- ---- a program of which the report lists nothing
  open_told : (x : Ending) → Open x → Open (tell_ending p x)
  open_told (going i) h = tt
  open_told off_the_end h = tt
  open_told (in_data i) h = absurd h
  open_told (inside i n) h = absurd h
  open_told (leaves i xs) h = absurd h
  open_told (computed k x) h = absurd h
  open_told (clouded i) h = absurd h
  open_told unreturned h = absurd h
  open_told no_address h = absurd h

  -- images-walk-on: both images walk out of the code or go on for ever
  pub images_walk_on : report p ≡ [] → (o : Oracle) (n : ℕ) → Open (image_walk o n (stands_of p p) in_p.image 0).ending × Open (image_walk o n (stands_of p q) (rewritten asked p).image 0).ending
  images_walk_on h o n = let k = same_images.from_zero.back o n in (long n, subst (λ (w : Walk). Open w.ending) (sym k.same) (long k.steps))
    where
      long : (m : ℕ) → Open (image_walk o m (stands_of p p) in_p.image 0).ending
      long m =
          subst (λ (w : Walk). Open w.ending) (sym (long_told 0 o m))
          (open_told (walk (tell_oracle p o) itself m p 0).ending
          (subst (λ (a : ℕ). Open (walk (tell_oracle p o) itself m p a).ending) (position_zero p) (input_walks_on p in_p h (tell_oracle p o) 0 m)))
