-- "Assembling any accepted result gives the same bytes from that start on."
use mathlib.Core.Path.{◌≡◌, refl, ◌∙◌, ap}
use mathlib.Core.List.{List, [], ◌∷◌}
use mathlib.Core.Bool.{Bool, true, false, cond}
use Prim.Native.Nat.{ℕ, ◌-◌, ◌<◌, ◌≤◌}
use native.Mathlib.Omega.{arith}
use lib.Dec.{leb, eqb}
use lib.ListN.{length, drop, length-drop, drop_of_length-le}
use borrow.Author.Tests.{leb-true, leb-false, le-leb, eqb-true}
use Rattle.laws.specs.Lists.{total, every, each}
use Rattle.rules.proofs.Laws.{next_ok, require_ok}
use Rattle.rules.specs.Answers.{ok, check_each, require, ◌>>=◌, ◌>>◌}
use Rattle.rules.specs.Programs.{org, Program, as_name}
use Rattle.rules.specs.Listing.{lines_of, read_lines, statement_lines, read_listing, old_form, beside_of}
use Rattle.rules.specs.Layout.{gap}
use Rattle.rules.specs.Names.{placed_from, placed}
use Rattle.rules.specs.Judging.{no_name_twice, positions_fit, define_all, encode, encode_all, judge}
use Rattle.rules.specs.Output.{frame_of, text_of}
use Rattle.promises.specs.Demand2.{own_from}
use Rattle.promises.specs.Room.{frame_bytes}
use Rattle.promises.proofs.RoundTrip.{AllBytes}
use Rattle.promises.proofs.TextBack.{Writable, AllWritable, text_back, form_back}
use Rattle.promises.proofs.Listings.{line_room}
use Rattle.decoding.proofs.Bytes.{bytes_drop}
use Rattle.readback.specs.ReadBack.{read_all, statements_of, listing_of, keeps_limits, read_back}
use Rattle.readback.specs.Promise.{SameBytes}
use Rattle.readback.proofs.All.{Good, from_good}
use Rattle.readback.proofs.Short.{AllShort, from_short, short_total, limits_say}

-- ---- judging: from 0 on, and behind an org

gap_none : (s : List ℕ) → gap 0 s ≡ s
gap_none [] = refl
gap_none (b ∷ s) = refl

judge_all : (s : List ℕ) (p : Program) → Good 0 0 s p → judge p ≡ ok s
unfolding judge placed ◌>>=◌ ◌>>◌
judge_all s p g = rw (g.named 0 [], ◌>>◌, g.settled 0, ◌>>◌, g.defined 0 [], ◌>>=◌, g.encoded [] p 0)

judge_org : (l : ℕ) (s : List ℕ) (p : Program) → Good 1 l s p → judge (org l ∷ p) ≡ ok (gap l s)
unfolding judge placed placed_from no_name_twice positions_fit check_each define_all encode_all encode as_name require ◌>>=◌ ◌>>◌
judge_org l s p g =
    let z : l - 0 ≡ l = omega arith in
    let u = g.settled 0 in
    rw (g.named 0 [], ◌>>◌, le-leb 0 l (omega arith), u, ◌>>◌, g.defined 0 [], ◌>>=◌, g.encoded [] (org l ∷ p) 0, ◌>>=◌, z)

-- ---- reading

old_total : (p : Program) → total (line_room old_form) p ≡ total frame_bytes p
unfolding total
old_total [] = refl
old_total (s ∷ p) = omega (arith, old_total p)

-- statements that can be written and are short are read as they were, in the old form
record Listed (p : Program) : Type 0 where
  reads : read_listing (listing_of p) ≡ ok p
  form : (beside_of (listing_of p)).form ≡ old_form

reads_all : (p : Program) → AllWritable p → AllShort p → length p ≤ 1024 → own_from 0 p ≡ p → Listed p
unfolding read_listing text_of beside_of
reads_all p w h l o =
    let f = form_back old_form [] [] p w (λ j. refl) in
    let t = short_total p h in
    record {
      reads = ap (λ w. read_lines w 0 0 (statement_lines (lines_of (listing_of p)))) f.form ∙ ap (read_lines old_form 0 0) f.lines
          ∙ text_back old_form 0 0 [] p w (λ j. refl) (omega arith) (omega (arith, old_total p)) ∙ ap ok o;
      form = f.form;
    }

org_writable : (l : ℕ) → l < 65536 → Writable (org l)
unfolding frame_of each every
org_writable l h = record { sound = h; plain = refl; live = refl; short = omega arith }

org_short : (l : ℕ) → frame_bytes (org l) ≤ 17
unfolding frame_of
org_short l = omega arith

reads_org : (l : ℕ) (s : List ℕ) (p : Program) → l < 65536 → Good 1 l s p → AllShort p → length (org l ∷ p) ≤ 1024 → Listed (org l ∷ p)
unfolding own_from
reads_org l s p h g k m = reads_all (org l ∷ p) (org_writable l h, g.writable) (org_short l, k) m (rw g.owned)

-- ---- the whole

-- what the listing is, by where the start lies
module _ (image : List ℕ) (start : ℕ) (h : AllBytes image) (l : length image ≤ 65536) where
  abbrev p₀ : Program
  p₀ = statements_of image start

  -- at the end
  at_end : length image ≤ start → SameBytes image start (listing_of [])
  unfolding judge placed placed_from no_name_twice positions_fit check_each define_all encode_all own_from ◌>>=◌ ◌>>◌
  at_end k =
      let r = reads_all [] tt tt (omega arith) refl in
      record {
        program = [];
        reads = r.reads;
        form = r.form;
        assembles = rw (drop_of_length-le image k);
        few = omega
            (arith, length-drop start image);
      }

  at_zero : length (read_all 0 0 image) ≤ 1024 → SameBytes image 0 (listing_of (read_all 0 0 image))
  at_zero m =
      let p : Program = read_all 0 0 image in
      let g : Good 0 0 image p = from_good 0 0 0 image h (omega arith) in
      let r = reads_all p g.writable (from_short 0 0 0 image) m g.owned in
      record {
        program = p;
        reads = r.reads;
        form = r.form;
        assembles = rw (gap_none image) (judge_all image p g);
        few = omega
            (arith, g.few);
      }

  behind : start < length image → length (org start ∷ read_all 1 start (drop start image)) ≤ 1024
      → SameBytes image start (listing_of (org start ∷ read_all 1 start (drop start image)))
  behind k m =
      let s : List ℕ = drop start image in
      let n : length s ≡ length image - start = length-drop start image in
      let p : Program = read_all 1 start s in
      let g : Good 1 start s p = from_good 0 1 start s (bytes_drop start image h) (omega arith) in
      let r = reads_org start s p (omega arith) g (from_short 0 1 start s) m in
      record { program = org start ∷ p; reads = r.reads; form = r.form; assembles = judge_org start s p g; few = omega (arith, g.few) }

  by_start_lem : length p₀ ≤ 1024 → SameBytes image start (listing_of p₀)
  unfolding statements_of
  by_start_lem = on (leb (length image) start) (eqb start 0) refl refl
    where
      on : (a b : Bool) → leb (length image) start ≡ a → eqb start 0 ≡ b
          → length (cond a [] (cond b (read_all 0 0 image) (org start ∷ read_all 1 start (drop start image)))) ≤ 1024
          → SameBytes image start (listing_of (cond a [] (cond b (read_all 0 0 image) (org start ∷ read_all 1 start (drop start image)))))
      on true b e d m = at_end (leb-true (length image) start e)
      on false true e d m = let z : start ≡ 0 = eqb-true start 0 d in rw z (at_zero m)
      on false false e d m = behind (leb-false (length image) start e) m

pub all_short : (image : List ℕ) (start : ℕ) → AllShort (statements_of image start)
unfolding statements_of
all_short image start = on (leb (length image) start) (eqb start 0)
  where
    on : (a b : Bool) → AllShort (cond a [] (cond b (read_all 0 0 image) (org start ∷ read_all 1 start (drop start image))))
    on true b = tt
    on false true = from_short 0 0 0 image
    on false false = (org_short start, from_short 0 1 start (drop start image))

pub same_bytes : (image : List ℕ) (start room : ℕ) (listing : List ℕ) → AllBytes image → read_back image start room ≡ ok listing
    → SameBytes image start listing
unfolding read_back
same_bytes image start room listing h e =
    let p : Program = statements_of image start in
    let a = require_ok (leb start (length image)) _ _ listing e in
    let b = require_ok (leb (length image) 65536) _ _ listing a.1 in
    let c = next_ok (keeps_limits 0 0 p) _ listing b.1 in
    let d = require_ok (leb (length (listing_of p)) room) _ (ok (listing_of p)) listing c.2 in
    let t : listing_of p ≡ listing = cc d.1 in
    let kept : (u : Unit) → keeps_limits 0 0 p ≡ ok u → keeps_limits 0 0 p ≡ ok tt = λ u k. k in
    rw t at (by_start_lem image start h (leb-true (length image) 65536 b.0) (limits_say p (all_short image start) (kept c.0 c.1)))
