-- C-13: the list of stems and its room. A refusal writes none, a result that fits has one, and a room of 2,048 bytes holds every one.
use mathlib.Core.Path.{◌≡◌, refl, sym, ap, ap₂, ◌∙◌}
use mathlib.Core.List.{List}
use mathlib.Core.Bool.{Bool, true, false, ◌&&◌}
use Prim.Native.Nat.{ℕ, ◌*◌, ◌≤◌}
use native.Mathlib.Omega.{arith}
use lib.Dec.{leb}
use lib.ListN.{length}
use borrow.Author.Tests.{leb-true, le-leb}
use Rattle.std.specs.Prelude.{Err, Result, Ok}
use Rattle.laws.proofs.Tests.{clash, and_true}
use Rattle.rules.specs.declared.Sizes.{Sizes}
use Rattle.rules.specs.declared.Refusal.{Refusal}
use Rattle.rules.specs.declared.Refusal.TheVariants.{Room}
use Rattle.rules.specs.declared.Settings.{Settings}
use Rattle.rules.specs.Answers.{Judged, ok, no, ◌>>=◌, ◌>>◌, require}
use Rattle.rules.specs.Programs.{Program}
use Rattle.rules.specs.Listing.{read_listing, beside_of}
use Rattle.rules.specs.Judging.{judge}
use Rattle.rules.specs.Rewriting.{optimized}
use Rattle.rules.specs.Output.{write_back, shown, compact, stems_from, stems}
use Rattle.rules.specs.Run.{Output, output_of, fits, run, answer_of, front, listing_after, image_after, rewritten}
use Rattle.rules.proofs.Laws.{require_ok}
use Rattle.promises.specs.Demand2.{Answered, Input, output_program}
use Rattle.promises.proofs.Listings.{read_limits}
use Rattle.promises.proofs.OutputRoom.{output_room}
use Rattle.output.specs.Stems.{kept_to, list_of}
use Rattle.output.proofs.Left.{length_list, stems_many}
use Rattle.finishing.specs.Ending.{fits_all, roomed, Delivers}
use Rattle.entries.specs.Stems.{run_stems, sizes_of, stemmed_as, list_after, Stems}
use Rattle.entries.specs.Optimizing.{Left}

-- ---- the list's room

and_comm_true : (a b : Bool) → b ≡ true → a && b ≡ a
and_comm_true true b e = e
and_comm_true false b e = refl

-- a result that fits is handed out, and its list fits
pub roomed_ok : (count a b c : ℕ) (o x : Output) → roomed count a b c o ≡ ok x → (o ≡ x) × (2 * length o.stems ≤ c)
unfolding roomed fits_all
roomed_ok count a b c o x e =
    let f = require_ok (fits_all a b c o) (Room count) (ok o) x e in
    let z : o ≡ x = cc in
    let l = leb-true (length (list_of o.stems)) c (and_true (fits a b o) (leb (length (list_of o.stems)) c) f.0).1 in
    (z, omega (arith, length_list o.stems))

-- ---- a refusal changes nothing, and so does the list's

pub stems_no : (x : Judged Output) (q : Refusal) (out image list : List ℕ) → x ≡ no q → Stems x (Err q) out image list out image list
stems_no x q out image list e =
    record {
      answers = sym (ap stemmed_as e);
      listing_is = sym (ap (λ y. listing_after y out) e);
      image_is = sym (ap (λ y. image_after y image) e);
      list_is = sym (ap (λ y. list_after y list) e);
    }

module _ (x : Judged Output) (r : Result Sizes Refusal) (out image list out' image' : List ℕ) (d : Delivers x r out image out' image') where
  -- the run refused: the list stays as it was
  pub stems_refused : (q : Refusal) → r ≡ Err q → Stems x (Err q) out image list out' image' list
  stems_refused q e = on x refl
    where
      on : (y : Judged Output) → x ≡ y → Stems x (Err q) out image list out' image' list
      on (ok o) z = clash (cc (sym e ∙ d.answers ∙ ap answer_of z))
      on (no p) z =
          let same : ◌≡◌ {A = Result Sizes Refusal} (Err q) (Err p) = sym e ∙ d.answers ∙ ap answer_of z in
          let qp : q ≡ p = cc in
          record {
            answers = ap Err qp ∙ sym (ap stemmed_as z);
            listing_is = d.listing_is;
            image_is = d.image_is;
            list_is = sym (ap (λ y. list_after y list) z);
          }

  -- the run was done: it has an output
  pub done_ok : (sizes : Sizes) → r ≡ Ok sizes → (o : Output) × (x ≡ ok o) × (sizes ≡ sizes_of o)
  done_ok sizes e = on x refl
    where
      on : (y : Judged Output) → x ≡ y → (o : Output) × (x ≡ ok o) × (sizes ≡ sizes_of o)
      on (ok o) z = let same : ◌≡◌ {A = Result Sizes Refusal} (Ok sizes) (Ok (sizes_of o)) = sym e ∙ d.answers ∙ ap answer_of z in (o, z, cc)
      on (no p) z = clash (cc (sym e ∙ d.answers ∙ ap answer_of z))

  -- and its list is written
  pub stems_done : (sizes : Sizes) (forms : List ℕ) (count n : ℕ) (list' : List ℕ) → r ≡ Ok sizes → Left x forms count
      → list' ≡ front (list_of (kept_to forms count)) list → n ≡ length (kept_to forms count) → Stems x (Ok (sizes, n)) out image list out' image' list'
  stems_done sizes forms count n list' e l f m =
      let h = done_ok sizes e in
      let left = l h.0 h.1 in
      record {
        answers = ap₂ (λ s k. Ok (s, k)) h.2 (m ∙ ap length left) ∙ sym (ap stemmed_as h.1);
        listing_is = d.listing_is;
        image_is = d.image_is;
        list_is = f ∙ ap (λ is. front (list_of is) list) left ∙ sym (ap (λ y. list_after y list) h.1);
      }

-- ---- without the list

abbrev pub answer_from : Result (Sizes × ℕ) Refusal → Result Sizes Refusal
answer_from (Ok (sizes, n)) = Ok sizes
answer_from (Err q) = Err q

answer_from_lem : (x : Judged Output) → answer_from (stemmed_as x) ≡ answer_of x
answer_from_lem (ok o) = refl
answer_from_lem (no q) = refl

-- a room of 2,048 bytes is never too short: no more statements come out than went in
module _ (asked : Settings) (text : List ℕ) (p : Program) (h : Input p) where
  abbrev left : Program
  left = shown asked (write_back (optimized asked p).program)

  stems_are : (output_of asked (beside_of text) p).stems ≡ stems left
  unfolding output_of rewritten
  stems_are = refl

  list_short : length (list_of (stems left)) ≤ 2048
  unfolding stems output_program
  list_short =
      let few : length (compact left) ≤ length p = (output_room asked p h).statements in
      omega (arith, length_list (stems_from 0 left), stems_many 0 left, few, (read_limits h.text p h.reads).0)

  list_room : length (list_of (output_of asked (beside_of text) p).stems) ≤ 2048
  list_room = rw stems_are list_short

pub run_with_room : (asked : Settings) (text : List ℕ) (a b : ℕ) → run_stems asked text a b 2048 ≡ run asked text a b
unfolding run_stems run ◌>>=◌ ◌>>◌ fits_all
run_with_room asked text a b = on (read_listing text) refl
  where
    judged : (p : Program) → read_listing text ≡ ok p → (x : Judged (List ℕ)) → judge p ≡ x
        → (let o : Output = output_of asked (beside_of text) p in
        (x >> require (fits a b o && leb (length (list_of o.stems)) 2048) (Room (length p)) (ok o)) ≡ (x >> require (fits a b o) (Room (length p)) (ok o)))
    judged p e (ok image) j =
        let o : Output = output_of asked (beside_of text) p in
        let few = list_room asked text p (record { text = text; reads = e; image = image; assembles = j }) in
        ap (λ t. require t (Room (length p)) (ok o)) (and_comm_true (fits a b o) (leb (length (list_of o.stems)) 2048) (le-leb _ 2048 few))
    judged p e (no q) j = refl

    on : (y : Judged Program) → read_listing text ≡ y → run_stems asked text a b 2048 ≡ run asked text a b
    on (ok p) e = rw e (judged p e (judge p) refl)
    on (no q) e = rw e

pub stems_answered : (asked : Settings) (text out image list : List ℕ) (r : Result (Sizes × ℕ) Refusal) (a : Result Sizes Refusal) (out' image' list' : List ℕ) → length list ≡ 2048 → a ≡ answer_from r
    → Stems (run_stems asked text (length out) (length image) (length list)) r out image list out' image' list'
    → Answered asked text out image a out' image'
stems_answered asked text out image list r a out' image' list' n e d =
    let x = run_stems asked text (length out) (length image) (length list) in
    let z : x ≡ run asked text (length out) (length image) = ap (run_stems asked text (length out) (length image)) n ∙ run_with_room asked text (length out) (length image) in
    record {
      answers = e ∙ ap answer_from d.answers ∙ answer_from_lem x ∙ ap answer_of z;
      listing_is = d.listing_is ∙ ap (λ y. listing_after y out) z;
      image_is = d.image_is ∙ ap (λ y. image_after y image) z;
    }
