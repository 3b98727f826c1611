-- The three demands, of whatever `optimize_jumps` answers and writes: each starts from its contract, `Answered`.
use mathlib.Core.Path.{◌≡◌, refl, sym, ◌∙◌, ap, subst}
use mathlib.Core.List.{List}
use Prim.Native.Nat.{ℕ, ◌+◌, ◌≤◌}
use native.Mathlib.Omega.{arith}
use lib.ListN.{length, take}
use Rattle.std.specs.Prelude.{Err, Result, Ok}
use Rattle.rules.specs.declared.Settings.{Settings}
use Rattle.rules.specs.declared.Sizes.{Sizes}
use Rattle.rules.specs.declared.Refusal.{Refusal}
use Rattle.rules.specs.Answers.{ok}
use Rattle.rules.specs.Programs.{instr, Placeℕ, Program, Stmt, gone, at}
use Rattle.rules.specs.Listing.{read_listing, ListingForm, line_bytes, beside_of}
use Rattle.rules.specs.Judging.{judge}
use Rattle.rules.specs.Run.{Output, output_of, run, answer_of, rewritten}
use Rattle.promises.specs.Demand1.{Cause}
use Rattle.promises.specs.Demand2.{Accepted, Answered, Input, own, own_from, output_program, Filled, WithinTotal}
use Rattle.promises.specs.Demand3.{TargetKept}
use Rattle.promises.specs.Entry.{TargetWritten, Promised, BeyondKept, OnAcceptance, OnRefusal}
use Rattle.rules.specs.Output.{frame_of}
use Rattle.rules.proofs.Laws.{by_change}
use Rattle.promises.proofs.General.{total_alike}
use Rattle.promises.proofs.Accepted.{accepted_iff}
use Rattle.promises.proofs.OneResult.{refusal_changes_nothing, refused_by, acceptance_delivers}
use Rattle.promises.proofs.RefusedOnce.{refused_once, one_refusal, one_of_twelve}
use Rattle.promises.proofs.FirstFault.{first_fault}
use Rattle.promises.proofs.Positions.{origin_same}
use Rattle.promises.proofs.Demand3.{demand_3_of}
use Rattle.promises.proofs.OutputRoom.{keeps_total}
use Rattle.promises.proofs.ReadsBack.{at_own, own_same, reads_back, length_own}

-- ---- acceptance

-- reading gives each instruction its own place, and moves no byte
target_written : (asked : Settings) (p : Program) (i s : Placeℕ) (o : ℕ) (k : TargetKept asked p i s o) → TargetWritten asked p (own_from 0 (output_program asked p)) i s o k
target_written asked p i s o k =
    record {
      stands = let z : 0 + k.place ≡ k.place = omega arith in rw z at (at_own 0 (output_program asked p) k.place) ∙ ap (own k.place) k.stands;
      names_byte = origin_same (output_program asked p) (own_from 0 (output_program asked p)) (own_same (output_program asked p)) _ ∙ k.names_byte;
    }

-- nor does it change a frame
own_total : (w : ListingForm) (q : Program) → WithinTotal w (own_from 0 q) → WithinTotal w q
own_total w q l =
    omega (
      arith,
      l,
      total_alike (λ s. length (frame_of s) + line_bytes w) (λ s. length (frame_of s) + line_bytes w) (own_from 0 q) q gone gone (length_own 0 q)
          (λ i h. ap (λ (s : Stmt). length (frame_of s) + line_bytes w) (at_own 0 q i) ∙ ap (λ (n : ℕ). n + line_bytes w) (own_frame (0 + i) (at q i))),
    )
  where
    own_frame : (i : Placeℕ) (s : Stmt) → length (frame_of (own i s)) ≡ length (frame_of s)
    own_frame i = by_change (λ s t. length (frame_of t) ≡ length (frame_of s)) (λ x. instr x.form x.args i) (λ f xs c. unfold frame_of in refl) (λ s n. refl)

-- of a text that reads and assembles, and of its output
of_output : (asked : Settings) (text : List ℕ) (p : Program) (image : List ℕ) → read_listing text ≡ ok p → judge p ≡ ok image
    → Promised asked text (output_of asked (beside_of text) p).listing (rewritten asked p).image (rewritten asked p).count
of_output asked text p image r j =
    let h : Input p = record { text = text; reads = r; image = image; assembles = j } in
    let d = demand_3_of asked p h in
    let b = reads_back asked p h in
    record {
      program = p;
      keeps_rules = r;
      image = image;
      assembles = j;
      as_defined = record { listing = refl; image = refl; count = d.bounded.counted };
      again = own_from 0 (output_program asked p);
      again_is = refl;
      read_again = record { reads = λ l. b.reads (own_total (beside_of text).form (output_program asked p) l); form = b.form; lines = b.lines; assembles = b.assembles };
      no_constants = λ e. b.reads (keeps_total asked p h e);
      demand_3 = d;
      targets_written = λ i s o t. target_written asked p i s o (d.targets_kept i s o t);
      bounded = omega (arith, d.bounded.counted, d.bounded.bounded);
    }

-- promised: the three demands of an accepted text
pub promised : (asked : Settings) (text : List ℕ) (listing_room image_room : ℕ) (o : Output) → run asked text listing_room image_room ≡ ok o → Promised asked text o.listing o.image o.count
unfolding output_of
promised asked text listing_room image_room o e =
    let a = (accepted_iff asked text listing_room image_room o).0 e in
    subst (λ (x : Output). Promised asked text x.listing x.image x.count) (sym a.result) (of_output asked text a.program a.image a.keeps_rules a.assembles)

module _ (asked : Settings) (text listing image : List ℕ) where
  -- on-acceptance: `Ok sizes` says that the demands hold of the front of each room, and that the rest of it is what it was
  pub on_acceptance : (sizes : Sizes) (listing' image' : List ℕ) → Answered asked text listing image (Ok sizes) listing' image'
      → OnAcceptance asked text listing image sizes listing' image'
  on_acceptance sizes listing' image' x =
      let d = acceptance_delivers asked text listing image sizes listing' image' x in
      let o : Output = d.output in
      let a = (accepted_iff asked text (length listing) (length image) o).0 d.accepted in
      let written : take sizes.listing listing' ≡ o.listing = ap (λ (n : ℕ). take n listing') d.listing_size ∙ d.listing_room_holds.front in
      let bytes : take sizes.image image' ≡ o.image = ap (λ (n : ℕ). take n image') d.image_size ∙ d.image_room_holds.front in
      record {
        promised = same (take sizes.listing listing') (take sizes.image image') sizes.rewrites o written bytes d.rewrites (promised asked text (length listing) (length image) o d.accepted);
        listing_room_holds = kept o.listing listing listing' sizes.listing d.listing_size a.listing_fits d.listing_room_holds;
        image_room_holds = kept o.image image image' sizes.image d.image_size a.image_fits d.image_room_holds;
      }
    where
      same : (written bytes : List ℕ) (rewrites : ℕ) (o : Output) → written ≡ o.listing → bytes ≡ o.image → rewrites ≡ o.count → Promised asked text o.listing o.image o.count
          → Promised asked text written bytes rewrites
      same written bytes rewrites o w b c h = rw (w, b, c) h

      kept : (result room room' : List ℕ) (n : ℕ) → n ≡ length result → length result ≤ length room → Filled result room room' → BeyondKept n room room'
      kept result room room' n e h f = rw e (record { holds = h; beyond = f.beyond; as_long = f.as_long })

  -- accepts: a text that keeps the listing rules, assembles as given and has room for its result is answered so. With on-acceptance: "exactly when"
  pub accepts : (o : Output) (answer : Result Sizes Refusal) (listing' image' : List ℕ) → Answered asked text listing image answer listing' image'
      → Accepted asked text (length listing) (length image) o → answer ≡ answer_of (ok o)
  accepts o answer listing' image' x a = x.answers ∙ ap answer_of ((accepted_iff asked text (length listing) (length image) o).1 a)

  -- ---- refusal

  -- on-refusal: `Err r` says that no lent byte changed, and that r has its cause, at the first statement at fault, and nothing else has one
  pub on_refusal : (r : Refusal) (listing' image' : List ℕ) → Answered asked text listing image (Err r) listing' image' → OnRefusal asked text listing image r listing' image'
  on_refusal r listing' image' x =
      let same = refusal_changes_nothing asked text listing image r listing' image' x in
      let e = refused_by asked text listing image r listing' image' x in
      let c = (refused_once asked text (length listing) (length image) r).0 e in
      record {
        listing_kept = same.0;
        image_kept = same.1;
        numbered = one_of_twelve asked text (length listing) (length image) r c;
        cause = c;
        first = first_fault asked text (length listing) (length image) r e;
        only = λ s d. one_refusal asked text (length listing) (length image) s r d c;
      }

  -- refuses: what has a cause is answered so
  pub refuses : (r : Refusal) (answer : Result Sizes Refusal) (listing' image' : List ℕ) → Answered asked text listing image answer listing' image'
      → Cause asked text (length listing) (length image) r → answer ≡ Err r
  refuses r answer listing' image' x c = x.answers ∙ ap answer_of ((refused_once asked text (length listing) (length image) r).1 c)
