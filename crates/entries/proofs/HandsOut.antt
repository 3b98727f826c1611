-- C-13, of whatever `optimize_stems` answers and writes: it is what `optimize_jumps` answers and writes, and the list; or the list's
-- room is too short.
use mathlib.Core.Path.{◌≡◌, refl, sym, ap, ◌∙◌}
use mathlib.Core.Logic.{◌⊎◌, inl, inr}
use mathlib.Core.List.{List}
use mathlib.Core.Bool.{Bool, true, false, ◌&&◌}
use Prim.Native.Nat.{ℕ, ◌*◌}
use native.Mathlib.Omega.{arith}
use lib.Dec.{leb}
use lib.ListN.{length}
use borrow.Author.Tests.{leb-false}
use Rattle.std.specs.Prelude.{Ok, Err, Result}
use Rattle.laws.proofs.Tests.{clash, and_true}
use Rattle.rules.specs.declared.Sizes.{Sizes}
use Rattle.rules.specs.declared.Refusal.{Refusal}
use Rattle.rules.specs.declared.Refusal.TheVariants.{Room}
use Rattle.rules.specs.declared.Settings.{Settings}
use Rattle.rules.specs.Answers.{Judged, ok, no, ◌>>=◌, ◌>>◌, require}
use Rattle.rules.specs.Programs.{Program}
use Rattle.rules.specs.Listing.{read_listing, beside_of}
use Rattle.rules.specs.Judging.{judge}
use Rattle.rules.specs.Run.{Output, output_of, fits, run, answer_of, listing_after, image_after, rewritten}
use Rattle.rules.proofs.Laws.{then_ok, next_ok, require_ok}
use Rattle.output.specs.Stems.{list_of}
use Rattle.output.proofs.Left.{length_list}
use Rattle.finishing.specs.Ending.{fits_all}
use Rattle.entries.specs.Stems.{run_stems, sizes_of, stemmed_as, list_after, Stems, HandedOut, ListShort, NotHandedOut}
use Rattle.entries.proofs.Demands.{in_front_lem}

module _ (asked : Settings) (text : List ℕ) (a b c : ℕ) where
  -- a text that was accepted: what the parts of the run are
  record Accepted (o : Output) : Type 0 where
    program : Program
    reads : read_listing text ≡ ok program
    image : List ℕ
    assembles : judge program ≡ ok image
    is : output_of asked (beside_of text) program ≡ o
    fit : fits a b o ≡ true

  accepted : (o : Output) → run_stems asked text a b c ≡ ok o → Accepted o
  unfolding run_stems fits_all
  accepted o e =
      let r = then_ok (read_listing text) _ o e in
      let p : Program = r.0 in
      let j = next_ok (judge p) _ o r.2 in
      let x : Output = output_of asked (beside_of text) p in
      let f = require_ok (fits a b x && leb (length (list_of x.stems)) c) (Room (length p)) (ok x) o j.2 in
      let z : x ≡ o = cc f.1 in
      record {
        program = p;
        reads = r.1;
        image = j.0;
        assembles = j.1;
        is = z;
        fit = ap (fits a b) (sym z) ∙ (and_true (fits a b x) (leb (length (list_of x.stems)) c) f.0).0;
      }

  run_too : (o : Output) → Accepted o → run asked text a b ≡ ok o
  unfolding run ◌>>=◌ ◌>>◌ require
  run_too o h = rw (h.reads, ◌>>=◌, h.assembles, ◌>>◌, h.is, h.fit)

  -- what is refused: by the run, or by the list's room
  refused : (q : Refusal) → run_stems asked text a b c ≡ no q → (run asked text a b ≡ no q) ⊎ ListShort asked text a b c q
  unfolding run_stems run
  refused q e = on (read_listing text) refl e
    where
      roomed : (p : Program) (image : List ℕ) → read_listing text ≡ ok p → judge p ≡ ok image → (o : Output) → output_of asked (beside_of text) p ≡ o
          → (t u : Bool) → fits a b o ≡ t → leb (length (list_of o.stems)) c ≡ u → require (t && u) (Room (length p)) (ok o) ≡ no q
          → (require t (Room (length p)) (ok o) ≡ no q) ⊎ ListShort asked text a b c q
      roomed p image r j o w true true f g h = unfold require in clash (cc)
      roomed p image r j o w true false f g h =
          unfold require in
          inr
          record {
            output = o;
            accepted = run_too o (record { program = p; reads = r; image = image; assembles = j; is = w; fit = f });
            program = p;
            keeps_rules = r;
            short = omega (arith, leb-false (length (list_of o.stems)) c g, length_list o.stems);
            room = cc;
          }
      roomed p image r j o w false u f g h = inl h

      judged : (p : Program) → read_listing text ≡ ok p → (x : Judged (List ℕ)) → judge p ≡ x → (let o : Output = output_of asked (beside_of text) p in
          (x >> require (fits_all a b c o) (Room (length p)) (ok o)) ≡ no q
          → ((x >> require (fits a b o) (Room (length p)) (ok o)) ≡ no q) ⊎ ListShort asked text a b c q)
      judged p r (ok image) j h =
          let o : Output = output_of asked (beside_of text) p in
          unfold ◌>>◌ fits_all in
          roomed p image r j o refl (fits a b o) (leb (length (list_of o.stems)) c) refl refl h
      judged p r (no s) j h = unfold ◌>>◌ in inl h

      on : (y : Judged Program) → read_listing text ≡ y → (y >>= (λ p. judge p >> require (fits_all a b c (output_of asked (beside_of text) p)) (Room (length p)) (ok (output_of asked (beside_of text) p)))) ≡ no q
          → ((y >>= (λ p. judge p >> require (fits a b (output_of asked (beside_of text) p)) (Room (length p)) (ok (output_of asked (beside_of text) p)))) ≡ no q) ⊎ ListShort asked text a b c q
      on (ok p) r h = unfold ◌>>=◌ in judged p r (judge p) refl h
      on (no s) r h = unfold ◌>>=◌ in inl h

own_stems : (asked : Settings) (text : List ℕ) (p : Program) → (rewritten asked p).stems ≡ (output_of asked (beside_of text) p).stems
unfolding output_of
own_stems asked text p = refl

module _ (asked : Settings) (text out image list out' image' list' : List ℕ) where
  abbrev whole : Judged Output
  whole = run_stems asked text (length out) (length image) (length list)

  -- handed_out: `Ok (sizes, n)` says that the listing and the image are those of `optimize_jumps`, and the list is that of the stems
  pub handed_out : (sizes : Sizes) (n : ℕ) → Stems whole (Ok (sizes, n)) out image list out' image' list' → HandedOut asked text out image list sizes n out' image' list'
  handed_out sizes n d = on whole refl
    where
      on : (x : Judged Output) → whole ≡ x → HandedOut asked text out image list sizes n out' image' list'
      on (no q) e = clash (cc (d.answers ∙ ap stemmed_as e))
      on (ok o) e =
          let same : ◌≡◌ {A = Result (Sizes × ℕ) Refusal} (Ok (sizes, n)) (Ok (sizes_of o, length o.stems)) = d.answers ∙ ap stemmed_as e in
          let both : ◌≡◌ {A = Sizes × ℕ} (sizes, n) (sizes_of o, length o.stems) = cc in
          let s = ap (λ (x : Sizes × ℕ). x.0) both in
          let m = ap (λ (x : Sizes × ℕ). x.1) both in
          let h = accepted asked text (length out) (length image) (length list) o e in
          let r = run_too asked text (length out) (length image) (length list) o h in
          let stems_are = own_stems asked text h.program ∙ ap (λ (y : Output). y.stems) h.is in
          let size : 2 * n ≡ length (list_of o.stems) = omega (arith, length_list o.stems) in
          let f = in_front_lem (list_of o.stems) list list' (2 * n) size (d.list_is ∙ ap (λ x. list_after x list) e) in
          record {
            as_jumps = record {
              answers = ap Ok s ∙ sym (ap answer_of r);
              listing_is = d.listing_is ∙ ap (λ x. listing_after x out) (e ∙ sym r);
              image_is = d.image_is ∙ ap (λ x. image_after x image) (e ∙ sym r);
            };
            program = h.program;
            keeps_rules = h.reads;
            entries = m ∙ ap length (sym stems_are);
            stems = f.0 ∙ ap list_of (sym stems_are);
            beyond = f.1;
          }

  -- not-handed-out: `Err q` says that no byte changed, and why
  pub not_handed_out : (q : Refusal) → Stems whole (Err q) out image list out' image' list' → NotHandedOut asked text out image list q out' image' list'
  not_handed_out q d = on whole refl
    where
      on : (x : Judged Output) → whole ≡ x → NotHandedOut asked text out image list q out' image' list'
      on (ok o) e = clash (cc (d.answers ∙ ap stemmed_as e))
      on (no p) e =
          let same : ◌≡◌ {A = Result (Sizes × ℕ) Refusal} (Err q) (Err p) = d.answers ∙ ap stemmed_as e in
          let z : q ≡ p = cc in
          record {
            listing_kept = d.listing_is ∙ ap (λ x. listing_after x out) e;
            image_kept = d.image_is ∙ ap (λ x. image_after x image) e;
            list_kept = d.list_is ∙ ap (λ x. list_after x list) e;
            why = refused asked text (length out) (length image) (length list) q (e ∙ ap no (sym z));
          }
