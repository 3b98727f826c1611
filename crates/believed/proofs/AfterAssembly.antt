-- "After the first assembly only 12 can be given"; and assembling alone: accepted exactly when, and what its refusal says.
use mathlib.Core.Path.{◌≡◌, refl, sym, ◌∙◌, ap}
use mathlib.Core.Logic.{◌↔◌, ⊎_elim}
use mathlib.Core.List.{List}
use mathlib.Core.Bool.{true}
use Prim.Native.Nat.{ℕ}
use lib.Dec.{leb}
use lib.ListN.{length}
use borrow.Author.Tests.{leb-true, le-leb}
use Rattle.laws.proofs.Tests.{clash}
use Rattle.rules.specs.declared.Refusal.{Refusal}
use Rattle.rules.specs.declared.Refusal.TheVariants.{Room}
use Rattle.rules.specs.declared.Settings.{Settings}
use Rattle.rules.specs.Settings.{by_default}
use Rattle.rules.specs.Answers.{Judged, ok, no, ◌>>=◌, ◌>>◌, require}
use Rattle.rules.specs.Refusals.{fault_of}
use Rattle.rules.specs.Programs.{Program}
use Rattle.rules.specs.Listing.{read_listing, beside_of}
use Rattle.rules.specs.Judging.{judge}
use Rattle.rules.specs.Run.{output_of, fits, run, assembled}
use Rattle.rules.proofs.Laws.{then_ok, require_ok}
use Rattle.promises.specs.Demand1.{has_number}
use Rattle.promises.specs.Entry.{twelve}
use Rattle.promises.specs.Faults.{FirstFault, room}
use Rattle.promises.proofs.FirstFault.{first_fault}
use Rattle.believed.specs.Causes.{OwnCause, of_1, of_2, of_3, of_4, of_5, of_6, of_7, of_8, of_9, of_10, of_11, of_12, ImageShort, OnlyRoom, Assembles, OnAssemblyRefusal}
use Rattle.believed.proofs.Rows.{require_no}
use Rattle.believed.proofs.OwnCauses.{assembly_cause, assembly_number}

-- ---- after the first assembly
room_is_12 : (n : ℕ) (r : Refusal) → r ≡ Room n → (fault_of r).number ≡ 12
room_is_12 n r e = ap (λ (s : Refusal). (fault_of s).number) e

module _ (asked : Settings) (text : List ℕ) (p : Program) (image : List ℕ) (d : read_listing text ≡ ok p) (j : judge p ≡ ok image) where
  run_last : (listing_room image_room : ℕ) → run asked text listing_room image_room
      ≡ require (fits listing_room image_room (output_of asked (beside_of text) p)) (Room (length p)) (ok (output_of asked (beside_of text) p))
  unfolding run ◌>>=◌ ◌>>◌
  run_last listing_room image_room = rw (d, ◌>>=◌, j)

  assembled_last : (image_room : ℕ) → assembled text image_room ≡ require (leb (length image) image_room) (Room (length p)) (ok image)
  unfolding assembled ◌>>=◌
  assembled_last image_room = rw (d, ◌>>=◌, j)

  -- only-room: only 12 can be given, with the input's statement count
  pub only_room : OnlyRoom asked text p
  only_room =
      record {
        of_run =
            λ l m r e. ⊎_elim (λ h. (h.1, room_is_12 (length p) r h.1)) (λ h. clash (cc h.1)) (require_no _ (Room (length p)) (ok _) r (sym (run_last l m) ∙ e));
        of_assembling =
            λ m r e. ⊎_elim (λ h. (h.1, room_is_12 (length p) r h.1)) (λ h. clash (cc h.1)) (require_no _ (Room (length p)) (ok _) r (sym (assembled_last m) ∙ e));
      }

-- ---- assembling alone
module _ (text : List ℕ) (image_room : ℕ) where
  -- assembles-iff: a text is assembled exactly when it keeps the listing rules, assembles as given and the lent room holds the image
  pub assembles_iff : (image : List ℕ) → assembled text image_room ≡ ok image ↔ Assembles text image_room image
  unfolding assembled ◌>>=◌ require
  assembles_iff image = (only, λ a. rw (a.keeps_rules, ◌>>=◌, a.as_given, ◌>>=◌, le-leb (length image) image_room a.image_fits))
    where
      only : assembled text image_room ≡ ok image → Assembles text image_room image
      only e =
          let read = then_ok (read_listing text) _ image e in
          let judged = then_ok (judge read.0) _ image read.2 in
          let h = require_ok (leb (length judged.0) image_room) (Room (length read.0)) (ok judged.0) image judged.2 in
          let same : judged.0 ≡ image = cc h.1 in
          record {
            program = read.0;
            keeps_rules = read.1;
            as_given = judged.1 ∙ ap ok same;
            image_fits = rw same at (leb-true (length judged.0) image_room h.0);
          }

  -- one of twelve
  numbered : {r : Refusal} → OwnCause text (ImageShort image_room) r → has_number twelve r ≡ true
  numbered (of_1 i c h) = refl
  numbered (of_2 i c h) = refl
  numbered (of_3 p i c h) = refl
  numbered (of_4 p i env e c h) = refl
  numbered (of_5 p i c h) = refl
  numbered (of_6 p i c h) = refl
  numbered (of_7 p i env e c h) = refl
  numbered (of_8 p names i j v c h) = refl
  numbered (of_9 p names i j v c h) = refl
  numbered (of_10 p names i j v c h) = refl
  numbered (of_11 p names i j v c h) = refl
  numbered (of_12 p image d j h) = refl

  -- the first statement at fault is that of any run; 12 is about none
  first_of : (r : Refusal) → assembled text image_room ≡ no r → FirstFault text r
  unfolding assembled run ◌>>=◌ ◌>>◌
  first_of r e = of_text (read_listing text) refl e
    where
      of_run : run by_default text 0 0 ≡ no r → FirstFault text r
      of_run h = first_fault by_default text 0 0 r h

      of_program : (p : Program) → read_listing text ≡ ok p → (x : Judged (List ℕ)) → judge p ≡ x
          → x >>= (λ image. require (leb (length image) image_room) (Room (length p)) (ok image)) ≡ no r → FirstFault text r
      of_program p d (ok image) j h =
          ⊎_elim (λ k. room p d k.1) (λ k. clash (cc k.1)) (require_no (leb (length image) image_room) (Room (length p)) (ok image) r h)
      of_program p d (no s) j h =
          let g : judge p ≡ no r = j ∙ ap no (cc) in
          of_run (rw (d, ◌>>=◌, g))

      of_text : (x : Judged Program) → read_listing text ≡ x
          → x >>= (λ p. judge p >>= (λ image. require (leb (length image) image_room) (Room (length p)) (ok image))) ≡ no r
          → FirstFault text r
      of_text (ok p) d h = of_program p d (judge p) refl h
      of_text (no s) d h =
          let g : read_listing text ≡ no r = d ∙ ap no (cc) in
          of_run (rw g)

  -- on-assembly-refusal: its number is one of twelve, with its own cause and no other, at the first statement at fault
  pub on_assembly_refusal : (r : Refusal) → assembled text image_room ≡ no r → OnAssemblyRefusal text image_room r
  on_assembly_refusal r e =
      record { numbered = numbered ((assembly_cause text image_room r).0 e); by_number = assembly_number text image_room r e; first = first_of r e }
