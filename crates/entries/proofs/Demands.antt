-- The demands, of whatever `assemble` answers and writes: each starts from the entry's contract. `optimize_jumps` has promises' Entry.
use mathlib.Core.Path.{◌≡◌, refl, sym, ◌∙◌, ap}
use mathlib.Core.List.{List}
use Prim.Native.Nat.{ℕ}
use lib.Dec.{leb}
use lib.ListN.{length, take, drop}
use borrow.Author.Tests.{leb-true}
use Rattle.std.specs.Prelude.{Err, Result, Ok}
use Rattle.laws.proofs.Tests.{clash}
use Rattle.laws.proofs.Stores.{front_take, front_drop}
use Rattle.rules.specs.declared.Sizes.{Sizes}
use Rattle.rules.specs.declared.Refusal.{Refusal}
use Rattle.rules.specs.declared.Refusal.TheVariants.{Room}
use Rattle.rules.specs.Answers.{Judged, ok, no}
use Rattle.rules.specs.Programs.{Program}
use Rattle.rules.specs.Listing.{read_listing}
use Rattle.rules.specs.Judging.{judge}
use Rattle.rules.specs.Run.{assembled, front}
use Rattle.rules.proofs.Laws.{then_ok, require_ok}
use Rattle.believed.specs.Causes.{Assembles, OnAssemblyRefusal}
use Rattle.believed.proofs.AfterAssembly.{assembles_iff, on_assembly_refusal}
use Rattle.fitting.specs.Fitting.{answer_as, room_as, Leaves}
use Rattle.entries.specs.Assembling.{AsAssembled}

-- a room that holds a result of n bytes in front
pub in_front_lem : (result room room' : List ℕ) (n : ℕ) → n ≡ length result → room' ≡ front result room → (take n room' ≡ result) × (drop n room' ≡ drop n room)
in_front_lem result room room' n e f = rw e (front_take result room room' (length result) f refl, front_drop result room room' (length result) f refl)

-- ---- `assemble`
module _ (text room : List ℕ) where
  -- on-assembled: `Ok sizes` says that the text is a program and the room's front its image
  pub on_assembled : (sizes : Sizes) (room' : List ℕ) → Leaves (assembled text (length room)) (Ok sizes) room room' → AsAssembled text room sizes room'
  unfolding assembled
  on_assembled sizes room' x = on (assembled text (length room)) refl x.answer x.room
    where
      on : (j : Judged (List ℕ)) → assembled text (length room) ≡ j → Ok sizes ≡ answer_as j → room' ≡ room_as j room → AsAssembled text room sizes room'
      on (ok b) e d f =
          let z : sizes ≡ record { listing = 0; rewrites = 0; image = length b } = cc in
          let n : sizes.image ≡ length b = ap (λ (s : Sizes). s.image) z in
          let read = then_ok (read_listing text) _ b e in
          let p : Program = read.0 in
          let judged = then_ok (judge p) _ b read.2 in
          let fit = require_ok (leb (length judged.0) (length room)) (Room (length p)) (ok judged.0) b judged.2 in
          let same : b ≡ judged.0 = cc in
          let room_is = in_front_lem b room room' sizes.image n f in
          record {
            program = p;
            keeps_rules = read.1;
            assembles = judged.1 ∙ ap ok (sym same ∙ sym room_is.0);
            holds = rw n (leb-true (length b) (length room) (rw same fit.0));
            beyond = room_is.1;
            listing_none = ap (λ (s : Sizes). s.listing) z;
            rewrites_none = ap (λ (s : Sizes). s.rewrites) z;
          }
      on (no r) e d f = clash (cc)

  -- assembles-done: and `Ok` is answered wherever the text keeps the listing rules, assembles as given, and the room holds the image
  pub assembles_done : (image room' : List ℕ) (a : Result Sizes Refusal) → Leaves (assembled text (length room)) a room room'
      → Assembles text (length room) image → (a ≡ answer_as (ok image)) × (room' ≡ front image room)
  assembles_done image room' a x h =
      let e = (assembles_iff text (length room) image).1 h in
      (x.answer ∙ ap answer_as e, x.room ∙ ap (λ j. room_as j room) e)

  -- unassembled: `Err r` says that no byte of the room changed; and r's number is one of twelve, has its own cause and no other, at the first
  -- statement at fault: what `optimize_jumps` says on refusal
  pub unassembled : (r : Refusal) (room' : List ℕ) → Leaves (assembled text (length room)) (Err r) room room'
      → (room' ≡ room) × OnAssemblyRefusal text (length room) r
  unassembled r room' x =
      let h = on (assembled text (length room)) x.answer x.room in
      (h.0, on_assembly_refusal text (length room) r h.1)
    where
      on : (j : Judged (List ℕ)) → Err r ≡ answer_as j → room' ≡ room_as j room → (room' ≡ room) × (j ≡ no r)
      on (ok b) d f = clash (cc)
      on (no s) d f = (f, cc)
