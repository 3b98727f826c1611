-- What the entry's contract comes to, of the bytes that it wrote: on acceptance and on refusal, and that two results coincide.
use mathlib.Core.Path.{◌≡◌, refl, sym, ap, ◌∙◌}
use mathlib.Core.Bool.{Bool, true, false, ◌&&◌}
use mathlib.Core.List.{List}
use Prim.Native.Nat.{ℕ}
use lib.Dec.{leb}
use lib.ListN.{length, take, drop}
use lib.Seq.{take_at, drop_at}
use Rattle.std.specs.Prelude.{Err, Result, Ok}
use Rattle.laws.proofs.Tests.{clash}
use Rattle.rules.specs.declared.Refusal.{Refusal}
use Rattle.rules.specs.declared.Refusal.TheVariants.{Room}
use Rattle.rules.specs.Answers.{Judged, ok, no, require}
use Rattle.rules.specs.Listing.{read_listing}
use Rattle.rules.proofs.Laws.{require_ok}
use Rattle.promises.proofs.RoundTrip.{AllBytes}
use Rattle.salvage.specs.declared.walks.Extent.{Extent}
use Rattle.salvage.specs.Salvage.{Salvaged, salvaged, salvage}
use Rattle.salvage.specs.Entry.{Leaves, Accepted}
use Rattle.salvage.proofs.NeverRefused.{never_refused}

module _ (text listing report : List ℕ) where
  abbrev answer : Judged Salvaged
  answer = salvage text (length listing) (length report)

  done_is : (x : Salvaged) → answer ≡ ok x → salvaged text ≡ x
  unfolding salvage
  done_is x e =
      let t = require_ok (leb (length (salvaged text).listing) (length listing) && leb (length (salvaged text).report) (length report))
      (Room (salvaged text).count) (ok (salvaged text)) x e in
      cc t.1

  pub on_acceptance : (e : Extent) (listing' report' : List ℕ) → AllBytes text → Leaves answer (Ok e) listing report listing' report'
      → Accepted text e listing report listing' report'
  on_acceptance e listing' report' h a = on answer refl a
    where
      on : (j : Judged Salvaged) → answer ≡ j → Leaves j (Ok e) listing report listing' report' → Accepted text e listing report listing'
          report'
      on (ok x) z a =
          let is : salvaged text ≡ x = done_is x z in
          let l : List ℕ = x.listing in
          let r : List ℕ = x.report in
          let n : e.listing ≡ length l = cc a.answer in
          let m : e.report ≡ length r = cc a.answer in
          let k : e.statements ≡ x.count = cc a.answer in
          let good = never_refused text h in
          let front : take e.listing listing' ≡ (salvaged text).listing = ap (take e.listing) a.listing_is
          ∙ take_at l (drop (length l) listing) e.listing (sym n) ∙ ap (λ (y : Salvaged). y.listing) (sym is) in
          record {
            program = good.program;
            reads = ap read_listing front ∙ good.reads;
            count = good.count ∙ ap (λ (y : Salvaged). y.count) is ∙ sym k;
            listing_is = front;
            report_is = ap (take e.report) a.report_is ∙ take_at r (drop (length r) report) e.report (sym m)
                ∙ ap (λ (y : Salvaged). y.report) (sym is);
            beyond = (
              ap (drop e.listing) a.listing_is ∙ drop_at l (drop (length l) listing) e.listing (sym n)
                  ∙ ap (λ (i : ℕ). drop i listing) (sym n),
              ap (drop e.report) a.report_is ∙ drop_at r (drop (length r) report) e.report (sym m)
                  ∙ ap (λ (i : ℕ). drop i report) (sym m),
            );
          }
      on (no r) z a = clash (cc a.answer)

  -- "Refusals: 12 only", and no lent byte changes
  room_alone : (r : Refusal) → answer ≡ no r → r ≡ Room (salvaged text).count
  unfolding salvage require
  room_alone r e = on (leb (length (salvaged text).listing) (length listing) && leb (length (salvaged text).report) (length report)) e
    where
      on : (b : Bool) → require b (Room (salvaged text).count) (ok (salvaged text)) ≡ no r → r ≡ Room (salvaged text).count
      on true e = clash (cc)
      on false e = cc

  pub on_refusal : (r : Refusal) (listing' report' : List ℕ) → Leaves answer (Err r) listing report listing' report'
      → (r ≡ Room (salvaged text).count) × (listing' ≡ listing) × (report' ≡ report)
  on_refusal r listing' report' a = on answer refl a
    where
      on : (j : Judged Salvaged) → answer ≡ j → Leaves j (Err r) listing report listing' report'
          → (r ≡ Room (salvaged text).count) × (listing' ≡ listing) × (report' ≡ report)
      on (ok x) z a = clash (cc a.answer)
      on (no s) z a = let q : s ≡ r = cc a.answer in (room_alone r (z ∙ ap no q), a.listing_is, a.report_is)

  -- "Show that any two results allowed by the contract coincide": the answer, and every byte of the rooms
  pub one_salvage : (r s : Result Extent Refusal) (x y u v : List ℕ) → Leaves answer r listing report x y → Leaves answer s listing report u v
      → (r ≡ s) × (x ≡ u) × (y ≡ v)
  one_salvage r s x y u v a b = (a.answer ∙ sym b.answer, a.listing_is ∙ sym b.listing_is, a.report_is ∙ sym b.report_is)
