-- What the entry's contract comes to, of the bytes that it wrote: on acceptance and on refusal.
use mathlib.Core.Path.{◌≡◌, refl, subst, sym, ◌∙◌, ap}
use mathlib.Core.List.{List}
use Prim.Native.Nat.{ℕ}
use lib.ListN.{length, take, drop}
use lib.Seq.{take_at, drop_at}
use Rattle.std.specs.Prelude.{Err, Ok}
use Rattle.laws.proofs.Tests.{clash}
use Rattle.rules.specs.declared.Sizes.{Sizes}
use Rattle.rules.specs.declared.Refusal.{Refusal}
use Rattle.rules.specs.Answers.{Judged, ok, no}
use Rattle.promises.proofs.RoundTrip.{AllBytes}
use Rattle.readback.specs.ReadBack.{read_back}
use Rattle.readback.specs.Promise.{SameBytes}
use Rattle.readback.specs.Entry.{Leaves, Accepted}
use Rattle.readback.proofs.SameBytes.{same_bytes}

pub on_acceptance : (image : List ℕ) (start : ℕ) (room : List ℕ) (sizes : Sizes) (after : List ℕ) → AllBytes image
    → Leaves (read_back image start (length room)) (Ok sizes) room after → Accepted image start room sizes after
on_acceptance image start room sizes after h a = on (read_back image start (length room)) refl a
  where
    on : (x : Judged (List ℕ)) → read_back image start (length room) ≡ x → Leaves x (Ok sizes) room after
        → Accepted image start room sizes after
    on (ok l) e a =
        let n : sizes.listing ≡ length l = cc a.answer in
        let front : take sizes.listing after ≡ l = ap (take sizes.listing) a.room
        ∙ take_at l (drop (length l) room) sizes.listing (sym n) in
        record {
          same = subst (λ (t : List ℕ). SameBytes image start t) (sym front) (same_bytes image start (length room) l h e);
          beyond = ap (drop sizes.listing) a.room ∙ drop_at l (drop (length l) room) sizes.listing (sym n)
              ∙ ap (λ (k : ℕ). drop k room) (sym n);
        }
    on (no r) e a = clash (cc a.answer)

pub on_refusal : (image : List ℕ) (start : ℕ) (room : List ℕ) (r : Refusal) (after : List ℕ)
    → Leaves (read_back image start (length room)) (Err r) room after
    → (read_back image start (length room) ≡ no r) × (after ≡ room)
on_refusal image start room r after a = on (read_back image start (length room)) a
  where
    on : (x : Judged (List ℕ)) → Leaves x (Err r) room after → (x ≡ no r) × (after ≡ room)
    on (ok l) a = clash (cc a.answer)
    on (no s) a = let q : s ≡ r = cc a.answer in (ap no q, a.room)
