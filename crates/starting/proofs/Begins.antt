-- What the phases hand to each other: the tables of an accepted listing hold its anchored program.
use mathlib.Core.Path.{◌≡◌, refl, sym, ap, ◌∙◌, subst}
use mathlib.Core.List.{List}
use Prim.Native.Nat.{ℕ}
use Rattle.std.specs.Prelude.{Result, Err, Ok}
use Rattle.laws.proofs.Tests.{clash}
use Rattle.rules.specs.declared.Refusal.{Refusal}
use Rattle.rules.specs.Answers.{Judged, ok, no}
use Rattle.rules.specs.Programs.{Program}
use Rattle.rules.specs.Listing.{read_listing}
use Rattle.rules.specs.Judging.{judge}
use Rattle.slots.specs.Slots.{Slots}
use Rattle.listing.specs.Tables.{input_of}
use Rattle.asm.specs.Verdicts.{verdict_as}
use Rattle.finishing.proofs.Ended.{bad_no}
use Rattle.starting.specs.Begun.{accepted, AnchoredAs, Holds, BegunAs}
use Rattle.starting.proofs.Accepts.{accepted_of, accepted_unread, accepted_bad, accepted_input}

-- the same program under another name
pub anchored_as : (p q : Program) {r : Result (Unit {0}) Refusal} {t : Slots} {links : List ℕ} → p ≡ q → AnchoredAs p r t links → AnchoredAs q r t links
anchored_as p q {r} {t} {links} e h = subst (λ (z : Program). AnchoredAs z r t links) e h

module _ (text : List ℕ) (over : ℕ → Slots) (links : List ℕ) where
  begun_as : (x : Judged Program) (r : Result ℕ Refusal) → accepted text ≡ x → BegunAs x r over links → BegunAs (accepted text) r over links
  begun_as x r e h = subst (λ (z : Judged Program). BegunAs z r over links) (sym e) h

  -- the text is refused
  pub begun_unread : (q : Refusal) → read_listing text ≡ no q → BegunAs (accepted text) (Err q) over links
  begun_unread q d = begun_as (no q) (Err q) (accepted_unread text q d) refl

  module _ (n : ℕ) (p : Program) (r : Result (Unit {0}) Refusal) (read : read_listing text ≡ ok p) (input : input_of (over n).frames (over n).starts (over n).count ≡ p)
      (h : AnchoredAs p r (over n) links) where
    -- its program is
    pub begun_bad : (q : Refusal) → r ≡ Err q → BegunAs (accepted text) (Err q) over links
    begun_bad q e = begun_as (no q) (Err q) (accepted_bad text p q read (bad_no (judge p) q (sym e ∙ h.answer))) refl

    -- it is accepted
    pub begun_good : r ≡ Ok tt → BegunAs (accepted text) (Ok n) over links
    begun_good e = on (judge p) refl
      where
        on : (x : Judged (List ℕ)) → judge p ≡ x → BegunAs (accepted text) (Ok n) over links
        on (ok image) j =
            let d = accepted_of text p image read j in
            begun_as (ok p) (Ok n) d (record { input = accepted_input text p d; read = input; starts = h.starts e })
        on (no q) j = let z : ◌≡◌ {A = Result (Unit {0}) Refusal} (Ok tt) (Err q) = sym e ∙ h.answer ∙ ap verdict_as j in clash (cc)

-- the answer taken apart
pub begun_read : (x : Judged Program) (r : Result ℕ Refusal) (over : ℕ → Slots) (links : List ℕ) (n : ℕ) → r ≡ Ok n → BegunAs x r over links → (p : Program) × (x ≡ ok p) × Holds p (over n) links
begun_read (ok p) r over links n e h = (p, refl, rw e at h)
begun_read (no q) r over links n e h = absurd (rw e at h)

pub begun_refused : (x : Judged Program) (r : Result ℕ Refusal) (over : ℕ → Slots) (links : List ℕ) (q : Refusal) → r ≡ Err q → BegunAs x r over links → x ≡ no q
begun_refused (ok p) r over links q e h = absurd (rw e at h)
begun_refused (no s) r over links q e h = let k : q ≡ s = rw e at h in sym (ap no k)
