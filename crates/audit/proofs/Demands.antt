-- An audit is about the image that the run hands out, and its refusals are the run's.
use mathlib.Core.Path.{◌≡◌, refl, sym, ap, ◌∙◌, subst}
use mathlib.Core.List.{List}
use mathlib.Core.Option.{Option}
use Prim.Native.Nat.{ℕ}
use Rattle.rules.specs.declared.Settings.{Settings}
use Rattle.rules.specs.declared.Refusal.{Refusal}
use Rattle.rules.specs.declared.Refusal.TheVariants.{Room}
use Rattle.rules.specs.Answers.{Judged, ok, no, ◌>>=◌}
use Rattle.rules.specs.Programs.{Addressℕ, Program}
use Rattle.rules.specs.Layout.{Origin, origin_from}
use Rattle.rules.specs.Rewriting.{optimized}
use Rattle.rules.specs.Run.{Output, output_of, rewritten, run}
use Rattle.laws.proofs.Tests.{clash}
use Rattle.promises.proofs.Accepted.{accepted_iff}
use Rattle.starting.specs.Begun.{accepted}
use Rattle.starting.proofs.Accepts.{accepted_of, accepted_run, run_accepted, accepted_never_12}
use Rattle.audit.specs.Audit.{Finding, held, audit}
use Rattle.audit.specs.Promise.{Says, Audited, AsRun}
use Rattle.audit.proofs.Findings.{held_says, held_same}

-- of an accepted listing
abbrev finding : Settings → Program → (shipped : List ℕ) → Finding
finding asked p shipped = held (λ a. origin_from 0 0 (optimized asked p).program a) (rewritten asked p).image shipped

pub audit_of : (asked : Settings) (text shipped : List ℕ) (p : Program) → accepted text ≡ ok p → audit asked text shipped ≡ ok (finding asked p shipped)
unfolding audit ◌>>=◌
audit_of asked text shipped p e = rw e

pub audit_no : (asked : Settings) (text shipped : List ℕ) (r : Refusal) → accepted text ≡ no r → audit asked text shipped ≡ no r
unfolding audit ◌>>=◌
audit_no asked text shipped r e = rw e

-- audited: of every run that hands something out, whatever rooms it was lent
pub audited : (asked : Settings) (text shipped : List ℕ) (listing_room image_room : ℕ) (o : Output) → run asked text listing_room image_room ≡ ok o
    → Audited asked text shipped o
audited asked text shipped listing_room image_room o e =
    let a = (accepted_iff asked text listing_room image_room o).0 e in
    let p = a.program in
    let of : Addressℕ → Option Origin = λ x. origin_from 0 0 (optimized asked p).program x in
    let image : (rewritten asked p).image ≡ o.image = unfold output_of in sym (ap (λ (x : Output). x.image) a.result) in
    let reads : accepted text ≡ ok p = accepted_of text p a.image a.keeps_rules a.assembles in
    let both = held_same of (rewritten asked p).image shipped in
    record {
      program = p;
      reads = reads;
      finding = finding asked p shipped;
      found = audit_of asked text shipped p reads;
      says = subst (λ (l : List ℕ). Says of l shipped (finding asked p shipped)) image (held_says of (rewritten asked p).image shipped);
      same_only = (λ z. both.0 z ∙ image, λ z. both.1 (z ∙ sym image));
    }

-- as-run: a refusal is the one that the run gives, both ways, and never 12
pub as_run : (asked : Settings) (text shipped : List ℕ) → AsRun asked text shipped
as_run asked text shipped =
    record {
      refused = λ r e a b. accepted_run text asked r a b (refused r (accepted text) refl e);
      back = λ r a b other e. audit_no asked text shipped r (run_accepted text asked r a b other e);
      never_12 = λ n e. accepted_never_12 text asked n (refused (Room n) (accepted text) refl e);
    }
  where
    refused : (r : Refusal) (x : Judged Program) → accepted text ≡ x → audit asked text shipped ≡ no r → accepted text ≡ no r
    refused r (ok p) d e = let z : ok (finding asked p shipped) ≡ no r = sym (audit_of asked text shipped p d) ∙ e in clash (cc)
    refused r (no q) d e = let z : no q ≡ no r = sym (audit_no asked text shipped q d) ∙ e in let y : q ≡ r = cc in d ∙ ap no y
