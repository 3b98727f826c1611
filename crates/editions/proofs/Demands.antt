-- All that is promised of a run holds under an edition: cited at the settings that the store has for it.
use mathlib.Core.Path.{◌≡◌, refl, ap}
use mathlib.Core.List.{List}
use Prim.Native.Nat.{ℕ}
use lib.ListN.{length}
use Rattle.std.specs.Prelude.{Err, Result, Ok}
use Rattle.laws.proofs.Tests.{clash}
use Rattle.rules.specs.declared.Refusal.{Refusal}
use Rattle.rules.specs.declared.Sizes.{Sizes}
use Rattle.rules.specs.Answers.{Judged, ok, no, ◌>>=◌}
use Rattle.rules.specs.Run.{Output, answer_of}
use Rattle.promises.specs.Demand1.{Cause}
use Rattle.promises.specs.Demand2.{Accepted, Answered}
use Rattle.promises.proofs.Entry.{on_acceptance, accepts, on_refusal, refuses}
use Rattle.walk.proofs.Entry.{walked_alike}
use Rattle.finishing.specs.Ending.{Delivers}
use Rattle.store.specs.declared.Edition.{Edition}
use Rattle.editions.specs.Under.{under}
use Rattle.editions.specs.Promise.{AcceptedUnder, RefusedUnder, by_store, by_run}

module _ (text listing image : List ℕ) (listing' image' : List ℕ) where
  abbrev Under : Judged Edition → Result Sizes Refusal → Type 0
  Under x r = Delivers (under x text (length listing) (length image)) r listing image listing' image'

  -- the contract of the main entry, at the settings found
  pub answered : (e : Edition) (r : Result Sizes Refusal) → Under (ok e) r → Answered e.settings text listing image r listing' image'
  unfolding under ◌>>=◌
  answered e r d = record { answers = d.answers; listing_is = d.listing_is; image_is = d.image_is }

  pub accepted_under : (asked : Judged Edition) (sizes : Sizes) → Under asked (Ok sizes)
      → AcceptedUnder asked text listing image sizes listing' image'
  unfolding under ◌>>=◌
  accepted_under (ok e) sizes d =
      let a = answered e (Ok sizes) d in
      record {
        edition = e;
        found = refl;
        on_acceptance = on_acceptance e.settings text listing image sizes listing' image' a;
        walked_alike = walked_alike e.settings text listing image sizes listing' image' a;
      }
  accepted_under (no r) sizes d = let q = d.answers in clash (cc)

  pub refused_under : (asked : Judged Edition) (r : Refusal) → Under asked (Err r)
      → RefusedUnder asked text listing image r listing' image'
  unfolding under ◌>>=◌
  refused_under (ok e) r d = by_run e refl (on_refusal e.settings text listing image r listing' image' (answered e (Err r) d))
  refused_under (no s) r d =
      let q : s ≡ r = told s r d.answers in
      by_store (ap no q) d.listing_is d.image_is
    where
      told : (s r : Refusal) → ◌≡◌ {A = Result Sizes Refusal} (Err r) (Err s) → s ≡ r
      told s r e = cc

  -- and "exactly when": what is accepted under the settings found is answered so, and what has a cause there is refused with it
  pub accepts_under : (e : Edition) (o : Output) (r : Result Sizes Refusal) → Under (ok e) r
      → Accepted e.settings text (length listing) (length image) o → r ≡ answer_of (ok o)
  accepts_under e o r d a = accepts e.settings text listing image o r listing' image' (answered e r d) a

  pub refuses_under : (e : Edition) (s : Refusal) (r : Result Sizes Refusal) → Under (ok e) r
      → Cause e.settings text (length listing) (length image) s → r ≡ Err s
  refuses_under e s r d c = refuses e.settings text listing image s r listing' image' (answered e r d) c
