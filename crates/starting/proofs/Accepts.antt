-- A listing is accepted where a run with room enough accepts it, and is refused as the run refuses it.
use mathlib.Core.Path.{◌≡◌, refl, sym, ap, ◌∙◌}
use mathlib.Core.List.{List}
use mathlib.Core.Bool.{Bool, true, false}
use Prim.Native.Nat.{ℕ}
use lib.ListN.{length}
use Rattle.laws.proofs.Tests.{clash}
use Rattle.rules.specs.declared.Settings.{Settings}
use Rattle.rules.specs.declared.Refusal.{Refusal}
use Rattle.rules.specs.declared.Refusal.TheVariants.{Room}
use Rattle.rules.specs.Answers.{Judged, ok, no, ◌>>=◌, ◌>>◌, require}
use Rattle.rules.specs.Programs.{Program}
use Rattle.rules.specs.Listing.{read_listing, beside_of}
use Rattle.rules.specs.Judging.{judge}
use Rattle.rules.specs.Run.{Output, output_of, fits, run, listing_room_of_program, image_room_of_program}
use Rattle.promises.specs.Demand2.{Input}
use Rattle.promises.proofs.OutputRoom.{never_room}
use Rattle.starting.specs.Begun.{accepted}

-- a refusal of one thing as that of another
ap_no : {A B : Type 0} {q r : Refusal} → ◌≡◌ {A = Judged A} (no q) (no r) → ◌≡◌ {A = Judged B} (no q) (no r)
ap_no {q = q} {r = r} e = let z : q ≡ r = cc in ap no z

module _ (text : List ℕ) where
  pub accepted_of : (p : Program) (image : List ℕ) → read_listing text ≡ ok p → judge p ≡ ok image → accepted text ≡ ok p
  unfolding accepted ◌>>=◌ ◌>>◌
  accepted_of p image d j = rw (d, j)

  pub accepted_unread : (r : Refusal) → read_listing text ≡ no r → accepted text ≡ no r
  unfolding accepted ◌>>=◌
  accepted_unread r d = rw d

  pub accepted_bad : (p : Program) (r : Refusal) → read_listing text ≡ ok p → judge p ≡ no r → accepted text ≡ no r
  unfolding accepted ◌>>=◌ ◌>>◌
  accepted_bad p r d j = rw (d, j)

  -- accepted-input: what is accepted was read and assembles
  pub accepted_input : (p : Program) → accepted text ≡ ok p → Input p
  accepted_input p e = on (read_listing text) refl
    where
      judged : (q : Program) (x : Judged (List ℕ)) → judge q ≡ x → read_listing text ≡ ok q → Input p
      judged q (ok image) j d =
          let same : ok q ≡ ok p = sym (accepted_of q image d j) ∙ e in
          let z : q ≡ p = cc in
          record { text = text; reads = d ∙ ap ok z; image = image; assembles = ap judge (sym z) ∙ j }
      judged q (no r) j d = let z : ok p ≡ no r = sym e ∙ accepted_bad q r d j in clash (cc)

      on : (x : Judged Program) → read_listing text ≡ x → Input p
      on (ok q) d = judged q (judge q) refl d
      on (no r) d = let z : ok p ≡ no r = sym e ∙ accepted_unread r d in clash (cc)

  run_unread : (asked : Settings) (a b : ℕ) (q : Refusal) → read_listing text ≡ no q → run asked text a b ≡ no q
  unfolding run ◌>>=◌
  run_unread asked a b q d = rw d

  run_bad : (asked : Settings) (a b : ℕ) (p : Program) (q : Refusal) → read_listing text ≡ ok p → judge p ≡ no q → run asked text a b ≡ no q
  unfolding run ◌>>=◌ ◌>>◌
  run_bad asked a b p q d j = rw (d, j)

  -- accepted-run: a refusal is the run's, whatever rooms it is lent
  pub accepted_run : (asked : Settings) (r : Refusal) (listing_room image_room : ℕ) → accepted text ≡ no r → run asked text listing_room image_room ≡ no r
  accepted_run asked r a b e = on (read_listing text) refl
    where
      judged : (p : Program) (x : Judged (List ℕ)) → judge p ≡ x → read_listing text ≡ ok p → run asked text a b ≡ no r
      judged p (ok image) j d = let z : ok p ≡ no r = sym (accepted_of p image d j) ∙ e in clash (cc)
      judged p (no q) j d = run_bad asked a b p q d j ∙ ap_no (sym (accepted_bad p q d j) ∙ e)

      on : (x : Judged Program) → read_listing text ≡ x → run asked text a b ≡ no r
      on (ok p) d = judged p (judge p) refl d
      on (no q) d = run_unread asked a b q d ∙ ap_no (sym (accepted_unread q d) ∙ e)

  -- accepted-never-12: no room is lent
  pub accepted_never_12 : (asked : Settings) (n : ℕ) → accepted text ≡ no (Room n) → ⊥
  accepted_never_12 asked n e = never_room asked text n (accepted_run asked (Room n) listing_room_of_program image_room_of_program e)

  run_good : (asked : Settings) (a b : ℕ) (p : Program) (image : List ℕ) → read_listing text ≡ ok p → judge p ≡ ok image
      → run asked text a b ≡ require (fits a b (output_of asked (beside_of text) p)) (Room (length p)) (ok (output_of asked (beside_of text) p))
  unfolding run ◌>>=◌ ◌>>◌
  run_good asked a b p image d j = rw (d, j)

  -- run-accepted: and back, what a run refuses in any rooms is not accepted, but where the refusal is 12
  pub run_accepted : (asked : Settings) (r : Refusal) (listing_room image_room : ℕ) → ((n : ℕ) → r ≡ Room n → ⊥) → run asked text listing_room image_room ≡ no r
      → accepted text ≡ no r
  unfolding require
  run_accepted asked r a b other e = on (read_listing text) refl
    where
      short : (p : Program) (o : Output) (t : Bool) → require t (Room (length p)) (ok o) ≡ no r → accepted text ≡ no r
      short p o true z = clash (cc)
      short p o false z = let y : r ≡ Room (length p) = cc in absurd (other (length p) y)

      judged : (p : Program) (x : Judged (List ℕ)) → judge p ≡ x → read_listing text ≡ ok p → accepted text ≡ no r
      judged p (ok image) j d = short p (output_of asked (beside_of text) p) (fits a b (output_of asked (beside_of text) p)) (sym (run_good asked a b p image d j) ∙ e)
      judged p (no q) j d = accepted_bad p q d j ∙ ap_no (sym (run_bad asked a b p q d j) ∙ e)

      on : (x : Judged Program) → read_listing text ≡ x → accepted text ≡ no r
      on (ok p) d = judged p (judge p) refl d
      on (no q) d = accepted_unread q d ∙ ap_no (sym (run_unread asked a b q d) ∙ e)
