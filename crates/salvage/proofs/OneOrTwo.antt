-- What is told of a line: nothing, or 7B, 1 or 2, and its place.
use mathlib.Core.Path.{◌≡◌, refl, sym, ap}
use mathlib.Core.Bool.{true, false, ◌||◌}
use mathlib.Core.List.{List, [], ◌∷◌}
use mathlib.Core.Logic.{◌⊎◌, inl, inr, ⊎_elim}
use Prim.Native.Nat.{ℕ}
use lib.Dec.{eqb}
use borrow.Author.Tests.{eqb-true}
use Rattle.laws.proofs.Tests.{or_true, clash}
use Rattle.rules.specs.declared.Refusal.{Refusal}
use Rattle.rules.specs.declared.Refusal.TheVariants.{Broken, Limit}
use Rattle.rules.specs.Refusals.{fault_of}
use Rattle.rules.specs.Answers.{at_place, Judged, ok, no, require, ◌>>=◌}
use Rattle.rules.specs.Expressions.{pair}
use Rattle.rules.specs.Programs.{Placeℕ, Program, Stmt}
use Rattle.rules.specs.Listing.{Line, ListingForm, unhex, within_limits, well_formed, read_frame_in, read_lines}
use Rattle.rules.specs.Output.{line_of}
use Rattle.promises.specs.Demand1.{has_number}
use Rattle.promises.proofs.Says.{Says, Nothing-more, says_require, says_bind}
use Rattle.promises.proofs.Frames.{OfReading, FramedIn, frame_read_in}
use Rattle.lines.specs.Alone.{by_itself, told}
use Rattle.salvage.specs.Promise.{OneOrTwo}

abbrev Either : Refusal → Type 0
Either r = has_number (1 ∷ 2 ∷ []) r ≡ true

-- whatever the line is
alone_says : (w : ListingForm) (l : Line) → Says Nothing-more Either (by_itself w l)
unfolding by_itself read_lines ◌>>=◌
alone_says w l =
    let s : List ℕ = unhex l.chars in
    says_bind Nothing-more Nothing-more Either
    (require (within_limits w 0 0 l.chars) (Limit (at_place 0)) (require (well_formed l) (Broken (at_place 0)) (read_frame_in w 0 s))) _
    (says_require Nothing-more Either (within_limits w 0 0 l.chars) (Limit (at_place 0)) _ refl (λ a.
    says_require Nothing-more Either (well_formed l) (Broken (at_place 0)) (read_frame_in w 0 s) refl (λ b.
    frame_says (read_frame_in w 0 s) (frame_read_in w 0 s))))
    (λ x h. tt)
  where
    frame_says : (j : Judged Stmt) → Says (FramedIn w 0 (unhex l.chars)) (OfReading 0) j → Says Nothing-more Either j
    frame_says (ok x) h = tt
    frame_says (no r) h = h.0

pub one_or_two : (w : ListingForm) (i : Placeℕ) (l : Line) → OneOrTwo w i l
one_or_two w i l = on (by_itself w l) (alone_says w l)
  where
    on : (j : Judged Program) → Says Nothing-more Either j
        → (told i j ≡ []) ⊎ ((told i j ≡ line_of (0x7B ∷ 1 ∷ pair i)) ⊎ (told i j ≡ line_of (0x7B ∷ 2 ∷ pair i)))
    on (ok p) h = inl refl
    on (no r) h =
        let n : ℕ = (fault_of r).number in
        let entry : ℕ → List ℕ = λ m. line_of (0x7B ∷ m ∷ pair i) in
        inr
        (⊎_elim
        (λ e. inl (ap entry (sym (eqb-true 1 n e))))
        (λ k. ⊎_elim (λ e. inr (ap entry (sym (eqb-true 2 n e)))) (λ e. clash (cc)) (or_true (eqb 2 n) false k))
        (or_true (eqb 1 n) (eqb 2 n || false) h))
