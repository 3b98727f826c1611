-- What the entry answers: the count is the number of lines, and 12 is judged by it.
use mathlib.Core.Path.{◌≡◌, refl, sym, ap, ◌∙◌, subst}
use mathlib.Core.List.{List}
use mathlib.Core.Bool.{Bool, true, false}
use mathlib.Core.Logic.{◌⊎◌, inl, inr}
use Prim.Native.Nat.{ℕ, ◌*◌, ◌≤◌, ◌<◌}
use native.Mathlib.Omega.{arith}
use lib.Dec.{leb}
use lib.ListN.{length}
use borrow.Author.Tests.{le-leb, lt-leb}
use Rattle.targets.specs.declared.Counts.{Counts}
use Rattle.std.specs.Prelude.{Err, Result, Ok}
use Rattle.rules.specs.declared.Settings.{Settings}
use Rattle.rules.specs.declared.Refusal.{Refusal}
use Rattle.rules.specs.declared.Refusal.TheVariants.{Room}
use Rattle.rules.specs.Answers.{Judged, ok, no, ◌>>=◌, require}
use Rattle.rules.specs.Programs.{Program}
use Rattle.rules.specs.Rewriting.{optimized}
use Rattle.rules.specs.Run.{run}
use Rattle.laws.proofs.Tests.{clash}
use Rattle.starting.specs.Begun.{accepted}
use Rattle.starting.proofs.Accepts.{accepted_run}
use Rattle.digits.specs.Digits.{laid}
use Rattle.digits.proofs.Rooms.{laid_front}
use Rattle.targets.specs.Targets.{Target, targets}
use Rattle.targets.specs.Entry.{target_lines, marks, fitted, told, Leaves, targets_to, Fits}
use Rattle.targets.proofs.Listed.{length_lines}

-- ---- of so many transfers
module _ (ts : List Target) (k : ℕ) (c : k ≡ length ts) (room : List ℕ) where
  size : length (target_lines ts) ≡ 45 * k
  size = omega (arith, length_lines ts)

  fitted_short : (n : ℕ) → length room < 45 * k → Leaves (fitted n (length room) ts) (Err (Room n)) room room
  unfolding fitted require
  fitted_short n h = rw (lt-leb (length (target_lines ts)) (length room) (omega (arith, size))) (record { answer = refl; room = refl })

  fitted_whole : (n m : ℕ) (out : List ℕ) → 45 * k ≤ length room → out ≡ laid room 0 (target_lines ts) → m ≡ marks ts
      → Leaves (fitted n (length room) ts) (Ok (record { bytes = 45 * k; transfers = k; marked = m })) room out
  unfolding fitted require
  fitted_whole n m out h o e =
      rw (le-leb (length (target_lines ts)) (length room) (omega (arith, size)))
      (record { answer = rw (size, ← c, e); room = o ∙ laid_front room (target_lines ts) })

-- ---- of an end form
module _ (p e : Program) (count k : ℕ) (room : List ℕ) (lp : length p ≡ count) (le : length e ≡ count) (c : k ≡ length (targets_to p e count)) where
  to_end : length (targets_to p e count) ≡ length (targets_to p e (length e))
  to_end = ap (λ (n : ℕ). length (targets_to p e n)) (sym le)

  pub lines_fit : 45 * k ≤ length room → length (target_lines (targets_to p e count)) ≤ length room
  lines_fit h = omega (arith, size (targets_to p e count) k c room)

  pub fits_short : length room < 45 * k → Fits p e (Err (Room count)) room room
  fits_short h = rw lp (fitted_short (targets_to p e (length e)) k (c ∙ to_end) room count h)

  pub fits_whole : (m : ℕ) (out : List ℕ) → 45 * k ≤ length room → out ≡ laid room 0 (target_lines (targets_to p e count)) → m ≡ marks (targets_to p e count)
      → Fits p e (Ok (record { bytes = 45 * k; transfers = k; marked = m })) room out
  fits_whole m out h o q =
      let z : targets_to p e count ≡ targets_to p e (length e) = ap (targets_to p e) (sym le) in
      fitted_whole (targets_to p e (length e)) k (c ∙ to_end) room (length p) m out h (o ∙ ap (λ (l : List Target). laid room 0 (target_lines l)) z) (q ∙ ap marks z)

-- the same programs under other names
pub fits_as : (p q e f : Program) (r : Result Counts Refusal) (a b : List ℕ) → p ≡ q → e ≡ f → Fits p e r a b → Fits q f r a b
fits_as p q e f r a b x y h = subst (λ (z : Program). Fits q z r a b) y (subst (λ (z : Program). Fits z e r a b) x h)

pub fits_read : (asked : Settings) (p q : Program) {r : Result Counts Refusal} {a b : List ℕ} → p ≡ q → Fits p (optimized asked p).program r a b → Fits q (optimized asked q).program r a b
fits_read asked p q {r} {a} {b} e h = subst (λ (z : Program). Fits z (optimized asked z).program r a b) e h

-- ---- of a listing
module _ (asked : Settings) (text room : List ℕ) where
  pub told_refused : (q : Refusal) → accepted text ≡ no q → Leaves (told asked text (length room)) (Err q) room room
  unfolding told ◌>>=◌
  told_refused q e = rw e (record { answer = refl; room = refl })

  pub told_fits : (p : Program) (r : Result Counts Refusal) (out : List ℕ) → accepted text ≡ ok p → Fits p (optimized asked p).program r room out
      → Leaves (told asked text (length room)) r room out
  unfolding told ◌>>=◌ targets targets_to
  told_fits p r out e h = rw e h

-- told-refusal: a refusal is the run's, whatever rooms that is lent, or 12 with the statement count
module _ (asked : Settings) (text : List ℕ) (room : ℕ) (r : Refusal) (h : told asked text room ≡ no r) where
  abbrev AsRun : Type 0
  AsRun = ((a b : ℕ) → run asked text a b ≡ no r) ⊎ ((p : Program) × (accepted text ≡ ok p) × (r ≡ Room (length p)))

  short_of : (p : Program) (b : Bool) (ts : List Target) → require b (Room (length p)) (ok ts) ≡ no r → r ≡ Room (length p)
  unfolding require
  short_of p true ts e = clash (cc)
  short_of p false ts e = cc

  pub told_refusal : AsRun
  unfolding told ◌>>=◌ fitted
  told_refusal = on (accepted text) refl
    where
      on : (x : Judged Program) → accepted text ≡ x → AsRun
      on (ok p) e = inr (p, e, short_of p (leb (length (target_lines (targets asked p))) room) (targets asked p) (rw e at h))
      on (no q) e = let z : ◌≡◌ {A = Judged (List Target)} (no q) (no r) = rw e at h in let y : q ≡ r = cc in inl (λ a b. accepted_run text asked r a b (e ∙ ap no y))

-- "Show that any two results allowed by the contract coincide": `targets`
pub one_told : (x : Judged (List Target)) (room : List ℕ) (r s : Result Counts Refusal) (a b : List ℕ) → Leaves x r room a → Leaves x s room b → (r ≡ s) × (a ≡ b)
one_told x room r s a b h k = (h.answer ∙ sym k.answer, h.room ∙ sym k.room)
