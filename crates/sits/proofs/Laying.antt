-- What laying out the statements before n leaves says where n sits.
use mathlib.Core.Path.{◌≡◌, refl, sym, ap, ◌∙◌, subst}
use mathlib.Core.List.{List, []}
use Prim.Native.Nat.{ℕ, ◌+◌, ◌≤◌, ◌<◌}
use native.Mathlib.Omega.{arith}
use lib.ListN.{length, get_or, drop, replicate, get_or-replicate}
use borrow.Author.Tests.{le-leb, lt-leb}
use Rattle.std.specs.Prelude.{Result, Err, Ok}
use Rattle.laws.specs.Counts.{tab}
use Rattle.laws.proofs.Counts.{length_tab, get_or_tab}
use Rattle.rules.specs.declared.Refusal.{Refusal}
use Rattle.rules.specs.declared.Refusal.TheVariants.{Absent}
use Rattle.rules.specs.Answers.{Check, ok, no, ◌>>◌, require}
use Rattle.rules.specs.Programs.{Program}
use Rattle.rules.specs.Layout.{position}
use Rattle.rules.specs.Names.{placed}
use Rattle.rules.specs.Judging.{positions_fit}
use Rattle.listing.specs.Tables.{frame_at, input_at, input_of, form_in, Held}
use Rattle.slots.specs.Slots.{Slots, slots, no_owner, program_of}
use Rattle.slots.specs.State.{starts_in, forms_in}
use Rattle.env.specs.Answers.{checked_as}
use Rattle.env.specs.Tables.{Any, LaidOut}
use Rattle.env.proofs.Filled.{get_filled}
use Rattle.asm.specs.Starting.{Started}
use Rattle.asm.proofs.Started.{program_as_read}
use Rattle.sits.specs.Sits.{sits_among}

-- what a pass says of the check
pub passed : (x : Check) → (Ok tt) ≡ checked_as x → x ≡ ok tt
passed (ok u) e = refl
passed (no r) e = absurd (let z : ◌≡◌ {A = ℕ} 0 1 = cc in omega arith)

pub refused : (x : Check) (q : Refusal) → Err q ≡ checked_as x → x ≡ no q
refused (ok u) q e = absurd (let z : ◌≡◌ {A = ℕ} 0 1 = cc in omega arith)
refused (no r) q e = let z : q ≡ r = cc in sym (ap no z)

-- the frames begin where they were read
pub begun : (frames starts : List ℕ) (count : ℕ) (state : List (List ℕ)) (r : Result (Unit {0}) Refusal) (old positions : List ℕ) → Started frames starts count state
    → Any frames (starts_in state) count (forms_in state) (λ t. LaidOut t r old positions) → Any frames starts count (forms_in state) (λ t. LaidOut t r old positions)
begun frames starts count state r old positions s h =
    subst (λ (z : List ℕ). Any frames z count (forms_in state) (λ t. LaidOut t r old positions)) s.begins h

module _ (frames starts forms old positions : List ℕ) (count : ℕ) (held : Held frames starts count)
    (own : (i : ℕ) → i < count → get_or forms i 0 ≡ form_in (frame_at frames starts i))
    (r : Result (Unit {0}) Refusal) (laid : Any frames starts count forms (λ t. LaidOut t r old positions)) (n : ℕ) where
  abbrev p : Program
  p = input_of frames starts count

  -- each place carries its own target, and none became an inner label
  abbrev pub t : Slots
  t = slots frames starts count forms (tab (λ i. i) count) (replicate count no_owner) []

  abbrev pub left : LaidOut t r old positions
  left = laid (tab (λ i. i) count) (replicate count no_owner) []

  pub as_read : program_of t ≡ p
  as_read =
      program_as_read frames starts count held forms (tab (λ i. i) count) (replicate count no_owner) []
      own
      (λ i l. get_or_tab (λ k. k) count i 0 l)
      (λ i l. get_or-replicate count i no_owner 0 l)

  pub answers : r ≡ checked_as (positions_fit (placed p))
  answers = left.answer ∙ ap (λ (q : Program). checked_as (positions_fit (placed q))) as_read

  pub many : length p ≡ count
  unfolding input_of
  many = length_tab (input_at frames starts) count

  pub laid_refused : (q : Refusal) → r ≡ Err q → sits_among n p ≡ no q
  unfolding sits_among ◌>>◌
  laid_refused q e = rw (refused (positions_fit (placed p)) q (sym e ∙ answers))

  pub laid_absent : r ≡ Ok tt → count < n → sits_among n p ≡ no Absent
  unfolding sits_among ◌>>◌ require
  laid_absent e l = rw (passed (positions_fit (placed p)) (sym e ∙ answers), lt-leb n (length p) (omega (arith, many)))

  pub laid_at : r ≡ Ok tt → n ≤ count → sits_among n p ≡ ok (get_or positions n 0)
  unfolding sits_among ◌>>◌ require
  laid_at e l =
      let g : LaidOut t (Ok tt) old positions = rw e at left in
      let q : get_or positions n 0 ≡ position p n =
      get_filled (position (program_of t)) (count + 1) positions (drop (count + 1) old) n 0 g.positions (omega arith)
      ∙ ap (λ (x : Program). position x n) as_read in
      rw (passed (positions_fit (placed p)) (sym e ∙ answers), le-leb n (length p) (omega (arith, many))) (ap ok (sym q))
