-- The attempts by their numbers: what try m comes to.
use mathlib.Core.Path.{◌≡◌, refl, sym, ap, ◌∙◌}
use mathlib.Core.Bool.{true, false}
use mathlib.Core.Option.{Option}
use Prim.Native.Nat.{ℕ, ◌/◌, ◌%◌, ◌≤◌, ◌<◌}
use borrow.Author.Tests.{lt-ltb, le-ltb, ne_eqb}
use Rattle.std.specs.Prelude.{Option as AnOption, None}
use Rattle.laws.specs.Options.{given}
use Rattle.laws.proofs.Options.{given_true, given_false}
use Rattle.rules.specs.declared.Settings.{Settings}
use Rattle.rules.specs.Forms.{form_at, is_transfer, jmp, jmpf, br, call, callf}
use Rattle.rules.specs.Judging.{names_of}
use Rattle.rules.specs.Programs.{Program}
use Rattle.rules.specs.Rewriting.{Pattern}
use Rattle.slots.specs.Slots.{Agree}
use Rattle.patterns.specs.Order.{pattern_at}
use Rattle.optimize.proofs.Shorter.{jump_for, call_for}
use Rattle.staying.specs.declared.Reason.{Reason}
use Rattle.staying.specs.Reasons.{Attempt, fold, shrink, attempt_at, is_asked, reason_at, attempted_at, reason_in}
use Rattle.why.specs.Tried.{attempted_as, fold_at, shrink_at}
use Rattle.why.proofs.Said.{long_branch}

pub br_fits : Agree br jmpf
br_fits = jump_for br jmpf refl refl

pub jmp_fits : Agree jmp jmpf
jmp_fits = jump_for jmp jmpf refl refl

pub call_fits : Agree call callf
call_fits = call_for callf refl

pub jmpf_transfers : is_transfer jmpf ≡ true
unfolding is_transfer form_at
jmpf_transfers = refl

pub callf_transfers : is_transfer callf ≡ true
unfolding is_transfer form_at
callf_transfers = refl

module _ (asked : Settings) (p : Program) (m : ℕ) where
  -- the attempt of that number, off and on
  off : (a : Attempt) → attempt_at (m % 26) ≡ a → is_asked asked a ≡ false → None ≡ attempted_as (reason_in asked p m)
  unfolding attempted_at
  off a e h =
      sym (ap attempted_as (ap (λ (b : Attempt). given (is_asked asked b) (reason_at (names_of p) p b (m / 26))) e ∙ given_false (is_asked asked a) (reason_at (names_of p) p a (m / 26)) h))

  on : (a : Attempt) → attempt_at (m % 26) ≡ a → is_asked asked a ≡ true → (o : Option Reason) → reason_at (names_of p) p a (m / 26) ≡ o
      → (r : AnOption Reason) → r ≡ attempted_as o → r ≡ attempted_as (reason_in asked p m)
  unfolding attempted_at
  on a e h o f r g =
      g
      ∙ sym (ap attempted_as (ap (λ (b : Attempt). given (is_asked asked b) (reason_at (names_of p) p b (m / 26))) e ∙ given_true (is_asked asked a) (reason_at (names_of p) p a (m / 26)) h ∙ f))

  -- ---- folds
  is_fold : m % 26 < 23 → attempt_at (m % 26) ≡ fold (m % 26)
  unfolding attempt_at
  is_fold l = rw (lt-ltb (m % 26) 23 l)

  pub fold_off : m % 26 < 23 → asked.folds ≡ false → None ≡ attempted_as (reason_in asked p m)
  fold_off l h = off (fold (m % 26)) (is_fold l) h

  pub fold_on : m % 26 < 23 → asked.folds ≡ true → (x : Pattern) → x ≡ pattern_at (m % 26) → (r : AnOption Reason) → r ≡ attempted_as (fold_at p x (m / 26))
      → r ≡ attempted_as (reason_in asked p m)
  fold_on l h x e r g = on (fold (m % 26)) (is_fold l) h (fold_at p x (m / 26)) (ap (λ (y : Pattern). fold_at p y (m / 26)) (sym e)) r g

  -- ---- shorter forms
  is_br : m % 26 ≡ 23 → attempt_at (m % 26) ≡ shrink br
  unfolding attempt_at
  is_br e = rw e

  is_jmp : m % 26 ≡ 24 → attempt_at (m % 26) ≡ shrink jmp
  unfolding attempt_at
  is_jmp e = rw e

  is_call : 23 ≤ m % 26 → (m % 26 ≡ 23 → ⊥) → (m % 26 ≡ 24 → ⊥) → attempt_at (m % 26) ≡ shrink call
  unfolding attempt_at
  is_call l a b = rw (le-ltb (m % 26) 23 l, ne_eqb (m % 26) 23 a, ne_eqb (m % 26) 24 b)

  pub br_on : m % 26 ≡ 23 → (r : AnOption Reason) → r ≡ attempted_as (shrink_at (names_of p) p br jmpf (m / 26)) → r ≡ attempted_as (reason_in asked p m)
  br_on e r g = on (shrink br) (is_br e) refl (shrink_at (names_of p) p br jmpf (m / 26)) (long_branch (names_of p) p br jmpf (m / 26)) r g

  pub jmp_on : m % 26 ≡ 24 → (r : AnOption Reason) → r ≡ attempted_as (shrink_at (names_of p) p jmp jmpf (m / 26)) → r ≡ attempted_as (reason_in asked p m)
  jmp_on e r g = on (shrink jmp) (is_jmp e) refl (shrink_at (names_of p) p jmp jmpf (m / 26)) (long_branch (names_of p) p jmp jmpf (m / 26)) r g

  pub call_off : 23 ≤ m % 26 → (m % 26 ≡ 23 → ⊥) → (m % 26 ≡ 24 → ⊥) → asked.callf ≡ false → None ≡ attempted_as (reason_in asked p m)
  call_off l a b h = off (shrink call) (is_call l a b) h

  pub call_on : 23 ≤ m % 26 → (m % 26 ≡ 23 → ⊥) → (m % 26 ≡ 24 → ⊥) → asked.callf ≡ true → (r : AnOption Reason)
      → r ≡ attempted_as (shrink_at (names_of p) p call callf (m / 26)) → r ≡ attempted_as (reason_in asked p m)
  call_on l a b h r g = on (shrink call) (is_call l a b) h (shrink_at (names_of p) p call callf (m / 26)) (long_branch (names_of p) p call callf (m / 26)) r g
