-- The target that is anchored at a place of a listing as read, its value, and the origin of a value.
use mathlib.Core.Path.{◌≡◌, refl, ap, ◌∙◌}
use mathlib.Core.List.{List}
use mathlib.Core.Option.{none}
use mathlib.Core.Bool.{Bool, true, false, ◌&&◌, not, cond}
use Prim.Native.Nat.{ℕ, ◌-◌, ◌<◌}
use native.Mathlib.Omega.{arith}
use lib.Dec.{T}
use lib.IntN.{ℤ, pos, negsuc, nat_abs}
use lib.ListN.{length, get_or}
use lib.Signed.{lt_z, non_neg}
use mir.Syntax.{w32, w64}
use mir.Val.{Fits, SFits}
use mir.Facts.{Fits-nat_abs}
use borrow.Author.Tests.{ltb-true}
use Rattle.rules.specs.declared.Unvalued.{Unvalued}
use Rattle.std.specs.Prelude.{Result, Ok}
use Rattle.laws.proofs.Tests.{clash, true_false, first_false, second_false, and_both}
use Rattle.rules.specs.Values.{nat}
use Rattle.rules.specs.Forms.{form_at, is_transfer, operands_at}
use Rattle.rules.specs.Programs.{Stmt, gone, instr, label, variable, comment, org, bytes, words, pad, args_of, last_of, Program, at}
use Rattle.rules.specs.Layout.{origin_from, origin}
use Rattle.rules.specs.Names.{Key, Entry, context_at}
use Rattle.rules.specs.Rewriting.{is_change_jump, is_anchored}
use Rattle.rules.specs.Statements.{argument_at}
use Rattle.expression.specs.Linked.{Linked}
use Rattle.expression.proofs.Links.{linked_drop}
use Rattle.slots.specs.Slots.{Slots, written, target_of, program_of, Sound}
use Rattle.patterns.specs.Targets.{stands_at, form_in, TargetIn, last_bytes, last_links}
use Rattle.patterns.proofs.Programs.{at_program}
use Rattle.patterns.proofs.Instructions.{transfer_slot, carried_target, last_target, target_written}
use Rattle.anchors.specs.Anchored.{constant_value, origin_at, AsRead}

-- ---- values

pub not_negative : (z : ℤ) → lt_z z (pos 0) ≡ false → z ≡ pos (nat z)
not_negative (pos a) e = refl
not_negative (negsuc a) e = true_false e

pub address_fits : (z : ℤ) → SFits w32 z → z ≡ pos (nat z) → T (non_neg z) × Fits w64 (nat_abs z)
address_fits (pos a) f e = (tt, Fits-nat_abs tt f)
address_fits (negsuc a) f e = clash (cc)

pub address_is : (z : ℤ) → z ≡ pos (nat z) → nat_abs z ≡ nat z
address_is (pos a) e = refl
address_is (negsuc a) e = clash (cc)

module _ (p : Program) where
  pub origin_negative : (z : ℤ) → lt_z z (pos 0) ≡ true → origin p (Ok z) ≡ none
  unfolding origin
  origin_negative (pos a) e = absurd (omega (arith, ltb-true a 0 e))
  origin_negative (negsuc a) e = refl

  pub origin_address : (z : ℤ) → z ≡ pos (nat z) → origin p (Ok z) ≡ origin_from 0 0 p (nat z)
  unfolding origin
  origin_address (pos a) e = refl
  origin_address (negsuc a) e = clash (cc)

-- ---- a target by the links beside it

pub last_linked : (env : ℕ → Result ℤ Unvalued) (s links : List ℕ) (values : List ℤ) (limit : ℕ) → Linked env s links values limit
    → Linked env (last_bytes s) (last_links s links) values limit
unfolding last_bytes last_links
last_linked env s links values limit h =
    linked_drop s links values limit env (argument_at s (operands_at (get_or s 1 0)) 2 (length (operands_at (get_or s 1 0)) - 1)) h

-- ---- which targets are anchored

anchored_form : (names : List Entry) (p : Program) (i : ℕ) (x : Stmt) → is_anchored names p i x ≡ is_transfer (form_in x) && not (is_change_jump names p i)
unfolding is_anchored is_transfer form_at
anchored_form names p i gone = refl
anchored_form names p i (instr f xs c) = refl
anchored_form names p i (label n) = refl
anchored_form names p i (variable n e) = refl
anchored_form names p i (comment x) = refl
anchored_form names p i (org l) = refl
anchored_form names p i (bytes es) = refl
anchored_form names p i (words es) = refl
anchored_form names p i (pad add m) = refl

module _ (names : List Entry) (moving : List Key) (p : Program) (i : ℕ) where
  abbrev test : Bool
  test = is_transfer (form_in (at p i)) && not (is_change_jump names p i)

  origin_by : (b : Bool) → test ≡ b → origin_at names moving p i ≡ cond b (origin p (constant_value names moving (context_at p i) (last_of (args_of (at p i))))) none
  unfolding origin_at
  origin_by b e = ap (λ (c : Bool). cond c (origin p (constant_value names moving (context_at p i) (last_of (args_of (at p i))))) none) (anchored_form names p i (at p i) ∙ e)

  -- no transfer, or a change jump: nothing to anchor
  pub origin_other : is_transfer (form_in (at p i)) ≡ false → origin_at names moving p i ≡ none
  origin_other n = origin_by false (first_false (is_transfer (form_in (at p i))) (not (is_change_jump names p i)) n)

  pub origin_change : is_change_jump names p i ≡ true → origin_at names moving p i ≡ none
  origin_change c = origin_by false (second_false (is_transfer (form_in (at p i))) (not (is_change_jump names p i)) (ap not c))

  origin_moves : is_transfer (form_in (at p i)) ≡ true → is_change_jump names p i ≡ false → origin_at names moving p i ≡ origin p (constant_value names moving (context_at p i) (last_of (args_of (at p i))))
  origin_moves n c = origin_by true (and_both (is_transfer (form_in (at p i))) (not (is_change_jump names p i)) n (ap not c))

module _ (t : Slots) (s : Sound t) (r : AsRead t) (i : ℕ) (l : i < t.count) (n : is_transfer (form_in (stands_at t i)) ≡ true) where
  -- the target that stands at the place was written there
  pub own_target : TargetIn t.frames t.starts t.count i
  own_target = let k = transfer_slot t s.held i l n in rw (r.own i l) at (carried_target t s i l k.0 k.1)

  target_is : last_of (args_of (stands_at t i)) ≡ last_of (args_of (written t i))
  target_is =
      let k = transfer_slot t s.held i l n in
      ap (λ x. last_of (args_of x)) (at_program t i l) ∙ last_target t s i l k.0 k.1 ∙ ap (target_of t) (r.own i l)
      ∙ target_written t i (omega (arith, r.free i l))

  pub origin_target : (names : List Entry) (moving : List Key) → is_change_jump names (program_of t) i ≡ false
      → origin_at names moving (program_of t) i ≡ origin (program_of t) (constant_value names moving (context_at (program_of t) i) (last_of (args_of (written t i))))
  origin_target names moving c =
      origin_moves names moving (program_of t) i n c ∙ ap (λ x. origin (program_of t) (constant_value names moving (context_at (program_of t) i) x)) target_is
