-- What the target of a transfer comes to, by the tables, and its eight bytes.
use mathlib.Core.Path.{◌≡◌, refl, sym, ap, ◌∙◌, subst}
use mathlib.Core.List.{List, [], ◌∷◌, ◌++◌}
use mathlib.Core.Option.{Option, none, some}
use mathlib.Core.Bool.{true}
use Prim.Native.Nat.{ℕ, ◌-◌, ◌/◌, ◌%◌, ◌≤◌, ◌<◌}
use native.Mathlib.Omega.{arith}
use lib.ListN.{length, get_or}
use mir.Syntax.{w32}
use mir.Val.{of_z}
use Rattle.rules.specs.declared.Place.{Place}
use Rattle.rules.specs.declared.Unvalued.{Unvalued}
use Rattle.std.specs.Prelude.{ℤ, Result, None, Option as AnOption, Some}
use Rattle.rules.specs.Expressions.{pair, four}
use Rattle.rules.specs.Forms.{is_transfer, operands_at}
use Rattle.rules.specs.Programs.{Placeℕ, Operand, register, Stmt, args_of, last_of, kind_of}
use Rattle.rules.specs.Layout.{Origin as Source, origin}
use Rattle.rules.specs.Names.{context_at}
use Rattle.rules.specs.Judging.{worth_of, names_of}
use Rattle.instruction.proofs.Rows.{has_target}
use Rattle.slots.specs.Slots.{Slots, slot_at, program_of, worth_in}
use Rattle.image.specs.Tables.{Tables, program, operand_at, Ready}
use Rattle.image.proofs.Operands.{count_args}
use Rattle.image.proofs.Worths.{worth_at_lem}
use Rattle.asm.specs.Belonging.{origin_as, OriginIn}
use Rattle.patterns.specs.Targets.{stands_at, form_in}
use Rattle.patterns.proofs.Programs.{at_program}
use Rattle.patterns.proofs.Instructions.{last_get, transfer_slot}
use Rattle.anchors.specs.Anchored.{Found, Small, offset_in}
use Rattle.targets.specs.Targets.{aim_at, number_of, byte_bytes}
use Rattle.targets.specs.Aimed.{place_in, LowByte, AimIs}

-- ---- the last operand of a transfer
module _ (d : Tables) (h : Ready d) (i : Placeℕ) (l : i < d.slots.count) (e : is_transfer (form_in (stands_at d.slots i)) ≡ true) where
  abbrev t : Slots
  t = d.slots

  abbrev form : ℕ
  form = get_or t.forms i 0

  pub stands_there : (kind_of (slot_at t i) ≡ 1) × (is_transfer form ≡ true)
  stands_there = transfer_slot t h.sound.held i l e

  pub some_operands : 1 ≤ length (operands_at form)
  some_operands = has_target form stands_there.1

  last_is : operand_at t i (length (operands_at form) - 1) ≡ last_of (args_of (stands_at t i))
  last_is =
      let k = stands_there.0 in
      let xs = args_of (slot_at t i) in
      ap (λ (n : ℕ). get_or xs (n - 1) (register 0)) (sym (count_args t h.sound.held i l k (h.sound.forms i l k)))
      ∙ sym (last_get xs) ∙ ap (λ (s : Stmt). last_of (args_of s)) (sym (at_program t i l))

  -- its worth is what the target comes to
  pub worth_is : d.entries ≡ names_of (program d) → (v : Result ℤ Unvalued)
      → v ≡ worth_in d.entries d.positions (get_or d.contexts i 0) (operand_at t i (length (operands_at form) - 1)) → v ≡ (aim_at (program d) i).value
  unfolding aim_at
  worth_is n v w =
      w ∙ worth_at_lem d h i l stands_there.0 (length (operands_at form) - 1) (omega (arith, some_operands))
      ∙ ap (λ (x : Operand). worth_of d.entries (program d) (context_at (program d) i) x) last_is
      ∙ ap (λ z. worth_of z (program d) (context_at (program d) i) (last_of (args_of (stands_at t i)))) n

-- ---- its bytes

-- a slot's bytes are few
pub small_in : (t : Slots) (o : AnOption (Place × ℕ)) → t.count ≤ 1024 → OriginIn t o → Small o
small_in t (Some (i, o)) l h = (omega (arith, h.0), omega (arith, h.2))
small_in t None l h = tt

low_in : (x : Option Source) → Small (origin_as x) → LowByte x
low_in none h = tt
low_in (some o) h = h

bytes_in : (x : Option Source) → byte_bytes x ≡ pair (place_in (origin_as x)) ++ pair (offset_in (origin_as x))
bytes_in none = refl
bytes_in (some o) = refl

pub aim_is : (t : Slots) (i : Placeℕ) (v : Result ℤ Unvalued) (o : AnOption (Place × ℕ)) (n place offset : ℕ) (r : List ℕ) → t.count ≤ 1024
    → v ≡ (aim_at (program_of t) i).value → Found t (origin (program_of t) v) o → n ≡ of_z w32 (number_of v) → place ≡ place_in o → offset ≡ offset_in o
    → r ≡ four n ++ (pair place ++ pair offset) → AimIs (program_of t) i r
unfolding aim_at
aim_is t i v o n place offset r l e f en ep eo er =
    let p = program_of t in
    let at : origin p v ≡ origin p (aim_at p i).value = ap (origin p) e in
    let b : pair place ++ pair offset ≡ byte_bytes (aim_at p i).byte =
    rw (ep, eo, f.answer) (sym (bytes_in (origin p v)) ∙ ap byte_bytes at) in
    record {
      bytes = er ∙ rw (b, en, e);
      low = subst LowByte at (low_in (origin p v) (subst Small f.answer (small_in t o l f.inside)));
    }

pub eight_is : (v p o : ℕ) (a b c d x y z w : ℕ) → v < 4294967296 → p < 65536 → o < 65536 → a ≡ v / 16777216 % 256 → b ≡ v / 65536 % 256 → c ≡ v / 256 % 256 → d ≡ v % 256
    → x ≡ p / 256 % 256 → y ≡ p % 256 → z ≡ o / 256 % 256 → w ≡ o % 256
    → a ∷ b ∷ c ∷ d ∷ x ∷ y ∷ z ∷ w ∷ [] ≡ four v ++ (pair p ++ pair o)
eight_is v p o a b c d x y z w hv hp ho ea eb ec ed ex ey ez ew =
    let fa : a ≡ v / 16777216 = omega arith in
    let fx : x ≡ p / 256 = omega arith in
    let fz : z ≡ o / 256 = omega arith in
    rw (fa, eb, ec, ed, fx, ey, fz, ew)
