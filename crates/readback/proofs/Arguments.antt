-- An argument as the code finds it: its kind, what is held of it, and the number that is written for it.
use mathlib.Core.Path.{◌≡◌, refl, sym, ap, ◌∙◌}
use mathlib.Core.List.{List, [], ◌∷◌}
use mathlib.Core.Bool.{Bool, true, false, cond}
use Prim.Native.Nat.{ℕ, zero, suc, ◌^◌, ◌<◌}
use native.Mathlib.Omega.{arith}
use lib.ListN.{length, get_or}
use lib.IntN.{ℤ, pos, negsuc}
use borrow.Author.Tests.{ltb-true}
use Rattle.std.specs.Prelude.{None, Some}
use Rattle.laws.proofs.Tests.{clash, false_true}
use Rattle.rules.specs.declared.Kind.{Kind}
use Rattle.rules.specs.declared.Kind.TheVariants.{Reg, I8, D9, Bit, Rel8, A12, A16, Rel16}
use Rattle.rules.specs.Values.{below, nat}
use Rattle.rules.specs.Expressions.{num, bytes_of}
use Rattle.rules.specs.Forms.{operands_at}
use Rattle.rules.specs.Programs.{Addressℕ}
use Rattle.rules.specs.Output.{operand_bytes}
use Rattle.instruction.specs.Tables.{operand_in}
use Rattle.decoding.specs.Numbers.{number_as}
use Rattle.decoding.specs.Operands.{width, reads, operand_of}
use Rattle.decoding.specs.Runs.{runs_of, number_in}
use Rattle.decoding.proofs.Held.{held_runs, first_three}
use Rattle.decoding.proofs.Fields.{held_below}
use Rattle.readback.specs.Frames.{kind_at, held_at, is_register, value_bytes}

-- ---- the kind

pub kind_is : (ds : List Kind) (j : ℕ) (d : Kind) → operand_in ds j ≡ Some d → d ≡ get_or ds j Reg
kind_is [] j d e = clash (cc)
kind_is (k ∷ ks) zero d e = cc
kind_is (k ∷ ks) (suc j) d e = kind_is ks j d e

pub kind_there {ℓ} : {X : Type ℓ} (ds : List Kind) (j : ℕ) → j < length ds → operand_in ds j ≡ None → X
kind_there [] j l e = absurd (omega arith)
kind_there (k ∷ ks) zero l e = clash (cc)
kind_there (k ∷ ks) (suc j) l e = kind_there ks j (omega arith) e

-- ---- what is held

pub held_is : (f : ℕ) (s : List ℕ) (j v : ℕ) {d : Kind} {b0 b1 b2 : ℕ} → f < 70 → j < length (operands_at f) → d ≡ kind_at f j
    → b0 ≡ get_or s 0 0 → b1 ≡ get_or s 1 0 → b2 ≡ get_or s 2 0 → v ≡ number_in (b0 ∷ b1 ∷ b2 ∷ []) (runs_of f d) → v ≡ held_at f s j
held_is f s j v {d} {b0} {b1} {b2} l m k e0 e1 e2 h =
    let bytes : ◌≡◌ {A = List ℕ} (b0 ∷ b1 ∷ b2 ∷ []) (get_or s 0 0 ∷ get_or s 1 0 ∷ get_or s 2 0 ∷ []) = cc in
    h ∙ ap (λ (t : List ℕ). number_in t (runs_of f d)) bytes ∙ first_three f d s ∙ ap (λ (k : Kind). number_in s (runs_of f k)) k
    ∙ sym (held_runs f s j l m)

pub held_low : (f : ℕ) (s : List ℕ) (j : ℕ) {v : ℕ} {d : Kind} → d ≡ kind_at f j → v ≡ held_at f s j → v < 2 ^ width d
held_low f s j k e = rw (k, e) (held_below f s j (width (kind_at f j)))

-- ---- the number

pub record NumberIs (z : ℤ) (m : ℕ) : Type 0 where
  pub inside : below 65536 z ≡ true
  pub is : z ≡ pos m
  pub low : m < 65536

pub number_is : (z : ℤ) (m : ℕ) → number_as z ≡ Some m → NumberIs z m
number_is z m e = on (below 65536 z) z refl e
  where
    on : (b : Bool) (z : ℤ) → below 65536 z ≡ b → cond b (Some (nat z)) None ≡ Some m → NumberIs z m
    on true (pos a) t e = let q : a ≡ m = cc in record { inside = t; is = ap pos q; low = rw (← q) (ltb-true a 65536 t) }
    on true (negsuc a) t e = false_true t
    on false z t e = clash (cc)

pub number_out : (z : ℤ) → number_as z ≡ None → below 65536 z ≡ false
number_out z e = on (below 65536 z) refl e
  where
    on : (b : Bool) → below 65536 z ≡ b → cond b (Some (nat z)) None ≡ None → below 65536 z ≡ false
    on true t e = clash (cc)
    on false t e = t

pub value_bytes_lem : (n : Addressℕ) (d : Kind) (v m : ℕ) → reads n d v ≡ pos m → operand_bytes (operand_of n d v) ≡ value_bytes d m
value_bytes_lem n Reg v m e = let q : v ≡ m = cc in ap (λ (x : ℕ). x ∷ []) q
value_bytes_lem n I8 v m e = ap (λ (z : ℤ). bytes_of (num z)) e
value_bytes_lem n D9 v m e = ap (λ (z : ℤ). bytes_of (num z)) e
value_bytes_lem n Bit v m e = ap (λ (z : ℤ). bytes_of (num z)) e
value_bytes_lem n Rel8 v m e = ap (λ (z : ℤ). bytes_of (num z)) e
value_bytes_lem n A12 v m e = ap (λ (z : ℤ). bytes_of (num z)) e
value_bytes_lem n A16 v m e = ap (λ (z : ℤ). bytes_of (num z)) e
value_bytes_lem n Rel16 v m e = ap (λ (z : ℤ). bytes_of (num z)) e

pub register_low : (n : Addressℕ) (d : Kind) (v m : ℕ) → reads n d v ≡ pos m → v < 2 ^ width d → is_register d ≡ true → m < 256
register_low n Reg v m e h r = let q : v ≡ m = cc in omega arith
register_low n I8 v m e h r = false_true r
register_low n D9 v m e h r = false_true r
register_low n Bit v m e h r = false_true r
register_low n Rel8 v m e h r = false_true r
register_low n A12 v m e h r = false_true r
register_low n A16 v m e h r = false_true r
register_low n Rel16 v m e h r = false_true r
