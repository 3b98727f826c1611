-- A name looked up from the latest place down: whether a place defines it, and what is left below. Assumes nothing.
use mathlib.Core.Path.{◌≡◌, refl}
use mathlib.Core.Bool.{Bool, true, false, ◌&&◌, cond}
use mathlib.Core.List.{List}
use Prim.Native.Nat.{ℕ, suc, ◌≤◌, ◌<◌}
use native.Mathlib.Omega.{arith}
use lib.Dec.{ltb, eqb}
use lib.IntN.{ℤ, pos}
use lib.ListN.{get_or}
use borrow.Author.Tests.{eq-eqb, ne_eqb, lt-ltb, le-leb, lt-leb}
use Rattle.rules.specs.declared.Unvalued.{Unvalued}
use Rattle.std.specs.Prelude.{Result, Ok}
use Rattle.laws.proofs.Tests.{first_false, second_false}
use Rattle.rules.specs.Names.{key_of, same_key, lookup}
use Rattle.expression.specs.Environment.{is_here, entries_of}

-- ---- whether a statement of context k that defines n defines what m means in context c
module _ (n k m c : ℕ) where
  pub other_name : (n ≡ m → ⊥) → is_here n k m c ≡ false
  other_name h = second_false (ltb n 65536) (same_key (key_of k n) (key_of c m)) (first_false (eqb n m) (eqb (key_of k n).context (key_of c m).context) (ne_eqb n m h))

  pub global_name : n ≡ m → m < 0x8000 → is_here n k m c ≡ true
  global_name e h = rw (e, lt-ltb m 65536 (omega arith), eq-eqb m m refl, lt-leb 0x8000 m h)

  pub local_name : n ≡ m → 0x8000 ≤ m → m < 65536 → is_here n k m c ≡ eqb k c
  local_name e h l = rw (e, lt-ltb m 65536 l, eq-eqb m m refl, le-leb 0x8000 m h)

-- ---- the entries below i, from place i - 1 on
module _ (names contexts : List ℕ) (values : List ℤ) (c m : ℕ) where
  abbrev pub found : (limit : ℕ) → Result ℤ Unvalued
  found limit = lookup (entries_of names contexts values limit) (key_of c m)

  abbrev pub here : (i : ℕ) → Bool
  here i = is_here (get_or names i 0) (get_or contexts i 0) m c

  pub at_place : (i : ℕ) (a b : Bool) → ltb (get_or names i 0) 65536 ≡ a → same_key (key_of (get_or contexts i 0) (get_or names i 0)) (key_of c m) ≡ b
      → found (suc i) ≡ cond (a && b) (Ok (get_or values i (pos 0))) (found i)
  unfolding entries_of lookup
  at_place i true true p q = rw (p, q)
  at_place i true false p q = rw (p, q)
  at_place i false b p q = rw p
