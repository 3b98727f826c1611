-- Three switches in a byte: at most 7, and read back as they were. Assumes nothing.
use mathlib.Core.Path.{◌≡◌, refl}
use mathlib.Core.Bool.{Bool, true, false}
use Prim.Native.Nat.{ℕ, ◌+◌, ◌<◌, ◌≤◌}
use native.Mathlib.Omega.{arith}
use Rattle.laws.proofs.Tests.{cond_le}
use Rattle.rules.specs.declared.Settings.{Settings}
use Rattle.store.specs.Switches.{switch, switches_of, settings_of}

pub at_most : (b : Bool) (n : ℕ) → switch b n ≤ n
at_most b n = cond_le b n 0 n (omega arith) (omega arith)

pub small : (asked : Settings) → switches_of asked < 8
small asked = omega (arith, at_most asked.comments 1, at_most asked.callf 2, at_most asked.folds 4)

pub settings_back : (asked : Settings) → settings_of (switches_of asked) ≡ asked
settings_back asked = on asked.comments asked.callf asked.folds
  where
    on : (a b c : Bool) → settings_of (switch a 1 + switch b 2 + switch c 4) ≡ record { comments = a; callf = b; folds = c }
    on true true true = refl
    on true true false = refl
    on true false true = refl
    on true false false = refl
    on false true true = refl
    on false true false = refl
    on false false true = refl
    on false false false = refl
