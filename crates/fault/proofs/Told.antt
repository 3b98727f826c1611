-- The four parts of a fault are the fault.
use mathlib.Core.Path.{◌≡◌, ◌∙◌, ap}
use Prim.Native.Nat.{ℕ}
use lib.IntN.{ℤ}
use Rattle.rules.specs.Refusals.{Fault as Given}
use Rattle.fault.specs.declared.Fault.{Fault}
use Rattle.fault.specs.Faults.{IsFault}

given : (number place argument : ℕ) → ℤ → Given
given n i j v = record { number = n; place = i; argument = j; amount = v }

pub fault_given : (f : Fault) (g : Given) → IsFault f g → record { number = f.number; place = f.place; argument = f.argument; amount = f.amount } ≡ g
unfolding given
fault_given f g h =
    ap (λ (n : ℕ). given n f.place f.argument f.amount) h.number
    ∙ ap (λ (i : ℕ). given g.number i f.argument f.amount) h.place
    ∙ ap (λ (j : ℕ). given g.number g.place j f.amount) h.argument
    ∙ ap (λ (v : ℤ). given g.number g.place g.argument v) h.amount
