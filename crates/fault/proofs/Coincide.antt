-- "Show that any two results allowed by the contract coincide": of `fault_of`, all four parts.
use mathlib.Core.Path.{◌≡◌, sym, ◌∙◌, ap}
use Prim.Native.Nat.{ℕ}
use lib.IntN.{ℤ}
use Rattle.rules.specs.declared.Refusal.{Refusal}
use Rattle.rules.specs.Refusals.{fault_of}
use Rattle.fault.specs.declared.Fault.{Fault}
use Rattle.fault.specs.Faults.{IsFault}

pub one_fault : (r : Refusal) (f g : Fault) → IsFault f (fault_of r) → IsFault g (fault_of r) → f ≡ g
one_fault r f g a b =
    ap (λ (n : ℕ). fault n f.place f.argument f.amount) (a.number ∙ sym b.number)
    ∙ ap (λ (i : ℕ). fault g.number i f.argument f.amount) (a.place ∙ sym b.place)
    ∙ ap (λ (j : ℕ). fault g.number g.place j f.amount) (a.argument ∙ sym b.argument)
    ∙ ap (fault g.number g.place g.argument) (a.amount ∙ sym b.amount)
  where
    fault : (number place argument : ℕ) → ℤ → Fault
    fault number place argument amount = record { number = number; place = place; argument = argument; amount = amount }
