-- The chain of rewrites: its two equations, where it ends, and that it keeps what every rewrite keeps.
use mathlib.Core.Path.{◌≡◌, refl}
use mathlib.Core.Option.{Option, none, some}
use Prim.Native.Nat.{ℕ, zero, suc, ◌+◌, ◌≤◌}
use native.Mathlib.Omega.{arith}
use Rattle.laws.specs.Lists.{total}
use Rattle.rules.specs.declared.Settings.{Settings}
use Rattle.rules.specs.Programs.{Program}
use Rattle.rules.specs.Rewriting.{Chain, more, step, chain, instr_bytes}
use Rattle.promises.proofs.Steps.{Step, step_some}
use Rattle.promises.proofs.Shorter.{step_shorter}

-- where no rewrite remains
pub chain_stop : (asked : Settings) (n : ℕ) (p : Program) → step asked p ≡ none → chain asked (suc n) p ≡ record { program = p; count = 0 }
unfolding chain
chain_stop asked n p e = rw (e, chain)

-- where one does
pub chain_more : (asked : Settings) (n : ℕ) (p q : Program) → step asked p ≡ some q → chain asked (suc n) p ≡ more (chain asked n q)
unfolding chain
chain_more asked n p q e = rw (e, chain)

-- with as much fuel as instruction bytes no rewrite remains, and the rewrites are at most the bytes that went
abbrev Ends : (asked : Settings) → Program → Chain → Type 0
Ends asked p d = (step asked d.program ≡ none) × (d.count + total instr_bytes d.program ≤ total instr_bytes p)

-- by induction on the fuel
pub chain_ends : (asked : Settings) (n : ℕ) (p : Program) → total instr_bytes p ≤ n → Ends asked p (chain asked n p)
unfolding chain
chain_ends asked zero p h = (still (step asked p) refl, omega arith)
  where
    still : (o : Option Program) → step asked p ≡ o → step asked p ≡ none
    still none e = e
    still (some q) e = absurd (omega (arith, step_shorter asked p q e))
chain_ends asked (suc n) p h = on (step asked p) refl (chain_ends asked n)
  where
    on : (o : Option Program) → step asked p ≡ o → ((q : Program) → total instr_bytes q ≤ n → Ends asked q (chain asked n q)) → Ends asked p (chain asked (suc n) p)
    on none e below = rw (chain_stop asked n p e) (e, omega arith)
    on (some q) e below =
        let less = step_shorter asked p q e in
        let b = below q (omega arith) in
        rw (chain_more asked n p q e) (b.0, omega arith)

-- chain-keeps: what every rewrite keeps, the chain keeps
pub chain_keeps : (asked : Settings) (P : Program → Type 0) → ((p q : Program) → Step p q → P p → P q) → (n : ℕ) (p : Program) → P p → P (chain asked n p).program
unfolding chain
chain_keeps asked P keeps zero p h = h
chain_keeps asked P keeps (suc n) p h = on (step asked p) refl (chain_keeps asked P keeps n)
  where
    on : (o : Option Program) → step asked p ≡ o → ((q : Program) → P q → P (chain asked n q).program) → P (chain asked (suc n) p).program
    on none e below = rw (chain_stop asked n p e) h
    on (some q) e below = rw (chain_more asked n p q e) (below q (keeps p q (step_some asked p q e) h))
