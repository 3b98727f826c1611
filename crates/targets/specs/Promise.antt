-- What is shown of the targets: "for every transfer of demand 3 it says 'same'". So what is marked is all that needs eyes.
use Rattle.std.specs.Prelude.{◌≡◌, List, true, not, ◌||◌, cond, ℕ, eqb}
use Rattle.std.proofs.Math.Option.{some}
use Rattle.laws.specs.Lists.{total, every}
use Rattle.rules.specs.declared.Settings.{Settings}
use Rattle.rules.specs.Forms.{is_transfer}
use Rattle.rules.specs.Programs.{Placeℕ, Operand, instr, Program, at}
use Rattle.rules.specs.Rewriting.{optimized}
use Rattle.targets.specs.Targets.{Target, target_at, is_same}

-- the target that the transfer at place i wrote, which falls on byte o of the statement at place s, holds no label and is no change jump's (demand 3)
pub record SaidSame (asked : Settings) (p : Program) (i s : Placeℕ) (o : ℕ) : Type 0 where
  -- a transfer of the end form carries it, and no other instruction does
  pub place : Placeℕ
  pub form : ℕ
  pub args : List Operand
  pub stands : at (optimized asked p).program place ≡ instr form args i
  pub transfers : is_transfer form ≡ true
  pub only : (j : Placeℕ) (f : ℕ) (xs : List Operand) → at (optimized asked p).program j ≡ instr f xs i → j ≡ place
  -- its line names that byte twice
  pub before : (target_at p (optimized asked p).program place i).before.byte ≡ some (record { place = s; offset = o })
  pub after : (target_at p (optimized asked p).program place i).after.byte ≡ some (record { place = s; offset = o })
  pub same : is_same (target_at p (optimized asked p).program place i) ≡ true

-- so what the entry tells of an accepted listing: exactly one line is of that target, and it says the same
pub record ToldSame (ts : List Target) (i : Placeℕ) : Type 0 where
  pub once : total (λ t. cond (eqb t.carried i) 1 0) ts ≡ 1
  pub same : every (λ t. not (eqb t.carried i) || is_same t) ts ≡ true
