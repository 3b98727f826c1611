-- "Show that any two results allowed by the contract coincide."
use mathlib.Core.Path.{◌≡◌, sym, ◌∙◌}
use mathlib.Core.List.{List}
use Prim.Native.Nat.{ℕ}
use Rattle.rules.specs.declared.Refusal.{Refusal}
use Rattle.audit.specs.declared.Finding.{Finding}
use Rattle.std.specs.Prelude.{Result}
use Rattle.rules.specs.declared.Settings.{Settings}
use Rattle.audit.specs.Audit.{audit}
use Rattle.audit.specs.Held.{audit_as}

-- `audit`
pub one_audit : (asked : Settings) (text shipped : List ℕ) (r s : Result Finding Refusal) → r ≡ audit_as (audit asked text shipped) → s ≡ audit_as (audit asked text shipped) → r ≡ s
one_audit asked text shipped r s a b = a ∙ sym b
