-- "Show that any two results allowed by the contract coincide", of `where_sits` and `all_sit`.
use mathlib.Core.Path.{◌≡◌, sym, ◌∙◌}
use mathlib.Core.List.{List}
use Prim.Native.Nat.{ℕ}
use Rattle.rules.specs.declared.Address.{Address}
use Rattle.rules.specs.declared.Refusal.{Refusal}
use Rattle.std.specs.Prelude.{Result}
use Rattle.sits.specs.Sits.{sits, sits_as}
use Rattle.sits.specs.All.{laid_out, Places}

pub one_place : (text : List ℕ) (n : ℕ) (r s : Result Address Refusal) → r ≡ sits_as (sits text n) → s ≡ sits_as (sits text n) → r ≡ s
one_place text n r s a b = a ∙ sym b

-- the answer, and every entry of the table
pub one_table : (text table : List ℕ) (r s : Result ℕ Refusal) (x y : List ℕ) → Places (laid_out text) r table x → Places (laid_out text) s table y → (r ≡ s) × (x ≡ y)
one_table text table r s x y a b = (a.answer ∙ sym b.answer, a.table ∙ sym b.table)
