-- The bytes of each form: as many as its size, and an instruction's are its form's. Assumes nothing.
use mathlib.Core.Path.{◌≡◌, refl, ◌∙◌, sym, ap}
use mathlib.Core.List.{[]}
use mathlib.Core.Logic.{⊎_elim}
use Prim.Native.Nat.{ℕ, ◌≤◌}
use lib.ListN.{length}
use Rattle.laws.specs.Counts.{all_to}
use Rattle.laws.proofs.Tests.{lt_or_le}
use Rattle.rules.specs.declared.Instr.{Instr}
use Rattle.rules.specs.Forms.{Form, form_at, size_at}
use Rattle.rules.specs.Patterns.{rows_of}
use Rattle.rules.specs.Instructions.{form_of, enc_of}
use Rattle.instruction.proofs.Entries.{agree_at}
use Rattle.instruction.proofs.Numbers.{no_form}
use Rattle.encoding.specs.Encode.{code_at}

no_rows : (f a b c : ℕ) → 70 ≤ f → rows_of f a b c ≡ []
unfolding rows_of
no_rows f a b c l = rw (no_form f l)

-- a pattern has as many bytes as its form's size, whatever the arguments
pub length_rows : (f a b c : ℕ) → length (rows_of f a b c) ≡ size_at f
unfolding all_to rows_of form_at
length_rows f a b c =
    ⊎_elim (λ l. agree_at (λ k. length (rows_of k a b c)) size_at 70 tt f l)
    (λ l. ap length (no_rows f a b c l) ∙ sym (ap (λ (x : Form). x.size) (no_form f l)))
    (lt_or_le f 70)

-- an instruction has the code of its form
pub code_of : (i : Instr) (a b c : ℕ) → enc_of i a b c ≡ code_at (form_of i) a b c
unfolding code_at enc_of
code_of i a b c = refl
