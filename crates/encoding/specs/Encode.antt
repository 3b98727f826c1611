-- The bytes of an instruction, as the code hands them out.
use Rattle.std.specs.Prelude.{List, [], ◌∷◌, ℕ, take}
use Rattle.rules.specs.declared.Code.{Code}
use Rattle.rules.specs.Patterns.{rows_of}
use Rattle.rules.specs.Instructions.{code_of}

-- the code of a form by its number, its arguments' values given
unfoldable pub code_at : (f a b c : ℕ) → Code
code_at f a b c = code_of (rows_of f a b c)

-- the bytes that count
abbrev pub bytes_of_code : Code → List ℕ
bytes_of_code e = take e.len (e.b0 ∷ e.b1 ∷ e.b2 ∷ [])
