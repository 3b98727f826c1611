-- The forms that a line may still be of, by the marks of the arguments read so far: "family narrowed by `#`, `@`, none". What the table
-- of forms by mark says.
use Rattle.std.specs.Prelude.{List, [], ◌∷◌, cond, ℕ, zero, suc, eqb, get_or}
use Rattle.rules.specs.declared.Kind.TheVariants.{Reg}
use Rattle.rules.specs.Forms.{operands_at}
use Rattle.plans.specs.Families.{Mark, hash, at, plain, mark_of, Way, way, narrow, family_of}

-- the marks by number, and the number of the mark that a byte is
abbrev pub mark_by : ℕ → Mark
mark_by m = cond (eqb m 0) hash (cond (eqb m 1) at plain)

abbrev pub mark_number : ℕ → ℕ
mark_number c = cond (eqb c 35) 0 (cond (eqb c 64) 1 2)

-- the ways of form f's mnemonic that agree with f in the marks of its first j arguments, behind these
unfoldable pub agree : (f j : ℕ) → List Way
agree f zero = family_of f
agree f (suc j) = narrow (mark_of (get_or (operands_at f) j Reg)) (agree f j)

-- the first form of some ways; 70 where there is none
abbrev pub lowest : List Way → ℕ
lowest [] = 70
lowest (way f ks ∷ []) = f
lowest (way f ks ∷ w ∷ ws) = lowest (w ∷ ws)

-- the first form that goes on with a mark
unfoldable pub chosen : (f j m : ℕ) → ℕ
chosen f j m = lowest (narrow (mark_by m) (agree f j))
