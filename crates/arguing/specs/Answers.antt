-- What the readers of arguments answer, in terms of their plan.
use Rattle.std.specs.Prelude.{◌≡◌, List, [], ◌∷◌, ◌++◌, ℕ, suc, ◌≤◌, ◌<◌, length, drop, Result, Ok, Err}
use Rattle.laws.specs.Lists.{each, total}
use Rattle.rules.specs.Forms.{operands_at}
use Rattle.rules.specs.Programs.{Operand, in_operand, Stmt}
use Rattle.rules.specs.Output.{operand_bytes}
use Rattle.grammar.specs.Going.{Read, stuck}
use Rattle.plans.specs.Plans.{Plan, Walks}
use Rattle.plans.specs.Families.{register_plan, behind, args_plan}
use Rattle.laying.specs.Laying.{long, Stands, Added}
use Rattle.marks.specs.Narrowing.{agree}

-- argument j of the line s, from k up to n: the line is of form g or one that agrees with it
pub record ArgEnds (s : List ℕ) (k f j : ℕ) (b a : List ℕ) (p g n to : ℕ) : Type 0 where
  pub x : Operand
  pub form : g < 70
  pub more : j < length (operands_at g)
  pub within : n ≤ length s
  pub added : Added b a p to (operand_bytes x) (in_operand long x)
  pub leads : (m : ℕ) (xs : List Operand) (o : Read Stmt) → Walks (behind (args_plan m) (agree g (suc j)) (xs ++ (x ∷ []))) (drop n s) o
      → Walks (args_plan (suc m) (agree f j) xs) (drop k s) o

abbrev pub Argued : (s : List ℕ) (k f j : ℕ) (b a : List ℕ) (p : ℕ) → Result (ℕ × ℕ × ℕ) ℕ → Type 0
Argued s k f j b a p (Ok (g, n, to)) = ArgEnds s k f j b a p g n to
Argued s k f j b a p (Err c) =
    ((m : ℕ) (xs : List Operand) → Walks (args_plan (suc m) (agree f j) xs) (drop k s) (stuck (drop c s))) × (c ≤ length s)

-- an instruction's frame, before its form is known
abbrev pub form_bytes : (f : ℕ) → List Operand → List ℕ
form_bytes f xs = 1 ∷ f ∷ each (λ x. operand_bytes x) xs

abbrev pub longs : List Operand → ℕ
longs xs = total (in_operand long) xs

-- an expression as an argument of form f
abbrev pub Valued : (f : ℕ) → Result (ℕ × ℕ) ℕ → Result (ℕ × ℕ × ℕ) ℕ
Valued f (Ok (n, to)) = Ok (f, n, to)
Valued f (Err n) = Err n

-- `R` and a digit of the line s at k, for whatever is read behind it
abbrev pub Registered : (s : List ℕ) (k f : ℕ) (b a : List ℕ) (p : ℕ) → Result (ℕ × ℕ × ℕ) ℕ → Type 0
Registered s k f b a p (Ok (g, n, to)) =
    (g ≡ f) × ((r : ℕ) × ((n ≤ length s) × (Added b a p to (r ∷ []) 0
    × ((next : ℕ → Plan) (o : Read Stmt) → Walks (next r) (drop n s) o → Walks (register_plan next) (drop k s) o))))
Registered s k f b a p (Err c) = ((next : ℕ → Plan) → Walks (register_plan next) (drop k s) (stuck (drop c s))) × (c ≤ length s)

-- the end of an instruction's line at k, where its form is known
abbrev pub FormEnd : (size k f : ℕ) (b a : List ℕ) (to : ℕ) → Result ℕ ℕ → Type 0
FormEnd size k f b a to (Ok n) =
    (size ≤ k) × ((n ≡ to) × ((xs : List Operand) (l : ℕ) → Stands b to (form_bytes 0 xs) l → Stands a to (form_bytes f xs) l))
FormEnd size k f b a to (Err n) = (k < size) × (n ≡ k)
