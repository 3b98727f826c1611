-- Instructions as plans: the forms of one mnemonic, narrowed argument by argument by what stands before it, `#`, `@` or nothing. The
-- mnemonics and what each form takes come out of the table of forms.
use Rattle.std.specs.Prelude.{List, [], ◌∷◌, ◌++◌, map, Bool, true, false, ◌&&◌, ◌||◌, not, cond, ℕ, zero, suc, ◌+◌, ◌-◌, ◌≤◌, eqb, leb}
use Rattle.std.proofs.Math.Option.{none}
use Rattle.laws.specs.Lists.{same}
use Rattle.rules.specs.declared.Kind.{Kind}
use Rattle.rules.specs.declared.Kind.TheVariants.{Reg, I8, D9, Bit, Rel8, A12, A16, Rel16}
use Rattle.rules.specs.Expressions.{Expr}
use Rattle.rules.specs.Forms.{operands_at}
use Rattle.rules.specs.Programs.{Operand, register, value, gone, instr}
use Rattle.text.specs.Text.{mnemonic}
use Rattle.grammar.specs.Reading.{Exp}
use Rattle.plans.specs.Plans.{Plan, done, fork, expression, either}
use Rattle.plans.specs.Words.{Word, opening, closing, onto, some?}

-- what an argument begins with
pub data Mark : Type 0 where
  hash : Mark
  at : Mark
  plain : Mark

abbrev pub mark_of : Kind → Mark
mark_of Reg = at
mark_of I8 = hash
mark_of D9 = plain
mark_of Bit = plain
mark_of Rel8 = plain
mark_of A12 = plain
mark_of A16 = plain
mark_of Rel16 = plain

abbrev pub meets : Mark → Mark → Bool
meets hash hash = true
meets hash at = false
meets hash plain = false
meets at hash = false
meets at at = true
meets at plain = false
meets plain hash = false
meets plain at = false
meets plain plain = true

-- the text of an argument with a mark
pub data Shape : Mark → Operand → List ℕ → Type 0 where
  hashed : {e : Expr} {t : List ℕ} → Exp 5 e t → Shape hash (value e) (35 ∷ t)
  indirect : {r : ℕ} → r ≤ 3 → Shape at (register r) (64 ∷ 82 ∷ (48 + r) ∷ [])
  bare : {e : Expr} {t : List ℕ} → Exp 5 e t → Shape plain (value e) t

-- ---- one argument: the marks that may stand there, and what follows an argument of each

abbrev pub register_plan : (ℕ → Plan) → Plan
register_plan f = fork none (λ c. eqb c 82) (λ c. fork none (λ d. leb 48 d && leb d 51) (λ d. f (d - 48)))

abbrev pub marks : (Mark → Bool) → ℕ → Bool
marks can c = (eqb c 35 && can hash) || (eqb c 64 && can at)

abbrev pub mark_plan : (Mark → Operand → Plan) → ℕ → Plan
mark_plan f c = cond (eqb c 35) (expression (λ e. f hash (value e))) (register_plan (λ r. f at (register r)))

abbrev pub argument : (bare : Bool) → (Mark → Bool) → (Mark → Operand → Plan) → Plan
argument true can f = either (marks can) (mark_plan f) (λ e. f plain (value e))
argument false can f = fork none (marks can) (mark_plan f)

-- ---- the forms that the line may still be of

-- a form, and its operands that are still to come
pub data Way : Type 0 where
  way : ℕ → List Kind → Way

-- those that go on with an argument of a mark, behind it
unfoldable pub narrow : Mark → List Way → List Way
narrow m [] = []
narrow m (way f [] ∷ ws) = narrow m ws
narrow m (way f (k ∷ ks) ∷ ws) = onto (meets (mark_of k) m) (way f ks) (narrow m ws)

-- behind an argument: the line ends if one form is left that has no operand more; else a comma
abbrev pub behind : (List Way → List Operand → Plan) → List Way → List Operand → Plan
behind next [] xs = fork none (λ c. eqb c 44) (λ c. next [] xs)
behind next (way f [] ∷ []) xs = done (instr f xs 0)
behind next (way f [] ∷ w ∷ ws) xs = fork none (λ c. eqb c 44) (λ c. next (way f [] ∷ w ∷ ws) xs)
behind next (way f (k ∷ ks) ∷ ws) xs = fork none (λ c. eqb c 44) (λ c. next (way f (k ∷ ks) ∷ ws) xs)

-- the arguments that follow xs, n at most
unfoldable pub args_plan : (n : ℕ) → List Way → List Operand → Plan
args_plan zero ws xs = done gone
args_plan (suc n) ws xs =
    argument (some? (narrow plain ws)) (λ m. some? (narrow m ws)) (λ m x. behind (args_plan n) (narrow m ws) (xs ++ (x ∷ [])))

-- ---- the forms are told apart as they are read

abbrev pub go_on : List Way → Bool
go_on [] = true
go_on (way f [] ∷ ws) = false
go_on (way f (k ∷ ks) ∷ ws) = go_on ws

abbrev pub behind_fit : (List Way → Bool) → List Way → Bool
behind_fit g [] = false
behind_fit g (way f [] ∷ []) = true
behind_fit g (way f [] ∷ w ∷ ws) = false
behind_fit g (way f (k ∷ ks) ∷ ws) = g (way f (k ∷ ks) ∷ ws)

abbrev pub mark_fit : (List Way → Bool) → List Way → Bool
mark_fit g ws = not (some? ws) || behind_fit g ws

unfoldable pub ways_fit : (n : ℕ) → List Way → Bool
ways_fit zero ws = false
ways_fit (suc n) ws =
    (go_on ws && some? ws)
    && (mark_fit (ways_fit n) (narrow hash ws) && (mark_fit (ways_fit n) (narrow at ws) && mark_fit (ways_fit n) (narrow plain ws)))

-- ---- the words

abbrev pub below : ℕ → List ℕ
below zero = []
below (suc n) = n ∷ below n

-- the forms of a mnemonic
unfoldable pub family : List ℕ → List ℕ → List Way
family m [] = []
family m (f ∷ fs) = onto (same (mnemonic f) m) (way f (operands_at f)) (family m fs)

-- one form of each mnemonic
unfoldable pub heads : List ℕ → List ℕ
heads [] = []
heads (f ∷ fs) = onto (not (some? (family (mnemonic f) fs))) f (heads fs)

abbrev pub word_of : List ℕ → List Way → Word
word_of m [] = opening (m ++ (32 ∷ [])) (args_plan 3 [] [])
word_of m (way f [] ∷ []) = closing m (instr f [] 0)
word_of m (way f [] ∷ w ∷ ws) = opening (m ++ (32 ∷ [])) (args_plan 3 (way f [] ∷ w ∷ ws) [])
word_of m (way f (k ∷ ks) ∷ ws) = opening (m ++ (32 ∷ [])) (args_plan 3 (way f (k ∷ ks) ∷ ws) [])

abbrev pub family_of : ℕ → List Way
family_of f = family (mnemonic f) (below 70)

unfoldable pub mnemonics : List Word
mnemonics = map (λ f. word_of (mnemonic f) (family_of f)) (heads (below 70))
