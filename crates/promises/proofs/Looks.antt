-- What a look at a statement says of it: an instruction, a branch of a form, an unconditional, a local label, a bare name; and its last operand.
use mathlib.Core.Path.{◌≡◌, refl, sym, ◌∙◌, ap}
use mathlib.Core.List.{List, [], ◌∷◌}
use mathlib.Core.Option.{some}
use mathlib.Core.Bool.{true}
use Prim.Native.Nat.{ℕ}
use lib.Dec.{eqb}
use borrow.Author.Tests.{eqb-true}
use Rattle.laws.proofs.Tests.{clash, none_some, false_true}
use Rattle.laws.proofs.Options.{bind_some, given_some}
use Rattle.rules.specs.Expressions.{Expr, num, name, two, one}
use Rattle.rules.specs.Forms.{is_unconditional}
use Rattle.rules.specs.Names.{is_local}
use Rattle.rules.specs.Programs.{Operand, register, value, inner, Stmt, gone, instr, label, variable, comment, org, bytes, words, Instruction, as_instr, as_label, last_of, on_last, pad}
use Rattle.rules.specs.Rewriting.{branch, unconditional, local_label, names_bare, is_bare, bare_in}

-- ---- statements
pub as_instr_some : (s : Stmt) (x : Instruction) → as_instr s ≡ some x → s ≡ instr x.form x.args x.carried
unfolding as_instr
as_instr_some gone x e = none_some x e
as_instr_some (instr f xs c) x e = let z : x ≡ record { form = f; args = xs; carried = c } = cc in rw z
as_instr_some (label n) x e = none_some x e
as_instr_some (variable n d) x e = none_some x e
as_instr_some (comment t) x e = none_some x e
as_instr_some (org l) x e = none_some x e
as_instr_some (bytes es) x e = none_some x e
as_instr_some (words es) x e = none_some x e
as_instr_some (pad add m) x e = none_some x e

-- a label
pub as_label_some : (s : Stmt) (n : ℕ) → as_label s ≡ some n → s ≡ label n
unfolding as_label
as_label_some gone n e = none_some n e
as_label_some (instr f xs c) n e = none_some n e
as_label_some (label m) n e = cc
as_label_some (variable m d) n e = none_some n e
as_label_some (comment t) n e = none_some n e
as_label_some (org l) n e = none_some n e
as_label_some (bytes es) n e = none_some n e
as_label_some (words es) n e = none_some n e
as_label_some (pad add m) n e = none_some n e

-- a branch of form f
pub branch_some : (f : ℕ) (s : Stmt) (x : Instruction) → branch f s ≡ some x → s ≡ instr f x.args x.carried
unfolding branch
branch_some f s x e =
    let b = bind_some (as_instr s) _ x e in
    let g = given_some (eqb b.0.form f) (some b.0) x b.2 in
    let same : b.0 ≡ x = cc g.1 in
    as_instr_some s b.0 b.1 ∙ ap (λ (h : ℕ). instr h b.0.args b.0.carried) (eqb-true _ f g.0) ∙ ap (λ (y : Instruction). instr f y.args y.carried) same

-- an unconditional
pub unconditional_some : (s : Stmt) (x : Instruction) → unconditional s ≡ some x → (is_unconditional x.form ≡ true) × (s ≡ instr x.form x.args x.carried)
unfolding unconditional
unconditional_some s x e =
    let b = bind_some (as_instr s) _ x e in
    let g = given_some (is_unconditional b.0.form) (some b.0) x b.2 in
    let same : b.0 ≡ x = cc g.1 in
    (ap (λ (y : Instruction). is_unconditional y.form) (sym same) ∙ g.0, as_instr_some s b.0 b.1 ∙ ap (λ (y : Instruction). instr y.form y.args y.carried) same)

-- a local label
pub local_label_some : (s : Stmt) (n : ℕ) → local_label s ≡ some n → (is_local n ≡ true) × (s ≡ label n)
unfolding local_label
local_label_some s n e =
    let b = bind_some (as_label s) _ n e in
    let g = given_some (is_local b.0) (some b.0) n b.2 in
    let same : b.0 ≡ n = cc g.1 in
    (ap is_local (sym same) ∙ g.0, as_label_some s b.0 b.1 ∙ ap label same)

-- ---- operands
-- the target is the bare name n
pub names_bare_true : (n : ℕ) (x : Instruction) → names_bare n x ≡ true → last_of x.args ≡ value (name n)
unfolding names_bare
names_bare_true n x e = on (last_of x.args) e
  where
    bare : (d : Expr) → is_bare n d ≡ true → value d ≡ value (name n)
    bare (num z) e = false_true e
    bare (name m) e = rw (eqb-true m n e)
    bare (two o c d) e = false_true e
    bare (one o d) e = false_true e

    on : (y : Operand) → bare_in n y ≡ true → y ≡ value (name n)
    on (register r) e = false_true e
    on (value d) e = bare d e
    on (inner i o) e = false_true e

-- the last operand changed: by a function that leaves a register 0, and to a given one
pub last_of_on_last : (f : Operand → Operand) (xs : List Operand) → f (register 0) ≡ register 0 → last_of (on_last f xs) ≡ f (last_of xs)
last_of_on_last f [] z = sym z
last_of_on_last f (x ∷ []) z = refl
last_of_on_last f (x ∷ y ∷ xs) z = two_more y xs (last_of_on_last f (y ∷ xs) z)
  where
    two_more : (y : Operand) (xs : List Operand) → last_of (on_last f (y ∷ xs)) ≡ f (last_of (y ∷ xs)) → last_of (x ∷ on_last f (y ∷ xs)) ≡ f (last_of (y ∷ xs))
    two_more y [] e = e
    two_more y (z ∷ xs) e = e

-- a given operand put where an expression stood
pub last_of_put : (x : Operand) (d : Expr) (xs : List Operand) → last_of xs ≡ value d → last_of (on_last (λ old. x) xs) ≡ x
last_of_put x d [] e = clash (cc)
last_of_put x d (y ∷ []) e = refl
last_of_put x d (y ∷ z ∷ xs) e = two_more z xs (last_of_put x d (z ∷ xs) e)
  where
    two_more : (z : Operand) (xs : List Operand) → last_of (on_last (λ old. x) (z ∷ xs)) ≡ x → last_of (y ∷ on_last (λ old. x) (z ∷ xs)) ≡ x
    two_more z [] e = e
    two_more z (u ∷ xs) e = e
