-- A rewrite done again: where its facts hold, its pattern or its shorter form counts, and gives the same program.
use mathlib.Core.Path.{◌≡◌, refl, sym, ap, ◌∙◌}
use mathlib.Core.List.{List, [], ◌∷◌}
use mathlib.Core.Option.{Option, some}
use mathlib.Core.Bool.{true, ◌&&◌}
use Prim.Native.Nat.{ℕ, suc}
use lib.Dec.{eqb}
use lib.ListN.{set}
use borrow.Author.Tests.{eq-eqb}
use Rattle.laws.specs.Options.{bind, given}
use Rattle.laws.proofs.Options.{given_true}
use Rattle.laws.proofs.Tests.{and_both}
use Rattle.rules.specs.Expressions.{name}
use Rattle.rules.specs.Forms.{is_unconditional}
use Rattle.rules.specs.Programs.{Placeℕ, Operand, value, Stmt, instr, label, Program, at, Instruction, as_instr, as_label, last_of}
use Rattle.rules.specs.Names.{is_local, context_at}
use Rattle.rules.specs.Rewriting.{no_inner_label_between, no_interior_label_at, acceptable, candidate, next, branch, unconditional, local_label, bare_in, names_bare, aimed, drop_all, inverted_at, references, trampoline_at}
use Rattle.promises.proofs.Steps.{Inverted, Trampoline, Shrunk}

-- ---- looks that find what stands there
pub bind_is : {A B : Type 0} (o : Option A) (a : A) (f : A → Option B) → o ≡ some a → bind o f ≡ f a
unfolding bind
bind_is o a f e = rw e

abbrev of : (f : ℕ) (xs : List Operand) (c : Placeℕ) → Instruction
of f xs c = record { form = f; args = xs; carried = c }

branch_is : (s : Stmt) (f : ℕ) (xs : List Operand) (c : Placeℕ) → s ≡ instr f xs c → branch f s ≡ some (of f xs c)
unfolding branch as_instr bind
branch_is s f xs c e = rw e (given_true (eqb f f) (some (of f xs c)) (eq-eqb f f refl))

unconditional_is : (s : Stmt) (f : ℕ) (xs : List Operand) (c : Placeℕ) → s ≡ instr f xs c → is_unconditional f ≡ true → unconditional s ≡ some (of f xs c)
unfolding unconditional as_instr bind
unconditional_is s f xs c e u = rw e (given_true (is_unconditional f) (some (of f xs c)) u)

local_label_is : (s : Stmt) (n : ℕ) → s ≡ label n → is_local n ≡ true → local_label s ≡ some n
unfolding local_label as_label bind
local_label_is s n e l = rw e (given_true (is_local n) (some n) l)

names_bare_is : (n : ℕ) (x : Instruction) → last_of x.args ≡ value (name n) → names_bare n x ≡ true
unfolding names_bare
names_bare_is n x e = ap (bare_in n) e ∙ eq-eqb n n refl

candidate_is : (q r : Program) → r ≡ q → acceptable r ≡ true → candidate q ≡ some r
unfolding candidate
candidate_is q r e g = given_true (acceptable q) (some q) (ap acceptable (sym e) ∙ g) ∙ ap some (sym e)

-- ---- an inverted fold, its places given
inverted_with : (from to : ℕ) → Program → (i j m : Placeℕ) → Option Program
inverted_with from to p i j m =
    bind (branch from (at p i)) (λ b.
    bind (unconditional (at p j)) (λ jump.
    bind (local_label (at p m)) (λ n.
    given (names_bare n b && (no_inner_label_between p i m && no_interior_label_at p i)) (candidate (drop_all (j ∷ []) (set p i (aimed to b jump)))))))

pub inverted_again : {p q : Program} (f : Inverted p q) → inverted_at f.from f.to p f.i ≡ some q
unfolding inverted_at inverted_with
inverted_again {p} {q} f =
    let b = of f.from f.b.args f.b.carried in
    let jump = of f.jump.form f.jump.args f.jump.carried in
    ap (λ (k : ℕ). inverted_with f.from f.to p f.i k (next p (suc k))) (sym f.j_is)
    ∙ ap (inverted_with f.from f.to p f.i f.j) (sym f.m_is)
    ∙ bind_is _ b _ (branch_is (at p f.i) f.from f.b.args f.b.carried f.branch_at)
    ∙ bind_is _ jump _ (unconditional_is (at p f.j) f.jump.form f.jump.args f.jump.carried f.jump_at f.isjump)
    ∙ bind_is _ f.n _ (local_label_is (at p f.m) f.n f.label_at f.local)
    ∙ given_true _ _
    (and_both (names_bare f.n b) (no_inner_label_between p f.i f.m && no_interior_label_at p f.i) (names_bare_is f.n b f.bare)
    (and_both (no_inner_label_between p f.i f.m) (no_interior_label_at p f.i) f.none_between f.none_inside))
    ∙ candidate_is (drop_all (f.j ∷ []) (set p f.i (aimed f.to f.b f.jump))) q f.new f.good

-- ---- a trampoline
trampoline_with : (f : ℕ) → Program → (i j m u v : Placeℕ) → Option Program
trampoline_with f p i j m u v =
    bind (branch f (at p i)) (λ b.
    bind (unconditional (at p j)) (λ skip.
    bind (local_label (at p m)) (λ t.
    bind (unconditional (at p u)) (λ last.
    bind (local_label (at p v)) (λ s.
    given (names_bare t b && (names_bare s skip && eqb (references (context_at p m) t p) 1))
    (given (no_inner_label_between p i v && no_interior_label_at p i) (candidate (drop_all (j ∷ m ∷ u ∷ []) (set p i (aimed f b last))))))))))

pub trampoline_again : {p q : Program} (f : Trampoline p q) → trampoline_at f.f p f.i ≡ some q
unfolding trampoline_at trampoline_with
trampoline_again {p} {q} f =
    let b = of f.f f.b.args f.b.carried in
    let skip = of f.skip.form f.skip.args f.skip.carried in
    let last = of f.last.form f.last.args f.last.carried in
    ap (λ (k : ℕ). (let m = next p (suc k) in let u = next p (suc m) in trampoline_with f.f p f.i k m u (next p (suc u)))) (sym f.j_is)
    ∙ ap (λ (m : ℕ). (let u = next p (suc m) in trampoline_with f.f p f.i f.j m u (next p (suc u)))) (sym f.m_is)
    ∙ ap (λ (u : ℕ). trampoline_with f.f p f.i f.j f.m u (next p (suc u))) (sym f.u_is)
    ∙ ap (trampoline_with f.f p f.i f.j f.m f.u) (sym f.v_is)
    ∙ bind_is _ b _ (branch_is (at p f.i) f.f f.b.args f.b.carried f.branch_at)
    ∙ bind_is _ skip _ (unconditional_is (at p f.j) f.skip.form f.skip.args f.skip.carried f.skip_at f.skips)
    ∙ bind_is _ f.t _ (local_label_is (at p f.m) f.t f.t_at f.t_local)
    ∙ bind_is _ last _ (unconditional_is (at p f.u) f.last.form f.last.args f.last.carried f.last_at f.isjump)
    ∙ bind_is _ f.s _ (local_label_is (at p f.v) f.s f.s_at f.s_local)
    ∙ given_true _ _
    (and_both (names_bare f.t b) (names_bare f.s skip && eqb (references (context_at p f.m) f.t p) 1) (names_bare_is f.t b f.bare)
    (and_both (names_bare f.s skip) (eqb (references (context_at p f.m) f.t p) 1) (names_bare_is f.s skip f.skip_bare) (eq-eqb _ 1 f.once)))
    ∙ given_true _ _ (and_both (no_inner_label_between p f.i f.v) (no_interior_label_at p f.i) f.none_between f.none_inside)
    ∙ candidate_is (drop_all (f.j ∷ f.m ∷ f.u ∷ []) (set p f.i (aimed f.f f.b f.last))) q f.new f.good

-- ---- a shrink
pub shrunk_again : {p q : Program} (h : Shrunk p q)
    → bind (as_instr (at p h.i)) (λ x. given (no_interior_label_at p h.i) (candidate (set p h.i (instr h.f x.args x.carried)))) ≡ some q
unfolding as_instr
shrunk_again {p} {q} h =
    bind_is (as_instr (at p h.i)) (of h.x.form h.x.args h.x.carried) _ (rw h.far_at)
    ∙ given_true _ _ h.none_inside
    ∙ candidate_is (set p h.i (instr h.f h.x.args h.x.carried)) q h.new h.good
