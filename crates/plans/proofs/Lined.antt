-- The plan of lines is alive, and its lines are those of the grammar. Assumes nothing.
use mathlib.Core.Path.{◌≡◌, refl, sym, ap, ◌∙◌, subst}
use mathlib.Core.Logic.{◌⊎◌, inl, inr}
use mathlib.Core.List.{List, [], ◌∷◌, ◌++◌, append_assoc, append-nil}
use mathlib.Core.Option.{some}
use mathlib.Core.Bool.{Bool, true, false, ◌||◌, cond}
use Prim.Native.Nat.{ℕ, zero, suc, ◌+◌, ◌≤◌}
use native.Mathlib.Omega.{arith}
use lib.Dec.{eqb, lit≤}
use lib.ListN.{length}
use borrow.Author.Tests.{eqb-true}
use Rattle.laws.specs.Lists.{every, same}
use Rattle.laws.proofs.Tests.{clash}
use Rattle.rules.specs.Expressions.{Expr}
use Rattle.rules.specs.Forms.{form_at}
use Rattle.rules.specs.Patterns.{codes}
use Rattle.text.specs.Text.{mnemonic}
use Rattle.rules.specs.Programs.{Stmt, gone, label, variable, org, bytes, words, pad}
use Rattle.grammar.specs.Reading as reading
use Rattle.grammar.specs.Reading.{is_decimal, Exp, Line}
use Rattle.plans.specs.Plans as plans
use Rattle.plans.specs.Plans.{Plan, done, fork, expression, decimal, five, finish, Reads, Behind, Alive}
use Rattle.plans.specs.Words.{Word, opening, In, here, there, advance, fit}
use Rattle.plans.specs.Lines.{after_global, global_plan, local_plan, org_plan, items_plan, dot_words, word_list, line_plan}
use Rattle.plans.specs.Families.{narrow, family, heads, mnemonics}
use Rattle.plans.proofs.Formed.{mnemonic_alive}
use Rattle.plans.proofs.Counted.{align_alive}
use Rattle.plans.proofs.Commented.{comments_alive}
use Rattle.plans.proofs.Planned.{done_ends}
use Rattle.plans.proofs.Parts.{done_is, Tree, tree_of, value_of, name_of, byte_of, comma}
use Rattle.plans.proofs.Worded.{Step, fork_step, trie_alive}

-- ---- alive

after_global_lem : (n c : ℕ) → Alive (after_global n c)
unfolding Alive
after_global_lem n c = on (eqb c 58)
  where
    on : (b : Bool) → Alive (cond b (done (label n)) (expression (λ e. done (variable n e))))
    on true = tt
    on false = λ e. (tt, tt)

global_alive : Alive global_plan
unfolding Alive global_plan
global_alive = λ n. ((58, refl), λ c p. after_global_lem n c)

local_alive : Alive local_plan
unfolding Alive local_plan
local_alive = λ n. ((58, refl), λ c p. tt)

org_alive : Alive org_plan
unfolding Alive org_plan
org_alive = (lit≤ tt, λ n. (tt, tt))

items_alive : (make : List Expr → Stmt) (k : ℕ) (es : List Expr) → Alive (items_plan make k es)
unfolding Alive items_plan
items_alive make zero es = λ e. (tt, tt)
items_alive make (suc k) es = λ e. ((λ c p. comma c p), λ c p. items_alive make k (es ++ (e ∷ [])))

pub words_fit : fit 10 word_list ≡ true
unfolding fit advance word_list mnemonics every narrow family heads same mnemonic form_at
words_fit = refl

pub no_in : {X : Type 0} (w : Word) (vs : List Word) → In w vs → vs ≡ [] → X
no_in {X = X} w [] i e = elim i [ ]
no_in w (v ∷ vs) i e = clash (cc)

-- in one list or the other
pub in_either : {A : Type 0} (w : A) (us vs : List A) → In w (us ++ vs) → In w us ⊎ In w vs
in_either w [] vs i = inr i
in_either w (u ∷ us) vs here = inl here
in_either w (u ∷ us) vs (there i) = on (in_either w us vs i)
  where
    on : In w us ⊎ In w vs → In w (u ∷ us) ⊎ In w vs
    on (inl j) = inl (there j)
    on (inr j) = inr j

pub in_first : {A : Type 0} (w : A) (us vs : List A) → In w us → In w (us ++ vs)
in_first {A = A} w [] vs j = elim j [ ]
in_first w (u ∷ us) vs here = here
in_first w (u ∷ us) vs (there i) = there (in_first w us vs i)

pub in_second : {A : Type 0} (w : A) (us vs : List A) → In w vs → In w (us ++ vs)
in_second w [] vs i = i
in_second w (u ∷ us) vs i = there (in_second w us vs i)

dot_alive : (x : List ℕ) (P : Plan) → In (opening x P) dot_words → Alive P
dot_alive x P here = global_alive
dot_alive x P (there here) = local_alive
dot_alive x P (there (there here)) = org_alive
dot_alive x P (there (there (there here))) = items_alive bytes 15 []
dot_alive x P (there (there (there (there here)))) = items_alive words 15 []
dot_alive x P (there (there (there (there (there (there here)))))) = comments_alive
dot_alive x P (there (there (there (there (there (there (there here))))))) = align_alive pad
dot_alive x P (there (there (there (there (there (there (there (there i)))))))) = no_in (opening x P) [] i refl

open_alive : (x : List ℕ) (P : Plan) → In (opening x P) word_list → Alive P
unfolding word_list
open_alive x P i = on (in_either (opening x P) dot_words mnemonics i)
  where
    on : In (opening x P) dot_words ⊎ In (opening x P) mnemonics → Alive P
    on (inl j) = dot_alive x P j
    on (inr j) = mnemonic_alive x P j

pub line_alive : Alive line_plan
unfolding line_plan
line_alive = trie_alive 10 gone word_list words_fit open_alive

-- ---- the lines of the plan are lines of the grammar

defines : (n : ℕ) (w v : List ℕ) (s : Stmt) → length w ≡ 5 → reading.Decimal 32767 n w → Reads (expression (λ e. done (variable n e))) s v
    → Line s ((103 ∷ w) ++ (61 ∷ v))
defines n w v s l d g =
    let t = tree_of g in
    subst (λ r. Line r ((103 ∷ w) ++ (61 ∷ v))) (sym (done_is t.rest))
    (subst (λ r. Line (variable n t.e) ((103 ∷ w) ++ (61 ∷ r))) (sym (t.is ∙ ap (λ r. t.w ++ r) (done_ends t.rest) ∙ append-nil t.w))
    (reading.defined (reading.global l d) (omega (arith, d.within)) t.good))

global_says : (n c : ℕ) (w v : List ℕ) (s : Stmt) → length w ≡ 5 → reading.Decimal 32767 n w → eqb c 58 || eqb c 61 ≡ true
    → Reads (after_global n c) s v
    → Line s (103 ∷ (w ++ (c ∷ v)))
global_says n c w v s l d p g = on (eqb c 58) refl g
  where
    is_equals : eqb c 58 ≡ false → c ≡ 61
    is_equals q = eqb-true c 61 (ap (λ b. b || eqb c 61) (sym q) ∙ p)

    on : (b : Bool) → eqb c 58 ≡ b → Reads (cond b (done (label n)) (expression (λ e. done (variable n e)))) s v
        → Line s (103 ∷ (w ++ (c ∷ v)))
    on true q g =
        subst (λ r. Line r (103 ∷ (w ++ (c ∷ v)))) (sym (done_is g))
        (subst (λ r. Line (label n) (103 ∷ (w ++ (c ∷ r)))) (sym (done_ends g))
        (subst (λ r. Line (label n) (103 ∷ (w ++ (r ∷ [])))) (sym (eqb-true c 58 q)) (reading.labelled (reading.global l d))))
    on false q g = subst (λ r. Line s (103 ∷ (w ++ (r ∷ v)))) (sym (is_equals q)) (defines n w v s l d g)

pub global_line : (s : Stmt) (t : List ℕ) → Reads global_plan s t → Line s (103 ∷ t)
unfolding global_plan
global_line s t g =
    let m = name_of g in
    let b = byte_of (λ c. eqb c 58 || eqb c 61) (after_global m.n) s m.v m.rest in
    subst (λ y. Line s (103 ∷ y)) (sym (m.is ∙ ap (λ y. m.w ++ y) b.is)) (global_says m.n b.c m.w b.v s m.size m.good b.passes b.rest)

pub local_line : (s : Stmt) (t : List ℕ) → Reads local_plan s t → Line s (46 ∷ (108 ∷ t))
unfolding local_plan
local_line s t g =
    let m = name_of g in
    let b = byte_of (λ c. eqb c 58) (λ c. done (label (0x8000 + m.n))) s m.v m.rest in
    let q : m.v ≡ 58 ∷ [] = b.is ∙ ap (λ y. b.c ∷ y) (done_ends b.rest) ∙ ap (λ y. y ∷ []) (eqb-true b.c 58 b.passes) in
    subst (λ r. Line r (46 ∷ (108 ∷ t))) (sym (done_is b.rest))
    (subst (λ y. Line (label (0x8000 + m.n)) (46 ∷ (108 ∷ y))) (sym (m.is ∙ ap (λ y. m.w ++ y) q))
    (reading.labelled (reading.local m.size m.good)))

pub org_line : (s : Stmt) (t : List ℕ) → Reads org_plan s t → Line s (codes ".org " ++ t)
unfolding org_plan
org_line s t g =
    let m = value_of g in
    subst (λ r. Line r (codes ".org " ++ t)) (sym (done_is m.rest))
    (subst (λ r. Line (org m.n) (codes ".org " ++ r)) (sym (m.is ∙ ap (λ r. m.w ++ r) (done_ends m.rest) ∙ append-nil m.w))
    (reading.located m.good))

-- ---- the lines of the grammar are lines of the plan

pub line_global : (n : ℕ) (t : List ℕ) → length t ≡ 5 → reading.Decimal 32767 n t → Reads global_plan (label n) (t ++ (58 ∷ []))
unfolding global_plan
line_global n t l d = plans.digits l d (plans.byte refl plans.last)

pub line_defined : (n : ℕ) (e : Expr) (s t : List ℕ) → length s ≡ 5 → reading.Decimal 32767 n s → Exp 5 e t
    → Reads global_plan (variable n e) (s ++ (61 ∷ t))
unfolding global_plan
line_defined n e s t l d x =
    subst (λ y. Reads global_plan (variable n e) (s ++ (61 ∷ y))) (append-nil t)
    (plans.digits l d (plans.byte refl (plans.tree x plans.last)))

pub line_local : (n : ℕ) (t : List ℕ) → length t ≡ 5 → reading.Decimal 32767 n t → Reads local_plan (label (0x8000 + n)) (t ++ (58 ∷ []))
unfolding local_plan
line_local n t l d = plans.digits l d (plans.byte refl plans.last)

pub line_org : (n : ℕ) (t : List ℕ) → reading.Decimal 65535 n t → Reads org_plan (org n) t
unfolding org_plan
line_org n t d = subst (λ y. Reads org_plan (org n) y) (append-nil t) (plans.value d plans.last)

-- items: `by` is what stands before the first
pub record Listed (make : List Expr → Stmt) (k : ℕ) (es : List Expr) (s : Stmt) (t : List ℕ) : Type 0 where
  pub items : List Expr
  pub is : s ≡ make (es ++ items)
  pub least : 1 ≤ length items
  pub most : length items ≤ suc k
  pub text : (by : ℕ) → reading.Items by items (by ∷ t)

one_item : (make : List Expr → Stmt) (k : ℕ) (es : List Expr) (e : Expr) (w v : List ℕ) (s : Stmt) → Exp 5 e w → s ≡ make (es ++ (e ∷ []))
    → v ≡ [] → Listed make k es s (w ++ v)
one_item make k es e w v s x q z =
    record {
      items = e ∷ [];
      is = q;
      least = omega arith;
      most = omega arith;
      text = λ by. subst (λ y. reading.Items by (e ∷ []) (by ∷ (w ++ y))) (sym z) (reading.Items.more x reading.Items.none);
    }

pub items_line : (make : List Expr → Stmt) (k : ℕ) (es : List Expr) (s : Stmt) (t : List ℕ) → Reads (items_plan make k es) s t
    → Listed make k es s t
unfolding items_plan
items_line make zero es s t g =
    let m = tree_of g in
    subst (λ y. Listed make 0 es s y) (sym m.is) (one_item make 0 es m.e m.w m.v s m.good (done_is m.rest) (done_ends m.rest))
items_line make (suc k) es s t g = on (tree_of g) (λ e u h. items_line make k (es ++ (e ∷ [])) s u h)
  where
    next : Expr → Plan
    next e = fork (some (make (es ++ (e ∷ [])))) (λ c. eqb c 44) (λ c. items_plan make k (es ++ (e ∷ [])))

    on : Tree next s t → ((e : Expr) (u : List ℕ) → Reads (items_plan make k (es ++ (e ∷ []))) s u → Listed make k (es ++ (e ∷ [])) s u)
        → Listed make (suc k) es s t
    on m ih = subst (λ y. Listed make (suc k) es s y) (sym m.is) (more (fork_step m.rest))
      where
        same_stmt : (a b : Stmt) → some a ≡ some b → b ≡ a
        same_stmt a b e = cc

        more : Step s m.v (some (make (es ++ (m.e ∷ [])))) (λ c. eqb c 44) (λ c. items_plan make k (es ++ (m.e ∷ [])))
            → Listed make (suc k) es s (m.w ++ m.v)
        more (inl (q, z)) = one_item make (suc k) es m.e m.w m.v s m.good (same_stmt (make (es ++ (m.e ∷ []))) s q) z
        more (inr (c, (u, (z, (p, h))))) =
            let r = ih m.e u h in
            record {
              items = m.e ∷ r.items;
              is = r.is ∙ ap make (append_assoc es (m.e ∷ []) r.items);
              least = omega arith;
              most = omega (arith, r.most);
              text =
                  λ by.
                  subst (λ y. reading.Items by (m.e ∷ r.items) (by ∷ (m.w ++ y))) (sym (z ∙ ap (λ y. y ∷ u) (eqb-true c 44 p)))
                  (reading.Items.more m.good (r.text 44));
            }

-- items, the other way
pub record FirstItem (by : ℕ) (e : Expr) (es : List Expr) (t : List ℕ) : Type 0 where
  pub u : List ℕ
  pub v : List ℕ
  pub text : t ≡ by ∷ (u ++ v)
  pub one : Exp 5 e u
  pub rest : reading.Items 44 es v

pub first_item : {by : ℕ} {e : Expr} {es : List Expr} {t : List ℕ} → reading.Items by (e ∷ es) t → FirstItem by e es t
first_item (reading.Items.more {s = u} {t = v} x r) = record { u = u; v = v; text = refl; one = x; rest = r }

pub no_items : {by : ℕ} {t : List ℕ} → reading.Items by [] t → t ≡ []
no_items reading.Items.none = refl

-- behind an item e: the end, or a comma and items
more_items : (make : List Expr → Stmt) (k : ℕ) (xs es : List Expr) (e : Expr) (v : List ℕ)
    → ((es : List Expr) (u : List ℕ) → 1 ≤ length es → length es ≤ suc k → reading.Items 44 es (44 ∷ u)
    → Reads (items_plan make k (xs ++ (e ∷ []))) (make ((xs ++ (e ∷ [])) ++ es)) u)
    → length es ≤ suc k → reading.Items 44 es v
    → Reads (fork (some (make (xs ++ (e ∷ [])))) (λ c. eqb c 44) (λ c. items_plan make k (xs ++ (e ∷ [])))) (make (xs ++ (e ∷ es))) v
more_items make k xs [] e v ih h i =
    subst (λ y. Reads (fork (some (make (xs ++ (e ∷ [])))) (λ c. eqb c 44) (λ c. items_plan make k (xs ++ (e ∷ []))))
    (make (xs ++ (e ∷ []))) y) (sym (no_items i)) plans.ends
more_items make k xs (d ∷ es) e v ih h i =
    let b = first_item i in
    subst (λ y. Reads (fork (some (make (xs ++ (e ∷ [])))) (λ c. eqb c 44) (λ c. items_plan make k (xs ++ (e ∷ []))))
    (make (xs ++ (e ∷ d ∷ es))) y) (sym b.text)
    (plans.byte refl
    (subst (λ y. Reads (items_plan make k (xs ++ (e ∷ []))) (make y) (b.u ++ b.v)) (append_assoc xs (e ∷ []) (d ∷ es))
    (ih (d ∷ es) (b.u ++ b.v) (omega arith) h (subst (λ y. reading.Items 44 (d ∷ es) y) b.text i))))

tails : {by : ℕ} {t u : List ℕ} → by ∷ t ≡ by ∷ u → t ≡ u
tails e = cc

only_item : (make : List Expr → Stmt) (xs es : List Expr) (t : List ℕ) (by : ℕ) → 1 ≤ length es → length es ≤ 1
    → reading.Items by es (by ∷ t)
    → Reads (expression (λ e. done (make (xs ++ (e ∷ []))))) (make (xs ++ es)) t
only_item make xs [] t by l h i = absurd (omega arith)
only_item make xs (d ∷ e ∷ es) t by l h i = absurd (omega arith)
only_item make xs (e ∷ []) t by l h i =
    let b = first_item i in
    subst (λ y. Reads (expression (λ e. done (make (xs ++ (e ∷ []))))) (make (xs ++ (e ∷ []))) y)
    (sym (tails b.text ∙ ap (λ y. b.u ++ y) (no_items b.rest))) (plans.tree b.one plans.last)

abbrev Given : (List Expr → Stmt) → ℕ → List Expr → Type 0
Given make k xs = (es : List Expr) (t : List ℕ) (by : ℕ) → 1 ≤ length es → length es ≤ suc k → reading.Items by es (by ∷ t)
    → Reads (items_plan make k xs) (make (xs ++ es)) t

next_item : (make : List Expr → Stmt) (k : ℕ) (xs es : List Expr) (t : List ℕ) (by : ℕ) → ((e : Expr) → Given make k (xs ++ (e ∷ [])))
    → 1 ≤ length es → length es ≤ suc (suc k)
    → reading.Items by es (by ∷ t)
    → Reads (expression (λ e. fork (some (make (xs ++ (e ∷ [])))) (λ c. eqb c 44) (λ c. items_plan make k (xs ++ (e ∷ [])))))
    (make (xs ++ es)) t
next_item make k xs [] t by ih l h i = absurd (omega arith)
next_item make k xs (e ∷ es) t by ih l h i =
    let b = first_item i in
    subst (λ y. Reads (expression (λ e. fork (some (make (xs ++ (e ∷ [])))) (λ c. eqb c 44) (λ c. items_plan make k (xs ++ (e ∷ [])))))
    (make (xs ++ (e ∷ es))) y) (sym (tails b.text))
    (plans.tree b.one (more_items make k xs es e b.v (λ fs u l h i. ih e fs u 44 l h i) (omega arith) b.rest))

pub line_items : (make : List Expr → Stmt) (k : ℕ) (xs : List Expr) → Given make k xs
unfolding items_plan
line_items make zero xs es t by l h i = only_item make xs es t by l h i
line_items make (suc k) xs es t by l h i = next_item make k xs es t by (λ e. line_items make k (xs ++ (e ∷ []))) l h i
