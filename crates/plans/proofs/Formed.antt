-- The plan of a family of forms is right: its lines are the arguments of one of the forms, and it is alive. Assumes nothing.
use mathlib.Core.Path.{◌≡◌, refl, sym, ap, ◌∙◌, subst}
use mathlib.Core.Logic.{◌⊎◌, inl, inr}
use mathlib.Core.List.{List, [], ◌∷◌, ◌++◌, map, append_assoc, append-nil}
use mathlib.Core.Option.{none}
use mathlib.Core.Bool.{Bool, true, false, not}
use Prim.Native.Nat.{ℕ, zero, suc, ◌<◌}
use native.Mathlib.Omega.{arith}
use lib.Dec.{eqb}
use borrow.Author.Tests.{eqb-true, eqb-false}
use Rattle.laws.specs.Lists.{every, same}
use Rattle.laws.proofs.Tests.{clash, false_true, and_true}
use Rattle.laws.proofs.Lists.{same_true, same_refl}
use Rattle.rules.specs.declared.Kind.{Kind}
use Rattle.rules.specs.Forms.{form_at, operands_at}
use Rattle.rules.specs.Programs.{Operand, Stmt, instr}
use Rattle.text.specs.Text.{mnemonic}
use Rattle.grammar.specs.Reading as reading
use Rattle.grammar.specs.Reading.{Argument, Arguments, Line}
use Rattle.plans.specs.Plans as plans
use Rattle.plans.specs.Plans.{Plan, done, fork, Reads, Behind, Alive}
use Rattle.plans.specs.Words.{Word, opening, Says, In, here, there, onto, some?}
use Rattle.plans.specs.Families.{Mark, plain, mark_of, Shape, Way, way, narrow, behind, args_plan, go_on, behind_fit, ways_fit, below, family, heads, word_of, family_of, mnemonics}
use Rattle.plans.proofs.Planned.{done_ends}
use Rattle.plans.proofs.Worded.{into, onto_same, some_in, in_some}
use Rattle.plans.proofs.Parts.{done_is, byte_of, comma}
use Rattle.plans.proofs.Narrowed.{argument_shape, shape_argument, narrow_in, in_narrow, on_in, fit_of, Fit, said, says, argument_alive}

-- ---- from the plan to arguments

-- behind arguments xs: one of the forms, its operands ys, and their text, with the comma
pub record Instructed (by : ℕ) (ws : List Way) (xs : List Operand) (s : Stmt) (t : List ℕ) : Type 0 where
  pub f : ℕ
  pub ks : List Kind
  pub ys : List Operand
  pub is : s ≡ instr f (xs ++ ys) 0
  pub among : In (way f ks) ws
  pub text : Arguments by ks ys t

abbrev Sound : ℕ → Type 0
Sound n = (ws : List Way) (xs : List Operand) (s : Stmt) (t : List ℕ) (by : ℕ) → ways_fit n ws ≡ true → Reads (args_plan n ws xs) s t
    → Instructed by ws xs s (by ∷ t)

pub ends_so : (f : ℕ) (xs : List Operand) (s : Stmt) (t : List ℕ) (by : ℕ) → Reads (done (instr f xs 0)) s t
    → Instructed by (way f [] ∷ []) xs s t
ends_so f xs s t by g =
    record {
      f = f;
      ks = [];
      ys = [];
      is = done_is g ∙ ap (λ y. instr f y 0) (sym (append-nil xs));
      among = here;
      text = subst (λ y. Arguments by [] [] y) (sym (done_ends g)) reading.Arguments.none;
    }

behind_sound : (n : ℕ) → Sound n → (ws : List Way) (xs : List Operand) (s : Stmt) (t : List ℕ) → behind_fit (ways_fit n) ws ≡ true
    → Reads (behind (args_plan n) ws xs) s t
    → Instructed 44 ws xs s t
behind_sound n ih [] xs s t e g = false_true e
behind_sound n ih (way f [] ∷ []) xs s t e g = ends_so f xs s t 44 g
behind_sound n ih (way f [] ∷ w ∷ ws) xs s t e g = false_true e
behind_sound n ih (way f (k ∷ ks) ∷ ws) xs s t e g =
    let b = byte_of (λ c. eqb c 44) (λ c. args_plan n (way f (k ∷ ks) ∷ ws) xs) s t g in
    subst (λ y. Instructed 44 (way f (k ∷ ks) ∷ ws) xs s y) (sym (b.is ∙ ap (λ y. y ∷ b.v) (eqb-true b.c 44 b.passes)))
    (ih (way f (k ∷ ks) ∷ ws) xs s b.v 44 e b.rest)

pub args_sound : (n : ℕ) → Sound n
unfolding args_plan ways_fit
args_sound zero ws xs s t by e g = false_true e
args_sound (suc n) ws xs s t by e g = on (args_sound n)
  where
    on : Sound n → Instructed by ws xs s (by ∷ t)
    on ih =
        let a = said (λ m. some? (narrow m ws)) (λ m x. behind (args_plan n) (narrow m ws) (xs ++ (x ∷ []))) s t (some? (narrow plain ws))
        refl g in
        let r = behind_sound n ih (narrow a.m ws) (xs ++ (a.x ∷ [])) s a.v ((fit_of n ws e).each a.m a.may) a.rest in
        let q = narrow_in a.m r.f r.ks ws r.among in
        record {
          f = r.f;
          ks = q.k ∷ r.ks;
          ys = a.x ∷ r.ys;
          is = r.is ∙ ap (λ y. instr r.f y 0) (append_assoc xs (a.x ∷ []) r.ys);
          among = q.among;
          text =
              subst (λ y. Arguments by (q.k ∷ r.ks) (a.x ∷ r.ys) (by ∷ y)) (sym a.is)
              (reading.Arguments.more (shape_argument q.k (subst (λ m. Shape m a.x a.w) (sym q.is) a.shape)) r.text);
        }

-- ---- from arguments to the plan

record First (by : ℕ) (k : Kind) (ks : List Kind) (ys : List Operand) (t : List ℕ) : Type 0 where
  x : Operand
  xs : List Operand
  u : List ℕ
  v : List ℕ
  is : ys ≡ x ∷ xs
  text : t ≡ by ∷ (u ++ v)
  one : Argument k x u
  rest : Arguments 44 ks xs v

first_of : {by : ℕ} {k : Kind} {ks : List Kind} {ys : List Operand} {t : List ℕ} → Arguments by (k ∷ ks) ys t → First by k ks ys t
first_of (reading.Arguments.more {x = x} {xs = xs} {s = u} {t = v} a r) =
    record { x = x; xs = xs; u = u; v = v; is = refl; text = refl; one = a; rest = r }

none_of : {by : ℕ} {ys : List Operand} {t : List ℕ} → Arguments by [] ys t → (ys ≡ []) × (t ≡ [])
none_of reading.Arguments.none = (refl, refl)

abbrev Full : ℕ → Type 0
Full n = (ws : List Way) (xs : List Operand) (f by : ℕ) (ks : List Kind) (ys : List Operand) (t : List ℕ) → ways_fit n ws ≡ true
    → In (way f ks) ws → Arguments by ks ys (by ∷ t)
    → Reads (args_plan n ws xs) (instr f (xs ++ ys) 0) t

ends_text : (f : ℕ) (xs ys : List Operand) (t : List ℕ) (by : ℕ) → Arguments by [] ys t
    → Reads (done (instr f xs 0)) (instr f (xs ++ ys) 0) t
ends_text f xs ys t by a =
    let e = none_of a in
    subst (λ y. Reads (done (instr f xs 0)) (instr f y 0) t) (sym (append-nil xs) ∙ ap (λ y. xs ++ y) (sym e.0))
    (subst (λ y. Reads (done (instr f xs 0)) (instr f xs 0) y) (sym e.1) plans.last)

fit_on : (n : ℕ) (ws : List Way) → ways_fit n ws ≡ true → go_on ws ≡ true
unfolding ways_fit
fit_on zero ws e = false_true e
fit_on (suc n) ws e = (fit_of n ws e).on

-- where all go on, a comma follows
goes_on : (n : ℕ) → Full n → (ws : List Way) (xs : List Operand) (f : ℕ) (ks : List Kind) (ys : List Operand) (t : List ℕ)
    → ways_fit n ws ≡ true → In (way f ks) ws → Arguments 44 ks ys t
    → Reads (fork none (λ c. eqb c 44) (λ c. args_plan n ws xs)) (instr f (xs ++ ys) 0) t
goes_on n ih ws xs f [] ys t e i a = absurd (on_in f ws (fit_on n ws e) i)
goes_on n ih ws xs f (k ∷ ks) ys t e i a =
    let b = first_of a in
    let v : List ℕ = b.u ++ b.v in
    subst (λ y. Reads (fork none (λ c. eqb c 44) (λ c. args_plan n ws xs)) (instr f (xs ++ ys) 0) y) (sym b.text)
    (plans.byte refl (ih ws xs f 44 (k ∷ ks) ys (b.u ++ b.v) e i (subst (λ y. Arguments 44 (k ∷ ks) ys y) b.text a)))

behind_full : (n : ℕ) → Full n → (ws : List Way) (xs : List Operand) (f : ℕ) (ks : List Kind) (ys : List Operand) (t : List ℕ)
    → behind_fit (ways_fit n) ws ≡ true
    → In (way f ks) ws → Arguments 44 ks ys t → Reads (behind (args_plan n) ws xs) (instr f (xs ++ ys) 0) t
behind_full n ih [] xs f ks ys t e i a = false_true e
behind_full n ih (way g [] ∷ []) xs f ks ys t e (there j) a = elim j [ ]
behind_full n ih (way g [] ∷ []) xs f ks ys t e here a = ends_text g xs ys t 44 a
behind_full n ih (way g [] ∷ w ∷ ws) xs f ks ys t e i a = false_true e
behind_full n ih (way g (k ∷ ls) ∷ ws) xs f ks ys t e i a = goes_on n ih (way g (k ∷ ls) ∷ ws) xs f ks ys t e i a

pub args_full : (n : ℕ) → Full n
unfolding args_plan ways_fit
args_full zero ws xs f by ks ys t e i a = false_true e
args_full (suc n) ws xs f by [] ys t e i a = absurd (on_in f ws (fit_of n ws e).on i)
args_full (suc n) ws xs f by (k ∷ ks) ys t e i a = on (args_full n) (first_of a)
  where
    on : Full n → First by k ks ys (by ∷ t) → Reads (args_plan (suc n) ws xs) (instr f (xs ++ ys) 0) t
    on ih b =
        let j = in_narrow f k ks ws i in
        let may = in_some (way f ks) (narrow (mark_of k) ws) j in
        let z : t ≡ b.u ++ b.v = tails b.text in
        subst (λ y. Reads (args_plan (suc n) ws xs) (instr f (xs ++ ys) 0) y) (sym z)
        (says (λ m. some? (narrow m ws)) (λ m x. behind (args_plan n) (narrow m ws) (xs ++ (x ∷ []))) (argument_shape b.one)
        (instr f (xs ++ ys) 0) b.v
        (some? (narrow plain ws)) refl may
        (subst (λ y. Reads (behind (args_plan n) (narrow (mark_of k) ws) (xs ++ (b.x ∷ []))) (instr f y 0) b.v)
        (append_assoc xs (b.x ∷ []) b.xs ∙ ap (λ y. xs ++ y) (sym b.is))
        (behind_full n ih (narrow (mark_of k) ws) (xs ++ (b.x ∷ [])) f ks b.xs b.v ((fit_of n ws e).each (mark_of k) may) j b.rest)))
      where
        tails : {u : List ℕ} → by ∷ t ≡ by ∷ u → t ≡ u
        tails e = cc

-- ---- alive

behind_alive : (n : ℕ) (ws : List Way) (xs : List Operand) → behind_fit (ways_fit n) ws ≡ true
    → (ways_fit n ws ≡ true → Alive (args_plan n ws xs))
    → Behind (behind (args_plan n) ws xs) × Alive (behind (args_plan n) ws xs)
unfolding Alive
behind_alive n [] xs e a = false_true e
behind_alive n (way f [] ∷ []) xs e a = (tt, tt)
behind_alive n (way f [] ∷ w ∷ ws) xs e a = false_true e
behind_alive n (way f (k ∷ ks) ∷ ws) xs e a = ((λ c p. comma c p), ((44, refl), λ c p. a e))

pub args_alive : (n : ℕ) (ws : List Way) (xs : List Operand) → ways_fit n ws ≡ true → Alive (args_plan n ws xs)
unfolding args_plan ways_fit
args_alive zero ws xs e = false_true e
args_alive (suc n) ws xs e = on (fit_of n ws e) (λ vs ys q. args_alive n vs ys q)
  where
    first_mark : (vs : List Way) → go_on vs ≡ true → some? vs ≡ true → (m : Mark) × (some? (narrow m vs) ≡ true)
    first_mark [] p q = false_true q
    first_mark (way f [] ∷ vs) p q = false_true p
    first_mark (way f (k ∷ ks) ∷ vs) p q =
        (mark_of k, in_some (way f ks) (narrow (mark_of k) (way f (k ∷ ks) ∷ vs)) (in_narrow f k ks (way f (k ∷ ks) ∷ vs) here))

    on : Fit n ws → ((vs : List Way) (ys : List Operand) → ways_fit n vs ≡ true → Alive (args_plan n vs ys))
        → Alive (args_plan (suc n) ws xs)
    on h ih =
        let m = first_mark ws h.on h.has in
        argument_alive (λ m. some? (narrow m ws)) (λ m x. behind (args_plan n) (narrow m ws) (xs ++ (x ∷ []))) (some? (narrow plain ws))
        refl m.0 m.1
        (λ m x q. behind_alive n (narrow m ws) (xs ++ (x ∷ [])) (h.each m q) (ih (narrow m ws) (xs ++ (x ∷ []))))

-- ---- the words

-- what is in a family
record Member (m : List ℕ) (fs : List ℕ) (w : Way) : Type 0 where
  f : ℕ
  is : w ≡ way f (operands_at f)
  called : mnemonic f ≡ m
  among : In f fs

family_in : (m : List ℕ) (fs : List ℕ) (w : Way) → In w (family m fs) → Member m fs w
unfolding family
family_in m [] w i = elim i [ ]
family_in m (f ∷ fs) w i = on (into (same (mnemonic f) m) w (way f (operands_at f)) (family m fs) i) (λ j. family_in m fs w j)
  where
    on : ((w ≡ way f (operands_at f)) × (same (mnemonic f) m ≡ true)) ⊎ In w (family m fs) → (In w (family m fs) → Member m fs w)
        → Member m (f ∷ fs) w
    on (inl (e, q)) h = record { f = f; is = e; called = same_true (mnemonic f) m q; among = here }
    on (inr j) h = let r = h j in record { f = r.f; is = r.is; called = r.called; among = there r.among }

in_family : (f : ℕ) (fs : List ℕ) → In f fs → In (way f (operands_at f)) (family (mnemonic f) fs)
unfolding family
in_family f [] j = elim j [ ]
in_family f (g ∷ fs) here = subst (λ b. In (way f (operands_at f)) (onto b (way f (operands_at f)) (family (mnemonic f) fs)))
    (sym (same_refl (mnemonic f))) here
in_family f (g ∷ fs) (there i) =
    onto_same (way f (operands_at f)) (same (mnemonic g) (mnemonic f)) (way g (operands_at g)) (family (mnemonic f) fs) (in_family f fs i)

-- each form has its mnemonic among the heads
pub heads_have : (f : ℕ) (fs : List ℕ) → In f fs → (g : ℕ) × (In g (heads fs) × (mnemonic g ≡ mnemonic f))
unfolding heads
heads_have f [] j = elim j [ ]
heads_have f (h ∷ fs) here = on (some? (family (mnemonic f) fs)) refl (λ g i. heads_have g fs i)
  where
    on : (b : Bool) → some? (family (mnemonic f) fs) ≡ b → ((g : ℕ) → In g fs → (k : ℕ) × (In k (heads fs) × (mnemonic k ≡ mnemonic g)))
        → (g : ℕ) × (In g (onto (not b) f (heads fs)) × (mnemonic g ≡ mnemonic f))
    on true q ih =
        let w = some_in (family (mnemonic f) fs) q in
        let m = family_in (mnemonic f) fs w.0 w.1 in
        let r = ih m.f m.among in
        (r.0, (r.1.0, r.1.1 ∙ m.called))
    on false q ih = (f, (here, refl))
heads_have f (h ∷ fs) (there i) =
    let r = heads_have f fs i in (r.0, (onto_same r.0 (not (some? (family (mnemonic h) fs))) h (heads fs) r.1.0, r.1.1))

pub in_below : (n f : ℕ) → f < n → In f (below n)
in_below zero f h = absurd (omega arith)
in_below (suc n) f h = on (eqb f n) refl (λ k. in_below n f k)
  where
    on : (b : Bool) → eqb f n ≡ b → (f < n → In f (below n)) → In f (n ∷ below n)
    on true q ih = subst (λ y. In f (y ∷ below n)) (eqb-true f n q) here
    on false q ih = there (ih (omega (arith, eqb-false f n q)))

pub below_in : (n f : ℕ) → In f (below n) → f < n
below_in zero f j = elim j [ ]
below_in (suc n) f here = omega arith
below_in (suc n) f (there i) = omega (arith, below_in n f i)

pub map_in : {A B : Type 0} (g : A → B) (a : A) (xs : List A) → In a xs → In (g a) (map g xs)
map_in {A = A} {B = B} g a [] j = elim j [ ]
map_in g a (b ∷ xs) here = here
map_in g a (b ∷ xs) (there i) = there (map_in g a xs i)

pub in_map : {A B : Type 0} (g : A → B) (b : B) (xs : List A) → In b (map g xs) → (a : A) × (In a xs × (b ≡ g a))
in_map {A = A} {B = B} g b [] j = elim j [ ]
in_map g b (a ∷ xs) here = (a, (here, refl))
in_map g b (a ∷ xs) (there i) = let r = in_map g b xs i in (r.0, (there r.1.0, r.1.1))

families_fit : every (λ f. behind_fit (ways_fit 3) (family_of f)) (heads (below 70)) ≡ true
unfolding every ways_fit narrow family heads same mnemonic form_at
families_fit = refl

pub every_in : {A : Type 0} (g : A → Bool) (a : A) (xs : List A) → every g xs ≡ true → In a xs → g a ≡ true
unfolding every
every_in {A = A} g a [] e j = elim j [ ]
every_in g a (b ∷ xs) e here = (and_true (g a) (every g xs) e).0
every_in g a (b ∷ xs) e (there i) = every_in g a xs (and_true (g b) (every g xs) e).1 i

head_fits : (f : ℕ) → In f (heads (below 70)) → behind_fit (ways_fit 3) (family_of f) ≡ true
head_fits f i = every_in (λ f. behind_fit (ways_fit 3) (family_of f)) f (heads (below 70)) families_fit i

-- ---- from a word to a line

instructed_line : (m u : List ℕ) (ws : List Way) (s : Stmt) → ((w : Way) → In w ws → Member m (below 70) w) → Instructed 32 ws [] s u
    → Line s (m ++ u)
instructed_line m u ws s h r = on (h (way r.f r.ks) r.among)
  where
    on : Member m (below 70) (way r.f r.ks) → Line s (m ++ u)
    on q =
        let a : r.f ≡ q.f = forms q.is in
        let b : r.ks ≡ operands_at q.f = kinds q.is in
        subst (λ y. Line y (m ++ u)) (sym (r.is ∙ ap (λ y. instr y r.ys 0) a))
        (subst (λ y. Line (instr q.f r.ys 0) (y ++ u)) q.called
        (reading.instruction (below_in 70 q.f q.among) (subst (λ y. Arguments 32 y r.ys u) b r.text)))
      where
        forms : {f g : ℕ} {ks ls : List Kind} → way f ks ≡ way g ls → f ≡ g
        forms e = cc

        kinds : {f g : ℕ} {ks ls : List Kind} → way f ks ≡ way g ls → ks ≡ ls
        kinds e = cc

opened_line : (m : List ℕ) (ws : List Way) (s : Stmt) (t v : List ℕ) → ways_fit 3 ws ≡ true → ((w : Way) → In w ws → Member m (below 70) w)
    → t ≡ (m ++ (32 ∷ [])) ++ v
    → Reads (args_plan 3 ws []) s v → Line s t
opened_line m ws s t v e h z g =
    subst (λ y. Line s y) (sym (z ∙ append_assoc m (32 ∷ []) v)) (instructed_line m (32 ∷ v) ws s h (args_sound 3 ws [] s v 32 e g))

word_line : (m : List ℕ) (ws : List Way) (s : Stmt) (t : List ℕ) → behind_fit (ways_fit 3) ws ≡ true
    → ((w : Way) → In w ws → Member m (below 70) w) → Says (word_of m ws) s t → Line s t
word_line m [] s t e h g = false_true e
word_line m (way f [] ∷ []) s t e h (q, z) =
    subst (λ y. Line s y) (sym (z ∙ sym (append-nil m)))
    (instructed_line m [] (way f [] ∷ []) s h (record { f = f; ks = []; ys = []; is = q; among = here; text = reading.Arguments.none }))
word_line m (way f [] ∷ w ∷ ws) s t e h g = false_true e
word_line m (way f (k ∷ ks) ∷ ws) s t e h (v, (z, g)) = opened_line m (way f (k ∷ ks) ∷ ws) s t v e h z g

pub mnemonic_line : (w : Word) (s : Stmt) (t : List ℕ) → In w mnemonics → Says w s t → Line s t
unfolding mnemonics
mnemonic_line w s t i g =
    let r = in_map (λ f. word_of (mnemonic f) (family_of f)) w (heads (below 70)) i in
    word_line (mnemonic r.0) (family_of r.0) s t (head_fits r.0 r.1.0) (λ v j. family_in (mnemonic r.0) (below 70) v j)
    (subst (λ y. Says y s t) r.1.1 g)

-- ---- from a line to a word

line_opened : (m : List ℕ) (ws : List Way) (f : ℕ) (ks : List Kind) (ys : List Operand) (t : List ℕ) → ways_fit 3 ws ≡ true
    → In (way f ks) ws → Arguments 32 ks ys t
    → Says (opening (m ++ (32 ∷ [])) (args_plan 3 ws [])) (instr f ys 0) (m ++ t)
line_opened m ws f [] ys t e i a = absurd (on_in f ws (fit_on 3 ws e) i)
line_opened m ws f (k ∷ ks) ys t e i a =
    let b = first_of a in (
      b.u ++ b.v,
      (
        ap (λ y. m ++ y) b.text
            ∙ sym (append_assoc m (32 ∷ []) (b.u ++ b.v)),
        args_full 3 ws [] f 32 (k ∷ ks) ys (b.u ++ b.v) e i
            (subst (λ y. Arguments 32 (k ∷ ks) ys y) b.text a),
      ),
    )

line_word : (m : List ℕ) (ws : List Way) (f : ℕ) (ks : List Kind) (ys : List Operand) (t : List ℕ) → behind_fit (ways_fit 3) ws ≡ true
    → In (way f ks) ws → Arguments 32 ks ys t
    → Says (word_of m ws) (instr f ys 0) (m ++ t)
line_word m [] f ks ys t e i a = false_true e
line_word m (way g [] ∷ []) f ks ys t e (there j) a = elim j [ ]
line_word m (way g [] ∷ []) f ks ys t e here a =
    let b = none_of a in (ap (λ y. instr g y 0) b.0, ap (λ y. m ++ y) b.1 ∙ append-nil m)
line_word m (way g [] ∷ w ∷ ws) f ks ys t e i a = false_true e
line_word m (way g (k ∷ ls) ∷ ws) f ks ys t e i a = line_opened m (way g (k ∷ ls) ∷ ws) f ks ys t e i a

pub line_mnemonic : (f : ℕ) (ys : List Operand) (t : List ℕ) → f < 70 → Arguments 32 (operands_at f) ys t
    → (w : Word) × (In w mnemonics × Says w (instr f ys 0) (mnemonic f ++ t))
unfolding mnemonics
line_mnemonic f ys t h a =
    let r = heads_have f (below 70) (in_below 70 f h) in
    let g : ℕ = r.0 in (
      word_of (mnemonic g) (family_of g),
      (
        map_in (λ f. word_of (mnemonic f) (family_of f)) g (heads (below 70)) r.1.0,
        subst (λ y. Says (word_of (mnemonic g) (family_of g)) (instr f ys 0) (y ++ t)) r.1.1
            (line_word (mnemonic g) (family_of g) f (operands_at f) ys t (head_fits g r.1.0)
            (subst (λ y. In (way f (operands_at f)) (family y (below 70))) (sym r.1.1) (in_family f (below 70) (in_below 70 f h))) a),
      ),
    )

-- ---- alive

word_alive : (m : List ℕ) (ws : List Way) (x : List ℕ) (P : Plan) → behind_fit (ways_fit 3) ws ≡ true → opening x P ≡ word_of m ws → Alive P
word_alive m [] x P e q = false_true e
word_alive m (way f [] ∷ []) x P e q = clash (cc)
word_alive m (way f [] ∷ w ∷ ws) x P e q = false_true e
word_alive m (way f (k ∷ ks) ∷ ws) x P e q =
    let z : P ≡ args_plan 3 (way f (k ∷ ks) ∷ ws) [] = cc in
    subst (λ y. Alive y) (sym z) (args_alive 3 (way f (k ∷ ks) ∷ ws) [] e)

pub mnemonic_alive : (x : List ℕ) (P : Plan) → In (opening x P) mnemonics → Alive P
unfolding mnemonics
mnemonic_alive x P i =
    let r = in_map (λ f. word_of (mnemonic f) (family_of f)) (opening x P) (heads (below 70)) i in
    word_alive (mnemonic r.0) (family_of r.0) x P (head_fits r.0 r.1.0) r.1.1
