-- All arguments, as far as they are read. Assumes nothing.
use mathlib.Core.Path.{◌≡◌, refl, sym, ap, ◌∙◌, subst}
use mathlib.Core.List.{List, [], ◌∷◌, ◌++◌, append-nil}
use mathlib.Core.Option.{none}
use Prim.Native.Nat.{ℕ, suc, ◌+◌, ◌-◌, ◌≤◌, ◌<◌}
use native.Mathlib.Numerals.{add-one}
use native.Mathlib.Omega.{arith}
use lib.Dec.{eqb}
use lib.ListN.{length, drop, set, length-set, length-drop, drop_of_length-le}
use lib.Seq.{take-set-lt}
use borrow.Author.Tests.{ne_eqb}
use Rattle.std.specs.Prelude.{Ok, Err, Result}
use Rattle.laws.specs.Lists.{each, total}
use Rattle.laws.proofs.Lists.{each_append, total_append}
use Rattle.rules.specs.Forms.{operands_at}
use Rattle.rules.specs.Programs.{Operand, in_operand, Stmt, instr}
use Rattle.rules.specs.Output.{operand_bytes, frame_of}
use Rattle.grammar.specs.Reading.{look}
use Rattle.grammar.specs.Going.{Read, got, stuck}
use Rattle.plans.specs.Plans as plans
use Rattle.plans.specs.Plans.{Plan, done, fork, expression, either, Walks}
use Rattle.plans.specs.Families.{behind, args_plan, family_of}
use Rattle.laying.specs.Laying.{long, Stands, Added}
use Rattle.laying.proofs.Laying.{nothing_stands}
use Rattle.laying.specs.Speaking.{Spoken}
use Rattle.laying.proofs.Speaking.{fork_byte, fork_wrong}
use Rattle.marks.specs.Narrowing.{agree}
use Rattle.arguing.specs.Answers.{ArgEnds, Argued, form_bytes, longs, FormEnd}
use Rattle.marks.proofs.Narrowing.{done_law, more_law, at_most_three}

-- ---- the form is stored behind the kind

pub form_stands : (b : List ℕ) (f to : ℕ) → length b ≡ 120 → (xs : List Operand) (l : ℕ) → Stands b to (form_bytes 0 xs) l
    → Stands (set b 1 f) to (form_bytes f xs) l
form_stands b f to e xs l w =
    record {
      size = length-set b 1 f ∙ e;
      within = w.within;
      front = λ h.
          let k : 1 < to = omega (arith, w.ends h) in take-set-lt to b 1 f k ∙ ap (λ x. set x 1 f) (w.front h);
      ends = w.ends;
      short = w.short;
      over = w.over;
    }

-- ---- so far: j arguments are read, and stand; the line is of form f or one that agrees with it

pub record SoFar (form : ℕ) (s : List ℕ) (k : ℕ) (b : List ℕ) (at i f j : ℕ) : Type 0 where
  pub xs : List Operand
  pub known : f < 70
  pub few : j < 3
  pub stands : Stands b at (form_bytes 0 xs) (longs xs)
  pub leads : (o : Read Stmt) → Walks (args_plan (3 - j) (agree f j) xs) (drop i s) o → Walks (args_plan 3 (family_of form) []) (drop k s) o

pub none_yet : (form : ℕ) (s : List ℕ) (k : ℕ) (b₀ b₁ b₂ : List ℕ) (p q : ℕ) → form < 70 → length b₀ ≡ 120 → Added b₀ b₁ 0 p (1 ∷ []) 0
    → Added b₁ b₂ p q (0 ∷ []) 0 → SoFar form s k b₂ q k form 0
unfolding each total agree
none_yet form s k b₀ b₁ b₂ p q h e x y =
    record { xs = []; known = h; few = omega arith; stands = y.adds (1 ∷ []) 0 (x.adds [] 0 (nothing_stands b₀ e)); leads = λ o w. w }

module _ (form : ℕ) (s : List ℕ) (k : ℕ) (b a : List ℕ) (at i f j : ℕ) (w : SoFar form s k b at i f j) (r : Result (ℕ × ℕ × ℕ) ℕ)
    (x : Argued s i f j b a at r) where
  size : 3 - j ≡ suc (2 - j)
  size = omega (arith, w.few)

  step : (o : Read Stmt) → Walks (args_plan (suc (2 - j)) (agree f j) w.xs) (drop i s) o
      → Walks (args_plan 3 (family_of form) []) (drop k s) o
  step o v = w.leads o (subst (λ n. Walks (args_plan n (agree f j) w.xs) (drop i s) o) (sym size) v)

  pub arg_wrong : (n : ℕ) → r ≡ Err n → Spoken (args_plan 3 (family_of form) []) s k a (Err n)
  arg_wrong n q =
      let y = subst (λ z. Argued s i f j b a at z) q x in (step (stuck (drop n s)) (y.0 (2 - j) w.xs), y.1)

  module _ (g n to : ℕ) (q : r ≡ Ok (g, n, to)) where
    ends : ArgEnds s i f j b a at g n to
    ends = subst (λ z. Argued s i f j b a at z) q x

    pub arg_most : n ≤ length s
    arg_most = ends.within

    pub arg_form : g < 70
    arg_form = ends.form

    pub arg_size : length a ≡ 120
    arg_size = ends.added.size

    pub arg_to : to ≤ 121
    arg_to = ends.added.within

    more : List Operand
    more = w.xs ++ (ends.x ∷ [])

    more_stands : Stands a to (form_bytes 0 more) (longs more)
    unfolding more each total
    more_stands =
        let y : Operand = ends.x in
        let v : Stands a to (form_bytes 0 w.xs ++ operand_bytes y) (longs w.xs + in_operand long y) =
        ends.added.adds (form_bytes 0 w.xs) (longs w.xs) w.stands in
        let u : in_operand long y ≡ in_operand long y + 0 = omega arith in
        subst (λ z. Stands a to (1 ∷ 0 ∷ z) (longs (w.xs ++ (y ∷ []))))
        (ap (λ z. each (λ x. operand_bytes x) w.xs ++ z) (sym (append-nil (operand_bytes y)))
        ∙ sym (each_append (λ x. operand_bytes x) w.xs (y ∷ [])))
        (subst (λ l. Stands a to (1 ∷ 0 ∷ (each (λ x. operand_bytes x) w.xs ++ operand_bytes y)) l)
        (ap (λ z. longs w.xs + z) u ∙ sym (total_append (in_operand long) w.xs (y ∷ []))) v)

    behind_walk : (o : Read Stmt) → Walks (behind (args_plan (2 - j)) (agree g (suc j)) more) (drop n s) o
        → Walks (args_plan 3 (family_of form) []) (drop k s) o
    unfolding more
    behind_walk o v = step o (ends.leads (2 - j) w.xs o v)

    -- the last argument
    pub arg_last : (c : List ℕ) (z : Result ℕ ℕ) → length (operands_at g) ≡ j + 1 → FormEnd (length s) n g a c to z
        → Spoken (args_plan 3 (family_of form) []) s k c z
    unfolding frame_of
    arg_last c (Ok m) e (l, (u, v)) =
        let d = done_law (args_plan (2 - j)) g j more ends.form w.few (e ∙ add-one j) in (
          instr g more 0,
          (
            behind_walk (got (instr g more 0) []) (subst (λ p. Walks p (drop n s) (got (instr g more 0) [])) (sym d)
                (subst (λ t. Walks (done (instr g more 0)) t (got (instr g more 0) [])) (sym (drop_of_length-le s l)) plans.Walks.last)),
            subst (λ y. Stands c y (form_bytes g more) (longs more)) (sym u) (v more (longs more) more_stands),
          ),
        )
    arg_last c (Err m) e (l, u) =
        let d = done_law (args_plan (2 - j)) g j more ends.form w.few (e ∙ add-one j) in
        subst (λ y. Spoken (args_plan 3 (family_of form) []) s k c (Err y)) (sym u) (
          behind_walk (stuck (drop n s)) (subst (λ p. Walks p (drop n s) (stuck (drop n s))) (sym d)
              (over (instr g more 0) (drop n s) (omega (arith, length-drop n s)))),
          ends.within,
        )
      where
        over : (x : Stmt) (t : List ℕ) → 1 ≤ length t → Walks (done x) t (stuck t)
        over x [] h = absurd (omega arith)
        over x (c ∷ t) h = plans.Walks.over

    module _ (e : length (operands_at g) ≡ j + 1 → ⊥) where
      comma : behind (args_plan (2 - j)) (agree g (suc j)) more ≡ fork none (λ c. eqb c 44) (λ c. args_plan (2 - j) (agree g (suc j)) more)
      comma = more_law (args_plan (2 - j)) g j more ends.form w.few ends.more (λ z. e (z ∙ sym (add-one j)))

      pub arg_other : (look (drop n s) ≡ 44 → ⊥) → Spoken (args_plan 3 (family_of form) []) s k a (Err n)
      arg_other d = (
        behind_walk (stuck (drop n s)) (subst (λ p. Walks p (drop n s) (stuck (drop n s))) (sym comma)
            (fork_wrong (λ c. eqb c 44) (λ c. args_plan (2 - j) (agree g (suc j)) more) (drop n s) (ne_eqb (look (drop n s)) 44 d))),
        ends.within,
      )

      pub arg_next : look (drop n s) ≡ 44 → SoFar form s k a to (n + 1) g (j + 1)
      arg_next d =
          let u : 3 - (j + 1) ≡ 2 - j = omega (arith, w.few) in
          record {
            xs = more;
            known = ends.form;
            few = omega (arith, e', ends.more, at_most_three g ends.form);
            stands = more_stands;
            leads = λ o v.
                behind_walk o (subst (λ p. Walks p (drop n s) o) (sym comma)
                (fork_byte none (λ c. eqb c 44) (λ c. args_plan (2 - j) (agree g (suc j)) more) s n 43 o d refl
                (subst (λ m. Walks (args_plan (2 - j) (agree g m) more) (drop (n + 1) s) o) (add-one j)
                (subst (λ m. Walks (args_plan m (agree g (j + 1)) more) (drop (n + 1) s) o) u v))));
          }
        where
          e' : (length (operands_at g) ≡ j + 1) → ⊥
          e' = e
