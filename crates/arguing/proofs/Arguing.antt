-- One argument by its plan. Assumes nothing.
use mathlib.Core.Path.{◌≡◌, refl, sym, ap, ◌∙◌, subst}
use mathlib.Core.List.{List, [], ◌∷◌, ◌++◌}
use mathlib.Core.Option.{none}
use mathlib.Core.Bool.{Bool, true, false, ◌&&◌, cond}
use Prim.Native.Nat.{ℕ, zero, suc, ◌+◌, ◌-◌, ◌≤◌, ◌<◌}
use native.Mathlib.Omega.{arith}
use lib.Dec.{eqb, leb}
use lib.ListN.{length, drop, length-drop}
use lib.Seq.{drop-drop}
use borrow.Author.Tests.{eqb-true, eqb-false, ne_eqb, le-leb, lt-leb}
use Rattle.std.specs.Prelude.{Result, Ok, Err}
use Rattle.laws.proofs.Tests.{and_both, first_false, second_false, true_false}
use Rattle.rules.specs.Expressions.{Expr, bytes_of}
use Rattle.rules.specs.Forms.{operands_at}
use Rattle.rules.specs.Programs.{Operand, register, value, Stmt}
use Rattle.grammar.specs.Reading.{look}
use Rattle.grammar.specs.Going as going
use Rattle.grammar.specs.Going.{Read, got, stuck, whole, alone, Goes, class_of, other, start, start_by}
use Rattle.plans.specs.Plans as plans
use Rattle.plans.specs.Plans.{Plan, done, fork, expression, either, Walks}
use Rattle.plans.specs.Words.{some?}
use Rattle.plans.specs.Families.{Mark, hash, at, plain, narrow, register_plan, marks, mark_plan, argument, behind, args_plan}
use Rattle.laying.specs.Laying.{long, Added, Termed}
use Rattle.laying.proofs.Speaking.{first_byte, fork_byte, fork_wrong}
use Rattle.marks.specs.Narrowing.{mark_by, mark_number, agree, chosen}
use Rattle.arguing.specs.Answers.{Argued, Valued, Registered}
use Rattle.marks.proofs.Narrowing.{step_law, none_law, some_law}

-- ---- no expression begins with a mark

no_expression : (t : List ℕ) → (c : ℕ) → look t ≡ c → class_of c ≡ other → Goes (whole 5) t (stuck t)
unfolding start
no_expression [] c e q = lift (going.nones refl)
  where
    lift : Goes alone [] (stuck []) → Goes (whole 5) [] (stuck [])
    lift g = going.sinks (going.sinks (going.sinks (going.sinks (going.sinks (going.fails g)))))
no_expression (b ∷ t) c e q = lift (going.nones (ap (λ x. start_by x b t) (ap class_of e ∙ q)))
  where
    lift : Goes alone (b ∷ t) (stuck (b ∷ t)) → Goes (whole 5) (b ∷ t) (stuck (b ∷ t))
    lift g = going.sinks (going.sinks (going.sinks (going.sinks (going.sinks (going.fails g)))))

-- ---- one argument, by what it begins with

module _ (can : Mark → Bool) (f : Mark → Operand → Plan) (s : List ℕ) (k : ℕ) where
  marked : (b : Bool) (c : ℕ) (o : Read Stmt) → look (drop k s) ≡ suc c → marks can (suc c) ≡ true
      → Walks (mark_plan f (suc c)) (drop (k + 1) s) o → Walks (argument b can f) (drop k s) o
  marked true c o e p w =
      subst (λ t. Walks (either (marks can) (mark_plan f) (λ e. f plain (value e))) t o) (sym (first_byte (drop k s) c e))
      (plans.Walks.marked p (subst (λ t. Walks (mark_plan f (suc c)) t o) (sym (drop-drop 1 k s)) w))
  marked false c o e p w = fork_byte none (marks can) (mark_plan f) s k c o e p w

  pub hash_walk : (b : Bool) (o : Read Stmt) → look (drop k s) ≡ 35 → can hash ≡ true
      → Walks (expression (λ e. f hash (value e))) (drop (k + 1) s) o → Walks (argument b can f) (drop k s) o
  hash_walk b o e p w = marked b 34 o e (rw p) w

  pub at_walk : (b : Bool) (o : Read Stmt) → look (drop k s) ≡ 64 → can at ≡ true
      → Walks (register_plan (λ r. f at (register r))) (drop (k + 1) s) o → Walks (argument b can f) (drop k s) o
  at_walk b o e p w = marked b 63 o e p w

  -- neither mark
  plain_marks : (c : ℕ) → (c ≡ 35 → ⊥) → (c ≡ 64 → ⊥) → marks can c ≡ false
  plain_marks c p q = rw (ne_eqb c 35 p, ne_eqb c 64 q)

  pub plain_walk : (e : Expr) (r : List ℕ) (o : Read Stmt) → (look (drop k s) ≡ 35 → ⊥) → (look (drop k s) ≡ 64 → ⊥) → can plain ≡ true
      → Goes (whole 5) (drop k s) (got e r) → Walks (f plain (value e)) r o → Walks (argument (can plain) can f) (drop k s) o
  plain_walk e r o p q c g w = subst (λ b. Walks (argument b can f) (drop k s) o) (sym c)
      (plans.Walks.bare (plain_marks (look (drop k s)) p q) g w)

  pub plain_stuck : (r : List ℕ) → (look (drop k s) ≡ 35 → ⊥) → (look (drop k s) ≡ 64 → ⊥) → can plain ≡ true
      → Goes (whole 5) (drop k s) (stuck r) → Walks (argument (can plain) can f) (drop k s) (stuck r)
  plain_stuck r p q c g = subst (λ b. Walks (argument b can f) (drop k s) (stuck r)) (sym c)
      (plans.Walks.bareless (plain_marks (look (drop k s)) p q) g)

  -- nothing goes on so
  pub none_walk : (b : Bool) → marks can (look (drop k s)) ≡ false → (b ≡ true → Goes (whole 5) (drop k s) (stuck (drop k s)))
      → Walks (argument b can f) (drop k s) (stuck (drop k s))
  none_walk true p g = plans.Walks.bareless p (g refl)
  none_walk false p g = fork_wrong (marks can) (mark_plan f) (drop k s) p

-- ---- the number of a mark

pub data Marked (c : ℕ) : ℕ → Type 0 where
  is_hash : c ≡ 35 → Marked c 0
  is_at : c ≡ 64 → Marked c 1
  is_plain : (c ≡ 35 → ⊥) → (c ≡ 64 → ⊥) → Marked c 2

pub marked_by : (c : ℕ) → Marked c (mark_number c)
marked_by c = on (eqb c 35) refl (eqb c 64) refl
  where
    on : (x : Bool) → eqb c 35 ≡ x → (y : Bool) → eqb c 64 ≡ y → Marked c (cond x 0 (cond y 1 2))
    on true p y q = is_hash (eqb-true c 35 p)
    on false p true q = is_at (eqb-true c 64 q)
    on false p false q = is_plain (eqb-false c 35 p) (eqb-false c 64 q)

pub marked_as : (c d m : ℕ) → d ≡ c → m ≡ mark_number d → Marked c m
marked_as c d m e q = subst (λ x. Marked c x) (sym (q ∙ ap (λ x. mark_number x) e)) (marked_by c)

pub is_hash_lem : {c m : ℕ} → Marked c m → m ≡ 0 → c ≡ 35
is_hash_lem (is_hash e) q = e
is_hash_lem (is_at e) q = absurd (omega arith)
is_hash_lem (is_plain p r) q = absurd (omega arith)

pub is_at_lem : {c m : ℕ} → Marked c m → m ≡ 1 → c ≡ 64
is_at_lem (is_hash e) q = absurd (omega arith)
is_at_lem (is_at e) q = e
is_at_lem (is_plain p r) q = absurd (omega arith)

pub is_neither : {c m : ℕ} → Marked c m → m ≡ 2 → (c ≡ 35 → ⊥) × (c ≡ 64 → ⊥)
is_neither (is_hash e) q = absurd (omega arith)
is_neither (is_at e) q = absurd (omega arith)
is_neither (is_plain p r) q = (p, r)

-- ---- an argument of the forms that are left

module _ (s : List ℕ) (k f j : ℕ) (b a : List ℕ) (at : ℕ) (lf : f < 70) (lj : j < 3) (h : k ≤ length s) where
  abbrev Can : Mark → Bool
  Can m = some? (narrow m (agree f j))

  -- none of them goes on with the mark
  pub not_so : (m : ℕ) → Marked (look (drop k s)) m → m < 3 → 69 < chosen f j m → Argued s k f j b a at (Err k)
  unfolding args_plan class_of
  not_so m w l g = (
    λ n xs. none_walk Can (λ m x. behind (args_plan n) (narrow m (agree f j)) (xs ++ (x ∷ []))) s k (Can plain)
        (misses m w (none_law f j m lf lj l g)) (λ c. nothing m w (none_law f j m lf lj l g) c),
    h,
  )
    where
      misses : (m : ℕ) → Marked (look (drop k s)) m → Can (mark_by m) ≡ false → marks Can (look (drop k s)) ≡ false
      misses m (is_hash e) q = rw (e, q)
      misses m (is_at e) q = rw (e, q)
      misses m (is_plain p r) q = rw (ne_eqb (look (drop k s)) 35 p, ne_eqb (look (drop k s)) 64 r)

      nothing : (m : ℕ) → Marked (look (drop k s)) m → Can (mark_by m) ≡ false → Can plain ≡ true
          → Goes (whole 5) (drop k s) (stuck (drop k s))
      nothing m (is_hash e) q c = no_expression (drop k s) 35 e refl
      nothing m (is_at e) q c = no_expression (drop k s) 64 e refl
      nothing m (is_plain p r) q c = true_false (sym c ∙ q)

  -- an expression behind `#`, and one without a mark
  module _ (g m : ℕ) (e : g ≡ chosen f j m) (lm : m < 3) (lg : g < 70) where
    ways : narrow (mark_by m) (agree f j) ≡ agree g (suc j)
    ways = subst (λ x. narrow (mark_by m) (agree f j) ≡ agree x (suc j)) (sym e) (step_law f j m lf lj lm (omega arith)).0

    pub left_more : j < length (operands_at g)
    left_more = subst (λ x. j < length (operands_at x)) (sym e) (step_law f j m lf lj lm (omega arith)).1

    can : Can (mark_by m) ≡ true
    can = some_law f j m (omega arith)

    abbrev Next : (n : ℕ) (xs : List Operand) → Mark → Operand → Plan
    Next n xs m x = behind (args_plan n) (narrow m (agree f j)) (xs ++ (x ∷ []))

    -- what is read behind an argument of the mark
    next_walk : (n : ℕ) (xs : List Operand) (x : Operand) (t : List ℕ) (o : Read Stmt)
        → Walks (behind (args_plan n) (agree g (suc j)) (xs ++ (x ∷ []))) t o → Walks (Next n xs (mark_by m) x) t o
    next_walk n xs x t o w = subst (λ ws. Walks (behind (args_plan n) ws (xs ++ (x ∷ []))) t o) (sym ways) w

    valued_ends : (k' : ℕ) (x : Expr) (n to : ℕ) → Goes (whole 5) (drop k' s) (got x (drop n s)) → n ≤ length s
        → Added b a at to (bytes_of x) (long x)
        → ((i : ℕ) (xs : List Operand) (o : Read Stmt) → Walks (Next i xs (mark_by m) (value x)) (drop n s) o
        → Walks (args_plan (suc i) (agree f j) xs) (drop k s) o)
        → Argued s k f j b a at (Ok (g, n, to))
    valued_ends k' x n to q l d w =
        record {
          x = value x;
          form = lg;
          more = left_more;
          within = l;
          added = d;
          leads =
              λ i xs o v. w i xs o (next_walk i xs (value x) (drop n s) o v);
        }

  pub hash_argued : (g : ℕ) (r : Result (ℕ × ℕ) ℕ) → g ≡ chosen f j 0 → g < 70 → look (drop k s) ≡ 35 → Termed s (k + 1) b a at r
      → Argued s k f j b a at (Valued g r)
  unfolding args_plan
  hash_argued g (Ok (n, to)) e l c (x, (q, (z, d))) =
      valued_ends g 0 e (omega arith) l (k + 1) x n to q z d
      (λ i xs o v.
      hash_walk Can (Next g 0 e (omega arith) l i xs) s k (Can plain) o c (can g 0 e (omega arith) l) (plans.Walks.tree q v))
  hash_argued g (Err n) e l c (q, z) = (
    λ i xs. hash_walk Can (Next g 0 e (omega arith) l i xs) s k (Can plain) (stuck (drop n s)) c (can g 0 e (omega arith) l)
        (plans.Walks.treeless q),
    z,
  )

  pub plain_argued : (g : ℕ) (r : Result (ℕ × ℕ) ℕ) → g ≡ chosen f j 2 → g < 70 → (look (drop k s) ≡ 35 → ⊥) → (look (drop k s) ≡ 64 → ⊥)
      → Termed s k b a at r → Argued s k f j b a at (Valued g r)
  unfolding args_plan
  plain_argued g (Ok (n, to)) e l p q (x, (y, (z, d))) =
      valued_ends g 2 e (omega arith) l k x n to y z d
      (λ i xs o v. plain_walk Can (Next g 2 e (omega arith) l i xs) s k x (drop n s) o p q (can g 2 e (omega arith) l) y v)
  plain_argued g (Err n) e l p q (y, z) =
      (λ i xs. plain_stuck Can (Next g 2 e (omega arith) l i xs) s k (drop n s) p q (can g 2 e (omega arith) l) y, z)

  pub at_argued : (g : ℕ) (r : Result (ℕ × ℕ × ℕ) ℕ) → g ≡ chosen f j 1 → g < 70 → look (drop k s) ≡ 64 → Registered s (k + 1) g b a at r
      → Argued s k f j b a at r
  unfolding args_plan
  at_argued g (Ok (i, n, to)) e l c (q, (r, (z, (d, w)))) =
      subst (λ y. Argued s k f j b a at (Ok (y, n, to))) (sym q)
      (record {
        x = register r;
        form = l;
        more = left_more g 1 e (omega arith) l;
        within = z;
        added = d;
        leads = λ i xs o v.
            at_walk Can (Next g 1 e (omega arith) l i xs) s k (Can plain) o c (can g 1 e (omega arith) l)
            (w (λ r. Next g 1 e (omega arith) l i xs (mark_by 1) (register r)) o
            (next_walk g 1 e (omega arith) l i xs (register r) (drop n s) o v));
      })
  at_argued g (Err n) e l c (w, z) = (
    λ i xs. at_walk Can (Next g 1 e (omega arith) l i xs) s k (Can plain) (stuck (drop n s)) c (can g 1 e (omega arith) l)
        (w (λ r. Next g 1 e (omega arith) l i xs (mark_by 1) (register r))),
    z,
  )

-- ---- a register

pub low_digit : (c d : ℕ) → d ≡ c → d < 48 → leb 48 c && leb c 51 ≡ false
low_digit c d e h = first_false (leb 48 c) (leb c 51) (lt-leb 48 c (omega arith))

pub high_digit : (c d : ℕ) → d ≡ c → 51 < d → leb 48 c && leb c 51 ≡ false
high_digit c d e h = second_false (leb 48 c) (leb c 51) (lt-leb c 51 (omega arith))

pub byte_past : (s : List ℕ) (k d : ℕ) → d ≡ look (drop k s) → 1 ≤ d → k + 1 ≤ length s
byte_past s k d e h = omega (arith, some (drop k s) (omega arith), length-drop k s)
  where
    some : (t : List ℕ) → 1 ≤ look t → 1 ≤ length t
    some [] l = absurd (omega arith)
    some (c ∷ t) l = omega arith

module _ (s : List ℕ) (k f : ℕ) (b a : List ℕ) (at : ℕ) where
  pub no_letter : k ≤ length s → (look (drop k s) ≡ 82 → ⊥) → Registered s k f b a at (Err k)
  no_letter h n = (
    λ next. fork_wrong (λ c. eqb c 82) (λ c. fork none (λ d. leb 48 d && leb d 51) (λ d. next (d - 48))) (drop k s)
        (ne_eqb (look (drop k s)) 82 n),
    h,
  )

  module _ (e : look (drop k s) ≡ 82) where
    pub no_digit : k + 1 ≤ length s → leb 48 (look (drop (k + 1) s)) && leb (look (drop (k + 1) s)) 51 ≡ false
        → Registered s k f b a at (Err (k + 1))
    no_digit h q = (
      λ next.
          fork_byte none (λ c. eqb c 82) (λ c. fork none (λ d. leb 48 d && leb d 51) (λ d. next (d - 48))) s k 81 (stuck (drop (k + 1) s)) e
          refl
          (fork_wrong (λ d. leb 48 d && leb d 51) (λ d. next (d - 48)) (drop (k + 1) s) q),
      h,
    )

    pub is_register : (d to : ℕ) → d ≡ look (drop (k + 1) s) → 48 ≤ d → d ≤ 51 → k + 1 + 1 ≤ length s → Added b a at to ((d - 48) ∷ []) 0
        → Registered s k f b a at (Ok (f, (k + 1 + 1), to))
    is_register zero to q l u h w = absurd (omega arith)
    is_register (suc d) to q l u h w = (
      refl,
      (
        suc d - 48,
        (
          h,
          (
            w,
            λ next o v.
                fork_byte none (λ c. eqb c 82) (λ c. fork none (λ d. leb 48 d && leb d 51) (λ d. next (d - 48))) s k 81 o e refl
                (fork_byte none (λ d. leb 48 d && leb d 51) (λ d. next (d - 48)) s (k + 1) d o (sym q)
                (and_both (leb 48 (suc d)) (leb (suc d) 51) (le-leb 48 (suc d) l) (le-leb (suc d) 51 u)) v),
          ),
        ),
      ),
    )
