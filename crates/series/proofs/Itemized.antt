-- Items of data, one by one. Assumes nothing.
use mathlib.Core.Path.{◌≡◌, refl, sym, ap, ◌∙◌, subst}
use mathlib.Core.List.{List, [], ◌∷◌, ◌++◌, append-nil}
use mathlib.Core.Option.{some}
use Prim.Native.Nat.{ℕ, zero, suc, ◌+◌, ◌-◌, ◌≤◌, ◌<◌}
use native.Mathlib.Omega.{arith}
use lib.Dec.{eqb}
use lib.ListN.{length, drop, set, length-append, length-set, length-drop, drop_of_length-le}
use lib.Seq.{take-set-lt}
use borrow.Author.Tests.{ne_eqb}
use Rattle.std.specs.Prelude.{Result, Err, Ok}
use Rattle.laws.specs.Lists.{each, total}
use Rattle.laws.proofs.Lists.{each_append, total_append}
use Rattle.rules.specs.Expressions.{Expr, bytes_of}
use Rattle.rules.specs.Programs.{Stmt, bytes, words}
use Rattle.rules.specs.Output.{frame_of}
use Rattle.grammar.specs.Reading.{look}
use Rattle.grammar.specs.Going.{Read, got, stuck, whole, Goes}
use Rattle.plans.specs.Plans as plans
use Rattle.plans.specs.Plans.{Plan, done, fork, expression, Walks}
use Rattle.plans.specs.Lines.{items_plan}
use Rattle.laying.specs.Laying.{long, Stands, Added, Termed}
use Rattle.laying.proofs.Laying.{nothing_stands}
use Rattle.laying.specs.Speaking.{Spoken, item_bytes, ItemsEnd, Listed}
use Rattle.laying.proofs.Speaking.{fork_byte}

-- ---- the count

pub count_so : (b : List ℕ) (n to : ℕ) → length b ≡ 120 → ItemsEnd b (set b 1 n) n to (Ok to)
count_so b n to e = (refl, stands)
  where
    stands : (kind : ℕ) (es : List Expr) (l : ℕ) → Stands b to (item_bytes kind 0 es) l → Stands (set b 1 n) to (item_bytes kind n es) l
    stands kind es l w =
        record {
          size = length-set b 1 n ∙ e;
          within = w.within;
          front = λ h.
              let k : 1 < to = omega (arith, w.ends h) in take-set-lt to b 1 n k ∙ ap (λ x. set x 1 n) (w.front h);
          ends = w.ends;
          short = w.short;
          over = w.over;
        }

pub term_room : (s : List ℕ) (k : ℕ) (b a : List ℕ) (at : ℕ) (r : Result (ℕ × ℕ) ℕ) (n to : ℕ) → r ≡ Ok (n, to) → Termed s k b a at r
    → (length a ≡ 120) × (to ≤ 121)
term_room s k b a at r n to q t = let y = subst (λ x. Termed s k b a at x) q t in (y.1.1.1.size, y.1.1.1.within)

-- ---- so far: n - 1 items are read, and stand

pub record SoFar (make : List Expr → Stmt) (kind : ℕ) (s : List ℕ) (k : ℕ) (b : List ℕ) (at i n : ℕ) : Type 0 where
  pub es : List Expr
  pub count : length es + 1 ≡ n
  pub stands : Stands b at (item_bytes kind 0 es) (total long es)
  pub leads : (o : Read Stmt) → Walks (items_plan make (16 - n) es) (drop i s) o → Walks (items_plan make 15 []) (drop k s) o

pub none_yet : (make : List Expr → Stmt) (kind : ℕ) (s : List ℕ) (k : ℕ) (b₀ b₁ b₂ : List ℕ) (p q : ℕ) → length b₀ ≡ 120
    → Added b₀ b₁ 0 p (kind ∷ []) 0
    → Added b₁ b₂ p q (0 ∷ []) 0 → SoFar make kind s k b₂ q k 1
unfolding each total
none_yet make kind s k b₀ b₁ b₂ p q e x y =
    record { es = []; count = refl; stands = y.adds (kind ∷ []) 0 (x.adds [] 0 (nothing_stands b₀ e)); leads = λ o w. w }

module _ (make : List Expr → Stmt) (kind : ℕ) (s : List ℕ) (k : ℕ) (b a : List ℕ) (at i n : ℕ) (f : SoFar make kind s k b at i n)
    (r : Result (ℕ × ℕ) ℕ) (t : Termed s i b a at r) where
  pub item_stuck : (e : ℕ) → n < 17 → 1 ≤ n → r ≡ Err e → Listed make kind s k a (Err e)
  unfolding items_plan
  item_stuck e h l q =
      let y = subst (λ x. Termed s i b a at x) q t in
      (f.leads (stuck (drop e s)) (on (16 - n) y.0), y.1)
    where
      on : (m : ℕ) → Goes (whole 5) (drop i s) (stuck (drop e s)) → Walks (items_plan make m f.es) (drop i s) (stuck (drop e s))
      on zero w = plans.Walks.treeless w
      on (suc m) w = plans.Walks.treeless w

  module _ (e to : ℕ) (q : r ≡ Ok (e, to)) where
    pub item_most : e ≤ length s
    item_most = let y = subst (λ x. Termed s i b a at x) q t in y.1.1.0

    -- one item more
    more : List Expr
    more = let y = subst (λ x. Termed s i b a at x) q t in f.es ++ (y.0 ∷ [])

    more_count : length more ≡ n
    unfolding more
    more_count = omega (arith, f.count, length-append f.es ((subst (λ x. Termed s i b a at x) q t).0 ∷ []))

    more_stands : Stands a to (item_bytes kind 0 more) (total long more)
    unfolding more each total
    more_stands =
        let y = subst (λ x. Termed s i b a at x) q t in
        let w : Stands a to (item_bytes kind 0 f.es ++ bytes_of y.0) (total long f.es + long y.0) =
        y.1.1.1.adds (item_bytes kind 0 f.es) (total long f.es) f.stands in
        let u : long y.0 ≡ long y.0 + 0 = omega arith in
        subst (λ x. Stands a to (kind ∷ 0 ∷ x) (total long (f.es ++ (y.0 ∷ []))))
        (ap (λ z. each (λ e. bytes_of e) f.es ++ z) (sym (append-nil (bytes_of y.0))) ∙ sym (each_append (λ e. bytes_of e) f.es (y.0 ∷ [])))
        (subst (λ l. Stands a to (kind ∷ 0 ∷ (each (λ e. bytes_of e) f.es ++ bytes_of y.0)) l) (ap (λ z. total long f.es + z) u
        ∙ sym (total_append long f.es (y.0 ∷ []))) w)

    -- the plan behind it
    last_walk : (o : Read Stmt) → n ≡ 16 → Walks (done (make more)) (drop e s) o → Walks (items_plan make 15 []) (drop k s) o
    unfolding items_plan more
    last_walk o z w =
        let y = subst (λ x. Termed s i b a at x) q t in
        f.leads o (subst (λ m. Walks (items_plan make (16 - m) f.es) (drop i s) o) (sym z) (plans.Walks.tree y.1.0 w))

    fork_walk : (m : ℕ) (o : Read Stmt) → 16 - n ≡ suc m
        → Walks (fork (some (make more)) (λ c. eqb c 44) (λ c. items_plan make m more)) (drop e s) o
        → Walks (items_plan make 15 []) (drop k s) o
    unfolding items_plan more
    fork_walk m o z w =
        let y = subst (λ x. Termed s i b a at x) q t in
        f.leads o (subst (λ m. Walks (items_plan make m f.es) (drop i s) o) (sym z) (plans.Walks.tree y.1.0 w))

    -- where the line ends
    pub item_last : (c : List ℕ) (x : Result ℕ ℕ) → 1 ≤ n → n < 17 → length s ≤ e → ItemsEnd a c n to x → Listed make kind s k c x
    item_last c x l h g w =
        subst (λ z. Listed make kind s k c z) (sym w.0) (
          more,
          (
            on (16 - n) refl,
            subst (λ m. Stands c to (item_bytes kind m more) (total long more)) (sym more_count)
                (w.1 kind more (total long more) more_stands),
          ),
        )
      where
        empty : drop e s ≡ []
        empty = drop_of_length-le s g

        on : (m : ℕ) → 16 - n ≡ m → Walks (items_plan make 15 []) (drop k s) (got (make more) [])
        on zero z = last_walk (got (make more) []) (omega arith) (subst (λ t. Walks (done (make more)) t (got (make more) [])) (sym empty)
            plans.Walks.last)
        on (suc m) z =
            fork_walk m (got (make more) []) z
            (subst (λ t. Walks (fork (some (make more)) (λ c. eqb c 44) (λ c. items_plan make m more)) t (got (make more) [])) (sym empty)
            plans.Walks.ended)

    -- where something else than a comma follows
    pub item_other : 1 ≤ n → n < 17 → e < length s → (look (drop e s) ≡ 44 → ⊥) → Listed make kind s k a (Err e)
    item_other l h g d = (on (16 - n) refl, item_most)
      where
        over : (x : Stmt) (t : List ℕ) → 1 ≤ length t → Walks (done x) t (stuck t)
        over x [] h = absurd (omega arith)
        over x (c ∷ t) h = plans.Walks.over

        wrong : (x : Stmt) (f : ℕ → Plan) (t : List ℕ) → 1 ≤ length t → (look t ≡ 44 → ⊥)
            → Walks (fork (some x) (λ c. eqb c 44) f) t (stuck t)
        wrong x f [] h d = absurd (omega arith)
        wrong x f (c ∷ t) h d = plans.Walks.wrong (ne_eqb c 44 d)

        on : (m : ℕ) → 16 - n ≡ m → Walks (items_plan make 15 []) (drop k s) (stuck (drop e s))
        on zero z = last_walk (stuck (drop e s)) (omega arith) (over (make more) (drop e s) (omega (arith, length-drop e s)))
        on (suc m) z = fork_walk m (stuck (drop e s)) z (wrong (make more) (λ c. items_plan make m more) (drop e s)
            (omega (arith, length-drop e s)) d)

    -- a seventeenth item
    pub item_full : n ≡ 16 → e < length s → Listed make kind s k a (Err e)
    item_full z g = (last_walk (stuck (drop e s)) z (over (make more) (drop e s) (omega (arith, length-drop e s))), item_most)
      where
        over : (x : Stmt) (t : List ℕ) → 1 ≤ length t → Walks (done x) t (stuck t)
        over x [] h = absurd (omega arith)
        over x (c ∷ t) h = plans.Walks.over

    -- a comma, and the next
    pub item_next : 1 ≤ n → n < 16 → look (drop e s) ≡ 44 → SoFar make kind s k a to (e + 1) (n + 1)
    item_next l h d =
        let m : 16 - n ≡ suc (16 - (n + 1)) = omega arith in
        record {
          es = more;
          count = omega (arith, more_count);
          stands = more_stands;
          leads = λ o w. fork_walk (16 - (n + 1)) o m (fork_byte (some (make more)) (λ c. eqb c 44)
              (λ c. items_plan make (16 - (n + 1)) more) s e 43 o d refl w);
        }

-- ---- bytes and words

pub bytes_spoken : (s : List ℕ) (k : ℕ) (a : List ℕ) (r : Result ℕ ℕ) → Listed bytes 6 s k a r → Spoken (items_plan bytes 15 []) s k a r
unfolding frame_of
bytes_spoken s k a (Ok to) (es, (w, h)) = (bytes es, (w, h))
bytes_spoken s k a (Err c) w = w

pub words_spoken : (s : List ℕ) (k : ℕ) (a : List ℕ) (r : Result ℕ ℕ) → Listed words 7 s k a r → Spoken (items_plan words 15 []) s k a r
unfolding frame_of
words_spoken s k a (Ok to) (es, (w, h)) = (words es, (w, h))
words_spoken s k a (Err c) w = w
