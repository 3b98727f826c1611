-- One argument of an instruction by its mark, and how a mark narrows a family of forms. Assumes nothing.
use mathlib.Core.Path.{◌≡◌, refl, sym, ap, ◌∙◌, subst}
use mathlib.Core.Logic.{◌⊎◌, inl, inr}
use mathlib.Core.List.{List, [], ◌∷◌, ◌++◌}
use mathlib.Core.Option.{none}
use mathlib.Core.Bool.{Bool, true, false, ◌&&◌, ◌||◌, not, cond}
use Prim.Native.Nat.{ℕ, suc, ◌+◌, ◌-◌, ◌≤◌}
use native.Mathlib.Omega.{arith}
use lib.Dec.{eqb, leb}
use borrow.Author.Tests.{eqb-true, leb-true, le-leb}
use Rattle.laws.proofs.Tests.{false_true, both_ways, and_true, and_both, or_true, or_first}
use Rattle.rules.specs.declared.Kind.{Kind}
use Rattle.rules.specs.declared.Kind.TheVariants.{Reg, I8, D9, Bit, Rel8, A12, A16, Rel16}
use Rattle.rules.specs.Programs.{Operand, register, value, Stmt}
use Rattle.grammar.specs.Reading as reading
use Rattle.grammar.specs.Reading.{Argument}
use Rattle.grammar.specs.Going as going
use Rattle.grammar.specs.Going.{class_of}
use Rattle.plans.specs.Plans as plans
use Rattle.plans.specs.Plans.{Plan, fork, expression, either, Reads, Behind, Alive}
use Rattle.plans.specs.Words.{In, here, there, onto, some?}
use Rattle.plans.specs.Families as families
use Rattle.plans.specs.Families.{Mark, hash, at, plain, mark_of, meets, Shape, register_plan, marks, mark_plan, argument, Way, way, narrow, go_on, behind_fit, mark_fit, ways_fit, family}
use Rattle.plans.proofs.Worded.{into, onto_same}
use Rattle.plans.proofs.Parts.{Tree, tree_of, byte_of}

-- ---- one argument

pub record Argued (can : Mark → Bool) (f : Mark → Operand → Plan) (s : Stmt) (t : List ℕ) : Type 0 where
  pub m : Mark
  pub x : Operand
  pub w : List ℕ
  pub v : List ℕ
  pub is : t ≡ w ++ v
  pub shape : Shape m x w
  pub may : can m ≡ true
  pub rest : Reads (f m x) s v

module _ (can : Mark → Bool) (f : Mark → Operand → Plan) where
  plain_said : (s : Stmt) (t : List ℕ) → can plain ≡ true → Tree (λ e. f plain (value e)) s t → Argued can f s t
  plain_said s t p m =
      record { m = plain; x = value m.e; w = m.w; v = m.v; is = m.is; shape = families.bare m.good; may = p; rest = m.rest }

  hash_said : (s : Stmt) (t : List ℕ) → can hash ≡ true → Reads (expression (λ e. f hash (value e))) s t → Argued can f s (35 ∷ t)
  hash_said s t p g =
      let m = tree_of g in
      record {
        m = hash;
        x = value m.e;
        w = 35 ∷ m.w;
        v = m.v;
        is = ap (λ y. 35 ∷ y) m.is;
        shape = families.hashed m.good;
        may = p;
        rest =
            m.rest;
      }

  at_said : (s : Stmt) (t : List ℕ) → can at ≡ true → Reads (register_plan (λ r. f at (register r))) s t → Argued can f s (64 ∷ t)
  at_said s t p g =
      let a = byte_of (λ c. eqb c 82) (λ c. fork none (λ d. leb 48 d && leb d 51) (λ d. f at (register (d - 48)))) s t g in
      let b = byte_of (λ d. leb 48 d && leb d 51) (λ d. f at (register (d - 48))) s a.v a.rest in
      let q = and_true (leb 48 b.c) (leb b.c 51) b.passes in
      let low : 48 ≤ b.c = leb-true 48 b.c q.0 in
      let high : b.c ≤ 51 = leb-true b.c 51 q.1 in
      let d : b.c ≡ 48 + (b.c - 48) = omega arith in
      record {
        m = at;
        x = register (b.c - 48);
        w = 64 ∷ 82 ∷ (48 + (b.c - 48)) ∷ [];
        v = b.v;
        is =
            ap (λ y. 64 ∷ y) (a.is ∙ ap (λ y. y ∷ a.v) (eqb-true a.c 82 a.passes) ∙ ap (λ y. 82 ∷ y) (b.is ∙ ap (λ y. y ∷ b.v) d));
        shape = families.indirect {r = b.c - 48} (omega arith);
        may = p;
        rest = b.rest;
      }

  mark_said : (s : Stmt) (c : ℕ) (v : List ℕ) → marks can c ≡ true → Reads (mark_plan f c) s v → Argued can f s (c ∷ v)
  mark_said s c v p g = on (eqb c 35) refl g
    where
      is_at_lem : eqb c 35 ≡ false → (eqb c 64 ≡ true) × (can at ≡ true)
      is_at_lem q = and_true (eqb c 64) (can at) (ap (λ b. (b && can hash) || (eqb c 64 && can at)) (sym q) ∙ p)

      is_hash_lem : eqb c 35 ≡ true → (marks can c ≡ true) → can hash ≡ true
      is_hash_lem q p = at_hash (or_true (eqb c 35 && can hash) (eqb c 64 && can at) p)
        where
          at_hash : (eqb c 35 && can hash ≡ true) ⊎ (eqb c 64 && can at ≡ true) → can hash ≡ true
          at_hash (inl h) = (and_true (eqb c 35) (can hash) h).1
          at_hash (inr h) = absurd (omega (arith, eqb-true c 35 q, eqb-true c 64 (and_true (eqb c 64) (can at) h).0))

      on : (b : Bool) → eqb c 35 ≡ b → Reads (cond b (expression (λ e. f hash (value e))) (register_plan (λ r. f at (register r)))) s v
          → Argued can f s (c ∷ v)
      on true q g = subst (λ y. Argued can f s (y ∷ v)) (sym (eqb-true c 35 q)) (hash_said s v (is_hash_lem q p) g)
      on false q g = let h = is_at_lem q in subst (λ y. Argued can f s (y ∷ v)) (sym (eqb-true c 64 h.0)) (at_said s v h.1 g)

  pub said : (s : Stmt) (t : List ℕ) → (b : Bool) → can plain ≡ b → Reads (argument b can f) s t → Argued can f s t
  said s t true p g = either_said g
    where
      either_said : {t : List ℕ} → Reads (either (marks can) (mark_plan f) (λ e. f plain (value e))) s t → Argued can f s t
      either_said (plans.marked {c = c} {t = v} q h) = mark_said s c v q h
      either_said (plans.bare {e = e} {w = w} {v = v} x h) = plain_said s (w ++ v) p
          (record { e = e; w = w; v = v; is = refl; good = x; rest = h })
  said s t false p g =
      let b = byte_of (marks can) (mark_plan f) s t g in
      subst (λ y. Argued can f s y) (sym b.is) (mark_said s b.c b.v b.passes b.rest)

  -- the other way
  to_hash : can hash ≡ true → marks can 35 ≡ true
  to_hash p = or_first (eqb 35 35 && can hash) (eqb 35 64 && can at) p

  to_at : can at ≡ true → marks can 64 ≡ true
  to_at p = p

  register_read : (s : Stmt) (r : ℕ) (v : List ℕ) → r ≤ 3 → Reads (f at (register r)) s v
      → Reads (register_plan (λ r. f at (register r))) s (82 ∷ (48 + r) ∷ v)
  register_read s r v h g =
      plans.byte refl
      (plans.byte (and_both (leb 48 (48 + r)) (leb (48 + r) 51) (le-leb 48 (48 + r) (omega arith)) (le-leb (48 + r) 51 (omega arith)))
      (subst (λ n. Reads (f at (register n)) s v) (less r) g))
    where
      less : (r : ℕ) → r ≡ 48 + r - 48
      less r = omega arith

  marked_read : (s : Stmt) (c : ℕ) (t : List ℕ) → marks can c ≡ true → Reads (mark_plan f c) s t → (b : Bool)
      → Reads (argument b can f) s (c ∷ t)
  marked_read s c t p g true = plans.marked p g
  marked_read s c t p g false = plans.byte p g

  pub says : {m : Mark} {x : Operand} {w : List ℕ} → Shape m x w → (s : Stmt) (v : List ℕ) → (b : Bool) → can plain ≡ b → can m ≡ true
      → Reads (f m x) s v
      → Reads (argument b can f) s (w ++ v)
  says (families.hashed {t = t} x) s v b p q g = marked_read s 35 (t ++ v) (to_hash q) (plans.tree x g) b
  says (families.indirect {r = r} h) s v b p q g = marked_read s 64 (82 ∷ (48 + r) ∷ v) (to_at q) (register_read s r v h g) b
  says (families.bare x) s v true p q g = plans.bare x g
  says (families.bare x) s v false p q g = both_ways (can plain) q p

  -- alive
  mark_alive : (c : ℕ) → marks can c ≡ true → ((m : Mark) (x : Operand) → can m ≡ true → Behind (f m x) × Alive (f m x))
      → Alive (mark_plan f c)
  unfolding Alive
  mark_alive c p a = on (eqb c 35) refl
    where
      hash_may : eqb c 35 ≡ true → (eqb c 35 && can hash ≡ true) ⊎ (eqb c 64 && can at ≡ true) → can hash ≡ true
      hash_may q (inl h) = (and_true (eqb c 35) (can hash) h).1
      hash_may q (inr h) = absurd (omega (arith, eqb-true c 35 q, eqb-true c 64 (and_true (eqb c 64) (can at) h).0))

      at_may : eqb c 35 ≡ false → can at ≡ true
      at_may q = (and_true (eqb c 64) (can at) (ap (λ b. (b && can hash) || (eqb c 64 && can at)) (sym q) ∙ p)).1

      on : (b : Bool) → eqb c 35 ≡ b → Alive (cond b (expression (λ e. f hash (value e))) (register_plan (λ r. f at (register r))))
      on true q = λ e. a hash (value e) (hash_may q (or_true (eqb c 35 && can hash) (eqb c 64 && can at) p))
      on false q = ((82, refl), λ c z. ((48, refl), λ d y. (a at (register (d - 48)) (at_may q)).1))

  mark_class : (c : ℕ) → marks can c ≡ true → class_of c ≡ going.other
  unfolding class_of
  mark_class c p = on (or_true (eqb c 35 && can hash) (eqb c 64 && can at) p)
    where
      on : (eqb c 35 && can hash ≡ true) ⊎ (eqb c 64 && can at ≡ true) → class_of c ≡ going.other
      on (inl h) = subst (λ y. class_of y ≡ going.other) (sym (eqb-true c 35 (and_true (eqb c 35) (can hash) h).0)) refl
      on (inr h) = subst (λ y. class_of y ≡ going.other) (sym (eqb-true c 64 (and_true (eqb c 64) (can at) h).0)) refl

  pub argument_alive : (b : Bool) → can plain ≡ b → (m : Mark) → can m ≡ true
      → ((m : Mark) (x : Operand) → can m ≡ true → Behind (f m x) × Alive (f m x)) → Alive (argument b can f)
  unfolding Alive
  argument_alive true p m q a = (((λ c z. mark_class c z), refl), ((λ c z. mark_alive c z a), λ e. a plain (value e) p))
  argument_alive false p hash q a = ((35, to_hash q), λ c z. mark_alive c z a)
  argument_alive false p at q a = ((64, to_at q), λ c z. mark_alive c z a)
  argument_alive false p plain q a = both_ways (can plain) q p

-- an argument of a kind is one of the kind's mark
pub argument_shape : {k : Kind} {x : Operand} {t : List ℕ} → Argument k x t → Shape (mark_of k) x t
argument_shape (reading.indirect h) = families.indirect h
argument_shape (reading.immediate x) = families.hashed x
argument_shape (reading.bare {k = Reg} p x) = false_true p
argument_shape (reading.bare {k = I8} p x) = false_true p
argument_shape (reading.bare {k = D9} p x) = families.bare x
argument_shape (reading.bare {k = Bit} p x) = families.bare x
argument_shape (reading.bare {k = Rel8} p x) = families.bare x
argument_shape (reading.bare {k = A12} p x) = families.bare x
argument_shape (reading.bare {k = A16} p x) = families.bare x
argument_shape (reading.bare {k = Rel16} p x) = families.bare x

at_argument : {x : Operand} {t : List ℕ} → Shape at x t → Argument Reg x t
at_argument (families.indirect h) = reading.indirect h

hash_argument : {x : Operand} {t : List ℕ} → Shape hash x t → Argument I8 x t
hash_argument (families.hashed x) = reading.immediate x

plain_argument : {x : Operand} {t : List ℕ} (k : Kind) → reading.is_bare k ≡ true → Shape plain x t → Argument k x t
plain_argument k p (families.bare x) = reading.bare p x

pub shape_argument : (k : Kind) {x : Operand} {t : List ℕ} → Shape (mark_of k) x t → Argument k x t
shape_argument Reg s = at_argument s
shape_argument I8 s = hash_argument s
shape_argument D9 s = plain_argument D9 refl s
shape_argument Bit s = plain_argument Bit refl s
shape_argument Rel8 s = plain_argument Rel8 refl s
shape_argument A12 s = plain_argument A12 refl s
shape_argument A16 s = plain_argument A16 refl s
shape_argument Rel16 s = plain_argument Rel16 refl s

-- ---- narrowing

meets_is : (a b : Mark) → meets a b ≡ true → a ≡ b
meets_is hash hash e = refl
meets_is hash at e = false_true e
meets_is hash plain e = false_true e
meets_is at hash e = false_true e
meets_is at at e = refl
meets_is at plain e = false_true e
meets_is plain hash e = false_true e
meets_is plain at e = false_true e
meets_is plain plain e = refl

meets_same : (a : Mark) → meets a a ≡ true
meets_same hash = refl
meets_same at = refl
meets_same plain = refl

pub record Wider (m : Mark) (f : ℕ) (ks : List Kind) (ws : List Way) : Type 0 where
  pub k : Kind
  pub is : mark_of k ≡ m
  pub among : In (way f (k ∷ ks)) ws

wider : {m : Mark} {f : ℕ} {ks : List Kind} {w : Way} {ws : List Way} → Wider m f ks ws → Wider m f ks (w ∷ ws)
wider r = record { k = r.k; is = r.is; among = there r.among }

pub narrow_in : (m : Mark) (f : ℕ) (ks : List Kind) (ws : List Way) → In (way f ks) (narrow m ws) → Wider m f ks ws
unfolding narrow
narrow_in m f ks [] i = elim i [ ]
narrow_in m f ks (way g [] ∷ ws) i = wider (narrow_in m f ks ws i)
narrow_in m f ks (way g (k ∷ ls) ∷ ws) i = on (into (meets (mark_of k) m) (way f ks) (way g ls) (narrow m ws) i)
    (λ j. wider (narrow_in m f ks ws j))
  where
    on : ((way f ks ≡ way g ls) × (meets (mark_of k) m ≡ true)) ⊎ In (way f ks) (narrow m ws)
        → (In (way f ks) (narrow m ws) → Wider m f ks (way g (k ∷ ls) ∷ ws))
        → Wider m f ks (way g (k ∷ ls) ∷ ws)
    on (inl (e, q)) h =
        let a : g ≡ f = cc in
        let b : ls ≡ ks = cc in
        record {
          k = k;
          is = meets_is (mark_of k) m q;
          among = subst (λ y. In (way f (k ∷ ks)) (way y (k ∷ ls) ∷ ws)) (sym a)
              (subst (λ y. In (way f (k ∷ ks)) (way f (k ∷ y) ∷ ws)) (sym b) here);
        }
    on (inr j) h = h j

pub in_narrow : (f : ℕ) (k : Kind) (ks : List Kind) (ws : List Way) → In (way f (k ∷ ks)) ws → In (way f ks) (narrow (mark_of k) ws)
unfolding narrow
in_narrow f k ks [] j = elim j [ ]
in_narrow f k ks (way g (l ∷ ls) ∷ ws) here = subst (λ b. In (way f ks) (onto b (way f ks) (narrow (mark_of k) ws)))
    (sym (meets_same (mark_of k))) here
in_narrow f k ks (way g [] ∷ ws) (there i) = in_narrow f k ks ws i
in_narrow f k ks (way g (l ∷ ls) ∷ ws) (there i) = onto_same (way f ks) (meets (mark_of l) (mark_of k)) (way g ls) (narrow (mark_of k) ws)
    (in_narrow f k ks ws i)

-- where all go on, none ends
pub on_in : (f : ℕ) (ws : List Way) → go_on ws ≡ true → In (way f []) ws → ⊥
on_in f [] e i = elim i [ ]
on_in f (way g [] ∷ ws) e i = false_true e
on_in f (way g (k ∷ ks) ∷ ws) e (there i) = on_in f ws e i

-- each narrowing is told apart
pub record Fit (n : ℕ) (ws : List Way) : Type 0 where
  pub on : go_on ws ≡ true
  pub has : some? ws ≡ true
  pub each : (m : Mark) → some? (narrow m ws) ≡ true → behind_fit (ways_fit n) (narrow m ws) ≡ true

pub fit_of : (n : ℕ) (ws : List Way) → ways_fit (suc n) ws ≡ true → Fit n ws
unfolding ways_fit
fit_of n ws e =
    let a = and_true (go_on ws && some? ws) (mark_fit (ways_fit n) (narrow hash ws) &&
    (mark_fit (ways_fit n) (narrow at ws) && mark_fit (ways_fit n) (narrow plain ws))) e in
    let b = and_true (go_on ws) (some? ws) a.0 in
    let c = and_true (mark_fit (ways_fit n) (narrow hash ws)) (mark_fit (ways_fit n) (narrow at ws) && mark_fit (ways_fit n)
    (narrow plain ws)) a.1 in
    let d = and_true (mark_fit (ways_fit n) (narrow at ws)) (mark_fit (ways_fit n) (narrow plain ws)) c.1 in
    record { on = b.0; has = b.1; each = pick c.0 d.0 d.1 }
  where
    one : (vs : List Way) → mark_fit (ways_fit n) vs ≡ true → some? vs ≡ true → behind_fit (ways_fit n) vs ≡ true
    one vs p q = ap (λ b. not b || behind_fit (ways_fit n) vs) (sym q) ∙ p

    pick : mark_fit (ways_fit n) (narrow hash ws) ≡ true → mark_fit (ways_fit n) (narrow at ws) ≡ true
        → mark_fit (ways_fit n) (narrow plain ws) ≡ true → (m : Mark)
        → some? (narrow m ws) ≡ true → behind_fit (ways_fit n) (narrow m ws) ≡ true
    pick p q r hash = one (narrow hash ws) p
    pick p q r at = one (narrow at ws) q
    pick p q r plain = one (narrow plain ws) r
