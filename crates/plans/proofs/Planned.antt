-- Reading by a plan: what is read is a text of the plan's grammar; where the reader gets stuck some line begins with what it took, and
-- none with one byte more. Assumes nothing.
use mathlib.Core.Path.{◌≡◌, refl, sym, ap, ◌∙◌, subst}
use mathlib.Core.Logic.{◌⊎◌, inl, inr}
use mathlib.Core.List.{List, [], ◌∷◌, ◌++◌, append_assoc, append-nil}
use mathlib.Core.Option.{Option, none, some}
use mathlib.Core.Bool.{Bool, true, false}
use Prim.Native.Nat.{ℕ, ◌+◌, ◌-◌, ◌*◌, ◌≤◌}
use native.Mathlib.Omega.{arith}
use lib.Dec.{eqb, leb, lit≤}
use lib.IntN.{pos}
use lib.ListN.{replicate}
use borrow.Author.Tests.{leb-true, le-leb}
use Rattle.laws.specs.Lists.{every}
use Rattle.laws.proofs.Tests.{clash, and_true}
use Rattle.rules.specs.Expressions.{Expr, num}
use Rattle.rules.specs.Programs.{Stmt}
use Rattle.grammar.specs.Reading.{is_decimal, worth, look, spaces, Decimal, Exp}
use Rattle.grammar.specs.Going as going
use Rattle.grammar.specs.Going.{Read, got, stuck, infix_of, is_some, whole, Goes}
use Rattle.plans.specs.Plans as plans
use Rattle.plans.specs.Plans.{Plan, done, fork, expression, decimal, five, either, finish, Alike, both, same, Finishes, Reads, Walks, Behind, Alive}
use Rattle.grammar.proofs.Takes.{Took, front}
use Rattle.grammar.proofs.Digits.{more_digits, digits_step, FineDigits, fine_digits, FineFixed, fine_fixed, zeros_digits, zeros_worth}
use Rattle.grammar.proofs.Goings.{HasOp, Trails, Ahead, can_5, trails_ahead, nought, lift5, fine}
use Rattle.grammar.proofs.Complete.{Stop}

pub alike_look : {r u : List ℕ} → Alike r u → look r ≡ look u
alike_look both = refl
alike_look same = refl

-- some text of the plan begins with w
pub record Begun (P : Plan) (w : List ℕ) : Type 0 where
  pub more : List ℕ
  pub line : Stmt
  pub good : Reads P line (w ++ more)

pub record Lost (P : Plan) (t r : List ℕ) : Type 0 where
  pub w : List ℕ
  pub split : t ≡ w ++ r
  pub begun : Begun P w
  pub alike : (u : List ℕ) → Alike r u → Walks P (w ++ u) (stuck u)

abbrev pub FineWalk : Plan → List ℕ → Read Stmt → Type 0
FineWalk P t (got s r) = Reads P s t × (r ≡ [])
FineWalk P t (stuck r) = Lost P t r

-- ---- a plan that is alive has a text

zero_number : (most : ℕ) → Decimal most 0 (48 ∷ [])
unfolding every worth
zero_number most = record { some = lit≤ tt; digits = refl; is = refl; within = omega arith }

zero_name : Decimal 32767 0 (replicate 5 48)
zero_name = record { some = lit≤ tt; digits = zeros_digits 5; is = zeros_worth 5 0; within = lit≤ tt }

pub begin : (P : Plan) → Alive P → Begun P []
unfolding Alive
begin (done s) a = record { more = []; line = s; good = plans.last }
begin (fork (some s) ok f) a = record { more = []; line = s; good = plans.ends }
begin (fork none ok f) a =
    let c = a.0.0 in
    let b = begin (f c) (a.1 c a.0.1) in
    record { more = c ∷ b.more; line = b.line; good = plans.byte a.0.1 b.good }
begin (expression f) a =
    let e = num (pos 0) in
    let b = begin (f e) (a e).1 in
    record { more = (48 ∷ []) ++ b.more; line = b.line; good = plans.tree (lift5 nought) b.good }
begin (decimal most f) a =
    let b = begin (f 0) (a.1 0).1 in
    record { more = (48 ∷ []) ++ b.more; line = b.line; good = plans.value (zero_number most) b.good }
begin (five f) a =
    let b = begin (f 0) (a 0) in
    record { more = replicate 5 48 ++ b.more; line = b.line; good = plans.digits refl zero_name b.good }
begin (either ok next f) a =
    let e = num (pos 0) in
    let b = begin (f e) (a.1.1 e).1 in
    record { more = (48 ∷ []) ++ b.more; line = b.line; good = plans.bare (lift5 nought) b.good }
begin (finish read) a = record { more = a.0.0; line = a.0.1.0; good = plans.finished a.0.1.1 }

-- ---- what stands behind an expression or a number

pub done_ends : {r s : Stmt} {t : List ℕ} → Reads (done r) s t → t ≡ []
done_ends plans.last = refl

-- the first byte of a text of such a plan is no digit, no space and no operator
behind_first : (P : Plan) → Behind P → (s : Stmt) (c : ℕ) (t : List ℕ) → Reads P s (c ∷ t)
    → (is_decimal c ≡ false) × ((eqb c 32 ≡ false) × (infix_of c ≡ none))
behind_first (done r) b s c t g = let e = done_ends g in clash (cc)
behind_first (fork end ok f) b s c t (plans.byte p g) = b c p
behind_first (expression f) b s c t g = absurd b
behind_first (decimal most f) b s c t g = absurd b
behind_first (five f) b s c t g = absurd b
behind_first (either ok next f) b s c t g = absurd b
behind_first (finish read) b s c t g = absurd b

pub behind_stop : (P : Plan) → Behind P → (s : Stmt) (v : List ℕ) → Reads P s v → Stop v
unfolding infix_of
behind_stop P b s [] g = record { digit = refl; space = refl; operator = refl }
behind_stop P b s (c ∷ v) g = let h = behind_first P b s c v g in record { digit = h.0; space = h.1.0; operator = h.1.1 }

-- ---- what a part took, and the rest

module _ (P Q : Plan) (t r : List ℕ) where
  -- the part took w, and its grammar goes on with any text of Q
  part_lost : (w : List ℕ) → t ≡ w ++ r → ((u : List ℕ) → look r ≡ look u → (o : Read Stmt) → Walks Q u o → Walks P (w ++ u) o)
      → (q : List ℕ) → Lost Q r q → ((v : List ℕ) → r ≡ v ++ q → Begun Q v → Begun P (w ++ v)) → Lost P t q
  part_lost w s g q l f =
      record {
        w = w ++ l.w;
        split = s ∙ ap (λ x. w ++ x) l.split ∙ sym (append_assoc w l.w q);
        begun = f l.w l.split l.begun;
        alike =
            λ u k.
            subst (λ x. Walks P x (stuck u)) (sym (append_assoc w l.w u))
            (g (l.w ++ u) (ap look l.split ∙ front l.w q u (alike_look k)) (stuck u) (l.alike u k));
      }

-- ---- expressions

no_op : (r : List ℕ) (c : ℕ) (v : List ℕ) → r ≡ c ∷ v → infix_of c ≡ none → HasOp r → ◌≡◌ {A = ℕ} 0 1
no_op r c v e n h = let z : false ≡ true = ap is_some (sym n) ∙ subst (λ x. is_some (infix_of (look x)) ≡ true) e h in cc

tree_begun : (P : Plan) (f : Expr → Plan) → ((s : Stmt) (e : Expr) (w v : List ℕ) → Exp 5 e w → Reads (f e) s v → Reads P s (w ++ v))
    → ((e : Expr) → Behind (f e) × Alive (f e)) → (e : Expr) (r w v q : List ℕ) → Trails 5 e r w → r ≡ v ++ q → Begun (f e) v
    → Begun P (w ++ v)
tree_begun P f join a e r w [] q m s b =
    let c = can_5 w (trails_ahead 5 e r w m) in
    let d = begin (f c.tree) (a c.tree).1 in
    record {
      more = c.more ++ d.more;
      line = d.line;
      good =
          subst (λ x. Reads P d.line x)
          (append_assoc w c.more d.more ∙ ap (λ x. x ++ (c.more ++ d.more)) (sym (append-nil w)))
          (join d.line c.tree (w ++ c.more) d.more c.good d.good);
    }
tree_begun P f join a e r w (x ∷ v) q m s b = on m.follows
  where
    on : (m.n ≡ 0) ⊎ HasOp r → Begun P (w ++ (x ∷ v))
    on (inl h) =
        let y : w ≡ m.text = m.is ∙ ap (λ k. m.text ++ spaces k) h ∙ append-nil m.text in
        record {
          more = b.more;
          line = b.line;
          good =
              subst (λ z. Reads P b.line z) (sym (append_assoc w (x ∷ v) b.more))
              (join b.line e w (x ∷ (v ++ b.more)) (subst (λ z. Exp 5 e z) (sym y) m.good) b.good);
        }
    on (inr h) = clash (no_op r x (v ++ q) s (behind_first (f e) (a e).0 b.line x (v ++ b.more) b.good).1.1 h)

tree_got : (P : Plan) (f : Expr → Plan) → ((s : Stmt) (e : Expr) (w v : List ℕ) → Exp 5 e w → Reads (f e) s v → Reads P s (w ++ v))
    → ((e : Expr) → Behind (f e) × Alive (f e)) → (e : Expr) (t r : List ℕ)
    → Took t r (λ w. Trails 5 e r w) (λ x u. Goes (whole 5) x (got e u))
    → (s : Stmt) → Reads (f e) s r → Reads P s t
unfolding infix_of
tree_got P f join a e t r m s g = subst (λ x. Reads P s x) (sym m.split) (join s e m.w r (on k.follows) g)
  where
    k : Trails 5 e r m.w
    k = m.means

    none_op : (r : List ℕ) → Reads (f e) s r → HasOp r → ◌≡◌ {A = ℕ} 0 1
    none_op [] g h = end_op h
      where
        end_op : HasOp [] → ◌≡◌ {A = ℕ} 0 1
        end_op h = let z : false ≡ true = h in cc
    none_op (c ∷ v) g h = no_op (c ∷ v) c v refl (behind_first (f e) (a e).0 s c v g).1.1 h

    on : (k.n ≡ 0) ⊎ HasOp r → Exp 5 e m.w
    on (inl h) = subst (λ y. Exp 5 e y) (sym (k.is ∙ ap (λ n. k.text ++ spaces n) h ∙ append-nil k.text)) k.good
    on (inr h) = clash (none_op r g h)

-- ---- numbers

abbrev pub NumTook : ℕ → List ℕ → Read ℕ → Type 0
NumTook most t (got n r) = Took t r (λ w. Decimal most n w) (λ x u. (is_decimal (look x) ≡ true) × (going.digits most 0 x ≡ got n u))
NumTook most t (stuck r) = Took t r (λ w. Decimal most (worth 0 w) w) (λ x u. (is_decimal (look x) ≡ true)
    × (going.digits most 0 x ≡ stuck u))

abbrev next : ℕ → ℕ → ℕ
next v d = 10 * v + (d - 48)

pub num_took : (most : ℕ) (t : List ℕ) (o : Read ℕ) → 9 ≤ most → is_decimal (look t) ≡ true → going.digits most 0 t ≡ o → NumTook most t o
unfolding worth
num_took most [] o h p e = clash (cc)
num_took most (c ∷ t) o h p e = on o (subst (λ x. FineDigits most (next 0 c) t x) (sym (step t) ∙ e) (fine_digits most (next 0 c) t k))
  where
    k : next 0 c ≤ most
    k = omega (arith, leb-true c 57 (and_true (leb 48 c) (leb c 57) p).1)

    step : (x : List ℕ) → going.digits most 0 (c ∷ x) ≡ going.digits most (next 0 c) x
    step x = digits_step most 0 c x p (le-leb (next 0 c) most k)

    on : (o : Read ℕ) → FineDigits most (next 0 c) t o → NumTook most (c ∷ t) o
    on (got n r) a =
        record {
          w = c ∷ a.w;
          split = ap (λ x. c ∷ x) a.split;
          means = record { some = omega arith; digits = more_digits c a.w p a.means.0; is = whole a.w ∙ a.means.1.0; within = a.means.1.1 };
          alike = λ u z. (p, step (a.w ++ u) ∙ a.alike u z);
        }
      where
        whole : (w : List ℕ) → worth 0 (c ∷ w) ≡ worth (next 0 c) w
        whole w = refl
    on (stuck r) a =
        record {
          w = c ∷ a.w;
          split = ap (λ x. c ∷ x) a.split;
          means = record { some = omega arith; digits = more_digits c a.w p a.means.0; is = refl; within = a.means.1 };
          alike = λ u z. (p, step (a.w ++ u) ∙ a.alike u z);
        }

-- ---- the plan's reader is right

joined_begun : (P Q : Plan) (w v : List ℕ) → ((x : List ℕ) (s : Stmt) → Reads Q s x → Reads P s (w ++ x)) → Begun Q v → Begun P (w ++ v)
joined_begun P Q w v f b =
    record {
      more = b.more;
      line = b.line;
      good = subst (λ x. Reads P b.line x) (sym (append_assoc w v b.more))
          (f (v ++ b.more) b.line b.good);
    }

value_fine : (most : ℕ) (f : ℕ → Plan) (n : ℕ) (t r : List ℕ) → NumTook most t (got n r) → (o : Read Stmt) → FineWalk (f n) r o
    → FineWalk (decimal most f) t o
value_fine most f n t r a (got s q) g = (subst (λ x. Reads (decimal most f) s x) (sym a.split) (plans.value a.means g.0), g.1)
value_fine most f n t r a (stuck q) g =
    part_lost (decimal most f) (f n) t r a.w a.split (λ u k o z. plans.value (a.alike u k).0 (a.alike u k).1 z) q g
    (λ v s b. joined_begun (decimal most f) (f n) a.w v (λ x l z. plans.value a.means z) b)

name_fine : (f : ℕ → Plan) (n : ℕ) (t r : List ℕ) → FineFixed 32767 5 0 t (got n r) → (o : Read Stmt) → FineWalk (f n) r o
    → FineWalk (five f) t o
name_fine f n t r a (got s q) g =
    let m = a.means in (
      subst (λ x. Reads (five f) s x) (sym a.split)
          (plans.digits m.size (record { some = omega (arith, m.size); digits = m.digits; is = m.is; within = m.within }) g.0),
      g.1,
    )
name_fine f n t r a (stuck q) g =
    let m = a.means in
    part_lost (five f) (f n) t r a.w a.split (λ u k o z. plans.digits (a.alike u k) z) q g
    (λ v s b.
    joined_begun (five f) (f n) a.w v
    (λ x l z. plans.digits m.size (record { some = omega (arith, m.size); digits = m.digits; is = m.is; within = m.within }) z) b)

-- a text that is whole so far, then any text of what follows
then_begun : (P Q : Plan) (w : List ℕ) → Alive Q → ((x : List ℕ) (s : Stmt) → Reads Q s x → Reads P s (w ++ x)) → Begun P w
then_begun P Q w a f = let b = begin Q a in record { more = b.more; line = b.line; good = f b.more b.line b.good }

over_alike : {s : Stmt} {c : ℕ} {t u : List ℕ} → Alike (c ∷ t) u → Walks (done s) u (stuck u)
over_alike same = plans.over

short_alike : {ok : ℕ → Bool} {f : ℕ → Plan} {u : List ℕ} → Alike [] u → Walks (fork none ok f) u (stuck u)
short_alike both = plans.short

wrong_alike : {end : Option Stmt} {ok : ℕ → Bool} {f : ℕ → Plan} {c : ℕ} {t u : List ℕ} → ok c ≡ false → Alike (c ∷ t) u
    → Walks (fork end ok f) u (stuck u)
wrong_alike p same = plans.wrong p

pub fork_next : (end : Option Stmt) (ok : ℕ → Bool) (f : ℕ → Plan) → Alive (fork end ok f) → (c : ℕ) → ok c ≡ true → Alive (f c)
unfolding Alive
fork_next (some s) ok f a c p = a c p
fork_next none ok f a c p = a.1 c p

step_fine : (end : Option Stmt) (ok : ℕ → Bool) (f : ℕ → Plan) (c : ℕ) (t : List ℕ) → ok c ≡ true → (o : Read Stmt) → FineWalk (f c) t o
    → FineWalk (fork end ok f) (c ∷ t) o
step_fine end ok f c t p (got s r) g = (plans.byte p g.0, g.1)
step_fine end ok f c t p (stuck r) l =
    record {
      w = c ∷ l.w;
      split = ap (λ x. c ∷ x) l.split;
      begun = record { more = l.begun.more; line = l.begun.line; good = plans.byte p l.begun.good };
      alike = λ u k. plans.steps p (l.alike u k);
    }

tree_fine : (f : Expr → Plan) → ((e : Expr) → Behind (f e) × Alive (f e)) → (e : Expr) (t r : List ℕ)
    → Took t r (λ w. Trails 5 e r w) (λ x u. Goes (whole 5) x (got e u)) → (o : Read Stmt) → FineWalk (f e) r o
    → FineWalk (expression f) t o
tree_fine f a e t r m (got s q) g = (tree_got (expression f) f (λ s e w v x g. plans.tree x g) a e t r m s g.0, g.1)
tree_fine f a e t r m (stuck q) g =
    part_lost (expression f) (f e) t r m.w m.split (λ u k o z. plans.tree (m.alike u k) z) q g
    (λ v s b. tree_begun (expression f) f (λ s e w v x g. plans.tree x g) a e r m.w v q m.means s b)

marked_fine : (ok : ℕ → Bool) (next : ℕ → Plan) (f : Expr → Plan) (c : ℕ) (t : List ℕ) → ok c ≡ true → (o : Read Stmt)
    → FineWalk (next c) t o
    → FineWalk (either ok next f) (c ∷ t) o
marked_fine ok next f c t p (got s r) g = (plans.marked p g.0, g.1)
marked_fine ok next f c t p (stuck r) l =
    record {
      w = c ∷ l.w;
      split = ap (λ x. c ∷ x) l.split;
      begun = record { more = l.begun.more; line = l.begun.line; good = plans.marked p l.begun.good };
      alike = λ u k. plans.marked p (l.alike u k);
    }

bare_fine : (ok : ℕ → Bool) (next : ℕ → Plan) (f : Expr → Plan) → ((e : Expr) → Behind (f e) × Alive (f e)) → (e : Expr) (t r : List ℕ)
    → ok (look t) ≡ false
    → Took t r (λ w. Trails 5 e r w) (λ x u. Goes (whole 5) x (got e u)) → (o : Read Stmt) → FineWalk (f e) r o
    → FineWalk (either ok next f) t o
bare_fine ok next f a e t r q m (got s z) g = (tree_got (either ok next f) f (λ s e w v x g. plans.bare x g) a e t r m s g.0, g.1)
bare_fine ok next f a e t r q m (stuck z) g =
    part_lost (either ok next f) (f e) t r m.w m.split
    (λ u k o h. plans.bare (ap ok (sym (ap look m.split ∙ front m.w r u k)) ∙ q) (m.alike u k) h) z g
    (λ v s b. tree_begun (either ok next f) f (λ s e w v x g. plans.bare x g) a e r m.w v z m.means s b)

finish_fine : (read : List ℕ → Read Stmt) (t : List ℕ) (o : Read Stmt) → read t ≡ o → Finishes read t o → FineWalk (finish read) t o
finish_fine read t (got s r) e h = (plans.finished (e ∙ ap (λ x. got s x) h), h)
finish_fine read t (stuck r) e h =
    record {
      w = h.w;
      split = h.split;
      begun = record { more = h.more; line = h.line; good = plans.finished h.good };
      alike = λ u k. plans.finishes (h.alike u k);
    }

pub fine_walk : {P : Plan} {t : List ℕ} {o : Read Stmt} → Walks P t o → Alive P → FineWalk P t o
unfolding Alive
fine_walk plans.last a = (plans.last, refl)
fine_walk (plans.over {s = s}) a = record { w = []; split = refl; begun = begin (done s) a; alike = λ u k. over_alike k }
fine_walk plans.ended a = (plans.ends, refl)
fine_walk (plans.short {ok = ok} {f = f}) a =
    record { w = []; split = refl; begun = begin (fork none ok f) a; alike = λ u k. short_alike k }
fine_walk (plans.steps {end = end} {ok = ok} {f = f} {c = c} {t = t} {o = o} p g) a =
    step_fine end ok f c t p o (fine_walk g (fork_next end ok f a c p))
fine_walk (plans.wrong {end = end} {ok = ok} {f = f} p) a =
    record { w = []; split = refl; begun = begin (fork end ok f) a; alike = λ u k. wrong_alike p k }
fine_walk (plans.tree {f = f} {e = e} {t = t} {r = r} {o = o} g h) a = tree_fine f a e t r (fine g) o (fine_walk h (a e).1)
fine_walk (plans.treeless {f = f} {t = t} {r = r} g) a =
    let m : Took t r (λ w. Ahead 5 w) (λ x u. Goes (whole 5) x (stuck u)) = fine g in
    let c = can_5 m.w m.means in
    let b = begin (f c.tree) (a c.tree).1 in
    record {
      w = m.w;
      split = m.split;
      begun =
          record {
            more = c.more ++ b.more;
            line = b.line;
            good = subst (λ x. Reads (expression f) b.line x) (append_assoc m.w c.more b.more) (plans.tree c.good b.good);
          };
      alike = λ u k. plans.treeless (m.alike u (alike_look k));
    }
fine_walk (plans.value {f = f} {most = most} {n = n} {t = t} {r = r} {o = o} p e g) a =
    value_fine most f n t r (num_took most t (got n r) a.0 p e) o (fine_walk g (a.1 n).1)
fine_walk (plans.large {f = f} {most = most} {t = t} {r = r} p e) a =
    let m = num_took most t (stuck r) a.0 p e in
    record {
      w = m.w;
      split = m.split;
      begun = then_begun (decimal most f) (f (worth 0 m.w)) m.w (a.1 (worth 0 m.w)).1 (λ x s z. plans.value m.means z);
      alike = λ u k. let q = m.alike u (alike_look k) in plans.large q.0 q.1;
    }
fine_walk (plans.valueless {f = f} {most = most} {t = t} p) a =
    record {
      w = [];
      split = refl;
      begun = begin (decimal most f) a;
      alike = λ u k. plans.valueless (ap is_decimal (sym (alike_look k)) ∙ p);
    }
fine_walk (plans.digits {f = f} {n = n} {t = t} {r = r} {o = o} e g) a =
    name_fine f n t r (subst (λ x. FineFixed 32767 5 0 t x) e (fine_fixed 32767 5 0 t (lit≤ tt))) o (fine_walk g (a n))
fine_walk (plans.nameless {f = f} {t = t} {r = r} e) a =
    let m = subst (λ x. FineFixed 32767 5 0 t x) e (fine_fixed 32767 5 0 t (lit≤ tt)) in
    let p = m.means in
    let x : List ℕ = m.w ++ p.more in
    let b = begin (f (worth 0 x)) (a (worth 0 x)) in
    record {
      w = m.w;
      split = m.split;
      begun =
          record {
            more = p.more ++ b.more;
            line = b.line;
            good =
                subst (λ y. Reads (five f) b.line y) (append_assoc m.w p.more b.more)
                (plans.digits p.size (record { some = omega (arith, p.size); digits = p.digits; is = refl; within = p.within }) b.good);
          };
      alike = λ u k. plans.nameless (m.alike u (alike_look k));
    }
fine_walk (plans.marked {ok = ok} {next = next} {f = f} {c = c} {t = t} {o = o} p g) a =
    marked_fine ok next f c t p o (fine_walk g (a.1.0 c p))
fine_walk (plans.bare {ok = ok} {next = next} {f = f} {e = e} {t = t} {r = r} {o = o} q g h) a =
    bare_fine ok next f a.1.1 e t r q (fine g) o (fine_walk h (a.1.1 e).1)
fine_walk (plans.bareless {ok = ok} {next = next} {f = f} {t = t} {r = r} q g) a =
    let m : Took t r (λ w. Ahead 5 w) (λ x u. Goes (whole 5) x (stuck u)) = fine g in
    let c = can_5 m.w m.means in
    let b = begin (f c.tree) (a.1.1 c.tree).1 in
    record {
      w = m.w;
      split = m.split;
      begun =
          record {
            more = c.more ++ b.more;
            line = b.line;
            good = subst (λ x. Reads (either ok next f) b.line x) (append_assoc m.w c.more b.more) (plans.bare c.good b.good);
          };
      alike = λ u k. plans.bareless (ap ok (sym (ap look m.split ∙ front m.w r u (alike_look k))) ∙ q) (m.alike u (alike_look k));
    }
fine_walk (plans.finishes {t = t} {o = o} {read = read} e) a = finish_fine read t o e (subst (λ x. Finishes read t x) e (a.1 t))
