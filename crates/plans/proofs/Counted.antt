-- The reader of a number from 1 on that ends the line is right, and with it the plan of C-11's `.align`. Assumes nothing.
use mathlib.Core.Path.{◌≡◌, refl, sym, ap, ◌∙◌, subst}
use mathlib.Core.List.{List, [], ◌∷◌, ◌++◌, append-nil}
use mathlib.Core.Option.{none}
use mathlib.Core.Bool.{Bool, true, false, cond}
use Prim.Native.Nat.{ℕ, zero, suc, ◌+◌, ◌*◌, ◌≤◌, ◌<◌}
use native.Mathlib.Omega.{arith}
use lib.Dec.{eqb, leb, lit≤}
use lib.ListN.{length-append}
use borrow.Author.Tests.{eqb-true, leb-true, leb-false}
use Rattle.laws.specs.Lists.{every}
use Rattle.laws.proofs.Tests.{clash}
use Rattle.rules.specs.Programs.{Stmt}
use Rattle.grammar.specs.Reading.{is_decimal, worth, look, Decimal}
use Rattle.grammar.specs.Going.{Read, got, stuck, digits}
use Rattle.plans.specs.Plans as plans
use Rattle.plans.specs.Plans.{Plan, fork, decimal, finish, Alike, both, same, Halts, Finishes, Reads, Alive}
use Rattle.plans.specs.Finals.{counted, multiples}
use Rattle.plans.specs.Lines.{align_plan}
use Rattle.grammar.proofs.Digits.{digits_all}
use Rattle.grammar.proofs.RoundTrip.{worth_append, digits_append}
use Rattle.plans.proofs.Planned.{alike_look, NumTook, num_took}
use Rattle.plans.proofs.ReadOnce.{digit_head}
use Rattle.plans.proofs.Parts.{Value, value_of, Byte, byte_of, comma}

module _ (most : ℕ) (f : ℕ → Stmt) where
  from_one : (n : ℕ) → 1 ≤ n → counted f (got n []) ≡ got (f n) []
  from_one zero h = absurd (omega arith)
  from_one (suc n) h = refl

  -- a number from 1 on is read
  pub counted_all : (n : ℕ) (t : List ℕ) → Decimal most n t → 1 ≤ n → multiples most f t ≡ got (f n) []
  unfolding multiples
  counted_all n t d h =
      let p : is_decimal (look t) ≡ true = subst (λ y. is_decimal (look y) ≡ true) (append-nil t) (digit_head most n t [] d) in
      let e : digits most 0 t ≡ got n [] =
      subst (λ y. digits most 0 y ≡ got n []) (append-nil t) (digits_all most 0 t [] d.digits (omega (arith, d.is, d.within)) refl
      ∙ ap (λ x. got x []) d.is) in
      ap (λ b. cond b (counted f (digits most 0 t)) (stuck t)) p ∙ ap (counted f) e ∙ from_one n h

  -- what begins with digits that are not too many can be finished
  record Filled (w : List ℕ) : Type 0 where
    more : List ℕ
    line : Stmt
    good : multiples most f (w ++ more) ≡ got line []

  filled : (n : ℕ) (w : List ℕ) → 1 ≤ most → Decimal most n w → Filled w
  unfolding worth every
  filled n w m d = on (leb 1 n) refl
    where
      on : (b : Bool) → leb 1 n ≡ b → Filled w
      on true e = record { more = []; line = f n; good = ap (multiples most f) (append-nil w) ∙ counted_all n w d (leb-true 1 n e) }
      on false e =
          let z : n < 1 = leb-false 1 n e in
          record {
            more = 49 ∷ [];
            line = f 1;
            good =
                counted_all 1 (w ++ (49 ∷ []))
                (record {
                  some = subst (λ (x : ℕ). 1 ≤ x) (sym (length-append w (49 ∷ []))) (omega arith);
                  digits = digits_append w (49 ∷ []) d.digits refl;
                  is = worth_append 0 w (49 ∷ []) ∙ ap (λ v. 10 * v + 1) d.is ∙ once n z;
                  within = m;
                })
                (lit≤ tt);
          }
        where
          once : (n : ℕ) → n < 1 → 10 * n + 1 ≡ 1
          once n h = omega arith

  one_number : 1 ≤ most → Decimal most 1 (49 ∷ [])
  unfolding worth every
  one_number m = record { some = lit≤ tt; digits = refl; is = refl; within = m }

  no_digit : (t : List ℕ) → is_decimal (look t) ≡ false → multiples most f t ≡ stuck t
  unfolding multiples
  no_digit t e = ap (λ b. cond b (counted f (digits most 0 t)) (stuck t)) e

  some_digit : (t : List ℕ) (o : Read ℕ) → (is_decimal (look t) ≡ true) × (digits most 0 t ≡ o) → multiples most f t ≡ counted f o
  unfolding multiples
  some_digit t o e = ap (λ b. cond b (counted f (digits most 0 t)) (stuck t)) e.0 ∙ ap (counted f) e.1

  -- stuck behind a number: at the end if it is 0, at a byte
  end_alike : (w u : List ℕ) → ((u : List ℕ) → look [] ≡ look u → (is_decimal (look (w ++ u)) ≡ true) × (digits most 0 (w ++ u) ≡ got 0 u))
      → Alike [] u → multiples most f (w ++ u) ≡ stuck u
  end_alike w u g both = some_digit (w ++ []) (got 0 []) (g [] refl)

  byte_alike : (w u : List ℕ) (n c : ℕ) (r : List ℕ)
      → ((u : List ℕ) → c ≡ look u → (is_decimal (look (w ++ u)) ≡ true) × (digits most 0 (w ++ u) ≡ got n u)) → Alike (c ∷ r) u
      → multiples most f (w ++ u) ≡ stuck u
  byte_alike w u n c r g (same {u = v}) = some_digit (w ++ (c ∷ v)) (got n (c ∷ v)) (g (c ∷ v) refl)

  halts : (t r : List ℕ) (n : ℕ) (w : List ℕ) → t ≡ w ++ r → 1 ≤ most → Decimal most n w
      → ((u : List ℕ) → Alike r u → multiples most f (w ++ u) ≡ stuck u) → Halts (multiples most f) t r
  halts t r n w s m d g = let h = filled n w m d in record { w = w; split = s; more = h.more; line = h.line; good = h.good; alike = g }

  finishes : (t : List ℕ) → 9 ≤ most → (o : Read ℕ) → NumTook most t o → Finishes (multiples most f) t (counted f o)
  finishes t m (got zero []) a = halts t [] 0 a.w a.split (omega arith) a.means (λ u k. end_alike a.w u a.alike k)
  finishes t m (got (suc n) []) a = refl
  finishes t m (got n (c ∷ r)) a = halts t (c ∷ r) n a.w a.split (omega arith) a.means (λ u k. byte_alike a.w u n c r a.alike k)
  finishes t m (stuck r) a =
      halts t r (worth 0 a.w) a.w a.split (omega arith) a.means (λ u k. some_digit (a.w ++ u) (stuck u) (a.alike u (alike_look k)))

  finishes_all : 9 ≤ most → (t : List ℕ) → Finishes (multiples most f) t (multiples most f t)
  unfolding multiples
  finishes_all m t = on (is_decimal (look t)) refl
    where
      on : (b : Bool) → is_decimal (look t) ≡ b → Finishes (multiples most f) t (cond b (counted f (digits most 0 t)) (stuck t))
      on true e = finishes t m (digits most 0 t) (num_took most t (digits most 0 t) m e refl)
      on false e =
          record {
            w = [];
            split = refl;
            more = 49 ∷ [];
            line = f 1;
            good = counted_all 1 (49 ∷ []) (one_number (omega arith)) (lit≤ tt);
            alike = λ u k. no_digit u (ap is_decimal (sym (alike_look k)) ∙ e);
          }

  pub counted_alive : 9 ≤ most → Alive (finish (multiples most f))
  unfolding Alive
  counted_alive m = ((49 ∷ [], (f 1, counted_all 1 (49 ∷ []) (one_number (omega arith)) (lit≤ tt))), finishes_all m)

  -- what is read is a number from 1 on
  pub record Count (s : Stmt) (t : List ℕ) : Type 0 where
    pub n : ℕ
    pub is : s ≡ f n
    pub good : Decimal most n t
    pub least : 1 ≤ n

  count_got : (s : Stmt) (t : List ℕ) (o : Read ℕ) → NumTook most t o → counted f o ≡ got s [] → Count s t
  count_got s t (got zero []) a e = clash (cc)
  count_got s t (got (suc n) []) a e =
      record {
        n = suc n;
        is = is e;
        good = subst (λ y. Decimal most (suc n) y) (sym (a.split ∙ append-nil a.w)) a.means;
        least =
            omega arith;
      }
    where
      is : {x y : Stmt} → ◌≡◌ {A = Read Stmt} (got x []) (got y []) → y ≡ x
      is e = cc
  count_got s t (got n (c ∷ r)) a e = clash (cc)
  count_got s t (stuck r) a e = clash (cc)

  pub count_of : 9 ≤ most → {s : Stmt} {t : List ℕ} → Reads (finish (multiples most f)) s t → Count s t
  unfolding multiples
  count_of m {s = s} {t = t} (plans.finished e) = on (is_decimal (look t)) refl e
    where
      on : (b : Bool) → is_decimal (look t) ≡ b → cond b (counted f (digits most 0 t)) (stuck t) ≡ got s [] → Count s t
      on true p e = count_got s t (digits most 0 t) (num_took most t (digits most 0 t) m p refl) e
      on false p e = clash (cc)

-- ---- `.align `: add, a comma, the multiple

pub align_alive : (make : ℕ → ℕ → Stmt) → Alive (align_plan make)
unfolding Alive align_plan
align_alive make = (lit≤ tt, λ a. ((λ c p. comma c p), ((44, refl), λ c p. counted_alive 256 (make a) (lit≤ tt))))

pub record Aligned (make : ℕ → ℕ → Stmt) (s : Stmt) (t : List ℕ) : Type 0 where
  pub a : ℕ
  pub m : ℕ
  pub u : List ℕ
  pub v : List ℕ
  pub is : s ≡ make a m
  pub text : t ≡ u ++ (44 ∷ v)
  pub add : Decimal 255 a u
  pub multiple : Decimal 256 m v
  pub least : 1 ≤ m

pub align_of : (make : ℕ → ℕ → Stmt) (s : Stmt) (t : List ℕ) → Reads (align_plan make) s t → Aligned make s t
unfolding align_plan
align_of make s t g = on (value_of g)
  where
    next : ℕ → Plan
    next a = fork none (λ c. eqb c 44) (λ c. finish (multiples 256 (make a)))

    on : Value 255 next s t → Aligned make s t
    on x = at (byte_of (λ c. eqb c 44) (λ c. finish (multiples 256 (make x.n))) s x.v x.rest)
      where
        at : Byte (λ c. eqb c 44) (λ c. finish (multiples 256 (make x.n))) s x.v → Aligned make s t
        at y =
            let z : Count 256 (make x.n) s y.v = count_of 256 (make x.n) (lit≤ tt) y.rest in
            record {
              a = x.n;
              m = z.n;
              u = x.w;
              v = y.v;
              is = z.is;
              text = x.is ∙ ap (λ r. x.w ++ r) (y.is ∙ ap (λ c. c ∷ y.v) (eqb-true y.c 44 y.passes));
              add = x.good;
              multiple = z.good;
              least = z.least;
            }

pub of_align : (make : ℕ → ℕ → Stmt) (a m : ℕ) (u v : List ℕ) → Decimal 255 a u → Decimal 256 m v → 1 ≤ m
    → Reads (align_plan make) (make a m) (u ++ (44 ∷ v))
unfolding align_plan
of_align make a m u v d e h = plans.value d (plans.byte refl (plans.finished (counted_all 256 (make a) m v e h)))
