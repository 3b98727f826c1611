-- The reader of a comment's bytes is right: what it reads is what C-16 writes, and where it is stuck no good line goes on. Assumes nothing.
use mathlib.Core.Path.{◌≡◌, refl, sym, ap, ◌∙◌, subst}
use mathlib.Core.Logic.{◌⊎◌, inl, inr}
use mathlib.Core.List.{List, [], ◌∷◌, ◌++◌}
use mathlib.Core.Bool.{Bool, true, false, ◌&&◌, cond}
use Prim.Native.Nat.{ℕ, ◌+◌, ◌-◌, ◌*◌, ◌/◌, ◌%◌, ◌≤◌, ◌<◌}
use native.Mathlib.Omega.{arith}
use lib.Dec.{leb, ltb}
use lib.ListN.{length}
use borrow.Author.Tests.{leb-true, le-leb, ltb-true, ltb-false, lt-ltb, le-ltb}
use Rattle.laws.specs.Lists.{every, each}
use Rattle.laws.proofs.Tests.{clash, both_ways, and_true, and_both, or_true, or_first, or_second}
use Rattle.rules.specs.Listing.{is_digit, digit}
use Rattle.rules.specs.Output.{hex_digit, hex_byte}
use Rattle.rules.specs.Patterns.{codes}
use Rattle.rules.specs.Programs.{Stmt, comment}
use Rattle.grammar.specs.Reading as reading
use Rattle.grammar.specs.Reading.{Line}
use Rattle.grammar.specs.Going.{Read, got, stuck, on_got}
use Rattle.plans.specs.Plans as plans
use Rattle.plans.specs.Plans.{Plan, finish, Alike, both, same, Halts, Finishes, Reads, Alive}
use Rattle.plans.specs.Finals.{hexes, comments}

-- ---- digits

record Digit (d : ℕ) : Type 0 where
  is : is_digit (hex_digit d) ≡ true
  back : digit (hex_digit d) ≡ d

a_digit : (d : ℕ) → d < 16 → Digit d
a_digit d h = on (ltb d 10) refl
  where
    on : (b : Bool) → ltb d 10 ≡ b → Digit d
    on true e =
        let k : d < 10 = ltb-true d 10 e in
        let t : hex_digit d ≡ 48 + d = rw e in
        record {
          is = rw t (or_first (leb 48 (48 + d) && leb (48 + d) 57) (leb 65 (48 + d) && leb (48 + d) 70)
              (and_both (leb 48 (48 + d)) (leb (48 + d) 57) (le-leb 48 (48 + d) (omega arith)) (le-leb (48 + d) 57 (omega arith))));
          back = rw (t, le-leb (48 + d) 57 (omega arith)) (omega arith);
        }
    on false e =
        let k : 10 ≤ d = ltb-false d 10 e in
        let t : hex_digit d ≡ 55 + d = rw e in
        record {
          is = rw t (or_second (leb 48 (55 + d) && leb (55 + d) 57) (leb 65 (55 + d) && leb (55 + d) 70)
              (and_both (leb 65 (55 + d)) (leb (55 + d) 70) (le-leb 65 (55 + d) (omega arith)) (le-leb (55 + d) 70 (omega arith))));
          back = rw (t, lt_leb (55 + d) 57 (omega arith)) (omega arith);
        }
      where
        lt_leb : (a b : ℕ) → b < a → leb a b ≡ false
        lt_leb a b h = go (leb a b) refl
          where
            go : (t : Bool) → leb a b ≡ t → leb a b ≡ false
            go true q = absurd (omega (arith, leb-true a b q))
            go false q = q

record Worth (c : ℕ) : Type 0 where
  less : digit c < 16
  back : hex_digit (digit c) ≡ c

digit_worth : (c : ℕ) → is_digit c ≡ true → Worth c
digit_worth c e = on (leb c 57) refl (or_true (leb 48 c && leb c 57) (leb 65 c && leb c 70) e)
  where
    low : (c : ℕ) → 48 ≤ c → c ≤ 57 → hex_digit (c - 48) ≡ c
    low c h k = rw (lt-ltb (c - 48) 10 (omega arith)) (omega arith)

    high : (c : ℕ) → 65 ≤ c → hex_digit (c - 55) ≡ c
    high c h = rw (le-ltb (c - 55) 10 (omega arith)) (omega arith)

    on : (b : Bool) → leb c 57 ≡ b → (leb 48 c && leb c 57 ≡ true) ⊎ (leb 65 c && leb c 70 ≡ true) → Worth c
    on true q (inl h) =
        let a = leb-true 48 c (and_true (leb 48 c) (leb c 57) h).0 in
        let k = leb-true c 57 q in
        let z : digit c ≡ c - 48 = rw q in
        record { less = omega arith; back = rw z (low c a k) }
    on true q (inr h) = absurd (omega (arith, leb-true c 57 q, leb-true 65 c (and_true (leb 65 c) (leb c 70) h).0))
    on false q (inl h) = both_ways (leb c 57) (and_true (leb 48 c) (leb c 57) h).1 q
    on false q (inr h) =
        let p = and_true (leb 65 c) (leb c 70) h in
        let a = leb-true 65 c p.0 in
        let k = leb-true c 70 p.1 in
        let z : digit c ≡ c - 55 = rw q in
        record { less = omega arith; back = rw z (high c a) }

-- a pair of digits is the byte that it stands for, written
pair_byte : (c d : ℕ) → is_digit c ≡ true → is_digit d ≡ true → hex_byte (digit c * 16 + digit d) ≡ c ∷ d ∷ []
pair_byte c d p q =
    let a = digit_worth c p in
    let b = digit_worth d q in
    ap (λ x. hex_digit x ∷ hex_digit ((digit c * 16 + digit d) % 16) ∷ []) (high (digit c) (digit d) b.less)
    ∙ ap (λ x. hex_digit (digit c) ∷ hex_digit x ∷ []) (low (digit c) (digit d) b.less)
    ∙ ap (λ x. x ∷ hex_digit (digit d) ∷ []) a.back
    ∙ ap (λ x. c ∷ x ∷ []) b.back
  where
    high : (a b : ℕ) → b < 16 → (a * 16 + b) / 16 ≡ a
    high a b h = omega arith

    low : (a b : ℕ) → b < 16 → (a * 16 + b) % 16 ≡ b
    low a b h = omega arith

-- ---- pairs

record HexHalts (t r : List ℕ) : Type 0 where
  w : List ℕ
  split : t ≡ w ++ r
  more : List ℕ
  line : List ℕ
  some : 1 ≤ length (w ++ more)
  good : hexes (w ++ more) ≡ got line []
  alike : (u : List ℕ) → Alike r u → hexes (w ++ u) ≡ stuck u

record HexIs (s t : List ℕ) : Type 0 where
  small : every (λ b. leb b 255) s ≡ true
  text : t ≡ each (λ b. hex_byte b) s

abbrev FineHexes : List ℕ → Read (List ℕ) → Type 0
FineHexes t (got s r) = (r ≡ []) × HexIs s t
FineHexes t (stuck r) = HexHalts t r

-- the first byte is no digit
first_wrong : (c : ℕ) (t : List ℕ) → is_digit c ≡ false → hexes (c ∷ t) ≡ stuck (c ∷ t)
unfolding hexes
first_wrong c [] e = rw e
first_wrong c (d ∷ t) e = rw e

second_wrong : (c d : ℕ) (t : List ℕ) → is_digit c ≡ true → is_digit d ≡ false → hexes (c ∷ d ∷ t) ≡ stuck (d ∷ t)
unfolding hexes
second_wrong c d t p q = rw (p, q)

half : (c : ℕ) → is_digit c ≡ true → hexes (c ∷ []) ≡ stuck []
unfolding hexes
half c p = rw p

pair_step : (c d : ℕ) (t : List ℕ) → is_digit c ≡ true → is_digit d ≡ true
    → hexes (c ∷ d ∷ t) ≡ on_got (λ s. (digit c * 16 + digit d) ∷ s) (hexes t)
unfolding hexes
pair_step c d t p q = rw (p, q)

wrong_alike : {c : ℕ} {t u : List ℕ} → is_digit c ≡ false → Alike (c ∷ t) u → hexes u ≡ stuck u
wrong_alike {c = c} p (same {u = u}) = first_wrong c u p

second_alike : (c : ℕ) {d : ℕ} {t u : List ℕ} → is_digit c ≡ true → is_digit d ≡ false → Alike (d ∷ t) u → hexes (c ∷ u) ≡ stuck u
second_alike c {d = d} p q (same {u = u}) = second_wrong c d u p q

half_alike : (c : ℕ) {u : List ℕ} → is_digit c ≡ true → Alike [] u → hexes (c ∷ u) ≡ stuck u
half_alike c p both = half c p

zeros : hexes (48 ∷ 48 ∷ []) ≡ got (0 ∷ []) []
unfolding hexes
zeros = refl

none_read : (c : ℕ) (t : List ℕ) → is_digit c ≡ false → HexHalts (c ∷ t) (c ∷ t)
none_read c t p =
    record { w = []; split = refl; more = 48 ∷ 48 ∷ []; line = 0 ∷ []; some = omega arith; good = zeros; alike = λ u k. wrong_alike p k }

one_read : (c : ℕ) (r : List ℕ) → is_digit c ≡ true → ((u : List ℕ) → Alike r u → hexes (c ∷ u) ≡ stuck u) → HexHalts (c ∷ r) r
unfolding hexes
one_read c r p f =
    record {
      w = c ∷ [];
      split = refl;
      more = 48 ∷ [];
      line = (digit c * 16 + 0) ∷ [];
      some = omega arith;
      good = pair_step c 48 [] p refl;
      alike = f;
    }

two_read : (c d : ℕ) (t : List ℕ) → is_digit c ≡ true → is_digit d ≡ true → (o : Read (List ℕ)) → FineHexes t o
    → FineHexes (c ∷ d ∷ t) (on_got (λ s. (digit c * 16 + digit d) ∷ s) o)
unfolding every each
two_read c d t p q (got s r) (z, h) = (
  z,
  record {
    small = and_both (leb (digit c * 16 + digit d) 255) (every (λ b. leb b 255) s)
        (le-leb (digit c * 16 + digit d) 255 (omega (arith, (digit_worth c p).less, (digit_worth d q).less))) h.small;
    text = ap (λ x. c ∷ d ∷ x) h.text ∙ ap (λ x. x ++ each (λ b. hex_byte b) s) (sym (pair_byte c d p q));
  },
)
two_read c d t p q (stuck r) h =
    record {
      w = c ∷ d ∷ h.w;
      split = ap (λ x. c ∷ d ∷ x) h.split;
      more = h.more;
      line = (digit c * 16 + digit d) ∷ h.line;
      some = omega arith;
      good = pair_step c d (h.w ++ h.more) p q ∙ ap (on_got (λ s. (digit c * 16 + digit d) ∷ s)) h.good;
      alike = λ u k. pair_step c d (h.w ++ u) p q ∙ ap (on_got (λ s. (digit c * 16 + digit d) ∷ s)) (h.alike u k);
    }

fine_hexes : (t : List ℕ) → FineHexes t (hexes t)
unfolding hexes every each
fine_hexes [] = (refl, record { small = refl; text = refl })
fine_hexes (c ∷ []) = on (is_digit c) refl
  where
    on : (b : Bool) → is_digit c ≡ b → FineHexes (c ∷ []) (cond b (stuck []) (stuck (c ∷ [])))
    on true e = one_read c [] e (λ u k. half_alike c e k)
    on false e = none_read c [] e
fine_hexes (c ∷ d ∷ t) = on (is_digit c) refl (is_digit d) refl (fine_hexes t)
  where
    on : (a : Bool) → is_digit c ≡ a → (b : Bool) → is_digit d ≡ b → FineHexes t (hexes t)
        → FineHexes (c ∷ d ∷ t) (cond a (cond b (on_got (λ s. (digit c * 16 + digit d) ∷ s) (hexes t)) (stuck (d ∷ t))) (stuck (c ∷ d ∷ t)))
    on false p b q h = none_read c (d ∷ t) p
    on true p false q h = one_read c (d ∷ t) p (λ u k. second_alike c p q k)
    on true p true q h = two_read c d t p q (hexes t) h

-- what C-16 writes is read
pub hexes_all : (s : List ℕ) → every (λ b. leb b 255) s ≡ true → hexes (each (λ b. hex_byte b) s) ≡ got s []
unfolding hexes every each
hexes_all [] e = refl
hexes_all (b ∷ s) e =
    let h = and_true (leb b 255) (every (λ b. leb b 255) s) e in
    let k : b ≤ 255 = leb-true b 255 h.0 in
    let x = a_digit (b / 16) (omega arith) in
    let y = a_digit (b % 16) (omega arith) in
    pair_step (hex_digit (b / 16)) (hex_digit (b % 16)) (each (λ b. hex_byte b) s) x.is y.is
    ∙ ap (on_got (λ r. (digit (hex_digit (b / 16)) * 16 + digit (hex_digit (b % 16))) ∷ r)) (hexes_all s h.1)
    ∙ ap (λ r. got (r ∷ s) []) (whole b (digit (hex_digit (b / 16))) (digit (hex_digit (b % 16))) x.back y.back)
  where
    whole : (b h l : ℕ) → h ≡ b / 16 → l ≡ b % 16 → h * 16 + l ≡ b
    whole b h l p q = omega arith

-- ---- comments

comments_of : (x : List ℕ) → 1 ≤ length x → comments x ≡ on_got (λ s. comment s) (hexes x)
unfolding comments
comments_of [] h = absurd (omega arith)
comments_of (c ∷ x) h = refl

alike_some : {r u : List ℕ} → Alike r u → 1 ≤ length r → 1 ≤ length u
alike_some both h = h
alike_some same h = omega arith

finish_comments : (c : ℕ) (t : List ℕ) (o : Read (List ℕ)) → FineHexes (c ∷ t) o → Finishes comments (c ∷ t) (on_got (λ s. comment s) o)
finish_comments c t (got s r) h = h.0
finish_comments c t (stuck r) h =
    record {
      w = h.w;
      split = h.split;
      more = h.more;
      line = comment h.line;
      good = comments_of (h.w ++ h.more) h.some ∙ ap (on_got (λ s. comment s)) h.good;
      alike = λ u k. comments_of (h.w ++ u) (long h.w u (ap length h.split) k) ∙ ap (on_got (λ s. comment s)) (h.alike u k);
    }
  where
    long : (w u : List ℕ) → length (c ∷ t) ≡ length (w ++ r) → Alike r u → 1 ≤ length (w ++ u)
    long [] u e k = alike_some k (omega arith)
    long (x ∷ w) u e k = omega arith

empty_alike : {u : List ℕ} → Alike [] u → comments u ≡ stuck u
unfolding comments
empty_alike both = refl

pub comments_alive : Alive (finish comments)
unfolding Alive comments
comments_alive = ((48 ∷ 48 ∷ [], (comment (0 ∷ []), ap (on_got (λ s. comment s)) zeros)), fine)
  where
    fine : (t : List ℕ) → Finishes comments t (comments t)
    fine [] = record {
      w = [];
      split = refl;
      more = 48 ∷ 48 ∷ [];
      line = comment (0 ∷ []);
      good =
          ap (on_got (λ s. comment s)) zeros;
      alike = λ u k. empty_alike k;
    }
    fine (c ∷ t) = finish_comments c t (hexes (c ∷ t)) (fine_hexes (c ∷ t))

got_comment : (c : ℕ) (t : List ℕ) (s : Stmt) (o : Read (List ℕ)) → FineHexes (c ∷ t) o → on_got (λ s. comment s) o ≡ got s []
    → (x : List ℕ) × ((s ≡ comment x) × HexIs x (c ∷ t))
got_comment c t s (got x r) h e = (x, (is e, h.1))
  where
    is : {a b : Stmt} {r q : List ℕ} → got a r ≡ got b q → b ≡ a
    is e = cc
got_comment c t s (stuck r) h e = clash (cc)

pub comment_line : (s : Stmt) (t : List ℕ) → Reads (finish comments) s t → Line s (codes ".comment " ++ t)
unfolding comments each
comment_line s [] (plans.finished e) = clash (cc)
comment_line s (c ∷ t) (plans.finished e) = on (got_comment c t s (hexes (c ∷ t)) (fine_hexes (c ∷ t)) e)
  where
    on : (x : List ℕ) × ((s ≡ comment x) × HexIs x (c ∷ t)) → Line s (codes ".comment " ++ (c ∷ t))
    on ([], (z, h)) = nothing h.text
      where
        nothing : c ∷ t ≡ each (λ b. hex_byte b) [] → Line s (codes ".comment " ++ (c ∷ t))
        nothing e = clash (cc)
    on (b ∷ x, (z, h)) =
        subst (λ y. Line y (codes ".comment " ++ (c ∷ t))) (sym z)
        (subst (λ y. Line (comment (b ∷ x)) (codes ".comment " ++ y)) (sym h.text) (reading.commented {s = b ∷ x} h.small))

pub line_comment : (b : ℕ) (s : List ℕ) → every (λ b. leb b 255) (b ∷ s) ≡ true
    → Reads (finish comments) (comment (b ∷ s)) (each (λ b. hex_byte b) (b ∷ s))
unfolding each
line_comment b s e = plans.finished (comments_of (each (λ b. hex_byte b) (b ∷ s)) long ∙ ap (on_got (λ s. comment s)) (hexes_all (b ∷ s) e))
  where
    long : 1 ≤ length (each (λ b. hex_byte b) (b ∷ s))
    long = omega arith
