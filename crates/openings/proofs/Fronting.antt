-- A line and a word, byte by byte; and a line and all words. Assumes nothing.
use mathlib.Core.Path.{◌≡◌, refl, sym, ap, ◌∙◌, subst}
use mathlib.Core.Logic.{◌⊎◌, inl, inr}
use mathlib.Core.List.{List, [], ◌∷◌, ◌++◌, append_assoc, append-nil}
use mathlib.Core.Bool.{Bool, true, false, ◌&&◌, cond}
use Prim.Native.Nat.{ℕ, suc, ◌+◌, ◌≤◌, ◌<◌}
use native.Mathlib.Numerals.{add-one}
use native.Mathlib.Omega.{arith}
use lib.Dec.{eqb, leb}
use lib.ListN.{length, take, drop, get_or, length-append, take-append-drop, drop_of_length-le}
use lib.Seq.{take-suc, drop-cons, drop-append-add, drop-append_seam, length-take-le}
use borrow.Author.Tests.{eqb-true, eqb-false, eq-eqb, ne_eqb, leb-true, leb-false}
use Rattle.laws.proofs.Tests.{true_false, false_true}
use Rattle.text.specs.Words.{said}
use Rattle.grammar.specs.Reading.{look}
use Rattle.plans.specs.Fronts.{common, spelling, opens, Matches, Misses}
use Rattle.openings.specs.declared.Front.{Front}
use Rattle.openings.specs.declared.Front.TheVariants.{Whole, Part}
use Rattle.openings.specs.Numbered.{word_at, tail_of, Spells}
use Rattle.openings.specs.Fronting.{ended, Meets, Fronted, FarTo}

common_append : (u x r : List ℕ) → common (u ++ x) (u ++ r) ≡ length u + common x r
unfolding common
common_append [] x r = omega arith
common_append (c ∷ u) x r = rw (eq-eqb c c refl) (omega (arith, common_append u x r))

no_space : (r : List ℕ) → eqb (look r) 32 ≡ false → common (32 ∷ []) r ≡ 0
unfolding common
no_space [] e = refl
no_space (c ∷ r) e = rw (ne_eqb 32 c (λ q. eqb-false c 32 e (sym q)))

zeros : (u r : List ℕ) → length u + common [] r ≡ length u
unfolding common
zeros u r = omega arith

-- a byte that is no space is said
shown : (c : ℕ) (z : List ℕ) → (c ≡ 32 → ⊥) → said (c ∷ z) ≡ c ∷ said z
unfolding said
shown c z n = rw (ne_eqb c 32 n)

shut : (z : List ℕ) → said (32 ∷ z) ≡ []
unfolding said
shut z = refl

shut_end : said [] ≡ []
unfolding said
shut_end = refl

none_left : (c : ℕ) (y : List ℕ) → common (c ∷ y) [] ≡ 0
unfolding common
none_left c y = refl

none_alike : (c d : ℕ) (y z : List ℕ) → (d ≡ c → ⊥) → common (c ∷ y) (d ∷ z) ≡ 0
unfolding common
none_alike c d y z n = rw (ne_eqb c d (λ e. n (sym e)))

-- the word u has ended, and r is left of the line
word_ends : (u r : List ℕ) (b : Bool) → Meets b (u ++ tail_of b) (u ++ r) (ended b (length u) r)
word_ends u r true = on (eqb (look r) 32) refl
  where
    spaced : (r : List ℕ) → eqb (look r) 32 ≡ true → Matches true (u ++ (32 ∷ [])) (u ++ r) (length u + 1)
    spaced [] e = false_true e
    spaced (c ∷ r) e = (
      omega (arith, length-append u (c ∷ r)),
      rw (drop-append-add u (c ∷ r) 1) (ap (λ y. u ++ (y ∷ r)) (eqb-true c 32 e) ∙ sym (append_assoc u (32 ∷ []) r)),
    )

    on : (y : Bool) → eqb (look r) 32 ≡ y → Meets true (u ++ (32 ∷ [])) (u ++ r) (cond y (Whole (length u + 1)) (Part (length u)))
    on true e = spaced r e
    on false e =
        let q : common (u ++ (32 ∷ [])) (u ++ r) ≡ length u + 0 = common_append u (32 ∷ []) r ∙ ap (λ y. length u + y) (no_space r e) in
        (omega (arith, length-append u (32 ∷ [])), omega arith)
word_ends u [] false = refl
word_ends u (c ∷ r) false = (λ e. longer (ap length e), common_append u [] (c ∷ r) ∙ zeros u (c ∷ r))
  where
    longer : length (u ++ (c ∷ r)) ≡ length (u ++ []) → ⊥
    longer e = omega (arith, length-append u (c ∷ r), length-append u [])

-- the word goes on with x, the line with r, and nothing of these is the same
word_parts : (u x r : List ℕ) (b : Bool) → common x r ≡ 0 → 1 ≤ length x → (r ≡ x → ⊥) → Meets b (u ++ x) (u ++ r) (Part (length u))
word_parts u x r true e h n =
    let q : common (u ++ x) (u ++ r) ≡ length u + 0 = common_append u x r ∙ ap (λ y. length u + y) e in
    (omega (arith, length-append u x), omega arith)
word_parts u x r false e h n =
    let q : common (u ++ x) (u ++ r) ≡ length u + 0 = common_append u x r ∙ ap (λ y. length u + y) e in
    (λ z. n (sym (drop-append_seam u r) ∙ ap (λ y. drop (length u) y) z ∙ drop-append_seam u x), omega arith)

-- ---- the word and the line are the same up to i, and the word has no space there

pub record Going (word s : List ℕ) (i : ℕ) : Type 0 where
  pub within : i ≤ length s
  pub fits : i ≤ length word
  pub same : take i word ≡ take i s
  pub says : (z : List ℕ) → said (take i word ++ z) ≡ take i word ++ said z

pub starts : (word s : List ℕ) → Going word s 0
starts word s = record { within = omega arith; fits = omega arith; same = refl; says = λ z. refl }

module _ (word s : List ℕ) (i : ℕ) (g : Going word s i) where
  size : length (take i word) ≡ i
  size = length-take-le i word g.fits

  line_is : s ≡ take i word ++ drop i s
  line_is = sym (take-append-drop i s) ∙ ap (λ y. y ++ drop i s) (sym g.same)

  said_is : said word ≡ take i word ++ said (drop i word)
  said_is = ap said (sym (take-append-drop i word)) ∙ g.says (drop i word)

  pub goes : i < length word → i < length s → (get_or word i 0 ≡ 32 → ⊥) → get_or s i 0 ≡ get_or word i 0 → Going word s (i + 1)
  goes h k n e =
      record {
        within = omega arith;
        fits = omega arith;
        same = rw (add-one i) (take-suc word i 0 h ∙ ap (λ y. y ++ (get_or word i 0 ∷ [])) g.same ∙ ap (λ y. take i s ++ (y ∷ [])) (sym e)
            ∙ sym (take-suc s i 0 k));
        says = λ z. rw (add-one i, take-suc word i 0 h) (more z);
      }
    where
      more : (z : List ℕ) → said ((take i word ++ (get_or word i 0 ∷ [])) ++ z) ≡ (take i word ++ (get_or word i 0 ∷ [])) ++ said z
      more z =
          ap said (append_assoc (take i word) (get_or word i 0 ∷ []) z) ∙ g.says (get_or word i 0 ∷ z)
          ∙ ap (λ y. take i word ++ y) (shown (get_or word i 0) z n)
          ∙ sym (append_assoc (take i word) (get_or word i 0 ∷ []) (said z))

  module _ (b : Bool) where
    ends_so : said (drop i word) ≡ [] → Fronted word b s (ended b i (drop i s))
    ends_so e =
        subst (λ y. Meets b (y ++ tail_of b) s (ended b i (drop i s))) (sym (said_is ∙ ap (λ y. take i word ++ y) e
        ∙ append-nil (take i word)))
        (subst (λ y. Meets b (take i word ++ tail_of b) y (ended b i (drop i s))) (sym line_is)
        (subst (λ n. Meets b (take i word ++ tail_of b) (take i word ++ drop i s) (ended b n (drop i s))) size
        (word_ends (take i word) (drop i s) b)))

    pub ends_space : i < length word → get_or word i 0 ≡ 32 → Fronted word b s (ended b i (drop i s))
    ends_space h e = ends_so (ap said (drop-cons word i 0 h) ∙ ap (λ y. said (y ∷ drop (suc i) word)) e ∙ shut (drop (suc i) word))

    pub ends_full : length word ≡ i → Fronted word b s (ended b i (drop i s))
    ends_full e = let h : length word ≤ i = omega arith in ends_so (ap said (drop_of_length-le word h) ∙ shut_end)

    -- the line goes on with r behind i
    parts_so : i < length word → (get_or word i 0 ≡ 32 → ⊥) → (r : List ℕ) → drop i s ≡ r
        → ((y : List ℕ) → (common (get_or word i 0 ∷ y) r ≡ 0) × (r ≡ get_or word i 0 ∷ y → ⊥)) → Fronted word b s (Part i)
    parts_so h n r e f =
        let c : ℕ = get_or word i 0 in
        let y : List ℕ = said (drop (suc i) word) ++ tail_of b in
        let q = f y in
        let w : said (drop i word) ≡ c ∷ said (drop (suc i) word) = ap said (drop-cons word i 0 h) ∙ shown c (drop (suc i) word) n in
        subst (λ x. Meets b x s (Part i)) (sym (ap (λ x. x ++ tail_of b) (said_is ∙ ap (λ x. take i word ++ x) w)
        ∙ append_assoc (take i word) (c ∷ said (drop (suc i) word)) (tail_of b)))
        (subst (λ x. Meets b (take i word ++ (c ∷ y)) x (Part i)) (sym (line_is ∙ ap (λ x. take i word ++ x) e))
        (subst (λ m. Meets b (take i word ++ (c ∷ y)) (take i word ++ r) (Part m)) size
        (word_parts (take i word) (c ∷ y) r b q.0 (omega arith) q.1)))

    pub parts_short : i < length word → (get_or word i 0 ≡ 32 → ⊥) → length s ≤ i → Fronted word b s (Part i)
    parts_short h n k = parts_so h n [] (drop_of_length-le s k) (λ y. (none_left (get_or word i 0) y, λ e. empty y (ap length e)))
      where
        empty : (y : List ℕ) → 0 ≡ suc (length y) → ⊥
        empty y e = omega arith

    pub parts_other : i < length word → (get_or word i 0 ≡ 32 → ⊥) → i < length s → (get_or s i 0 ≡ get_or word i 0 → ⊥)
        → Fronted word b s (Part i)
    parts_other h n k d = parts_so h n (get_or s i 0 ∷ drop (suc i) s) (drop-cons s i 0 k)
        (λ y. (none_alike (get_or word i 0) (get_or s i 0) y (drop (suc i) s) d, λ e. d (heads e)))
      where
        heads : {c d : ℕ} {y z : List ℕ} → c ∷ y ≡ d ∷ z → c ≡ d
        heads e = cc

-- ---- where a word ends

pub end_space : (b : Bool) (i c : ℕ) (r : List ℕ) → b ≡ true → c ≡ look r → c ≡ 32 → Whole (i + 1) ≡ ended b i r
end_space true i c r e l q = rw (eq-eqb (look r) 32 (sym l ∙ q))
end_space false i c r e l q = false_true e

pub end_none : (b : Bool) (i c : ℕ) (r : List ℕ) → b ≡ true → c ≡ look r → (c ≡ 32 → ⊥) → Part i ≡ ended b i r
end_none true i c r e l n = rw (ne_eqb (look r) 32 (λ q. n (l ∙ q)))
end_none false i c r e l n = false_true e

pub end_more : (b : Bool) (i : ℕ) (s : List ℕ) → b ≡ false → i < length s → Part i ≡ ended b i (drop i s)
end_more true i s e h = true_false e
end_more false i s e h = rw (drop-cons s i 0 h)

pub end_line : (b : Bool) (i : ℕ) (s : List ℕ) → b ≡ false → length s ≤ i → Whole i ≡ ended b i (drop i s)
end_line true i s e h = true_false e
end_line false i s e h = rw (drop_of_length-le s h)

-- ---- the words one by one

pub far_none : (t : List ℕ) → FarTo 0 t 0
far_none t = record { misses = λ i h. absurd (omega arith); most = λ i h. absurd (omega arith); some = inl refl }

pub far_more : (k : ℕ) (t : List ℕ) (c n : ℕ) → FarTo k t c → Misses (opens (word_at k)) (spelling (word_at k)) t
    → common (spelling (word_at k)) t ≡ n
    → FarTo (k + 1) t (cond (leb c n) n c)
far_more k t c n f m e =
    record {
      misses = λ i h. on_misses i (lt_or_eq i h);
      most = λ i h. on_most i (lt_or_eq i h) (leb c n) refl;
      some = on_some (leb c n) refl f.some;
    }
  where
    lt_or_eq : (i : ℕ) → i < k + 1 → (i < k) ⊎ (i ≡ k)
    lt_or_eq i h = on (eqb i k) refl
      where
        on : (b : Bool) → eqb i k ≡ b → (i < k) ⊎ (i ≡ k)
        on true q = inr (eqb-true i k q)
        on false q = inl (omega (arith, eqb-false i k q))

    on_misses : (i : ℕ) → (i < k) ⊎ (i ≡ k) → Misses (opens (word_at i)) (spelling (word_at i)) t
    on_misses i (inl h) = f.misses i h
    on_misses i (inr q) = subst (λ j. Misses (opens (word_at j)) (spelling (word_at j)) t) (sym q) m

    on_most : (i : ℕ) → (i < k) ⊎ (i ≡ k) → (b : Bool) → leb c n ≡ b → common (spelling (word_at i)) t ≤ cond b n c
    on_most i (inl h) true q = omega (arith, f.most i h, leb-true c n q)
    on_most i (inl h) false q = f.most i h
    on_most i (inr z) true q = omega (arith, ap (λ j. common (spelling (word_at j)) t) z, e)
    on_most i (inr z) false q = omega (arith, ap (λ j. common (spelling (word_at j)) t) z, e, leb-false c n q)

    on_some : (b : Bool) → leb c n ≡ b → (c ≡ 0) ⊎ ((i : ℕ) × ((i < k) × (common (spelling (word_at i)) t ≡ c)))
        → (cond b n c ≡ 0) ⊎ ((i : ℕ) × ((i < k + 1) × (common (spelling (word_at i)) t ≡ cond b n c)))
    on_some true q s = inr (k, (omega arith, e))
    on_some false q (inl z) = inl z
    on_some false q (inr (i, (h, z))) = inr (i, (omega arith, z))

-- ---- a row of the tables

pub row_meets : (i : ℕ) (word : List ℕ) (b : Bool) (s : List ℕ) (r q : Front) → Spells i word → b ≡ opens (word_at i) → Fronted word b s r
    → r ≡ q
    → Meets (opens (word_at i)) (spelling (word_at i)) s q
row_meets i word b s r q w e f z =
    subst (λ y. Meets (opens (word_at i)) (spelling (word_at i)) s y) z
    (subst (λ x. Meets (opens (word_at i)) x s r) (sym w.says) (subst (λ y. Meets y (said word ++ tail_of y) s r) e f))

-- ---- the first bytes of a local name

pub no_local : (c : ℕ) (s : List ℕ) → c ≡ look s → (c ≡ 46 → ⊥) → false ≡ eqb (look s) 46 && eqb (look (drop 1 s)) 108
no_local c s e n = rw (ne_eqb (look s) 46 (λ q. n (e ∙ q)))

pub maybe_local : (c d : ℕ) (s : List ℕ) → c ≡ look s → c ≡ 46 → d ≡ look (drop 1 s)
    → eqb d 108 ≡ eqb (look s) 46 && eqb (look (drop 1 s)) 108
maybe_local c d s e q z = rw (eq-eqb (look s) 46 (sym e ∙ q), ← z)

pub some_there : (s : List ℕ) (c : ℕ) → look s ≡ suc c → 1 ≤ length s
some_there [] c e = absurd (omega arith)
some_there (b ∷ s) c e = omega arith
