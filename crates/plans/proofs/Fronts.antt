-- The plan of a list of words, as the reader goes: on behind the word that a text begins with, and stuck where it goes no further with
-- any. Assumes nothing.
use mathlib.Core.Path.{◌≡◌, refl, sym, ap, ◌∙◌, subst}
use mathlib.Core.Logic.{◌⊎◌, inl, inr}
use mathlib.Core.List.{List, [], ◌∷◌, ◌++◌}
use mathlib.Core.Option.{Option, none, some}
use mathlib.Core.Bool.{Bool, true, false, cond}
use Prim.Native.Nat.{ℕ, zero, suc, ◌≤◌}
use native.Mathlib.Omega.{arith}
use lib.Dec.{eqb}
use lib.ListN.{length, drop}
use borrow.Author.Tests.{eqb-true, eq-eqb}
use Rattle.laws.proofs.Tests.{true_false, false_true, and_true}
use Rattle.rules.specs.Programs.{Stmt, gone}
use Rattle.grammar.specs.Going.{Read, got, stuck}
use Rattle.plans.specs.Plans as plans
use Rattle.plans.specs.Plans.{Plan, done, fork, Walks}
use Rattle.plans.specs.Words.{Word, opening, closing, In, here, there, advance, end_of, some?, trie, clean, apart, each_first, fit}
use Rattle.plans.specs.Lines.{word_list, line_plan}
use Rattle.plans.specs.Fronts.{common, spelling, opens, Misses, Far}
use Rattle.plans.proofs.Worded.{put, some_in, in_some, advance_in, in_open, in_close, end_in, end_is, no_open, first_open, first_close, first_put, forked}
use Rattle.plans.proofs.Lined.{words_fit}

-- ---- behind a word, and at a word that is the line

abbrev Met : (x v : List ℕ) (P : Plan) → Word → (o : Read Stmt) (t : List ℕ) → Type 0
Met x v P (opening y Q) o t = (t ≡ y ++ v) × Walks Q v o
Met x v P (closing y r) o t = (t ≡ y) × (o ≡ got r [])

module _ (k : ℕ) (d : Stmt) (v : List ℕ) (o : Read Stmt)
    (ih : (ws : List Word) (w : Word) (t : List ℕ) → fit k ws ≡ true → In w ws → Met t v (done d) w o t → Walks (trie k d ws) t o) where
  fork_met : (vs : List Word) (w : Word) (t : List ℕ) → clean true vs ≡ true → each_first (fit k) vs vs ≡ true → In w vs
      → Met t v (done d) w o t → Walks (forked k d vs) t o
  fork_met vs (opening [] P) t c e i g = absurd (no_open P true vs c i)
  fork_met vs (opening (b ∷ x) P) t c e i (z, g) =
      subst (λ y. Walks (forked k d vs) y o) (sym z)
      (plans.Walks.steps (in_some (opening x P) (advance b vs) (in_open b x P vs i))
      (ih (advance b vs) (opening x P) (x ++ v) (first_open (fit k) vs b x P vs e i) (in_open b x P vs i) (refl, g)))
  fork_met vs (closing [] r) t c e i (z, q) =
      subst (λ y. Walks (forked k d vs) t y) (sym q)
      (subst (λ y. Walks (forked k d vs) y (got r [])) (sym z)
      (subst (λ y. Walks (fork y (λ c. some? (advance c vs)) (λ c. trie k d (advance c vs))) [] (got r [])) (sym (end_is r vs c i))
      plans.Walks.ended))
  fork_met vs (closing (b ∷ x) r) t c e i (z, q) =
      subst (λ y. Walks (forked k d vs) y o) (sym z)
      (plans.Walks.steps (in_some (closing x r) (advance b vs) (in_close b x r vs i))
      (ih (advance b vs) (closing x r) x (first_close (fit k) vs b x r vs e i) (in_close b x r vs i) (refl, q)))

met_walk : (k : ℕ) (d : Stmt) (v : List ℕ) (o : Read Stmt) (ws : List Word) (w : Word) (t : List ℕ) → fit k ws ≡ true → In w ws
    → Met t v (done d) w o t
    → Walks (trie k d ws) t o
unfolding fit trie
met_walk zero d v o ws w t e i g = false_true e
met_walk (suc k) d v o ws w t e i g = on ws w e i g (λ us u r f j h. met_walk k d v o us u r f j h)
  where
    on : (ws : List Word) (w : Word) → fit (suc k) ws ≡ true → In w ws → Met t v (done d) w o t
        → ((us : List Word) (u : Word) (r : List ℕ) → fit k us ≡ true → In u us → Met r v (done d) u o r → Walks (trie k d us) r o)
        → Walks (trie (suc k) d ws) t o
    on [] w e i g ih = false_true e
    on (opening [] P ∷ []) w e i g ih = only w i g
      where
        only : (w : Word) → In w (opening [] P ∷ []) → Met t v (done d) w o t → Walks P t o
        only w (there j) _ = elim j [ ]
        only w here (z, g) = subst (λ y. Walks P y o) (sym z) g
    on (opening [] P ∷ u ∷ ws) w e i g ih = false_true e
    on (opening (c ∷ x) P ∷ ws) w e i g ih =
        let h = and_true (apart (opening (c ∷ x) P ∷ ws)) (each_first (fit k) (opening (c ∷ x) P ∷ ws) (opening (c ∷ x) P ∷ ws)) e in
        fork_met k d v o ih (opening (c ∷ x) P ∷ ws) w t h.0 h.1 i g
    on (closing x q ∷ ws) w e i g ih =
        let h = and_true (apart (closing x q ∷ ws)) (each_first (fit k) (closing x q ∷ ws) (closing x q ∷ ws)) e in
        fork_met k d v o ih (closing x q ∷ ws) w t h.0 h.1 i g

-- ---- stuck

pub common_within : (x t : List ℕ) → common x t ≤ length t
unfolding common
common_within [] t = omega arith
common_within (c ∷ x) [] = omega arith
common_within (c ∷ x) (d ∷ t) = on (eqb c d) (common_within x t)
  where
    on : (b : Bool) → common x t ≤ length t → cond b (suc (common x t)) 0 ≤ suc (length t)
    on true h = omega arith
    on false h = omega arith

same_first : (c : ℕ) (x t : List ℕ) → common (c ∷ x) (c ∷ t) ≡ suc (common x t)
unfolding common
same_first c x t = rw (eq-eqb c c refl)

-- where a word and a text go on alike, their first bytes are the same
record Ahead (x : List ℕ) (b : ℕ) (t : List ℕ) (n : ℕ) : Type 0 where
  rest : List ℕ
  is : x ≡ b ∷ rest
  goes : common rest t ≡ n

ahead : (x : List ℕ) (b : ℕ) (t : List ℕ) (n : ℕ) → common x (b ∷ t) ≡ suc n → Ahead x b t n
unfolding common
ahead [] b t n e = absurd (omega arith)
ahead (c ∷ x) b t n e = on (eqb c b) refl e
  where
    on : (y : Bool) → eqb c b ≡ y → cond y (suc (common x t)) 0 ≡ suc n → Ahead (c ∷ x) b t n
    on true q e = record { rest = x; is = ap (λ y. y ∷ x) (eqb-true c b q); goes = omega arith }
    on false q e = absurd (omega arith)

put_spelling : (b : ℕ) (w : Word) → spelling (put b w) ≡ b ∷ spelling w
put_spelling b (opening x P) = refl
put_spelling b (closing x s) = refl

put_common : (b : ℕ) (w : Word) (t : List ℕ) → common (spelling (put b w)) (b ∷ t) ≡ suc (common (spelling w) t)
put_common b w t = ap (λ y. common y (b ∷ t)) (put_spelling b w) ∙ same_first b (spelling w) t

put_misses : (b : ℕ) (w : Word) (t : List ℕ) → Misses (opens (put b w)) (spelling (put b w)) (b ∷ t) → Misses (opens w) (spelling w) t
put_misses b (opening x P) t h = omega (arith, same_first b x t)
put_misses b (closing x s) t h = λ e. h (ap (λ y. b ∷ y) e)

-- a word that goes on with b is among those that do
some_ahead : (vs : List Word) (w : Word) (b : ℕ) (t : List ℕ) (n : ℕ) → In w vs → common (spelling w) (b ∷ t) ≡ suc n
    → (u : Word) × (In u (advance b vs) × (common (spelling u) t ≡ n))
some_ahead vs (opening x P) b t n i e =
    let a = ahead x b t n e in (opening a.rest P, (in_open b a.rest P vs (subst (λ y. In (opening y P) vs) a.is i), a.goes))
some_ahead vs (closing x s) b t n i e =
    let a = ahead x b t n e in (closing a.rest s, (in_close b a.rest s vs (subst (λ y. In (closing y s) vs) a.is i), a.goes))

module _ (k : ℕ) (d : Stmt) (ih : (ws : List Word) (t : List ℕ) (c : ℕ) → fit k ws ≡ true → Far ws t c
    → Walks (trie k d ws) t (stuck (drop c t))) where
  none_ends : (vs : List Word) (c : ℕ) → Far vs [] c → (x : Option Stmt) → end_of vs ≡ x
      → Walks (fork x (λ b. some? (advance b vs)) (λ b. trie k d (advance b vs))) [] (stuck (drop c []))
  none_ends vs c f none e = subst (λ y. Walks (fork none (λ b. some? (advance b vs)) (λ b. trie k d (advance b vs))) [] (stuck y))
      (sym (empty c)) plans.Walks.short
    where
      empty : (c : ℕ) → ◌≡◌ {A = List ℕ} (drop c []) []
      empty zero = refl
      empty (suc c) = refl
  none_ends vs c f (some s) e = absurd (f.misses (closing [] s) (end_in s vs e) refl)

  goes_far : (vs : List Word) (b : ℕ) (t : List ℕ) (c : ℕ) → Far vs (b ∷ t) (suc c) → Far (advance b vs) t c
  goes_far vs b t c f =
      record {
        misses = λ w i. put_misses b w t (f.misses (put b w) (advance_in b w vs i));
        most = λ w i. omega (arith, put_common b w t, f.most (put b w) (advance_in b w vs i));
        some = inr (at f.some);
      }
    where
      at : (suc c ≡ 0) ⊎ ((w : Word) × (In w vs × (common (spelling w) (b ∷ t) ≡ suc c)))
          → (w : Word) × (In w (advance b vs) × (common (spelling w) t ≡ c))
      at (inl e) = absurd (omega arith)
      at (inr (w, (i, e))) = some_ahead vs w b t c i e

  next_byte : (vs : List Word) (b : ℕ) (t : List ℕ) (c : ℕ) → each_first (fit k) vs vs ≡ true → Far vs (b ∷ t) c → (x : Bool)
      → some? (advance b vs) ≡ x → Walks (forked k d vs) (b ∷ t) (stuck (drop c (b ∷ t)))
  next_byte vs b t zero e f true q =
      let i = some_in (advance b vs) q in absurd (omega (arith, put_common b i.0 t, f.most (put b i.0) (advance_in b i.0 vs i.1)))
  next_byte vs b t (suc c) e f true q =
      let i = some_in (advance b vs) q in
      plans.Walks.steps q (ih (advance b vs) t c (first_put (fit k) vs b i.0 e (advance_in b i.0 vs i.1)) (goes_far vs b t c f))
  next_byte vs b t zero e f false q = plans.Walks.wrong q
  next_byte vs b t (suc c) e f false q = on (goes_far vs b t c f).some
    where
      on : (c ≡ 0) ⊎ ((w : Word) × (In w (advance b vs) × (common (spelling w) t ≡ c)))
          → Walks (forked k d vs) (b ∷ t) (stuck (drop (suc c) (b ∷ t)))
      on (inl e) = at f.some
        where
          at : (suc c ≡ 0) ⊎ ((w : Word) × (In w vs × (common (spelling w) (b ∷ t) ≡ suc c)))
              → Walks (forked k d vs) (b ∷ t) (stuck (drop (suc c) (b ∷ t)))
          at (inl e) = absurd (omega arith)
          at (inr (w, (i, e))) = let u = some_ahead vs w b t c i e in true_false (sym (in_some u.0 (advance b vs) u.1.0) ∙ q)
      on (inr (w, (i, e))) = true_false (sym (in_some w (advance b vs) i) ∙ q)

  fork_stuck : (vs : List Word) (t : List ℕ) (c : ℕ) → each_first (fit k) vs vs ≡ true → Far vs t c
      → Walks (forked k d vs) t (stuck (drop c t))
  fork_stuck vs [] c e f = none_ends vs c f (end_of vs) refl
  fork_stuck vs (b ∷ t) c e f = next_byte vs b t c e f (some? (advance b vs)) refl

far_stuck : (k : ℕ) (d : Stmt) (ws : List Word) (t : List ℕ) (c : ℕ) → fit k ws ≡ true → Far ws t c
    → Walks (trie k d ws) t (stuck (drop c t))
unfolding fit trie
far_stuck zero d ws t c e f = false_true e
far_stuck (suc k) d ws t c e f = on ws e f (λ us u r q g. far_stuck k d us u r q g)
  where
    on : (ws : List Word) → fit (suc k) ws ≡ true → Far ws t c
        → ((us : List Word) (t : List ℕ) (c : ℕ) → fit k us ≡ true → Far us t c → Walks (trie k d us) t (stuck (drop c t)))
        → Walks (trie (suc k) d ws) t (stuck (drop c t))
    on [] e f ih = false_true e
    on (opening [] P ∷ ws) e f ih = absurd (omega (arith, f.misses (opening [] P) here))
    on (opening (b ∷ x) P ∷ ws) e f ih =
        fork_stuck k d ih (opening (b ∷ x) P ∷ ws) t c
        (and_true (apart (opening (b ∷ x) P ∷ ws)) (each_first (fit k) (opening (b ∷ x) P ∷ ws) (opening (b ∷ x) P ∷ ws)) e).1 f
    on (closing x q ∷ ws) e f ih =
        fork_stuck k d ih (closing x q ∷ ws) t c
        (and_true (apart (closing x q ∷ ws)) (each_first (fit k) (closing x q ∷ ws) (closing x q ∷ ws)) e).1 f

-- ---- of lines

pub line_opens : (x : List ℕ) (P : Plan) (v : List ℕ) (o : Read Stmt) → In (opening x P) word_list → Walks P v o
    → Walks line_plan (x ++ v) o
unfolding line_plan
line_opens x P v o i g = met_walk 10 gone v o word_list (opening x P) (x ++ v) words_fit i (refl, g)

pub line_closes : (x : List ℕ) (s : Stmt) → In (closing x s) word_list → Walks line_plan x (got s [])
unfolding line_plan
line_closes x s i = met_walk 10 gone [] (got s []) word_list (closing x s) x words_fit i (refl, refl)

pub line_misses : (t : List ℕ) (c : ℕ) → Far word_list t c → Walks line_plan t (stuck (drop c t))
unfolding line_plan
line_misses t c f = far_stuck 10 gone word_list t c words_fit f
