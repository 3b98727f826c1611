-- The plan of a list of words is right: its lines are those that begin with a word, and it is alive where what the words open is. Assumes
-- nothing.
use mathlib.Core.Path.{◌≡◌, refl, sym, ap, subst}
use mathlib.Core.Logic.{◌⊎◌, inl, inr}
use mathlib.Core.List.{List, [], ◌∷◌, ◌++◌}
use mathlib.Core.Option.{Option, none, some}
use mathlib.Core.Bool.{Bool, true, false}
use Prim.Native.Nat.{ℕ, zero, suc}
use lib.Dec.{eqb}
use borrow.Author.Tests.{eqb-true, eq-eqb}
use Rattle.laws.proofs.Tests.{clash, false_true, and_true}
use Rattle.rules.specs.Programs.{Stmt}
use Rattle.plans.specs.Plans as plans
use Rattle.plans.specs.Plans.{Plan, done, fork, Reads, Alive}
use Rattle.plans.specs.Words.{Word, opening, closing, Says, In, here, there, onto, advance, end_of, some?, trie, clean, apart, each_first, fit}

-- a word with a byte in front
abbrev pub put : ℕ → Word → Word
put c (opening x P) = opening (c ∷ x) P
put c (closing x s) = closing (c ∷ x) s

module _ {A : Type 0} where
  pub into : (b : Bool) (w v : A) (vs : List A) → In w (onto b v vs) → ((w ≡ v) × (b ≡ true)) ⊎ In w vs
  into true w v vs here = inl (refl, refl)
  into true w v vs (there i) = inr i
  into false w v vs i = inr i

  pub onto_same : (w : A) (b : Bool) (v : A) (vs : List A) → In w vs → In w (onto b v vs)
  onto_same w true v vs i = there i
  onto_same w false v vs i = i

  pub some_in : (vs : List A) → some? vs ≡ true → (w : A) × In w vs
  some_in [] e = false_true e
  some_in (w ∷ vs) e = (w, here)

  pub in_some : (w : A) (vs : List A) → In w vs → some? vs ≡ true
  in_some w [] i = elim i [ ]
  in_some w (v ∷ vs) i = refl

pub advance_in : (c : ℕ) (w : Word) (vs : List Word) → In w (advance c vs) → In (put c w) vs
unfolding advance
advance_in c w [] i = elim i [ ]
advance_in c w (opening [] P ∷ vs) i = there (advance_in c w vs i)
advance_in c w (opening (d ∷ x) P ∷ vs) i = on (into (eqb d c) w (opening x P) (advance c vs) i) (λ j. there (advance_in c w vs j))
  where
    on : ((w ≡ opening x P) × (eqb d c ≡ true)) ⊎ In w (advance c vs) → (In w (advance c vs) → In (put c w) (opening (d ∷ x) P ∷ vs))
        → In (put c w) (opening (d ∷ x) P ∷ vs)
    on (inl (e, q)) f =
        subst (λ y. In (put c y) (opening (d ∷ x) P ∷ vs)) (sym e)
        (subst (λ y. In (opening (y ∷ x) P) (opening (d ∷ x) P ∷ vs)) (eqb-true d c q) here)
    on (inr j) f = f j
advance_in c w (closing [] s ∷ vs) i = there (advance_in c w vs i)
advance_in c w (closing (d ∷ x) s ∷ vs) i = on (into (eqb d c) w (closing x s) (advance c vs) i) (λ j. there (advance_in c w vs j))
  where
    on : ((w ≡ closing x s) × (eqb d c ≡ true)) ⊎ In w (advance c vs) → (In w (advance c vs) → In (put c w) (closing (d ∷ x) s ∷ vs))
        → In (put c w) (closing (d ∷ x) s ∷ vs)
    on (inl (e, q)) f =
        subst (λ y. In (put c y) (closing (d ∷ x) s ∷ vs)) (sym e)
        (subst (λ y. In (closing (y ∷ x) s) (closing (d ∷ x) s ∷ vs)) (eqb-true d c q) here)
    on (inr j) f = f j

-- a word that goes on with c is among those that do
pub in_open : (c : ℕ) (x : List ℕ) (P : Plan) (vs : List Word) → In (opening (c ∷ x) P) vs → In (opening x P) (advance c vs)
unfolding advance
in_open c x P [] j = elim j [ ]
in_open c x P (opening (d ∷ y) Q ∷ vs) here = subst (λ b. In (opening x P) (onto b (opening x P) (advance c vs))) (sym (eq-eqb c c refl))
    here
in_open c x P (opening [] Q ∷ vs) (there i) = in_open c x P vs i
in_open c x P (opening (d ∷ y) Q ∷ vs) (there i) = onto_same (opening x P) (eqb d c) (opening y Q) (advance c vs) (in_open c x P vs i)
in_open c x P (closing [] s ∷ vs) (there i) = in_open c x P vs i
in_open c x P (closing (d ∷ y) s ∷ vs) (there i) = onto_same (opening x P) (eqb d c) (closing y s) (advance c vs) (in_open c x P vs i)

pub in_close : (c : ℕ) (x : List ℕ) (r : Stmt) (vs : List Word) → In (closing (c ∷ x) r) vs → In (closing x r) (advance c vs)
unfolding advance
in_close c x r [] j = elim j [ ]
in_close c x r (closing (d ∷ y) s ∷ vs) here = subst (λ b. In (closing x r) (onto b (closing x r) (advance c vs))) (sym (eq-eqb c c refl))
    here
in_close c x r (opening [] Q ∷ vs) (there i) = in_close c x r vs i
in_close c x r (opening (d ∷ y) Q ∷ vs) (there i) = onto_same (closing x r) (eqb d c) (opening y Q) (advance c vs) (in_close c x r vs i)
in_close c x r (closing [] s ∷ vs) (there i) = in_close c x r vs i
in_close c x r (closing (d ∷ y) s ∷ vs) (there i) = onto_same (closing x r) (eqb d c) (closing y s) (advance c vs) (in_close c x r vs i)

-- the word that ends here
pub end_in : (s : Stmt) (vs : List Word) → end_of vs ≡ some s → In (closing [] s) vs
unfolding end_of
end_in s [] e = clash (cc)
end_in s (opening x P ∷ vs) e = there (end_in s vs e)
end_in s (closing [] r ∷ vs) e = subst (λ y. In (closing [] s) (closing [] y ∷ vs)) (is s r e) here
  where
    is : (s r : Stmt) → some r ≡ some s → s ≡ r
    is s r e = cc
end_in s (closing (d ∷ x) r ∷ vs) e = there (end_in s vs e)

no_end : (s : Stmt) (vs : List Word) → clean false vs ≡ true → In (closing [] s) vs → ⊥
no_end s [] c i = elim i [ ]
no_end s (opening [] P ∷ vs) c (there i) = false_true c
no_end s (opening (d ∷ x) P ∷ vs) c (there i) = no_end s vs c i
no_end s (closing [] r ∷ vs) c i = false_true c
no_end s (closing (d ∷ x) r ∷ vs) c (there i) = no_end s vs c i

pub end_is : (s : Stmt) (vs : List Word) → clean true vs ≡ true → In (closing [] s) vs → end_of vs ≡ some s
unfolding end_of
end_is s [] c j = elim j [ ]
end_is s (opening [] P ∷ vs) c (there i) = false_true c
end_is s (opening (d ∷ x) P ∷ vs) c (there i) = end_is s vs c i
end_is s (closing [] r ∷ vs) c here = refl
end_is s (closing [] r ∷ vs) c (there i) = absurd (no_end s vs c i)
end_is s (closing (d ∷ x) r ∷ vs) c (there i) = end_is s vs c i

pub no_open : (P : Plan) (b : Bool) (vs : List Word) → clean b vs ≡ true → In (opening [] P) vs → ⊥
no_open P b [] c i = elim i [ ]
no_open P b (opening [] Q ∷ vs) c i = false_true c
no_open P b (opening (d ∷ x) Q ∷ vs) c (there i) = no_open P b vs c i
no_open P b (closing [] r ∷ vs) c (there i) = no_open P false vs (and_true b (clean false vs) c).1 i
no_open P b (closing (d ∷ x) r ∷ vs) c (there i) = no_open P b vs c i

-- each way to go on is told apart
pub first_open : (g : List Word → Bool) (us : List Word) (c : ℕ) (x : List ℕ) (P : Plan) (vs : List Word) → each_first g us vs ≡ true
    → In (opening (c ∷ x) P) vs
    → g (advance c us) ≡ true
first_open g us c x P [] e j = elim j [ ]
first_open g us c x P (opening [] Q ∷ vs) e (there i) = first_open g us c x P vs e i
first_open g us c x P (opening (d ∷ y) Q ∷ vs) e here = (and_true (g (advance c us)) (each_first g us vs) e).0
first_open g us c x P (opening (d ∷ y) Q ∷ vs) e (there i) = first_open g us c x P vs (and_true (g (advance d us)) (each_first g us vs) e).1
    i
first_open g us c x P (closing [] r ∷ vs) e (there i) = first_open g us c x P vs e i
first_open g us c x P (closing (d ∷ y) r ∷ vs) e (there i) = first_open g us c x P vs (and_true (g (advance d us)) (each_first g us vs) e).1
    i

pub first_close : (g : List Word → Bool) (us : List Word) (c : ℕ) (x : List ℕ) (s : Stmt) (vs : List Word) → each_first g us vs ≡ true
    → In (closing (c ∷ x) s) vs
    → g (advance c us) ≡ true
first_close g us c x s [] e j = elim j [ ]
first_close g us c x s (opening [] Q ∷ vs) e (there i) = first_close g us c x s vs e i
first_close g us c x s (opening (d ∷ y) Q ∷ vs) e (there i) = first_close g us c x s vs
    (and_true (g (advance d us)) (each_first g us vs) e).1 i
first_close g us c x s (closing [] r ∷ vs) e (there i) = first_close g us c x s vs e i
first_close g us c x s (closing (d ∷ y) r ∷ vs) e here = (and_true (g (advance c us)) (each_first g us vs) e).0
first_close g us c x s (closing (d ∷ y) r ∷ vs) e (there i) = first_close g us c x s vs
    (and_true (g (advance d us)) (each_first g us vs) e).1 i

pub first_put : (g : List Word → Bool) (us : List Word) (c : ℕ) (w : Word) → each_first g us us ≡ true → In (put c w) us
    → g (advance c us) ≡ true
first_put g us c (opening x P) e i = first_open g us c x P us e i
first_put g us c (closing x s) e i = first_close g us c x s us e i

says_put : (c : ℕ) (w : Word) (s : Stmt) (t : List ℕ) → Says w s t → Says (put c w) s (c ∷ t)
says_put c (opening x P) s t (v, (e, g)) = (v, (ap (λ y. c ∷ y) e, g))
says_put c (closing x r) s t (e, q) = (e, ap (λ y. c ∷ y) q)

-- ---- the fork of a list of words

abbrev pub forked : ℕ → Stmt → List Word → Plan
forked k d vs = fork (end_of vs) (λ c. some? (advance c vs)) (λ c. trie k d (advance c vs))

abbrev pub Step : (s : Stmt) (t : List ℕ) → Option Stmt → (ℕ → Bool) → (ℕ → Plan) → Type 0
Step s t end ok f = ((end ≡ some s) × (t ≡ [])) ⊎ ((c : ℕ) × ((v : List ℕ) × ((t ≡ c ∷ v) × ((ok c ≡ true) × Reads (f c) s v))))

pub fork_step : {end : Option Stmt} {ok : ℕ → Bool} {f : ℕ → Plan} {s : Stmt} {t : List ℕ} → Reads (fork end ok f) s t → Step s t end ok f
fork_step plans.ends = inl (refl, refl)
fork_step (plans.byte {c = c} {t = t} p g) = inr (c, (t, (refl, (p, g))))

unfoldable pub Found : List Word → Stmt → List ℕ → Type 0
Found ws s t = (w : Word) × (In w ws × Says w s t)

module _ (k : ℕ) (d : Stmt) (sound : (ws : List Word) (s : Stmt) (t : List ℕ) → fit k ws ≡ true → Reads (trie k d ws) s t → Found ws s t)
    (full : (ws : List Word) (w : Word) (s : Stmt) (t : List ℕ) → fit k ws ≡ true → In w ws → Says w s t → Reads (trie k d ws) s t) where
  fork_sound : (vs : List Word) (s : Stmt) (t : List ℕ) → each_first (fit k) vs vs ≡ true → Reads (forked k d vs) s t → Found vs s t
  unfolding Found
  fork_sound vs s t e g = on (fork_step g)
    where
      on : Step s t (end_of vs) (λ c. some? (advance c vs)) (λ c. trie k d (advance c vs)) → Found vs s t
      on (inl (q, z)) = (closing [] s, (end_in s vs q, (refl, z)))
      on (inr (c, (v, (z, (p, h))))) =
          let i = some_in (advance c vs) p in
          let m = sound (advance c vs) s v (first_put (fit k) vs c i.0 e (advance_in c i.0 vs i.1)) h in
          (put c m.0, (advance_in c m.0 vs m.1.0, subst (λ y. Says (put c m.0) s y) (sym z) (says_put c m.0 s v m.1.1)))

  fork_full : (vs : List Word) (w : Word) (s : Stmt) (t : List ℕ) → clean true vs ≡ true → each_first (fit k) vs vs ≡ true → In w vs
      → Says w s t → Reads (forked k d vs) s t
  fork_full vs (opening [] P) s t c e i g = absurd (no_open P true vs c i)
  fork_full vs (opening (b ∷ x) P) s t c e i (v, (z, g)) =
      subst (λ y. Reads (forked k d vs) s y) (sym z)
      (plans.byte (in_some (opening x P) (advance b vs) (in_open b x P vs i))
      (full (advance b vs) (opening x P) s (x ++ v) (first_open (fit k) vs b x P vs e i) (in_open b x P vs i) (v, (refl, g))))
  fork_full vs (closing [] r) s t c e i (q, z) =
      subst (λ y. Reads (forked k d vs) y t) (sym q)
      (subst (λ y. Reads (forked k d vs) r y) (sym z)
      (subst (λ y. Reads (fork y (λ c. some? (advance c vs)) (λ c. trie k d (advance c vs))) r []) (sym (end_is r vs c i)) plans.ends))
  fork_full vs (closing (b ∷ x) r) s t c e i (q, z) =
      subst (λ y. Reads (forked k d vs) s y) (sym z)
      (plans.byte (in_some (closing x r) (advance b vs) (in_close b x r vs i))
      (full (advance b vs) (closing x r) s x (first_close (fit k) vs b x r vs e i) (in_close b x r vs i) (q, refl)))

-- ---- the lines of the plan are those that begin with a word

-- both ways at once
pub record Right (k : ℕ) (d : Stmt) : Type 0 where
  pub sound : (ws : List Word) (s : Stmt) (t : List ℕ) → fit k ws ≡ true → Reads (trie k d ws) s t → Found ws s t
  pub full : (ws : List Word) (w : Word) (s : Stmt) (t : List ℕ) → fit k ws ≡ true → In w ws → Says w s t → Reads (trie k d ws) s t

pub trie_right : (k : ℕ) (d : Stmt) → Right k d
unfolding fit trie Found
trie_right zero d = record { sound = λ ws s t e g. false_true e; full = λ ws w s t e i g. false_true e }
trie_right (suc k) d = on (trie_right k d)
  where
    on : Right k d → Right (suc k) d
    on r = record { sound = sound; full = full }
      where
        sound : (ws : List Word) (s : Stmt) (t : List ℕ) → fit (suc k) ws ≡ true → Reads (trie (suc k) d ws) s t → Found ws s t
        sound [] s t e g = false_true e
        sound (opening [] P ∷ ws) s t e g = (opening [] P, (here, (t, (refl, g))))
        sound (opening (c ∷ x) P ∷ ws) s t e g =
            fork_sound k d r.sound r.full (opening (c ∷ x) P ∷ ws) s t
            (and_true (apart (opening (c ∷ x) P ∷ ws)) (each_first (fit k) (opening (c ∷ x) P ∷ ws) (opening (c ∷ x) P ∷ ws)) e).1 g
        sound (closing x q ∷ ws) s t e g =
            fork_sound k d r.sound r.full (closing x q ∷ ws) s t
            (and_true (apart (closing x q ∷ ws)) (each_first (fit k) (closing x q ∷ ws) (closing x q ∷ ws)) e).1 g

        full : (ws : List Word) (w : Word) (s : Stmt) (t : List ℕ) → fit (suc k) ws ≡ true → In w ws → Says w s t
            → Reads (trie (suc k) d ws) s t
        full [] w s t e i g = false_true e
        full (opening [] P ∷ []) w s t e i g = only w i g
          where
            only : (w : Word) → In w (opening [] P ∷ []) → Says w s t → Reads P s t
            only w (there j) _ = elim j [ ]
            only w here (v, (z, g)) = subst (λ y. Reads P s y) (sym z) g
        full (opening [] P ∷ v ∷ ws) w s t e i g = false_true e
        full (opening (c ∷ x) P ∷ ws) w s t e i g =
            let h = and_true (apart (opening (c ∷ x) P ∷ ws)) (each_first (fit k) (opening (c ∷ x) P ∷ ws) (opening (c ∷ x) P ∷ ws)) e in
            fork_full k d r.sound r.full (opening (c ∷ x) P ∷ ws) w s t h.0 h.1 i g
        full (closing x q ∷ ws) w s t e i g =
            let h = and_true (apart (closing x q ∷ ws)) (each_first (fit k) (closing x q ∷ ws) (closing x q ∷ ws)) e in
            fork_full k d r.sound r.full (closing x q ∷ ws) w s t h.0 h.1 i g

-- ---- alive

fork_alive : (end : Option Stmt) (ok : ℕ → Bool) (f : ℕ → Plan) → (end ≡ none → (c : ℕ) × (ok c ≡ true))
    → ((c : ℕ) → ok c ≡ true → Alive (f c)) → Alive (fork end ok f)
unfolding Alive
fork_alive none ok f h g = (h refl, g)
fork_alive (some s) ok f h g = g

-- where no word ends, some word goes on
goes_on : (vs : List Word) → clean true vs ≡ true → some? vs ≡ true → end_of vs ≡ none → (c : ℕ) × (some? (advance c vs) ≡ true)
unfolding end_of
goes_on [] c h e = false_true h
goes_on (opening [] P ∷ vs) c h e = false_true c
goes_on (opening (b ∷ x) P ∷ vs) c h e = (
  b,
  in_some (opening x P) (advance b (opening (b ∷ x) P ∷ vs))
      (in_open b x P (opening (b ∷ x) P ∷ vs) here),
)
goes_on (closing [] s ∷ vs) c h e = clash (cc)
goes_on (closing (b ∷ x) s ∷ vs) c h e = (
  b,
  in_some (closing x s) (advance b (closing (b ∷ x) s ∷ vs))
      (in_close b x s (closing (b ∷ x) s ∷ vs) here),
)

pub trie_alive : (k : ℕ) (d : Stmt) (ws : List Word) → fit k ws ≡ true → ((x : List ℕ) (P : Plan) → In (opening x P) ws → Alive P)
    → Alive (trie k d ws)
unfolding fit trie
trie_alive zero d ws e a = false_true e
trie_alive (suc k) d ws e a = on ws e a (λ vs h f. trie_alive k d vs h f)
  where
    forks : (vs : List Word) → clean true vs ≡ true → some? vs ≡ true → each_first (fit k) vs vs ≡ true
        → ((x : List ℕ) (P : Plan) → In (opening x P) vs → Alive P)
        → ((us : List Word) → fit k us ≡ true → ((x : List ℕ) (P : Plan) → In (opening x P) us → Alive P) → Alive (trie k d us))
        → Alive (forked k d vs)
    forks vs c s f a ih =
        fork_alive (end_of vs) (λ c. some? (advance c vs)) (λ c. trie k d (advance c vs)) (goes_on vs c s)
        (λ b q.
        let i = some_in (advance b vs) q in
        ih (advance b vs) (first_put (fit k) vs b i.0 f (advance_in b i.0 vs i.1)) (λ x P j. a (b ∷ x) P (advance_in b (opening x P) vs j)))

    on : (ws : List Word) → fit (suc k) ws ≡ true → ((x : List ℕ) (P : Plan) → In (opening x P) ws → Alive P)
        → ((us : List Word) → fit k us ≡ true → ((x : List ℕ) (P : Plan) → In (opening x P) us → Alive P) → Alive (trie k d us))
        → Alive (trie (suc k) d ws)
    on [] e a ih = false_true e
    on (opening [] P ∷ ws) e a ih = a [] P here
    on (opening (c ∷ x) P ∷ ws) e a ih =
        let h = and_true (apart (opening (c ∷ x) P ∷ ws)) (each_first (fit k) (opening (c ∷ x) P ∷ ws) (opening (c ∷ x) P ∷ ws)) e in
        forks (opening (c ∷ x) P ∷ ws) h.0 refl h.1 a ih
    on (closing x q ∷ ws) e a ih =
        let h = and_true (apart (closing x q ∷ ws)) (each_first (fit k) (closing x q ∷ ws) (closing x q ∷ ws)) e in
        forks (closing x q ∷ ws) h.0 refl h.1 a ih
