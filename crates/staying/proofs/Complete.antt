-- "At the end form every candidate has such a reason, so the list is complete": no rewrite remains exactly where no line says that one counts.
use mathlib.Core.Path.{◌≡◌, refl, sym, ◌∙◌, ap, ap₂}
use mathlib.Core.List.{List, [], ◌∷◌}
use mathlib.Core.Option.{Option, none, some}
use mathlib.Core.Bool.{Bool, true, false, ◌&&◌, cond}
use Prim.Native.Nat.{ℕ, ◌+◌, ◌*◌, ◌/◌, ◌%◌, ◌<◌}
use native.Mathlib.Omega.{arith}
use lib.Dec.{ltb, eqb}
use lib.ListN.{length}
use borrow.Author.Tests.{ltb-true, lt-ltb}
use Rattle.laws.specs.Options.{first_of}
use Rattle.laws.specs.Lists.{every, each}
use Rattle.laws.specs.Counts.{tab}
use Rattle.laws.proofs.Options.{or_else_none, or_else_second, first_of_none, first_of_empty, first_from_none, first_from_empty}
use Rattle.laws.proofs.Lists.{every_append, every_at, every_all}
use Rattle.laws.proofs.Counts.{length_tab, get_or_tab}
use Rattle.rules.specs.declared.Settings.{Settings}
use Rattle.rules.specs.Forms.{jmp, br, call}
use Rattle.rules.specs.Programs.{Placeℕ, Program}
use Rattle.rules.specs.Judging.{names_of}
use Rattle.rules.specs.Rewriting.{Pattern, trampoline, patterns, patterns_for, pattern_at, shrink_at, anywhere, step}
use Rattle.staying.specs.declared.Reason.{Reason}
use Rattle.staying.specs.Reasons.{Attempt, fold, shrink, attempt_at, pattern, attempted_at, Why, why_of, reason_in, whys_in, whys}
use Rattle.staying.specs.Promise.{is_reason, all_stay, Complete}
use Rattle.patterns.proofs.Begins.{begins}
use Rattle.staying.proofs.Stays.{stays, fold_stays, stays_fold, br_stays, jmp_stays, call_stays, stay_shrinks}

-- ---- lists
every_each : {X Y : Type 0} (g : Y → Bool) (f : X → List Y) (l : List X) → every g (each f l) ≡ every (λ x. every g (f x)) l
unfolding every each
every_each g f [] = refl
every_each g f (x ∷ l) = every_append g (f x) (each f l) ∙ ap (λ (b : Bool). every g (f x) && b) (every_each g f l)

module _ {A : Type 0} (f : A → Bool) (F : ℕ → A) where
  every_tab : (n : ℕ) → ((i : ℕ) → i < n → f (F i) ≡ true) → every f (tab F n) ≡ true
  every_tab n h = every_all f (tab F n) (F 0) (λ i l. let m : i < n = omega (arith, l, length_tab F n) in ap f (get_or_tab F n i (F 0) m) ∙ h i m)

  tab_every : (n : ℕ) → every f (tab F n) ≡ true → (i : ℕ) → i < n → f (F i) ≡ true
  tab_every n h i l = sym (ap f (get_or_tab F n i (F 0) l)) ∙ every_at f (tab F n) i (F 0) (omega (arith, length_tab F n)) h

and_one : (b : Bool) → b && true ≡ b
and_one true = refl
and_one false = refl

-- ---- a line, the lines of a place, all lines
abbrev test : Why → Bool
test w = is_reason w.reason

one : (a : Attempt) (i : Placeℕ) (o : Option Reason) → every test (why_of a i o) ≡ stays o
unfolding every
one a i none = refl
one a i (some r) = and_one (is_reason r)

all_patterns : length patterns ≡ 23
all_patterns = refl

module _ (asked : Settings) (p : Program) where
  -- ---- at no place, and at each none
  nowhere : (f : Placeℕ → Option Program) → anywhere f p ≡ none → (i : Placeℕ) → i < length p → f i ≡ none
  unfolding anywhere
  nowhere f e i l = first_from_none f (length p) 0 e i (omega arith) (omega arith)

  everywhere : (f : Placeℕ → Option Program) → ((i : Placeℕ) → i < length p → f i ≡ none) → anywhere f p ≡ none
  unfolding anywhere
  everywhere f h = first_from_empty f (length p) 0 (λ i a b. h i (omega arith))

  abbrev Stays : Attempt → (i : Placeℕ) → Type 0
  Stays a i = stays (attempted_at asked (names_of p) p a i) ≡ true

  by_attempts : ((i : Placeℕ) → i < length p → (k : ℕ) → Stays (attempt_at k) i) → all_stay asked p ≡ true
  unfolding all_stay whys whys_in
  by_attempts h =
      every_each test (whys_in asked p) (tab (λ m. m) (26 * length p))
      ∙ every_tab (λ m. every test (whys_in asked p m)) (λ m. m) (26 * length p)
      (λ m l. one (attempt_at (m % 26)) (m / 26) (reason_in asked p m) ∙ h (m / 26) (omega arith) (m % 26))

  attempts_stay : all_stay asked p ≡ true → (i : Placeℕ) → i < length p → (k : ℕ) → k < 26 → Stays (attempt_at k) i
  unfolding all_stay whys whys_in
  attempts_stay h i l k m =
      let t = 26 * i + k in
      let place : t / 26 ≡ i = omega arith in
      let number : t % 26 ≡ k = omega arith in
      ap₂ (λ (a b : ℕ). stays (attempted_at asked (names_of p) p (attempt_at a) b)) (sym number) (sym place)
      ∙ sym (one (attempt_at (t % 26)) (t / 26) (reason_in asked p t))
      ∙ tab_every (λ m. every test (whys_in asked p m)) (λ m. m) (26 * length p)
      (sym (every_each test (whys_in asked p) (tab (λ m. m) (26 * length p))) ∙ h) t (omega arith)

  -- ---- the attempts one by one
  by_number : (P : Attempt → Type 0) → ((k : ℕ) → k < 23 → P (fold k)) → P (shrink br) → P (shrink jmp) → P (shrink call) → (k : ℕ) → P (attempt_at k)
  unfolding attempt_at
  by_number P folds b j l k = on (ltb k 23) refl (eqb k 23) (eqb k 24)
    where
      on : (u : Bool) → ltb k 23 ≡ u → (v w : Bool) → P (cond u (fold k) (cond v (shrink br) (cond w (shrink jmp) (shrink call))))
      on true e v w = folds k (ltb-true k 23 e)
      on false e true w = b
      on false e false true = j
      on false e false false = l

  fold_number : (k : ℕ) → k < 23 → attempt_at k ≡ fold k
  unfolding attempt_at
  fold_number k l = rw (lt-ltb k 23 l)

  abbrev folding : Pattern → Option Program
  folding x = anywhere (pattern_at p x) p

  -- ---- where no rewrite remains, each attempt has a reason
  reasoned : step asked p ≡ none → all_stay asked p ≡ true
  unfolding step
  reasoned e = by_attempts (λ i l k. by_number (λ a. Stays a i) (folds i l) (br_stays asked (names_of p) p i (shrinks i l)) (jmp_stays asked (names_of p) p i (shrinks i l)) (call_stays asked (names_of p) p i (shrinks i l)) k)
    where
      parts : (first_of folding (patterns_for asked) ≡ none) × (anywhere (shrink_at asked (names_of p) p) p ≡ none)
      parts = or_else_none (first_of folding (patterns_for asked)) (anywhere (shrink_at asked (names_of p) p) p) e

      shrinks : (i : Placeℕ) → i < length p → shrink_at asked (names_of p) p i ≡ none
      shrinks i l = nowhere (shrink_at asked (names_of p) p) parts.1 i l

      folds : (i : Placeℕ) → i < length p → (k : ℕ) → k < 23 → Stays (fold k) i
      folds i l k m = fold_stays asked (names_of p) p k i (λ on. nowhere (pattern_at p (pattern k)) (first_of_none folding patterns (trampoline 0) (sym (ap (λ (b : Bool). first_of folding (cond b patterns [])) on) ∙ parts.0) k (omega (arith, m, all_patterns))) i l)

  -- ---- and where each has one, no rewrite remains
  nothing_else : all_stay asked p ≡ true → step asked p ≡ none
  unfolding step attempt_at
  nothing_else h =
      or_else_second (first_of folding (patterns_for asked)) (anywhere (shrink_at asked (names_of p) p) p) (on asked.folds refl)
      ∙ everywhere (shrink_at asked (names_of p) p) (λ i l. stay_shrinks asked (names_of p) p i (stay i l 23 (omega arith)) (stay i l 24 (omega arith)) (stay i l 25 (omega arith)))
    where
      stay : (i : Placeℕ) → i < length p → (k : ℕ) → k < 26 → Stays (attempt_at k) i
      stay i l k m = attempts_stay h i l k m

      on : (b : Bool) → asked.folds ≡ b → first_of folding (cond b patterns []) ≡ none
      on false e = first_of_empty folding [] (trampoline 0) (λ k m. absurd (omega arith))
      on true e =
          first_of_empty folding patterns (trampoline 0) (λ k m.
          everywhere (pattern_at p (pattern k)) (λ i l.
          let n : k < 23 = omega (arith, m, all_patterns) in
          stays_fold asked (names_of p) p k i e (sym (ap (λ (a : Attempt). stays (attempted_at asked (names_of p) p a i)) (fold_number k n)) ∙ stay i l k (omega arith))))

pub complete : (asked : Settings) (p : Program) → Complete asked p
complete asked p = record { reasoned = reasoned asked p; nothing_else = nothing_else asked p; begins = begins p }
