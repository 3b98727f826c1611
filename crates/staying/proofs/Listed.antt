-- "For each Jmpf and Callf that is left, and each branch that begins a pattern and was not folded, one line (75) a form or pattern tried."
use mathlib.Core.Path.{◌≡◌, refl, sym, ap, ◌∙◌}
use mathlib.Core.List.{List, [], ◌∷◌, ◌++◌, append_assoc, append-nil}
use mathlib.Core.Option.{some}
use mathlib.Core.Bool.{Bool, true, false}
use Prim.Native.Nat.{ℕ, zero, suc, ◌+◌, ◌*◌, ◌/◌, ◌%◌, ◌<◌}
use native.Mathlib.Omega.{arith}
use lib.Dec.{eqb}
use lib.ListN.{length}
use borrow.Author.Tests.{eq-eqb, eqb-true, eqb-false, lt-ltb}
use Rattle.laws.specs.Options.{given, bind}
use Rattle.laws.specs.Lists.{each}
use Rattle.laws.specs.Counts.{tab}
use Rattle.laws.proofs.Lists.{each_append, each_one}
use Rattle.rules.specs.declared.Settings.{Settings}
use Rattle.rules.specs.Forms.{jmp, br, call}
use Rattle.rules.specs.Programs.{Placeℕ, Program, at, Instruction, as_instr}
use Rattle.rules.specs.Judging.{names_of}
use Rattle.patterns.specs.Shapes.{Shape, shape_at}
use Rattle.staying.specs.declared.Reason.{Reason}
use Rattle.staying.specs.Reasons.{fold_reason, shrink_reason, Attempt, fold, shrink, longer, pattern, attempt_at, is_asked, attempted_at, Why, whys_in, whys}
use Rattle.staying.specs.Promise.{Stands, Listed}

-- what one of many adds stands among them
module _ {Y : Type 0} (f : ℕ → List Y) where
  abbrev Parted : (n m : ℕ) → Type 0
  Parted n m = (before : List Y) × (behind : List Y) × (each f (tab (λ i. i) n) ≡ before ++ (f m ++ behind))

  parted : (n m : ℕ) → m < n → Parted n m
  unfolding tab
  parted zero m l = absurd (omega arith)
  parted (suc n) m l = on (eqb m n) refl (parted n m)
    where
      all : each f (tab (λ i. i) n ++ (n ∷ [])) ≡ each f (tab (λ i. i) n) ++ f n
      all = each_append f (tab (λ i. i) n) (n ∷ []) ∙ ap (λ (x : List Y). each f (tab (λ i. i) n) ++ x) (each_one f n)

      later : Parted n m → Parted (suc n) m
      later h =
          (h.0, h.1 ++ f n, all ∙ ap (λ (x : List Y). x ++ f n) h.2 ∙ append_assoc h.0 (f m ++ h.1) (f n) ∙ ap (λ (x : List Y). h.0 ++ x) (append_assoc (f m) h.1 (f n)))

      on : (b : Bool) → eqb m n ≡ b → (m < n → Parted n m) → Parted (suc n) m
      on true e below =
          let z : m ≡ n = eqb-true m n e in
          (each f (tab (λ i. i) n), [], all ∙ ap (λ (k : ℕ). each f (tab (λ i. i) n) ++ f k) (sym z) ∙ ap (λ (x : List Y). each f (tab (λ i. i) n) ++ x) (sym (append-nil (f m))))
      on false e below = later (below (omega (arith, l, eqb-false m n e)))

module _ (asked : Settings) (p : Program) where
  -- attempt k at place i, if it has a reason
  line_of_lem : (i k : ℕ) (a : Attempt) (r : Reason) → i < length p → k < 26 → attempt_at k ≡ a → attempted_at asked (names_of p) p a i ≡ some r → Stands a i r (whys asked p)
  unfolding whys whys_in
  line_of_lem i k a r l m e d =
      let t = 26 * i + k in
      let place : t / 26 ≡ i = omega arith in
      let number : t % 26 ≡ k = omega arith in
      let h = parted (whys_in asked p) (26 * length p) t (omega arith) in
      let its : whys_in asked p t ≡ record { attempt = a; place = i; reason = r } ∷ [] = rw (place, number, e, d) in
      (h.0, h.1, h.2 ∙ ap (λ (x : List Why). h.0 ++ (x ++ h.1)) its)

  -- form f for an instruction that is as long as it asks
  shorter_of : (i : Placeℕ) (x : Instruction) (f : ℕ) → as_instr (at p i) ≡ some x → x.form ≡ longer f → is_asked asked (shrink f) ≡ true
      → attempted_at asked (names_of p) p (shrink f) i ≡ some (shrink_reason (names_of p) p i f x)
  unfolding attempted_at bind given
  shorter_of i x f e z on = rw (on, e, eq-eqb x.form (longer f) z)

  fold_of : (k : ℕ) (i : Placeℕ) (s : Shape) → shape_at p (pattern k) i ≡ some s → asked.folds ≡ true
      → attempted_at asked (names_of p) p (fold k) i ≡ some (fold_reason p i s)
  unfolding attempted_at bind given
  fold_of k i s e on = rw (on, e)

  fold_number : (k : ℕ) → k < 23 → attempt_at k ≡ fold k
  unfolding attempt_at
  fold_number k l = rw (lt-ltb k 23 l)

  br_number : attempt_at 23 ≡ shrink br
  unfolding attempt_at
  br_number = refl

  jmp_number : attempt_at 24 ≡ shrink jmp
  unfolding attempt_at
  jmp_number = refl

  call_number : attempt_at 25 ≡ shrink call
  unfolding attempt_at
  call_number = refl

-- listed: of every program, an end form among them
pub listed : (asked : Settings) (p : Program) → Listed asked p
listed asked p =
    record {
      jmpf_line = λ i x l e z. (
        line_of_lem asked p i 23 (shrink br) _ l (omega arith) (br_number asked p) (shorter_of asked p i x br e z refl),
        line_of_lem asked p i 24 (shrink jmp) _ l (omega arith) (jmp_number asked p) (shorter_of asked p i x jmp e z refl),
      );
      callf_line = λ i x l e z on. line_of_lem asked p i 25 (shrink call) _ l (omega arith) (call_number asked p) (shorter_of asked p i x call e z on);
      fold_line = λ k i s m l e on. line_of_lem asked p i k (fold k) _ l (omega arith) (fold_number asked p k m) (fold_of asked p k i s e on);
    }
