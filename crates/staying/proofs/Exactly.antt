-- Each reason's kind is the true one, and there is no line more than what was tried and left.
use mathlib.Core.Path.{◌≡◌, refl, sym, ap, ◌∙◌, subst}
use mathlib.Core.List.{List, [], ◌∷◌, ◌++◌}
use mathlib.Core.Option.{Option, none, some}
use mathlib.Core.Bool.{Bool, true, false, ◌&&◌, not, cond}
use Prim.Native.Nat.{ℕ, zero, suc, ◌+◌, ◌*◌, ◌/◌, ◌%◌, ◌≤◌, ◌<◌}
use native.Mathlib.Omega.{arith}
use lib.Dec.{T, eqb, ltb}
use lib.ListN.{length, get_or}
use borrow.Author.Tests.{eqb-true, ltb-true, eq-eqb}
use Rattle.laws.specs.Options.{given}
use Rattle.laws.specs.Lists.{total, each}
use Rattle.laws.specs.Counts.{tab, all_to}
use Rattle.laws.proofs.Options.{given_some, bind_some}
use Rattle.laws.proofs.Lists.{total_append, each_append, each_one}
use Rattle.laws.proofs.Tests.{clash, and_true, true_false}
use Rattle.rules.specs.declared.Settings.{Settings}
use Rattle.rules.specs.Answers.{Judged, ok, no}
use Rattle.rules.specs.Forms.{jmp, br, call}
use Rattle.rules.specs.Programs.{Placeℕ, Program, at, Instruction, as_instr}
use Rattle.rules.specs.Layout.{size_in}
use Rattle.rules.specs.Judging.{names_of, judge}
use Rattle.rules.specs.Rewriting.{is_change_jump, every_inner_label, no_inner_label_between, no_interior_label_at}
use Rattle.instruction.proofs.Entries.{holds_at}
use Rattle.patterns.specs.Shapes.{Shape, shape_at}
use Rattle.staying.specs.declared.Reason.{Reason}
use Rattle.staying.specs.declared.Reason.TheVariants.{Counts, Change, Inside, Between, Beyond, Refused}
use Rattle.staying.specs.Reasons.{by_verdict, reason_of, fold_reason, shrink_reason, Attempt, fold, shrink, pattern, attempt_at, is_asked, longer, reason_at, attempted_at}
use Rattle.staying.specs.Reasons.{Why, why_of, reason_in, whys_in, whys}
use Rattle.staying.specs.Lines.{attempt_byte}
use Rattle.staying.specs.Exactly.{OfCandidate, OfFold, shorter, OfShrink, Due, Exactly}

-- ---- the kind
candidate_true : (q : Program) → OfCandidate q (reason_of q)
unfolding reason_of
candidate_true q = on (judge q) refl (every_inner_label (λ owner o. ltb o (size_in q owner)) q) refl
  where
    on : (x : Judged (List ℕ)) → judge q ≡ x → (b : Bool) → every_inner_label (λ owner o. ltb o (size_in q owner)) q ≡ b → OfCandidate q (by_verdict b x)
    on (ok image) e true f = ((image, e), f)
    on (ok image) e false f = ((image, e), f)
    on (no r) e b f = e

fold_true : (p : Program) (i : Placeℕ) (s : Shape) → OfFold p i s (fold_reason p i s)
unfolding fold_reason
fold_true p i s = on (no_inner_label_between p i s.last) refl (no_interior_label_at p i) refl
  where
    whole : no_inner_label_between p i s.last ≡ true → no_interior_label_at p i ≡ true → (r : Reason) → OfCandidate s.folded r → OfFold p i s r
    whole b n Counts h = (b, n, h)
    whole b n Change h = absurd h
    whole b n Inside h = absurd h
    whole b n Between h = absurd h
    whole b n Beyond h = (b, n, h)
    whole b n (Refused r) h = (b, n, h)

    on : (b : Bool) → no_inner_label_between p i s.last ≡ b → (n : Bool) → no_interior_label_at p i ≡ n → OfFold p i s (cond b (cond n (reason_of s.folded) Inside) Between)
    on false e n f = e
    on true e false f = (e, f)
    on true e true f = whole e f (reason_of s.folded) (candidate_true s.folded)

shrink_true : (p : Program) (i : Placeℕ) (f : ℕ) (x : Instruction) → OfShrink p i f x (shrink_reason (names_of p) p i f x)
unfolding shrink_reason
shrink_true p i f x = on (is_change_jump (names_of p) p i) refl (no_interior_label_at p i) refl
  where
    whole : is_change_jump (names_of p) p i ≡ false → no_interior_label_at p i ≡ true → (r : Reason) → OfCandidate (shorter p i f x) r → OfShrink p i f x r
    whole b n Counts h = (b, n, h)
    whole b n Change h = absurd h
    whole b n Inside h = absurd h
    whole b n Between h = absurd h
    whole b n Beyond h = (b, n, h)
    whole b n (Refused r) h = (b, n, h)

    on : (b : Bool) → is_change_jump (names_of p) p i ≡ b → (n : Bool) → no_interior_label_at p i ≡ n
        → OfShrink p i f x (cond b Change (cond n (reason_of (shorter p i f x)) Inside))
    on true e n h = e
    on false e false h = (e, h)
    on false e true h = whole e h (reason_of (shorter p i f x)) (candidate_true (shorter p i f x))

-- ---- no line more
fold_low : (m k : ℕ) → attempt_at m ≡ fold k → k < 23
unfolding attempt_at
fold_low m k e = on (ltb m 23) refl e
  where
    last : (b c : Bool) → cond b (shrink br) (cond c (shrink jmp) (shrink call)) ≡ fold k → k < 23
    last true c z = clash (cc)
    last false true z = clash (cc)
    last false false z = clash (cc)

    on : (b : Bool) → ltb m 23 ≡ b → cond b (fold m) (cond (eqb m 23) (shrink br) (cond (eqb m 24) (shrink jmp) (shrink call))) ≡ fold k → k < 23
    on true h z = let y : m ≡ k = cc in omega (arith, ltb-true m 23 h)
    on false h z = last (eqb m 23) (eqb m 24) z

-- no two attempts have one byte
true_is : (b : Bool) → b ≡ true → T b
true_is true e = tt
true_is false e = true_false (sym e)

other_bytes : (j k : ℕ) → Bool
other_bytes j k = cond (eqb j k) true (not (eqb (attempt_byte (attempt_at j)) (attempt_byte (attempt_at k))))

one_byte : (j k : ℕ) → j < 26 → k < 26 → attempt_byte (attempt_at j) ≡ attempt_byte (attempt_at k) → j ≡ k
unfolding all_to attempt_at other_bytes
one_byte j k l m e = on (eqb j k) refl (holds_at (λ x. other_bytes j x) 26 (row j l) k m)
  where
    row : (j : ℕ) → j < 26 → T (all_to (λ x. other_bytes j x) 26)
    row j l = true_is (all_to (λ x. other_bytes j x) 26) (holds_at (λ y. all_to (λ x. other_bytes y x) 26) 26 tt j l)

    on : (b : Bool) → eqb j k ≡ b → other_bytes j k ≡ true → j ≡ k
    on true z h = eqb-true j k z
    on false z h =
        let test : Bool = not (eqb (attempt_byte (attempt_at j)) (attempt_byte (attempt_at k))) in
        true_false (sym h ∙ ap (λ (b : Bool). cond b true test) z ∙ ap not (eq-eqb (attempt_byte (attempt_at j)) (attempt_byte (attempt_at k)) e))

module _ (asked : Settings) (p : Program) where
  is_due : (a : Attempt) (i : Placeℕ) (r : Reason) → ((k : ℕ) → a ≡ fold k → k < 23) → attempted_at asked (names_of p) p a i ≡ some r → Due asked p i r a
  unfolding attempted_at
  is_due (fold k) i r low e =
      let g = given_some asked.folds (reason_at (names_of p) p (fold k) i) r e in
      let b = bind_some (shape_at p (pattern k) i) (λ s. some (fold_reason p i s)) r g.1 in
      let z = b.2 in
      let y : fold_reason p i b.0 ≡ r = cc in
      (low k refl, g.0, (b.0, b.1, subst (OfFold p i b.0) y (fold_true p i b.0)))
  is_due (shrink f) i r low e =
      let g = given_some (is_asked asked (shrink f)) (reason_at (names_of p) p (shrink f) i) r e in
      let b = bind_some (as_instr (at p i)) (λ x. given (eqb x.form (longer f)) (some (shrink_reason (names_of p) p i f x))) r g.1 in
      let h = given_some (eqb b.0.form (longer f)) (some (shrink_reason (names_of p) p i f b.0)) r b.2 in
      let z = h.1 in
      let y : shrink_reason (names_of p) p i f b.0 ≡ r = cc in
      (g.0, (b.0, b.1, eqb-true b.0.form (longer f) h.0, subst (OfShrink p i f b.0) y (shrink_true p i f b.0)))

  abbrev Right : Why → Type 0
  Right w = (w.place < length p) × Due asked p w.place w.reason w.attempt

  abbrev AllRight : List Why → Type 0
  AllRight [] = Unit
  AllRight (w ∷ ws) = Right w × AllRight ws

  one_try : (m : ℕ) → m < 26 * length p → AllRight (whys_in asked p m)
  unfolding whys_in
  one_try m l = on (reason_in asked p m) refl
    where
      on : (o : Option Reason) → reason_in asked p m ≡ o → AllRight (why_of (attempt_at (m % 26)) (m / 26) o)
      on none e = tt
      on (some r) e = ((omega arith, is_due (attempt_at (m % 26)) (m / 26) r (fold_low (m % 26)) e), tt)

  all_append : (xs ys : List Why) → AllRight xs → AllRight ys → AllRight (xs ++ ys)
  all_append [] ys h k = k
  all_append (x ∷ xs) ys h k = (h.0, all_append xs ys h.1 k)

  tries : (n : ℕ) → each (whys_in asked p) (tab (λ i. i) (suc n)) ≡ each (whys_in asked p) (tab (λ i. i) n) ++ whys_in asked p n
  unfolding tab
  tries n = each_append (whys_in asked p) (tab (λ i. i) n) (n ∷ []) ∙ ap (λ (x : List Why). each (whys_in asked p) (tab (λ i. i) n) ++ x) (each_one (whys_in asked p) n)

  all_tries : (n : ℕ) → n ≤ 26 * length p → AllRight (each (whys_in asked p) (tab (λ i. i) n))
  unfolding tab each
  all_tries zero l = tt
  all_tries (suc n) l = subst AllRight (sym (tries n)) (all_append (each (whys_in asked p) (tab (λ i. i) n)) (whys_in asked p n) (all_tries n (omega arith)) (one_try n (omega arith)))

  right_at : (ws : List Why) → AllRight ws → (k : ℕ) (d : Why) → k < length ws → Right (get_or ws k d)
  right_at [] h k d l = absurd (omega arith)
  right_at (w ∷ ws) h zero d l = h.0
  right_at (w ∷ ws) h (suc k) d l = right_at ws h.1 k d (omega arith)

  -- ---- no two of one attempt at one place
  module _ (a : ℕ) (i : Placeℕ) where
    abbrev of : Why → ℕ
    of w = cond (eqb (attempt_byte w.attempt) a && eqb w.place i) 1 0

    abbrev its : (m : ℕ) → Bool
    its m = eqb (attempt_byte (attempt_at (m % 26))) a && eqb (m / 26) i

    few_of : (m : ℕ) → total of (whys_in asked p m) ≤ cond (its m) 1 0
    unfolding whys_in total
    few_of m = on (reason_in asked p m) (its m) refl
      where
        on : (o : Option Reason) (b : Bool) → its m ≡ b → total of (why_of (attempt_at (m % 26)) (m / 26) o) ≤ cond b 1 0
        on none b e = omega arith
        on (some r) b e = rw e (omega arith)

    none_of : (m : ℕ) → its m ≡ false → total of (whys_in asked p m) ≡ 0
    none_of m e = let h = few_of m in let z : ◌≡◌ {A = ℕ} (cond (its m) 1 0) 0 = ap (λ (b : Bool). cond b 1 0) e in omega arith

    at_most : (m : ℕ) → total of (whys_in asked p m) ≤ 1
    at_most m = let h = few_of m in omega (arith, one (its m))
      where
        one : (b : Bool) → cond b 1 0 ≤ 1
        one true = omega arith
        one false = omega arith

    none_below : (n : ℕ) → ((m : ℕ) → m < n → its m ≡ false) → total of (each (whys_in asked p) (tab (λ j. j) n)) ≡ 0
    unfolding tab each total
    none_below zero h = refl
    none_below (suc n) h =
        let s = ap (total of) (tries n) ∙ total_append of (each (whys_in asked p) (tab (λ j. j) n)) (whys_in asked p n) in
        omega (arith, s, none_below n (λ m l. h m (omega arith)), none_of n (h n (omega arith)))

    -- attempts have different bytes
    apart : (n : ℕ) → its n ≡ true → (m : ℕ) → m < n → its m ≡ false
    apart n e m l = on (its m) refl
      where
        on : (b : Bool) → its m ≡ b → its m ≡ false
        on false z = z
        on true z =
            let x = and_true (eqb (attempt_byte (attempt_at (n % 26))) a) (eqb (n / 26) i) e in
            let y = and_true (eqb (attempt_byte (attempt_at (m % 26))) a) (eqb (m / 26) i) z in
            let same = one_byte (m % 26) (n % 26) (omega arith) (omega arith) (eqb-true _ a y.0 ∙ sym (eqb-true _ a x.0)) in
            absurd (omega (arith, same, eqb-true (m / 26) i y.1, eqb-true (n / 26) i x.1))

    once_in : (n : ℕ) → total of (each (whys_in asked p) (tab (λ j. j) n)) ≤ 1
    unfolding tab each total
    once_in zero = omega arith
    once_in (suc n) = on (its n) refl (once_in n)
      where
        s : total of (each (whys_in asked p) (tab (λ j. j) (suc n))) ≡ total of (each (whys_in asked p) (tab (λ j. j) n)) + total of (whys_in asked p n)
        s = ap (total of) (tries n) ∙ total_append of (each (whys_in asked p) (tab (λ j. j) n)) (whys_in asked p n)

        on : (b : Bool) → its n ≡ b → total of (each (whys_in asked p) (tab (λ j. j) n)) ≤ 1 → total of (each (whys_in asked p) (tab (λ j. j) (suc n))) ≤ 1
        on true e below = omega (arith, s, none_below n (apart n e), at_most n)
        on false e below = omega (arith, s, below, none_of n e)

-- exactly: of every program and settings, an end form among them
pub exactly : (asked : Settings) (p : Program) → Exactly asked p
unfolding whys
exactly asked p =
    record {
      due = right_at asked p (whys asked p) (all_tries asked p (26 * length p) (omega arith));
      once = λ a i. once_in asked p a i (26 * length p);
    }
