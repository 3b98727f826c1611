-- "For every transfer of demand 3 it says 'same'", of the lines that the entry tells.
use mathlib.Core.Path.{◌≡◌, refl, sym, ap, ◌∙◌}
use mathlib.Core.List.{List, [], ◌∷◌}
use mathlib.Core.Bool.{Bool, true, false, not, ◌&&◌, ◌||◌, cond}
use mathlib.Core.Logic.{⊎_elim}
use Prim.Native.Nat.{ℕ, ◌+◌, ◌<◌}
use native.Mathlib.Omega.{arith}
use lib.Dec.{eqb, leb}
use lib.ListN.{length, get_or}
use borrow.Author.Tests.{eq-eqb, ne_eqb}
use Rattle.laws.specs.Lists.{total, every, each}
use Rattle.laws.specs.Counts.{tab}
use Rattle.laws.proofs.Lists.{total_append, total_one, every_append, every_all}
use Rattle.laws.proofs.Counts.{length_tab, get_or_tab}
use Rattle.laws.proofs.Stores.{get_out}
use Rattle.laws.proofs.Tests.{clash, eq_or_not, lt_or_le}
use Rattle.rules.specs.declared.Settings.{Settings}
use Rattle.rules.specs.declared.Refusal.TheVariants.{Room}
use Rattle.rules.specs.Answers.{ok, ◌>>=◌, require}
use Rattle.rules.specs.Forms.{is_transfer}
use Rattle.rules.specs.Programs.{Placeℕ, Operand, Stmt, gone, instr, on_instr, Program, at}
use Rattle.rules.specs.Rewriting.{optimized}
use Rattle.rules.proofs.Laws.{is_instr, by_instr, other}
use Rattle.promises.specs.Demand3.{Aims}
use Rattle.starting.specs.Begun.{accepted}
use Rattle.starting.proofs.Accepts.{accepted_input}
use Rattle.targets.specs.Targets.{Target, target_at, is_same, targets_in, targets}
use Rattle.targets.specs.Entry.{target_lines, fitted, told}
use Rattle.targets.specs.Promise.{SaidSame, ToldSame}
use Rattle.targets.proofs.SaidSame.{said_same}

-- ---- a number and a test of all that is listed for each
total_each : {X Y : Type 0} (w : Y → ℕ) (f : X → List Y) (l : List X) → total w (each f l) ≡ total (λ x. total w (f x)) l
unfolding total each
total_each w f [] = refl
total_each w f (x ∷ l) = total_append w (f x) (each f l) ∙ ap (λ (n : ℕ). total w (f x) + n) (total_each w f l)

every_each : {X Y : Type 0} (g : Y → Bool) (f : X → List Y) (l : List X) → every g (each f l) ≡ every (λ x. every g (f x)) l
unfolding every each
every_each g f [] = refl
every_each g f (x ∷ l) = every_append g (f x) (each f l) ∙ ap (λ (b : Bool). every g (f x) && b) (every_each g f l)

-- ---- what is told is the list of targets
fitted_all : (b : Bool) (n : ℕ) (all ts : List Target) → require b (Room n) (ok all) ≡ ok ts → all ≡ ts
unfolding require
fitted_all true n all ts h = cc
fitted_all false n all ts h = clash (cc)

told_all : (asked : Settings) (text : List ℕ) (room : ℕ) (p : Program) (ts : List Target) → accepted text ≡ ok p → told asked text room ≡ ok ts → targets asked p ≡ ts
unfolding told ◌>>=◌ fitted
told_all asked text room p ts e h = fitted_all (leb (length (target_lines (targets asked p))) room) (length p) (targets asked p) ts (rw e at h)

-- ---- the lines of one target
module _ (p e : Program) (i : Placeℕ) where
  abbrev of : Target → ℕ
  of t = cond (eqb t.carried i) 1 0

  abbrev says : Target → Bool
  says t = not (eqb t.carried i) || is_same t

  abbrev Silent : List Target → Type 0
  Silent l = (total of l ≡ 0) × (every says l ≡ true)

  module _ (k : Placeℕ) where
    plain : (b : Bool) (c : Placeℕ) → (c ≡ i → ⊥) → Silent (cond b (target_at p e k c ∷ []) [])
    unfolding total every
    plain true c n = let z : eqb c i ≡ false = ne_eqb c i n in (rw z, rw z)
    plain false c n = (refl, refl)

    abbrev line : Stmt → List Target
    line s = on_instr [] (λ x. cond (is_transfer x.form) (target_at p e k x.carried ∷ []) []) s

    -- another statement has none
    silent : (s : Stmt) → ((f : ℕ) (xs : List Operand) → s ≡ instr f xs i → ⊥) → Silent (line s)
    unfolding total every
    silent = by_instr (λ s. ((f : ℕ) (xs : List Operand) → s ≡ instr f xs i → ⊥) → Silent (line s)) by_form by_other
      where
        by_form : (f : ℕ) (xs : List Operand) (c : Placeℕ) → ((g : ℕ) (ys : List Operand) → instr f xs c ≡ instr g ys i → ⊥) → Silent (line (instr f xs c))
        by_form f xs c n = plain (is_transfer f) c (λ z. n f xs (ap (instr f xs) z))

        by_other : (s : Stmt) → is_instr s ≡ false → ((f : ℕ) (xs : List Operand) → s ≡ instr f xs i → ⊥) → Silent (line s)
        by_other s m n = let z : line s ≡ [] = other [] (λ x. cond (is_transfer x.form) (target_at p e k x.carried ∷ []) []) s m in (ap (total of) z, ap (every says) z)

    -- it has one
    own : (f : ℕ) (xs : List Operand) → at e k ≡ instr f xs i → is_transfer f ≡ true → is_same (target_at p e k i) ≡ true
        → (total of (targets_in p e k) ≡ 1) × (every says (targets_in p e k) ≡ true)
    unfolding total every
    own f xs s t h =
        let z : eqb i i ≡ true = eq-eqb i i refl in
        let is : targets_in p e k ≡ target_at p e k i ∷ [] = ap line s ∙ rw t in
        (ap (total of) is ∙ rw z, ap (every says) is ∙ rw (z, h))

module _ (asked : Settings) (p : Program) (i s o : ℕ) (h : SaidSame asked p i s o) where
  abbrev e : Program
  e = (optimized asked p).program

  abbrev places : List ℕ
  places = tab (λ k. k) (length e)

  inside : h.place < length e
  inside = ⊎_elim (λ l. l) (λ l. clash (gone_not (get_out e h.place gone l))) (lt_or_le h.place (length e))
    where
      gone_not : at e h.place ≡ gone → ◌≡◌ {A = ℕ} 0 1
      gone_not z = let y : instr h.form h.args i ≡ gone = sym h.stands ∙ z in cc

  mine : (total (of p e i) (targets_in p e h.place) ≡ 1) × (every (says p e i) (targets_in p e h.place) ≡ true)
  mine = own p e i h.place h.form h.args h.stands h.transfers h.same

  others : (k : ℕ) → (k ≡ h.place → ⊥) → Silent p e i (targets_in p e k)
  others k n = silent p e i k (at e k) (λ f xs z. n (h.only k f xs z))

  get_place : (j : ℕ) → j < length places → get_or places j 0 ≡ j
  get_place j l = get_or_tab (λ k. k) (length e) j 0 (omega (arith, l, length_tab (λ (k : ℕ). k) (length e)))

  places_in : h.place < length places
  places_in = omega (arith, inside, length_tab (λ (k : ℕ). k) (length e))

  once_in : total (λ k. total (of p e i) (targets_in p e k)) places ≡ 1
  once_in =
      total_one (λ k. total (of p e i) (targets_in p e k)) places h.place 0 places_in
      (λ j l n. ap (λ (k : ℕ). total (of p e i) (targets_in p e k)) (get_place j l) ∙ (others j n).0)
      ∙ ap (λ (k : ℕ). total (of p e i) (targets_in p e k)) (get_place h.place places_in) ∙ mine.0

  same_in : every (λ k. every (says p e i) (targets_in p e k)) places ≡ true
  same_in =
      every_all (λ k. every (says p e i) (targets_in p e k)) places 0
      (λ j l. ap (λ (k : ℕ). every (says p e i) (targets_in p e k)) (get_place j l) ∙ ⊎_elim (λ z. ap (λ (k : ℕ). every (says p e i) (targets_in p e k)) z ∙ mine.1) (λ n. (others j n).1) (eq_or_not j h.place))

  all_same : ToldSame (targets asked p) i
  unfolding targets
  all_same =
      record { once = total_each (of p e i) (targets_in p e) places ∙ once_in; same = every_each (says p e i) (targets_in p e) places ∙ same_in }

-- told_same: whatever room was lent, of each target of demand 3 one line is told, and it says the same
pub told_same : (asked : Settings) (text : List ℕ) (room : ℕ) (p : Program) (ts : List Target) → accepted text ≡ ok p → told asked text room ≡ ok ts
    → (i s o : ℕ) → Aims p i s o → ToldSame ts i
told_same asked text room p ts e h i s o a =
    let z = told_all asked text room p ts e h in
    rw (← z) (all_same asked p i s o (said_same asked p (accepted_input text p e) i s o a))
