-- Each ending of a walk is listed; so a program of which nothing is listed walks out of its code or goes on for ever.
use mathlib.Core.Path.{◌≡◌, refl, sym, ◌∙◌, ap}
use mathlib.Core.Logic.{◌⊎◌, inl, inr, ⊎_elim}
use mathlib.Core.List.{List, [], ◌∷◌, ◌++◌, map}
use mathlib.Core.Option.{Option, none, some}
use mathlib.Core.Bool.{Bool, true, false, cond}
use Prim.Native.Nat.{ℕ, zero, suc, ◌+◌, ◌-◌, ◌<◌}
use native.Mathlib.Numerals.{add-one}
use native.Mathlib.Omega.{arith}
use lib.Dec.{eqb}
use lib.ListN.{length}
use lib.IntN.{pos, negsuc}
use borrow.Author.Tests.{eqb-true, eq-eqb}
use Rattle.rules.specs.declared.Unvalued.TheVariants.{Unknown, Nothing}
use Rattle.rules.specs.declared.Unvalued.{Unvalued}
use Rattle.std.specs.Prelude.{ℤ, Result, Err, Ok}
use Rattle.laws.specs.Lists.{each}
use Rattle.laws.specs.Counts.{tab}
use Rattle.laws.proofs.Counts.{each_tab}
use Rattle.laws.proofs.Stores.{get_out}
use Rattle.laws.proofs.Tests.{false_true, true_false, clash, lt_or_le, eq_or_not}
use Rattle.rules.specs.Answers.{ok}
use Rattle.rules.specs.Forms.{size_at}
use Rattle.rules.specs.Programs.{Placeℕ, Operand, register, value, inner, Stmt, gone, instr, label, variable, comment, org, bytes, words, pad, Program, at, on_instr, last_of}
use Rattle.rules.specs.Layout.{position, Origin}
use Rattle.rules.specs.Names.{context_at, placed}
use Rattle.rules.specs.Judging.{worth, worth_of, names_of, positions_fit}
use Rattle.rules.specs.Rewriting.{moving_of, is_change_jump}
use Rattle.promises.specs.Demand2.{Input}
use Rattle.promises.proofs.Passes.{judge_passes}
use Rattle.walk.specs.Walk.{same_test}
use Rattle.paths.specs.Walk.{Oracle, Class, jumps, calls, returns, tests, plain, class, Event, event, taken_on, Ending, going, off_the_end, in_data, inside, leaves, computed, clouded, unreturned, no_address, Spot, here, done, State, start_at, Move, stop, on, pick, acts, is_code, code_at, to_spot, label_names, is_followed, aim_at, is_clouded, enters_instr, enters_at, meets_at, meets, halts, follow, run, walk}
use Rattle.paths.specs.SamePath.{itself}
use Rattle.paths.proofs.Layouts.{Splits, splits_at, splits_behind}
use Rattle.endings.specs.Endings.{leaves_memory, behind_cloud, computes_label, into_middle, is_return, landing, value_reasons, target_reasons, class_reasons, reasons_for, reasons_at, Listed, report, Lists, Named, Open}
use Rattle.endings.proofs.Comes.{ComesFrom, nowhere, comes, comes_from}

-- ---- an address that comes to no middle
abbrev Lands : Option Origin → Type 0
Lands none = Unit
Lands (some g) = g.offset ≡ 0

module _ (p : Program) where
  lands_splits : (a d : ℕ) → Splits p a d → Lands (code_at p a)
  unfolding code_at position
  lands_splits a d h = on (comes_from a 0 0 p)
    where
      on : {o : Option Origin} → ComesFrom a 0 0 p o → Lands o
      on (nowhere k) = tt
      on (comes b e l k) = ⊎_elim (λ m. absurd (omega (arith, h.below b m e))) (λ m. omega (arith, h.above b m e)) (lt_or_le b d)

  abbrev Good : ℕ → Type 0
  Good a = Lands (code_at p a) ⊎ ((j : Placeℕ) × Lists p j into_middle)

  abbrev FineSpot : Spot → Type 0
  FineSpot (here a) = Good a
  FineSpot (done e) = Named p e

  abbrev FineLeft : List ℕ → Type 0
  FineLeft [] = Unit
  FineLeft (a ∷ l) = Good a × FineLeft l

  record Fine (s : State) : Type 0 where
    spot : FineSpot s.spot
    left : FineLeft s.left

  abbrev FineMove : Move → Type 0
  FineMove (stop e) = Named p e
  FineMove (on i s) = Fine s

  -- ---- a target
  value_fine : (i : Placeℕ) (v : Result ℤ Unvalued) → reasons_at p i ≡ value_reasons p v → FineSpot (to_spot v)
  value_fine i (Ok (pos a)) h = at_origin (code_at p a) refl h
    where
      at_origin : (o : Option Origin) → code_at p a ≡ o → reasons_at p i ≡ landing o → Good a
      at_origin none e h = inl (rw e tt)
      at_origin (some g) e h = by_test (eqb g.offset 0) refl h
        where
          by_test : (t : Bool) → eqb g.offset 0 ≡ t → reasons_at p i ≡ cond t [] (into_middle ∷ []) → Good a
          by_test true z h = inl (rw e (eqb-true g.offset 0 z))
          by_test false z h = inr (i, h)
  value_fine i (Ok (negsuc a)) h = (i, h)
  value_fine i (Err Unknown) h = (i, h)
  value_fine i (Err Nothing) h = (i, h)

  target_fine : (i : Placeℕ) (k : ℕ) (x : Operand) → reasons_at p i ≡ target_reasons p k x → FineSpot (aim_at p k x)
  target_fine i k (register r) h = value_fine i (worth_of (names_of p) p k (register r)) h
  target_fine i k (value e) h = split (is_followed (label_names p) (moving_of p) k e) h
    where
      split : (b : Bool) → reasons_at p i ≡ cond b (value_reasons p (worth (names_of p) k e)) (computes_label ∷ []) → FineSpot (cond b (to_spot (worth (names_of p) k e)) (done (computed k e)))
      split true h = value_fine i (worth (names_of p) k e) h
      split false h = (i, h)
  target_fine i k (inner d o) h = value_fine i (worth_of (names_of p) p k (inner d o)) h

  pick_fine : (i : Placeℕ) (l : List ℕ) (n : ℕ) → Lists p i is_return → FineLeft l → FineSpot (pick l n)
  pick_fine i [] n h f = (i, h)
  pick_fine i (a ∷ l) zero h f = f.0
  pick_fine i (a ∷ l) (suc n) h f = pick_fine i l n h f.1

  module _ (laid : positions_fit (placed p) ≡ ok tt) (o : Oracle) where
    -- ---- one instruction
    acts_fine : (i : Placeℕ) (c : Class) (v : Event) (w : Bool) (n k : ℕ) (x : Operand) (s : State) → Good n → reasons_at p i ≡ class_reasons c (target_reasons p k x) → Fine s
        → FineMove (acts o c v w n (aim_at p k x) s)
    acts_fine i jumps v w n k x s g h f = record { spot = target_fine i k x h; left = f.left }
    acts_fine i calls v w n k x s g h f = record { spot = target_fine i k x h; left = (g, f.left) }
    acts_fine i returns v w n k x s g h f = record { spot = pick_fine i s.left (o.returns (v ∷ s.met)) h f.left; left = f.left }
    acts_fine i tests v w n k x s g h f = record { spot = on_test (same_test (o.answers (v ∷ s.met)) w); left = f.left }
      where
        on_test : (t : Bool) → FineSpot (cond t (aim_at p k x) (here n))
        on_test true = target_fine i k x h
        on_test false = g
    acts_fine i plain v w n k x s g h f = record { spot = g; left = f.left }

    instr_fine : (i f : ℕ) (xs : List Operand) (c : ℕ) (s : State) → at p i ≡ instr f xs c → Fine s → FineMove (enters_instr (record { answers = o.answers; returns = o.returns }) itself p i (record { form = f; args = xs; carried = c }) s)
    instr_fine i f xs c s e g = split (is_clouded p i) (is_change_jump (names_of p) p i) (ap (reasons_for p i) e)
      where
        behind : Good (position p i + size_at f)
        behind = inl (lands_splits (position p i + size_at f) (suc i) (rw e at (splits_behind p laid i (rw e refl))))

        split : (a b : Bool) → reasons_at p i ≡ cond a (behind_cloud ∷ []) (cond b (leaves_memory ∷ []) (class_reasons (class f) (target_reasons p (context_at p i) (last_of xs))))
            → FineMove (cond a (stop (clouded i)) (cond b (stop (leaves i xs)) (acts o (class f) (event i f xs) (taken_on f) (position p i + size_at f) (aim_at p (context_at p i) (last_of xs)) s)))
        split true b h = h
        split false true h = h
        split false false h = acts_fine i (class f) (event i f xs) (taken_on f) (position p i + size_at f) (context_at p i) (last_of xs) s behind h g

    stmt_fine : (i : ℕ) (x : Stmt) (s : State) → at p i ≡ x → is_code x ≡ true → Fine s → FineMove (on_instr (stop (in_data i)) (λ y. enters_instr o itself p i y s) x)
    stmt_fine i gone s e h g = false_true h
    stmt_fine i (instr f xs c) s e h g = instr_fine i f xs c s e g
    stmt_fine i (label n) s e h g = false_true h
    stmt_fine i (variable n y) s e h g = false_true h
    stmt_fine i (comment x) s e h g = false_true h
    stmt_fine i (org l) s e h g = false_true h
    stmt_fine i (bytes es) s e h g = ap (reasons_for p i) e
    stmt_fine i (words es) s e h g = ap (reasons_for p i) e
    stmt_fine i (pad add m) s e h g = false_true h

    -- ---- an address
    enters_fine : (a : ℕ) (s : State) → Good a → Fine s → FineMove (enters_at o itself p (code_at p a) s)
    unfolding code_at position
    enters_fine a s g f = by_origin (comes_from a 0 0 p) g
      where
        by_origin : {c : Option Origin} → ComesFrom a 0 0 p c → Lands c ⊎ ((j : Placeℕ) × Lists p j into_middle) → FineMove (enters_at o itself p c s)
        by_origin (nowhere k) g = tt
        by_origin (comes b e l k) g = by_test (eqb (a - position p b) 0) refl
          where
            code : is_code (at p (0 + b)) ≡ true
            code = let z : 0 + b ≡ b = omega arith in ap (λ (n : ℕ). is_code (at p n)) z ∙ e

            by_test : (t : Bool) → eqb (a - position p b) 0 ≡ t
                → FineMove (cond t (on_instr (stop (in_data (0 + b))) (λ x. enters_instr o itself p (0 + b) x s) (at p (0 + b))) (stop (inside (0 + b) (a - position p b))))
            by_test true z = stmt_fine (0 + b) (at p (0 + b)) s refl code f
            by_test false z = ⊎_elim (λ (x : a - position p b ≡ 0). true_false (sym (eq-eqb (a - position p b) 0 x) ∙ z)) (λ x. x) g

    meets_fine : (s : State) → Fine s → FineMove (meets o itself p s)
    unfolding meets
    meets_fine s f = by_spot s.spot f.spot
      where
        by_spot : (x : Spot) → FineSpot x → FineMove (meets_at o itself p x s)
        by_spot (here a) g = enters_fine a s g f
        by_spot (done e) g = g

    run_fine : (n : ℕ) (s : State) → Fine s → Named p (run (meets o itself p) n s).ending
    unfolding run
    run_fine zero s f = by_move (meets o itself p s) (meets_fine s f)
      where
        by_move : (m : Move) → FineMove m → Named p (halts s m).ending
        by_move (stop e) g = g
        by_move (on i t) g = tt
    run_fine (suc n) s f = by_move (meets o itself p s) (meets_fine s f) (run_fine n)
      where
        by_move : (m : Move) → FineMove m → ((t : State) → Fine t → Named p (run (meets o itself p) n t).ending) → Named p (follow (λ t. run (meets o itself p) n t) s m).ending
        by_move (stop e) g below = g
        by_move (on i t) g below = below t g

    -- ends_named: from the first byte of any statement, however a walk ends, the report has the reason
    pub ends_named : (d n : ℕ) → Named p (walk o itself n p (position p d)).ending
    unfolding walk
    ends_named d n = run_fine n (start_at (position p d)) (record { spot = inl (lands_splits (position p d) d (splits_at p laid d)); left = tt })

-- ---- nothing is listed
append_none : {A : Type 0} (xs ys : List A) → xs ++ ys ≡ [] → (xs ≡ []) × (ys ≡ [])
append_none [] ys h = (refl, h)
append_none (x ∷ xs) ys h = clash (cc)

map_none : {A B : Type 0} (f : A → B) (xs : List A) → map f xs ≡ [] → xs ≡ []
map_none f [] h = refl
map_none f (x ∷ xs) h = clash (cc)

abbrev listed_at : Program → (i : Placeℕ) → List Listed
listed_at p i = map (λ r. record { place = i; reason = r }) (reasons_at p i)

none_to : (p : Program) (n : ℕ) → each (listed_at p) (tab (λ i. i) n) ≡ [] → (i : Placeℕ) → i < n → reasons_at p i ≡ []
none_to p zero h i l = absurd (omega arith)
none_to p (suc n) h i l =
    let more : each (listed_at p) (tab (λ i. i) n) ++ listed_at p n ≡ [] = sym (each_tab (listed_at p) (λ i. i) n) ∙ ap (λ (k : ℕ). each (listed_at p) (tab (λ i. i) k)) (add-one n) ∙ h in
    let parts = append_none (each (listed_at p) (tab (λ i. i) n)) (listed_at p n) more in
    ⊎_elim (λ (z : i ≡ n). ap (reasons_at p) z ∙ map_none _ (reasons_at p n) parts.1) (λ ne. none_to p n parts.0 i (omega arith)) (eq_or_not i n)

none_at : (p : Program) → report p ≡ [] → (i : Placeℕ) → reasons_at p i ≡ []
unfolding report
none_at p h i = ⊎_elim (λ l. none_to p (length p) h i l) (λ l. ap (reasons_for p i) (get_out p i gone l)) (lt_or_le i (length p))

open_named : (p : Program) → report p ≡ [] → (e : Ending) → Named p e → Open e
open_named p h (going i) k = tt
open_named p h off_the_end k = tt
open_named p h (in_data i) k = clash (cc (none_at p h i))
open_named p h (inside i n) k = clash (cc (none_at p h k.0))
open_named p h (leaves i xs) k = clash (cc (none_at p h i))
open_named p h (computed j e) k = clash (cc (none_at p h k.0))
open_named p h (clouded i) k = clash (cc (none_at p h i))
open_named p h unreturned k = clash (cc (none_at p h k.0))
open_named p h no_address k = clash (cc (none_at p h k.0))

-- walks-on: a program of which nothing is listed
pub walks_on : (p : Program) → positions_fit (placed p) ≡ ok tt → report p ≡ [] → (o : Oracle) (d n : ℕ) → Open (walk o itself n p (position p d)).ending
walks_on p laid h o d n = open_named p h (walk o itself n p (position p d)).ending (ends_named p laid o d n)

-- of every accepted program: from the first byte of each statement, address 0 among them
module _ (p : Program) (in_p : Input p) where
  pub input_named : (o : Oracle) (d n : ℕ) → Named p (walk o itself n p (position p d)).ending
  input_named o d n = ends_named p (judge_passes p in_p.image in_p.assembles).laid o d n

  pub input_walks_on : report p ≡ [] → (o : Oracle) (d n : ℕ) → Open (walk o itself n p (position p d)).ending
  input_walks_on h o d n = walks_on p (judge_passes p in_p.image in_p.assembles).laid h o d n
