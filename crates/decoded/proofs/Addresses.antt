-- Each target of a program that assembles is an address, so that no walk of it ends for want of one.
use mathlib.Core.Path.{◌≡◌, refl, sym, ◌∙◌, ap}
use mathlib.Core.List.{List, [], ◌∷◌, map}
use mathlib.Core.Option.{Option, none, some}
use mathlib.Core.Bool.{Bool, true, false, cond}
use Prim.Native.Nat.{ℕ, zero, suc, ◌+◌, ◌<◌}
use lib.Dec.{eqb}
use lib.IntN.{ℤ, pos, negsuc}
use Rattle.std.specs.Prelude.{Ok}
use Rattle.laws.proofs.Tests.{false_true, true_false, clash}
use Rattle.rules.specs.declared.Kind.{Kind}
use Rattle.rules.specs.declared.Kind.TheVariants.{Reg, I8, D9, Bit, Rel8, A12, A16, Rel16}
use Rattle.rules.specs.Answers.{ok}
use Rattle.rules.specs.Forms.{size_at, operands_at, is_address, ends_in_address, is_transfer}
use Rattle.rules.specs.Values.{below}
use Rattle.rules.specs.Programs.{Placeℕ, Operand, register, value, inner, Stmt, gone, instr, label, variable, comment, org, bytes, words, pad, Program, at, on_instr, last_of}
use Rattle.rules.specs.Layout.{position, Origin}
use Rattle.rules.specs.Names.{context_from, context_at, placed, Entry}
use Rattle.rules.specs.Encoding.{field}
use Rattle.rules.specs.Judging.{value_at, worth_of, names_of, fields, judge}
use Rattle.rules.specs.Rewriting.{is_change_jump}
use Rattle.rules.proofs.Laws.{then_ok}
use Rattle.promises.proofs.Passes.{judge_passes, names_are}
use Rattle.promises.proofs.Sounds.{is_register, shapes, Sounds, SoundStmt}
use Rattle.decoding.proofs.Tables.{shaped}
use Rattle.paths.specs.Walk.{Oracle, Class, jumps, calls, returns, tests, plain, class, taken_on, Event, event, Ending, going, off_the_end, unreturned, in_data, inside, leaves, computed, clouded, no_address, Spot, here, done, State, start_at, Move, stop, on, pick, acts, is_followed, aim_at, is_clouded, enters_instr, enters_at, meets_at, meets, code_at, halts, follow, run, walk}
use Rattle.walk.specs.Walk.{same_test}
use Rattle.walk.proofs.Inputs.{value_ok}
use Rattle.paths.proofs.Forms.{aims_any}
use Rattle.paths.proofs.Links.{aims}
use Rattle.decoded.specs.Decoded.{AlwaysAddressed}
use Rattle.decoded.proofs.Images.{in_range_lem, lies_at}

-- ---- a target in its range is no negative number
address_plain : (d : Kind) → is_address d ≡ true → is_register d ≡ false
address_plain Reg t = false_true t
address_plain I8 t = refl
address_plain D9 t = refl
address_plain Bit t = refl
address_plain Rel8 t = refl
address_plain A12 t = refl
address_plain A16 t = refl
address_plain Rel16 t = refl

natural : (z : ℤ) → below 65536 z ≡ true → (a : ℕ) × (z ≡ pos a)
natural (pos a) h = (a, refl)
natural (negsuc a) h = false_true h

last_is : (names : List Entry) (p : Program) (i k n j : ℕ) (ds : List Kind) (xs : List Operand) (vs : List ℕ) → ends_in_address ds ≡ true → Sounds (map (λ d. is_register d) ds) xs → fields names p i k n j ds xs ≡ ok vs
    → (a : ℕ) × (worth_of names p k (last_of xs) ≡ Ok (pos a))
unfolding fields
last_is names p i k n j [] xs vs t s e = false_true t
last_is names p i k n j (d ∷ []) [] vs t s e = absurd s
last_is names p i k n j (d ∷ []) (x ∷ []) vs t s e =
    let a = then_ok (value_at i (worth_of names p k x)) _ vs e in
    let b = then_ok (field i j n d a.0) _ vs a.2 in
    let z = natural a.0 (in_range_lem i j n d a.0 b.0 (address_plain d t) b.1) in
    (z.0, value_ok i (worth_of names p k x) a.0 a.1 ∙ ap Ok z.1)
last_is names p i k n j (d ∷ []) (x ∷ y ∷ xs) vs t s e = absurd s.1
last_is names p i k n j (d ∷ d' ∷ ds) [] vs t s e = absurd s
last_is names p i k n j (d ∷ d' ∷ ds) (x ∷ []) vs t s e = absurd s.1
last_is names p i k n j (d ∷ d' ∷ ds) (x ∷ y ∷ xs) vs t s e =
    let a = then_ok (value_at i (worth_of names p k x)) _ vs e in
    let b = then_ok (field i j n d a.0) _ vs a.2 in
    let c = then_ok (fields names p i k n (suc j) (d' ∷ ds) (y ∷ xs)) _ vs b.2 in
    last_is names p i k n (suc j) (d' ∷ ds) (y ∷ xs) c.0 t s.1 c.1

-- ---- never without an address
abbrev Addressed : Ending → Type 0
Addressed e = e ≡ no_address → ⊥

abbrev lacks : Ending → Bool
lacks (going i) = false
lacks off_the_end = false
lacks (in_data i) = false
lacks (inside i n) = false
lacks (leaves i xs) = false
lacks (computed k e) = false
lacks (clouded i) = false
lacks unreturned = false
lacks no_address = true

addressed : (e : Ending) → lacks e ≡ false → Addressed e
addressed e h z = true_false (sym (ap lacks z) ∙ h)

abbrev Reaches : Spot → Type 0
Reaches g = g ≡ done no_address → ⊥

reaches_here : (a : ℕ) → Reaches (here a)
reaches_here a e = clash (cc)

reaches_pick : (l : List ℕ) (n : ℕ) → Reaches (pick l n)
reaches_pick [] n e = clash (cc)
reaches_pick (a ∷ l) zero e = clash (cc)
reaches_pick (a ∷ l) (suc n) e = reaches_pick l n e

data Good : Move → Type 0 where
  good_stop : {e : Ending} → Addressed e → Good (stop e)
  good_on : {i : ℕ} {t : State} → Reaches t.spot → Good (on i t)

good_acts : (o : Oracle) (c : Class) (v : Event) (w : Bool) (n : ℕ) (to : Spot) (s : State) → (aims c ≡ true → Reaches to) → Good (acts o c v w n to s)
good_acts o jumps v w n to s h = good_on (h refl)
good_acts o calls v w n to s h = good_on (h refl)
good_acts o returns v w n to s h = good_on (reaches_pick s.left (o.returns (v ∷ s.met)))
good_acts o tests v w n to s h = good_on (split (same_test (o.answers (v ∷ s.met)) w))
  where
    split : (b : Bool) → Reaches (cond b to (here n))
    split true = h refl
    split false = reaches_here n
good_acts o plain v w n to s h = good_on (reaches_here n)

module _ (p : Program) (image : List ℕ) (assembles : judge p ≡ ok image) (sound : (j : Placeℕ) → SoundStmt (at p j)) where
  target_is : (i f : ℕ) (xs : List Operand) (c : Placeℕ) → at p i ≡ instr f xs c → is_transfer f ≡ true → (a : ℕ) × (worth_of (names_of p) p (context_at p i) (last_of xs) ≡ Ok (pos a))
  unfolding placed position context_at is_transfer
  target_is i f xs c s t =
      let h = judge_passes p image assembles in
      let w : (f < 70) × Sounds (shapes f) xs = rw s at (sound i) in
      let l = lies_at h.names p 0 0 0 p image h.laid h.encoded i f xs c s (shaped f w.0).some in
      rw (names_are p h.names h.defined) (last_is h.names p (0 + i) (context_from 0 p i) _ 0 (operands_at f) xs l.vs t w.1 l.written)

  aim_reaches : (k : ℕ) (x : Operand) (a : ℕ) → worth_of (names_of p) p k x ≡ Ok (pos a) → Reaches (aim_at p k x)
  aim_reaches k (register r) a e = λ z. clash (cc)
  aim_reaches k (value y) a e = rw e (split (is_followed _ _ k y))
    where
      split : (b : Bool) → Reaches (cond b (here a) (done (computed k y)))
      split true = λ z. clash (cc)
      split false = λ z. clash (cc)
  aim_reaches k (inner i n) a e = λ z. clash (cc)

  module _ (o : Oracle) (tell : Placeℕ → Placeℕ) where
    instr_good : (i f : ℕ) (xs : List Operand) (c : ℕ) (s : State) → at p i ≡ instr f xs c → Good (enters_instr o tell p i (record { form = f; args = xs; carried = c }) s)
    instr_good i f xs c s e = split (is_clouded p i) (is_change_jump (names_of p) p i)
      where
        reaching : aims (class f) ≡ true → Reaches (aim_at p (context_at p i) (last_of xs))
        reaching h = let a = target_is i f xs c e (aims_any f h) in aim_reaches (context_at p i) (last_of xs) a.0 a.1

        split : (a b : Bool) → Good (cond a (stop (clouded (tell i))) (cond b (stop (leaves (tell i) xs)) (acts o (class f) (event (tell i) f xs) (taken_on f) (position p i + size_at f) (aim_at p (context_at p i) (last_of xs)) s)))
        split true b = good_stop (addressed (clouded (tell i)) refl)
        split false true = good_stop (addressed (leaves (tell i) xs) refl)
        split false false = good_acts o (class f) (event (tell i) f xs) (taken_on f) (position p i + size_at f) (aim_at p (context_at p i) (last_of xs)) s reaching

    stmt_good : (i : ℕ) (x : Stmt) (s : State) → at p i ≡ x → Good (on_instr (stop (in_data (tell i))) (λ y. enters_instr o tell p i y s) x)
    stmt_good i gone s e = good_stop (addressed (in_data (tell i)) refl)
    stmt_good i (instr f xs c) s e = instr_good i f xs c s e
    stmt_good i (label n) s e = good_stop (addressed (in_data (tell i)) refl)
    stmt_good i (variable n y) s e = good_stop (addressed (in_data (tell i)) refl)
    stmt_good i (comment x) s e = good_stop (addressed (in_data (tell i)) refl)
    stmt_good i (org l) s e = good_stop (addressed (in_data (tell i)) refl)
    stmt_good i (bytes es) s e = good_stop (addressed (in_data (tell i)) refl)
    stmt_good i (words es) s e = good_stop (addressed (in_data (tell i)) refl)
    stmt_good i (pad add m) s e = good_stop (addressed (in_data (tell i)) refl)

    at_good : (g : Option Origin) (s : State) → Good (enters_at o tell p g s)
    at_good none s = good_stop (addressed off_the_end refl)
    at_good (some g) s = split (eqb g.offset 0)
      where
        split : (b : Bool) → Good (cond b (on_instr (stop (in_data (tell g.place))) (λ x. enters_instr o tell p g.place x s) (at p g.place)) (stop (inside (tell g.place) g.offset)))
        split true = stmt_good g.place (at p g.place) s refl
        split false = good_stop (addressed (inside (tell g.place) g.offset) refl)

    meets_good : (s : State) → Reaches s.spot → Good (meets o tell p s)
    unfolding meets
    meets_good s h = split s.spot h
      where
        split : (x : Spot) → Reaches x → Good (meets_at o tell p x s)
        split (here a) h = at_good (code_at p a) s
        split (done e) h = good_stop (λ z. h (ap done z))

    run_good : (n : ℕ) (s : State) → Reaches s.spot → Addressed (run (meets o tell p) n s).ending
    unfolding run
    run_good zero s h = split (meets_good s h)
      where
        split : {m : Move} → Good m → Addressed (halts s m).ending
        split (good_stop k) = k
        split (good_on {i = i} k) = addressed (going i) refl
    run_good (suc n) s h = split (meets_good s h) (run_good n)
      where
        split : {m : Move} → Good m → ((t : State) → Reaches t.spot → Addressed (run (meets o tell p) n t).ending) → Addressed (follow (λ t. run (meets o tell p) n t) s m).ending
        split (good_stop k) below = k
        split (good_on {t = t} k) below = below t k

  -- always-addressed: no walk ends at a target that is no address
  pub always_addressed : AlwaysAddressed p
  unfolding walk
  always_addressed o tell n a = run_good o tell n (start_at a) (reaches_here a)
