-- Positions and values in one pass, place by place: what stands in the tables is what the two passes ask, one behind the other.
use mathlib.Core.Path.{◌≡◌, refl, sym, ap, subst, ◌∙◌}
use mathlib.Core.Bool.{true, false, ◌&&◌}
use mathlib.Core.List.{List, []}
use Prim.Native.Nat.{ℕ, zero, suc, ◌+◌, ◌≤◌, ◌<◌}
use native.Mathlib.Numerals.{add-one}
use native.Mathlib.Omega.{arith}
use lib.IntN.{ℤ, pos}
use lib.ListN.{length, get_or, set}
use lib.Seq.{get_or-set_same, get_or-set_other}
use borrow.Author.Count.{below_more}
use Rattle.std.specs.Prelude.{Err, Ok}
use Rattle.laws.proofs.Tests.{clash, false_true}
use Rattle.rules.specs.declared.Address.{Address}
use Rattle.rules.specs.declared.Refusal.{Refusal}
use Rattle.rules.specs.Answers.{Judged, ok, no, is_ok}
use Rattle.rules.specs.Programs.{Placeℕ, Addressℕ, Program, at}
use Rattle.rules.specs.Layout.{after, position}
use Rattle.rules.specs.Names.{context_at, placed}
use Rattle.rules.specs.Judging.{settles, positions_fit, define_all}
use Rattle.expression.specs.Environment.{entries_of}
use Rattle.listing.specs.Tables.{Held}
use Rattle.slots.specs.Slots.{Slots, slot_at, program_of}
use Rattle.slots.specs.Links.{contexts_read, names_now}
use Rattle.env.specs.Answers.{checked_as, moved_as, valued_as}
use Rattle.env.specs.Tables.{Named, LaidAt, Tells, meant_at}
use Rattle.env.specs.Settling.{SettledTo, Settled}
use Rattle.env.proofs.Programs.{length_program, at_program}
use Rattle.env.proofs.Passes.{left, fit_next, fit_stops, fit_end, define_end}
use Rattle.env.proofs.Positions.{position_first, position_more, moved_to_lem, moved_refused}
use Rattle.env.proofs.Meaning.{DefinedTo, defined_start, defined_more, defined_stops, entries_set, valued_is}
use Rattle.env.proofs.Telling.{shown_start, shown_next}

-- ---- what stands before place i was passed

fits_to : (p : Program) (i : Placeℕ) → i ≤ length p → ((j : Placeℕ) → j < i → settles j (position p j) (at p j) ≡ ok tt)
    → positions_fit (placed p) ≡ positions_fit (left p i)
fits_to p zero l h = refl
fits_to p (suc i) l h =
    fits_to p i (omega arith) (λ j k. h j (omega arith)) ∙ fit_next p i (omega arith) (h i (omega arith)) ∙ ap (λ n. positions_fit (left p n)) (add-one i)

defined_to : (t : Slots) (names contexts : List ℕ) → Named (program_of t) t.count names contexts → (values : List ℤ) (i : Placeℕ) → i ≤ t.count
    → ((j : Placeℕ) → j < i → meant_at names contexts values (program_of t) j ≡ ok (get_or values j (pos 0))) → DefinedTo t names contexts values values i
defined_to t names contexts n values zero l h = defined_start t names contexts values
defined_to t names contexts n values (suc i) l h =
    subst (DefinedTo t names contexts values values) (add-one i)
    (defined_more t names contexts values values i (defined_to t names contexts n values i (omega arith) (λ j k. h j (omega arith))) n (omega arith) (h i (omega arith)))

-- ---- yes or no

both_pass : {A B : Type 0} (x : Judged A) (y : Judged B) (a : A) (b : B) → x ≡ ok a → y ≡ ok b → true ≡ is_ok x && is_ok y
unfolding is_ok
both_pass x y a b e f = rw (e, f)

first_fails : {A B : Type 0} (x : Judged A) (y : Judged B) (r : Refusal) → x ≡ no r → false ≡ is_ok x && is_ok y
unfolding is_ok
first_fails x y r e = rw e

second_fails : {A B : Type 0} (x : Judged A) (y : Judged B) (r : Refusal) → Err r ≡ checked_as y → false ≡ is_ok x && is_ok y
unfolding is_ok
second_fails (ok a) (ok b) r e = clash (cc)
second_fails (ok a) (no q) r e = refl
second_fails (no q) y r e = refl

-- ---- one place more

module _ (t : Slots) (positions : List ℕ) (values : List ℤ) where
  abbrev p : Program
  p = program_of t

  abbrev names : List ℕ
  names = names_now t

  abbrev contexts : List ℕ
  contexts = contexts_read t.frames t.starts t.count

  pub settled_start : 0 < length positions → SettledTo t (set positions 0 0) values 0
  settled_start room =
      let first : (j : Placeℕ) → j ≤ 0 → j ≡ 0 = (λ j l. omega arith) in
      record {
        held = λ j l. rw (first j l, position_first p) (get_or-set_same positions 0 0 0 room);
        small = λ j l. rw (first j l, position_first p) (omega arith);
        settled = λ j l. absurd (omega arith);
        worth = λ j l. absurd (omega arith);
        shown = shown_start t values;
      }

  module _ (i : Placeℕ) (h : SettledTo t positions values i) where
    module _ (l : i < t.count) where
      inside : i < length p
      inside = rw (length_program t) l

      -- the statement at i, as the pass sees it and as the code has it
      same : settles i (get_or positions i 0) (slot_at t i) ≡ settles i (position p i) (at p i)
      same = rw (h.held i (omega arith), at_program t i l)

      pub settled_next : Held t.frames t.starts t.count → (a : Address) (z : ℤ) → a.0 ≤ 65536 → i + 1 < length positions → i < length values
          → moved_as (settles i (get_or positions i 0) (slot_at t i)) (after (get_or positions i 0) (slot_at t i)) ≡ Ok a
          → valued_as (meant_at names contexts values p i) ≡ Ok z → Tells (slot_at t i) z
          → SettledTo t (set positions (i + 1) a.0) (set values i z) (i + 1)
      settled_next f a z low room more e v tells =
          let m = moved_to_lem (settles i (get_or positions i 0) (slot_at t i)) (after (get_or positions i 0) (slot_at t i)) a e in
          let next : position p (i + 1) ≡ a.0 = position_more p i inside ∙ rw (← h.held i (omega arith), at_program t i l) m.1 in
          let same_above = entries_set names contexts values i z in
          let put : get_or (set values i z) i (pos 0) ≡ z = get_or-set_same values i z (pos 0) more in
          record {
            held = λ j k.
                below_more (λ n. get_or (set positions (i + 1) a.0) n 0 ≡ position p n) (i + 1)
                (λ n q. get_or-set_other positions (i + 1) n a.0 0 (λ c. omega arith) ∙ h.held n (omega arith))
                (get_or-set_same positions (i + 1) a.0 0 room ∙ sym next) j (omega arith);
            small = λ j k. below_more (λ n. position p n ≤ 65536) (i + 1) (λ n q. h.small n (omega arith)) (rw next low) j (omega arith);
            settled = below_more (λ j. settles j (position p j) (at p j) ≡ ok tt) i h.settled (sym same ∙ m.0);
            worth =
                below_more (λ j. meant_at names contexts (set values i z) p j ≡ ok (get_or (set values i z) j (pos 0))) i
                (λ j k. rw (same_above j (omega arith), get_or-set_other values i j z (pos 0) (λ q. omega arith)) (h.worth j k))
                (rw (same_above i (omega arith), put) (valued_is (meant_at names contexts values p i) z v));
            shown = shown_next t f values i z l more h.shown tells;
          }

      -- what a value is asked with, whatever comes after
      pub laid_at : get_or contexts i 0 ≡ context_at p i → (q : Addressℕ) → LaidAt p i contexts (set positions (i + 1) q)
      laid_at c q =
          record { context = c; held = get_or-set_other positions (i + 1) i q 0 (λ e. omega arith) ∙ h.held i (omega arith); small = h.small i (omega arith) }

      pub position_stops : (positions' : List ℕ) (values' : List ℤ) (r : Refusal)
          → moved_as (settles i (get_or positions i 0) (slot_at t i)) (after (get_or positions i 0) (slot_at t i)) ≡ Err r → Settled t false positions' values'
      position_stops positions' values' r e =
          let m = moved_refused (settles i (get_or positions i 0) (slot_at t i)) (after (get_or positions i 0) (slot_at t i)) r e in
          record {
            answer =
                first_fails (positions_fit (placed p)) (define_all [] (placed p)) r
                (fits_to p i (omega (arith, inside)) h.settled ∙ fit_stops p i inside r (sym same ∙ m));
            tables = λ q. false_true q;
            fits = λ q. false_true q;
            entries = λ q. false_true q;
          }

      pub value_stops : Named p t.count names contexts → (positions' : List ℕ) (values' : List ℤ) (r : Refusal)
          → valued_as (meant_at names contexts values p i) ≡ Err r → Settled t false positions' values'
      value_stops n positions' values' r e =
          record {
            answer =
                second_fails (positions_fit (placed p)) (define_all [] (placed p)) r
                (defined_stops t names contexts values values i (defined_to t names contexts n values i (omega arith) h.worth) n l r e).answer;
            tables = λ q. false_true q;
            fits = λ q. false_true q;
            entries = λ q. false_true q;
          }

    -- both passes come through where the tables stand up to the end
    pub settled_end : Named p t.count names contexts → i ≡ t.count → Settled t true positions values
    settled_end n e =
        let fits = fits_to p i (omega (arith, length_program t)) h.settled ∙ fit_end p i (omega (arith, length_program t)) in
        let entries : define_all [] (placed p) ≡ ok (entries_of names contexts values i) =
        (defined_to t names contexts n values i (omega arith) h.worth).defined ∙ define_end p (entries_of names contexts values i) i (omega (arith, length_program t)) in
        record {
          answer = both_pass (positions_fit (placed p)) (define_all [] (placed p)) tt (entries_of names contexts values i) fits entries;
          tables = λ q. subst (SettledTo t positions values) e h;
          fits = λ q. fits;
          entries = λ q. entries ∙ rw e;
        }
