-- The passes up to the variables, one behind the other: which refusal is given, and what stands where none is.
use mathlib.Core.Path.{◌≡◌, refl, sym, ap, ◌∙◌}
use mathlib.Core.List.{List, [], ◌∷◌}
use Prim.Native.Nat.{ℕ, zero, suc, ◌+◌, ◌≤◌, ◌<◌}
use native.Mathlib.Omega.{arith}
use lib.Dec.{leb}
use lib.ListN.{length, get_or, drop}
use lib.IntN.{ℤ}
use borrow.Author.Tests.{leb-true}
use Rattle.std.specs.Prelude.{Result, Err, Ok}
use Rattle.rules.specs.declared.Refusal.{Refusal}
use Rattle.rules.specs.declared.Refusal.TheVariants.{Back}
use Rattle.rules.specs.Answers.{at_place, Judged, ok, no, ◌>>◌, check_each, judged_or}
use Rattle.rules.specs.Programs.{Stmt, gone, instr, label, variable, comment, org, bytes, words, pad, Program, as_name}
use Rattle.rules.specs.Layout.{after, position, position_from}
use Rattle.rules.specs.Names.{Entry, placed, placed_from, enter}
use Rattle.rules.specs.Judging.{settles, no_name_twice, positions_fit, define_all, names_of}
use Rattle.rules.proofs.Laws.{next_ok, require_ok}
use Rattle.slots.specs.Slots.{Slots, program_of, slot_at}
use Rattle.env.specs.Answers.{checked_as}
use Rattle.expression.specs.Environment.{entries_of}
use Rattle.expression.proofs.Links.{links_say}
use Rattle.listing.specs.Tables.{frame_at}
use Rattle.slots.specs.Links.{name_in, names_read, contexts_read, names_now, Beside, Says}
use Rattle.env.specs.Tables.{name_said, NamesIn, Named, LaidOut, ShownTo, Defined}
use Rattle.env.proofs.Programs.{length_program, at_program}
use Rattle.env.proofs.Filled.{get_filled}
use Rattle.asm.specs.Assembling.{names_judged, Placed, InPlace, Once, Prepared}

-- ---- what an answer says of its check

pub refused_is : {A : Type 0} (x : Judged A) (q : Refusal) → Err q ≡ checked_as x → x ≡ no q
refused_is (ok a) q e = absurd (let z : ◌≡◌ {A = ℕ} 0 1 = cc in omega arith)
refused_is (no r) q e = cc

pub passed_is : {A : Type 0} (x : Judged A) → (Ok tt) ≡ checked_as x → (a : A) × (x ≡ ok a)
passed_is (ok a) e = (a, refl)
passed_is (no r) e = absurd (let z : ◌≡◌ {A = ℕ} 0 1 = cc in omega arith)

-- ---- positions rise where they fit

pub position_start : (q : ℕ) (p : Program) → position_from q p 0 ≡ q
unfolding position_from
position_start q [] = refl
position_start q (s ∷ p) = refl

after_rises : (i q : ℕ) (s : Stmt) (u : Unit {0}) → settles i q s ≡ ok u → q ≤ after q s
after_rises i q gone u e = omega arith
after_rises i q (instr f xs c) u e = omega arith
after_rises i q (label n) u e = omega arith
after_rises i q (variable n d) u e = omega arith
after_rises i q (comment x) u e = omega arith
after_rises i q (org l) u e = leb-true q l (require_ok (leb q l) (Back (at_place i)) (ok tt) u e).0
after_rises i q (bytes es) u e = omega arith
after_rises i q (words es) u e = omega arith
after_rises i q (pad add m) u e = omega arith

rises_from : (i k q : ℕ) (p : Program) (u : Unit {0}) → check_each (λ x. settles x.place x.position x.stmt) (placed_from i k q p) ≡ ok u
    → (j : ℕ) → j < length p → position_from q p j ≤ position_from q p (suc j)
unfolding check_each placed_from position_from
rises_from i k q [] u e j l = absurd (omega arith)
rises_from i k q (s ∷ p) u e zero l =
    let h = next_ok (settles i q s) _ u e in
    rw (position_start (after q s) p) (after_rises i q s h.0 h.1)
rises_from i k q (s ∷ p) u e (suc j) l =
    let h = next_ok (settles i q s) (check_each (λ x. settles x.place x.position x.stmt) (placed_from (suc i) (enter k s) (after q s) p)) u e in
    rises_from (suc i) (enter k s) (after q s) p u h.2 j (omega arith)

pub positions_rise : (p : Program) (u : Unit {0}) → positions_fit (placed p) ≡ ok u → (j : ℕ) → j < length p → position p j ≤ position p (suc j)
unfolding positions_fit placed position
positions_rise p u e j l = rises_from 0 0 0 p u e j l

-- ---- the passes in their order

module _ (p : Program) where
  pub twice_refused : (q : Refusal) → Err q ≡ checked_as (no_name_twice [] (placed p)) → names_judged p ≡ no q
  unfolding names_judged ◌>>◌
  twice_refused q e = rw (refused_is (no_name_twice [] (placed p)) q e)

  pub once_passes : (Ok tt) ≡ checked_as (no_name_twice [] (placed p)) → no_name_twice [] (placed p) ≡ ok tt
  once_passes e = (passed_is (no_name_twice [] (placed p)) e).1

  module _ (once : no_name_twice [] (placed p) ≡ ok tt) where
    pub fit_refused : (q : Refusal) → Err q ≡ checked_as (positions_fit (placed p)) → names_judged p ≡ no q
    unfolding names_judged ◌>>◌
    fit_refused q e = rw (once, refused_is (positions_fit (placed p)) q e)

    pub defined_last : (Ok tt) ≡ checked_as (positions_fit (placed p)) → names_judged p ≡ define_all [] (placed p)
    unfolding names_judged ◌>>◌
    defined_last e = rw (once, (passed_is (positions_fit (placed p)) e).1)

-- ---- what is left in the tables

pub named_of : (t : Slots) (contexts names old : List ℕ) → NamesIn t old names → Placed t contexts → Named (program_of t) t.count names contexts
named_of t contexts names old h c =
    record {
      count = length_program t;
      name = λ i l.
          ap as_name (at_program t i l) ∙ h.two_byte i l
          ∙ sym (ap name_said (get_filled (λ j. name_in (slot_at t j)) t.count names (drop t.count old) i 0 h.names l));
      context = c.context;
    }

-- links and values say what the names of a program mean, where they are the names that valuing the variables left
pub says_of : (t : Slots) (links : List ℕ) (values : List ℤ) → Beside t.frames t.starts t.count links → InPlace t → ShownTo t values t.count
    → names_of (program_of t) ≡ entries_of (names_now t) (contexts_read t.frames t.starts t.count) values t.count → Says t (names_of (program_of t)) links values
says_of t links values b c shown e =
    let names = names_read t.frames t.starts t.count in
    let contexts = contexts_read t.frames t.starts t.count in
    record {
      full = b.full;
      linked = λ i l. rw (e, ← c.context i l)
          (links_say names (names_now t) contexts values t.count (get_or contexts i 0) t.count (frame_at t.frames t.starts i) (frame_at links t.starts i) (omega arith) (b.place i l) shown);
    }

-- the names that stand are those of the program
pub names_are : (p : Program) (names : List Entry) → define_all [] (placed p) ≡ ok names → names_of p ≡ names
unfolding names_of judged_or
names_are p names e = rw e

module _ (t : Slots) (links : List ℕ) (values : List ℤ) (positions : List ℕ) where
  pub prepared_refused : (q : Refusal) → names_judged (program_of t) ≡ no q → Prepared t links values positions (Err q)
  prepared_refused q e = record { answer = sym (ap checked_as e); filled = λ z. absurd (let w : ◌≡◌ {A = ℕ} 0 1 = cc in omega arith) }

  pub prepared_last : (r s : Result (Unit {0}) Refusal) (old : List ℕ) (before : List ℤ) → Beside t.frames t.starts t.count links → InPlace t
      → Once t → s ≡ Ok tt → LaidOut t s old positions
      → Defined t (names_now t) (contexts_read t.frames t.starts t.count) r before values → (r ≡ Ok tt → ShownTo t values t.count) → Prepared t links values positions r
  prepared_last r s old before b c once fits laid defined shown =
      let p = program_of t in
      let good : LaidOut t (Ok tt) old positions = rw fits at laid in
      let last = defined_last p once good.answer in
      record {
        answer = defined.answer ∙ ap checked_as (sym last);
        filled = λ z.
            let stand = names_are p _ (defined.entries z) in
            record {
              entries = last ∙ defined.entries z ∙ ap ok (sym stand);
              says = says_of t links values b c (shown z) stand;
              place = λ i l. get_filled (position p) (t.count + 1) positions (drop (t.count + 1) old) i 0 good.positions (omega arith);
              low = λ i l. good.small i l;
              rises = λ i l. positions_rise p (passed_is (positions_fit (placed p)) good.answer).0 (passed_is (positions_fit (placed p)) good.answer).1 i (rw (length_program t) l);
            };
      }
