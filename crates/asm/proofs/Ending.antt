-- The verdict: the names' refusal, or the encoding's where the names stand, and what the tables then hold.
use mathlib.Core.Path.{◌≡◌, refl, sym, ap, ◌∙◌}
use mathlib.Core.List.{List, []}
use mathlib.Core.Bool.{Bool, true, false, ◌&&◌}
use Prim.Native.Nat.{ℕ, suc}
use native.Mathlib.Omega.{arith}
use lib.IntN.{ℤ}
use Rattle.std.specs.Prelude.{Err, Result}
use Rattle.laws.proofs.Tests.{false_true}
use Rattle.rules.specs.declared.Refusal.{Refusal}
use Rattle.rules.specs.Answers.{Judged, ok, no, Check, ◌>>=◌, ◌>>◌, is_ok}
use Rattle.rules.specs.Programs.{Program}
use Rattle.rules.specs.Names.{Entry, placed}
use Rattle.rules.specs.Judging.{no_name_twice, positions_fit, define_all, encode_all, names_of, judge, assembles}
use Rattle.slots.specs.Slots.{Slots, program_of, Sound}
use Rattle.slots.specs.Links.{contexts_read, Beside, Together}
use Rattle.env.specs.Answers.{checked_as as env_checked_as}
use Rattle.env.specs.Settling.{Settled}
use Rattle.env.proofs.Programs.{length_program}
use Rattle.image.specs.Tables.{Tables, Ready}
use Rattle.image.specs.Encoding.{checked_as, encode_slots}
use Rattle.asm.specs.Assembling.{names_judged, InPlace, Once, Filled, Prepared}
use Rattle.asm.specs.Verdicts.{verdict_as, JudgedAs}
use Rattle.asm.proofs.Passing.{refused_is, defined_last, names_are, positions_rise, says_of}

-- an answer of the encoding pass, as a verdict
pub as_verdict : {A : Type 0} (x : Judged A) → checked_as x ≡ verdict_as x
as_verdict (ok a) = refl
as_verdict (no r) = refl

-- ---- judging is naming, then encoding

judge_names : (p : Program) → judge p ≡ names_judged p >>= (λ names. encode_all names p (placed p))
unfolding judge names_judged ◌>>=◌ ◌>>◌
judge_names p = on (no_name_twice [] (placed p)) (positions_fit (placed p)) refl refl
  where
    on : (a b : Check) → no_name_twice [] (placed p) ≡ a → positions_fit (placed p) ≡ b → judge p ≡ names_judged p >>= (λ names. encode_all names p (placed p))
    on (ok u) (ok v) e f = rw (e, f)
    on (ok u) (no r) e f = rw (e, f)
    on (no q) b e f = rw e

judge_refused : (p : Program) (q : Refusal) → names_judged p ≡ no q → judge p ≡ no q
unfolding ◌>>=◌
judge_refused p q e = judge_names p ∙ rw e

judge_encodes : (p : Program) (names : List Entry) → names_judged p ≡ ok names → judge p ≡ encode_all names p (placed p)
unfolding ◌>>=◌
judge_encodes p names e = judge_names p ∙ rw e

-- ---- the tables

module _ (t : Slots) (links : List ℕ) (values : List ℤ) (positions : List ℕ) where
  abbrev pub held : Tables
  held =
      record {
        slots = t;
        entries = names_of (program_of t);
        contexts = contexts_read t.frames t.starts t.count;
        links = links;
        values = values;
        positions = positions;
      }

  pub ready_of : Sound t → Together t → InPlace t → Filled t links values positions → Ready held
  ready_of s g c f =
      record {
        sound = s;
        says = f.says;
        together = g;
        context = c.context;
        position = f.place;
        rises = λ i l. rw (f.place i (omega arith), f.place (suc i) l) (f.rises i l);
        low = λ i l. rw (f.place i l) (f.low i l);
      }

  pub judged_refused : (r : Result (Unit {0}) Refusal) (q : Refusal) → Prepared t links values positions r → r ≡ Err q → JudgedAs held (Err q)
  judged_refused r q h e =
      let n = judge_refused (program_of t) q (refused_is (names_judged (program_of t)) q (sym e ∙ h.answer)) in
      record {
        answer = sym (ap verdict_as n);
        ready = λ z. absurd (let w : ◌≡◌ {A = ℕ} 0 1 = cc in omega arith);
        encodes = λ z. absurd (let w : ◌≡◌ {A = ℕ} 0 1 = cc in omega arith);
      }

  pub judged_last : (v : Result (Unit {0}) Refusal) → Sound t → Together t → InPlace t → Filled t links values positions → v ≡ verdict_as (encode_slots held) → JudgedAs held v
  unfolding encode_slots
  judged_last v s g c f e =
      let n = judge_encodes (program_of t) (names_of (program_of t)) f.entries in
      record { answer = e ∙ ap verdict_as (sym n); ready = λ z. ready_of s g c f; encodes = λ z. n }

  -- ---- the same as a test

  -- what one pass over positions and values leaves
  pub filled_of : Beside t.frames t.starts t.count links → InPlace t → Once t → (r : Bool) → r ≡ true → Settled t r positions values → Filled t links values positions
  filled_of b c once r e h =
      let p = program_of t in
      let stand = names_are p _ (h.entries e) in
      record {
        entries = defined_last p once (sym (ap (λ x. env_checked_as x) (h.fits e))) ∙ h.entries e ∙ ap ok (sym stand);
        says = says_of t links values b c (h.tables e).shown stand;
        place = (h.tables e).held;
        low = (h.tables e).small;
        rises = λ i l. positions_rise p tt (h.fits e) i (rw (length_program t) l);
      }

  pub fails_settled : Once t → (r : Bool) → r ≡ false → Settled t r positions values → false ≡ assembles (program_of t)
  unfolding assembles names_judged is_ok ◌>>◌
  fails_settled once r e h = on (positions_fit (placed p)) (define_all [] (placed p)) refl refl (sym e ∙ h.answer)
    where
      p : Program
      p = program_of t

      fails : (q : Refusal) → names_judged p ≡ no q → false ≡ assembles p
      fails q z = sym (ap (λ x. is_ok x) (judge_refused p q z))

      on : (a : Check) (b : Judged (List Entry)) → positions_fit (placed p) ≡ a → define_all [] (placed p) ≡ b → false ≡ is_ok a && is_ok b → false ≡ assembles p
      on (ok u) (ok v) f d z = false_true z
      on (ok u) (no q) f d z = fails q (rw (once, f, d))
      on (no q) b f d z = fails q (rw (once, f))

  pub assembles_last : (b : Bool) → Filled t links values positions → b ≡ is_ok (encode_slots held) → b ≡ assembles (program_of t)
  unfolding assembles encode_slots
  assembles_last b f e = e ∙ sym (ap (λ x. is_ok x) (judge_encodes (program_of t) (names_of (program_of t)) f.entries))
