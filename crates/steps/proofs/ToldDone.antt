-- The rewrites that are told, done one by one on the input, give the end form of the text; its refusals are the run's, and 3,072 lines are room enough.
use mathlib.Core.Path.{◌≡◌, refl, sym, ap, ◌∙◌}
use mathlib.Core.List.{List}
use mathlib.Core.Logic.{◌⊎◌, inl, inr, ⊎_elim}
use mathlib.Core.Option.{some}
use mathlib.Core.Bool.{Bool, true, false}
use Prim.Native.Nat.{ℕ, ◌≤◌, ◌<◌}
use native.Mathlib.Omega.{arith}
use lib.Dec.{eqb, leb}
use lib.ListN.{length}
use borrow.Author.Tests.{eqb-true, leb-false}
use Rattle.laws.proofs.Lists.{total_bound}
use Rattle.laws.proofs.Options.{given_some, bind_some}
use Rattle.laws.proofs.Tests.{clash, and_true}
use Rattle.rules.specs.declared.Settings.{Settings}
use Rattle.rules.specs.declared.Refusal.{Refusal}
use Rattle.rules.specs.declared.Refusal.TheVariants.{Room}
use Rattle.rules.specs.Answers.{Judged, ok, no, ◌>>=◌, require}
use Rattle.rules.specs.Forms.{size_at}
use Rattle.rules.specs.Programs.{Stmt, Program, at}
use Rattle.rules.specs.Rewriting.{anchor, instr_bytes}
use Rattle.rules.specs.Run.{Output, output_of, rewritten}
use Rattle.rules.proofs.Laws.{require_ok, by_instr, other}
use Rattle.instruction.proofs.Numbers.{size_bound}
use Rattle.promises.proofs.Accepted.{accepted_iff}
use Rattle.promises.proofs.Listings.{read_limits}
use Rattle.promises.proofs.RunEnds.{rewrites_bound}
use Rattle.starting.specs.Begun.{accepted}
use Rattle.starting.proofs.Accepts.{accepted_of, accepted_input, accepted_run, run_accepted, accepted_never_12}
use Rattle.steps.specs.declared.Seat.{Seat}
use Rattle.steps.specs.Steps.{Rewrite, seat_of, same_seat, steps, step_lines, doing_as, doing, doing_all}
use Rattle.steps.specs.Entry.{told}
use Rattle.steps.specs.Promise.{Seated, ToldDone, AsRun}
use Rattle.steps.proofs.Done.{as_done}
use Rattle.steps.proofs.Walks.{length_lines}

-- ---- one rewrite
seat_is : (a b : Seat) → same_seat a b ≡ true → a ≡ b
seat_is a b e =
    let h = and_true (eqb a.form b.form) (eqb a.carried b.carried) e in
    let f = eqb-true a.form b.form h.0 in
    let c = eqb-true a.carried b.carried h.1 in
    λ i. record { form = f i; carried = c i }

-- seated: a line whose carried place is not the one that stands there cannot be done
pub seated : (p q : Program) (r : Rewrite) → doing p r ≡ some q → Seated p q r
unfolding doing
seated p q r e =
    let first = given_some (same_seat (seat_of (at p r.place)) r.old) _ q e in
    let then = bind_some (doing_as r.rule p r.place r.old.form r.new.form) _ q first.1 in
    let last = given_some (same_seat (seat_of (at then.0 r.place)) r.new) (some then.0) q then.2 in
    let z = last.1 in
    let y : q ≡ then.0 = cc in
    record { old = seat_is _ r.old first.0; new = ap (λ (s : Program). seat_of (at s r.place)) y ∙ seat_is _ r.new last.0 }

-- ---- an instruction has three bytes at most
instr_few : (s : Stmt) → instr_bytes s ≤ 3
instr_few = by_instr (λ s. instr_bytes s ≤ 3) (λ f xs c. size_bound f) (λ s e. omega (arith, other {X = ℕ} 0 (λ x. size_at x.form) s e))

module _ (asked : Settings) (text : List ℕ) (room : ℕ) where
  told_in : (p : Program) → accepted text ≡ ok p
      → told asked text room ≡ require (leb (length (step_lines (steps asked p))) room) (Room (length p)) (ok (steps asked p))
  unfolding told ◌>>=◌
  told_in p e = rw e

  told_no : (r : Refusal) → accepted text ≡ no r → told asked text room ≡ no r
  unfolding told ◌>>=◌
  told_no r e = rw e

  told_of : (rs : List Rewrite) → told asked text room ≡ ok rs → (p : Program) × (accepted text ≡ ok p) × (rs ≡ steps asked p)
  told_of rs e = on (accepted text) refl
    where
      on : (x : Judged Program) → accepted text ≡ x → (p : Program) × (accepted text ≡ ok p) × (rs ≡ steps asked p)
      on (ok p) d =
          let z = (require_ok (leb (length (step_lines (steps asked p))) room) (Room (length p)) (ok (steps asked p)) rs (sym (told_in p d) ∙ e)).1 in
          let y : rs ≡ steps asked p = cc in
          (p, d, y)
      on (no r) d = let z : no r ≡ ok rs = sym (told_no r d) ∙ e in clash (cc)

  -- told-done: as many rewrites as the 7F line of any run counts, and one by one they lead to the end form
  pub told_done : (rs : List Rewrite) → told asked text room ≡ ok rs → ToldDone asked text rs
  unfolding output_of
  told_done rs e =
      let t = told_of rs e in
      let p = t.0 in
      let done = as_done asked p (accepted_input text p t.1) in
      record {
        program = p;
        reads = t.1;
        done = ap (doing_all (anchor p)) t.2 ∙ done.done;
        counted = λ o a b h.
            let i = (accepted_iff asked text a b o).0 h in
            let same : ok p ≡ ok i.program = sym t.1 ∙ accepted_of text i.program i.image i.keeps_rules i.assembles in
            let z : p ≡ i.program = cc in
            ap length t.2 ∙ done.counted ∙ ap (λ (q : Program). (rewritten asked q).count) z ∙ sym (ap (λ (y : Output). y.count) i.result);
      }

  -- ---- refusals
  abbrev Short : Refusal → Type 0
  Short r = (p : Program) × (accepted text ≡ ok p) × (r ≡ Room (length p)) × (room < length (step_lines (steps asked p)))

  refusal_is : (r : Refusal) → told asked text room ≡ no r → (accepted text ≡ no r) ⊎ Short r
  unfolding require
  refusal_is r e = on (accepted text) refl
    where
      short : (p : Program) → accepted text ≡ ok p → (b : Bool) → leb (length (step_lines (steps asked p))) room ≡ b
          → require b (Room (length p)) (ok (steps asked p)) ≡ no r → Short r
      short p d true l z = clash (cc)
      short p d false l z = let y : r ≡ Room (length p) = cc in (p, d, y, leb-false _ room l)

      on : (x : Judged Program) → accepted text ≡ x → (accepted text ≡ no r) ⊎ Short r
      on (ok p) d = inr (short p d (leb (length (step_lines (steps asked p))) room) refl (sym (told_in p d) ∙ e))
      on (no q) d = let z : no q ≡ no r = sym (told_no q d) ∙ e in let y : q ≡ r = cc in inl (d ∙ ap no y)

  is_short : (n : ℕ) → told asked text room ≡ no (Room n) → (p : Program) × (accepted text ≡ ok p) × (n ≡ length p) × (room < length (step_lines (steps asked p)))
  is_short n e = ⊎_elim (λ h. absurd (accepted_never_12 text asked n h)) found (refusal_is (Room n) e)
    where
      found : Short (Room n) → (p : Program) × (accepted text ≡ ok p) × (n ≡ length p) × (room < length (step_lines (steps asked p)))
      found h = let z = h.2 in let y : n ≡ length h.0 = cc in (h.0, h.1, y, h.3)

  -- 3,072 lines of 21 characters
  few_lines : (p : Program) → accepted text ≡ ok p → length (step_lines (steps asked p)) ≤ 64512
  few_lines p d =
      let i = accepted_input text p d in
      let b = rewrites_bound asked p in
      omega (
        arith,
        length_lines (steps asked p),
        (as_done asked p i).counted,
        b.counted,
        b.bounded,
        total_bound instr_bytes 3 p instr_few,
        (read_limits i.text p i.reads).0,
      )

  -- as-run: refusals are the run's, and 12 is given of a room that is too short alone
  pub as_run : AsRun asked text room
  as_run =
      record {
        refused = λ r n e a b. ⊎_elim (λ h. accepted_run text asked r a b h) (λ h. absurd (n (length h.0) h.2)) (refusal_is r e);
        back = λ r n a b e. told_no r (run_accepted text asked r a b n e);
        short = is_short;
        enough = λ n l e. let s = is_short n e in omega (arith, l, few_lines s.0 s.1, s.3);
      }
