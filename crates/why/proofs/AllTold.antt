-- "At the end form every candidate has such a reason, so the list is complete": of what the entry tells.
use mathlib.Core.Path.{◌≡◌, refl, sym, ap, ◌∙◌}
use mathlib.Core.List.{List}
use mathlib.Core.Bool.{Bool, true, false}
use mathlib.Core.Option.{none}
use Prim.Native.Nat.{ℕ, ◌≤◌}
use native.Mathlib.Omega.{arith}
use lib.Dec.{leb}
use lib.ListN.{length}
use borrow.Author.Tests.{le-leb}
use Rattle.laws.specs.Lists.{every, total}
use Rattle.laws.proofs.Tests.{clash}
use Rattle.rules.specs.declared.Settings.{Settings}
use Rattle.rules.specs.declared.Refusal.TheVariants.{Room}
use Rattle.rules.specs.Answers.{Judged, ok, no, require}
use Rattle.rules.specs.Programs.{Program}
use Rattle.rules.specs.Rewriting.{anchor, step, optimized, instr_bytes}
use Rattle.rules.specs.Run.{Output, output_of, rewritten}
use Rattle.promises.proofs.Accepted.{accepted_iff}
use Rattle.promises.proofs.Anchors.{instr_bytes_anchor, length_anchor}
use Rattle.promises.proofs.Chains.{chain_ends, chain_keeps}
use Rattle.promises.proofs.Listings.{read_limits}
use Rattle.promises.proofs.Weights.{step_length}
use Rattle.starting.specs.Begun.{accepted}
use Rattle.starting.proofs.Accepts.{accepted_of, accepted_input, accepted_run, accepted_never_12}
use Rattle.staying.specs.Reasons.{Why, whys}
use Rattle.staying.specs.Lines.{why_lines}
use Rattle.staying.specs.Promise.{is_reason, all_stay}
use Rattle.staying.proofs.Complete.{complete}
use Rattle.staying.proofs.Listed.{listed}
use Rattle.staying.proofs.Exactly.{exactly}
use Rattle.staying.proofs.Few.{few}
use Rattle.why.specs.Entry.{Told, end_told, chain_told, told_in, told}
use Rattle.why.specs.Promise.{AllTold, AsRun}
use Rattle.why.proofs.Walks.{length_lines}
use Rattle.why.proofs.Told.{told_no, told_ok}

-- the end form has a slot for each statement
end_length : (asked : Settings) (p : Program) → length (optimized asked p).program ≡ length p
unfolding optimized
end_length asked p = chain_keeps asked (λ q. length q ≡ length p) (λ r t st h. step_length r t st ∙ h) (total instr_bytes p) (anchor p) (length_anchor p)

-- what fits in the room is what was to be told
fitted : (n : ℕ) (x : Told) (room : ℕ) (y : Told) → told_in n x room ≡ ok y → y ≡ x
unfolding told_in require
fitted n x room y e = on (leb (length (why_lines x.whys)) room) e
  where
    on : (b : Bool) → require b (Room n) (ok x) ≡ ok y → y ≡ x
    on true h = cc
    on false h = clash (cc)

module _ (asked : Settings) (text : List ℕ) (room : ℕ) where
  -- a listing whose reasons are told is accepted, and they are its end form's
  told_of : (x : Told) → told asked text room ≡ ok x → (p : Program) × (accepted text ≡ ok p) × (x ≡ chain_told asked (optimized asked p))
  told_of x e = on (accepted text) refl
    where
      on : (y : Judged Program) → accepted text ≡ y → (p : Program) × (accepted text ≡ ok p) × (x ≡ chain_told asked (optimized asked p))
      on (ok p) d = (p, d, fitted (length p) (chain_told asked (optimized asked p)) room x (sym (told_ok asked text room p d) ∙ e))
      on (no r) d = let z : ok x ≡ no r = sym e ∙ told_no asked text room r d in clash (cc)

  -- no rewrite remains of the end form
  ends : (p : Program) → step asked (optimized asked p).program ≡ none
  unfolding optimized
  ends p = (chain_ends asked (total instr_bytes p) (anchor p) (omega (arith, instr_bytes_anchor p))).0

  -- all_told: each line has a reason, and whatever the next rewrite could be, a line tells of it
  pub all_told : (x : Told) → told asked text room ≡ ok x → AllTold asked text x
  unfolding end_told all_stay
  all_told x e =
      let o = told_of x e in
      let end = (optimized asked o.0).program in
      let at_end : x.whys ≡ whys asked end = ap (λ (y : Told). y.whys) o.2 in
      record {
        program = o.0;
        accepted_as = o.1;
        at_end = at_end;
        ended = ends o.0;
        reasoned = ap (every (λ (w : Why). is_reason w.reason)) at_end ∙ (complete asked end).reasoned (ends o.0);
        complete = complete asked end;
        listed = listed asked end;
        exactly = exactly asked end;
      }

  -- two lines for each of 1,024 statements
  short : (p : Program) → accepted text ≡ ok p → length (why_lines (whys asked (optimized asked p).program)) ≤ 55296
  short p d =
      let i = accepted_input text p d in
      let end = (optimized asked p).program in
      omega (arith, length_lines (whys asked end), few asked end, end_length asked p, (read_limits i.text p i.reads).0)

  enough : (n : ℕ) → 55296 ≤ room → told asked text room ≡ no (Room n) → ⊥
  unfolding told_in end_told require
  enough n l e = on (accepted text) refl
    where
      on : (y : Judged Program) → accepted text ≡ y → ⊥
      on (ok p) d =
          let x = chain_told asked (optimized asked p) in
          let fits : leb (length (why_lines (whys asked (optimized asked p).program))) room ≡ true = le-leb _ room (omega (arith, l, short p d)) in
          let z : no (Room n) ≡ ok x = sym e ∙ told_ok asked text room p d ∙ ap (λ (b : Bool). require b (Room (length p)) (ok x)) fits in
          clash (cc)
      on (no r) d =
          let z : no r ≡ no (Room n) = sym (told_no asked text room r d) ∙ e in
          let y : r ≡ Room n = cc in
          accepted_never_12 text asked n (d ∙ ap no y)

  -- as-run: refusals are the run's, and so is the count of rewrites
  pub as_run : AsRun asked text room
  unfolding end_told output_of rewritten
  as_run =
      record {
        refused = told_no asked text room;
        as_run = λ r e a b. accepted_run text asked r a b e;
        enough = enough;
        counted = λ x o a b e h.
            let t = told_of x e in
            let i = (accepted_iff asked text a b o).0 h in
            let same : ok t.0 ≡ ok i.program = sym t.1 ∙ accepted_of text i.program i.image i.keeps_rules i.assembles in
            let z : t.0 ≡ i.program = cc in
            ap (λ (y : Told). y.rewrites) t.2 ∙ ap (λ (p : Program). (optimized asked p).count) z ∙ sym (ap (λ (y : Output). y.count) i.result);
      }
