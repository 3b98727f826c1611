-- The positions in one call are those that `where_sits` answers for one statement after the other, and a refusal is the one that it gives for the end.
use mathlib.Core.Path.{◌≡◌, refl, sym, ap, ◌∙◌}
use mathlib.Core.List.{List, [], ◌∷◌}
use Prim.Native.Nat.{ℕ, zero, suc, ◌+◌, ◌≤◌}
use native.Mathlib.Omega.{arith}
use lib.ListN.{length, get_or}
use lib.Seq.{take_all}
use Rattle.laws.proofs.Counts.{get_or_tab}
use Rattle.rules.specs.declared.Refusal.{Refusal}
use Rattle.rules.specs.Answers.{Judged, Check, ok, no, ◌>>=◌, ◌>>◌}
use Rattle.rules.specs.Programs.{Program}
use Rattle.rules.specs.Listing.{Line, lines_of, form_in, statement_lines, read_lines, read_listing}
use Rattle.rules.specs.Layout.{position}
use Rattle.rules.specs.Names.{placed}
use Rattle.rules.specs.Judging.{positions_fit}
use Rattle.rules.proofs.Laws.{then_ok, next_ok}
use Rattle.sits.specs.Sits.{read_before, sits_among, sits}
use Rattle.sits.specs.All.{fitting, laid_out, all_positions, AsEach}
use Rattle.sits.proofs.FullLayout.{before_lines, before_form, full_layout, none_before}

module _ (text : List ℕ) where
  -- an accepted one was read, and its positions fit
  fits_whole : (p : Program) → laid_out text ≡ ok p → (read_listing text ≡ ok p) × (positions_fit (placed p) ≡ ok tt)
  unfolding laid_out fitting
  fits_whole p e =
      let a = then_ok (read_listing text) fitting p e in
      let b = next_ok (positions_fit (placed a.0)) (ok a.0) p a.2 in
      let same : a.0 ≡ p = cc b.2 in
      (a.1 ∙ ap ok same, ap (λ (q : Program). positions_fit (placed q)) (sym same) ∙ b.1)

  each : (p : Program) → laid_out text ≡ ok p → (n : ℕ) → n ≤ length p → sits text n ≡ ok (get_or (all_positions p) n 0)
  each p e n l =
      let a = fits_whole p e in
      (full_layout text p a.0 a.1).there n l ∙ ap ok (sym (get_or_tab (position p) (length p + 1) n 0 (omega arith)))

  abbrev whole : ℕ
  whole = length (statement_lines (lines_of text))

  -- all lines are those before the end
  read_whole : read_before whole (lines_of text) ≡ read_listing text
  unfolding read_before read_listing read_lines
  read_whole = on whole (statement_lines (lines_of text)) refl refl
    where
      on : (n : ℕ) (ls : List Line) → n ≡ length ls → statement_lines (lines_of text) ≡ ls → read_before n (lines_of text) ≡ read_listing text
      on zero [] e z = none_before (lines_of text) ∙ sym (rw z)
      on zero (l ∷ ls) e z = absurd (omega arith)
      on (suc n) ls e z =
          rw (before_form n (lines_of text), before_lines (suc n) (lines_of text), z)
          (ap (read_lines (form_in (lines_of text)) 0 0) (take_all (suc n) ls (omega arith)))

  refusal : (r : Refusal) → laid_out text ≡ no r → sits text whole ≡ no r
  unfolding laid_out fitting sits sits_among ◌>>=◌ ◌>>◌
  refusal r e = on (read_listing text) refl e
    where
      fit : (p : Program) (x : Check) → positions_fit (placed p) ≡ x → (x >> ok p) ≡ no r → sits_among whole p ≡ no r
      fit p (ok u) z h = absurd (let k : ◌≡◌ {A = ℕ} 0 1 = cc in omega arith)
      fit p (no q) z h = let k : q ≡ r = cc in rw z (ap no k)

      on : (x : Judged Program) → read_listing text ≡ x → (x >>= fitting) ≡ no r → sits text whole ≡ no r
      on (ok p) z h = rw (read_whole, z) (fit p (positions_fit (placed p)) refl h)
      on (no q) z h = let k : q ≡ r = cc in rw (read_whole, z) (ap no k)

  -- all-as-each
  pub all_as_each : AsEach text
  all_as_each = record { each = each; refusal = refusal }
