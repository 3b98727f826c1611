-- The positions of a whole listing: what reading it and laying it out leaves.
use mathlib.Core.Path.{◌≡◌, refl, sym, ap, ◌∙◌, subst}
use mathlib.Core.List.{List, ◌++◌}
use Prim.Native.Nat.{ℕ, ◌+◌}
use lib.ListN.{length, drop}
use Rattle.std.specs.Prelude.{Result, Err, Ok}
use Rattle.laws.specs.Counts.{tab}
use Rattle.laws.proofs.Counts.{length_tab}
use Rattle.rules.specs.declared.Refusal.{Refusal}
use Rattle.rules.specs.Answers.{Judged, ok, no, ◌>>=◌, ◌>>◌}
use Rattle.rules.specs.Programs.{Program}
use Rattle.rules.specs.Listing.{read_listing}
use Rattle.rules.specs.Layout.{position}
use Rattle.rules.specs.Names.{placed}
use Rattle.rules.specs.Judging.{positions_fit}
use Rattle.rules.specs.Run.{front}
use Rattle.listing.specs.Tables.{input_of, Held, Holds, ListedAs}
use Rattle.slots.specs.State.{starts_in, forms_in}
use Rattle.env.specs.Answers.{checked_as}
use Rattle.env.specs.Tables.{Any, LaidOut}
use Rattle.asm.specs.Starting.{Started}
use Rattle.sits.specs.All.{fitting, laid_out, all_positions, laid_as, table_after, Places}
use Rattle.sits.proofs.Laying.{passed, refused, begun, t, left, as_read, answers, many}

-- ---- what laying out leaves
module _ (frames starts : List ℕ) (count : ℕ) (state : List (List ℕ)) (held : Held frames starts count) (filled : Started frames starts count state) where
  abbrev p : Program
  p = input_of frames starts count

  abbrev Laid : (r : Result (Unit {0}) Refusal) (old positions : List ℕ) → Type 0
  Laid r old positions = Any frames (starts_in state) count (forms_in state) (λ t. LaidOut t r old positions)

  module _ (r : Result (Unit {0}) Refusal) (old positions : List ℕ) (laid : Laid r old positions) where
    abbrev at_starts : Any frames starts count (forms_in state) (λ t. LaidOut t r old positions)
    at_starts = begun frames starts count state r old positions filled laid

    answered : r ≡ checked_as (positions_fit (placed p))
    answered = answers frames starts (forms_in state) old positions count held filled.forms r at_starts 0

    -- 5 or 6: the lent table is as it was
    pub places_refused : (q : Refusal) → r ≡ Err q → (table : List ℕ) → Places (fitting p) (Err q) table table
    unfolding fitting ◌>>◌
    places_refused q e table =
        let x : fitting p ≡ no q = rw (refused (positions_fit (placed p)) q (sym e ∙ answered)) in
        record { answer = sym (ap laid_as x); table = sym (ap (λ (y : Judged Program). table_after y table) x) }

    -- what passes has its positions in the table
    pub places_laid : r ≡ Ok tt → Places (fitting p) (Ok count) old positions
    unfolding fitting ◌>>◌
    places_laid e =
        let x : fitting p ≡ ok p = rw (passed (positions_fit (placed p)) (sym e ∙ answered)) in
        let n : length p ≡ count = many frames starts (forms_in state) old positions count held filled.forms r at_starts 0 in
        let g : LaidOut (t frames starts (forms_in state) old positions count held filled.forms r at_starts 0) (Ok tt) old positions =
        rw e at (left frames starts (forms_in state) old positions count held filled.forms r at_starts 0) in
        let q = as_read frames starts (forms_in state) old positions count held filled.forms r at_starts 0 in
        let written : positions ≡ front (all_positions p) old =
        g.positions
        ∙ ap (λ (y : Program). tab (position y) (count + 1) ++ drop (count + 1) old) q
        ∙ ap (λ (m : ℕ). tab (position p) (m + 1) ++ drop (m + 1) old) (sym n)
        ∙ ap (λ (m : ℕ). all_positions p ++ drop m old) (sym (length_tab (position p) (length p + 1))) in
        record { answer = ap Ok (sym n) ∙ sym (ap laid_as x); table = written ∙ sym (ap (λ (y : Judged Program). table_after y old) x) }

-- ---- what reading says of the whole

pub unread_places : {x : Judged Program} {q : Refusal} → x ≡ no q → (table : List ℕ) → Places x (Err q) table table
unread_places e table = record { answer = sym (ap laid_as e); table = sym (ap (λ (y : Judged Program). table_after y table) e) }

pub places_same : {x y : Judged Program} {r : Result ℕ Refusal} {old table : List ℕ} → x ≡ y → Places y r old table → Places x r old table
places_same {r = r} {old = old} {table = table} e h = subst (λ (z : Judged Program). Places z r old table) (sym e) h

module _ (text frames starts : List ℕ) where
  pub all_read : (count : ℕ) (r : Result ℕ Refusal) → r ≡ Ok count → ListedAs frames starts r (read_listing text)
      → Held frames starts count × (laid_out text ≡ fitting (input_of frames starts count))
  unfolding laid_out ◌>>=◌
  all_read count r e h = on (read_listing text) refl h
    where
      on : (x : Judged Program) → read_listing text ≡ x → ListedAs frames starts r x → Held frames starts count × (laid_out text ≡ fitting (input_of frames starts count))
      on (ok p) z h = let g : Holds frames starts count p = rw e at h in (g.held, rw z (ap fitting (sym g.input)))
      on (no q) z h = absurd (rw e at h)

  pub all_unread : (q : Refusal) (r : Result ℕ Refusal) → r ≡ Err q → ListedAs frames starts r (read_listing text) → laid_out text ≡ no q
  unfolding laid_out ◌>>=◌
  all_unread q r e h = on (read_listing text) refl h
    where
      on : (x : Judged Program) → read_listing text ≡ x → ListedAs frames starts r x → laid_out text ≡ no q
      on (ok p) z h = absurd (rw e at h)
      on (no s) z h = let k : q ≡ s = rw e at h in rw z (sym (ap no k))
