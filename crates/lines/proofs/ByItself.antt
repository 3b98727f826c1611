-- A line by itself: a listing of it alone, behind a mark in the new form. And the number that it is refused with.
use mathlib.Core.Path.{◌≡◌, refl, sym, ap, ◌∙◌}
use mathlib.Core.Bool.{Bool, true, false, cond, ◌||◌}
use mathlib.Core.List.{List, [], ◌∷◌}
use mathlib.Core.Logic.{⊎_elim}
use Prim.Native.Nat.{ℕ, ◌≤◌, ◌<◌}
use native.Mathlib.Omega.{arith}
use lib.Dec.{eqb}
use lib.ListN.{length}
use borrow.Author.Tests.{lt-leb, eqb-true}
use types.Run.{OneOf, miss}
use denote.Enum.Declared.{tag_of}
use Rattle.std.specs.Prelude.{Err, Result, Ok}
use Rattle.rules.specs.contracts.Refusal.{the_type}
use Rattle.laws.specs.Lists.{every, same}
use Rattle.laws.proofs.Tests.{and_true, or_true, clash}
use Rattle.laws.proofs.Lists.{same_true}
use Rattle.rules.specs.declared.Refusal.{Refusal}
use Rattle.rules.specs.declared.Refusal.TheVariants.{Broken, Limit, Again, NoName, Back, Beyond, NoValue, Range, Outside, Far, Page, Room, Pairing, Absent, Column, Start, Unknown, Full, Store}
use Rattle.rules.specs.Refusals.{fault_of}
use Rattle.rules.specs.Answers.{at_place, Judged, ok, no, require, ◌>>=◌}
use Rattle.rules.specs.Programs.{Program}
use Rattle.rules.specs.Listing.{Line, lines_of, unhex, old_form, new_form, is_mark, form_in, statement_lines, within_limits, well_formed, take_byte, read_frame, read_lines, read_listing}
use Rattle.listing.specs.Lines.{first_line}
use Rattle.listing.specs.Form.{form_of, is_marked}
use Rattle.listing.specs.Tables.{ListedAs}
use Rattle.listing.proofs.Forms.{mark_form}
use Rattle.promises.proofs.Listings.{read_refuses}
use Rattle.lines.specs.Alone.{by_itself}
use Rattle.lines.specs.Turns.{Numbered, one_or_two, OneLine}
use Rattle.lines.proofs.Feeds.{ended_length, unended_length}

-- ---- a line of the old form that does not mark the new one
module _ (x : List ℕ) (o : OneLine x) where
  form_of_lem : cond (is_mark (first_line x)) new_form old_form ≡ form_of (is_marked x)
  form_of_lem = ap form_in (sym o) ∙ mark_form x

  pub read_old : is_marked x ≡ false → read_listing x ≡ by_itself old_form (first_line x)
  unfolding read_listing by_itself
  read_old m = ap (λ (ls : List Line). read_lines (form_in ls) 0 0 (statement_lines ls)) o ∙ on (is_mark (first_line x))
      (form_of_lem ∙ ap form_of m)
    where
      on : (b : Bool) → cond b new_form old_form ≡ old_form
          → read_lines (cond b new_form old_form) 0 0 (cond b [] (first_line x ∷ [])) ≡ read_lines old_form 0 0 (first_line x ∷ [])
      on true e = clash (cc)
      on false e = refl

  marks : is_marked x ≡ true → is_mark (first_line x) ≡ true
  marks m = on (is_mark (first_line x)) (form_of_lem ∙ ap form_of m)
    where
      on : (b : Bool) → cond b new_form old_form ≡ new_form → b ≡ true
      on true e = refl
      on false e = clash (cc)

  -- "`7D02` anywhere but first is 1": it is no frame
  pub mark_broken : is_marked x ≡ true → by_itself old_form (first_line x) ≡ no (Broken (at_place 0))
  unfolding by_itself read_lines within_limits well_formed every require unhex read_frame take_byte ◌>>=◌
  mark_broken m =
      let t = and_true (same (first_line x).chars (55 ∷ 68 ∷ 48 ∷ 50 ∷ [])) (first_line x).ended (marks m) in
      rw (same_true (first_line x).chars (55 ∷ 68 ∷ 48 ∷ 50 ∷ []) t.0, t.1)

  -- ---- behind a mark
  pub read_new : read_listing (55 ∷ 68 ∷ 48 ∷ 50 ∷ 10 ∷ x) ≡ by_itself new_form (first_line x)
  unfolding read_listing by_itself lines_of same
  read_new = rw o

  -- over 248 characters
  pub long_new : 249 < length x → by_itself new_form (first_line x) ≡ no (Limit (at_place 0))
  unfolding by_itself read_lines within_limits require ◌>>=◌
  long_new h = rw (lt-leb (length (first_line x).chars) 248 (on (first_line x).ended refl))
    where
      on : (b : Bool) → (first_line x).ended ≡ b → 248 < length (first_line x).chars
      on true e = omega (arith, ended_length x o e)
      on false e = omega (arith, unended_length x o e)

-- ---- the number of a refusal
one_two : (n : ℕ) → eqb 1 n || (eqb 2 n || false) ≡ true → (cond (eqb n 2) 2 1 ≡ n) × (1 ≤ cond (eqb n 2) 2 1)
one_two n h =
    ⊎_elim
    (λ e. let z : n ≡ 1 = sym (eqb-true 1 n e) in rw z (refl, omega arith))
    (λ (k : eqb 2 n || false ≡ true). ⊎_elim (λ e. let z : n ≡ 2 = sym (eqb-true 2 n e) in rw z (refl, omega arith)) (λ e. clash (cc))
    (or_true (eqb 2 n) false k))
    (or_true (eqb 1 n) (eqb 2 n || false) h)

-- every refusal but one, by its number among them
pub not_limit : (r : Refusal) → OneOf (0 ∷ 2 ∷ 3 ∷ 4 ∷ 5 ∷ 6 ∷ 7 ∷ 8 ∷ 9 ∷ 10 ∷ 11 ∷ 12 ∷ 13 ∷ 14 ∷ 15 ∷ 16 ∷ 17 ∷ 18 ∷ [])
    (tag_of the_type r) → 1 ≡ one_or_two r
not_limit (Broken i) h = refl
not_limit (Limit i) h = absurd (miss (0 ∷ 2 ∷ 3 ∷ 4 ∷ 5 ∷ 6 ∷ 7 ∷ 8 ∷ 9 ∷ 10 ∷ 11 ∷ 12 ∷ 13 ∷ 14 ∷ 15 ∷ 16 ∷ 17 ∷ 18 ∷ []) 1 tt h)
not_limit (Again i) h = refl
not_limit (NoName i) h = refl
not_limit (Back i) h = refl
not_limit (Beyond i) h = refl
not_limit (NoValue i) h = refl
not_limit (Range i j v) h = refl
not_limit (Outside i j v) h = refl
not_limit (Far i j v) h = refl
not_limit (Page i j v) h = refl
not_limit (Room n) h = refl
not_limit (Pairing k) h = refl
not_limit Absent h = refl
not_limit (Column i k) h = refl
not_limit Start h = refl
not_limit Unknown h = refl
not_limit Full h = refl
not_limit Store h = refl

pub read_number : (frames starts text : List ℕ) (n : ℕ) (r : Result ℕ Refusal) → r ≡ Ok n
    → ListedAs frames starts r (read_listing text) → Numbered (read_listing text) 0
read_number frames starts text n r e h = on (read_listing text) (rw e at h)
  where
    on : (j : Judged Program) → ListedAs frames starts (Ok n) j → Numbered j 0
    on (ok p) h = refl
    on (no q) h = absurd h

pub refused_number : (frames starts text : List ℕ) (q : Refusal) (r : Result ℕ Refusal) → r ≡ Err q → ListedAs frames starts r (read_listing text)
    → Numbered (read_listing text) (one_or_two q)
refused_number frames starts text q r e h = on (read_listing text) refl (rw e at h)
  where
    on : (j : Judged Program) → read_listing text ≡ j → ListedAs frames starts (Err q) j → Numbered j (one_or_two q)
    on (ok p) f h = absurd h
    on (no s) f h = rw h (one_two (fault_of s).number (read_refuses text s f))
