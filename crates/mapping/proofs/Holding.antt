-- The row of a place, by the tables: what the frame and the state say of it, and the addresses of both programs.
use mathlib.Core.Path.{◌≡◌, sym, ap, ◌∙◌}
use mathlib.Core.List.{List, [], ◌∷◌, ◌++◌}
use mathlib.Core.Bool.{Bool, not}
use Prim.Native.Nat.{ℕ, suc, ◌+◌, ◌<◌}
use native.Mathlib.Numerals.{add-one}
use native.Mathlib.Omega.{arith}
use lib.Dec.{leb}
use lib.ListN.{length, get_or}
use Rattle.laws.specs.Lists.{is_one_of}
use Rattle.laws.proofs.Counts.{length_tab, get_or_tab}
use Rattle.rules.specs.Expressions.{four}
use Rattle.rules.specs.Programs.{Placeℕ, gone, is_gone, kind_of, Program, at}
use Rattle.rules.specs.Layout.{position}
use Rattle.listing.specs.Tables.{input_at, input_of, Held}
use Rattle.slots.specs.Slots.{Slots, gone_form, program_of}
use Rattle.slots.specs.State.{starts_in, forms_in, table_of}
use Rattle.patterns.proofs.Programs.{at_program}
use Rattle.output.proofs.Listings.{gone_form_lem}
use Rattle.mapping.specs.Rows.{has_row, is_data, row_at, head_byte, data_byte, row_bytes}
use Rattle.mapping.specs.Entry.{Addressed}

pub length_input : (frames starts : List ℕ) (n : ℕ) → length (input_of frames starts n) ≡ n
unfolding input_of
length_input frames starts n = length_tab (input_at frames starts) n

module _ (frames : List ℕ) (state : List (List ℕ)) (count : ℕ) (i : Placeℕ) (l : i < count) where
  abbrev p : Program
  p = input_of frames (starts_in state) count

  abbrev t : Slots
  t = table_of frames state count

  at_input : at p i ≡ input_at frames (starts_in state) i
  unfolding input_of
  at_input = get_or_tab (input_at frames (starts_in state)) count i gone l

  -- what is asked of a place is whether it has a row
  pub row_asked : (b : Bool) → b ≡ is_one_of (1 ∷ 6 ∷ 7 ∷ []) (kind_of (input_at frames (starts_in state) i)) → b ≡ has_row (at p i)
  row_asked b e = e ∙ ap has_row (sym at_input)

  pub row_is : Held frames (starts_in state) count → (before after r : List ℕ) (none : Bool) (head sort kind : ℕ) → Addressed p count before → Addressed (program_of t) count after
      → none ≡ leb gone_form (get_or (forms_in state) i 0) → head ≡ head_byte (not none) → kind ≡ kind_of (input_at frames (starts_in state) i)
      → sort ≡ data_byte (is_one_of (6 ∷ 7 ∷ []) kind)
      → r ≡ head ∷ sort ∷ (four (get_or before i 0) ++ (four (get_or before (i + 1) 0) ++ (four (get_or after i 0) ++ four (get_or after (i + 1) 0))))
      → r ≡ row_bytes (row_at p (program_of t) i)
  row_is h before after r none head sort kind hb ha en eh ek es er =
      let is_gone_lem : none ≡ is_gone (at (program_of t) i) = en ∙ sym (gone_form_lem t h i l) ∙ ap is_gone (sym (at_program t i l)) in
      let fh : head ≡ head_byte (not (is_gone (at (program_of t) i))) = eh ∙ ap (λ (b : Bool). head_byte (not b)) is_gone_lem in
      let fs : sort ≡ data_byte (is_data (at p i)) = es ∙ ap (λ (n : ℕ). data_byte (is_one_of (6 ∷ 7 ∷ []) n)) (ek ∙ ap kind_of (sym at_input)) in
      let b0 : get_or before i 0 ≡ position p i = hb.address i (omega arith) in
      let b1 : get_or before (i + 1) 0 ≡ position p (suc i) = hb.address (i + 1) (omega arith) ∙ ap (position p) (add-one i) in
      let a0 : get_or after i 0 ≡ position (program_of t) i = ha.address i (omega arith) in
      let a1 : get_or after (i + 1) 0 ≡ position (program_of t) (suc i) = ha.address (i + 1) (omega arith) ∙ ap (position (program_of t)) (add-one i) in
      er ∙ rw (fh, fs, b0, b1, a0, a1)
