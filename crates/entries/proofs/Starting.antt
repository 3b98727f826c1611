-- The state of a listing as read: sound, with its own forms and targets, every row whole.
use mathlib.Core.Path.{◌≡◌, sym, ap, ◌∙◌, subst}
use mathlib.Core.List.{List, ◌++◌}
use Prim.Native.Nat.{ℕ, ◌<◌}
use native.Mathlib.Omega.{arith}
use lib.ListN.{length, get_or, drop, replicate, get_or-replicate, length-replicate}
use Rattle.laws.specs.Counts.{tab}
use Rattle.laws.proofs.Counts.{length_tab}
use Rattle.laws.proofs.Stores.{front_length}
use Rattle.listing.specs.Tables.{frame_at, input_of, form_in, Held}
use Rattle.slots.specs.Slots.{Slots, slots, no_owner, program_of, Sound}
use Rattle.slots.specs.State.{forms_in, carry_in, owners_in, offsets_in, table_of}
use Rattle.slots.specs.Links.{Together}
use Rattle.env.proofs.Filled.{get_filled}
use Rattle.asm.specs.Assembling.{Whole}
use Rattle.asm.specs.Starting.{Started}
use Rattle.asm.proofs.Started.{sound_start, program_as_read}
use Rattle.anchors.specs.Anchored.{AsRead}
use Rattle.entries.specs.Optimizing.{Full}
use Rattle.entries.proofs.Stands.{own_together, whole_start}

module _ (frames starts : List ℕ) (n : ℕ) (h : Held frames starts n) (state : List (List ℕ)) (s : Started frames starts n state) where
  abbrev read : Slots
  read = slots frames starts n (forms_in state) (carry_in state) (owners_in state) (offsets_in state)

  -- the frames begin where they were read
  table_is : table_of frames state n ≡ read
  table_is = ap (λ (l : List ℕ). slots frames l n (forms_in state) (carry_in state) (owners_in state) (offsets_in state)) s.begins

  own : (i : ℕ) → i < n → get_or (forms_in state) i 0 ≡ form_in (frame_at frames starts i)
  own i l = s.forms i l

  mine : (i : ℕ) → i < n → get_or (carry_in state) i 0 ≡ i
  mine i l = get_filled (λ k. k) n _ _ i 0 s.carry l

  free : (c : ℕ) → c < n → get_or (owners_in state) c 0 ≡ no_owner
  free c l = ap (λ (z : List ℕ). get_or z c 0) s.owners ∙ get_or-replicate 1025 c no_owner 0 (omega (arith, h.few))

  pub start_sound : Sound (table_of frames state n)
  start_sound = subst (λ (t : Slots). Sound t) (sym table_is) (sound_start frames starts n h _ _ _ _ own mine free)

  pub start_program : program_of (table_of frames state n) ≡ input_of frames starts n
  start_program = ap program_of table_is ∙ program_as_read frames starts n h _ _ _ _ own mine free

  pub start_read : AsRead (table_of frames state n)
  start_read = record { own = mine; free = free }

  pub start_together : Together (table_of frames state n)
  start_together = own_together (table_of frames state n) mine

  pub start_whole : Whole (table_of frames state n)
  start_whole = whole_start frames starts n (forms_in state) h own

  -- a row filled from the front stays as long as it was
  row_full : (F : ℕ → ℕ) (l old : List ℕ) → length old ≡ 1025 → l ≡ tab F n ++ drop n old → length l ≡ 1025
  row_full F l old k e = front_length (tab F n) old l n e (length_tab F n) (omega (arith, h.few, k)) ∙ k

  pub start_full : Full state
  start_full =
      record {
        forms = s.full;
        carry = row_full _ _ (replicate 1025 0) (length-replicate {A = ℕ} 1025 0) s.carry;
        owners = ap length s.owners ∙ length-replicate {A = ℕ} 1025 1024;
        offsets = ap length s.offsets ∙ length-replicate {A = ℕ} 1025 0;
      }
