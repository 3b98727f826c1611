-- The listing as it was read: the tables of its names and contexts are those that links speak of.
use mathlib.Core.Path.{◌≡◌, refl, sym, ap, ◌∙◌}
use mathlib.Core.List.{List}
use Prim.Native.Nat.{ℕ, ◌<◌}
use native.Mathlib.Omega.{arith}
use lib.ListN.{length, get_or, drop}
use Rattle.laws.proofs.Counts.{length_tab, get_or_tab}
use Rattle.rules.specs.Programs.{Placeℕ, Stmt, gone, instr, label, variable, comment, org, bytes, words, pad, Instruction, on_instr, at, as_name}
use Rattle.rules.specs.Names.{enter, context_at}
use Rattle.expression.specs.Linked.{Links}
use Rattle.listing.specs.Tables.{frame_at, input_at, input_of}
use Rattle.slots.specs.Slots.{Slots, written, reformed, slot_at, program_of}
use Rattle.slots.specs.Links.{name_in, names_read, contexts_read, Beside}
use Rattle.slots.proofs.Slots.{slot_kept}
use Rattle.slots.proofs.Linking.{name_read, context_read}
use Rattle.env.specs.Tables.{NamesIn}
use Rattle.env.proofs.Programs.{length_program, at_program}
use Rattle.env.proofs.Filled.{get_filled}
use Rattle.asm.specs.Assembling.{Placed, Whole, InPlace}
use Rattle.asm.proofs.Carrying.{context_same}

-- what no instruction tells is the same of an instruction that changed
kept : (F : Stmt → ℕ) (f : Instruction → Stmt) → ((x : Instruction) (g : ℕ) → F (f x) ≡ F (instr x.form x.args x.carried)) → (s : Stmt) → F (on_instr s f s) ≡ F s
kept F f e gone = refl
kept F f e (instr g xs c) = e _ 0
kept F f e (label n) = refl
kept F f e (variable n d) = refl
kept F f e (comment x) = refl
kept F f e (org l) = refl
kept F f e (bytes es) = refl
kept F f e (words es) = refl
kept F f e (pad add m) = refl

module _ (t : Slots) (whole : Whole t) where
  name_kept : (i : Placeℕ) → i < t.count → name_in (slot_at t i) ≡ name_in (input_at t.frames t.starts i)
  unfolding as_name
  name_kept i l = ap name_in (slot_kept t i (whole i l)) ∙ kept name_in (reformed t i) (λ x g. refl) (written t i)

  at_input : (i : Placeℕ) → i < t.count → at (input_of t.frames t.starts t.count) i ≡ input_at t.frames t.starts i
  unfolding input_of
  at_input i l = get_or_tab (input_at t.frames t.starts) t.count i gone l

  length_input : length (input_of t.frames t.starts t.count) ≡ t.count
  unfolding input_of
  length_input = length_tab (input_at t.frames t.starts) t.count

  pub context_kept : (i : Placeℕ) → context_at (program_of t) i ≡ context_at (input_of t.frames t.starts t.count) i
  unfolding context_at
  context_kept i =
      context_same 0 (program_of t) (input_of t.frames t.starts t.count) (length_program t ∙ sym length_input)
      (λ j m l.
      let k : j < t.count = omega (arith, length_program t) in
      ap (enter m) (at_program t j k ∙ slot_kept t j (whole j k)) ∙ kept (enter m) (reformed t j) (λ x g. refl) (written t j) ∙ sym (ap (enter m) (at_input j k)))
      i

  pub whole_placed : InPlace t
  whole_placed = record { context = λ i l. context_read t.frames t.starts t.count i l ∙ sym (context_kept i) }

  pub beside_of : (names contexts old links : List ℕ) → NamesIn t old names → Placed t contexts → length links ≡ 28672
      → ((c : ℕ) → c < t.count → Links names contexts t.count (get_or contexts c 0) (frame_at t.frames t.starts c) (frame_at links t.starts c))
      → Beside t.frames t.starts t.count links
  beside_of names contexts old links n p full h =
      let same_name : (i : ℕ) → i < t.count → get_or (names_read t.frames t.starts t.count) i 0 ≡ get_or names i 0 =
      (λ i l. name_read t.frames t.starts t.count i l ∙ sym (name_kept i l) ∙ sym (get_filled (λ j. name_in (slot_at t j)) t.count names (drop t.count old) i 0 n.names l)) in
      let same_context : (i : ℕ) → i < t.count → get_or (contexts_read t.frames t.starts t.count) i 0 ≡ get_or contexts i 0 =
      (λ i l. whole_placed.context i l ∙ sym (p.context i l)) in
      record {
        full = full;
        place = λ c l. record { place = λ j q g i m. rw (same_name i m, same_context i m, same_context c l) ((h c l).place j q g i m) };
      }
