-- What is written for a slot: its line by the definition is the bytes that the tables hold for it, as digits: `line_gone`, `line_kept`.
-- Assumes nothing.
use mathlib.Core.Path.{◌≡◌, refl, sym, ap, ◌∙◌}
use mathlib.Core.List.{List, [], ◌∷◌, ◌++◌, append-nil}
use mathlib.Core.Logic.{⊎_elim}
use mathlib.Core.Bool.{Bool, true, false, cond}
use Prim.Native.Nat.{ℕ, suc, ◌-◌, ◌≤◌, ◌<◌}
use native.Mathlib.Omega.{arith}
use lib.Dec.{ltb, eqb}
use lib.ListN.{get_or, take, drop, length-drop}
use lib.Seq.{take_all}
use borrow.Author.Tests.{eq-eqb, ne_eqb, ltb-true}
use Rattle.laws.specs.Lists.{each}
use Rattle.laws.proofs.Tests.{eq_or_not}
use Rattle.rules.specs.Expressions.{bytes_of}
use Rattle.rules.specs.Forms.{is_transfer, operands_at}
use Rattle.rules.specs.Layout.{position}
use Rattle.rules.specs.Programs.{Operand, Stmt, gone, instr, label, variable, comment, org, bytes, words, pad, Program, args_of, last_of, on_last, retarget, kind_of, is_gone}
use Rattle.rules.specs.Listing.{ListingForm, old_form, new_form}
use Rattle.rules.specs.Output.{plain_target, operand_bytes, frame_of, frame_in, line_of}
use Rattle.expression.specs.Sound.{AreBytes}
use Rattle.listing.specs.Tables.{frame_at, Held}
use Rattle.slots.specs.Slots.{Slots, Sound, WroteTarget, gone_form, no_owner, written, target_of, aimed_at, slot_at, program_of}
use Rattle.slots.proofs.Frames.{Left, InstrFrame, Frame, of_instr, of_label, of_variable, of_comment, of_org, of_bytes, of_words, of_pad, frame_of_lem}
use Rattle.slots.proofs.Operands.{operands_read}
use Rattle.slots.proofs.Slots.{slot_instr, slot_data, not_gone, kind_read, kind_kept, written_frame}
use Rattle.slots.proofs.Tables.{reads_as, frame_is, bytes_frame}
use Rattle.output.specs.Lines.{line_in, bytes_in, own_end, target_bytes, carried_bytes, own_bytes, bytes_at}
use Rattle.output.proofs.Frames.{operands_end, frame_back}
use Rattle.output.proofs.Targets.{last_same, last_twice, plain_last, own_other, target_in}

-- ---- statements that are no instruction stay as they are

other_same : (f : Operand → Operand) (s : Stmt) → (kind_of s ≡ 1 → ⊥) → retarget f s ≡ s
other_same f gone n = refl
other_same f (instr g xs c) n = absurd (n refl)
other_same f (label m) n = refl
other_same f (variable m d) n = refl
other_same f (comment x) n = refl
other_same f (org l) n = refl
other_same f (bytes es) n = refl
other_same f (words es) n = refl
other_same f (pad add m) n = refl

gone_kind : (s : Stmt) → is_gone s ≡ eqb (kind_of s) 0
gone_kind gone = refl
gone_kind (instr g xs c) = refl
gone_kind (label m) = refl
gone_kind (variable m d) = refl
gone_kind (comment x) = refl
gone_kind (org l) = refl
gone_kind (bytes es) = refl
gone_kind (words es) = refl
gone_kind (pad add m) = refl

pub kept_kind : (s : Stmt) → 1 ≤ kind_of s → is_gone s ≡ false
kept_kind s h = gone_kind s ∙ ne_eqb (kind_of s) 0 (λ e. omega arith)

pub line_gone : (w : ListingForm) (n : ℕ) (p : Program) (s : Stmt) → kind_of s ≡ 0 → line_in w n p s ≡ []
unfolding line_in
line_gone w n p s e = rw (gone_kind s, eq-eqb (kind_of s) 0 e)

-- C-20: a frame with its source line, by the frame's bytes
frame_in_lem : (w : ListingForm) (n : ℕ) (s : Stmt) → frame_in w n s ≡ bytes_in w n (frame_of s)
frame_in_lem old_form n s = refl
frame_in_lem new_form n s = refl

-- a frame's first byte is its kind
first_kind : (f : Operand → Operand) (s : Stmt) → 1 ≤ kind_of s → (r : List ℕ) × (frame_of (retarget f s) ≡ kind_of s ∷ r)
unfolding frame_of
first_kind f gone h = absurd (omega arith)
first_kind f (instr g xs c) h = (_, refl)
first_kind f (label m) h = (_, refl)
first_kind f (variable m d) h = (_, refl)
first_kind f (comment x) h = (_, refl)
first_kind f (org l) h = (_, refl)
first_kind f (bytes es) h = (_, refl)
first_kind f (words es) h = (_, refl)
first_kind f (pad add m) h = (_, refl)

-- a slot whose form is not that of one that is gone is not gone
kind_least : (i : ℕ) (s : List ℕ) (x : Stmt) → Frame i s x → 1 ≤ kind_of x
kind_least i s x (of_instr f) = rw f.is (omega arith)
kind_least i s x (of_label f) = rw f.is (omega arith)
kind_least i s x (of_variable f) = rw f.is (omega arith)
kind_least i s x (of_comment f) = rw f.is (omega arith)
kind_least i s x (of_org f) = rw f.is (omega arith)
kind_least i s x (of_bytes f) = rw f.is (omega arith)
kind_least i s x (of_words f) = rw f.is (omega arith)
kind_least i s x (of_pad f) = rw f.is (omega arith)

pub kept_form : (t : Slots) → Held t.frames t.starts t.count → (i : ℕ) → i < t.count → get_or t.forms i 0 < gone_form → 1 ≤ kind_of
    (slot_at t i)
kept_form t h i l n = rw (kind_kept t i n) (kind_least i (frame_at t.frames t.starts i) (written t i) (frame_is t.frames t.starts t.count h
    i l))

-- ---- the bytes by kind

module _ (t : Slots) (positions : List ℕ) (i : ℕ) where
  pub bytes_instr : kind_of (slot_at t i) ≡ 1
      → bytes_at t positions i ≡ own_bytes (get_or t.forms i 0) (frame_at t.frames t.starts i) ++ carried_bytes t positions
      (get_or t.forms i 0) (get_or t.carry i 0)
  unfolding bytes_at
  bytes_instr e = rw e

  pub bytes_other : (kind_of (slot_at t i) ≡ 1 → ⊥) → bytes_at t positions i ≡ frame_at t.frames t.starts i
  unfolding bytes_at
  bytes_other n = rw (ne_eqb (kind_of (slot_at t i)) 1 n)

module _ (t : Slots) (h : Sound t) (v : AreBytes t.frames) where
  abbrev frame : ℕ → List ℕ
  frame i = frame_at t.frames t.starts i

  frame_bytes_lem : (i : ℕ) → AreBytes (frame i)
  frame_bytes_lem i = bytes_frame t.frames t.starts v i

  abbrev p : Program
  p = program_of t

  -- ---- the target that place c wrote

  module _ (positions : List ℕ) (are : (w : ℕ) → w < t.count → get_or positions w 0 ≡ position p w) where
    target_bytes_lem : (c : ℕ) → WroteTarget t c → operand_bytes (plain_target p (target_of t c)) ≡ target_bytes t.frames t.starts t.owners
        t.offsets positions c
    unfolding target_of target_bytes bytes_of
    target_bytes_lem c w = on (ltb (get_or t.owners c 0) no_owner) refl
      where
        read : InstrFrame c (frame c) (written t c)
        read =
            let f = frame_is t.frames t.starts t.count h.held c w.inside in
            frame_of_lem c (frame c) (written t c) 1 f (sym (kind_read c (frame c) (written t c) f) ∙ w.instruction)

        plain : plain_target p (last_of read.args) ≡ last_of read.args
        plain = plain_last p (frame c) (operands_at (get_or (frame c) 1 0)) 2 read.args
            (operands_read c (frame c) (operands_at (get_or (frame c) 1 0)) 2 (Left read.args []) read.operands)

        on : (b : Bool) → ltb (get_or t.owners c 0) no_owner ≡ b → operand_bytes (plain_target p (target_of t c)) ≡ target_bytes t.frames
            t.starts t.owners t.offsets positions c
        on true e = rw (e, are (get_or t.owners c 0) (h.owned c w.inside (ltb-true (get_or t.owners c 0) no_owner e)))
        on false e = rw e (ap (λ s. operand_bytes (plain_target p (last_of (args_of s)))) read.is ∙ ap operand_bytes plain
            ∙ (target_in c (frame c) (written t c) read (frame_bytes_lem c) w.transfer).target)

    -- ---- an instruction: its form, its own operands, and the target that it carries

    module _ (i : ℕ) (l : i < t.count) where
      abbrev form : ℕ
      form = get_or t.forms i 0

      abbrev from : ℕ
      from = get_or t.carry i 0

      instr_operands : (e : kind_of (slot_at t i) ≡ 1) (f : InstrFrame i (frame i) (written t i))
          → each (λ x. operand_bytes x) (on_last (plain_target p) (aimed_at t form from f.args)) ≡ take (own_end (frame i) - 2)
          (drop 2 (frame i)) ++ carried_bytes t positions form from
      unfolding carried_bytes
      instr_operands e f = on (is_transfer form) refl
        where
          agree : is_transfer form ≡ is_transfer (get_or (frame i) 1 0)
          agree = (h.forms i l e).transfer

          on : (b : Bool) → is_transfer form ≡ b
              → each (λ x. operand_bytes x) (on_last (plain_target p) (cond b (on_last (λ old. target_of t from) f.args) f.args))
              ≡ take (own_end (frame i) - 2) (drop 2 (frame i)) ++ cond b (target_bytes t.frames t.starts t.owners t.offsets positions
              from) []
          on true b =
              ap (each (λ x. operand_bytes x)) (last_twice (plain_target p) (λ old. target_of t from) f.args)
              ∙ (target_in i (frame i) (written t i) f (frame_bytes_lem i) (sym agree ∙ b)).others
              (λ old. plain_target p (target_of t from))
              ∙ ap (λ z. take (own_end (frame i) - 2) (drop 2 (frame i)) ++ z) (target_bytes_lem from (h.carried i l e b))
          on false b =
              let r = operands_read i (frame i) (operands_at (get_or (frame i) 1 0)) 2 (Left f.args []) f.operands in
              let end = own_other (frame i) (sym agree ∙ b) in
              ap (each (λ x. operand_bytes x)) (last_same (plain_target p) f.args
              (plain_last p (frame i) (operands_at (get_or (frame i) 1 0)) 2 f.args r))
              ∙ operands_end i (frame i) (written t i) f (frame_bytes_lem i)
              ∙ sym (take_all (own_end (frame i) - 2) (drop 2 (frame i)) (omega (arith, length-drop 2 (frame i))))
              ∙ sym (append-nil (take (own_end (frame i) - 2) (drop 2 (frame i))))

      instr_bytes : kind_of (slot_at t i) ≡ 1 → frame_of (retarget (plain_target p) (slot_at t i)) ≡ bytes_at t positions i
      unfolding frame_of own_bytes
      instr_bytes e =
          let f = written_frame t h.held i l 0 e in
          let is = slot_instr t i (get_or (frame i) 1 0) f.args i (not_gone t i 0 e) f.is in
          ap (λ s. frame_of (retarget (plain_target p) s)) is ∙ ap (λ z. 1 ∷ form ∷ z) (instr_operands e f)
          ∙ sym (bytes_instr t positions i e)

      -- ---- any other statement: its frame

      other_bytes : (k : ℕ) → kind_of (slot_at t i) ≡ suc (suc k) → frame_of (retarget (plain_target p) (slot_at t i)) ≡ bytes_at t
          positions i
      other_bytes k e =
          let no : kind_of (slot_at t i) ≡ 1 → ⊥ = λ o. omega arith in
          ap frame_of (other_same (plain_target p) (slot_at t i) no ∙ slot_data t i k e)
          ∙ frame_back i (frame i) (written t i) (reads_as t.frames t.starts t.count h.held i l) (frame_bytes_lem i)
          ∙ sym (bytes_other t positions i no)

      pub frame_kept : 1 ≤ kind_of (slot_at t i) → frame_of (retarget (plain_target p) (slot_at t i)) ≡ bytes_at t positions i
      frame_kept h = ⊎_elim instr_bytes (λ n. other_bytes (kind_of (slot_at t i) - 2) (omega arith)) (eq_or_not (kind_of (slot_at t i)) 1)

      pub line_kept : (w : ListingForm) (n : ℕ) → 1 ≤ kind_of (slot_at t i) → line_in w n p (slot_at t i) ≡ line_of
          (bytes_in w n (bytes_at t positions i))
      unfolding line_in
      line_kept w n h =
          rw (kept_kind (slot_at t i) h) (ap line_of (frame_in_lem w n (retarget (plain_target p) (slot_at t i)) ∙ ap (bytes_in w n)
          (frame_kept h)))

      pub kind_kept_first : 1 ≤ kind_of (slot_at t i) → (r : List ℕ) × (bytes_at t positions i ≡ kind_of (slot_at t i) ∷ r)
      kind_kept_first h = let f = first_kind (plain_target p) (slot_at t i) h in (f.0, sym (frame_kept h) ∙ f.1)
