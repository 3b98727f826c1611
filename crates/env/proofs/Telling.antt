-- Names as read and as they stand: a slot defines the name that it was read with, or it is gone.
use mathlib.Core.Path.{◌≡◌, refl, sym, ap, ◌∙◌}
use mathlib.Core.Option.{some}
use mathlib.Core.Bool.{cond}
use mathlib.Core.Logic.{◌⊎◌, inl, inr, ⊎_elim}
use mathlib.Core.List.{List}
use Prim.Native.Nat.{ℕ, suc, ◌+◌, ◌^◌, ◌≤◌, ◌<◌}
use native.Mathlib.Omega.{arith}
use lib.Dec.{eqb}
use lib.IntN.{ℤ, pos}
use lib.ListN.{length, get_or, set}
use lib.Seq.{get_or-set_same, get_or-set_other}
use borrow.Author.Count.{below_more}
use borrow.Author.Tests.{ne_eqb, lt-ltb}
use Rattle.rules.specs.declared.Refusal.{Refusal}
use Rattle.rules.specs.declared.Unvalued.TheVariants.{Nothing}
use Rattle.std.specs.Prelude.{Ok, Err, Result}
use Rattle.laws.proofs.Tests.{eq_or_not, lt_or_le}
use Rattle.rules.specs.Programs.{Placeℕ, Stmt, gone, instr, label, variable, comment, org, bytes, words, pad, Instruction, on_instr, as_name, kind_of}
use Rattle.rules.specs.Statements.{pair_at}
use Rattle.expression.specs.Sound.{AreBytes}
use Rattle.rules.specs.Names.{key_of, lookup}
use Rattle.expression.specs.Environment.{entries_of}
use Rattle.expression.specs.Linked.{Linked, Shown, stands, dropped}
use Rattle.expression.proofs.Links.{links_say}
use Rattle.listing.specs.Tables.{frame_at, Held}
use Rattle.slots.specs.Slots.{Slots, gone_form, written, reformed, slot_at, program_of}
use Rattle.slots.specs.Links.{name_in, names_read, contexts_read, names_now, Beside}
use Rattle.slots.proofs.Frames.{Frame, of_instr, of_label, of_variable, of_comment, of_org, of_bytes, of_words, of_pad}
use Rattle.slots.proofs.Tables.{frame_is, bytes_frame}
use Rattle.slots.proofs.Slots.{slot_gone, slot_kept, kind_kept, kind_read, slot_data, written_frame}
use Rattle.slots.proofs.Linking.{name_read, name_now}
use Rattle.env.specs.Answers.{InRange}
use Rattle.env.specs.Tables.{Tells, TellsIn, ShownTo, InContext, Named, name_said}
use Rattle.env.proofs.Programs.{length_program, at_program}
use Rattle.env.proofs.Naming.{no_name, names_none, names_some}

-- an instruction defines no name, whatever becomes of it
kept_name : (f : Instruction → Stmt) → ((x : Instruction) → name_in (f x) ≡ 65536) → (s : Stmt) → name_in (on_instr s f s) ≡ name_in s
unfolding as_name
kept_name f e gone = refl
kept_name f e (instr g xs c) = e _
kept_name f e (label n) = refl
kept_name f e (variable n d) = refl
kept_name f e (comment x) = refl
kept_name f e (org l) = refl
kept_name f e (bytes es) = refl
kept_name f e (words es) = refl
kept_name f e (pad add m) = refl

module _ (t : Slots) (h : Held t.frames t.starts t.count) (i : Placeℕ) (l : i < t.count) where
  -- what was read is a statement
  read_kind : kind_of (written t i) ≡ 0 → ⊥
  read_kind z = on (frame_is t.frames t.starts t.count h i l)
    where
      on : Frame i (frame_at t.frames t.starts i) (written t i) → ⊥
      on f = by f (kind_read i (frame_at t.frames t.starts i) (written t i) f)
        where
          by : Frame i (frame_at t.frames t.starts i) (written t i) → kind_of (written t i) ≡ get_or (frame_at t.frames t.starts i) 0 0 → ⊥
          by (of_instr f) e = omega (arith, f.kind, z)
          by (of_label f) e = omega (arith, f.kind, z)
          by (of_variable f) e = omega (arith, f.kind, z)
          by (of_comment f) e = omega (arith, f.kind, z)
          by (of_org f) e = omega (arith, f.kind, z)
          by (of_bytes f) e = omega (arith, f.kind, z)
          by (of_words f) e = omega (arith, f.kind, z)
          by (of_pad f) e = omega (arith, f.kind, z)

  gone_name : slot_at t i ≡ gone → get_or (names_now t) i 0 ≡ 65536
  unfolding as_name
  gone_name e = name_now t i l ∙ ap name_in e

  stands_name : get_or t.forms i 0 < gone_form → get_or (names_now t) i 0 ≡ get_or (names_read t.frames t.starts t.count) i 0
  unfolding as_name
  stands_name g =
      name_now t i l ∙ ap name_in (slot_kept t i g) ∙ kept_name (reformed t i) (λ x. refl) (written t i)
      ∙ sym (name_read t.frames t.starts t.count i l)

  -- a number that tells of the slot shows the place
  pub shown_at : (values : List ℤ) → Tells (slot_at t i) (get_or values i (pos 0)) → Shown (names_read t.frames t.starts t.count) (names_now t) values i
  shown_at values e = on (lt_or_le (get_or t.forms i 0) gone_form)
    where
      on : (get_or t.forms i 0 < gone_form) ⊎ (gone_form ≤ get_or t.forms i 0) → Shown (names_read t.frames t.starts t.count) (names_now t) values i
      on (inl g) = stands (stands_name g) (e ∙ rw (ne_eqb (kind_of (slot_at t i)) 0 (λ z. read_kind (sym (kind_kept t i g) ∙ z))))
      on (inr g) = let z = slot_gone t i g in dropped (gone_name z) (e ∙ rw z)

  -- the name of a slot is "two-byte"
  pub name_said_lem : AreBytes t.frames → as_name (slot_at t i) ≡ name_said (name_in (slot_at t i))
  unfolding as_name
  name_said_lem v = ⊎_elim above below (lt_or_le 1 (kind_of (slot_at t i)))
    where
      f : List ℕ
      f = frame_at t.frames t.starts i

      none_said : ((kind_of (slot_at t i) ≡ 2 → ⊥)) → (kind_of (slot_at t i) ≡ 3 → ⊥) → as_name (slot_at t i) ≡ name_said (name_in (slot_at t i))
      none_said a b = let n = names_none (slot_at t i) (no_name (slot_at t i) a b) in n.1 ∙ ap name_said n.0

      below : kind_of (slot_at t i) ≤ 1 → as_name (slot_at t i) ≡ name_said (name_in (slot_at t i))
      below k = none_said (λ e. omega arith) (λ e. omega arith)

      some_said : as_name (slot_at t i) ≡ some (pair_at f 1) → as_name (slot_at t i) ≡ name_said (name_in (slot_at t i))
      some_said e =
          let small : pair_at f 1 < 65536 = omega (arith, bytes_frame t.frames t.starts v i 1, bytes_frame t.frames t.starts v i 2) in
          let n = names_some (slot_at t i) (pair_at f 1) e small in n.1 ∙ ap name_said n.0

      labelled : kind_of (slot_at t i) ≡ 2 → as_name (slot_at t i) ≡ some (pair_at f 1)
      labelled e = ap as_name (slot_data t i 0 e ∙ (written_frame t h i l 1 e).is)

      bound : kind_of (slot_at t i) ≡ 3 → as_name (slot_at t i) ≡ some (pair_at f 1)
      bound e = ap as_name (slot_data t i 1 e ∙ (written_frame t h i l 2 e).is)

      above : 1 < kind_of (slot_at t i) → as_name (slot_at t i) ≡ name_said (name_in (slot_at t i))
      above k =
          ⊎_elim (λ q. none_said (λ e. omega arith) (λ e. omega arith))
          (λ q. some_said (⊎_elim labelled (λ n. bound (omega arith)) (eq_or_not (kind_of (slot_at t i)) 2)))
          (lt_or_le 3 (kind_of (slot_at t i)))

-- ---- numbers of the table

pub tells_value : (s : Stmt) (k : ℕ) → kind_of s ≡ suc k → (v : Result ℤ Refusal) → InRange v → TellsIn s v
tells_value s k e (Ok z) r = r ∙ rw (ne_eqb (kind_of s) 0 (λ n. omega arith))
tells_value s k e (Err q) r = tt

pub tells_position : (s : Stmt) (k : ℕ) → kind_of s ≡ suc k → (q : ℕ) → q ≤ 65536 → Tells s (pos q)
tells_position s k e q l = rw (lt-ltb q (2 ^ 31) (omega arith), ne_eqb (kind_of s) 0 (λ n. omega arith))

pub tells_zero : (s : Stmt) → (kind_of s ≡ 0 → ⊥) → Ok (pos 0) ≡ cond (eqb (kind_of s) 0) (Err Nothing) (Ok (pos 0))
tells_zero s n = rw (ne_eqb (kind_of s) 0 n)

-- ---- the tables of the names as they stand

pub named_now : (t : Slots) → Held t.frames t.starts t.count → AreBytes t.frames → (contexts : List ℕ) → InContext t contexts
    → Named (program_of t) t.count (names_now t) contexts
named_now t h v contexts k =
    record {
      count = length_program t;
      name = λ i l. ap as_name (at_program t i l) ∙ name_said_lem t h i l v ∙ sym (ap name_said (name_now t i l));
      context = k;
    }

-- ---- filling, come to place i

pub shown_start : (t : Slots) (values : List ℤ) → ShownTo t values 0
shown_start t values j l = absurd (omega arith)

pub shown_next : (t : Slots) → Held t.frames t.starts t.count → (values : List ℤ) (i : Placeℕ) (z : ℤ) → i < t.count → i < length values
    → ShownTo t values i → Tells (slot_at t i) z → ShownTo t (set values i z) (i + 1)
shown_next t h values i z l room before e =
    below_more (λ j. Shown (names_read t.frames t.starts t.count) (names_now t) (set values i z) j) i
    (λ j less. kept j (get_or-set_other values i j z (pos 0) (λ q. omega arith)) (before j less))
    (shown_at t h i l (set values i z) (rw (get_or-set_same values i z (pos 0) room) e))
  where
    kept : (j : ℕ) → get_or (set values i z) j (pos 0) ≡ get_or values j (pos 0) → Shown (names_read t.frames t.starts t.count) (names_now t) values j
        → Shown (names_read t.frames t.starts t.count) (names_now t) (set values i z) j
    kept j q (stands a b) = stands a (rw q b)
    kept j q (dropped a b) = dropped a (rw q b)

-- what the links say to a variable at place i: the names above it
pub above_linked : (t : Slots) (links : List ℕ) (values : List ℤ) (i : Placeℕ) → i < t.count → Beside t.frames t.starts t.count links → ShownTo t values i
    → Linked (λ m. lookup (entries_of (names_now t) (contexts_read t.frames t.starts t.count) values i)
    (key_of (get_or (contexts_read t.frames t.starts t.count) i 0) m)) (frame_at t.frames t.starts i) (frame_at links t.starts i) values i
above_linked t links values i l b shown =
    let names = names_read t.frames t.starts t.count in
    let contexts = contexts_read t.frames t.starts t.count in
    links_say names (names_now t) contexts values i (get_or contexts i 0) i (frame_at t.frames t.starts i) (frame_at links t.starts i) (omega arith)
    (record { place = λ j q g x m. (b.place i l).place j q g x (omega arith) }) shown
