-- Data in a slot: the frame was read as data, and the slot's encoding is that of its items.
use mathlib.Core.Path.{◌≡◌, refl, sym, ap, ◌∙◌}
use mathlib.Core.List.{List}
use Prim.Native.Nat.{ℕ, suc, ◌*◌, ◌≤◌, ◌<◌}
use native.Mathlib.Omega.{arith}
use lib.ListN.{length, get_or}
use Rattle.rules.specs.declared.Arg.{Arg}
use Rattle.rules.specs.declared.Statement.{Statement}
use Rattle.rules.specs.declared.Statement.TheVariants.{Bytes as OfBytes, Words as OfWords}
use Rattle.rules.specs.Expressions.{Expr}
use Rattle.rules.specs.Programs.{Addressℕ, Stmt, bytes, words, Program, byte_count, kind_of}
use Rattle.rules.specs.Layout.{position}
use Rattle.rules.specs.Names.{Entry, key_of, lookup, context_at}
use Rattle.rules.specs.Judging.{items, encode}
use Rattle.rules.specs.Statements.{stmt_of}
use Rattle.expression.specs.Linked.{Linked}
use Rattle.listing.specs.Tables.{frame_at, input_at}
use Rattle.slots.specs.declared.Slot.{Slot}
use Rattle.slots.specs.declared.Slot.TheVariants.{Holds}
use Rattle.slots.specs.Slots.{Slots, slot_at, DataIn}
use Rattle.slots.specs.Meaning.{Stands}
use Rattle.slots.proofs.Linking.{length_beside}
use Rattle.slots.proofs.Slots.{slot_data}
use Rattle.slots.proofs.Stands.{first_is, kind_stands, bytes_says, words_says}
use Rattle.image.specs.declared.data.Data.{Data}
use Rattle.image.specs.declared.data.Data.TheVariants.{Bytes, Words}
use Rattle.image.specs.Tables.{Tables, program, Ready}
use Rattle.image.specs.Encoding.{encode_at, items_of, items_in, bound_of, write_of}
use Rattle.image.specs.Image.{width_of, size_of}
use Rattle.image.proofs.Items.{data_in}

-- the code's statement of n items, and the definition's of the items es
abbrev pub of_code : Data → (n : ℕ) (a : Arg) → Statement
of_code Bytes n a = OfBytes n a
of_code Words n a = OfWords n a

abbrev of_items : Data → List Expr → Stmt
of_items Bytes es = bytes es
of_items Words es = words es

encode_data : (names : List Entry) (p : Program) (i k q : ℕ) (what : Data) (es : List Expr)
    → encode names p i k q (of_items what es) ≡ items names (bound_of what) (write_of what) i k 0 es
unfolding encode
encode_data names p i k q Bytes es = refl
encode_data names p i k q Words es = refl

size_data : (q : Addressℕ) (what : Data) (es : List Expr) → byte_count q (of_items what es) ≡ width_of what * length es
size_data q Bytes es = let z : length es ≡ 1 * length es = omega arith in z
size_data q Words es = refl

some_data : (what : Data) (n : ℕ) → 1 ≤ n → 0 < width_of what * n
some_data Bytes n l = omega arith
some_data Words n l = omega arith

-- s is the frame of the n items in slot i, b the links beside it
pub record DataSlot (d : Tables) (i : ℕ) (what : Data) (n : ℕ) (s b : List ℕ) : Type 0 where
  pub read : DataIn i s
  pub count : n ≡ get_or s 1 0
  pub beside : length b ≡ length s
  pub linked : Linked (λ m. lookup d.entries (key_of (get_or d.contexts i 0) m)) s b d.values d.slots.count
  pub encodes : encode_at d i ≡ items d.entries (bound_of what) (write_of what) i (get_or d.contexts i 0) 0 (items_in i s)
  pub size : size_of d i ≡ width_of what * n
  pub some : 0 < width_of what * n

module _ (d : Tables) (h : Ready d) (i : ℕ) (l : i < d.slots.count) (r : Slot) (st : Stands d.slots i r) (n : ℕ) (a : Arg) where
  abbrev t : Slots
  t = d.slots

  abbrev frame : List ℕ
  frame = frame_at t.frames t.starts i

  abbrev all : List Expr
  all = items_in i frame

  kind_is : (what : Data) → r ≡ Holds (of_code what n a) → (m : ℕ) × (kind_of (slot_at t i) ≡ suc (suc m)) × (4 ≤ m) × (m ≤ 5)
  kind_is Bytes e = (4, kind_stands t i r st (OfBytes n a) e, omega arith, omega arith)
  kind_is Words e = (5, kind_stands t i r st (OfWords n a) e, omega arith, omega arith)

  says : (what : Data) → r ≡ Holds (of_code what n a) → n ≡ get_or frame 1 0
  says Bytes e = (bytes_says t h.sound.held i l r st n a e).0
  says Words e = (words_says t h.sound.held i l r st n a e).0

  -- the items that it has
  own : (what : Data) → r ≡ Holds (of_code what n a) → slot_at t i ≡ of_items what (items_of (slot_at t i))
  unfolding stmt_of
  own Bytes e = let m = (st.holds (OfBytes n a) e).means in m ∙ sym (ap (λ x. bytes (items_of x)) m)
  own Words e = let m = (st.holds (OfWords n a) e).means in m ∙ sym (ap (λ x. words (items_of x)) m)

  module _ (what : Data) (e : r ≡ Holds (of_code what n a)) where
    is : slot_at t i ≡ of_items what all
    unfolding input_at
    is = let k = kind_is what e in own what e ∙ ap (λ x. of_items what (items_of x)) (slot_data t i k.0 k.1)

    read : DataIn i frame
    read =
        let k = kind_is what e in
        let f = first_is t h.sound.held i l (suc k.0) k.1 in
        record { reads = h.sound.held.reads i l; kind = omega (arith, f, k.2); no_pad = omega (arith, f, k.3) }

    count : length all ≡ n
    count = (data_in i frame read).items.count ∙ sym (says what e)

    encodes : encode_at d i ≡ items d.entries (bound_of what) (write_of what) i (get_or d.contexts i 0) 0 all
    unfolding encode_at
    encodes =
        let p = program d in
        ap (encode d.entries p i (context_at p i) (position p i)) is
        ∙ encode_data d.entries p i (context_at p i) (position p i) what all
        ∙ ap (λ k. items d.entries (bound_of what) (write_of what) i k 0 all) (sym (h.context i l))

    -- of the slices that the code has
    pub data_slot : (s b : List ℕ) → s ≡ frame → b ≡ frame_at d.links t.starts i → DataSlot d i what n s b
    data_slot s b p q =
        let few = (data_in i frame read).some in
        let z = says what e in
        rw (p, q) (record {
          read = read;
          count = z;
          beside = length_beside t.frames t.starts t.count h.sound.held d.links h.says.full i l;
          linked = rw (h.context i l) (h.says.linked i l);
          encodes = encodes;
          size = ap (byte_count (get_or d.positions i 0)) is ∙ size_data (get_or d.positions i 0) what all ∙ ap (λ m. width_of what * m) count;
          some = some_data what n (omega arith);
        })
