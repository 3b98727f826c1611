-- `patterns::counting::in_statement` meets its contract, variant by variant.
use mathlib.Core.Path.{◌≡◌, refl, sym, subst₂, ap, ◌∙◌}
use mathlib.Core.List.{List, []}
use mathlib.Core.Bool.{Bool}
use Prim.Native.Nat.{ℕ, suc, ◌+◌, ◌≤◌}
use lib.ListN.{length, get_or, drop}
use native.Mathlib.Omega.{arith}
use Rattle.rules.specs.declared.Arg.{Arg}
use Rattle.rules.specs.declared.Statement.{Statement}
use Rattle.rules.specs.declared.Statement.TheVariants.{Variable}
use Rattle.rules.specs.Expressions.{Expr, mentions, read_expr, got}
use Rattle.rules.specs.Programs.{over_exprs, kind_of}
use Rattle.expression.specs.Naming.{Referred}
use Rattle.listing.specs.Tables.{frame_at, input_at}
use Rattle.slots.specs.Slots.{Slots, slots, slot_at, written, DataIn}
use Rattle.slots.specs.State.{starts_in, forms_in, carry_in, owners_in}
use Rattle.slots.specs.declared.Slot.TheVariants.{Holds}
use Rattle.slots.specs.Meaning.{kind_for, Stands}
use Rattle.slots.proofs.Frames.{VariableFrame}
use Rattle.slots.proofs.Linking.{spans}
use Rattle.slots.proofs.Slots.{slot_data, written_frame}
use Rattle.slots.proofs.Stands.{form_stands, kind_stands, first_is, variable_says, bytes_says, words_says}
use Rattle.patterns.specs.Mentions.{read_as, Short}
use Rattle.patterns.proofs.Naming.{beside_short}
use Rattle.patterns.proofs.counting.in_statement.Goals as goal

-- behind the slot
module _ (c : goal.In-Form) where
  abbrev place : ℕ
  place = c.args.at.0

  abbrev over : (offsets : List ℕ) → Slots
  over offsets =
      slots c.args.frames.now (starts_in c.args.state.now) c.args.count (forms_in c.args.state.now)
      (carry_in c.args.state.now) (owners_in c.args.state.now) offsets

  stands : (offsets : List ℕ) → Stands (over offsets) place c.slot_at.result
  stands offsets = c.slot_at.ensures (carry_in c.args.state.now) (owners_in c.args.state.now) offsets

  kind : (x : Statement) → c.slot_at.result ≡ Holds x → (offsets : List ℕ) → kind_of (slot_at (over offsets) place) ≡ kind_for x
  kind x e offsets = kind_stands (over offsets) place c.slot_at.result (stands offsets) x e

-- behind the slot
module _ (c : goal.In-Variable) where
  abbrev place_2 : ℕ
  place_2 = c.args.at.0

  abbrev over_2 : (offsets : List ℕ) → Slots
  over_2 offsets =
      slots c.args.frames.now (starts_in c.args.state.now) c.args.count (forms_in c.args.state.now)
      (carry_in c.args.state.now) (owners_in c.args.state.now) offsets

  abbrev frame_2 : List ℕ
  frame_2 = frame_at c.args.frames.now (starts_in c.args.state.now) place_2

  abbrev beside_2 : List ℕ
  beside_2 = frame_at c.args.links.now (starts_in c.args.state.now) place_2

  short_2 : Short frame_2 beside_2
  short_2 =
      beside_short c.args.frames.now (starts_in c.args.state.now) c.args.count (c.requires.2 []).held c.args.links.now
      c.requires.1 place_2 c.requires.0

  stands_2 : (offsets : List ℕ) → Stands (over_2 offsets) place_2 c.slot_at.result
  stands_2 offsets = c.slot_at.ensures (carry_in c.args.state.now) (owners_in c.args.state.now) offsets

  kind_2 : (x : Statement) → c.slot_at.result ≡ Holds x → (offsets : List ℕ) → kind_of (slot_at (over_2 offsets) place_2) ≡ kind_for x
  kind_2 x e offsets = kind_stands (over_2 offsets) place_2 c.slot_at.result (stands_2 offsets) x e

  -- a variable: its value stands behind its name
  value_frame_2 : (n : ℕ) (a : Arg) (e : c.slot_at.result ≡ Holds (Variable n a)) → VariableFrame frame_2 (written (over_2 []) place_2)
  value_frame_2 n a e = written_frame (over_2 []) (c.requires.2 []).held place_2 c.requires.0 2 (kind_2 (Variable n a) e [])

  value_at_2 : (n : ℕ) (a : Arg) (e : c.slot_at.result ≡ Holds (Variable n a)) → a.0 ≡ 3
  value_at_2 n a e = ap (λ (b : Arg). b.0) (variable_says (over_2 []) (c.requires.2 []).held place_2 c.requires.0 c.slot_at.result
      (stands_2 []) n a e).1

-- behind the slot
module _ (c : goal.In-Bytes) where
  abbrev place_3 : ℕ
  place_3 = c.args.at.0

  abbrev over_3 : (offsets : List ℕ) → Slots
  over_3 offsets =
      slots c.args.frames.now (starts_in c.args.state.now) c.args.count (forms_in c.args.state.now)
      (carry_in c.args.state.now) (owners_in c.args.state.now) offsets

  abbrev frame_3 : List ℕ
  frame_3 = frame_at c.args.frames.now (starts_in c.args.state.now) place_3

  abbrev beside_3 : List ℕ
  beside_3 = frame_at c.args.links.now (starts_in c.args.state.now) place_3

  short_3 : Short frame_3 beside_3
  short_3 =
      beside_short c.args.frames.now (starts_in c.args.state.now) c.args.count (c.requires.2 []).held c.args.links.now
      c.requires.1 place_3 c.requires.0

  stands_3 : (offsets : List ℕ) → Stands (over_3 offsets) place_3 c.slot_at.result
  stands_3 offsets = c.slot_at.ensures (carry_in c.args.state.now) (owners_in c.args.state.now) offsets

  kind_3 : (x : Statement) → c.slot_at.result ≡ Holds x → (offsets : List ℕ) → kind_of (slot_at (over_3 offsets) place_3) ≡ kind_for x
  kind_3 x e offsets = kind_stands (over_3 offsets) place_3 c.slot_at.result (stands_3 offsets) x e

  -- bytes or words: the frame as it was read
  data_frame_3 : (x : Statement) (e : c.slot_at.result ≡ Holds x) (k : ℕ) (n : kind_for x ≡ suc (suc (4 + k))) (m : k ≤ 1) → DataIn place_3
      frame_3
  data_frame_3 x e k n m =
      let first = first_is (over_3 []) (c.requires.2 []).held place_3 c.requires.0 (suc (4 + k)) (kind_3 x e [] ∙ n) in
      record { reads = (c.requires.2 []).held.reads place_3 c.requires.0; kind = omega arith; no_pad = omega arith }

-- behind the slot
module _ (c : goal.In-Words) where
  abbrev place_4 : ℕ
  place_4 = c.args.at.0

  abbrev over_4 : (offsets : List ℕ) → Slots
  over_4 offsets =
      slots c.args.frames.now (starts_in c.args.state.now) c.args.count (forms_in c.args.state.now)
      (carry_in c.args.state.now) (owners_in c.args.state.now) offsets

  abbrev frame_4 : List ℕ
  frame_4 = frame_at c.args.frames.now (starts_in c.args.state.now) place_4

  abbrev beside_4 : List ℕ
  beside_4 = frame_at c.args.links.now (starts_in c.args.state.now) place_4

  short_4 : Short frame_4 beside_4
  short_4 =
      beside_short c.args.frames.now (starts_in c.args.state.now) c.args.count (c.requires.2 []).held c.args.links.now
      c.requires.1 place_4 c.requires.0

  stands_4 : (offsets : List ℕ) → Stands (over_4 offsets) place_4 c.slot_at.result
  stands_4 offsets = c.slot_at.ensures (carry_in c.args.state.now) (owners_in c.args.state.now) offsets

  kind_4 : (x : Statement) → c.slot_at.result ≡ Holds x → (offsets : List ℕ) → kind_of (slot_at (over_4 offsets) place_4) ≡ kind_for x
  kind_4 x e offsets = kind_stands (over_4 offsets) place_4 c.slot_at.result (stands_4 offsets) x e

  -- bytes or words: the frame as it was read
  data_frame_4 : (x : Statement) (e : c.slot_at.result ≡ Holds x) (k : ℕ) (n : kind_for x ≡ suc (suc (4 + k))) (m : k ≤ 1) → DataIn place_4
      frame_4
  data_frame_4 x e k n m =
      let first = first_is (over_4 []) (c.requires.2 []).held place_4 c.requires.0 (suc (4 + k)) (kind_4 x e [] ∙ n) in
      record { reads = (c.requires.2 []).held.reads place_4 c.requires.0; kind = omega arith; no_pad = omega arith }

-- behind the slot
module _ (c : goal.After-in_part) where
  abbrev place_5 : ℕ
  place_5 = c.args.at.0

  abbrev over_5 : (offsets : List ℕ) → Slots
  over_5 offsets =
      slots c.args.frames.now (starts_in c.args.state.now) c.args.count (forms_in c.args.state.now)
      (carry_in c.args.state.now) (owners_in c.args.state.now) offsets

  abbrev frame_5 : List ℕ
  frame_5 = frame_at c.args.frames.now (starts_in c.args.state.now) place_5

  abbrev beside_5 : List ℕ
  beside_5 = frame_at c.args.links.now (starts_in c.args.state.now) place_5

  stands_5 : (offsets : List ℕ) → Stands (over_5 offsets) place_5 c.slot_at.result
  stands_5 offsets = c.slot_at.ensures (carry_in c.args.state.now) (owners_in c.args.state.now) offsets

  kind_5 : (x : Statement) → c.slot_at.result ≡ Holds x → (offsets : List ℕ) → kind_of (slot_at (over_5 offsets) place_5) ≡ kind_for x
  kind_5 x e offsets = kind_stands (over_5 offsets) place_5 c.slot_at.result (stands_5 offsets) x e

  -- a variable: its value stands behind its name
  value_frame_5 : (n : ℕ) (a : Arg) (e : c.slot_at.result ≡ Holds (Variable n a)) → VariableFrame frame_5 (written (over_5 []) place_5)
  value_frame_5 n a e = written_frame (over_5 []) (c.requires.2 []).held place_5 c.requires.0 2 (kind_5 (Variable n a) e [])

  value_at_5 : (n : ℕ) (a : Arg) (e : c.slot_at.result ≡ Holds (Variable n a)) → a.0 ≡ 3
  value_at_5 n a e = ap (λ (b : Arg). b.0) (variable_says (over_5 []) (c.requires.2 []).held place_5 c.requires.0 c.slot_at.result
      (stands_5 []) n a e).1

  over_value_5 : (n : ℕ) (a : Arg) (e : c.slot_at.result ≡ Holds (Variable n a)) (f : ℕ → Bool) (offsets : List ℕ)
      → over_exprs (mentions f) (slot_at (over_5 offsets) place_5) ≡ mentions f (value_frame_5 n a e).e
  over_value_5 n a e f offsets = ap (over_exprs (mentions f)) (slot_data (over_5 offsets) place_5 1 (kind_5 (Variable n a) e offsets)
      ∙ (value_frame_5 n a e).is)

-- behind the slot
module _ (c : goal.After-in_items) where
  abbrev place_6 : ℕ
  place_6 = c.args.at.0

  abbrev over_6 : (offsets : List ℕ) → Slots
  over_6 offsets =
      slots c.args.frames.now (starts_in c.args.state.now) c.args.count (forms_in c.args.state.now)
      (carry_in c.args.state.now) (owners_in c.args.state.now) offsets

  abbrev frame_6 : List ℕ
  frame_6 = frame_at c.args.frames.now (starts_in c.args.state.now) place_6

  abbrev beside_6 : List ℕ
  beside_6 = frame_at c.args.links.now (starts_in c.args.state.now) place_6

  stands_6 : (offsets : List ℕ) → Stands (over_6 offsets) place_6 c.slot_at.result
  stands_6 offsets = c.slot_at.ensures (carry_in c.args.state.now) (owners_in c.args.state.now) offsets

  kind_6 : (x : Statement) → c.slot_at.result ≡ Holds x → (offsets : List ℕ) → kind_of (slot_at (over_6 offsets) place_6) ≡ kind_for x
  kind_6 x e offsets = kind_stands (over_6 offsets) place_6 c.slot_at.result (stands_6 offsets) x e

  -- bytes or words: the frame as it was read
  data_frame_6 : (x : Statement) (e : c.slot_at.result ≡ Holds x) (k : ℕ) (n : kind_for x ≡ suc (suc (4 + k))) (m : k ≤ 1) → DataIn place_6
      frame_6
  data_frame_6 x e k n m =
      let first = first_is (over_6 []) (c.requires.2 []).held place_6 c.requires.0 (suc (4 + k)) (kind_6 x e [] ∙ n) in
      record { reads = (c.requires.2 []).held.reads place_6 c.requires.0; kind = omega arith; no_pad = omega arith }

  over_data_6 : (x : Statement) (e : c.slot_at.result ≡ Holds x) (k : ℕ) (n : kind_for x ≡ suc (suc (4 + k))) (m : k ≤ 1) (f : ℕ → Bool)
      (offsets : List ℕ)
      → over_exprs (mentions f) (slot_at (over_6 offsets) place_6) ≡ over_exprs (mentions f) (read_as place_6 frame_6)
  unfolding input_at
  over_data_6 x e k n m f offsets = ap (over_exprs (mentions f)) (slot_data (over_6 offsets) place_6 (4 + k) (kind_6 x e offsets ∙ n))

-- behind the slot
module _ (c : goal.After-in_items-in-Words) where
  abbrev place_7 : ℕ
  place_7 = c.args.at.0

  abbrev over_7 : (offsets : List ℕ) → Slots
  over_7 offsets =
      slots c.args.frames.now (starts_in c.args.state.now) c.args.count (forms_in c.args.state.now)
      (carry_in c.args.state.now) (owners_in c.args.state.now) offsets

  abbrev frame_7 : List ℕ
  frame_7 = frame_at c.args.frames.now (starts_in c.args.state.now) place_7

  abbrev beside_7 : List ℕ
  beside_7 = frame_at c.args.links.now (starts_in c.args.state.now) place_7

  stands_7 : (offsets : List ℕ) → Stands (over_7 offsets) place_7 c.slot_at.result
  stands_7 offsets = c.slot_at.ensures (carry_in c.args.state.now) (owners_in c.args.state.now) offsets

  kind_7 : (x : Statement) → c.slot_at.result ≡ Holds x → (offsets : List ℕ) → kind_of (slot_at (over_7 offsets) place_7) ≡ kind_for x
  kind_7 x e offsets = kind_stands (over_7 offsets) place_7 c.slot_at.result (stands_7 offsets) x e

  -- bytes or words: the frame as it was read
  data_frame_7 : (x : Statement) (e : c.slot_at.result ≡ Holds x) (k : ℕ) (n : kind_for x ≡ suc (suc (4 + k))) (m : k ≤ 1) → DataIn place_7
      frame_7
  data_frame_7 x e k n m =
      let first = first_is (over_7 []) (c.requires.2 []).held place_7 c.requires.0 (suc (4 + k)) (kind_7 x e [] ∙ n) in
      record { reads = (c.requires.2 []).held.reads place_7 c.requires.0; kind = omega arith; no_pad = omega arith }

  over_data_7 : (x : Statement) (e : c.slot_at.result ≡ Holds x) (k : ℕ) (n : kind_for x ≡ suc (suc (4 + k))) (m : k ≤ 1) (f : ℕ → Bool)
      (offsets : List ℕ)
      → over_exprs (mentions f) (slot_at (over_7 offsets) place_7) ≡ over_exprs (mentions f) (read_as place_7 frame_7)
  unfolding input_at
  over_data_7 x e k n m f offsets = ap (over_exprs (mentions f)) (slot_data (over_7 offsets) place_7 (4 + k) (kind_7 x e offsets ∙ n))

-- the statement, its frame and the links beside it
module _ (c : goal.In-Variable) where
  abbrev it : Statement
  it = c.in-Holds.statement

  holds : c.slot_at.result ≡ Holds it
  holds = c.in-Holds.is

  asked : (P : (s b : List ℕ) → Type 0) → P (frame_2 c) (beside_2 c) → P c.frame_at-frame.result.now c.links_at-beside.result.now
  asked P h = subst₂ P (sym c.frame_at-frame.ensures) (sym c.links_at-beside.ensures) h

  -- a variable: what is asked of the frame, and what its value holds
  is : (n : ℕ) (a : Arg) (e : it ≡ Variable n a) → c.slot_at.result ≡ Holds (Variable n a)
  is n a e = holds ∙ ap Holds e

  value_asked : (n : ℕ) (a : Arg) (e : it ≡ Variable n a) → (a.0 ≤ length c.frame_at-frame.result.now) × Short c.frame_at-frame.result.now
      c.links_at-beside.result.now
  value_asked n a e =
      let inside : a.0 ≤ length (frame_2 c) = omega (arith, value_at_2 c n a (is n a e), (value_frame_2 c n a (is n a e)).long) in
      asked (λ s b. (a.0 ≤ length s) × Short s b) (inside, short_2 c)

-- the statement, its frame and the links beside it
module _ (c : goal.In-Bytes) where
  abbrev it_2 : Statement
  it_2 = c.in-Holds.statement

  holds_2 : c.slot_at.result ≡ Holds it_2
  holds_2 = c.in-Holds.is

  asked_2 : (P : (s b : List ℕ) → Type 0) → P (frame_3 c) (beside_3 c) → P c.frame_at-frame.result.now c.links_at-beside.result.now
  asked_2 P h = subst₂ P (sym c.frame_at-frame.ensures) (sym c.links_at-beside.ensures) h

  -- data of either kind: what is asked of the frame, and what its items hold
  holds_data_2 : (x : Statement) (e : it_2 ≡ x) (k : ℕ) (n : kind_for x ≡ suc (suc (4 + k))) (m : k ≤ 1) → DataIn (place_3 c) (frame_3 c)
  holds_data_2 x e k n m = data_frame_3 c x (holds_2 ∙ ap Holds e) k n m

  items_asked_2 : (x : Statement) (e : it_2 ≡ x) (k : ℕ) (n : kind_for x ≡ suc (suc (4 + k))) (m : k ≤ 1) (many : ℕ) → many ≡ get_or
      (frame_3 c) 1 0
      → ((i : ℕ) × DataIn i c.frame_at-frame.result.now) × (many ≡ get_or c.frame_at-frame.result.now 1 0)
      × Short c.frame_at-frame.result.now c.links_at-beside.result.now
  items_asked_2 x e k n m many q =
      asked_2 (λ s b. ((i : ℕ) × DataIn i s) × (many ≡ get_or s 1 0) × Short s b) ((place_3 c, holds_data_2 x e k n m), q, short_3 c)

-- the statement, its frame and the links beside it
module _ (c : goal.In-Words) where
  abbrev it_3 : Statement
  it_3 = c.in-Holds.statement

  holds_3 : c.slot_at.result ≡ Holds it_3
  holds_3 = c.in-Holds.is

  asked_3 : (P : (s b : List ℕ) → Type 0) → P (frame_4 c) (beside_4 c) → P c.frame_at-frame.result.now c.links_at-beside.result.now
  asked_3 P h = subst₂ P (sym c.frame_at-frame.ensures) (sym c.links_at-beside.ensures) h

  -- data of either kind: what is asked of the frame, and what its items hold
  holds_data_3 : (x : Statement) (e : it_3 ≡ x) (k : ℕ) (n : kind_for x ≡ suc (suc (4 + k))) (m : k ≤ 1) → DataIn (place_4 c) (frame_4 c)
  holds_data_3 x e k n m = data_frame_4 c x (holds_3 ∙ ap Holds e) k n m

  items_asked_3 : (x : Statement) (e : it_3 ≡ x) (k : ℕ) (n : kind_for x ≡ suc (suc (4 + k))) (m : k ≤ 1) (many : ℕ) → many ≡ get_or
      (frame_4 c) 1 0
      → ((i : ℕ) × DataIn i c.frame_at-frame.result.now) × (many ≡ get_or c.frame_at-frame.result.now 1 0)
      × Short c.frame_at-frame.result.now c.links_at-beside.result.now
  items_asked_3 x e k n m many q =
      asked_3 (λ s b. ((i : ℕ) × DataIn i s) × (many ≡ get_or s 1 0) × Short s b) ((place_4 c, holds_data_3 x e k n m), q, short_4 c)

-- the statement, its frame and the links beside it
module _ (c : goal.After-in_part) where
  abbrev it_4 : Statement
  it_4 = c.in-Holds.statement

  holds_4 : c.slot_at.result ≡ Holds it_4
  holds_4 = c.in-Holds.is

  asked_4 : (P : (s b : List ℕ) → Type 0) → P (frame_5 c) (beside_5 c) → P c.frame_at-frame.result.now c.links_at-beside.result.now
  asked_4 P h = subst₂ P (sym c.frame_at-frame.ensures) (sym c.links_at-beside.ensures) h

  told_4 : (f : ℕ → Bool) → Referred f (frame_5 c) (beside_5 c) c.args.place.0
      → Referred f c.frame_at-frame.result.now c.links_at-beside.result.now c.args.place.0
  told_4 f r = asked_4 (λ s b. Referred f s b c.args.place.0) r

  -- a variable: what is asked of the frame, and what its value holds
  is_4 : (n : ℕ) (a : Arg) (e : it_4 ≡ Variable n a) → c.slot_at.result ≡ Holds (Variable n a)
  is_4 n a e = holds_4 ∙ ap Holds e

  value_over_4 : (n : ℕ) (a : Arg) (e : it_4 ≡ Variable n a) (r : ℕ) (f : ℕ → Bool) (offsets : List ℕ)
      → ((d : Expr) (k : ℕ) → read_expr (drop a.0 c.frame_at-frame.result.now) ≡ got d k → r ≡ mentions f d)
      → r ≡ over_exprs (mentions f) (slot_at (over_5 c offsets) (place_5 c))
  value_over_4 n a e r f offsets g =
      let v = value_frame_5 c n a (is_4 n a e) in
      let reads = ap (λ m. read_expr (drop m (frame_5 c))) (value_at_5 c n a (is_4 n a e)) ∙ v.reads.reads in
      g v.e v.reads.width (asked_4 (λ s b. read_expr (drop a.0 s) ≡ got v.e v.reads.width) reads)
      ∙ sym (over_value_5 c n a (is_4 n a e) f offsets)

-- the statement, its frame and the links beside it
module _ (c : goal.After-in_items) where
  abbrev it_5 : Statement
  it_5 = c.in-Holds.statement

  holds_5 : c.slot_at.result ≡ Holds it_5
  holds_5 = c.in-Holds.is

  asked_5 : (P : (s b : List ℕ) → Type 0) → P (frame_6 c) (beside_6 c) → P c.frame_at-frame.result.now c.links_at-beside.result.now
  asked_5 P h = subst₂ P (sym c.frame_at-frame.ensures) (sym c.links_at-beside.ensures) h

  told_5 : (f : ℕ → Bool) → Referred f (frame_6 c) (beside_6 c) c.args.place.0
      → Referred f c.frame_at-frame.result.now c.links_at-beside.result.now c.args.place.0
  told_5 f r = asked_5 (λ s b. Referred f s b c.args.place.0) r

  -- data of either kind: what is asked of the frame, and what its items hold
  holds_data_5 : (x : Statement) (e : it_5 ≡ x) (k : ℕ) (n : kind_for x ≡ suc (suc (4 + k))) (m : k ≤ 1) → DataIn (place_6 c) (frame_6 c)
  holds_data_5 x e k n m = data_frame_6 c x (holds_5 ∙ ap Holds e) k n m

  items_over_5 : (x : Statement) (e : it_5 ≡ x) (k : ℕ) (n : kind_for x ≡ suc (suc (4 + k))) (m : k ≤ 1) (r : ℕ) (f : ℕ → Bool)
      (offsets : List ℕ)
      → (DataIn (place_6 c) c.frame_at-frame.result.now → r ≡ over_exprs (mentions f) (read_as (place_6 c) c.frame_at-frame.result.now))
      → r ≡ over_exprs (mentions f) (slot_at (over_6 c offsets) (place_6 c))
  items_over_5 x e k n m r f offsets g =
      g (asked_5 (λ s b. DataIn (place_6 c) s) (holds_data_5 x e k n m))
      ∙ ap (λ s. over_exprs (mentions f) (read_as (place_6 c) s)) c.frame_at-frame.ensures
      ∙ sym (over_data_6 c x (holds_5 ∙ ap Holds e) k n m f offsets)

-- the statement, its frame and the links beside it
module _ (c : goal.After-in_items-in-Words) where
  abbrev it_6 : Statement
  it_6 = c.in-Holds.statement

  holds_6 : c.slot_at.result ≡ Holds it_6
  holds_6 = c.in-Holds.is

  asked_6 : (P : (s b : List ℕ) → Type 0) → P (frame_7 c) (beside_7 c) → P c.frame_at-frame.result.now c.links_at-beside.result.now
  asked_6 P h = subst₂ P (sym c.frame_at-frame.ensures) (sym c.links_at-beside.ensures) h

  told_6 : (f : ℕ → Bool) → Referred f (frame_7 c) (beside_7 c) c.args.place.0
      → Referred f c.frame_at-frame.result.now c.links_at-beside.result.now c.args.place.0
  told_6 f r = asked_6 (λ s b. Referred f s b c.args.place.0) r

  -- data of either kind: what is asked of the frame, and what its items hold
  holds_data_6 : (x : Statement) (e : it_6 ≡ x) (k : ℕ) (n : kind_for x ≡ suc (suc (4 + k))) (m : k ≤ 1) → DataIn (place_7 c) (frame_7 c)
  holds_data_6 x e k n m = data_frame_7 c x (holds_6 ∙ ap Holds e) k n m

  items_over_6 : (x : Statement) (e : it_6 ≡ x) (k : ℕ) (n : kind_for x ≡ suc (suc (4 + k))) (m : k ≤ 1) (r : ℕ) (f : ℕ → Bool)
      (offsets : List ℕ)
      → (DataIn (place_7 c) c.frame_at-frame.result.now → r ≡ over_exprs (mentions f) (read_as (place_7 c) c.frame_at-frame.result.now))
      → r ≡ over_exprs (mentions f) (slot_at (over_7 c offsets) (place_7 c))
  items_over_6 x e k n m r f offsets g =
      g (asked_6 (λ s b. DataIn (place_7 c) s) (holds_data_6 x e k n m))
      ∙ ap (λ s. over_exprs (mentions f) (read_as (place_7 c) s)) c.frame_at-frame.ensures
      ∙ sym (over_data_7 c x (holds_6 ∙ ap Holds e) k n m f offsets)

pub slot_at-requires : goal.slot_at-requires
slot_at-requires c = ((c.requires.2 []).held, c.requires.0)

pub in_instruction-requires : goal.in_instruction-requires
in_instruction-requires c =
    let e = c.in-Form.is in (
      c.requires.0,
      c.requires.1,
      λ offsets. (c.requires.2 offsets, form_stands (over c offsets) (place c) c.slot_at.result (stands c offsets) _ e),
    )

pub frame_at-frame-requires : goal.frame_at-frame-requires
frame_at-frame-requires c = ((c.requires.2 []).held, c.requires.0)

pub links_at-beside-requires : goal.links_at-beside-requires
links_at-beside-requires c =
    spans c.args.frames.now (starts_in c.args.state.now) c.args.count (c.requires.2 []).held c.args.links.now c.requires.1 c.args.at.0
    c.requires.0

pub in_part-requires : goal.in_part-requires
in_part-requires c = value_asked c _ _ c.in-Variable.is

pub in_items-requires : goal.in_items-requires
in_items-requires c =
    let e = c.in-Bytes.is in
    items_asked_2 c _ e 0 refl (omega arith) _
    (bytes_says (over_3 c []) (c.requires.2 []).held (place_3 c) c.requires.0 c.slot_at.result (stands_3 c []) _ _
    (holds_2 c ∙ ap Holds e)).0

pub in_items-requires-in-Words : goal.in_items-requires-in-Words
in_items-requires-in-Words c =
    let e = c.in-Words.is in
    items_asked_3 c _ e 1 refl (omega arith) _
    (words_says (over_4 c []) (c.requires.2 []).held (place_4 c) c.requires.0 c.slot_at.result (stands_4 c []) _ _
    (holds_3 c ∙ ap Holds e)).0

pub returns-in-Variable : goal.returns-in-Variable
returns-in-Variable c =
    let e = c.in-Variable.is in
    record {
      few = omega (arith, c.in_part.ensures.few);
      by_index = λ f offsets r. value_over_4 c _ _ e _ f offsets (c.in_part.ensures.by_index f (told_4 c f r.own));
    }

pub returns-in-Bytes : goal.returns-in-Bytes
returns-in-Bytes c =
    let e = c.in-Bytes.is in
    record {
      few = c.in_items.ensures.few;
      by_index = λ f offsets r. items_over_5 c _ e 0 refl (omega arith) _ f offsets (λ d. c.in_items.ensures.by_index _ d f
          (told_5 c f r.own));
    }

pub returns-in-Words : goal.returns-in-Words
returns-in-Words c =
    let e = c.in-Words.is in
    record {
      few = c.in_items-in-Words.ensures.few;
      by_index = λ f offsets r. items_over_6 c _ e 1 refl (omega arith) _ f offsets (λ d. c.in_items-in-Words.ensures.by_index _ d f
          (told_6 c f r.own));
    }
