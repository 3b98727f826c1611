-- What the code's statement in a slot says of the definition's, by its variant: its name, its location, its expression.
use mathlib.Core.Path.{◌≡◌, sym, ap, subst, ◌∙◌}
use mathlib.Core.Bool.{not}
use mathlib.Core.List.{List, [], ◌∷◌}
use Prim.Native.Nat.{ℕ, suc, ◌≤◌, ◌<◌}
use native.Mathlib.Omega.{arith}
use lib.Dec.{T}
use lib.ListN.{length, drop}
use mir.Val.{has_key}
use denote.Enum.Declared.{tag_of}
use types.Run.{OneOf, miss}
use Rattle.rules.specs.contracts.Statement.{the_type}
use Rattle.slots.specs.contracts.Slot.{the_type as slot_type}
use Rattle.rules.specs.declared.Arg.{Arg}
use Rattle.rules.specs.declared.Statement.{Statement}
use Rattle.rules.specs.declared.Statement.TheVariants.{Label, Variable, Org}
use Rattle.rules.specs.Expressions.{Expr}
use Rattle.rules.specs.Programs.{Placeℕ, gone, label, variable, org, kind_of}
use Rattle.rules.specs.Statements.{stmt_of}
use Rattle.listing.specs.Tables.{frame_at, Held}
use Rattle.slots.specs.Slots.{Slots, slot_at}
use Rattle.slots.specs.Meaning.{Stands}
use Rattle.slots.specs.declared.Slot.{Slot}
use Rattle.slots.specs.declared.Slot.TheVariants.{Gone, Holds}
use Rattle.slots.proofs.Frames.{Reads}
use Rattle.slots.proofs.Slots.{written_frame, slot_data}
use Rattle.slots.proofs.Stands.{none_stands, kind_stands, none_tag, variable_says, tag_kind}

-- the variable n with its value at a stands in a slot
pub record VariableAt (t : Slots) (i : Placeℕ) (n : ℕ) (a : Arg) : Type 0 where
  pub e : Expr
  pub is : slot_at t i ≡ variable n e
  pub from : a.0 ≡ 3
  pub long : 3 ≤ length (frame_at t.frames t.starts i)
  pub reads : Reads (drop a.0 (frame_at t.frames t.starts i)) e

-- the variants that define no name
abbrev pub nameless : List ℕ
nameless = 0 ∷ 3 ∷ 4 ∷ 5 ∷ 6 ∷ 7 ∷ []

module _ {t : Slots} {i : Placeℕ} {r : Slot} (h : Stands t i r) where
  pub gone_stands : r ≡ Gone → slot_at t i ≡ gone
  gone_stands = none_stands t i r h

  -- nothing or an instruction: of no kind that stands as it was read
  pub none_read : OneOf (0 ∷ 1 ∷ []) (tag_of slot_type r) → (k : ℕ) → kind_of (slot_at t i) ≡ suc (suc k) → ⊥
  none_read o k q = omega (arith, h.kind, none_tag r o)

  pub some_stands : (x : Statement) → r ≡ Holds x → kind_of (slot_at t i) ≡ 0 → ⊥
  some_stands x e q =
      let s = kind_stands t i r h x e in
      let g = tag_kind x in
      omega arith

  -- one of some variants is of no other kind
  pub not_kind : (x : Statement) → r ≡ Holds x → (ks : List ℕ) → OneOf ks (tag_of the_type x) → (k : ℕ) → T (not (has_key ks k)) → kind_of (slot_at t i) ≡ suc k → ⊥
  not_kind x e ks o k n q =
      let s = kind_stands t i r h x e in
      let g = tag_kind x in
      miss ks k n (subst (λ m. OneOf ks m) (omega arith) o)

  pub label_stands : (n : ℕ) → r ≡ Holds (Label n) → slot_at t i ≡ label n
  unfolding stmt_of
  label_stands n e = (h.holds (Label n) e).means

  pub org_stands : (l : ℕ) → r ≡ Holds (Org l) → slot_at t i ≡ org l
  unfolding stmt_of
  org_stands l e = (h.holds (Org l) e).means

  pub variable_stands : Held t.frames t.starts t.count → i < t.count → (n : ℕ) (a : Arg) → r ≡ Holds (Variable n a) → VariableAt t i n a
  variable_stands held l n a e =
      let s = variable_says t held i l r h n a e in
      let at : a.0 ≡ 3 = ap (λ (b : Arg). b.0) s.1 in
      let k : kind_of (slot_at t i) ≡ 3 = kind_stands t i r h (Variable n a) e in
      let f = written_frame t held i l 2 k in
      record {
        e = f.e;
        is = slot_data t i 1 k ∙ f.is ∙ ap (λ m. variable m f.e) (sym s.0);
        from = at;
        long = f.long;
        reads = subst (λ m. Reads (drop m (frame_at t.frames t.starts i)) f.e) (sym at) f.reads;
      }
