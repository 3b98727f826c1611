-- The encoding pass, statement by statement: what passes leaves the rest to be judged, and what is refused is the answer.
use mathlib.Core.Path.{◌≡◌, refl, sym, ap, ◌∙◌}
use mathlib.Core.List.{List, [], ◌∷◌}
use mathlib.Core.Logic.{⊎_elim}
use mathlib.Core.Bool.{Bool, true, false, not, ◌||◌}
use Prim.Native.Nat.{ℕ, zero, suc, ◌≤◌, ◌<◌}
use native.Mathlib.Omega.{arith}
use lib.Dec.{eqb}
use lib.ListN.{drop, replicate}
use denote.Enum.Declared.{tag_of}
use types.Run.{OneOf}
use Rattle.std.specs.Prelude.{Err, Ok}
use Rattle.std.specs.Result as result
use Rattle.rules.specs.contracts.Statement.{the_type}
use Rattle.laws.proofs.Tests.{clash, true_false, false_true}
use Rattle.rules.specs.declared.Refusal.{Refusal}
use Rattle.rules.specs.declared.Statement.{Statement}
use Rattle.rules.specs.Answers.{Judged, ok, no, ◌>>=◌, is_ok}
use Rattle.rules.specs.Programs.{Stmt, gone, instr, label, variable, comment, org, bytes, words, pad, Program, byte_count, kind_of}
use Rattle.rules.specs.Layout.{position, lay}
use Rattle.rules.specs.Names.{Entry, context_at, placed}
use Rattle.rules.specs.Judging.{encode, encode_all}
use Rattle.rules.proofs.Laws.{then_ok}
use Rattle.slots.specs.Slots.{slot_at}
use Rattle.slots.specs.Meaning.{kind_for}
use Rattle.slots.proofs.Stands.{tag_kind}
use Rattle.image.specs.Tables.{Tables, program}
use Rattle.image.specs.Encoding.{encode_at, encoded_as, checked_as, check_of, encode_slots}
use Rattle.image.proofs.Answers.{bind_ok, bind_no}
use Rattle.image.proofs.Placed.{placed_drop, placed_end}
use Rattle.image.proofs.Worths.{count_program, at_program}

-- ---- answers without what they hold

pub passes_ok : {A : Type 0} (x : Judged A) → checked_as x ≡ Ok tt → (a : A) × (x ≡ ok a)
passes_ok (ok a) e = (a, refl)
passes_ok (no r) e = clash (cc)

pub refused_no : {A : Type 0} (x : Judged A) (r : Refusal) → checked_as x ≡ Err r → x ≡ no r
refused_no (ok a) r e = clash (cc)
refused_no (no q) r e = cc

pub checked_then : {A B : Type 0} (x : Judged A) (f : A → B) → checked_as (x >>= (λ a. ok (f a))) ≡ checked_as x
unfolding ◌>>=◌
checked_then (ok a) f = refl
checked_then (no r) f = refl

pub checked_code : (x : Judged (List ℕ)) → check_of (encoded_as x) ≡ checked_as x
checked_code (ok b) = refl
checked_code (no r) = refl

pub passes_is : {A : Type 0} (x : Judged A) → (Ok tt) ≡ checked_as x → true ≡ is_ok x
unfolding is_ok
passes_is (ok a) e = refl
passes_is (no r) e = clash (cc)

pub refused_is : {A : Type 0} (x : Judged A) (r : Refusal) → Err r ≡ checked_as x → false ≡ is_ok x
unfolding is_ok
refused_is (ok a) r e = clash (cc)
refused_is (no q) r e = refl

pub ok_checked : {A : Type 0} (x : Judged A) → result.is_ok (checked_as x) ≡ is_ok x
unfolding is_ok
ok_checked (ok a) = refl
ok_checked (no r) = refl

pub ok_same : {A : Type 0} {a b : A} → ok a ≡ ok b → a ≡ b
ok_same e = cc

-- ---- neither an instruction nor data: zeros, if any

abbrev pub plain : (kind : ℕ) → Bool
plain k = not (eqb k 1 || (eqb k 6 || eqb k 7))

-- by the number of the code's variant; an instruction is never met there
pub plain_tag : (x : Statement) → 2 ≤ kind_for x → OneOf (0 ∷ 1 ∷ 2 ∷ 3 ∷ 4 ∷ 7 ∷ []) (tag_of the_type x) → plain (kind_for x) ≡ true
plain_tag x o =
    ⊎_elim (λ e. absurd (omega (arith, tag_kind x)))
    (⊎_elim (on 1 refl) (⊎_elim (on 2 refl) (⊎_elim (on 3 refl) (⊎_elim (on 4 refl) (on 7 refl)))))
  where
    on : (m : ℕ) → plain (suc m) ≡ true → tag_of the_type x ≡ m → plain (kind_for x) ≡ true
    on m p e = ap plain (tag_kind x ∙ ap suc e) ∙ p

encode_plain : (names : List Entry) (p : Program) (i k q : ℕ) (s : Stmt) → plain (kind_of s) ≡ true → encode names p i k q s ≡ ok (replicate (byte_count q s) 0)
unfolding encode
encode_plain names p i k q gone o = refl
encode_plain names p i k q (instr f xs c) o = false_true o
encode_plain names p i k q (label m) o = refl
encode_plain names p i k q (variable m e) o = refl
encode_plain names p i k q (comment x) o = refl
encode_plain names p i k q (org m) o = refl
encode_plain names p i k q (bytes es) o = false_true o
encode_plain names p i k q (words es) o = false_true o
encode_plain names p i k q (pad add m) o = refl

pub plain_zeros : (d : Tables) (i : ℕ) → plain (kind_of (slot_at d.slots i)) ≡ true → encode_at d i ≡ ok (replicate (byte_count (position (program d) i) (slot_at d.slots i)) 0)
unfolding encode_at
plain_zeros d i = encode_plain d.entries (program d) i (context_at (program d) i) (position (program d) i) (slot_at d.slots i)

-- ---- the pass from slot i on

module _ (d : Tables) where
  unfoldable pub from_slot : (i : ℕ) → Judged (List ℕ)
  from_slot i = encode_all d.entries (program d) (drop i (placed (program d)))

  pub from_start : encode_slots d ≡ from_slot 0
  unfolding encode_slots from_slot
  from_start = refl

  pub from_more : (i : ℕ) → i < d.slots.count
      → from_slot i ≡ encode_at d i >>= (λ b. from_slot (suc i) >>= (λ rest. ok (lay (position (program d) i) (slot_at d.slots i) b rest)))
  unfolding from_slot encode_at encode_all
  from_more i l =
      let p = program d in
      let here : Stmt → Judged (List ℕ) = λ s.
      encode d.entries p i (context_at p i) (position p i) s >>= (λ b. encode_all d.entries p (drop (suc i) (placed p)) >>= (λ rest. ok (lay (position p i) s b rest))) in
      ap (encode_all d.entries p) (placed_drop p i (omega (arith, count_program d.slots))) ∙ ap here (at_program d.slots i l)

  pub from_end : (i : ℕ) → d.slots.count ≤ i → from_slot i ≡ ok []
  unfolding from_slot encode_all
  from_end i l = ap (encode_all d.entries (program d)) (placed_end (program d) i (omega (arith, count_program d.slots)))

  -- a slot that passes, and one that is refused
  pub slot_passes : (i : ℕ) → i < d.slots.count → checked_as (encode_at d i) ≡ Ok tt → checked_as (from_slot i) ≡ checked_as (from_slot (suc i))
  slot_passes i l e =
      let b = passes_ok (encode_at d i) e in
      ap checked_as (from_more i l ∙ bind_ok (encode_at d i) _ b.0 b.1)
      ∙ checked_then (from_slot (suc i)) (λ rest. lay (position (program d) i) (slot_at d.slots i) b.0 rest)

  pub slot_refused : (i : ℕ) → i < d.slots.count → (r : Refusal) → checked_as (encode_at d i) ≡ Err r → checked_as (from_slot i) ≡ Err r
  slot_refused i l r e = ap checked_as (from_more i l ∙ bind_no (encode_at d i) _ r (refused_no (encode_at d i) r e))

  -- ---- a pass that went well

  -- from any slot on it went well
  pub record Step (i : ℕ) (rest : List ℕ) : Type 0 where
    pub bytes : List ℕ
    pub next : List ℕ
    pub encodes : encode_at d i ≡ ok bytes
    pub follows : from_slot (suc i) ≡ ok next
    pub is : rest ≡ lay (position (program d) i) (slot_at d.slots i) bytes next

  pub step_ok : (i : ℕ) → i < d.slots.count → (rest : List ℕ) → from_slot i ≡ ok rest → Step i rest
  step_ok i l rest e =
      let q = position (program d) i in
      let s = slot_at d.slots i in
      let a = then_ok (encode_at d i) (λ b. from_slot (suc i) >>= (λ r. ok (lay q s b r))) rest (sym (from_more i l) ∙ e) in
      let c = then_ok (from_slot (suc i)) (λ r. ok (lay q s a.0 r)) rest a.2 in
      let w : ok (lay q s a.0 c.0) ≡ ok rest = c.2 in
      record { bytes = a.0; next = c.0; encodes = a.1; follows = c.1; is = sym (ok_same w) }

  pub rest_ok : (i : ℕ) → i ≤ d.slots.count → (image : List ℕ) → encode_slots d ≡ ok image → (rest : List ℕ) × (from_slot i ≡ ok rest)
  rest_ok zero l image e = (image, sym from_start ∙ e)
  rest_ok (suc i) l image e =
      let r = rest_ok i (omega arith) image e in
      let s = step_ok i (omega arith) r.0 r.1 in
      (s.next, s.follows)

  -- a statement that does not encode: the whole does not
  pub slot_fails : (i : ℕ) → i < d.slots.count → is_ok (encode_at d i) ≡ false → is_ok (encode_slots d) ≡ false
  unfolding is_ok
  slot_fails i l e = on (encode_slots d) refl
    where
      on : (x : Judged (List ℕ)) → encode_slots d ≡ x → is_ok x ≡ false
      on (no r) q = refl
      on (ok image) q =
          let r = rest_ok i (omega arith) image q in
          let s = step_ok i l r.0 r.1 in
          true_false (sym (ap is_ok s.encodes) ∙ e)
