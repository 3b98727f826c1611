-- The numbers of the last line: a refusal is about one of the first 1,025 places and one of the first 16 arguments, and 3,072 rewrites are the most.
use mathlib.Core.Path.{◌≡◌, refl, subst}
use mathlib.Core.Logic.{inl, inr}
use mathlib.Core.List.{List, [], ◌∷◌}
use mathlib.Core.Bool.{Bool, true, false, ◌&&◌, cond}
use Prim.Native.Nat.{ℕ, zero, suc, ◌+◌, ◌≤◌, ◌<◌}
use native.Mathlib.Omega.{arith}
use lib.Dec.{leb, ltb, eqb}
use lib.ListN.{length, length-map, drop}
use lib.IntN.{ℤ}
use borrow.Author.Tests.{ltb-true}
use Rattle.laws.specs.Lists.{is_one_of}
use Rattle.laws.proofs.Tests.{and_true, clash}
use Rattle.laws.proofs.Lists.{total_bound}
use Rattle.rules.specs.declared.Refusal.{Refusal}
use Rattle.rules.specs.declared.Refusal.TheVariants.{Broken, Limit, Again, NoName, Back, Beyond, NoValue, Range, Outside, Far, Page, Room, Pairing, Absent, Column, Start, Unknown, Full, Store}
use Rattle.rules.specs.declared.Settings.{Settings}
use Rattle.rules.specs.declared.Kind.{Kind}
use Rattle.rules.specs.declared.Kind.TheVariants.{Reg, I8, D9, Bit, Rel8, A12, A16, Rel16}
use Rattle.rules.specs.Refusals.{fault_of}
use Rattle.rules.specs.Answers.{at_place, Judged, ok, no, require}
use Rattle.rules.specs.Expressions.{Parsed, got, long, broken, read_expr}
use Rattle.rules.specs.Forms.{operands_at}
use Rattle.rules.specs.Programs.{Placeℕ, Operand, register, Stmt, gone, instr, label, variable, comment, org, bytes, words, pad, Program}
use Rattle.rules.specs.Listing.{taken, Line, lines_of, take_byte, take_pair, parsed, take_expr, take_register, take_value, take_operand, take_operands, take_exprs, take_items, alone, read_instr, read_label, read_variable, read_org, read_bytes, read_words, read_pad, read_frame, unhex, within_limits, well_formed, read_lines, read_listing, ListingForm, old_form, new_form, read_frame_in, widest, most_characters, form_in, statement_lines, beside_of}
use Rattle.rules.specs.Names.{Entry}
use Rattle.rules.specs.Rewriting.{instr_bytes}
use Rattle.rules.specs.Run.{output_of, run}
use Rattle.promises.specs.Faults.{Amounts, out_of_range, outside, far, other_page, NumberAtFault, no_value, of_argument, of_item}
use Rattle.promises.specs.Demand1.{has_number, Cause, reading, naming, laying, defining, encoding, room}
use Rattle.promises.proofs.Says.{Says, says_no, says_require, says_cond, says_bind, Nothing-more}
use Rattle.promises.proofs.Sounds.{is_register, shapes, Sounds, SoundStmt}
use Rattle.promises.proofs.Listings.{WellMade, read_made, read_limits}
use Rattle.promises.proofs.RefusedOnce.{refused_once}
use Rattle.promises.proofs.FirstFault.{encoded_first}
use Rattle.promises.proofs.Amounts.{number_at_fault}
use Rattle.promises.proofs.RunEnds.{rewrites_bound}
use Rattle.instruction.proofs.Numbers.{size_bound, few_operands}

abbrev Any : {A : Type 0} → A → Type 0
Any a = Nothing-more a

-- ---- each reader of a part of a frame refuses at the place that it is given
module _ (i : Placeℕ) where
  abbrev Here : Refusal → Type 0
  Here r = (fault_of r).place ≡ i

  byte_here : (s : List ℕ) → Says Any Here (take_byte i s)
  unfolding take_byte
  byte_here [] = refl
  byte_here (b ∷ s) = tt

  pair_here : (s : List ℕ) → Says Any Here (take_pair i s)
  unfolding take_pair
  pair_here s =
      says_bind Any Any Here (take_byte i s) _ (byte_here s) (λ high t. says_bind Any Any Here (take_byte i high.rest) _ (byte_here high.rest) (λ low u. tt))

  expr_here : (s : List ℕ) → Says Any Here (take_expr i s)
  unfolding take_expr
  expr_here s = on (read_expr s)
    where
      on : (p : Parsed) → Says Any Here (parsed i s p)
      on (got e n) = tt
      on long = refl
      on broken = refl

  value_here : (s : List ℕ) → Says Any Here (take_value i s)
  unfolding take_value
  value_here s = says_bind Any Any Here (take_expr i s) _ (expr_here s) (λ e t. tt)

  operand_here : (k : Kind) (s : List ℕ) → Says Any Here (take_operand i k s)
  unfolding take_register
  operand_here Reg s =
      says_bind Any Any Here (take_byte i s) _ (byte_here s) (λ r t. says_require Any Here (leb r.it 3) (Broken (at_place i)) (taken (register r.it) r.rest) refl (λ e. tt))
  operand_here I8 s = value_here s
  operand_here D9 s = value_here s
  operand_here Bit s = value_here s
  operand_here Rel8 s = value_here s
  operand_here A12 s = value_here s
  operand_here A16 s = value_here s
  operand_here Rel16 s = value_here s

  operands_here : (ks : List Kind) (s : List ℕ) → Says Any Here (take_operands i ks s)
  unfolding take_operands
  operands_here [] s = tt
  operands_here (k ∷ ks) s =
      says_bind Any Any Here (take_operand i k s) _ (operand_here k s) (λ x t. says_bind Any Any Here (take_operands i ks x.rest) _ (operands_here ks x.rest) (λ xs u. tt))

  exprs_here : (n : ℕ) (s : List ℕ) → Says Any Here (take_exprs i n s)
  unfolding take_exprs
  exprs_here zero s = tt
  exprs_here (suc n) s =
      says_bind Any Any Here (take_expr i s) _ (expr_here s) (λ e t. says_bind Any Any Here (take_exprs i n e.rest) _ (exprs_here n e.rest) (λ es u. tt))

  items_here : (s : List ℕ) → Says Any Here (take_items i s)
  unfolding take_items
  items_here s =
      says_bind Any Any Here (take_byte i s) _ (byte_here s) (λ n t.
      says_require Any Here (leb 1 n.it && leb n.it 16) (Broken (at_place i)) (take_exprs i n.it n.rest) refl (λ e. exprs_here n.it n.rest))

  alone_here : (x : Stmt) (s : List ℕ) → Says Any Here (alone i x s)
  alone_here x [] = tt
  alone_here x (b ∷ s) = refl

  -- ---- each kind of frame
  instr_here : (s : List ℕ) → Says Any Here (read_instr i s)
  unfolding read_instr
  instr_here s =
      says_bind Any Any Here (take_byte i s) _ (byte_here s) (λ f t.
      says_bind Any Any Here _ _
      (says_require Any Here (ltb f.it 70) (Broken (at_place i)) (take_operands i (operands_at f.it) f.rest) refl (λ e. operands_here (operands_at f.it) f.rest))
      (λ xs u. alone_here (instr f.it xs.it i) xs.rest))

  label_here : (s : List ℕ) → Says Any Here (read_label i s)
  unfolding read_label
  label_here s = says_bind Any Any Here (take_pair i s) _ (pair_here s) (λ n t. alone_here (label n.it) n.rest)

  variable_here : (s : List ℕ) → Says Any Here (read_variable i s)
  unfolding read_variable
  variable_here s =
      says_bind Any Any Here (take_pair i s) _ (pair_here s) (λ n t.
      says_bind Any Any Here _ _
      (says_require Any Here (ltb n.it 0x8000) (Broken (at_place i)) (take_expr i n.rest) refl (λ e. expr_here n.rest))
      (λ e u. alone_here (variable n.it e.it) e.rest))

  org_here : (s : List ℕ) → Says Any Here (read_org i s)
  unfolding read_org
  org_here s = says_bind Any Any Here (take_pair i s) _ (pair_here s) (λ n t. alone_here (org n.it) n.rest)

  bytes_here : (s : List ℕ) → Says Any Here (read_bytes i s)
  unfolding read_bytes
  bytes_here s = says_bind Any Any Here (take_items i s) _ (items_here s) (λ es t. alone_here (bytes es.it) es.rest)

  words_here : (s : List ℕ) → Says Any Here (read_words i s)
  unfolding read_words
  words_here s = says_bind Any Any Here (take_items i s) _ (items_here s) (λ es t. alone_here (words es.it) es.rest)

  pad_here : (s : List ℕ) → Says Any Here (read_pad i s)
  unfolding read_pad
  pad_here s =
      says_bind Any Any Here (take_byte i s) _ (byte_here s) (λ a t.
      says_bind Any Any Here (take_pair i a.rest) _ (pair_here a.rest) (λ m u.
      says_require Any Here (leb 1 m.it && leb m.it 256) (Broken (at_place i)) (alone i (pad a.it m.it) m.rest) refl (λ e. alone_here (pad a.it m.it) m.rest)))

  frame_here : (s : List ℕ) → Says Any Here (read_frame i s)
  unfolding read_frame
  frame_here s = says_bind Any Any Here (take_byte i s) _ (byte_here s) (λ k t. kinds k.it k.rest)
    where
      on : (b : Bool) (x y : Judged Stmt) → Says Any Here x → Says Any Here y → Says Any Here (cond b x y)
      on b x y h j = says_cond Any Here b x y (λ t. h) (λ t. j)

      kinds : (k : ℕ) (s : List ℕ)
          → Says Any Here
          (cond (eqb k 1) (read_instr i s)
          (cond (eqb k 2) (read_label i s)
          (cond (eqb k 3) (read_variable i s)
          (cond (eqb k 4) (ok (comment s))
          (cond (eqb k 5) (read_org i s)
          (cond (eqb k 6) (read_bytes i s)
          (cond (eqb k 7) (read_words i s)
          (cond (eqb k 8) (read_pad i s)
          (no (Broken (at_place i)))))))))))
      kinds k s =
          on (eqb k 1) (read_instr i s) _ (instr_here s)
          (on (eqb k 2) (read_label i s) _ (label_here s)
          (on (eqb k 3) (read_variable i s) _ (variable_here s)
          (on (eqb k 4) (ok (comment s)) _ tt
          (on (eqb k 5) (read_org i s) _ (org_here s)
          (on (eqb k 6) (read_bytes i s) _ (bytes_here s)
          (on (eqb k 7) (read_words i s) _ (words_here s)
          (on (eqb k 8) (read_pad i s) (no (Broken (at_place i))) (pad_here s) refl)))))))

-- ---- line by line: the 1,025th is refused
abbrev Early : Refusal → Type 0
Early r = (fault_of r).place ≤ 1024

early : (w : ListingForm) (i sum : ℕ) (l : List ℕ) → within_limits w i sum l ≡ true → i < 1024
unfolding within_limits
early w i sum l t = ltb-true i 1024 (and_true (ltb i 1024) (leb (length l) (widest w) && leb (sum + length l) (most_characters w)) t).0

-- C-20: in either form
frame_in_here : (w : ListingForm) (i : Placeℕ) (s : List ℕ) → Says Any (Here i) (read_frame_in w i s)
frame_in_here old_form i s = frame_here i s
frame_in_here new_form i [] = refl
frame_in_here new_form i (k ∷ s) = says_require Any (Here i) (leb 4 (length s)) (Broken (at_place i)) _ refl (λ t. frame_here i (k ∷ drop 4 s))

lines_early : (w : ListingForm) (i sum : ℕ) (ls : List Line) → i ≤ 1024 → Says Any Early (read_lines w i sum ls)
unfolding read_lines
lines_early w i sum [] h = tt
lines_early w i sum (l ∷ ls) h =
    let n : ℕ = length l.chars in
    says_bind (λ s. i < 1024) Any Early _ _ first (λ s k. says_bind Any Any Early (read_lines w (suc i) (sum + n) ls) _ (lines_early w (suc i) (sum + n) ls (omega arith)) (λ p u. tt))
  where
    frame : i < 1024 → (x : Judged Stmt) → Says Any (Here i) x → Says (λ s. i < 1024) Early x
    frame k (ok s) u = k
    frame k (no r) u = omega arith

    first : Says (λ s. i < 1024) Early (require (within_limits w i sum l.chars) (Limit (at_place i)) (require (well_formed l) (Broken (at_place i)) (read_frame_in w i (unhex l.chars))))
    first =
        says_require (λ s. i < 1024) Early (within_limits w i sum l.chars) (Limit (at_place i)) _ h (λ t.
        says_require (λ s. i < 1024) Early (well_formed l) (Broken (at_place i)) _ h (λ u. frame (early w i sum l.chars t) (read_frame_in w i (unhex l.chars)) (frame_in_here w i (unhex l.chars))))

read_early : (text : List ℕ) (r : Refusal) → read_listing text ≡ no r → Early r
unfolding read_listing
read_early text r e =
    let w : ListingForm = form_in (lines_of text) in
    let ls : List Line = statement_lines (lines_of text) in
    says_no Any Early (read_lines w 0 0 ls) r (lines_early w 0 0 ls (omega arith)) e

-- every refusal of a run
pub refused_early : (asked : Settings) (text : List ℕ) (listing_room image_room : ℕ) (r : Refusal) → run asked text listing_room image_room ≡ no r → (fault_of r).place ≤ 1024
refused_early asked text listing_room image_room r e = on ((refused_once asked text listing_room image_room r).0 e)
  where
    few : (p : Program) → read_listing text ≡ ok p → length p ≤ 1024
    few p d = (read_limits text p d).0

    on : Cause asked text listing_room image_room r → (fault_of r).place ≤ 1024
    on (reading d x) = read_early text r d
    on (naming p d a x) = omega (arith, x.place, few p d)
    on (laying p d a b x) = omega (arith, x.place, few p d)
    on (defining p d a b c x) = omega (arith, x.place, few p d)
    on (encoding p names d a b c f x) = omega (arith, x.place, few p d)
    on (room p image d j f x) = rw x (few p d)

-- ---- the argument that a refusal is about: a form has three at most, data 16
no_argument : (xs : List ℕ) (r : Refusal) → is_one_of xs 8 ≡ false → is_one_of xs 9 ≡ false → is_one_of xs 10 ≡ false → is_one_of xs 11 ≡ false → has_number xs r ≡ true → (fault_of r).argument ≡ 0
no_argument xs (Broken i) a b c d h = refl
no_argument xs (Limit i) a b c d h = refl
no_argument xs (Again i) a b c d h = refl
no_argument xs (NoName i) a b c d h = refl
no_argument xs (Back i) a b c d h = refl
no_argument xs (Beyond i) a b c d h = refl
no_argument xs (NoValue i) a b c d h = refl
no_argument xs (Range i j v) a b c d h = clash (cc)
no_argument xs (Outside i j v) a b c d h = clash (cc)
no_argument xs (Far i j v) a b c d h = clash (cc)
no_argument xs (Page i j v) a b c d h = clash (cc)
no_argument xs (Room n) a b c d h = refl
no_argument xs (Pairing k) a b c d h = refl
no_argument xs Absent a b c d h = refl
no_argument xs (Column i v) a b c d h = refl
no_argument xs Start a b c d h = refl
no_argument xs Unknown a b c d h = refl
no_argument xs Full a b c d h = refl
no_argument xs Store a b c d h = refl

amount_argument : {n i j : ℕ} {v : ℤ} {r : Refusal} → Amounts n i j v r → (fault_of r).argument ≡ j
amount_argument out_of_range = refl
amount_argument outside = refl
amount_argument far = refl
amount_argument other_page = refl

few_sounds : (bs : List Bool) (xs : List Operand) → Sounds bs xs → length xs ≤ length bs
few_sounds [] [] h = omega arith
few_sounds [] (x ∷ xs) h = absurd h
few_sounds (b ∷ bs) [] h = absurd h
few_sounds (b ∷ bs) (x ∷ xs) h = let below = few_sounds bs xs h.1 in omega arith

encoded_argument : (p : Program) (names : List Entry) (i : Placeℕ) (r : Refusal) → WellMade p → NumberAtFault names p i r → (fault_of r).argument ≤ 16
encoded_argument p names i r w (no_value h) = omega (arith, no_argument (4 ∷ 7 ∷ []) r refl refl refl refl h)
encoded_argument p names i r w (of_argument f xs c j v e l x a) =
    let s : SoundStmt (instr f xs c) = subst SoundStmt e (w.sound i) in
    omega (arith, amount_argument a, few_sounds (shapes f) xs s.1, length-map (operands_at f) (λ k. is_register k), few_operands f)
encoded_argument p names i r w (of_item es j v (inl e) l x a) = let s : SoundStmt (bytes es) = subst SoundStmt e (w.sound i) in omega (arith, amount_argument a, s.1)
encoded_argument p names i r w (of_item es j v (inr e) l x a) = let s : SoundStmt (words es) = subst SoundStmt e (w.sound i) in omega (arith, amount_argument a, s.1)

-- every refusal of a run
pub refused_argument : (asked : Settings) (text : List ℕ) (listing_room image_room : ℕ) (r : Refusal) → run asked text listing_room image_room ≡ no r → (fault_of r).argument < 256
refused_argument asked text listing_room image_room r e = on ((refused_once asked text listing_room image_room r).0 e)
  where
    on : Cause asked text listing_room image_room r → (fault_of r).argument < 256
    on (reading d x) = omega (arith, no_argument (1 ∷ 2 ∷ []) r refl refl refl refl x)
    on (naming p d a x) = omega (arith, no_argument (3 ∷ []) r refl refl refl refl x.number)
    on (laying p d a b x) = omega (arith, no_argument (5 ∷ 6 ∷ []) r refl refl refl refl x.number)
    on (defining p d a b c x) = omega (arith, no_argument (4 ∷ 7 ∷ []) r refl refl refl refl x.number)
    on (encoding p names d a b c f x) =
        let first = encoded_first p r names f in
        omega (arith, encoded_argument p names first.place r (read_made text p d) (number_at_fault names p first.place r first.refused))
    on (room p image d j f x) = rw x (omega arith)

-- ---- no instruction has more than three bytes
instr_small : (s : Stmt) → instr_bytes s ≤ 3
instr_small gone = omega arith
instr_small (instr f xs c) = size_bound f
instr_small (label n) = omega arith
instr_small (variable n e) = omega arith
instr_small (comment x) = omega arith
instr_small (org l) = omega arith
instr_small (bytes es) = omega arith
instr_small (words es) = omega arith
instr_small (pad add m) = omega arith

pub few_rewrites : (asked : Settings) (text : List ℕ) (p : Program) → read_listing text ≡ ok p → (output_of asked (beside_of text) p).count ≤ 3072
unfolding output_of
few_rewrites asked text p e =
    let b = rewrites_bound asked p in
    omega (arith, b.counted, b.bounded, total_bound instr_bytes 3 p instr_small, (read_limits text p e).0)
