-- What reading a frame says: an instruction carries its own place and holds no inner label, writing gives back as many bytes as were read, the
-- statement is one that a frame can say, and only 1 and 2 refuse, of the line itself.
use mathlib.Core.Path.{◌≡◌, refl}
use mathlib.Core.List.{List, [], ◌∷◌, map}
use mathlib.Core.Bool.{Bool, true, false, ◌&&◌, cond}
use Prim.Native.Nat.{ℕ, zero, suc, ◌+◌, ◌≤◌, ◌<◌}
use native.Mathlib.Omega.{arith}
use lib.Dec.{leb, ltb, eqb}
use lib.ListN.{length, length-drop, length-append, drop}
use borrow.Author.Tests.{eq-eqb, leb-true, ltb-true}
use Rattle.laws.specs.Lists.{every, each}
use Rattle.laws.proofs.Tests.{and_both, and_true}
use Rattle.rules.specs.declared.Refusal.{Refusal}
use Rattle.rules.specs.declared.Refusal.TheVariants.{Broken}
use Rattle.rules.specs.declared.Kind.{Kind}
use Rattle.rules.specs.declared.Kind.TheVariants.{Reg, I8, D9, Bit, Rel8, A12, A16, Rel16}
use Rattle.rules.specs.Refusals.{fault_of}
use Rattle.rules.specs.Answers.{at_place, Judged, ok, no, ◌>>=◌}
use Rattle.rules.specs.Expressions.{Expr, Parsed, got, long, broken, read_expr, bytes_of}
use Rattle.rules.specs.Forms.{operands_at}
use Rattle.rules.specs.Programs.{Placeℕ, Operand, register, Stmt, instr, label, variable, comment, org, bytes, words, on_instr, pad}
use Rattle.rules.specs.Listing.{Taken, taken, take_byte, take_pair, parsed, take_expr, take_register, take_value, take_operand, take_operands, take_exprs, take_items, alone, read_instr, read_label, read_variable, read_org, read_bytes, read_words, read_frame, read_pad, ListingForm, old_form, new_form, line_bytes, read_frame_in}
use Rattle.rules.specs.Rewriting.{of_inner}
use Rattle.rules.specs.Output.{operand_bytes, frame_of}
use Rattle.promises.specs.Demand1.{has_number}
use Rattle.promises.proofs.Says.{Says, says_with, says_require, says_cond, says_bind}
use Rattle.promises.proofs.Parses.{Bytes, bytes_drop, Took, read_expr_took}
use Rattle.promises.proofs.Sounds.{all_bytes, is_register, SoundExpr, SoundExprs, Sound, Sounds, SoundStmt}

-- "1 and 2 line by line": of the line that is read
abbrev pub OfReading : (i : Placeℕ) → Refusal → Type 0
OfReading i r = (has_number (1 ∷ 2 ∷ []) r ≡ true) × ((fault_of r).place ≡ i)

-- an operand that is no inner label
abbrev pub is_plain : Operand → Bool
is_plain x = of_inner (λ i o. false) x

-- the statement as place i reads it
abbrev pub made_at : Placeℕ → Stmt → Bool
made_at i s = on_instr true (λ x. eqb x.carried i && every is_plain x.args) s

-- ---- parts of a frame: what is taken, and what is left, is all; of bytes what is taken is sound, and bytes are left
record Part {A : Type 0} (width : A → ℕ) (Good : A → Type 0) (s : List ℕ) (t : Taken A) : Type 0 where
  all : width t.it + length t.rest ≡ length s
  good : Bytes s → Good t.it × Bytes t.rest

Byte : List ℕ → Taken ℕ → Type 0
Byte s t = Part (λ b. 1) (λ b. b < 256) s t

byte_taken : (i : Placeℕ) (s : List ℕ) → Says (Byte s) (OfReading i) (take_byte i s)
unfolding take_byte Byte
byte_taken i [] = (refl, refl)
byte_taken i (b ∷ s) = record { all = omega arith; good = λ h. (h 0, λ j. h (suc j)) }

Pair : List ℕ → Taken ℕ → Type 0
Pair s t = Part (λ n. 2) (λ n. n < 65536) s t

pair_taken : (i : Placeℕ) (s : List ℕ) → Says (Pair s) (OfReading i) (take_pair i s)
unfolding take_pair Byte Pair
pair_taken i s =
    says_bind (Byte s) (Pair s) (OfReading i) (take_byte i s) _ (byte_taken i s) (λ high h.
    says_bind (Byte high.rest) (Pair s) (OfReading i) (take_byte i high.rest) _ (byte_taken i high.rest) (λ low k.
    record {
      all = omega (arith, h.all, k.all);
      good = λ b. let x = h.good b in let y = k.good x.1 in (omega (arith, x.0, y.0), y.1);
    }))

InExpr : List ℕ → Taken Expr → Type 0
InExpr s t = Part (λ e. length (bytes_of e)) SoundExpr s t

expr_taken : (i : Placeℕ) (s : List ℕ) → Says (InExpr s) (OfReading i) (take_expr i s)
unfolding take_expr InExpr
expr_taken i s = on (read_expr s) (read_expr_took s)
  where
    on : (p : Parsed) → Took 32 s p → Says (InExpr s) (OfReading i) (parsed i s p)
    on (got e n) h =
        record { all = omega (arith, h.as_written, h.there, length-drop n s); good = λ b. ((h.fine b, omega (arith, h.as_written, h.allowed)), bytes_drop n s b) }
    on long h = (refl, refl)
    on broken h = (refl, refl)

-- ---- operands
record Operandly (k : Kind) (s : List ℕ) (t : Taken Operand) : Type 0 where
  part : Part (λ x. length (operand_bytes x)) (Sound (is_register k)) s t
  plain : is_plain t.it ≡ true

value_taken : (i : Placeℕ) (k : Kind) (s : List ℕ) → is_register k ≡ false → Says (Operandly k s) (OfReading i) (take_value i s)
unfolding take_value InExpr
value_taken i k s e =
    says_bind (InExpr s) (Operandly k s) (OfReading i) (take_expr i s) _ (expr_taken i s) (λ d h.
    record { part = record { all = h.all; good = λ b. rw e (h.good b) }; plain = refl })

operand_taken : (i : Placeℕ) (k : Kind) (s : List ℕ) → Says (Operandly k s) (OfReading i) (take_operand i k s)
unfolding take_register Byte
operand_taken i Reg s =
    says_bind (Byte s) (Operandly Reg s) (OfReading i) (take_byte i s) _ (byte_taken i s) (λ r h.
    says_require (Operandly Reg s) (OfReading i) (leb r.it 3) (Broken (at_place i)) (taken (register r.it) r.rest) (refl, refl) (λ e.
    record { part = record { all = h.all; good = λ b. (leb-true r.it 3 e, (h.good b).1) }; plain = refl }))
operand_taken i I8 s = value_taken i I8 s refl
operand_taken i D9 s = value_taken i D9 s refl
operand_taken i Bit s = value_taken i Bit s refl
operand_taken i Rel8 s = value_taken i Rel8 s refl
operand_taken i A12 s = value_taken i A12 s refl
operand_taken i A16 s = value_taken i A16 s refl
operand_taken i Rel16 s = value_taken i Rel16 s refl

record Operandlies (ks : List Kind) (s : List ℕ) (t : Taken (List Operand)) : Type 0 where
  part : Part (λ xs. length (each (λ x. operand_bytes x) xs)) (Sounds (map (λ k. is_register k) ks)) s t
  plain : every is_plain t.it ≡ true

operands_taken : (i : Placeℕ) (ks : List Kind) (s : List ℕ) → Says (Operandlies ks s) (OfReading i) (take_operands i ks s)
unfolding take_operands each every
operands_taken i [] s = record { part = record { all = omega arith; good = λ b. (tt, b) }; plain = refl }
operands_taken i (k ∷ ks) s =
    says_bind (Operandly k s) (Operandlies (k ∷ ks) s) (OfReading i) (take_operand i k s) _ (operand_taken i k s) (λ x h.
    says_bind (Operandlies ks x.rest) (Operandlies (k ∷ ks) s) (OfReading i) (take_operands i ks x.rest) _ (operands_taken i ks x.rest) (λ xs t.
    record {
      part = record {
        all = omega (arith, length-append (operand_bytes x.it) (each (λ x. operand_bytes x) xs.it), h.part.all, t.part.all);
        good = λ b. let y = h.part.good b in let z = t.part.good y.1 in ((y.0, z.0), z.1);
      };
      plain = and_both (is_plain x.it) (every is_plain xs.it) h.plain t.plain;
    }))

-- ---- data
record Items (n : ℕ) (s : List ℕ) (t : Taken (List Expr)) : Type 0 where
  part : Part (λ es. length (each (λ e. bytes_of e) es)) SoundExprs s t
  many : length t.it ≡ n

exprs_taken : (i : Placeℕ) (n : ℕ) (s : List ℕ) → Says (Items n s) (OfReading i) (take_exprs i n s)
unfolding take_exprs each InExpr
exprs_taken i zero s = record { part = record { all = omega arith; good = λ b. (tt, b) }; many = refl }
exprs_taken i (suc n) s =
    says_bind (InExpr s) (Items (suc n) s) (OfReading i) (take_expr i s) _ (expr_taken i s) (λ e h.
    says_bind (Items n e.rest) (Items (suc n) s) (OfReading i) (take_exprs i n e.rest) _ (exprs_taken i n e.rest) (λ es t.
    record {
      part = record {
        all = omega (arith, length-append (bytes_of e.it) (each (λ e. bytes_of e) es.it), h.all, t.part.all);
        good = λ b. let y = h.good b in let z = t.part.good y.1 in ((y.0, z.0), z.1);
      };
      many = omega (arith, t.many);
    }))

-- a count 1 to 16 in front
InItems : List ℕ → Taken (List Expr) → Type 0
InItems s t = Part (λ es. suc (length (each (λ e. bytes_of e) es))) (λ es. (1 ≤ length es) × (length es ≤ 16) × SoundExprs es) s t

items_taken : (i : Placeℕ) (s : List ℕ) → Says (InItems s) (OfReading i) (take_items i s)
unfolding take_items Byte InItems
items_taken i s =
    says_bind (Byte s) (InItems s) (OfReading i) (take_byte i s) _ (byte_taken i s) (λ n h.
    says_require (InItems s) (OfReading i) (leb 1 n.it && leb n.it 16) (Broken (at_place i)) (take_exprs i n.it n.rest) (refl, refl) (λ t.
    counted n h t (take_exprs i n.it n.rest) (exprs_taken i n.it n.rest)))
  where
    counted : (n : Taken ℕ) → Byte s n → leb 1 n.it && leb n.it 16 ≡ true → (x : Judged (Taken (List Expr))) → Says (Items n.it n.rest) (OfReading i) x → Says (InItems s) (OfReading i) x
    counted n h t (ok es) k =
        let l = and_true (leb 1 n.it) (leb n.it 16) t in
        let low = leb-true 1 n.it l.0 in
        let high = leb-true n.it 16 l.1 in
        record {
          all = omega (arith, h.all, k.part.all);
          good = λ b. let y = k.part.good (h.good b).1 in ((omega (arith, k.many), omega (arith, k.many), y.0), y.1);
        }
    counted n h t (no r) k = k

-- ---- frames
-- a frame of n bytes that place i reads; B says that they are bytes
pub record Framed (i : Placeℕ) (n : ℕ) (B : Type 0) (x : Stmt) : Type 0 where
  pub made : made_at i x ≡ true
  pub as_long : length (frame_of x) ≡ n
  pub sound : B → SoundStmt x

alone_framed : (i : Placeℕ) (n : ℕ) (B : Type 0) (x : Stmt) (rest : List ℕ) → (length rest ≡ 0 → Framed i n B x) → Says (Framed i n B) (OfReading i) (alone i x rest)
alone_framed i n B x [] h = h refl
alone_framed i n B x (b ∷ s) h = (refl, refl)

module _ (i : Placeℕ) (s : List ℕ) where
  abbrev F : Stmt → Type 0
  F x = Framed i (suc (length s)) (Bytes s) x

  -- each by what follows its first byte
  instr_framed : Says F (OfReading i) (read_instr i s)
  unfolding read_instr frame_of Byte
  instr_framed =
      says_bind (Byte s) F (OfReading i) (take_byte i s) _ (byte_taken i s) (λ f h.
      says_bind (λ xs. (f.it < 70) × Operandlies (operands_at f.it) f.rest xs) F (OfReading i) _ _
      (says_require _ (OfReading i) (ltb f.it 70) (Broken (at_place i)) (take_operands i (operands_at f.it) f.rest) (refl, refl)
      (λ t. says_with (Operandlies (operands_at f.it) f.rest) (OfReading i) (ltb-true f.it 70 t) (take_operands i (operands_at f.it) f.rest) (operands_taken i (operands_at f.it) f.rest)))
      (λ xs k. alone_framed i (suc (length s)) (Bytes s) (instr f.it xs.it i) xs.rest (λ z.
      record {
        made = and_both (eqb i i) (every is_plain xs.it) (eq-eqb i i refl) k.1.plain;
        as_long = omega (arith, h.all, k.1.part.all);
        sound = λ b. (k.0, (k.1.part.good (h.good b).1).0);
      })))

  label_framed : Says F (OfReading i) (read_label i s)
  unfolding read_label frame_of Pair
  label_framed =
      says_bind (Pair s) F (OfReading i) (take_pair i s) _ (pair_taken i s) (λ n h.
      alone_framed i (suc (length s)) (Bytes s) (label n.it) n.rest (λ z. record { made = refl; as_long = omega (arith, h.all); sound = λ b. (h.good b).0 }))

  variable_framed : Says F (OfReading i) (read_variable i s)
  unfolding read_variable frame_of Pair InExpr
  variable_framed =
      says_bind (Pair s) F (OfReading i) (take_pair i s) _ (pair_taken i s) (λ n h.
      says_bind (λ e. (n.it < 0x8000) × InExpr n.rest e) F (OfReading i) _ _
      (says_require _ (OfReading i) (ltb n.it 0x8000) (Broken (at_place i)) (take_expr i n.rest) (refl, refl)
      (λ t. says_with (InExpr n.rest) (OfReading i) (ltb-true n.it 0x8000 t) (take_expr i n.rest) (expr_taken i n.rest)))
      (λ e k. alone_framed i (suc (length s)) (Bytes s) (variable n.it e.it) e.rest (λ z.
      record { made = refl; as_long = omega (arith, h.all, k.1.all); sound = λ b. (k.0, (k.1.good (h.good b).1).0) })))

  org_framed : Says F (OfReading i) (read_org i s)
  unfolding read_org frame_of Pair
  org_framed =
      says_bind (Pair s) F (OfReading i) (take_pair i s) _ (pair_taken i s) (λ n h.
      alone_framed i (suc (length s)) (Bytes s) (org n.it) n.rest (λ z. record { made = refl; as_long = omega (arith, h.all); sound = λ b. (h.good b).0 }))

  bytes_framed : Says F (OfReading i) (read_bytes i s)
  unfolding read_bytes frame_of InItems
  bytes_framed =
      says_bind (InItems s) F (OfReading i) (take_items i s) _ (items_taken i s) (λ es h.
      alone_framed i (suc (length s)) (Bytes s) (bytes es.it) es.rest (λ z. record { made = refl; as_long = omega (arith, h.all); sound = λ b. (h.good b).0 }))

  words_framed : Says F (OfReading i) (read_words i s)
  unfolding read_words frame_of InItems
  words_framed =
      says_bind (InItems s) F (OfReading i) (take_items i s) _ (items_taken i s) (λ es h.
      alone_framed i (suc (length s)) (Bytes s) (words es.it) es.rest (λ z. record { made = refl; as_long = omega (arith, h.all); sound = λ b. (h.good b).0 }))

  pad_framed : Says F (OfReading i) (read_pad i s)
  unfolding read_pad frame_of Byte Pair
  pad_framed =
      says_bind (Byte s) F (OfReading i) (take_byte i s) _ (byte_taken i s) (λ add h.
      says_bind (Pair add.rest) F (OfReading i) (take_pair i add.rest) _ (pair_taken i add.rest) (λ m k.
      says_require F (OfReading i) (leb 1 m.it && leb m.it 256) (Broken (at_place i)) _ (refl, refl) (λ t.
      let l = and_true (leb 1 m.it) (leb m.it 256) t in
      alone_framed i (suc (length s)) (Bytes s) (pad add.it m.it) m.rest (λ z.
      record {
        made = refl;
        as_long = omega (arith, h.all, k.all);
        sound = λ b. ((h.good b).0, leb-true 1 m.it l.0, leb-true m.it 256 l.1);
      }))))

  -- by the first byte
  kind_framed : (k : ℕ) → Says F (OfReading i) (read_frame i (k ∷ s))
  unfolding read_frame frame_of take_byte ◌>>=◌
  kind_framed k =
      on (eqb k 1) (read_instr i s) _ instr_framed
      (on (eqb k 2) (read_label i s) _ label_framed
      (on (eqb k 3) (read_variable i s) _ variable_framed
      (on (eqb k 4) (ok (comment s)) _ (record { made = refl; as_long = refl; sound = all_bytes s })
      (on (eqb k 5) (read_org i s) _ org_framed
      (on (eqb k 6) (read_bytes i s) _ bytes_framed
      (on (eqb k 7) (read_words i s) _ words_framed
      (on (eqb k 8) (read_pad i s) (no (Broken (at_place i))) pad_framed (refl, refl))))))))
    where
      on : (b : Bool) (x y : Judged Stmt) → Says F (OfReading i) x → Says F (OfReading i) y → Says F (OfReading i) (cond b x y)
      on b x y h j = says_cond F (OfReading i) b x y (λ t. h) (λ t. j)

-- what reading a frame says
pub frame_read : (i : Placeℕ) (s : List ℕ) → Says (Framed i (length s) (Bytes s)) (OfReading i) (read_frame i s)
unfolding read_frame take_byte ◌>>=◌
frame_read i [] = (refl, refl)
frame_read i (k ∷ s) = whole (read_frame i (k ∷ s)) (kind_framed i s k)
  where
    whole : (x : Judged Stmt) → Says (Framed i (suc (length s)) (Bytes s)) (OfReading i) x → Says (Framed i (suc (length s)) (Bytes (k ∷ s))) (OfReading i) x
    whole (ok y) h = record { made = h.made; as_long = h.as_long; sound = λ b. h.sound (λ j. b (suc j)) }
    whole (no r) h = h

-- ---- C-20: of either form: the source line takes its bytes, and the rest is a frame of the old form
pub record FramedIn (w : ListingForm) (i : Placeℕ) (s : List ℕ) (x : Stmt) : Type 0 where
  pub made : made_at i x ≡ true
  pub as_long : length (frame_of x) + line_bytes w ≡ length s
  pub sound : Bytes s → SoundStmt x

pub frame_read_in : (w : ListingForm) (i : Placeℕ) (s : List ℕ) → Says (FramedIn w i s) (OfReading i) (read_frame_in w i s)
frame_read_in old_form i s = on (read_frame i s) (frame_read i s)
  where
    on : (x : Judged Stmt) → Says (Framed i (length s) (Bytes s)) (OfReading i) x → Says (FramedIn old_form i s) (OfReading i) x
    on (ok y) h = record { made = h.made; as_long = omega (arith, h.as_long); sound = h.sound }
    on (no r) h = h
frame_read_in new_form i [] = (refl, refl)
frame_read_in new_form i (k ∷ s) =
    says_require (FramedIn new_form i (k ∷ s)) (OfReading i) (leb 4 (length s)) (Broken (at_place i)) (read_frame i (k ∷ drop 4 s)) (refl, refl)
    (λ t. on (leb-true 4 (length s) t) (read_frame i (k ∷ drop 4 s)) (frame_read i (k ∷ drop 4 s)))
  where
    kept : Bytes (k ∷ s) → Bytes (k ∷ drop 4 s)
    kept b zero = b 0
    kept b (suc j) = bytes_drop 4 s (λ n. b (suc n)) j

    on : 4 ≤ length s → (x : Judged Stmt) → Says (Framed i (suc (length (drop 4 s))) (Bytes (k ∷ drop 4 s))) (OfReading i) x → Says (FramedIn new_form i (k ∷ s)) (OfReading i) x
    on l (ok y) h = record { made = h.made; as_long = omega (arith, h.as_long, length-drop 4 s); sound = λ b. h.sound (kept b) }
    on l (no r) h = h
