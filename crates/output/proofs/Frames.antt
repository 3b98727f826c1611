-- A frame that was read is what is written for its statement: `frame_back`. Assumes nothing.
use mathlib.Core.Path.{◌≡◌, refl, sym, ap, ◌∙◌}
use mathlib.Core.List.{List, [], ◌∷◌, ◌++◌, append_assoc, append-nil}
use mathlib.Core.Bool.{◌&&◌}
use Prim.Native.Nat.{ℕ, zero, suc, ◌+◌, ◌*◌, ◌/◌, ◌%◌, ◌≤◌, ◌<◌}
use native.Mathlib.Omega.{arith}
use lib.Dec.{leb, ltb}
use lib.ListN.{length, get_or, drop, take-append-drop}
use lib.Seq.{get_or-append-add}
use Rattle.laws.specs.Lists.{each}
use Rattle.rules.specs.declared.Kind.{Kind}
use Rattle.rules.specs.declared.Kind.TheVariants.{Reg, I8, D9, Bit, Rel8, A12, A16, Rel16}
use Rattle.rules.specs.declared.Refusal.TheVariants.{Broken}
use Rattle.rules.specs.Answers.{at_place, ok, ◌>>=◌, require}
use Rattle.rules.specs.Expressions.{Expr, bytes_of, pair}
use Rattle.rules.specs.Forms.{operands_at}
use Rattle.rules.specs.Listing.{Taken, taken, take_byte, take_pair, take_expr, take_register, take_value, take_operand, take_operands, take_exprs, alone, read_label, read_variable, read_org, read_pad, read_frame}
use Rattle.rules.specs.Output.{operand_bytes, frame_of}
use Rattle.rules.specs.Programs.{Operand, register, value, Stmt, label, variable, org, bytes, words, pad}
use Rattle.rules.proofs.Laws.{no_ok, then_ok, require_ok}
use Rattle.expression.specs.Sound.{AreBytes}
use Rattle.expression.proofs.RoundTrip.{bytes_drop, written_expr}
use Rattle.slots.proofs.Frames.{Left, expr_taken, Frame, of_instr, of_label, of_variable, of_comment, of_org, of_bytes, of_words, of_pad, InstrFrame, DataFrame, frame_read}
use Rattle.slots.proofs.Items.{items_read}

-- ---- lists of bytes

pub bytes_rest : (b r : List ℕ) → AreBytes (b ++ r) → AreBytes r
bytes_rest b r v i = omega (arith, v (length b + i), get_or-append-add b r i 0)

-- ---- what was taken is what is written for it, and the rest follows

expr_back : (i : ℕ) (s : List ℕ) (t : Taken Expr) → take_expr i s ≡ ok t → AreBytes s → s ≡ bytes_of t.it ++ t.rest
expr_back i s t e v =
    let r = expr_taken i s t e in
    let w = written_expr s v t.it r.0.width r.0.reads in
    sym (take-append-drop r.0.width s) ∙ ap (λ b. b ++ drop r.0.width s) w.is ∙ ap (λ z. bytes_of t.it ++ z) (sym r.1)

register_back : (i : ℕ) (s : List ℕ) (t : Taken Operand) → take_register i s ≡ ok t → s ≡ operand_bytes t.it ++ t.rest
unfolding take_register take_byte ◌>>=◌
register_back i [] t e = no_ok _ _ e
register_back i (b ∷ s) t e =
    let r = require_ok (leb b 3) (Broken (at_place i)) (taken (register b) s) t e in
    let w : Left (register b) s ≡ t = (let v : ok (Left (register b) s) ≡ ok t = r.1 in cc) in
    rw (← w)

value_back : (i : ℕ) (s : List ℕ) (t : Taken Operand) → take_value i s ≡ ok t → AreBytes s → s ≡ operand_bytes t.it ++ t.rest
unfolding take_value
value_back i s t e v =
    let h = then_ok (take_expr i s) (λ x. taken (value x.it) x.rest) t e in
    on h.0 (expr_back i s h.0 h.1 v) h.2
  where
    on : (x : Taken Expr) → s ≡ bytes_of x.it ++ x.rest → taken (value x.it) x.rest ≡ ok t → s ≡ operand_bytes t.it ++ t.rest
    on x b l =
        let w : Left (value x.it) x.rest ≡ t = (let q : ok (Left (value x.it) x.rest) ≡ ok t = l in cc) in
        b ∙ ap (λ y. operand_bytes y.it ++ y.rest) w

operand_back : (i : ℕ) (k : Kind) (s : List ℕ) (t : Taken Operand) → take_operand i k s ≡ ok t → AreBytes s → s ≡ operand_bytes t.it
    ++ t.rest
operand_back i Reg s t e v = register_back i s t e
operand_back i I8 s t e v = value_back i s t e v
operand_back i D9 s t e v = value_back i s t e v
operand_back i Bit s t e v = value_back i s t e v
operand_back i Rel8 s t e v = value_back i s t e v
operand_back i A12 s t e v = value_back i s t e v
operand_back i A16 s t e v = value_back i s t e v
operand_back i Rel16 s t e v = value_back i s t e v

-- one in front of those that follow
more_back : {A : Type 0} (f : A → List ℕ) (s : List ℕ) (x : Taken A) (xs t : Taken (List A)) → s ≡ f x.it ++ x.rest
    → x.rest ≡ each f xs.it ++ xs.rest → taken (x.it ∷ xs.it) xs.rest ≡ ok t → s ≡ each f t.it ++ t.rest
unfolding each
more_back f s x xs t b r l =
    let w : Left (x.it ∷ xs.it) xs.rest ≡ t = (let q : ok (Left (x.it ∷ xs.it) xs.rest) ≡ ok t = l in cc) in
    b ∙ ap (λ z. f x.it ++ z) r ∙ sym (append_assoc (f x.it) (each f xs.it) xs.rest) ∙ ap (λ y. each f y.it ++ y.rest) w

operands_back : (i : ℕ) (kinds : List Kind) (s : List ℕ) (t : Taken (List Operand)) → take_operands i kinds s ≡ ok t → AreBytes s
    → s ≡ each (λ x. operand_bytes x) t.it ++ t.rest
unfolding take_operands each
operands_back i [] s t e v = let w : Left [] s ≡ t = cc in ap (λ y. each (λ x. operand_bytes x) y.it ++ y.rest) w
operands_back i (k ∷ ks) s t e v =
    let h = then_ok (take_operand i k s) (λ x. take_operands i ks x.rest >>= (λ xs. taken (x.it ∷ xs.it) xs.rest)) t e in
    on h.0 (operand_back i k s h.0 h.1 v) h.2 (operands_back i ks)
  where
    on : (x : Taken Operand) → s ≡ operand_bytes x.it ++ x.rest → take_operands i ks x.rest >>= (λ xs. taken (x.it ∷ xs.it) xs.rest) ≡ ok t
        → ((r : List ℕ) (u : Taken (List Operand)) → take_operands i ks r ≡ ok u → AreBytes r → r ≡ each (λ y. operand_bytes y) u.it
        ++ u.rest)
        → s ≡ each (λ y. operand_bytes y) t.it ++ t.rest
    on x b l below =
        let h = then_ok (take_operands i ks x.rest) (λ xs. taken (x.it ∷ xs.it) xs.rest) t l in
        more_back (λ y. operand_bytes y) s x h.0 t b (below x.rest h.0 h.1 (bytes_rest (operand_bytes x.it) x.rest (rw (← b) v))) h.2

exprs_back : (i n : ℕ) (s : List ℕ) (t : Taken (List Expr)) → take_exprs i n s ≡ ok t → AreBytes s → s ≡ each (λ e. bytes_of e) t.it
    ++ t.rest
unfolding take_exprs each
exprs_back i zero s t e v = let w : Left [] s ≡ t = cc in ap (λ y. each (λ x. bytes_of x) y.it ++ y.rest) w
exprs_back i (suc n) s t e v =
    let h = then_ok (take_expr i s) (λ x. take_exprs i n x.rest >>= (λ xs. taken (x.it ∷ xs.it) xs.rest)) t e in
    on h.0 (expr_back i s h.0 h.1 v) h.2 (exprs_back i n)
  where
    on : (x : Taken Expr) → s ≡ bytes_of x.it ++ x.rest → take_exprs i n x.rest >>= (λ xs. taken (x.it ∷ xs.it) xs.rest) ≡ ok t
        → ((r : List ℕ) (u : Taken (List Expr)) → take_exprs i n r ≡ ok u → AreBytes r → r ≡ each (λ y. bytes_of y) u.it ++ u.rest)
        → s ≡ each (λ y. bytes_of y) t.it ++ t.rest
    on x b l below =
        let h = then_ok (take_exprs i n x.rest) (λ xs. taken (x.it ∷ xs.it) xs.rest) t l in
        more_back (λ y. bytes_of y) s x h.0 t b (below x.rest h.0 h.1 (bytes_rest (bytes_of x.it) x.rest (rw (← b) v))) h.2

-- ---- the kinds that hold a two-byte field

pair_is : (a b : ℕ) → b < 256 → pair (a * 256 + b) ≡ a ∷ b ∷ []
pair_is a b h =
    let p : (a * 256 + b) / 256 ≡ a = omega arith in
    let q : (a * 256 + b) % 256 ≡ b = omega arith in
    rw (p, q)

alone_ok : {A : Type 0} (i : ℕ) (x y : A) (s : List ℕ) → alone i x s ≡ ok y → (x ≡ y) × (s ≡ [])
alone_ok i x y [] e = (cc, refl)
alone_ok i x y (b ∷ s) e = no_ok _ _ e

-- a label or an org, of what follows its first byte
named_back : (k : ℕ) (of : ℕ → Stmt) → ((n : ℕ) → frame_of (of n) ≡ k ∷ pair n) → (i : ℕ) (s : List ℕ) (x : Stmt)
    → take_pair i s >>= (λ n. alone i (of n.it) n.rest) ≡ ok x → AreBytes s → frame_of x ≡ k ∷ s
unfolding take_pair take_byte ◌>>=◌
named_back k of w i [] x e v = no_ok _ _ e
named_back k of w i (b ∷ []) x e v = no_ok _ _ e
named_back k of w i (b ∷ c ∷ s) x e v =
    let m = alone_ok i (of (b * 256 + c)) x s e in
    ap frame_of (sym m.0) ∙ w (b * 256 + c) ∙ ap (λ l. k ∷ l) (pair_is b c (v 1)) ∙ ap (λ l. k ∷ b ∷ c ∷ l) (sym m.1)

variable_back : (i : ℕ) (s : List ℕ) (x : Stmt) → read_variable i s ≡ ok x → AreBytes s → frame_of x ≡ 3 ∷ s
unfolding read_variable take_pair take_byte ◌>>=◌ frame_of
variable_back i [] x e v = no_ok _ _ e
variable_back i (b ∷ []) x e v = no_ok _ _ e
variable_back i (b ∷ c ∷ s) x e v =
    let n : ℕ = b * 256 + c in
    let h = then_ok (require (ltb n 0x8000) (Broken (at_place i)) (take_expr i s)) (λ t. alone i (variable n t.it) t.rest) x e in
    on n refl h.0 h.1 h.2
  where
    on : (n : ℕ) → n ≡ b * 256 + c → (t : Taken Expr) → require (ltb n 0x8000) (Broken (at_place i)) (take_expr i s) ≡ ok t
        → alone i (variable n t.it) t.rest ≡ ok x → frame_of x ≡ 3 ∷ b ∷ c ∷ s
    on n q t r l =
        let m = alone_ok i (variable n t.it) x t.rest l in
        let p = expr_back i s t (require_ok (ltb n 0x8000) (Broken (at_place i)) (take_expr i s) t r).1 (bytes_rest (b ∷ c ∷ []) s v) in
        let tail : s ≡ bytes_of t.it = p ∙ ap (λ z. bytes_of t.it ++ z) m.1 ∙ append-nil (bytes_of t.it) in
        ap frame_of (sym m.0) ∙ ap (λ l. 3 ∷ (l ++ bytes_of t.it)) (ap pair q ∙ pair_is b c (v 1)) ∙ ap (λ l. 3 ∷ b ∷ c ∷ l) (sym tail)

pad_back : (i : ℕ) (s : List ℕ) (x : Stmt) → read_pad i s ≡ ok x → AreBytes s → frame_of x ≡ 8 ∷ s
unfolding read_pad take_pair take_byte ◌>>=◌ frame_of
pad_back i [] x e v = no_ok _ _ e
pad_back i (a ∷ []) x e v = no_ok _ _ e
pad_back i (a ∷ b ∷ []) x e v = no_ok _ _ e
pad_back i (a ∷ b ∷ c ∷ s) x e v =
    let n : ℕ = b * 256 + c in
    let p = require_ok (leb 1 n && leb n 256) (Broken (at_place i)) (alone i (pad a n) s) x e in
    let m = alone_ok i (pad a n) x s p.1 in
    ap frame_of (sym m.0) ∙ ap (λ l. 8 ∷ a ∷ l) (pair_is b c (v 2)) ∙ ap (λ l. 8 ∷ a ∷ b ∷ c ∷ l) (sym m.1)

-- ---- the whole frame

-- the operands of an instruction end where its frame ends
pub operands_end : (i : ℕ) (s : List ℕ) (x : Stmt) (f : InstrFrame i s x) → AreBytes s → each (λ y. operand_bytes y) f.args ≡ drop 2 s
operands_end i s x f v = sym (operands_back i (operands_at (get_or s 1 0)) (drop 2 s) (Left f.args []) f.operands (bytes_drop 2 s v)
    ∙ append-nil _)

-- two bytes and the rest
two_and : (s : List ℕ) (a b : ℕ) (r : List ℕ) → 2 ≤ length s → get_or s 0 0 ≡ a → get_or s 1 0 ≡ b → r ≡ drop 2 s → a ∷ b ∷ r ≡ s
two_and [] a b r h p q e = absurd (omega arith)
two_and (c ∷ []) a b r h p q e = absurd (omega arith)
two_and (c ∷ d ∷ s) a b r h p q e = rw (← p, ← q, e)

data_back : (k : ℕ) (of : List Expr → Stmt) → ((es : List Expr) → frame_of (of es) ≡ k ∷ length es ∷ each (λ e. bytes_of e) es)
    → (i : ℕ) (s : List ℕ) (x : Stmt) → DataFrame k of i s x → AreBytes s → frame_of x ≡ s
data_back k of w i s x f v =
    let rest = exprs_back i (get_or s 1 0) (drop 2 s) (Left f.es []) f.items (bytes_drop 2 s v) ∙ append-nil _ in
    ap frame_of f.is ∙ w f.es
    ∙ two_and s k (length f.es) (each (λ e. bytes_of e) f.es) f.long f.kind
    (sym (items_read i s (get_or s 1 0) 2 (Left f.es []) f.items).count) (sym rest)

pub frame_back : (i : ℕ) (s : List ℕ) (x : Stmt) → read_frame i s ≡ ok x → AreBytes s → frame_of x ≡ s
unfolding read_frame take_byte ◌>>=◌ frame_of read_label read_org
frame_back i [] x e v = no_ok _ _ e
frame_back i (a ∷ s) x e v = on (frame_read i (a ∷ s) x e)
  where
    rest : AreBytes s
    rest = bytes_rest (a ∷ []) s v

    on : Frame i (a ∷ s) x → frame_of x ≡ a ∷ s
    on (of_instr f) = ap frame_of f.is ∙ two_and (a ∷ s) 1 (get_or (a ∷ s) 1 0) _ f.long f.kind refl (operands_end i (a ∷ s) x f v)
    on (of_label f) = named_back 2 label (λ n. refl) i s x (rw f.kind at e) rest ∙ ap (λ k. k ∷ s) (sym f.kind)
    on (of_variable f) = variable_back i s x (rw f.kind at e) rest ∙ ap (λ k. k ∷ s) (sym f.kind)
    on (of_comment f) = ap frame_of f.is ∙ ap (λ k. k ∷ s) (sym f.kind)
    on (of_org f) = named_back 5 org (λ n. refl) i s x (rw f.kind at e) rest ∙ ap (λ k. k ∷ s) (sym f.kind)
    on (of_bytes f) = data_back 6 bytes (λ es. refl) i (a ∷ s) x f v
    on (of_words f) = data_back 7 words (λ es. refl) i (a ∷ s) x f v
    on (of_pad f) = pad_back i s x (rw f.kind at e) rest ∙ ap (λ k. k ∷ s) (sym f.kind)
