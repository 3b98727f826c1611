-- A frame that is written is read as the statement that it was written for.
use mathlib.Core.Path.{◌≡◌, refl, sym, ◌∙◌, ap}
use mathlib.Core.List.{List, [], ◌∷◌, ◌++◌, map, append_assoc, append-nil}
use mathlib.Core.Bool.{Bool, true, false}
use Prim.Native.Nat.{ℕ, ◌/◌, ◌%◌, ◌≤◌}
use native.Mathlib.Omega.{arith}
use lib.ListN.{length}
use lib.Seq.{drop-append_seam}
use borrow.Author.Tests.{le-leb, lt-ltb}
use Rattle.laws.specs.Lists.{every, each}
use Rattle.laws.proofs.Tests.{and_true, false_true, true_false}
use Rattle.rules.specs.declared.Kind.{Kind}
use Rattle.rules.specs.declared.Kind.TheVariants.{Reg, I8, D9, Bit, Rel8, A12, A16, Rel16}
use Rattle.rules.specs.Answers.{ok, ◌>>=◌, require}
use Rattle.rules.specs.Expressions.{Expr, pair, bytes_of}
use Rattle.rules.specs.Forms.{operands_at}
use Rattle.rules.specs.Programs.{Placeℕ, Operand, register, value, inner, Stmt, gone, instr, label, variable, comment, org, bytes, words, is_gone, pad}
use Rattle.rules.specs.Listing.{taken, take_byte, take_pair, take_expr, take_register, take_value, take_operand, take_operands, take_exprs, take_items, read_instr, read_label, read_variable, read_org, read_bytes, read_words, read_frame, read_pad}
use Rattle.rules.specs.Output.{operand_bytes, frame_of}
use Rattle.promises.specs.Demand2.{own}
use Rattle.promises.proofs.RoundTrip.{two_back, read_expr_back, AllBytes, no_bytes, cons_bytes, append_bytes, pair_bytes, fine_bytes}
use Rattle.promises.proofs.Frames.{is_plain}
use Rattle.promises.proofs.Sounds.{is_register, shapes, SoundExpr, SoundExprs, Sound, Sounds, SoundStmt}
use Rattle.promises.proofs.Compacts.{plain_stmt}

-- ---- parts of a frame, whatever follows
module _ (i : Placeℕ) where
  expr_back : (e : Expr) → SoundExpr e → (t : List ℕ) → take_expr i (bytes_of e ++ t) ≡ taken e t
  unfolding take_expr
  expr_back e s t = rw (read_expr_back e s.0 s.1 t, drop-append_seam (bytes_of e) t)

  pair_back : (n : ℕ) (t : List ℕ) → take_pair i (n / 256 ∷ n % 256 ∷ t) ≡ taken n t
  unfolding take_pair take_byte ◌>>=◌
  pair_back n t = rw (two_back n)

  value_back : (x : Operand) → Sound false x → is_plain x ≡ true → (t : List ℕ) → take_value i (operand_bytes x ++ t) ≡ taken x t
  unfolding take_value ◌>>=◌
  value_back (register r) s h t = absurd s
  value_back (value e) s h t = rw (expr_back e s t, ◌>>=◌)
  value_back (inner j o) s h t = false_true h

  register_back : (x : Operand) → Sound true x → (t : List ℕ) → take_register i (operand_bytes x ++ t) ≡ taken x t
  unfolding take_register take_byte ◌>>=◌ require
  register_back (register r) s t = rw (le-leb r 3 s)
  register_back (value e) s t = absurd s
  register_back (inner j o) s t = absurd s

  operand_back : (k : Kind) (x : Operand) → Sound (is_register k) x → is_plain x ≡ true → (t : List ℕ) → take_operand i k (operand_bytes x ++ t) ≡ taken x t
  operand_back Reg x s h t = register_back x s t
  operand_back I8 x s h t = value_back x s h t
  operand_back D9 x s h t = value_back x s h t
  operand_back Bit x s h t = value_back x s h t
  operand_back Rel8 x s h t = value_back x s h t
  operand_back A12 x s h t = value_back x s h t
  operand_back A16 x s h t = value_back x s h t
  operand_back Rel16 x s h t = value_back x s h t

  operands_back : (ks : List Kind) (xs : List Operand) → Sounds (map (λ k. is_register k) ks) xs → every is_plain xs ≡ true → (t : List ℕ)
      → take_operands i ks (each (λ x. operand_bytes x) xs ++ t) ≡ taken xs t
  unfolding take_operands each every ◌>>=◌
  operands_back [] [] s h t = refl
  operands_back [] (x ∷ xs) s h t = absurd s
  operands_back (k ∷ ks) [] s h t = absurd s
  operands_back (k ∷ ks) (x ∷ xs) s h t =
      let p = and_true (is_plain x) (every is_plain xs) h in
      rw (
        append_assoc (operand_bytes x) (each (λ x. operand_bytes x) xs) t,
        operand_back k x s.0 p.0 (each (λ x. operand_bytes x) xs ++ t),
        ◌>>=◌,
        operands_back ks xs s.1 p.1 t,
        ◌>>=◌,
      )

  exprs_back : (es : List Expr) → SoundExprs es → (t : List ℕ) → take_exprs i (length es) (each (λ e. bytes_of e) es ++ t) ≡ taken es t
  unfolding take_exprs each ◌>>=◌
  exprs_back [] s t = refl
  exprs_back (e ∷ es) s t =
      rw (append_assoc (bytes_of e) (each (λ e. bytes_of e) es) t, expr_back e s.0 (each (λ e. bytes_of e) es ++ t), ◌>>=◌, exprs_back es s.1 t, ◌>>=◌)

  items_back : (es : List Expr) → 1 ≤ length es → length es ≤ 16 → SoundExprs es → take_items i (length es ∷ each (λ e. bytes_of e) es) ≡ taken es []
  unfolding take_items take_byte ◌>>=◌ require
  items_back es l m s =
      rw (le-leb 1 (length es) l, le-leb (length es) 16 m)
      (ap (take_exprs i (length es)) (sym (append-nil (each (λ e. bytes_of e) es))) ∙ exprs_back es s [])

  -- ---- frames
  pub frame_back : (s : Stmt) → SoundStmt s → plain_stmt s ≡ true → is_gone s ≡ false → read_frame i (frame_of s) ≡ ok (own i s)
  unfolding read_frame frame_of take_byte ◌>>=◌ require read_instr read_label read_variable read_org read_bytes read_words read_pad
  frame_back gone s h g = true_false g
  frame_back (instr f xs c) s h g =
      rw (lt-ltb f 70 s.0, ← append-nil (each (λ x. operand_bytes x) xs), operands_back (operands_at f) xs s.1 h [], ◌>>=◌)
  frame_back (label n) s h g = rw (pair_back n [], ◌>>=◌)
  frame_back (variable n e) s h g =
      rw (pair_back n (bytes_of e), ◌>>=◌, lt-ltb n 0x8000 s.0, ← append-nil (bytes_of e), expr_back e s.1 [], ◌>>=◌)
  frame_back (comment x) s h g = refl
  frame_back (org l) s h g = rw (pair_back l [], ◌>>=◌)
  frame_back (bytes es) s h g = rw (items_back es s.0 s.1 s.2, ◌>>=◌)
  frame_back (words es) s h g = rw (items_back es s.0 s.1 s.2, ◌>>=◌)
  frame_back (pad add m) s h g = rw (pair_back m [], ◌>>=◌, le-leb 1 m s.1, le-leb m 256 s.2)

-- ---- what is written are bytes
operand_bytes_lem : (b : Bool) (x : Operand) → Sound b x → AllBytes (operand_bytes x)
operand_bytes_lem true (register r) s = cons_bytes r [] (omega arith) no_bytes
operand_bytes_lem true (value e) s = absurd s
operand_bytes_lem true (inner i o) s = absurd s
operand_bytes_lem false (register r) s = absurd s
operand_bytes_lem false (value e) s = fine_bytes e s.0
operand_bytes_lem false (inner i o) s = no_bytes

operands_bytes : (bs : List Bool) (xs : List Operand) → Sounds bs xs → AllBytes (each (λ x. operand_bytes x) xs)
unfolding each
operands_bytes [] [] s = no_bytes
operands_bytes [] (x ∷ xs) s = absurd s
operands_bytes (b ∷ bs) [] s = absurd s
operands_bytes (b ∷ bs) (x ∷ xs) s = append_bytes (operand_bytes x) (each (λ x. operand_bytes x) xs) (operand_bytes_lem b x s.0) (operands_bytes bs xs s.1)

exprs_bytes : (es : List Expr) → SoundExprs es → AllBytes (each (λ e. bytes_of e) es)
unfolding each
exprs_bytes [] s = no_bytes
exprs_bytes (e ∷ es) s = append_bytes (bytes_of e) (each (λ e. bytes_of e) es) (fine_bytes e s.0.0) (exprs_bytes es s.1)

-- of every frame
pub frame_bytes_lem : (s : Stmt) → SoundStmt s → AllBytes (frame_of s)
unfolding frame_of
frame_bytes_lem gone s = no_bytes
frame_bytes_lem (instr f xs c) s = cons_bytes 1 (f ∷ each (λ x. operand_bytes x) xs) (omega arith) (cons_bytes f (each (λ x. operand_bytes x) xs) (omega (arith, s.0)) (operands_bytes (shapes f) xs s.1))
frame_bytes_lem (label n) s = cons_bytes 2 (pair n) (omega arith) (pair_bytes n [] s no_bytes)
frame_bytes_lem (variable n e) s = cons_bytes 3 (pair n ++ bytes_of e) (omega arith) (pair_bytes n (bytes_of e) (omega (arith, s.0)) (fine_bytes e s.1.0))
frame_bytes_lem (comment x) s = cons_bytes 4 x (omega arith) s
frame_bytes_lem (org l) s = cons_bytes 5 (pair l) (omega arith) (pair_bytes l [] s no_bytes)
frame_bytes_lem (bytes es) s = cons_bytes 6 (length es ∷ each (λ e. bytes_of e) es) (omega arith) (cons_bytes (length es) (each (λ e. bytes_of e) es) (omega (arith, s.1)) (exprs_bytes es s.2))
frame_bytes_lem (words es) s = cons_bytes 7 (length es ∷ each (λ e. bytes_of e) es) (omega arith) (cons_bytes (length es) (each (λ e. bytes_of e) es) (omega (arith, s.1)) (exprs_bytes es s.2))
frame_bytes_lem (pad add m) s = cons_bytes 8 (add ∷ pair m) (omega arith) (cons_bytes add (pair m) s.0 (pair_bytes m [] (omega (arith, s.2)) no_bytes))
