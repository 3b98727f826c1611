-- One statement read back: it is written as the bytes that it was read from, and can stand in a listing.
use mathlib.Core.Path.{◌≡◌, refl, sym, ◌∙◌, ap}
use mathlib.Core.List.{List, [], ◌∷◌, map}
use mathlib.Core.Bool.{Bool, true, false, cond}
use Prim.Native.Nat.{ℕ, zero, suc, ◌+◌, ◌^◌, ◌<◌, ◌≤◌}
use native.Mathlib.Omega.{arith}
use lib.Dec.{ltb}
use lib.ListN.{length, get_or, take, length-map}
use lib.Seq.{take_all}
use lib.IntN.{ℤ, pos, negsuc}
use mir.Syntax.{w32}
use mir.Val.{SFits}
use borrow.Author.Tests.{ltb-true, ltb-false, lt-ltb}
use Rattle.laws.specs.Lists.{every, each}
use Rattle.laws.proofs.Tests.{and_true, false_true}
use Rattle.rules.specs.declared.Kind.{Kind}
use Rattle.rules.specs.declared.Kind.TheVariants.{Reg, I8, D9, Bit, Rel8, A12, A16, Rel16}
use Rattle.rules.specs.Answers.{ok, require, ◌>>=◌}
use Rattle.rules.specs.Values.{below}
use Rattle.rules.specs.Expressions.{Expr, eval_tree, bytes_of}
use Rattle.rules.specs.Forms.{size_at, operands_at}
use Rattle.rules.specs.Patterns.{bytes_at}
use Rattle.rules.specs.Programs.{Placeℕ, Addressℕ, Operand, Stmt, instr, bytes, Program, byte_count}
use Rattle.rules.specs.Names.{Entry}
use Rattle.rules.specs.Encoding.{byte}
use Rattle.rules.specs.Judging.{items, encode}
use Rattle.rules.specs.Output.{frame_of}
use Rattle.promises.specs.Demand2.{own}
use Rattle.promises.proofs.Frames.{is_plain}
use Rattle.promises.proofs.Sounds.{is_register, SoundExprs, Sound, Sounds}
use Rattle.promises.proofs.RoundTrip.{AllBytes, no_bytes, cons_bytes}
use Rattle.promises.proofs.TextBack.{Writable}
use Rattle.instruction.proofs.Numbers.{size_bound, few_operands}
use Rattle.decoding.specs.Opcodes.{form_of_byte}
use Rattle.decoding.specs.Cells.{begins}
use Rattle.decoding.specs.Operands.{width, held_in, reads, plain, operand_of, operands_from, none_outside}
use Rattle.readback.proofs.Short.{data_width, operands_few}
use Rattle.readback.specs.ReadBack.{data_of, instruction_of, of_form, read_one}
use Rattle.decoding.proofs.Bytes.{byte_first}
use Rattle.decoding.proofs.Tables.{named_at, width_in, shaped}
use Rattle.decoding.proofs.Rows.{Holds, bytes_back}
use Rattle.decoding.proofs.Fields.{held_below, written_from, fields_back, holds_back}

-- an instruction or bytes
pub data Bodied : Stmt → Type 0 where
  is_instr : (f : ℕ) (xs : List Operand) (c : Placeℕ) → Bodied (instr f xs c)
  is_bytes : (es : List Expr) → Bodied (bytes es)

-- what is shown of the statement at place i that was read from s at q
pub record Reads (i : Placeℕ) (q : Addressℕ) (s : List ℕ) (x : Stmt) : Type 0 where
  pub bodied : Bodied x
  pub some : 1 ≤ byte_count q x
  pub there : byte_count q x ≤ length s
  pub small : byte_count q x ≤ 3
  pub encoded : (names : List Entry) (p : Program) (k : ℕ) → encode names p i k q x ≡ ok (take (byte_count q x) s)
  pub writable : Writable x
  pub owned : own i x ≡ x

-- ---- bytes

fits_below : (z : ℤ) → below 65536 z ≡ true → SFits w32 z
fits_below (pos a) h = record { sfits = omega (arith, ltb-true a 65536 h) }
fits_below (negsuc a) h = false_true h

items_back : (names : List Entry) (i : Placeℕ) (k j : ℕ) (s : List ℕ) → AllBytes s
    → items names 256 byte i k j (map (λ b. plain b) s) ≡ ok s
unfolding items eval_tree require ◌>>=◌
items_back names i k j [] h = refl
items_back names i k j (b ∷ s) h =
    let t = byte_first b s h in
    rw (lt-ltb b 256 t.0, require, items_back names i k (suc j) s t.1, ◌>>=◌)

data_sound : (s : List ℕ) → AllBytes s → SoundExprs (map (λ b. plain b) s)
unfolding bytes_of
data_sound [] h = tt
data_sound (b ∷ s) h = let t = byte_first b s h in ((record { sfits = omega (arith, t.0) }, omega arith), data_sound s t.1)

-- a part of s, of one byte or two
data_reads : (i : Placeℕ) (q : Addressℕ) (s d : List ℕ) → AllBytes d → 1 ≤ length d → length d ≤ 2 → length d ≤ length s
    → d ≡ take (length d) s → Reads i q s (data_of d)
unfolding encode frame_of every
data_reads i q s d h l m n e =
    let c : length (map (λ b. plain b) d) ≡ length d = length-map d _ in
    let w = data_width d in
    record {
      bodied = is_bytes (map (λ b. plain b) d);
      some = omega arith;
      there = omega arith;
      small = omega arith;
      encoded = λ names p k. items_back names i k 0 d h ∙ ap ok (e ∙ ap (λ (z : ℕ). take z s) (sym c));
      writable = record { sound = (omega arith, omega arith, data_sound d h); plain = refl; live = refl; short = omega arith };
      owned = refl;
    }

-- ---- an instruction

no_width : (l : ℕ) (ds : List Kind) → length ds ≤ l → width_in l ds ≡ 0
no_width l [] h = refl
no_width zero (d ∷ ds) h = absurd (omega arith)
no_width (suc l) (d ∷ ds) h = no_width l ds (omega arith)

module _ (f x : ℕ) (t : List ℕ) (n : Addressℕ) where
  abbrev ws : List ℕ
  ws = written_from f (x ∷ t) n 0 (operands_at f)

  holds : length (operands_at f) ≤ 3 → Holds f (x ∷ t) (get_or ws 0 0) (get_or ws 1 0) (get_or ws 2 0)
  holds h zero m l = holds_back f (x ∷ t) n 0 (operands_at f) 0 m l
  holds h (suc zero) m l = holds_back f (x ∷ t) n 0 (operands_at f) 1 m l
  holds h (suc (suc zero)) m l = holds_back f (x ∷ t) n 0 (operands_at f) 2 m l
  holds h (suc (suc (suc k))) m l = absurd (omega (arith, no_width (suc (suc (suc k))) (operands_at f) (omega arith)))

  pub encode_back : f < 70 → AllBytes (x ∷ t) → size_at f ≤ length (x ∷ t) → begins f x ≡ true → bytes_at f ws ≡ take (size_at f) (x ∷ t)
  unfolding bytes_at
  encode_back l h k g = bytes_back f x t (get_or ws 0 0) (get_or ws 1 0) (get_or ws 2 0) l h k g (holds (few_operands f))

-- its operands can be written
operand_sound : (n : Addressℕ) (d : Kind) (v : ℕ) → v < 2 ^ width d → below 65536 (reads n d v) ≡ true
    → Sound (is_register d) (operand_of n d v) × (is_plain (operand_of n d v) ≡ true)
unfolding bytes_of
operand_sound n Reg v h b = (omega arith, refl)
operand_sound n I8 v h b = ((fits_below (pos v) b, omega arith), refl)
operand_sound n D9 v h b = ((fits_below (pos v) b, omega arith), refl)
operand_sound n Bit v h b = ((fits_below (pos v) b, omega arith), refl)
operand_sound n Rel8 v h b = ((fits_below (reads n Rel8 v) b, omega arith), refl)
operand_sound n A12 v h b = ((fits_below (reads n A12 v) b, omega arith), refl)
operand_sound n A16 v h b = ((fits_below (pos v) b, omega arith), refl)
operand_sound n Rel16 v h b = ((fits_below (reads n Rel16 v) b, omega arith), refl)

record Written (ds : List Kind) (xs : List Operand) : Type 0 where
  sound : Sounds (map (λ k. is_register k) ds) xs
  plain : every is_plain xs ≡ true

operands_sound : (f : ℕ) (s : List ℕ) (n : Addressℕ) (j : ℕ) (ds : List Kind) → none_outside f s n j ds ≡ true
    → Written ds (operands_from f s n j ds)
unfolding none_outside operands_from every each
operands_sound f s n j [] h = record { sound = tt; plain = refl }
operands_sound f s n j (d ∷ ds) h =
    let v : ℕ = held_in f s j (width d) in
    let t = and_true (below 65536 (reads n d v)) (none_outside f s n (suc j) ds) h in
    let o = operand_sound n d v (held_below f s j (width d)) t.0 in
    let r = operands_sound f s n (suc j) ds t.1 in
    record { sound = (o.0, r.sound); plain = rw o.1 r.plain }

instr_reads : (i : Placeℕ) (q : Addressℕ) (f x : ℕ) (t : List ℕ) → f < 70 → AllBytes (x ∷ t) → size_at f ≤ length (x ∷ t)
    → begins f x ≡ true
    → q + size_at f ≤ 65536 → none_outside f (x ∷ t) (q + size_at f) 0 (operands_at f) ≡ true
    → Reads i q (x ∷ t) (instruction_of i q (x ∷ t) f)
unfolding encode frame_of ◌>>=◌
instr_reads i q f x t l h k g r z =
    let s : List ℕ = x ∷ t in
    let w = operands_sound f s (q + size_at f) 0 (operands_at f) z in
    let few = few_operands f in
    record {
      bodied = is_instr f _ i;
      some = (shaped f l).some;
      there = k;
      small = size_bound f;
      encoded = λ names p c. rw
          (fields_back f s names p i c (q + size_at f) r 0 (operands_at f) z, ◌>>=◌, encode_back f x t (q + size_at f) l h k g);
      writable = record {
        sound = (l, w.sound);
        plain = w.plain;
        live = refl;
        short = omega
            (arith, few, operands_few f s (q + size_at f) 0 (operands_at f));
      };
      owned = refl;
    }

-- ---- the three cases

take_one : (x : ℕ) (t : List ℕ) → AllBytes (x ∷ t) → AllBytes (take 1 (x ∷ t))
take_one x t h = cons_bytes x [] (byte_first x t h).0 no_bytes

form_reads : (i : Placeℕ) (q : Addressℕ) (f x : ℕ) (t : List ℕ) → f < 70 → begins f x ≡ true → AllBytes (x ∷ t) → q + length (x ∷ t) ≤ 65536
    → Reads i q (x ∷ t) (of_form i q (x ∷ t) f)
form_reads i q f x t l g h r = on (ltb (length (x ∷ t)) (size_at f)) (none_outside f (x ∷ t) (q + size_at f) 0 (operands_at f)) refl refl
  where
    on : (cut inside : Bool) → ltb (length (x ∷ t)) (size_at f) ≡ cut → none_outside f (x ∷ t) (q + size_at f) 0 (operands_at f) ≡ inside
        → Reads i q (x ∷ t) (cond cut (data_of (x ∷ t)) (cond inside (instruction_of i q (x ∷ t) f) (data_of (take 1 (x ∷ t)))))
    on true b e d =
        let n : length (x ∷ t) < size_at f = ltb-true (length (x ∷ t)) (size_at f) e in
        data_reads i q (x ∷ t) (x ∷ t) h (omega arith) (omega (arith, size_bound f)) (omega arith)
        (sym (take_all (length (x ∷ t)) (x ∷ t) (omega arith)))
    on false true e d =
        let n : size_at f ≤ length (x ∷ t) = ltb-false (length (x ∷ t)) (size_at f) e in
        instr_reads i q f x t l h n g (omega arith) d
    on false false e d = data_reads i q (x ∷ t) (take 1 (x ∷ t)) (take_one x t h) (omega arith) (omega arith) (omega arith) refl

pub one_reads : (i : Placeℕ) (q : Addressℕ) (x : ℕ) (t : List ℕ) → AllBytes (x ∷ t) → q + length (x ∷ t) ≤ 65536
    → Reads i q (x ∷ t) (read_one i q (x ∷ t))
unfolding read_one
one_reads i q x t h r = let n = named_at x (byte_first x t h).0 in form_reads i q (form_of_byte x) x t n.0 n.1 h r
