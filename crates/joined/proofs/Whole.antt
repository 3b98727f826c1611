-- The text of a listing's statements, read: each line reads as its statement. Where the frames of the old form keep the total, all come
-- back; where they pass it, a line is 2.
use mathlib.Core.Path.{◌≡◌, refl, sym, ap, ap₂, subst}
use mathlib.Core.Logic.{⊎_elim}
use mathlib.Core.List.{List, [], ◌∷◌, ◌++◌, map}
use mathlib.Core.Bool.{Bool, true, false, cond}
use Prim.Native.Nat.{ℕ, suc, ◌+◌, ◌*◌, ◌≤◌, ◌<◌}
use native.Mathlib.Omega.{arith}
use lib.Dec.{leb}
use lib.ListN.{length, drop}
use borrow.Author.Tests.{le-leb}
use Rattle.laws.specs.Lists.{total}
use Rattle.laws.proofs.Tests.{lt_or_le}
use Rattle.rules.specs.declared.Refusal.TheVariants.{Limit}
use Rattle.rules.specs.Answers.{at_place, ok, no}
use Rattle.rules.specs.Expressions.{Expr, bytes_of}
use Rattle.rules.specs.Programs.{Placeℕ, Operand, register, value, inner, in_operand, over_exprs, Program}
use Rattle.rules.specs.Programs.{Stmt, gone, instr, label, variable, comment, org, bytes, words, pad}
use Rattle.rules.specs.Listing.{Line, old_form, lines_of}
use Rattle.rules.specs.Output.{frame_of, line_of, lines_in, text_of as listing_text}
use Rattle.rules.proofs.Laws.{by_change}
use Rattle.promises.specs.Demand2.{own}
use Rattle.promises.specs.Room.{frame_bytes}
use Rattle.promises.proofs.Listings.{line_room}
use Rattle.promises.proofs.Sounds.{shapes, SoundExpr, SoundExprs, Sound, Sounds, SoundStmt}
use Rattle.promises.proofs.TextBack.{Writable, AllWritable}
use Rattle.text.specs.Text.{line_text}
use Rattle.text.proofs.Lengths.{line_by_frame}
use Rattle.grammar.specs.Reading.{Fitting}
use Rattle.plans.proofs.Statements.{statement_back}
use Rattle.readable.specs.Readable.{text_of}
use Rattle.readable.proofs.NeverShort.{numbered}
use Rattle.intake.specs.Intake as intake
use Rattle.intake.specs.Intake.{Judges, Takes, listing_of}
use Rattle.joined.proofs.Feedless.{none_left, first_line}

-- the statements as each line gives them: read alone, a statement has place 0
abbrev pub alone : Program → Program
alone p = map (λ s. own 0 s) p

-- ---- their frames are the same

frame_own : (s : Stmt) → frame_of (own 0 s) ≡ frame_of s
unfolding frame_of
frame_own s = by_change (λ s t. frame_of t ≡ frame_of s) (λ x. instr x.form x.args 0) (λ f xs c. refl) (λ s n. refl) s

lines_own : (ns : List ℕ) (p : Program) → lines_in old_form ns (alone p) ≡ lines_in old_form ns p
unfolding lines_in
lines_own ns [] = refl
lines_own ns (s ∷ p) = ap₂ (λ (f : List ℕ) (t : List ℕ). line_of f ++ t) (frame_own s) (lines_own (drop 1 ns) p)

pub listing_own : (p : Program) → listing_of (alone p) ≡ listing_of p
unfolding listing_text
listing_own p = lines_own [] p

-- ---- and keep a line's limits

abbrev long : Expr → ℕ
long e = cond (leb (length (bytes_of e)) 32) 0 1

expr_fits : (e : Expr) → SoundExpr e → long e ≡ 0
expr_fits e h = rw (le-leb (length (bytes_of e)) 32 h.1)

items_fit : (es : List Expr) → SoundExprs es → total long es ≡ 0
unfolding total
items_fit [] h = refl
items_fit (e ∷ es) h = omega (arith, expr_fits e h.0, items_fit es h.1)

operand_fits : (b : Bool) (x : Operand) → Sound b x → in_operand long x ≡ 0
operand_fits true (register r) h = refl
operand_fits true (value e) h = absurd h
operand_fits true (inner i o) h = absurd h
operand_fits false (register r) h = absurd h
operand_fits false (value e) h = expr_fits e h
operand_fits false (inner i o) h = refl

operands_fit : (bs : List Bool) (xs : List Operand) → Sounds bs xs → total (in_operand long) xs ≡ 0
unfolding total
operands_fit [] [] h = refl
operands_fit [] (x ∷ xs) h = absurd h
operands_fit (b ∷ bs) [] h = absurd h
operands_fit (b ∷ bs) (x ∷ xs) h = omega (arith, operand_fits b x h.0, operands_fit bs xs h.1)

short_exprs : (s : Stmt) → SoundStmt s → over_exprs long (own 0 s) ≡ 0
short_exprs gone h = refl
short_exprs (instr f xs c) h = operands_fit (shapes f) xs h.1
short_exprs (label n) h = refl
short_exprs (variable n e) h = expr_fits e h.1
short_exprs (comment x) h = refl
short_exprs (org l) h = refl
short_exprs (bytes es) h = items_fit es h.2
short_exprs (words es) h = items_fit es h.2
short_exprs (pad add m) h = refl

-- ---- one line

abbrev line_there : Stmt → Line
line_there s = record { chars = line_text s; ended = true }

same_length : (s : Stmt) → length (frame_of (own 0 s)) ≡ frame_bytes s
same_length s = ap (λ (f : List ℕ). length f) (frame_own s)

module _ (i sum : ℕ) (s : Stmt) (v : Writable s) (few : i < 1024) where
  narrow : length (line_text s) ≤ 1024
  narrow = omega (arith, line_by_frame s (numbered s v.sound), v.short)

  fits : Fitting (own 0 s)
  fits = (short_exprs s v.sound, omega (arith, same_length s, v.short))

  line_reads : sum + 2 * frame_bytes s ≤ 49152 → Judges i sum (line_there s) (ok (own 0 s))
  line_reads h =
      intake.reads (own 0 s) few narrow (statement_back s v.sound v.plain v.live) refl fits (omega (arith, same_length s))

  line_passes : 49152 < sum + 2 * frame_bytes s → Judges i sum (line_there s) (no (Limit (at_place i)))
  line_passes h =
      intake.passes (own 0 s) few narrow (statement_back s v.sound v.plain v.live) refl (λ f k. omega (arith, same_length s))

-- ---- all lines

pub text_read : (i sum : ℕ) (p : Program) → AllWritable p → i + length p ≤ 1024 → sum + 2 * total (line_room old_form) p ≤ 49152
    → Takes i sum (lines_of (text_of p)) (ok (alone p))
unfolding total
text_read i sum [] v h k = subst (λ ls. Takes i sum ls (ok [])) (sym none_left) intake.none
text_read i sum (s ∷ p) v h k =
    subst (λ ls. Takes i sum ls (ok (alone (s ∷ p)))) (sym (first_line s p v.0.sound))
    (intake.next (line_reads i sum s v.0 (omega arith) (omega arith))
    (subst (λ n. Takes (suc i) (sum + 2 * n) (lines_of (text_of p)) (ok (alone p))) (sym (same_length s))
    (text_read (suc i) (sum + 2 * frame_bytes s) p v.1 (omega arith) (omega arith))))

-- from place i on a line is 2
abbrev Stops : (i sum : ℕ) → List Line → Type 0
Stops i sum ls = (j : Placeℕ) × Takes i sum ls (no (Limit (at_place j)))

pub text_passes : (i sum : ℕ) (p : Program) → AllWritable p → i + length p ≤ 1024 → sum ≤ 49152 → 49152 < sum + 2 * total (line_room old_form) p
    → Stops i sum (lines_of (text_of p))
unfolding total
text_passes i sum [] v h k l = absurd (omega arith)
text_passes i sum (s ∷ p) v h k l =
    subst (Stops i sum) (sym (first_line s p v.0.sound))
    (⊎_elim here (λ m. below m (text_passes (suc i) (sum + 2 * frame_bytes s) p v.1 (omega arith) m (omega arith)))
    (lt_or_le 49152 (sum + 2 * frame_bytes s)))
  where
    here : 49152 < sum + 2 * frame_bytes s → Stops i sum (line_there s ∷ lines_of (text_of p))
    here m = (i, intake.refused (line_passes i sum s v.0 (omega arith) m))

    below : sum + 2 * frame_bytes s ≤ 49152 → Stops (suc i) (sum + 2 * frame_bytes s) (lines_of (text_of p))
        → Stops i sum (line_there s ∷ lines_of (text_of p))
    below m (j, t) = (
      j,
      intake.later (line_reads i sum s v.0 (omega arith) m)
          (subst (λ n. Takes (suc i) (sum + 2 * n) (lines_of (text_of p)) (no (Limit (at_place j)))) (sym (same_length s)) t),
    )
