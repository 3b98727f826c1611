-- The line of whatever statement a frame holds, by the frame's first byte.
use mathlib.Core.Path.{◌≡◌, sym, ap, ◌∙◌, subst}
use mathlib.Core.Logic.{◌⊎◌, inl, inr}
use mathlib.Core.List.{List, [], ◌∷◌, ◌++◌, append-nil}
use Prim.Native.Nat.{ℕ, ◌+◌, ◌*◌, ◌/◌, ◌%◌, ◌≤◌, ◌<◌}
use native.Mathlib.Omega.{arith}
use lib.ListN.{length, get_or, drop}
use Rattle.rules.specs.Expressions.{read_expr, bytes_of}
use Rattle.rules.specs.Forms.{operands_at}
use Rattle.rules.specs.Output.{frame_of}
use Rattle.rules.specs.Programs.{instr, label, variable, comment, org, bytes, words, pad}
use Rattle.rules.specs.Statements.{pair_at}
use Rattle.expression.proofs.RoundTrip.{reads_expr}
use Rattle.text.specs.Fits.{OperandsFit, fits_instr, fits_label, fits_variable, fits_comment, fits_org, fits_bytes, fits_words, fits_pad}
use Rattle.text.specs.Text.{items_text, line_text}
use Rattle.text.specs.Words.{dot_word}
use Rattle.terms.specs.Writing.{Wrote}
use Rattle.wording.specs.Writing.{Written, DataWritten, Framed, Lined}

-- ---- how many bytes a frame has at least, by its kind

unfoldable pub least : ℕ → ℕ
least k = get_or (1 ∷ 2 ∷ 3 ∷ 3 ∷ 1 ∷ 3 ∷ 2 ∷ 2 ∷ 4 ∷ []) k 0

pub long : (s : List ℕ) → Framed s → (1 ≤ length s) × (least (get_or s 0 0) ≤ length s)
unfolding least frame_of
long s (x, (fits_instr f xs c h o, e)) = rw e (omega arith, omega arith)
long s (x, (fits_label n h, e)) = rw e (omega arith, omega arith)
long s (x, (fits_variable n v h k, e)) = rw e (omega arith, omega arith)
long s (x, (fits_comment t h, e)) = rw e (omega arith, omega arith)
long s (x, (fits_org l h, e)) = rw e (omega arith, omega arith)
long s (x, (fits_bytes es h, e)) = rw e (omega arith, omega arith)
long s (x, (fits_words es h, e)) = rw e (omega arith, omega arith)
long s (x, (fits_pad add m a h k, e)) = rw e (omega arith, omega arith)

pub long_by : (s : List ℕ) → Framed s → (k : ℕ) → get_or s 0 0 ≡ k → least k ≤ length s
long_by s f k e = subst (λ n. least n ≤ length s) e (long s f).1

first : (s t : List ℕ) → s ≡ t → get_or s 0 0 ≡ get_or t 0 0
first s t e = ap (λ y. get_or y 0 0) e

pub known_form : (s : List ℕ) → Framed s → get_or s 0 0 ≡ 1 → get_or s 1 0 < 70
unfolding frame_of
known_form s (x, (fits_instr f xs c h o, e)) q = subst (λ y. get_or y 1 0 < 70) (sym e) h
known_form s (x, (fits_label n h, e)) q = absurd (omega (arith, first s (frame_of (label n)) e))
known_form s (x, (fits_variable n v h k, e)) q = absurd (omega (arith, first s (frame_of (variable n v)) e))
known_form s (x, (fits_comment t h, e)) q = absurd (omega (arith, first s (frame_of (comment t)) e))
known_form s (x, (fits_org l h, e)) q = absurd (omega (arith, first s (frame_of (org l)) e))
known_form s (x, (fits_bytes es h, e)) q = absurd (omega (arith, first s (frame_of (bytes es)) e))
known_form s (x, (fits_words es h, e)) q = absurd (omega (arith, first s (frame_of (words es)) e))
known_form s (x, (fits_pad add m a h k, e)) q = absurd (omega (arith, first s (frame_of (pad add m)) e))

-- no other kind is left than data
pub record NoOther (k : ℕ) : Type 0 where
  pub no_instr : k ≡ 1 → ⊥
  pub no_label : k ≡ 2 → ⊥
  pub no_variable : k ≡ 3 → ⊥
  pub no_comment : k ≡ 4 → ⊥
  pub no_org : k ≡ 5 → ⊥
  pub no_pad : k ≡ 8 → ⊥

pub data_left : (s : List ℕ) → Framed s → NoOther (get_or s 0 0) → (get_or s 0 0 ≡ 6) ⊎ (get_or s 0 0 ≡ 7)
unfolding frame_of
data_left s (x, (fits_instr f xs c h o, e)) n = absurd (n.no_instr (first s (frame_of (instr f xs c)) e))
data_left s (x, (fits_label m h, e)) n = absurd (n.no_label (first s (frame_of (label m)) e))
data_left s (x, (fits_variable m v h k, e)) n = absurd (n.no_variable (first s (frame_of (variable m v)) e))
data_left s (x, (fits_comment t h, e)) n = absurd (n.no_comment (first s (frame_of (comment t)) e))
data_left s (x, (fits_org l h, e)) n = absurd (n.no_org (first s (frame_of (org l)) e))
data_left s (x, (fits_bytes es h, e)) n = inl (first s (frame_of (bytes es)) e)
data_left s (x, (fits_words es h, e)) n = inr (first s (frame_of (words es)) e)
data_left s (x, (fits_pad add m a h k, e)) n = absurd (n.no_pad (first s (frame_of (pad add m)) e))

pub data_long : (s : List ℕ) → Framed s → (get_or s 0 0 ≡ 6) ⊎ (get_or s 0 0 ≡ 7) → (2 ≤ length s) × (6 ≤ get_or s 0 0) × (get_or s 0 0 ≤ 7)
unfolding least
data_long s f (inl e) = (long_by s f 6 e, omega arith, omega arith)
data_long s f (inr e) = (long_by s f 7 e, omega arith, omega arith)

-- ---- the line

-- a pair's bytes are the number
pair_is : (n : ℕ) → n / 256 * 256 + n % 256 ≡ n
pair_is n = omega arith

-- what is written by the frame's kind is the statement's line
pub lined : {b a : List ℕ} {to : ℕ} (s : List ℕ) (k : ℕ) → get_or s 0 0 ≡ k → Written k s b a to → Lined s b a to
unfolding frame_of line_text dot_word
lined {b} {a} {to} s k q w = on
  where
    -- the frame's kind is that of its statement
    kinded : (t : List ℕ) → s ≡ t → Written (get_or t 0 0) s b a to
    kinded t e = subst (λ n. Written n s b a to) (sym q ∙ first s t e) w

    on : Lined s b a to
    on x (fits_instr f xs c h o) e =
        let z : get_or s 1 0 ≡ f = ap (λ y. get_or y 1 0) e in
        subst (λ y. Wrote b a 0 (line_text (instr y xs c)) to) z (kinded (frame_of (instr f xs c)) e xs c (ap (drop 2) e)
        (subst (λ y. OperandsFit (operands_at y) xs) (sym z) o))
    on x (fits_label n h) e =
        subst (λ y. Wrote b a 0 (line_text (label y)) to) (ap (λ y. pair_at y 1) e ∙ pair_is n) (kinded (frame_of (label n)) e)
    on x (fits_variable n v h m) e =
        subst (λ y. Wrote b a 0 (line_text (variable y v)) to) (ap (λ y. pair_at y 1) e ∙ pair_is n)
        (kinded (frame_of (variable n v)) e v (length (bytes_of v))
        (ap (λ y. read_expr (drop 3 y)) e ∙ ap read_expr (sym (append-nil (bytes_of v))) ∙ reads_expr v m.sound [] m.short))
    on x (fits_comment t h) e = subst (λ y. Wrote b a 0 (line_text (comment y)) to) (ap (drop 1) e) (kinded (frame_of (comment t)) e)
    on x (fits_org l h) e =
        subst (λ y. Wrote b a 0 (line_text (org y)) to) (ap (λ y. pair_at y 1) e ∙ pair_is l) (kinded (frame_of (org l)) e)
    on x (fits_bytes es f) e =
        subst (λ y. Wrote b a 0 (dot_word y ++ items_text 32 es) to) (first s (frame_of (bytes es)) e)
        (kinded (frame_of (bytes es)) e es (ap (drop 1) e) f.each)
    on x (fits_words es f) e =
        subst (λ y. Wrote b a 0 (dot_word y ++ items_text 32 es) to) (first s (frame_of (words es)) e)
        (kinded (frame_of (words es)) e es (ap (drop 1) e) f.each)
    on x (fits_pad add m g h l) e =
        let z : get_or s 1 0 ≡ add = ap (λ y. get_or y 1 0) e in
        let n : pair_at s 2 ≡ m = ap (λ y. pair_at y 2) e ∙ pair_is m in
        subst (λ y. Wrote b a 0 (line_text (pad add y)) to) n (subst (λ y. Wrote b a 0 (line_text (pad y (pair_at s 2))) to) z
        (kinded (frame_of (pad add m)) e))

pub lined_data : {b a : List ℕ} {to : ℕ} (s : List ℕ) → (get_or s 0 0 ≡ 6) ⊎ (get_or s 0 0 ≡ 7) → DataWritten s b a to → Lined s b a to
lined_data s (inl e) w = lined s 6 e w
lined_data s (inr e) w = lined s 7 e w
