-- The lines of the statements in the tables, one more behind those before.
use mathlib.Core.Path.{◌≡◌, refl, sym, ap, ◌∙◌, subst}
use mathlib.Core.Logic.{⊎_elim}
use mathlib.Core.List.{List, [], ◌∷◌, ◌++◌}
use Prim.Native.Nat.{ℕ, ◌+◌, ◌-◌, ◌≤◌, ◌<◌}
use native.Mathlib.Omega.{arith}
use lib.ListN.{length, length-append}
use Rattle.laws.specs.Lists.{each}
use Rattle.laws.specs.Counts.{tab}
use Rattle.laws.proofs.Lists.{each_append}
use Rattle.laws.proofs.Tests.{lt_or_le}
use Rattle.laws.proofs.Counts.{each_tab, tab_add, length_tab}
use Rattle.rules.specs.Output.{frame_of}
use Rattle.rules.specs.Programs.{Stmt, Program}
use Rattle.expression.specs.Sound.{AreBytes}
use Rattle.listing.specs.Tables.{frame_at, input_at, input_of, Held}
use Rattle.slots.proofs.Tables.{reads_as, bytes_frame, length_frame}
use Rattle.output.proofs.Frames.{frame_back}
use Rattle.text.specs.Fits.{StmtFits}
use Rattle.text.specs.Text.{line_text}
use Rattle.text.proofs.Fits.{frame_fits}
use Rattle.text.proofs.Lengths.{line_at_most}
use Rattle.wording.specs.Writing.{Framed, Lined}
use Rattle.readable.specs.Readable.{line_of, text_of}
use Rattle.readable.specs.Writing.{Stands}

-- ---- one line

module _ (frames starts : List ℕ) (n : ℕ) (h : Held frames starts n) (v : AreBytes frames) (i : ℕ) (l : i < n) where
  abbrev frame : List ℕ
  frame = frame_at frames starts i

  abbrev x : Stmt
  x = input_at frames starts i

  fits : StmtFits x
  fits = frame_fits frame (bytes_frame frames starts v i) i x (reads_as frames starts n h i l)

  is_frame : frame ≡ frame_of x
  is_frame = sym (frame_back i frame x (reads_as frames starts n h i l) (bytes_frame frames starts v i))

  pub framed : Framed frame
  framed = (x, (fits, is_frame))

  -- a room of 1,024 bytes is never short
  pub stands : (b a : List ℕ) (to : ℕ) → Lined frame b a to → Stands x a to × (length a ≡ 1024)
  stands b a to w =
      let r = w x fits is_frame in
      let e : length (frame_of x) ≤ 120 = subst (λ (s : List ℕ). length s ≤ 120) is_frame
      (omega (arith, length_frame frames starts n h i l, h.short i l)) in
      let k = line_at_most x fits e in
      let t : to ≤ 1024 = ⊎_elim (λ u. absurd (omega (arith, r.over u))) (λ u. u) (lt_or_le 1024 to) in
      (record { ends = omega (arith, r.ends t); short = omega (arith, r.ends t); is = r.stands t }, r.size)

-- ---- all lines

pub length_line : (x : Stmt) → length (line_of x) ≡ length (line_text x) + 1
length_line x = length-append (line_text x) (10 ∷ [])

module _ (frames starts : List ℕ) where
  abbrev before : ℕ → List ℕ
  before i = text_of (input_of frames starts i)

  pub one_more : (i : ℕ) → before (i + 1) ≡ before i ++ line_of (input_at frames starts i)
  unfolding text_of input_of
  one_more i = each_tab (λ s. line_of s) (input_at frames starts) i

  pub length_more : (i : ℕ) → length (before (i + 1)) ≡ length (before i) + length (line_of (input_at frames starts i))
  length_more i = ap (λ (t : List ℕ). length t) (one_more i) ∙ length-append (before i) (line_of (input_at frames starts i))

  pub grows : (i n : ℕ) → i ≤ n → length (before i) ≤ length (before n)
  unfolding text_of input_of
  grows i n h =
      let e : n ≡ i + (n - i) = omega arith in
      let p : Program = tab (λ j. input_at frames starts (i + j)) (n - i) in
      let t : before n ≡ before i ++ text_of p =
      ap before e ∙ ap (each (λ s. line_of s)) (tab_add (input_at frames starts) i (n - i))
      ∙ each_append (λ s. line_of s) (input_of frames starts i) p in
      omega (arith, ap (λ (t : List ℕ). length t) t, length-append (before i) (text_of p))

  pub none : before 0 ≡ []
  unfolding text_of input_of tab each
  none = refl

  pub length_input : (n : ℕ) → length (input_of frames starts n) ≡ n
  unfolding input_of
  length_input n = length_tab (input_at frames starts) n
