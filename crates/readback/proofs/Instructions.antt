-- An instruction's frame, argument by argument: what stands there and what is left make the whole.
use mathlib.Core.Path.{◌≡◌, sym, ap, ◌∙◌}
use mathlib.Core.List.{List, [], ◌∷◌, ◌++◌, append_assoc, append-nil}
use mathlib.Core.Bool.{true, false, ◌&&◌}
use Prim.Native.Nat.{ℕ, ◌+◌, ◌<◌, ◌≤◌}
use native.Mathlib.Numerals.{add-one}
use lib.ListN.{length, take, drop, drop_of_length-le}
use lib.Seq.{drop-cons}
use Rattle.laws.specs.Lists.{each}
use Rattle.rules.specs.declared.Kind.{Kind}
use Rattle.rules.specs.declared.Kind.TheVariants.{Reg}
use Rattle.rules.specs.Values.{below}
use Rattle.rules.specs.Forms.{operands_at}
use Rattle.rules.specs.Programs.{Addressℕ}
use Rattle.rules.specs.Output.{operand_bytes}
use Rattle.digits.specs.Digits.{laid}
use Rattle.decoding.specs.Operands.{reads, operands_from, none_outside}
use Rattle.readback.specs.Frames.{kind_at, held_at, operand_at, instr_frame}
use Rattle.readback.proofs.Pieces.{front_more}

module _ (f : ℕ) (s : List ℕ) (n : Addressℕ) where
  -- from argument j on
  abbrev pub bytes_left : (j : ℕ) → List ℕ
  bytes_left j = each (λ x. operand_bytes x) (operands_from f s n j (drop j (operands_at f)))

  abbrev pub InsideLeft : (j : ℕ) → Type 0
  InsideLeft j = none_outside f s n 0 (operands_at f) ≡ none_outside f s n j (drop j (operands_at f))

  module _ (j : ℕ) (h : j < length (operands_at f)) where
    next : drop j (operands_at f) ≡ kind_at f j ∷ drop (j + 1) (operands_at f)
    next = rw (add-one j) (drop-cons (operands_at f) j Reg h)

    left_more : bytes_left j ≡ operand_bytes (operand_at f s n j) ++ bytes_left (j + 1)
    unfolding operands_from each
    left_more =
        ap (λ (ds : List Kind). each (λ x. operand_bytes x) (operands_from f s n j ds)) next
        ∙ ap (λ (k : ℕ). operand_bytes (operand_at f s n j) ++ each (λ x. operand_bytes x)
        (operands_from f s n k (drop (j + 1) (operands_at f)))) (sym (add-one j))

    inside_more : none_outside f s n j (drop j (operands_at f)) ≡ below 65536 (reads n (kind_at f j) (held_at f s j)) && none_outside f s n
        (j + 1) (drop (j + 1) (operands_at f))
    unfolding none_outside
    inside_more =
        ap (none_outside f s n j) next
        ∙ ap (λ (k : ℕ). below 65536 (reads n (kind_at f j) (held_at f s j)) && none_outside f s n k (drop (j + 1) (operands_at f)))
        (sym (add-one j))

    -- one argument more
    pub instr_more : (d : List ℕ) (at : ℕ) → at ≤ length d → take at d ++ bytes_left j ≡ instr_frame f s n
        → take (at + length (operand_bytes (operand_at f s n j))) (laid d at (operand_bytes (operand_at f s n j))) ++ bytes_left
        (j + 1) ≡ instr_frame f s n
    instr_more d at l e =
        let x : List ℕ = operand_bytes (operand_at f s n j) in
        ap (λ (t : List ℕ). t ++ bytes_left (j + 1)) (front_more d x at l)
        ∙ append_assoc (take at d) x (bytes_left (j + 1)) ∙ ap (λ (t : List ℕ). take at d ++ t) (sym left_more) ∙ e

    pub inside_next : InsideLeft j → below 65536 (reads n (kind_at f j) (held_at f s j)) ≡ true → InsideLeft (j + 1)
    inside_next e b = e ∙ inside_more ∙ rw b

    -- one outside
    pub outside_here : InsideLeft j → below 65536 (reads n (kind_at f j) (held_at f s j)) ≡ false
        → none_outside f s n 0 (operands_at f) ≡ false
    outside_here e b = e ∙ inside_more ∙ rw b

  -- and at the end
  module _ (j : ℕ) (h : length (operands_at f) ≤ j) where
    none : drop j (operands_at f) ≡ []
    none = drop_of_length-le (operands_at f) h

    pub all_inside : InsideLeft j → none_outside f s n 0 (operands_at f) ≡ true
    unfolding none_outside
    all_inside e = e ∙ ap (none_outside f s n j) none

    pub all_there : (t : List ℕ) → t ++ bytes_left j ≡ instr_frame f s n → t ≡ instr_frame f s n
    unfolding operands_from each
    all_there t e = sym (append-nil t) ∙ ap (λ (ds : List Kind). t ++ each (λ x. operand_bytes x) (operands_from f s n j ds)) (sym none) ∙ e
