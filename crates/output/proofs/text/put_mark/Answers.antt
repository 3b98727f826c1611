-- `output::text::put_mark` meets its contract: nothing, or the line 7D02.
use mathlib.Core.Path.{◌≡◌, refl, sym, ap, ◌∙◌}
use mathlib.Core.List.{List, [], ◌∷◌}
use mathlib.Core.Bool.{Bool}
use Prim.Native.Nat.{ℕ, ◌≤◌}
use native.Mathlib.Omega.{arith}
use lib.ListN.{length}
use Rattle.rules.specs.Listing.{new_form}
use Rattle.rules.specs.Output.{line_of, mark_of}
use Rattle.listing.specs.Form.{form_of}
use Rattle.digits.specs.Digits.{hex_of, laid}
use Rattle.digits.proofs.Rooms.{laid_nothing, laid_more, length_hex, length_line}
use Rattle.output.proofs.text.put_mark.Goals as goal

five : length (mark_of new_form) ≡ 5
five = length_line (0x7D ∷ 0x02 ∷ [])

-- the digits and the line feed
both : (d d₁ d₂ : List ℕ) (r : ℕ) → 5 ≤ length d → d₁ ≡ laid d 0 (hex_of (0x7D ∷ 0x02 ∷ [])) → d₂ ≡ laid d₁ 4 (10 ∷ []) → r ≡ 5
    → (d₂ ≡ laid d 0 (mark_of new_form)) × (r ≡ length (mark_of new_form))
unfolding line_of
both d d₁ d₂ r h a b e = (
  b ∙ ap (λ (l : List ℕ). laid l 4 (10 ∷ [])) a ∙ laid_more d (hex_of (0x7D ∷ 0x02 ∷ [])) (10 ∷ []) 0 4
      (omega (arith, length_hex (0x7D ∷ 0x02 ∷ []))) (omega arith),
  e ∙ sym five,
)

pub returns-then-not-marked : goal.returns-then-not-marked
returns-then-not-marked c = rw c.if-not-marked.true (sym (laid_nothing c.args.out.now 0), refl)

pub put_bytes-requires : goal.put_bytes-requires
put_bytes-requires c =
    let n : length (mark_of (form_of c.args.marked)) ≡ 5 = ap (λ (m : Bool). length (mark_of (form_of m))) c.if-not-marked.false ∙ five in
    omega (arith, n, c.requires)

pub end_line-requires : goal.end_line-requires
end_line-requires c =
    let n : length (mark_of (form_of c.args.marked)) ≡ 5 = ap (λ (m : Bool). length (mark_of (form_of m))) c.if-not-marked.false ∙ five in
    omega (arith, n, c.requires, c.put_bytes.auto.out)

pub returns : goal.returns
returns c =
    let m = c.if-not-marked.false in
    let n : length (mark_of (form_of c.args.marked)) ≡ 5 = ap (λ (m : Bool). length (mark_of (form_of m))) m ∙ five in
    rw m (both c.args.out.now c.put_bytes.new.out c.end_line.new.out c.end_line.result (omega (arith, n, c.requires))
    c.put_bytes.ensures c.end_line.ensures.0 c.end_line.ensures.1)
