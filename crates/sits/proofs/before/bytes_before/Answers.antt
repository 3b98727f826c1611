-- `bytes_before` meets its contract: the mark is looked at where n is above 0. Assumes nothing.
use mathlib.Core.Path.{◌≡◌, sym, ap, ◌∙◌}
use mathlib.Core.List.{List}
use Prim.Native.Nat.{ℕ, ◌+◌, ◌≤◌}
use native.Mathlib.Omega.{arith}
use lib.ListN.{length}
use Rattle.laws.proofs.Stores.{rest_is}
use Rattle.listing.proofs.Forms.{marked_long}
use Rattle.sits.specs.Before.{lines_length, length_before}
use Rattle.sits.proofs.LinesBefore.{before_none, before_marked, before_unmarked, before_within}
use Rattle.sits.proofs.before.bytes_before.Goals as goal

-- an answer that is the length lies within the text
within : (n r : ℕ) (t : List ℕ) → r ≡ length_before n t → (r ≡ length_before n t) × (r ≤ length t)
within n r t e = (e, omega (arith, before_within n t))

module _ (c : goal.After-lines_length) where
  abbrev text : List ℕ
  text = c.args.text.now

  behind_mark : 5 + c.lines_length.result ≡ length_before c.args.n text
  behind_mark =
      ap (λ (m : ℕ). 5 + m) (c.lines_length.ensures ∙ ap (lines_length c.args.n) (rest_is 5 text))
      ∙ sym (before_marked c.args.n text c.if-n-eq0.false
      (sym c.new_form.ensures.0 ∙ c.if-new_form.true))

pub returns-then-n-eq0 : goal.returns-then-n-eq0
returns-then-n-eq0 c =
    within c.args.n 0 c.args.text.now (sym (before_none c.args.n c.args.text.now c.if-n-eq0.true))

-- the five characters of the mark are there
pub slice_bounds-lines_length-count : goal.slice_bounds-lines_length-count
slice_bounds-lines_length-count c =
    marked_long c.args.text.now (sym c.new_form.ensures.0 ∙ c.if-new_form.true)

pub slice_bounds-lines_length-start : goal.slice_bounds-lines_length-start
slice_bounds-lines_length-start c =
    omega (arith, marked_long c.args.text.now (sym c.new_form.ensures.0 ∙ c.if-new_form.true))

pub overflow_add-result : goal.overflow_add-result
overflow_add-result c = omega (arith, behind_mark c, before_within c.args.n (text c))

pub returns-then-new_form : goal.returns-then-new_form
returns-then-new_form c = within c.args.n (5 + c.lines_length.result) (text c) (behind_mark c)

pub returns : goal.returns
returns c =
    let bytes = c.args.text.now in
    within c.args.n c.lines_length-2.result bytes (c.lines_length-2.ensures
    ∙ sym (before_unmarked c.args.n bytes c.if-n-eq0.false
    (sym c.new_form.ensures.0 ∙ c.if-new_form.false)))
