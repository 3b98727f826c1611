-- `output::stems::write_stems` meets its contract: after i turns the list begins with the places below i that are left.
use mathlib.Core.Path.{◌≡◌, refl, sym, ap, ◌∙◌}
use mathlib.Core.List.{List}
use Prim.Native.Nat.{ℕ, ◌+◌, ◌*◌, ◌≤◌, ◌<◌}
use native.Mathlib.Omega.{arith}
use lib.ListN.{length, get_or}
use borrow.Author.Tests.{leb-true, leb-false}
use Rattle.laws.specs.Counts.{tab}
use Rattle.laws.specs.Lists.{each}
use Rattle.rules.specs.Expressions.{pair}
use Rattle.slots.specs.Slots.{gone_form}
use Rattle.digits.specs.Digits.{laid}
use Rattle.slots.specs.State.{forms_in}
use Rattle.output.specs.Stems.{kept_to, list_of}
use Rattle.digits.proofs.Rooms.{laid_more, laid_nothing, laid_front}
use Rattle.output.proofs.Listings.{kept_few}
use Rattle.output.proofs.Left.{kept_one, kept_none, counts_one, kept_within, length_list, list_more}
use Rattle.output.proofs.stems.write_stems.Goals.{then-not-is_gone, else-not-is_gone}
use Rattle.output.proofs.stems.write_stems.Goals as goal

-- one more entry fits
module _ (count : ℕ) (forms list : List ℕ) (i n : ℕ) (l : i < count) (e : n ≡ length (kept_to forms i)) (k : get_or forms i 0 < gone_form)
  where
    entry_fits : 2 * length (kept_to forms count) ≤ length list → 2 * n + 2 ≤ length list
    entry_fits h = omega (arith, counts_one forms i k, kept_within forms (i + 1) count (omega arith))

    -- and the list with it
    entry_more : (now after : List ℕ) → 2 * length (kept_to forms count) ≤ length list → now ≡ laid list 0 (list_of (kept_to forms i))
        → after ≡ laid now (2 * n) (pair i) → after ≡ laid list 0 (list_of (kept_to forms (i + 1)))
    entry_more now after h q r =
        let z : 0 + length (list_of (kept_to forms i)) ≡ 2 * n = omega (arith, length_list (kept_to forms i)) in
        r ∙ ap (λ s. laid s (2 * n) (pair i)) q
        ∙ laid_more list (list_of (kept_to forms i)) (pair i) 0 (2 * n) z (entry_fits h)
        ∙ ap (laid list 0) (sym (list_more (kept_to forms i) i) ∙ ap list_of (sym (kept_one forms i k)))

pub loop-i-init : goal.loop-i-init
unfolding kept_to list_of each tab
loop-i-init c = (refl, sym (laid_nothing _ 0))

pub overflow_mul-n : goal.overflow_mul-n
overflow_mul-n c = omega (arith, kept_few (forms_in c.args.state.now) c.loop-i.i, c.requires.0)

pub put_entry-requires : goal.put_entry-requires
put_entry-requires c =
    let l = c.loop-i in
    let h = entry_fits c.args.count (forms_in c.args.state.now) c.args.list.now l.i l.n c.loop-i-test.true l.invariant.0
    (leb-false _ _ (sym c.is_gone.ensures ∙ c.if-not-is_gone.true)) c.requires.1 in
    (omega arith, omega arith)

pub overflow_add-n : goal.overflow_add-n
overflow_add-n c = omega (arith, kept_few (forms_in c.args.state.now) c.loop-i.i, c.requires.0)

pub loop-i-preserved : goal.loop-i-preserved
loop-i-preserved c =
    let l = c.loop-i in
    let f = forms_in c.args.state.now in
    let d = c.args.list.now in
    let form = c.is_gone.ensures in
    elim c.if-not-is_gone.branch [
      | then-not-is_gone w ↦
          let t = leb-false _ _ (sym form ∙ w.if-not-is_gone.true) in (
            w.n-is ∙ omega (arith, counts_one f l.i t),
            w.list-is
                ∙ entry_more c.args.count f d l.i l.n c.loop-i-test.true l.invariant.0 t l.list _ c.requires.1 l.invariant.1
                w.put_entry.ensures,
          )
      | else-not-is_gone w ↦
          let q = kept_none f l.i (leb-true _ _ (sym form ∙ w.if-not-is_gone.false)) in
          (w.n-is ∙ l.invariant.0 ∙ ap length (sym q), w.list-is ∙ l.invariant.1 ∙ ap (λ is. laid d 0 (list_of is)) (sym q))
    ]

pub returns : goal.returns
returns c =
    let l = c.loop-i in
    let f = forms_in c.args.state.now in
    let e : l.i ≡ c.args.count = omega arith in (
      l.invariant.1 ∙ ap (λ k. laid c.args.list.now 0 (list_of (kept_to f k))) e ∙ laid_front c.args.list.now
          (list_of (kept_to f c.args.count)),
      l.invariant.0 ∙ ap (λ k. length (kept_to f k)) e,
    )
