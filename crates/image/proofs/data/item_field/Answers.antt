-- `data::item_field` meets its contract: the item reads where it begins; its value is judged, then its range.
use mathlib.Core.Path.{◌≡◌, sym, ap, ◌∙◌}
use mathlib.Core.List.{List}
use Prim.Native.Nat.{ℕ, ◌<◌}
use native.Mathlib.Omega.{arith}
use lib.IntN.{pos}
use lib.ListN.{length, get_or, drop}
use borrow.Author.Rules.{rules}
use Rattle.rules.specs.declared.Unvalued.{Unvalued}
use Rattle.std.specs.Prelude.{ℤ, Result, Err, Ok}
use Rattle.std.proofs.lemmas.Grind.{common_steps}
use Rattle.std.proofs.lemmas.Result.{err_from_is_err_and}
use Rattle.laws.proofs.Stores.{rest_is}
use Rattle.rules.specs.Expressions.{Expr, num, got, read_expr}
use Rattle.rules.specs.Names.{Entry, key_of, lookup}
use Rattle.rules.specs.Judging.{worth}
use Rattle.expression.specs.Linked.{Linked}
use Rattle.slots.proofs.Linking.{part_linked}
use Rattle.expression.proofs.Signed.{at32}
use Rattle.encoding.specs.Operands.{field_as, ranged}
use Rattle.slots.specs.Slots.{item_at}
use Rattle.slots.proofs.Operands.{reads_inside}
use Rattle.image.specs.Encoding.{items_in, bound_of}
use Rattle.image.proofs.Answers.{unvalued_of}
use Rattle.image.proofs.Items.{ranged_small, data_in, item_value, item_unvalued}
use Rattle.image.proofs.data.item_field.Goals as goal
use Rattle.image.proofs.data.item_field.Goals.{After-item_in-a, After-linked_worth}

-- the item, which begins within the frame
module _ (s : After-item_in-a) where
  abbrev frame : List ℕ
  frame = s.args.frame.now

  abbrev item : Expr
  item = get_or (items_in s.args.at.0 frame) s.args.j (num (pos 0))

  inside : s.item_in-a.result < length frame
  inside =
      omega (
        arith,
        s.item_in-a.ensures,
        reads_inside frame (item_at frame 2 s.args.j) item ((data_in s.args.at.0 frame s.requires.0).items.each s.args.j s.requires.1),
      )

-- the worth that the evaluation gives, where the links say the names
module _ (s : After-linked_worth) where
  abbrev worded : Expr
  worded = get_or (items_in s.args.at.0 s.args.frame.now) s.args.j (num (pos 0))

  worth_is : (o : Result ℤ Unvalued) → s.linked_worth.result ≡ o → (names : List Entry) (k : ℕ)
      → Linked (λ m. lookup names (key_of k m)) s.args.frame.now s.args.links.now s.args.values.now s.args.count → worth names k worded ≡ o
  worth_is o q names k l =
      let f = s.args.frame.now in
      let r = (data_in s.args.at.0 f s.requires.0).items.each s.args.j s.requires.1 in
      let reads : read_expr _ ≡ got worded r.width =
      ap read_expr (rest_is s.item_in-a.result f) ∙ ap (λ m. read_expr (drop m f)) s.item_in-a.ensures ∙ r.reads in
      sym (s.linked_worth.ensures (λ m. lookup names (key_of k m)) (part_linked (λ m. lookup names (key_of k m)) f s.args.links.now
      s.args.values.now s.args.count s.item_in-a.result l)
      worded r.width reads) ∙ q

pub slice_bounds-linked_worth-count : goal.slice_bounds-linked_worth-count
slice_bounds-linked_worth-count c = omega (arith, inside (goal.at.slice_bounds-linked_worth-count c).After-item_in-a)

pub slice_bounds-linked_worth-start : goal.slice_bounds-linked_worth-start
slice_bounds-linked_worth-start c = omega (arith, inside (goal.at.slice_bounds-linked_worth-start c).After-item_in-a)

pub offset_bounds-links-a : goal.offset_bounds-links-a
offset_bounds-links-a c =
    record { fits = omega (arith, inside (goal.at.offset_bounds-links-a c).After-item_in-a, c.requires.3, c.well_formed.1.1.1.0) }

pub slice_bounds-linked_worth-count-2 : goal.slice_bounds-linked_worth-count-2
slice_bounds-linked_worth-count-2 c = omega (arith, inside (goal.at.slice_bounds-linked_worth-count-2 c).After-item_in-a, c.requires.3)

pub slice_bounds-linked_worth-start-2 : goal.slice_bounds-linked_worth-start-2
slice_bounds-linked_worth-start-2 c = omega (arith, inside (goal.at.slice_bounds-linked_worth-start-2 c).After-item_in-a, c.requires.3)

pub returns : goal.returns
returns c =
    let s = (goal.at.returns c).After-linked_worth in
    let z = c.in_ok-v.v in
    let bound = bound_of c.args.what in
    let was : c.linked_worth.result ≡ Ok z = grind (arith, common_steps, c.in_ok-v.was) in
    let same : at32 z ≡ z = search rules in
    let ranges = c.item_range.ensures ∙ ap (λ y. field_as (ranged c.args.at.0 c.args.j bound y)) same in
    record {
      small = ranged_small c.args.at.0 c.args.j bound z c.item_range.result ranges;
      value = λ names k l. ranges ∙ sym (ap field_as (item_value names bound c.args.at.0 k c.args.j (worded s) z
          (worth_is s (Ok z) was names k l)));
    }

pub returns-in_err-v-clause-value : goal.returns-in_err-v-clause-value
returns-in_err-v-clause-value c names k l =
    let s = (goal.at.returns-in_err-v-clause-value c).After-linked_worth in
    let i = c.args.at.0 in
    let p = err_from_is_err_and c.from_residual.result c.from_residual.ensures.1 in
    let was : c.map_err.result ≡ Err p.0 = c.in_err-v.was ∙ ap Err (sym p.2) in
    let refused = unvalued_of i c.linked_worth.result c.map_err.result _ c.map_err.ensures.cases (λ e r h. search rules) p.0 was in
    rw p.1
    (ap field_as (sym (item_unvalued names (bound_of c.args.what) i k c.args.j (worded s) (worth_is s (Err refused.0) refused.1 names k l)
    refused.2)))
