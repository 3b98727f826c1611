-- `data::check_items` meets its contract. The invariant: the answer is that of the items from j on.
use mathlib.Core.Path.{sym, ap, ◌∙◌}
use mathlib.Core.List.{List, ◌++◌}
use Prim.Native.Nat.{ℕ, suc}
use native.Mathlib.Numerals.{add-one}
use native.Mathlib.Omega.{arith}
use lib.IntN.{pos}
use lib.ListN.{get_or, drop}
use Rattle.std.specs.Prelude.{Err}
use Rattle.std.proofs.lemmas.Result.{err_from_is_err_and}
use Rattle.rules.specs.Answers.{Judged}
use Rattle.rules.specs.Expressions.{Expr, num}
use Rattle.rules.specs.Names.{Entry}
use Rattle.rules.specs.Judging.{items}
use Rattle.image.specs.declared.data.Data.{Data}
use Rattle.image.specs.Encoding.{items_in, bound_of, item_of, checked_as}
use Rattle.image.proofs.Answers.{bind_ok, bind_no}
use Rattle.image.proofs.Fields.{field_ok, field_no}
use Rattle.image.proofs.Items.{data_in, items_more, items_end}
use Rattle.image.proofs.Passes.{checked_then}
use Rattle.image.proofs.data.check_items.Goals as goal

module _ (what : Data) (at : ℕ) (frame : List ℕ) (names : List Entry) (k : ℕ) where
  abbrev all : List Expr
  all = items_in at frame

  abbrev one : (j : ℕ) → Judged ℕ
  one j = item_of names (bound_of what) at k j (get_or all j (num (pos 0)))

  abbrev left : (write : ℕ → List ℕ) (j : ℕ) → Judged (List ℕ)
  left write j = items names (bound_of what) write at k j (drop j all)

pub returns-in_err-item_field : goal.returns-in_err-item_field
returns-in_err-item_field c names k said write =
    let l = c.loop-j in
    let x = one c.args.what c.args.at.0 c.args.frame.now names k l.j in
    let items_are = (data_in c.args.at.0 c.args.frame.now c.requires.0).items in
    let p = err_from_is_err_and c.from_residual.result c.from_residual.ensures.1 in
    rw p.1
    (sym
    (l.invariant names k said write
    ∙ ap checked_as
    (items_more names _ _ k write _ l.j (omega (arith, items_are.count))
    ∙ bind_no x _ p.0 (field_no x (c.item_field.ensures.value names k said) (c.in_err-item_field.was ∙ ap Err (sym p.2))))))

pub loop-j-preserved : goal.loop-j-preserved
loop-j-preserved c names k said write =
    let l = c.loop-j in
    let x = one c.args.what c.args.at.0 c.args.frame.now names k l.j in
    let rest = left c.args.what c.args.at.0 c.args.frame.now names k write in
    let items_are = (data_in c.args.at.0 c.args.frame.now c.requires.0).items in
    l.invariant names k said write
    ∙ ap checked_as
    (items_more names _ _ k write _ l.j (omega (arith, items_are.count))
    ∙ bind_ok x _ c.in_ok-item_field.field-0 (field_ok x (c.item_field.ensures.value names k said) c.in_ok-item_field.was))
    ∙ checked_then (rest (suc l.j)) (λ bs. write c.in_ok-item_field.field-0 ++ bs)
    ∙ ap (λ m. checked_as (rest m)) (sym (add-one l.j))

pub returns : goal.returns
returns c names k said write =
    let l = c.loop-j in
    let items_are = (data_in c.args.at.0 c.args.frame.now c.requires.0).items in
    sym
    (l.invariant names k said write
    ∙ ap checked_as (items_end names _ _ k write _ l.j (omega (arith, items_are.count))))
