-- `writing::write_items` meets its contract. The invariant: the items before j are in place, and the encoding is theirs and that of the
-- rest.
use mathlib.Core.Path.{◌≡◌, refl, sym, ap, ◌∙◌}
use mathlib.Core.List.{List, [], ◌++◌, append_assoc, append-nil}
use Prim.Native.Nat.{ℕ, suc, ◌+◌, ◌*◌, ◌<◌, ◌≤◌}
use native.Mathlib.Numerals.{add-one}
use native.Mathlib.Omega.{arith}
use lib.IntN.{pos}
use lib.ListN.{length, get_or, drop, length-append}
use Rattle.rules.specs.Answers.{Judged, ok, ◌>>=◌}
use Rattle.rules.specs.Expressions.{Expr, num}
use Rattle.rules.specs.Names.{Entry, key_of, lookup}
use Rattle.rules.specs.Judging.{items}
use Rattle.rules.proofs.Laws.{no_ok}
use Rattle.expression.specs.Linked.{Linked}
use Rattle.image.specs.declared.data.Data.{Data}
use Rattle.image.specs.declared.data.Data.TheVariants.{Bytes, Words}
use Rattle.image.specs.Encoding.{items_in, bound_of, write_of, item_of}
use Rattle.image.specs.Image.{put, width_of}
use Rattle.image.proofs.Answers.{bind_ok, bind_no, bind_ext, bind_id, bind_bind}
use Rattle.image.proofs.Fields.{field_ok, field_no}
use Rattle.image.proofs.Items.{data_in, items_more, items_end}
use Rattle.image.proofs.Passes.{ok_same}
use Rattle.image.proofs.Rooms.{put_none, put_more}
use Rattle.image.proofs.writing.write_items.Goals as goal
use Rattle.image.proofs.writing.write_items.Goals.{After-item_width-width}

-- ---- widths
write_width : (what : Data) (v : ℕ) → length (write_of what v) ≡ width_of what
write_width Bytes v = refl
write_width Words v = refl

width_more : (what : Data) (j : ℕ) → width_of what * j + width_of what ≡ width_of what * (j + 1)
width_more Bytes j = omega arith
width_more Words j = omega arith

width_fits : (what : Data) (j n : ℕ) → j < n → width_of what * j + width_of what ≤ width_of what * n
width_fits Bytes j n l = omega arith
width_fits Words j n l = omega arith

-- what each goal knows of the data
module _ (s : After-item_width-width) where
  abbrev place : ℕ
  place = s.args.at.0

  abbrev what : Data
  what = s.args.what

  abbrev all : List Expr
  all = items_in place s.args.frame.now

  abbrev one : (names : List Entry) (k j : ℕ) → Judged ℕ
  one names k j = item_of names (bound_of what) place k j (get_or all j (num (pos 0)))

  abbrev left : (names : List Entry) (k j : ℕ) → Judged (List ℕ)
  left names k j = items names (bound_of what) (write_of what) place k j (drop j all)

  abbrev Said : (names : List Entry) (k : ℕ) → Type 0
  Said names k = Linked (λ m. lookup names (key_of k m)) s.args.frame.now s.args.links.now s.args.values.now s.args.count

  count_is : length all ≡ s.args.n
  count_is = (data_in place s.args.frame.now s.requires.0).items.count ∙ sym s.requires.1

  more_at : (names : List Entry) (k j : ℕ) → j < s.args.n
      → left names k j ≡ one names k j >>= (λ v. left names k (suc j) >>= (λ bs. ok (write_of what v ++ bs)))
  more_at names k j h = items_more names (bound_of what) place k (write_of what) all j (omega (arith, count_is))

pub loop-j-init : goal.loop-j-init
loop-j-init c =
    let zero : 0 ≡ width_of (what c) * 0 = omega arith in
    ([], zero, sym (put_none c.args.image.now c.args.q.0), λ names k l. sym (bind_id (left c names k 0)))

pub returns-in_default : goal.returns-in_default
returns-in_default c names k said b e =
    let s = (goal.at.returns-in_default c).After-item_width-width in
    let l = c.loop-j in
    let r = c.in_default.field-0 in
    let none = field_no (one s names k l.j) (c.item_field.ensures.value names k said) c.in_default.is in
    let refused = more_at s names k l.j c.loop-j-test.true ∙ bind_no (one s names k l.j) _ r none in
    no_ok r b (sym (l.invariant.3 names k said ∙ bind_no (left s names k l.j) _ r refused) ∙ e)

pub loop-j-preserved : goal.loop-j-preserved
loop-j-preserved c =
    let s = (goal.at.loop-j-preserved c).After-item_width-width in
    let l = c.loop-j in
    let v = c.in-Ok.v in
    let w = what s in
    let old = c.args.image.now in
    let q = c.args.q.0 in
    let front = l.invariant.0 in
    let more = write_of w v in
    let size : length front ≡ width_of w * l.j = l.invariant.1 in
    let begins : c.item_width-width.result * l.j ≡ width_of w * l.j = ap (λ n. n * l.j) c.item_width-width.ensures in
    let room : q + length front ≤ length old = omega (arith, width_fits w l.j c.args.n c.loop-j-test.true) in
    let next : q + c.item_width-width.result * l.j ≡ q + length front = omega arith in
    let put_is : c.write_item.new.image ≡ put old q (front ++ more) =
    c.write_item.ensures
    ∙ ap (λ r. put r (q + c.item_width-width.result * l.j) more) l.invariant.2
    ∙ ap (λ m. put (put old q front) m more) next
    ∙ put_more old q front room more in
    let size_more : length (front ++ more) ≡ width_of w * (l.j + 1) =
    length-append front more ∙ ap (λ m. m + length more) size ∙ ap (λ m. width_of w * l.j + m) (write_width w v) ∙ width_more w l.j in
    let here : (names : List Entry) (k : ℕ) → Said s names k → left s names k l.j ≡ left s names k (suc l.j)
    >>= (λ bs. ok (more ++ bs)) =
    λ names k said. more_at s names k l.j c.loop-j-test.true
    ∙ bind_ok (one s names k l.j) _ v (field_ok (one s names k l.j) (c.item_field.ensures.value names k said) c.in-Ok.is) in
    let rest : (names : List Entry) (k : ℕ) → Said s names k → left s names k 0 ≡ left s names k (l.j + 1)
    >>= (λ bs. ok ((front ++ more) ++ bs)) =
    λ names k said. l.invariant.3 names k said
    ∙ ap (λ x. x >>= (λ bs. ok (front ++ bs))) (here names k said)
    ∙ bind_bind (left s names k (suc l.j)) (λ bs. more ++ bs) (λ bs. front ++ bs)
    ∙ bind_ext (left s names k (suc l.j)) _ _ (λ bs. ap ok (sym (append_assoc front more bs)))
    ∙ ap (λ m. left s names k m >>= (λ bs. ok ((front ++ more) ++ bs))) (sym (add-one l.j)) in
    (front ++ more, size_more, put_is, rest)

pub returns : goal.returns
unfolding ◌>>=◌
returns c names k said b e =
    let s = (goal.at.returns c).After-item_width-width in
    let l = c.loop-j in
    let front = l.invariant.0 in
    let end : left s names k l.j ≡ ok [] =
    items_end names (bound_of (what s)) (place s) k (write_of (what s)) (all s) l.j (omega (arith, count_is s)) in
    let whole : front ++ [] ≡ b = ok_same (sym (ap (λ x. x >>= (λ bs. ok (front ++ bs))) end) ∙ sym (l.invariant.3 names k said) ∙ e) in
    l.invariant.2 ∙ ap (put c.args.image.now c.args.q.0) (sym (append-nil front) ∙ whole)
