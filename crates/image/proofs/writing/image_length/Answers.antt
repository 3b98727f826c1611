-- `writing::image_length` meets its contract. The invariant: nothing of the image is left from slot i on.
use mathlib.Core.Path.{◌≡◌, ap, ◌∙◌}
use mathlib.Core.List.{List}
use Prim.Native.Nat.{ℕ, suc, ◌-◌}
use native.Mathlib.Numerals.{add-one}
use native.Mathlib.Omega.{arith}
use lib.IntN.{ℤ}
use lib.ListN.{get_or}
use Rattle.rules.specs.Programs.{byte_count}
use Rattle.slots.specs.Slots.{slot_at}
use Rattle.image.specs.Tables.{Tables, tables, Ready}
use Rattle.image.specs.Image.{image_of}
use Rattle.image.proofs.Images.{image_is, size_here, size_here_lem, Done, done_end, done_more, length_found, length_none}
use Rattle.slots.specs.State.{starts_in, forms_in}
use Rattle.image.proofs.writing.image_length.Goals as goal
use Rattle.image.proofs.writing.image_length.Goals.{After-size_at}

-- a turn: the slot before i, and the one after it was looked at
module _ (s : After-size_at) (carry owners offsets links : List ℕ) (values : List ℤ) where
  abbrev slot : ℕ
  slot = s.loop-i.i - 1

  abbrev here : Tables
  here = tables s.args.frames.now (starts_in s.args.state.now) s.args.count (forms_in s.args.state.now) carry owners offsets links values
      s.args.positions.now

  size_is : Ready here → s.size_at.result ≡ size_here here slot
  size_is ready =
      s.size_at.ensures carry owners offsets
      ∙ ap (λ q. byte_count q (slot_at here.slots slot)) s.address-q.ensures
      ∙ size_here_lem here ready slot (omega arith)

  done_next : Ready here → Done here (suc slot)
  done_next ready =
      let e : s.loop-i.i ≡ suc slot = omega arith in
      rw e at (s.loop-i.invariant carry owners offsets links values ready)

pub loop-i-init : goal.loop-i-init
loop-i-init c carry owners offsets links values ready = done_end _

pub returns-then-size_at-gt0 : goal.returns-then-size_at-gt0
returns-then-size_at-gt0 c carry owners offsets links values ready fine =
    let s = (goal.at.returns-then-size_at-gt0 c).After-size_at in
    let d = here s carry owners offsets links values in
    let n = c.loop-i.i - 1 in
    c.address.ensures
    ∙ ap (λ m. get_or c.args.positions.now m 0) (add-one n)
    ∙ ready.position (suc n) (omega arith)
    ∙ length_found d ready (image_of d) (image_is d fine) n (omega arith)
    (omega (arith, size_is s carry owners offsets links values ready)) (done_next s carry owners offsets links values ready)

pub loop-i-preserved : goal.loop-i-preserved
loop-i-preserved c carry owners offsets links values ready =
    let s = (goal.at.loop-i-preserved c).After-size_at in
    done_more _ (c.loop-i.i - 1) (omega arith) (omega (arith, size_is s carry owners offsets links values ready))
    (done_next s carry owners offsets links values ready)

pub returns : goal.returns
returns c carry owners offsets links values ready fine =
    let e : c.loop-i.i ≡ 0 = omega arith in
    length_none _ _ (image_is _ fine) (rw e at (c.loop-i.invariant carry owners offsets links values ready))
