-- `put_run` meets its contract: what is left of the run, stored where the last line ended, makes the whole. Assumes nothing.
use mathlib.Core.Path.{◌≡◌, sym, ap, ◌∙◌}
use mathlib.Core.List.{List, [], ◌∷◌, ◌++◌}
use Prim.Native.Nat.{ℕ, suc, ◌+◌, ◌-◌, ◌≤◌, ◌<◌}
use native.Mathlib.Numerals.{add-one}
use native.Mathlib.Omega.{arith}
use lib.ListN.{length, get_or, length-append}
use Rattle.rules.specs.Expressions.{pair}
use Rattle.rules.specs.Listing.{unhex}
use Rattle.rules.specs.Output.{line_of}
use Rattle.digits.specs.Digits.{laid}
use Rattle.digits.proofs.Rooms.{laid_more, laid_nothing}
use Rattle.pairing.specs.Pairings.{Frame, frames_of}
use Rattle.pairing.specs.Lines.{line_in, Written}
use Rattle.pairing.proofs.Frames.{frame_at}
use Rattle.differences.specs.Walks.{run_text}
use Rattle.differences.proofs.Pieces.{one_size}
use Rattle.differences.proofs.Sizes.{line_of_run}
use Rattle.differences.proofs.walks.put_run.Goals as goal
use Rattle.differences.proofs.walks.put_run.Goals.{After-line_at}

abbrev left : (kind : ℕ) (text : List ℕ) (to i : ℕ) → List ℕ
left kind text to i = run_text kind (frames_of text) (to - i) i

-- one line more
run_turn : (kind : ℕ) (text : List ℕ) (to i : ℕ) → i < to
    → left kind text to i ≡ line_of (kind ∷ (pair i ++ get_or (frames_of text) i [])) ++ left kind text to (i + 1)
unfolding run_text
run_turn kind text to i h = let z : to - i ≡ suc (to - (i + 1)) = omega arith in rw (z, add-one i)

run_none : (kind : ℕ) (text : List ℕ) (to i : ℕ) → to ≤ i → left kind text to i ≡ []
unfolding run_text
run_none kind text to i h = let z : to - i ≡ 0 = omega arith in rw z

-- the line that is written
module _ (c : After-line_at) where
  abbrev text : List ℕ
  text = c.args.text.now

  abbrev i : ℕ
  i = c.loop-i.i

  less : i < c.args.to
  less = omega arith

  inside : i < c.args.n
  inside = omega (arith, less, c.requires.2)

  line_is : c.line_at.result.now ≡ line_in text i
  line_is = c.line_at.ensures

  size : length (left c.args.kind text c.args.to i) ≡ 7 + length c.line_at.result.now + length
      (left c.args.kind text c.args.to (i + 1))
  size = omega (
    arith,
    ap length (run_turn c.args.kind text c.args.to i less),
    length-append (line_of (c.args.kind ∷ (pair i ++ get_or (frames_of text) i [])))
        (left c.args.kind text c.args.to (i + 1)),
    line_of_run text c.args.starts.now c.args.n c.requires.0 c.args.kind i inside,
    ap length line_is,
  )

  frame_is : unhex c.line_at.result.now ≡ get_or (frames_of text) i []
  frame_is = ap unhex line_is ∙ sym (frame_at text i)

pub put_one-a-requires : goal.put_one-a-requires
put_one-a-requires c = let g = (goal.at.put_one-a-requires c).After-line_at in (
  rw (line_is g) (c.requires.0.written (i g) (inside g)),
  omega (arith, inside g, c.requires.0.few),
  omega (arith, size g, c.loop-i.invariant.0, c.loop-i.invariant.1, c.requires.3),
)

pub loop-i-preserved : goal.loop-i-preserved
loop-i-preserved c =
    let g = (goal.at.loop-i-preserved c).After-line_at in
    let w = c.put_one-a in
    let t = c.loop-i in
    let kind = c.args.kind in
    let x = line_of (kind ∷ (pair t.i ++ unhex c.line_at.result.now)) in
    let rest = left kind (text g) c.args.to (t.i + 1) in
    let good : Written c.line_at.result.now = rw (line_is g) (c.requires.0.written t.i (inside g)) in
    let n = one_size kind t.i c.line_at.result.now good in
    let whole : x ++ rest ≡ left kind (text g) c.args.to t.i =
    ap (λ (f : Frame). line_of (kind ∷ (pair t.i ++ f)) ++ rest) (frame_is g) ∙ sym
    (run_turn kind (text g) c.args.to t.i (less g)) in (
      w.auto.out ∙ t.invariant.0,
      omega (arith, w.ensures.1, size g, t.invariant.1),
      ap (λ (o : List ℕ). laid o w.result rest) w.ensures.0
          ∙ laid_more t.out x rest t.a w.result (omega (arith, w.ensures.1, n))
          (omega (arith, w.ensures.1, size g, t.invariant.0, t.invariant.1, c.requires.3))
          ∙ ap (laid t.out t.a) whole ∙ t.invariant.2,
    )

pub returns : goal.returns
returns c =
    let t = c.loop-i in
    let z = run_none c.args.kind c.args.text.now c.args.to t.i (omega arith) in (
      sym (laid_nothing t.out t.a) ∙ ap (laid t.out t.a) (sym z) ∙ t.invariant.2,
      omega (arith, ap length z, t.invariant.1),
    )
