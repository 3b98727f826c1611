-- `readable::lines::write_lines` meets its contract: after i turns the lines before i stand there.
use mathlib.Core.Path.{refl, sym, ap, ◌∙◌}
use mathlib.Core.List.{List}
use Prim.Native.Nat.{ℕ, ◌+◌, ◌≤◌, ◌<◌}
use native.Mathlib.Omega.{arith}
use lib.ListN.{length}
use Rattle.listing.specs.Tables.{input_at, input_of}
use Rattle.digits.specs.Digits.{laid}
use Rattle.digits.proofs.Rooms.{laid_more, laid_nothing}
use Rattle.readable.specs.Readable.{line_of, text_of}
use Rattle.readable.proofs.Turns.{one_more, length_more, grows, none}
use Rattle.readable.proofs.lines.write_lines.Goals as goal

-- the line of this turn fits
fits : (frames starts : List ℕ) (i n : ℕ) → i < n
    → length (text_of (input_of frames starts i)) + length (line_of (input_at frames starts i)) ≤ length (text_of (input_of frames starts n))
fits frames starts i n h = omega (arith, length_more frames starts i, grows frames starts (i + 1) n (omega arith))

pub loop-i-init : goal.loop-i-init
loop-i-init c =
    let a = c.args in
    let e = none a.frames.now a.starts.now in
    (sym (ap (laid a.out.now 0) e ∙ laid_nothing a.out.now 0), sym (ap (λ t. length t) e), refl)

pub put_line-at-requires : goal.put_line-at-requires
put_line-at-requires c =
    let a = c.args in
    let f = fits a.frames.now a.starts.now c.loop-i.i a.count (omega arith) in
    (c.requires.0, omega arith, omega arith)

pub overflow_add-at : goal.overflow_add-at
overflow_add-at c =
    let a = c.args in
    let f = fits a.frames.now a.starts.now c.loop-i.i a.count (omega arith) in
    omega (arith, c.put_line-at.ensures.1)

pub loop-i-preserved : goal.loop-i-preserved
loop-i-preserved c =
    let a = c.args in
    let i = c.loop-i.i in
    let at : ℕ = c.loop-i.at in
    let x = line_of (input_at a.frames.now a.starts.now i) in
    let e = c.put_line-at.ensures in
    let f = fits a.frames.now a.starts.now i a.count (omega arith) in (
      e.0 ∙ ap (λ (o : List ℕ). laid o at x) c.loop-i.invariant.0
          ∙ laid_more a.out.now (text_of (input_of a.frames.now a.starts.now i)) x 0 at (omega arith) (omega arith)
          ∙ ap (laid a.out.now 0) (sym (one_more a.frames.now a.starts.now i)),
      omega (arith, e.1, length_more a.frames.now a.starts.now i),
      c.put_line-at.auto.out ∙ c.loop-i.invariant.2,
    )
