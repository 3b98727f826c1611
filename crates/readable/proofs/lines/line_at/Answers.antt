-- `readable::lines::line_at` meets its contract: the frame holds a statement, and a room of 1,024 bytes is never short.
use mathlib.Core.Path.{sym, subst}
use mathlib.Core.List.{List}
use Prim.Native.Nat.{ℕ}
use Rattle.wording.specs.Writing.{Framed, Lined}
use Rattle.readable.proofs.Turns.{framed, stands}
use Rattle.readable.proofs.lines.line_at.Goals as goal

pub line-requires : goal.line-requires
line-requires c =
    let a = c.args in (
      c.requires.2,
      subst (λ (t : List ℕ). Framed t) (sym c.frame_in-frame.ensures)
          (framed a.frames.now a.starts.now a.count c.requires.0 (λ i. (c.type_inv.frames i).fits) a.i c.requires.1),
    )

pub returns : goal.returns
returns c =
    let a = c.args in
    let room : List ℕ = c.line.new.out in
    stands a.frames.now a.starts.now a.count c.requires.0 (λ i. (c.type_inv.frames i).fits) a.i c.requires.1 a.room.now room c.line.result
    (subst (λ (t : List ℕ). Lined t a.room.now room c.line.result) c.frame_in-frame.ensures c.line.ensures)
