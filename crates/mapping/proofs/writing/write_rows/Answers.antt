-- `mapping::writing::write_rows` meets its contract. The loop's invariant: the room is filled with the lines of the first i places.
use mathlib.Core.Path.{◌≡◌, sym, ap, ◌∙◌}
use mathlib.Core.List.{List}
use Prim.Native.Nat.{ℕ, ◌*◌}
use native.Mathlib.Omega.{arith}
use lib.ListN.{length}
use Rattle.rules.specs.Programs.{Program, at}
use Rattle.rules.specs.Output.{line_of}
use Rattle.listing.specs.Tables.{input_of}
use Rattle.slots.specs.Slots.{program_of}
use Rattle.slots.specs.State.{starts_in, table_of}
use Rattle.digits.specs.Digits.{laid}
use Rattle.mapping.specs.Rows.{has_row}
use Rattle.mapping.proofs.Listed.{written_start, written_other, written_length, written_room, written_one}
use Rattle.mapping.proofs.Holding.{row_asked}
use Rattle.mapping.proofs.writing.write_rows.Goals as goal
use Rattle.mapping.proofs.writing.write_rows.Goals.{After-has_row, then-has_row, else-has_row}

module _ (s : After-has_row) where
  abbrev read : Program
  read = input_of s.args.frames.now (starts_in s.args.state.now) s.args.count

  abbrev end : Program
  end = program_of (table_of s.args.frames.now s.args.state.now s.args.count)

  -- what was asked is whether the place has a row
  asked : s.has_row.result ≡ has_row (at read s.loop-i.i)
  asked = row_asked s.args.frames.now s.args.state.now s.args.count s.loop-i.i s.loop-i-test.true _ s.has_row.ensures

pub loop-i-init : goal.loop-i-init
loop-i-init c = written_start _ _ _

pub put_line-requires : goal.put_line-requires
put_line-requires c =
    let s = (goal.at.put_line-requires c).After-has_row in
    let l = c.loop-i in
    let inside = c.loop-i-test.true in
    omega (
      arith,
      written_length (read s) (end s) c.args.out.now l.i l.n l.out l.invariant c.args.count (omega arith) c.requires.3,
      written_room (read s) (end s) c.args.out.now l.i l.n l.out l.invariant c.args.count (omega arith) c.requires.3 inside
          (sym (asked s) ∙ c.if-has_row.true),
      ap length c.row_at-row.ensures,
    )

pub loop-i-preserved : goal.loop-i-preserved
loop-i-preserved c =
    let s = (goal.at.loop-i-preserved c).After-has_row in
    let l = c.loop-i in
    let inside = c.loop-i-test.true in
    elim c.if-has_row.branch [
      | then-has_row w ↦ rw (w.n-is, w.out-is)
          (written_one (read s) (end s) c.args.out.now l.i l.n l.out l.invariant c.args.count (omega arith) c.requires.3 inside
          (sym (asked s) ∙ w.if-has_row.true) _
          (w.put_line.ensures ∙ ap (λ (r : List ℕ). laid l.out (37 * l.n) (line_of r)) w.row_at-row.ensures))
      | else-has_row w ↦ rw (w.n-is, w.out-is)
          (written_other (read s) (end s) c.args.out.now l.i l.n l.out l.invariant (sym (asked s) ∙ w.if-has_row.false))
    ]
