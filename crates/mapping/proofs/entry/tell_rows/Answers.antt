-- `mapping::entry::tell_rows` meets its contract: the lines fit the room, or it is refused.
use native.Mathlib.Omega.{arith}
use Rattle.rules.specs.Programs.{Program}
use Rattle.listing.specs.Tables.{input_of}
use Rattle.slots.specs.Slots.{program_of}
use Rattle.slots.specs.State.{starts_in, table_of}
use Rattle.mapping.proofs.Holding.{length_input}
use Rattle.mapping.proofs.Answered.{lines_fit, fits_short, fits_whole}
use Rattle.mapping.proofs.entry.tell_rows.Goals as goal

abbrev read : (s : goal.Then-out-n) → Program
read s = input_of s.args.frames.now (starts_in s.args.state.now) s.args.count

abbrev read_2 : (s : goal.After-write_rows-arg-1) → Program
read_2 s = input_of s.args.frames.now (starts_in s.args.state.now) s.args.count

abbrev read_3 : (s : goal.After-slice_known-2-1) → Program
read_3 s = input_of s.args.frames.now (starts_in s.args.state.now) s.args.count

abbrev end : (s : goal.Then-out-n) → Program
end s = program_of (table_of s.args.frames.now s.args.state.now s.args.count)

abbrev end_2 : (s : goal.After-write_rows-arg-1) → Program
end_2 s = program_of (table_of s.args.frames.now s.args.state.now s.args.count)

abbrev end_3 : (s : goal.After-slice_known-2-1) → Program
end_3 s = program_of (table_of s.args.frames.now s.args.state.now s.args.count)

pub returns-then-out-n : goal.returns-then-out-n
returns-then-out-n c =
    fits_short (read c) (end c) c.args.count c.count_rows-n.result c.args.out.now
    (length_input c.args.frames.now (starts_in c.args.state.now) c.args.count)
    (c.count_rows-n.ensures.0 (end c)) (omega (arith, c.if-out-n.true))

pub write_rows-requires : goal.write_rows-requires
write_rows-requires c = (
  c.requires.0.sound.held,
  c.find_positions.ensures,
  c.requires.3,
  lines_fit (read_2 c) (end_2 c) c.args.count c.count_rows-n.result c.args.out.now
      (length_input c.args.frames.now (starts_in c.args.state.now) c.args.count)
      (c.count_rows-n.ensures.0 (end_2 c)) (omega (arith, c.if-out-n.false)),
)

pub returns : goal.returns
returns c =
    fits_whole (read_3 c) (end_3 c) c.args.count c.count_rows-n.result c.args.out.now
    (length_input c.args.frames.now (starts_in c.args.state.now) c.args.count)
    (c.count_rows-n.ensures.0 (end_3 c)) _ (omega (arith, c.if-out-n.false)) c.write_rows.ensures
