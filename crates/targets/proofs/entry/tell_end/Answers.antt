-- `targets::entry::tell_end` meets its contract: the lines fit the room, or it is refused.
use native.Mathlib.Omega.{arith}
use Rattle.rules.specs.Programs.{Program}
use Rattle.listing.specs.Tables.{input_of}
use Rattle.slots.specs.Slots.{Slots, program_of}
use Rattle.slots.specs.State.{starts_in, table_of}
use Rattle.env.proofs.Programs.{length_program}
use Rattle.targets.proofs.Reading.{length_input}
use Rattle.targets.proofs.Answered.{lines_fit, fits_short, fits_whole}
use Rattle.targets.proofs.entry.tell_end.Goals as goal

abbrev here : (s : goal.Then-out-n) → Slots
here s = table_of s.args.frames.now s.args.state.now s.args.count

abbrev here_2 : (s : goal.After-write_end-arg-1) → Slots
here_2 s = table_of s.args.frames.now s.args.state.now s.args.count

abbrev here_3 : (s : goal.After-slice_known-2-1) → Slots
here_3 s = table_of s.args.frames.now s.args.state.now s.args.count

abbrev read : (s : goal.Then-out-n) → Program
read s = input_of s.args.frames.now (starts_in s.args.state.now) s.args.count

abbrev read_2 : (s : goal.After-write_end-arg-1) → Program
read_2 s = input_of s.args.frames.now (starts_in s.args.state.now) s.args.count

abbrev read_3 : (s : goal.After-slice_known-2-1) → Program
read_3 s = input_of s.args.frames.now (starts_in s.args.state.now) s.args.count

pub returns-then-out-n : goal.returns-then-out-n
returns-then-out-n c =
    fits_short (read c) (program_of (here c)) c.args.count c.count_transfers-n.result c.args.out.now
    (length_input c.args.frames.now (starts_in c.args.state.now) c.args.count)
    (length_program (here c)) (c.count_transfers-n.ensures.0 (read c)) (omega (arith, c.if-out-n.true))

pub write_end-marked-requires : goal.write_end-marked-requires
write_end-marked-requires c = (
  c.requires.0,
  c.requires.1,
  c.requires.2,
  c.requires.3,
  lines_fit (read_2 c) (program_of (here_2 c)) c.args.count c.count_transfers-n.result c.args.out.now
      (length_input c.args.frames.now (starts_in c.args.state.now) c.args.count)
      (length_program (here_2 c)) (c.count_transfers-n.ensures.0 (read_2 c)) (omega (arith, c.if-out-n.false)),
)

pub returns : goal.returns
returns c =
    fits_whole (read_3 c) (program_of (here_3 c)) c.args.count c.count_transfers-n.result c.args.out.now
    (length_input c.args.frames.now (starts_in c.args.state.now) c.args.count)
    (length_program (here_3 c)) (c.count_transfers-n.ensures.0 (read_3 c)) _ _ (omega (arith, c.if-out-n.false))
    c.write_end-marked.ensures.0 c.write_end-marked.ensures.1
