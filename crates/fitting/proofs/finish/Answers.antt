-- `fitting::finish` meets its contract: the room is judged before a byte is written.
use mathlib.Core.Path.{◌≡◌}
use native.Mathlib.Omega.{arith}
use lib.ListN.{length}
use Rattle.rules.specs.Answers.{ok}
use Rattle.image.specs.Tables.{Tables, tables_of}
use Rattle.image.specs.Encoding.{encode_slots}
use Rattle.image.specs.Image.{image_of}
use Rattle.fitting.proofs.Rooms.{is_there, leaves_short, leaves_whole}
use Rattle.slots.specs.State.{carry_in, owners_in, offsets_in}
use Rattle.fitting.proofs.finish.Goals as goal

abbrev here : (c : goal.Then-image-n) → Tables
here c =
    tables_of c.args.frames.now c.args.state.now c.args.count
    c.args.links.now c.args.values.now c.args.positions.now

abbrev here_2 : (c : goal.After-slice_known-2-1) → Tables
here_2 c =
    tables_of c.args.frames.now c.args.state.now c.args.count
    c.args.links.now c.args.values.now c.args.positions.now

there : (c : goal.Then-image-n) → encode_slots (here c) ≡ ok (image_of (here c))
unfolding image_of
there c = is_there (encode_slots (here c)) c.requires.1

there_2 : (c : goal.After-slice_known-2-1) → encode_slots (here_2 c) ≡ ok (image_of (here_2 c))
unfolding image_of
there_2 c = is_there (encode_slots (here_2 c)) c.requires.1

-- what was counted is the image's length
counted : (c : goal.Then-image-n) → c.image_length-n.result ≡ length (image_of (here c))
counted c =
    c.image_length-n.ensures (carry_in c.args.state.now) (owners_in c.args.state.now) (offsets_in c.args.state.now) c.args.links.now c.args.values.now c.requires.0 c.requires.1

-- what was counted is the image's length
counted_2 : (c : goal.After-slice_known-2-1) → c.image_length-n.result ≡ length (image_of (here_2 c))
counted_2 c =
    c.image_length-n.ensures (carry_in c.args.state.now) (owners_in c.args.state.now) (offsets_in c.args.state.now) c.args.links.now c.args.values.now c.requires.0 c.requires.1

pub returns-then-image-n : goal.returns-then-image-n
returns-then-image-n c =
    leaves_short (encode_slots (here c)) (image_of (here c)) (there c) c.args.count c.args.image.now (omega (arith, c.if-image-n.true, counted c))

pub returns : goal.returns
returns c =
    leaves_whole (encode_slots (here_2 c)) (image_of (here_2 c)) (there_2 c) c.args.count c.args.image.now c.image_length-n.result _
    (omega (arith, c.if-image-n.false, counted_2 c)) (counted_2 c) c.write_image.ensures
