-- `readable::entry::write_read` meets its contract: the room, then the text.
use mathlib.Core.Path.{ap, ◌∙◌}
use Prim.Native.Nat.{ℕ}
use native.Mathlib.Omega.{arith}
use lib.ListN.{length}
use Rattle.rules.specs.declared.Refusal.TheVariants.{Room}
use Rattle.rules.specs.Answers.{no}
use Rattle.rules.specs.Programs.{Program}
use Rattle.listing.specs.Tables.{input_of}
use Rattle.digits.proofs.Left.{refused, written}
use Rattle.readable.specs.Readable.{text_of, within}
use Rattle.readable.proofs.Judged.{no_room, all_fits}
use Rattle.readable.proofs.Turns.{length_input}
use Rattle.readable.proofs.entry.write_read.Goals as goal

abbrev input : (s : goal.Then-text-n) → Program
input s = input_of s.args.frames.now s.args.starts.now s.args.count

abbrev input_2 : (s : goal.After-slice_known-2-1) → Program
input_2 s = input_of s.args.frames.now s.args.starts.now s.args.count

pub returns-then-text-n : goal.returns-then-text-n
returns-then-text-n c =
    let room = length c.args.text.now in
    refused (within (input c) room) (Room c.args.count) c.args.text.now
    (no_room (input c) room (omega (arith, c.if-text-n.true, c.text_length-n.ensures))
    ∙ ap (λ (n : ℕ). no (Room n)) (length_input c.args.frames.now c.args.starts.now c.args.count))

pub returns : goal.returns
returns c =
    let room = length c.args.text.now in
    written (within (input_2 c) room) (text_of (input_2 c)) c.text_length-n.result c.args.text.now c.write_lines.new.out
    (all_fits (input_2 c) room (omega (arith, c.if-text-n.false, c.text_length-n.ensures))) c.text_length-n.ensures c.write_lines.ensures
