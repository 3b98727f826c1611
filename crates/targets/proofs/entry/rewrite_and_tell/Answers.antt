-- `targets::entry::rewrite_and_tell` meets its contract.
use mathlib.Core.Path.{ap}
use mathlib.Core.List.{List}
use Prim.Native.Nat.{ℕ}
use borrow.Author.Rules.{rules}
use Rattle.rules.specs.Programs.{Program}
use Rattle.promises.proofs.Passes.{image_assembles}
use Rattle.listing.specs.Tables.{input_of}
use Rattle.slots.specs.Slots.{Slots}
use Rattle.slots.specs.State.{starts_in, table_of}
use Rattle.targets.proofs.Reading.{end_is}
use Rattle.targets.proofs.Answered.{fits_as}
use Rattle.targets.proofs.entry.rewrite_and_tell.Goals as goal

abbrev here : (s : goal.After-slice_known-2-1) → Slots
here s = table_of s.args.frames.now s.args.state.now s.args.count

abbrev read : (s : goal.After-before-1) (starts : List ℕ) → Program
read s starts = input_of s.args.frames.now starts s.args.count

abbrev read_2 : (s : goal.After-slice_known-2-1) (starts : List ℕ) → Program
read_2 s starts = input_of s.args.frames.now starts s.args.count

pub find_aims_read-requires : goal.find_aims_read-requires
find_aims_read-requires c =
    let h = c.requires in (
      h.starts.stands.sound.held,
      image_assembles (read c (starts_in c.args.state.now)) h.input.image h.input.assembles,
      h.starts.beside,
      search rules,
    )

pub returns : goal.returns
returns c =
    let p = read_2 c (starts_in c.args.state.now) in
    let e = c.optimize.ensures in
    fits_as _ p _ _ _ _ _ (ap (read_2 c) e.starts_kept) (end_is c.args.asked (here c) _ p _ c.requires.starts.anchored e) c.tell_end.ensures
