-- `mapping::entry::rewrite_and_tell` meets its contract: anchoring moves nothing.
use mathlib.Core.Path.{sym, ap, subst}
use mathlib.Core.List.{List}
use Prim.Native.Nat.{ℕ}
use Rattle.rules.specs.Programs.{Program}
use Rattle.listing.specs.Tables.{input_of}
use Rattle.slots.specs.Slots.{Slots}
use Rattle.slots.specs.State.{starts_in, table_of}
use Rattle.slots.specs.Links.{Beside}
use Rattle.mapping.proofs.Ends.{end_is, anchored_addresses, addressed_as}
use Rattle.mapping.proofs.Answered.{fits_as}
use Rattle.mapping.proofs.entry.rewrite_and_tell.Goals as goal

abbrev here : (s : goal.After-slice_known-2-1) → Slots
here s = table_of s.args.frames.now s.args.state.now s.args.count

abbrev read : (s : goal.After-tell_rows-arg-1) (starts : List ℕ) → Program
read s starts = input_of s.args.frames.now starts s.args.count

abbrev read_2 : (s : goal.After-slice_known-2-1) (starts : List ℕ) → Program
read_2 s starts = input_of s.args.frames.now starts s.args.count

pub tell_rows-requires : goal.tell_rows-requires
tell_rows-requires c =
    let e = c.optimize.ensures in (
      e.stands,
      e.good,
      subst (λ (z : List ℕ). Beside c.args.frames.now z c.args.count c.args.links.now) (sym e.starts_kept) c.requires.starts.beside,
      addressed_as _ _ (ap (read c) (sym e.starts_kept)) (anchored_addresses (read c (starts_in c.args.state.now)) _
          c.requires.starts.anchored c.find_positions.ensures),
    )

pub returns : goal.returns
returns c =
    let p = read_2 c (starts_in c.args.state.now) in
    let e = c.optimize.ensures in
    fits_as _ p _ _ _ _ _ (ap (read_2 c) e.starts_kept) (end_is c.args.asked (here c) _ p _ c.requires.starts.anchored e)
    c.tell_rows.ensures
