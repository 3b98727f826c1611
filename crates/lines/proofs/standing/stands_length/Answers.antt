-- `standing::stands_length` meets its contract: a good line has its own length, any other its comment's. Assumes nothing.
use mathlib.Core.Path.{◌≡◌}
use mathlib.Core.Bool.{true}
use mathlib.Core.List.{List}
use Prim.Native.Nat.{ℕ, ◌+◌, ◌*◌, ◌≤◌}
use native.Mathlib.Omega.{arith}
use lib.ListN.{length, take, length-take}
use Rattle.rules.specs.Listing.{Line, ListingForm, line_bytes}
use Rattle.listing.specs.Form.{form_of}
use Rattle.listing.specs.Lines.{first_line}
use Rattle.lines.specs.Alone.{standing}
use Rattle.lines.proofs.Feeds.{ended_length}
use Rattle.lines.proofs.Comments.{good_length, bad_length}
use Rattle.lines.proofs.standing.stands_length.Goals as goal

-- a good line
module _ (c : goal.Then-number-eq0) where
  abbrev line : Line
  line = first_line c.args.line.now

  good_is : (length (standing (form_of c.args.marked) line) ≡ length line.chars) × (length line.chars ≤ 248) × (line.ended ≡ true)
  good_is = good_length (form_of c.args.marked) line c.args.number c.requires.1 c.if-number-eq0.true

  good : length c.args.line.now ≡ length line.chars + 1
  good = ended_length c.args.line.now c.requires.0 good_is.2

-- any other
module _ (c : goal.After-kept) where
  abbrev chars : List ℕ
  chars = (first_line c.args.line.now).chars

  abbrev w : ListingForm
  w = form_of c.args.marked

  bad : (c.line_bytes.result + c.kept.result ≡ line_bytes w + length (take 119 chars))
      × (c.line_bytes.result + c.kept.result ≤ 123)
      × (length (standing w (first_line c.args.line.now)) ≡ 2 * (1 + line_bytes w + length (take 119 chars)))
  bad =
      let m = length-take 119 chars in
      let b = c.line_bytes.ensures in
      let k = c.kept.ensures in (
        omega arith,
        omega arith,
        bad_length w (first_line c.args.line.now) c.args.number c.requires.1 c.if-number-eq0.false,
      )

pub overflow_sub-result : goal.overflow_sub-result
overflow_sub-result c = omega (arith, good (c))

pub returns-then-number-eq0 : goal.returns-then-number-eq0
returns-then-number-eq0 c = (omega (arith, good c, (good_is c).0), omega (arith, good c, (good_is c).1))

pub overflow_mul-result : goal.overflow_mul-result
overflow_mul-result c = omega (arith, (bad c).0, (bad c).1)

pub returns-else-number-eq0 : goal.returns-else-number-eq0
returns-else-number-eq0 c = (omega (arith, (bad c).0, (bad c).2), omega (arith, (bad c).1))
