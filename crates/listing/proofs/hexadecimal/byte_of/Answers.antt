-- `byte_of` meets its contract: the byte of a pair of digits. Assumes nothing.
use Prim.Native.Nat.{◌+◌, ◌*◌}
use native.Mathlib.Omega.{arith}
use Rattle.laws.proofs.Lists.{every_at}
use Rattle.rules.specs.Listing.{is_digit}
use Rattle.listing.proofs.DigitPairs.{unhex_at}
use Rattle.listing.proofs.hexadecimal.byte_of.Goals as goal

pub digit-high-requires : goal.digit-high-requires
digit-high-requires c = every_at is_digit c.args.line.now (2 * c.args.k) 0 (omega (arith, c.requires.1)) c.requires.0

pub digit-low-requires : goal.digit-low-requires
digit-low-requires c = every_at is_digit c.args.line.now (2 * c.args.k + 1) 0 c.requires.1 c.requires.0

pub returns : goal.returns
returns c =
    rw (unhex_at c.args.line.now c.args.k c.requires.1, c.digit-high.ensures.0, c.digit-low.ensures.0)
