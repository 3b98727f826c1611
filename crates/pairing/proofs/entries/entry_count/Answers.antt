-- `entry_count` meets its contract: one entry for two bytes, and one for a byte that is left. Assumes nothing.
use native.Mathlib.Omega.{arith}
use Rattle.pairing.proofs.EntryList.{entries_count}
use Rattle.pairing.proofs.entries.entry_count.Goals as goal

pub returns : goal.returns
returns c = omega (arith, entries_count c.args.pairing.now)
