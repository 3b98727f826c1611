-- `entry` meets its contract: its two bytes, or that one is missing. Assumes nothing.
use mathlib.Core.Path.{sym}
use Prim.Native.Nat.{◌+◌, ◌*◌}
use native.Mathlib.Omega.{arith}
use Rattle.pairing.proofs.EntryList.{entries_count, entry_whole, entry_cut}
use Rattle.pairing.proofs.entries.entry.Goals as goal

pub overflow_mul-k : goal.overflow_mul-k
overflow_mul-k c = omega (arith, c.requires, entries_count c.args.pairing.now)

pub overflow_add-k : goal.overflow_add-k
overflow_add-k c = omega (arith, c.requires, entries_count c.args.pairing.now)

pub returns-then-k-pairing : goal.returns-then-k-pairing
returns-then-k-pairing c =
    let e = entry_whole c.args.pairing.now c.args.k c.if-k-pairing.true in
    let x = c.type_inv.pairing (2 * c.args.k) in
    let y = c.type_inv.pairing (2 * c.args.k + 1) in
    (omega (arith, e, c.from_be_bytes.ensures, c.from.ensures), omega (arith, x, y, c.from_be_bytes.ensures, c.from.ensures))

pub returns-else-k-pairing : goal.returns-else-k-pairing
returns-else-k-pairing c =
    (sym (entry_cut c.args.pairing.now c.args.k c.requires c.if-k-pairing.false), omega arith)
