-- The loop of `labels::is_seen` asks the places below `limit`, from the last down: whether one below `limit` has the name is whether one
-- below i does.
use Rattle.std.proofs.Common.{◌≡◌, ◌≤◌}
use Rattle.expression.proofs.Keys.{seen}
use Rattle.expression.proofs.labels.is_seen.Given as goal

abbrev pub invariant-loop-i : goal.invariant-loop-i
invariant-loop-i l = (l.i ≤ 1024) × (seen l.names l.contexts l.context l.name l.limit ≡ seen l.names l.contexts l.context l.name l.i)
