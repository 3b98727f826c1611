use Prim.Native.Nat.{◌+◌, ◌*◌}
use lib.ListN.{length}
use Rattle.sums.proofs.+atom_more_operand_product_sum_tier.Given as goal

abbrev pub decreases-atom : goal.decreases-atom
decreases-atom l = 16 * length l.s.now + 1

abbrev pub decreases-more : goal.decreases-more
decreases-more l = 16 * length l.s.now

abbrev pub decreases-operand : goal.decreases-operand
decreases-operand l = 16 * length l.s.now + 2

abbrev pub decreases-product : goal.decreases-product
decreases-product l = 16 * length l.s.now + 3

abbrev pub decreases-sum : goal.decreases-sum
decreases-sum l = 16 * length l.s.now + 4

abbrev pub decreases-tier : goal.decreases-tier
decreases-tier l = 16 * length l.s.now + 5 + l.level
