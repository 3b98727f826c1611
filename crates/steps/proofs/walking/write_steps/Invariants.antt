-- `steps::walking::write_steps` meets its contract. The loop's invariant: the rewrites that were done are told, and the rest are those of the program
use mathlib.Core.Path.{◌≡◌}
use lib.ListN.{take}
use Rattle.laws.specs.Lists.{total}
use Rattle.rules.specs.Rewriting.{instr_bytes}
use Rattle.slots.specs.Slots.{program_of}
use Rattle.slots.specs.State.{starts_in, table_of}
use Rattle.attempts.specs.Standing.{Standing}
use Rattle.digits.specs.Digits.{laid}
use Rattle.steps.specs.Steps.{step_lines}
use Rattle.steps.proofs.Walks.{all, Walked}
use Rattle.steps.proofs.walking.write_steps.Given as goal

abbrev pub invariant-loop-asked : goal.invariant-loop-asked
invariant-loop-asked l =
    let p₀ = program_of (table_of l.frames l.initial.state l.count) in
    let t = table_of l.frames l.state l.count in
    Standing t × Walked l.asked p₀ (program_of t) l.n × (l.out ≡ laid l.initial.out 0 (step_lines (take l.n (all l.asked p₀)))) × (starts_in l.state ≡ starts_in l.initial.state)

abbrev pub decreases-loop-asked : goal.decreases-loop-asked
decreases-loop-asked l = total instr_bytes (program_of (table_of l.frames l.state l.count))
