-- The reasons as lines: 75, what is tried (a form's number; 80 and up a pattern by its place in rule 3's order), the place in two bytes, the kind of
-- reason, and number, place, argument and amount as the 7E line of the candidate has them, zeros where it has none.
use Rattle.std.specs.Prelude.{List, ◌∷◌, ◌++◌, ℕ, ◌+◌, ◌%◌}
use Rattle.std.specs.Int.{w32}
use Rattle.std.proofs.Common.{of_z}
use Rattle.laws.specs.Lists.{each}
use Rattle.rules.specs.Refusals.{Fault, fault_of, of_none}
use Rattle.rules.specs.Expressions.{pair, four}
use Rattle.rules.specs.Output.{line_of}
use Rattle.staying.specs.declared.Reason.{Reason}
use Rattle.staying.specs.declared.Reason.TheVariants.{Counts, Change, Inside, Between, Beyond, Refused}
use Rattle.staying.specs.Reasons.{Attempt, fold, shrink, Why}

abbrev pub attempt_byte : Attempt → ℕ
attempt_byte (fold k) = 0x80 + k
attempt_byte (shrink f) = f

-- 0 is never met where no rewrite remains
abbrev pub reason_byte : Reason → ℕ
reason_byte Counts = 0
reason_byte Change = 1
reason_byte Inside = 2
reason_byte Between = 3
reason_byte Beyond = 4
reason_byte (Refused r) = 5

abbrev pub fault_in : Reason → Fault
fault_in Counts = of_none 0
fault_in Change = of_none 0
fault_in Inside = of_none 0
fault_in Between = of_none 0
fault_in Beyond = of_none 0
fault_in (Refused r) = fault_of r

-- two bytes and one hold the place and the argument's place of every refusal of a run
abbrev pub fault_bytes : Fault → List ℕ
fault_bytes f = f.number ∷ (pair (f.place % 65536) ++ (f.argument % 256 ∷ four (of_z w32 f.amount)))

unfoldable pub why_line : Why → List ℕ
why_line w = line_of (0x75 ∷ attempt_byte w.attempt ∷ (pair w.place ++ (reason_byte w.reason ∷ fault_bytes (fault_in w.reason))))

unfoldable pub why_lines : List Why → List ℕ
why_lines ws = each why_line ws
