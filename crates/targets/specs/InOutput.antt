-- What is shown of a line that is not marked: the output names the byte that the input named, for labels too.
use Rattle.std.specs.Prelude.{◌≡◌, List, true, ℕ, ◌<◌, length, get_or}
use Rattle.std.proofs.Math.Option.{some}
use Rattle.rules.specs.declared.Settings.{Settings}
use Rattle.rules.specs.Answers.{ok}
use Rattle.rules.specs.Forms.{is_transfer}
use Rattle.rules.specs.Programs.{Placeℕ, Operand, instr, Program, at}
use Rattle.rules.specs.Run.{rewritten}
use Rattle.promises.specs.Demand2.{output_program}
use Rattle.starting.specs.Begun.{accepted}
use Rattle.targets.specs.Targets.{aim_at, Target, is_same}

pub record NamedInOutput (asked : Settings) (p : Program) (t : Target) : Type 0 where
  -- the target named this byte in the input
  pub stmt : Placeℕ
  pub offset : ℕ
  pub before : (aim_at p t.carried).byte ≡ some (record { place = stmt; offset = offset })
  -- the statement of the output that stems from the line's place is a transfer, and carries that target
  pub place : Placeℕ
  pub stems : get_or (rewritten asked p).stems place 0 ≡ t.place
  pub form : ℕ
  pub args : List Operand
  pub stands : at (output_program asked p) place ≡ instr form args t.carried
  pub transfers : is_transfer form ≡ true
  -- what it names there, by a number or by labels, is the same offset of the statement that stems from that one
  pub owner : Placeℕ
  pub after : (aim_at (output_program asked p) place).byte ≡ some (record { place = owner; offset = offset })
  pub listed : owner < length (rewritten asked p).stems
  pub stems_from_is : get_or (rewritten asked p).stems owner 0 ≡ stmt

-- of the lines that are told, whatever room was lent
pub record UnmarkedKept (asked : Settings) (text : List ℕ) (ts : List Target) : Type 0 where
  pub program : Program
  pub reads : accepted text ≡ ok program
  pub named : (k : ℕ) (d : Target) → k < length ts → is_same (get_or ts k d) ≡ true → NamedInOutput asked program (get_or ts k d)
