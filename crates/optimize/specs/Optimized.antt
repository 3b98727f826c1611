-- What rewriting until no rewrite remains leaves: the end of the chain, and how many rewrites led to it.
use Rattle.std.specs.Prelude.{◌≡◌, true, ℕ, ◌≤◌}
use Rattle.laws.specs.Lists.{total}
use Rattle.rules.specs.declared.Settings.{Settings}
use Rattle.rules.specs.Judging.{assembles}
use Rattle.rules.specs.Rewriting.{chain, instr_bytes}
use Rattle.slots.specs.Slots.{Slots, program_of}
use Rattle.attempts.specs.Standing.{Standing}

pub record Optimized (asked : Settings) (before after : Slots) (r : ℕ) : Type 0 where
  pub chain_is : (fuel : ℕ) → total instr_bytes (program_of before) ≤ fuel → chain asked fuel (program_of before) ≡ record { program = program_of after; count = r }
  pub stands : Standing after
  pub starts_kept : after.starts ≡ before.starts
  pub good : assembles (program_of after) ≡ true
  pub few : r ≤ total instr_bytes (program_of before)
  -- at most three bytes an instruction, and at most 1,024 of them
  pub bounded : r ≤ 3072
