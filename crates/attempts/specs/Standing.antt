-- A program under rewriting, and what a tried rewrite leaves of it: "one edit in place, undone if refused".
use Rattle.std.specs.Prelude.{◌≡◌, Bool, false, length}
use Rattle.std.proofs.Math.Option.{Option}
use Rattle.laws.specs.Options.{is_some, option_or}
use Rattle.rules.specs.Programs.{Program}
use Rattle.slots.specs.Slots.{Slots, program_of, Sound}
use Rattle.slots.specs.Links.{Together}
use Rattle.asm.specs.Assembling.{InPlace, Once}

-- the tables hold a program whose contexts are those of the listing as it was read, whose targets stay in them, and which defines no name twice
pub record Standing (t : Slots) : Type 0 where
  pub sound : Sound t
  pub forms_full : length t.forms ≡ 1025
  pub carry_full : length t.carry ≡ 1025
  pub context : InPlace t
  pub together : Together t
  pub named : Once t

-- x is the program that a rewrite of t makes, if it counts: then the tables `after` hold it, and else they are what they were
pub record Tried (x : Option Program) (before after : Slots) (r : Bool) : Type 0 where
  pub says : r ≡ is_some x
  pub leaves : program_of after ≡ option_or x (program_of before)
  pub kept : r ≡ false → after ≡ before
  pub starts_kept : after.starts ≡ before.starts
  pub stands : Standing after
