-- C-18: "By default, drop them from the output after all rewriting": a comment that is not asked for is a slot that is gone.
use Rattle.std.specs.Prelude.{◌≡◌, List, cond, ℕ, eqb}
use Rattle.rules.specs.declared.Settings.{Settings}
use Rattle.rules.specs.Output.{shown}
use Rattle.slots.specs.Slots.{Slots, slots, gone_form, program_of, Sound}

-- the form of a place where a statement of kind k stands, f being its form so far
unfoldable pub shown_form : Settings → (k f : ℕ) → ℕ
shown_form asked k f = cond asked.comments f (cond (eqb k 4) gone_form f)

-- the tables with other forms
abbrev pub formed : Slots → (forms : List ℕ) → Slots
formed t forms = slots t.frames t.starts t.count forms t.carry t.owners t.offsets

-- the tables hold what is shown of a program
pub record Shown (asked : Settings) (before after : Slots) : Type 0 where
  pub sound : Sound after
  pub program : program_of after ≡ shown asked (program_of before)
