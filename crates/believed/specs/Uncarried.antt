-- `carried`, the place of the statement that wrote a transfer's target, is there for demand 3 to speak of. No answer depends on it.
use Rattle.std.specs.Prelude.{◌≡◌, map}
use Rattle.rules.specs.declared.Settings.{Settings}
use Rattle.rules.specs.Programs.{Placeℕ, Stmt, instr, Program, on_instr}
use Rattle.rules.specs.Listing.{Beside}
use Rattle.rules.specs.Judging.{judge}
use Rattle.rules.specs.Run.{output_of}

-- a program with other places in that field, whatever they are
abbrev pub recarry : (Placeℕ → Placeℕ) → Stmt → Stmt
recarry c s = on_instr s (λ x. instr x.form x.args (c x.carried)) s

unfoldable pub recarried : (Placeℕ → Placeℕ) → Program → Program
recarried c p = map (recarry c) p

-- it has the same image or refusal, and the same output: listing, stems, count and image
pub record Uncarried (asked : Settings) (p : Program) (c : Placeℕ → Placeℕ) : Type 0 where
  pub judged : judge (recarried c p) ≡ judge p
  pub handed_out : (b : Beside) → output_of asked b (recarried c p) ≡ output_of asked b p
