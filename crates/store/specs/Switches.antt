-- Document 02, C-24: "Each tray family wants its own switches: comments, whether Callf shrinks, whether folds run." In the store they are a
-- byte: 1 keeps comments, 2 lets Callf shrink, 4 lets folds run.
use Rattle.std.specs.Prelude.{Bool, cond, ℕ, ◌+◌, ◌/◌, ◌%◌, eqb}
use Rattle.rules.specs.declared.Settings.{Settings}

abbrev pub switch : Bool → (worth : ℕ) → ℕ
switch b n = cond b n 0

abbrev pub switches_of : Settings → ℕ
switches_of s = switch s.comments 1 + switch s.callf 2 + switch s.folds 4

abbrev pub settings_of : ℕ → Settings
settings_of w = record { comments = eqb (w % 2) 1; callf = eqb (w / 2 % 2) 1; folds = eqb (w / 4 % 2) 1 }
