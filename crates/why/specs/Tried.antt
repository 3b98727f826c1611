-- An attempt, as the code answers it.
use Rattle.std.specs.Prelude.{List, [], ℕ, ◌/◌, ◌%◌, Option as AnOption, None, Some}
use Rattle.std.proofs.Math.Option.{Option, none, some}
use Rattle.laws.specs.Options.{bind}
use Rattle.rules.specs.Names.{Entry}
use Rattle.rules.specs.Programs.{Placeℕ, Program, at}
use Rattle.rules.specs.Rewriting.{branch, Pattern}
use Rattle.patterns.specs.Shapes.{shape_at}
use Rattle.staying.specs.declared.Reason.{Reason}
use Rattle.staying.specs.Reasons.{fold_reason, shrink_reason, attempt_at, Why}
use Rattle.staying.specs.Lines.{why_line}

abbrev pub attempted_as : Option Reason → AnOption Reason
attempted_as none = None
attempted_as (some r) = Some r

-- a fold, and form f for one that is `long`
abbrev pub fold_at : Program → Pattern → (i : Placeℕ) → Option Reason
fold_at p x i = bind (shape_at p x i) (λ s. some (fold_reason p i s))

abbrev pub shrink_at : (names : List Entry) → Program → (f long : ℕ) (i : Placeℕ) → Option Reason
shrink_at names p f long i = bind (branch long (at p i)) (λ x. some (shrink_reason names p i f x))

-- how many lines an attempt has, and which, of try m
abbrev pub tried_count : AnOption Reason → ℕ
tried_count (Some r) = 1
tried_count None = 0

abbrev pub why_at : (m : ℕ) → Reason → Why
why_at m r = record { attempt = attempt_at (m % 26); place = m / 26; reason = r }

abbrev pub tried_lines : (m : ℕ) → AnOption Reason → List ℕ
tried_lines m (Some r) = why_line (why_at m r)
tried_lines m None = []
