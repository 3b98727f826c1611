-- What is shown of the reasons: "at the end form every candidate has such a reason, so the list is complete".
use Rattle.std.specs.Prelude.{◌≡◌, List, ◌∷◌, ◌++◌, Bool, true, false, ◌&&◌, ℕ, ◌<◌, length}
use Rattle.std.proofs.Math.Option.{none, some}
use Rattle.laws.specs.Options.{given, bind}
use Rattle.laws.specs.Lists.{every}
use Rattle.rules.specs.declared.Settings.{Settings}
use Rattle.rules.specs.Forms.{jmp, jmpf, br, call, callf}
use Rattle.rules.specs.Programs.{Placeℕ, Program, at, Instruction, as_instr}
use Rattle.rules.specs.Judging.{names_of}
use Rattle.rules.specs.Rewriting.{Pattern, pattern_at, no_inner_label_between, no_interior_label_at, candidate, step}
use Rattle.staying.specs.declared.Reason.{Reason}
use Rattle.staying.specs.declared.Reason.TheVariants.{Counts, Change, Inside, Between, Beyond, Refused}
use Rattle.patterns.specs.Shapes.{Shape, shape_at}
use Rattle.staying.specs.Reasons.{fold_reason, shrink_reason, Attempt, fold, shrink, pattern, Why, whys}

-- something stands in the way
abbrev pub is_reason : Reason → Bool
is_reason Counts = false
is_reason Change = true
is_reason Inside = true
is_reason Between = true
is_reason Beyond = true
is_reason (Refused r) = true

-- no line says that an attempt counts
unfoldable pub all_stay : Settings → Program → Bool
all_stay asked p = every (λ w. is_reason w.reason) (whys asked p)

-- no rewrite remains exactly where each line has a reason: whatever the next rewrite could be, a line tells of it
pub record Complete (asked : Settings) (p : Program) : Type 0 where
  pub reasoned : step asked p ≡ none → all_stay asked p ≡ true
  pub nothing_else : all_stay asked p ≡ true → step asked p ≡ none
  -- a shape is rule 3's pattern, but for what is asked of inner labels and of the candidate
  pub begins : (x : Pattern) (i : Placeℕ)
      → pattern_at p x i ≡ bind (shape_at p x i) (λ s. given (no_inner_label_between p i s.last && no_interior_label_at p i) (candidate s.folded))

-- ---- and each has its line
abbrev pub Stands : Attempt → (i : Placeℕ) → Reason → List Why → Type 0
Stands a i r ws = (before : List Why) × (behind : List Why) × (ws ≡ before ++ (record { attempt = a; place = i; reason = r } ∷ behind))

-- "for each Jmpf and Callf that is left, and each branch that begins a pattern and was not folded, one line (75) a form or pattern tried"
pub record Listed (asked : Settings) (p : Program) : Type 0 where
  pub jmpf_line : (i : Placeℕ) (x : Instruction) → i < length p → as_instr (at p i) ≡ some x → x.form ≡ jmpf
      → Stands (shrink br) i (shrink_reason (names_of p) p i br x) (whys asked p) × Stands (shrink jmp) i (shrink_reason (names_of p) p i jmp x) (whys asked p)
  pub callf_line : (i : Placeℕ) (x : Instruction) → i < length p → as_instr (at p i) ≡ some x → x.form ≡ callf → asked.callf ≡ true
      → Stands (shrink call) i (shrink_reason (names_of p) p i call x) (whys asked p)
  pub fold_line : (k : ℕ) (i : Placeℕ) (s : Shape) → k < 23 → i < length p → shape_at p (pattern k) i ≡ some s → asked.folds ≡ true
      → Stands (fold k) i (fold_reason p i s) (whys asked p)
