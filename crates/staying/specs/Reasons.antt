-- "For each Jmpf and Callf that is left, and each branch that begins a pattern and was not folded, one line (75) a form or pattern tried: change jump,
-- inner label inside, inner label between, offset beyond a pad, or the refusal that the candidate gets".
use Rattle.std.specs.Prelude.{List, [], ◌∷◌, Bool, true, cond, ℕ, ◌*◌, ◌/◌, ◌%◌, ltb, eqb, length, set, get_or}
use Rattle.std.proofs.Math.Option.{Option, none, some}
use Rattle.laws.specs.Options.{given, bind}
use Rattle.laws.specs.Lists.{each}
use Rattle.laws.specs.Counts.{tab}
use Rattle.rules.specs.declared.Settings.{Settings}
use Rattle.rules.specs.Answers.{Judged, ok, no}
use Rattle.rules.specs.Forms.{jmp, jmpf, br, call, callf}
use Rattle.rules.specs.Programs.{Placeℕ, instr, Program, at, Instruction, as_instr}
use Rattle.rules.specs.Layout.{size_in}
use Rattle.rules.specs.Names.{Entry}
use Rattle.rules.specs.Judging.{names_of, judge}
use Rattle.rules.specs.Rewriting.{is_change_jump, every_inner_label, no_inner_label_between, no_interior_label_at, Pattern, trampoline, patterns}
use Rattle.patterns.specs.Shapes.{Shape, shape_at}
use Rattle.staying.specs.declared.Reason.{Reason}
use Rattle.staying.specs.declared.Reason.TheVariants.{Counts, Change, Inside, Between, Beyond, Refused}

-- ---- what stands in the way

-- rule 5: "A candidate counts only if every inner label's offset is below its owner's size and the whole assembles."
abbrev pub by_verdict : (fit : Bool) → Judged (List ℕ) → Reason
by_verdict fit (ok image) = cond fit Counts Beyond
by_verdict fit (no r) = Refused r

unfoldable pub reason_of : (candidate : Program) → Reason
reason_of q = by_verdict (every_inner_label (λ owner o. ltb o (size_in q owner)) q) (judge q)

-- rule 5: "A replaced instruction may have no inner label with offset 1 or more in the run right before it." And none stands between a pattern's statements
unfoldable pub fold_reason : Program → (i : Placeℕ) → Shape → Reason
fold_reason p i s = cond (no_inner_label_between p i s.last) (cond (no_interior_label_at p i) (reason_of s.folded) Inside) Between

-- form f in the place of x; `names` are those of p
unfoldable pub shrink_reason : (names : List Entry) → Program → (i : Placeℕ) (f : ℕ) → Instruction → Reason
shrink_reason names p i f x =
    cond (is_change_jump names p i) Change
    (cond (no_interior_label_at p i) (reason_of (set p i (instr f x.args x.carried))) Inside)

-- ---- what is tried: the 23 patterns in their order, then the shorter forms in theirs

pub data Attempt : Type 0 where
  fold : (k : ℕ) → Attempt
  shrink : (f : ℕ) → Attempt

abbrev pub pattern : (k : ℕ) → Pattern
pattern k = get_or patterns k (trampoline 0)

unfoldable pub attempt_at : (k : ℕ) → Attempt
attempt_at k = cond (ltb k 23) (fold k) (cond (eqb k 23) (shrink br) (cond (eqb k 24) (shrink jmp) (shrink call)))

-- C-24: "whether Callf shrinks", "whether folds run": a step that is switched off is not tried
abbrev pub is_asked : Settings → Attempt → Bool
is_asked asked (fold k) = asked.folds
is_asked asked (shrink f) = cond (eqb f call) asked.callf true

-- "Jmpf .. tries Br, then Jmp; Callf tries Call"
abbrev pub longer : (f : ℕ) → ℕ
longer f = cond (eqb f call) callf jmpf

-- the reason of an attempt at place i, if it is tried there
abbrev pub reason_at : (names : List Entry) → Program → Attempt → (i : Placeℕ) → Option Reason
reason_at names p (fold k) i = bind (shape_at p (pattern k) i) (λ s. some (fold_reason p i s))
reason_at names p (shrink f) i = bind (as_instr (at p i)) (λ x. given (eqb x.form (longer f)) (some (shrink_reason names p i f x)))

unfoldable pub attempted_at : Settings → (names : List Entry) → Program → Attempt → (i : Placeℕ) → Option Reason
attempted_at asked names p a i = given (is_asked asked a) (reason_at names p a i)

-- ---- all of them, by place, and at each place in the order of the attempts: try m is attempt m % 26 at place m / 26

pub record Why : Type 0 where
  pub attempt : Attempt
  pub place : Placeℕ
  pub reason : Reason

abbrev pub why_of : Attempt → (i : Placeℕ) → Option Reason → List Why
why_of a i none = []
why_of a i (some r) = record { attempt = a; place = i; reason = r } ∷ []

abbrev pub reason_in : Settings → Program → (m : ℕ) → Option Reason
reason_in asked p m = attempted_at asked (names_of p) p (attempt_at (m % 26)) (m / 26)

unfoldable pub whys_in : Settings → Program → (m : ℕ) → List Why
whys_in asked p m = why_of (attempt_at (m % 26)) (m / 26) (reason_in asked p m)

unfoldable pub whys : Settings → Program → List Why
whys asked p = each (whys_in asked p) (tab (λ m. m) (26 * length p))
