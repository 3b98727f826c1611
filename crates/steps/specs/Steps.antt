-- "The rewrites in order, one line (76) each: which rule and pattern, place, what stood there and what stands there now."
use Rattle.std.specs.Prelude.{List, [], ◌∷◌, ◌++◌, Bool, ◌&&◌, ◌||◌, not, cond, ℕ, zero, suc, eqb, length, set}
use Rattle.std.proofs.Math.Option.{Option, none, some}
use Rattle.laws.specs.Options.{bind, given}
use Rattle.laws.specs.Lists.{total, each}
use Rattle.laws.specs.Counts.{scan}
use Rattle.rules.specs.declared.Settings.{Settings}
use Rattle.rules.specs.Expressions.{pair}
use Rattle.rules.specs.Forms.{jmpf, callf}
use Rattle.rules.specs.Programs.{Placeℕ, Stmt, instr, Program, at, on_instr, as_instr}
use Rattle.rules.specs.Rewriting.{inverted, trampoline, pattern_at, no_interior_label_at, candidate, anchor, step, instr_bytes}
use Rattle.rules.specs.Output.{line_of}
use Rattle.steps.specs.declared.Seat.{Seat}

-- what stands in a slot, as far as a rewrite changes it: its form, and the place whose target it carries. A slot without an instruction has 70 and 0
abbrev pub seat_of : Stmt → Seat
seat_of s = on_instr (record { form = 70; carried = 0 }) (λ x. record { form = x.form; carried = x.carried }) s

abbrev pub same_seat : Seat → Seat → Bool
same_seat a b = eqb a.form b.form && eqb a.carried b.carried

-- an instruction stood there, and another form or target stands there now, or none
abbrev pub is_changed : (old new : Seat) → Bool
is_changed a b = not (eqb a.form 70) && not (same_seat a b)

abbrev pub changed_at : (p q : Program) (i : Placeℕ) → Bool
changed_at p q i = is_changed (seat_of (at p i)) (seat_of (at q i))

-- a rewrite's place is the first such place: what a fold drops stands behind its branch
unfoldable pub changed : (p q : Program) → Placeℕ
changed p q = scan (changed_at p q) (length p) 0

-- ---- which rule and pattern, by the forms that stood there and stand there now: a trampoline fold keeps its branch, a shrink begins with Jmpf or Callf
pub data Rule : Type 0 where
  inverting : Rule
  bouncing : Rule
  shrinking : Rule

unfoldable pub rule_of : (old new : ℕ) → Rule
rule_of old new = cond (eqb old new) bouncing (cond (eqb old jmpf || eqb old callf) shrinking inverting)

pub record Rewrite : Type 0 where
  pub rule : Rule
  pub place : Placeℕ
  pub old : Seat
  pub new : Seat

abbrev pub rewrite_at : (i : Placeℕ) (old new : Seat) → Rewrite
rewrite_at i a b = record { rule = rule_of a.form b.form; place = i; old = a; new = b }

-- the rewrite that leads from p to q
unfoldable pub rewrite_of : (p q : Program) → Rewrite
rewrite_of p q =
    let i : Placeℕ = changed p q in
    rewrite_at i (seat_of (at p i)) (seat_of (at q i))

-- the rewrites from p on, `fuel` at most, and all of them
unfoldable pub steps_in : Settings → (fuel : ℕ) → Program → List Rewrite
steps_in asked zero p = []
steps_in asked (suc n) p = elim (step asked p) [ none ↦ [] | some q ↦ rewrite_of p q ∷ steps_in asked n q ]

-- of a listing's program: they start from it anchored
unfoldable pub steps : Settings → Program → List Rewrite
steps asked p = steps_in asked (total instr_bytes p) (anchor p)

-- ---- doing one, on another program too: by its rule, its place and its forms
abbrev pub doing_as : Rule → Program → (i : Placeℕ) (old new : ℕ) → Option Program
doing_as inverting p i old new = pattern_at p (inverted old new) i
doing_as bouncing p i old new = pattern_at p (trampoline old) i
doing_as shrinking p i old new = bind (as_instr (at p i)) (λ x. given (no_interior_label_at p i) (candidate (set p i (instr new x.args x.carried))))

-- where what it says stood there stands there, carried place and all, and what it says stands there now does then
unfoldable pub doing : Program → Rewrite → Option Program
doing p r =
    given (same_seat (seat_of (at p r.place)) r.old)
    (bind (doing_as r.rule p r.place r.old.form r.new.form) (λ q.
    given (same_seat (seat_of (at q r.place)) r.new) (some q)))

-- and all, one by one
unfoldable pub doing_all : Program → List Rewrite → Option Program
doing_all p [] = some p
doing_all p (r ∷ rs) = bind (doing p r) (λ q. doing_all q rs)

-- ---- as lines: 76, the rule in one byte, the place in two, and the form in one and the carried place in two of what stood there and of what stands there
abbrev pub rule_byte : Rule → ℕ
rule_byte inverting = 1
rule_byte bouncing = 2
rule_byte shrinking = 3

abbrev pub seat_bytes : Seat → List ℕ
seat_bytes a = a.form ∷ pair a.carried

unfoldable pub step_line : Rewrite → List ℕ
step_line r = line_of (0x76 ∷ rule_byte r.rule ∷ (pair r.place ++ (seat_bytes r.old ++ seat_bytes r.new)))

unfoldable pub step_lines : List Rewrite → List ℕ
step_lines rs = each step_line rs
