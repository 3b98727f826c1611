-- What is shown of each reason: its kind is the true one, and there is no line more than what was tried and left.
use Rattle.std.specs.Prelude.{◌≡◌, List, true, false, ◌&&◌, cond, ℕ, ◌≤◌, ◌<◌, eqb, ltb, length, get_or, set}
use Rattle.std.proofs.Math.Option.{some}
use Rattle.laws.specs.Lists.{total}
use Rattle.rules.specs.declared.Settings.{Settings}
use Rattle.rules.specs.Answers.{ok, no}
use Rattle.rules.specs.Programs.{Placeℕ, instr, Program, at, Instruction, as_instr}
use Rattle.rules.specs.Layout.{size_in}
use Rattle.rules.specs.Judging.{names_of, judge}
use Rattle.rules.specs.Rewriting.{is_change_jump, every_inner_label, no_inner_label_between, no_interior_label_at}
use Rattle.patterns.specs.Shapes.{Shape, shape_at}
use Rattle.staying.specs.declared.Reason.{Reason}
use Rattle.staying.specs.declared.Reason.TheVariants.{Counts, Change, Inside, Between, Beyond, Refused}
use Rattle.staying.specs.Reasons.{Attempt, fold, shrink, pattern, is_asked, longer, Why, whys}
use Rattle.staying.specs.Lines.{attempt_byte}

-- ---- the candidate: it counts, an inner label's offset is beyond its owner, or the whole is refused
abbrev pub OfCandidate : (candidate : Program) → Reason → Type 0
OfCandidate q Counts = ((image : List ℕ) × (judge q ≡ ok image)) × (every_inner_label (λ owner o. ltb o (size_in q owner)) q ≡ true)
OfCandidate q Beyond = ((image : List ℕ) × (judge q ≡ ok image)) × (every_inner_label (λ owner o. ltb o (size_in q owner)) q ≡ false)
OfCandidate q (Refused r) = judge q ≡ no r
OfCandidate q Change = ⊥
OfCandidate q Inside = ⊥
OfCandidate q Between = ⊥

-- ---- a pattern that begins at place i: "inner label between" is asked first, then "inner label inside"
abbrev pub OfFold : Program → (i : Placeℕ) → Shape → Reason → Type 0
OfFold p i s Between = no_inner_label_between p i s.last ≡ false
OfFold p i s Inside = (no_inner_label_between p i s.last ≡ true) × (no_interior_label_at p i ≡ false)
OfFold p i s Change = ⊥
OfFold p i s Counts = (no_inner_label_between p i s.last ≡ true) × (no_interior_label_at p i ≡ true) × OfCandidate s.folded Counts
OfFold p i s Beyond = (no_inner_label_between p i s.last ≡ true) × (no_interior_label_at p i ≡ true) × OfCandidate s.folded Beyond
OfFold p i s (Refused r) = (no_inner_label_between p i s.last ≡ true) × (no_interior_label_at p i ≡ true) × OfCandidate s.folded (Refused r)

-- ---- form f for x at place i: "change jump" is asked first, then "inner label inside"
abbrev pub shorter : Program → (i : Placeℕ) (f : ℕ) → Instruction → Program
shorter p i f x = set p i (instr f x.args x.carried)

abbrev pub OfShrink : Program → (i : Placeℕ) (f : ℕ) → Instruction → Reason → Type 0
OfShrink p i f x Change = is_change_jump (names_of p) p i ≡ true
OfShrink p i f x Inside = (is_change_jump (names_of p) p i ≡ false) × (no_interior_label_at p i ≡ false)
OfShrink p i f x Between = ⊥
OfShrink p i f x Counts = (is_change_jump (names_of p) p i ≡ false) × (no_interior_label_at p i ≡ true) × OfCandidate (shorter p i f x) Counts
OfShrink p i f x Beyond = (is_change_jump (names_of p) p i ≡ false) × (no_interior_label_at p i ≡ true) × OfCandidate (shorter p i f x) Beyond
OfShrink p i f x (Refused r) = (is_change_jump (names_of p) p i ≡ false) × (no_interior_label_at p i ≡ true) × OfCandidate (shorter p i f x) (Refused r)

-- ---- "for each Jmpf and Callf that is left, and each branch that begins a pattern and was not folded", and for nothing else
abbrev pub Due : Settings → Program → (i : Placeℕ) → Reason → Attempt → Type 0
Due asked p i r (fold k) = (k < 23) × (asked.folds ≡ true) × ((s : Shape) × (shape_at p (pattern k) i ≡ some s) × OfFold p i s r)
Due asked p i r (shrink f) =
    (is_asked asked (shrink f) ≡ true) × ((x : Instruction) × (as_instr (at p i) ≡ some x) × (x.form ≡ longer f) × OfShrink p i f x r)

-- each line is due, and no two are of one attempt at one place
pub record Exactly (asked : Settings) (p : Program) : Type 0 where
  pub due : (k : ℕ) (d : Why) → k < length (whys asked p)
      → ((get_or (whys asked p) k d).place < length p) × Due asked p (get_or (whys asked p) k d).place (get_or (whys asked p) k d).reason (get_or (whys asked p) k d).attempt
  pub once : (a : ℕ) (i : Placeℕ) → total (λ w. cond (eqb (attempt_byte w.attempt) a && eqb w.place i) 1 0) (whys asked p) ≤ 1
