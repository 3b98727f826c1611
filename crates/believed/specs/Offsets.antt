-- Document 01, "The rewriting", rules 3 to 5, said by the offsets that are wanted in each statement: none in one that is dropped, only 0
-- in one that is replaced, each below the size everywhere.
use Rattle.std.specs.Prelude.{◌≡◌, ◌↔◌, List, [], ◌∷◌, Bool, true, false, ◌&&◌, cond, ℕ, zero, suc, ltb, eqb, set}
use Rattle.std.proofs.Math.Option.{Option, none, some}
use Rattle.laws.specs.Options.{or_else, given, first_of, bind}
use Rattle.laws.specs.Lists.{total, every, each}
use Rattle.rules.specs.declared.Settings.{Settings}
use Rattle.rules.specs.Programs.{Placeℕ, Operand, register, value, inner, instr, Program, at, as_instr, args_of}
use Rattle.rules.specs.Layout.{size_in}
use Rattle.rules.specs.Names.{context_at, Entry}
use Rattle.rules.specs.Judging.{names_of, assembles}
use Rattle.rules.specs.Rewriting.{no_interior_label_at, acceptable, candidate, next, branch, unconditional, local_label, names_bare, aimed, drop_all, references, Pattern, inverted, trampoline, patterns_for, pattern_at, shorter, shrink_at, anywhere, step, Chain, more, instr_bytes, anchor, optimized}

-- the offset that an operand wants in the statement at place i, if it wants one
abbrev pub wanted_by : (i : Placeℕ) → Operand → List ℕ
wanted_by i (register r) = []
wanted_by i (value e) = []
wanted_by i (inner owner o) = cond (eqb owner i) (o ∷ []) []

-- the offsets that are wanted in it, by any instruction: the inner labels "right before its owner"
unfoldable pub offsets_at : Program → (i : Placeℕ) → List ℕ
offsets_at p i = each (λ s. each (wanted_by i) (args_of s)) p

abbrev pub is_none : List ℕ → Bool
is_none [] = true
is_none (o ∷ os) = false

-- ---- the rules

-- rule 3, "All but comments are significant", inner labels too: none is wanted in a statement that is dropped
unfoldable pub none_in : Program → (dropped : List Placeℕ) → Bool
none_in p dropped = every (λ i. is_none (offsets_at p i)) dropped

-- rule 5: "A replaced instruction may have no inner label with offset 1 or more in the run right before it"
unfoldable pub only_first : Program → (i : Placeℕ) → Bool
only_first p i = every (λ o. eqb o 0) (offsets_at p i)

-- rule 5: "every inner label's offset is below its owner's size"
abbrev pub EachWithin : Program → Type 0
EachWithin p = (i : Placeℕ) → every (λ o. ltb o (size_in p i)) (offsets_at p i) ≡ true

-- "Inverted: branch, unconditional, local label that the branch names bare." The unconditional is dropped
unfoldable pub inverted_by : (from to : ℕ) → Program → (i : Placeℕ) → Option Program
inverted_by from to p i =
    let jump_place : Placeℕ = next p (suc i) in
    let label_place : Placeℕ = next p (suc jump_place) in
    let dropped : List Placeℕ = jump_place ∷ [] in
    bind (branch from (at p i)) (λ b.
    bind (unconditional (at p jump_place)) (λ jump.
    bind (local_label (at p label_place)) (λ n.
    given (names_bare n b && (none_in p dropped && only_first p i))
    (candidate (drop_all dropped (set p i (aimed to b jump)))))))

-- "Trampoline: branch to bare local T, unconditional to bare local S, T, unconditional, S". Both unconditionals and T are dropped
unfoldable pub trampoline_by : (f : ℕ) → Program → (i : Placeℕ) → Option Program
trampoline_by f p i =
    let skip_place : Placeℕ = next p (suc i) in
    let place_t : Placeℕ = next p (suc skip_place) in
    let last_place : Placeℕ = next p (suc place_t) in
    let place_s : Placeℕ = next p (suc last_place) in
    let dropped : List Placeℕ = skip_place ∷ place_t ∷ last_place ∷ [] in
    bind (branch f (at p i)) (λ b.
    bind (unconditional (at p skip_place)) (λ skip.
    bind (local_label (at p place_t)) (λ t.
    bind (unconditional (at p last_place)) (λ last.
    bind (local_label (at p place_s)) (λ s.
    given (names_bare t b && (names_bare s skip && eqb (references (context_at p place_t) t p) 1))
    (given (none_in p dropped && only_first p i)
    (candidate (drop_all dropped (set p i (aimed f b last))))))))))

abbrev pub pattern_by : Program → Pattern → (i : Placeℕ) → Option Program
pattern_by p (inverted from to) i = inverted_by from to p i
pattern_by p (trampoline f) i = trampoline_by f p i

-- rule 4: an instruction gives way to a shorter form
unfoldable pub shrink_by : Settings → (names : List Entry) → Program → (i : Placeℕ) → Option Program
shrink_by asked names p i =
    bind (as_instr (at p i)) (λ x.
    first_of (λ f. given (only_first p i) (candidate (set p i (instr f x.args x.carried)))) (shorter asked names p i x.form))

-- the first rewrite
unfoldable pub step_by : Settings → Program → Option Program
step_by asked p =
    or_else (first_of (λ x. anywhere (pattern_by p x) p) (patterns_for asked))
    (anywhere (shrink_by asked (names_of p) p) p)

-- ---- what is promised of them

-- a candidate counts exactly when each offset is below the size and the whole assembles
abbrev pub SameCandidates : Program → Type 0
SameCandidates p = acceptable p ≡ true ↔ (EachWithin p × (assembles p ≡ true))

-- of such a program the rules in this form are the ones in use, and so is the first rewrite
pub record SameRules (asked : Settings) (p : Program) : Type 0 where
  pub replaced : (i : Placeℕ) → only_first p i ≡ no_interior_label_at p i
  pub folds : (x : Pattern) (i : Placeℕ) → pattern_by p x i ≡ pattern_at p x i
  pub shrinks : (i : Placeℕ) → shrink_by asked (names_of p) p i ≡ shrink_at asked (names_of p) p i
  pub first_rewrite : step_by asked p ≡ step asked p

-- rewritten until no rewrite remains, or `fuel` times, by the rules in this form: the end form and the count are those in use
unfoldable pub chain_by : Settings → (fuel : ℕ) → Program → Chain
chain_by asked zero p = record { program = p; count = 0 }
chain_by asked (suc n) p = elim (step_by asked p) [ none ↦ record { program = p; count = 0 } | some q ↦ more (chain_by asked n q) ]

abbrev pub SameEnd : Settings → Program → Type 0
SameEnd asked p = chain_by asked (total instr_bytes p) (anchor p) ≡ optimized asked p
