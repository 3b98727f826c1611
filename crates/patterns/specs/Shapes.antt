-- The two shapes of rule 3, apart from what is asked of inner labels: where a branch begins a pattern, and what the fold leaves.
use Rattle.std.specs.Prelude.{[], ◌∷◌, ◌&&◌, ℕ, suc, eqb, set}
use Rattle.std.proofs.Math.Option.{Option, some}
use Rattle.laws.specs.Options.{given, bind}
use Rattle.rules.specs.Programs.{Placeℕ, Program, at}
use Rattle.rules.specs.Names.{context_at}
use Rattle.rules.specs.Rewriting.{next, branch, unconditional, local_label, names_bare, aimed, drop_all, references, Pattern, inverted, trampoline}

-- ---- a branch begins a pattern: it has the pattern's form, and the statements behind it stand as the pattern asks, whatever inner labels there are

-- where the pattern's last label stands, and what its fold leaves
pub record Shape : Type 0 where
  pub last : Placeℕ
  pub folded : Program

-- "Inverted: branch, unconditional, local label that the branch names bare."
unfoldable pub inverted_shape : (from to : ℕ) → Program → (i : Placeℕ) → Option Shape
inverted_shape from to p i =
    let jump_place : Placeℕ = next p (suc i) in
    let label_place : Placeℕ = next p (suc jump_place) in
    bind (branch from (at p i)) (λ b.
    bind (unconditional (at p jump_place)) (λ jump.
    bind (local_label (at p label_place)) (λ n.
    given (names_bare n b)
    (some (record { last = label_place; folded = drop_all (jump_place ∷ []) (set p i (aimed to b jump)) })))))

-- "Trampoline: branch to bare local T, unconditional to bare local S, T, unconditional, S; T has exactly one reference in the whole listing."
unfoldable pub trampoline_shape : (f : ℕ) → Program → (i : Placeℕ) → Option Shape
trampoline_shape f p i =
    let skip_place : Placeℕ = next p (suc i) in
    let place_t : Placeℕ = next p (suc skip_place) in
    let last_place : Placeℕ = next p (suc place_t) in
    let place_s : Placeℕ = next p (suc last_place) in
    bind (branch f (at p i)) (λ b.
    bind (unconditional (at p skip_place)) (λ skip.
    bind (local_label (at p place_t)) (λ t.
    bind (unconditional (at p last_place)) (λ last.
    bind (local_label (at p place_s)) (λ s.
    given (names_bare t b && (names_bare s skip && eqb (references (context_at p place_t) t p) 1))
    (some (record { last = place_s; folded = drop_all (skip_place ∷ place_t ∷ last_place ∷ []) (set p i (aimed f b last)) })))))))

abbrev pub shape_at : Program → Pattern → (i : Placeℕ) → Option Shape
shape_at p (inverted from to) i = inverted_shape from to p i
shape_at p (trampoline f) i = trampoline_shape f p i
