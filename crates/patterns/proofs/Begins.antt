-- A fold by its shape: the pattern of rule 3 is the shape, then what is asked of inner labels, then the candidate.
use mathlib.Core.Path.{◌≡◌, refl, ◌∙◌, ap}
use mathlib.Core.List.{[], ◌∷◌}
use mathlib.Core.Option.{Option, none, some}
use mathlib.Core.Bool.{Bool, true, false, ◌&&◌}
use Prim.Native.Nat.{ℕ, suc}
use lib.Dec.{eqb}
use lib.ListN.{set}
use Rattle.laws.specs.Options.{given, bind}
use Rattle.laws.proofs.Options.{given_true, given_false, bind_no}
use Rattle.rules.specs.Programs.{Placeℕ, Program, at, Instruction}
use Rattle.rules.specs.Names.{context_at}
use Rattle.rules.specs.Rewriting.{no_inner_label_between, no_interior_label_at, candidate, next, branch, unconditional, local_label, names_bare, aimed, drop_all, inverted_at, references, trampoline_at, Pattern, inverted, trampoline, pattern_at}
use Rattle.patterns.specs.Shapes.{Shape, inverted_shape, trampoline_shape, shape_at}

-- an answer of an answer
bind_over : {A B C : Type 0} (o : Option A) (f : A → Option B) (g : B → Option C) (h : A → Option C) → ((a : A) → h a ≡ bind (f a) g) → bind o h ≡ bind (bind o f) g
unfolding bind
bind_over none f g h e = refl
bind_over (some a) f g h e = e a

given_over : {B C : Type 0} (a : Bool) (b : B) (g : B → Option C) → given a (g b) ≡ bind (given a (some b)) g
unfolding given bind
given_over true b g = refl
given_over false b g = refl

given_and : {C : Type 0} (a b : Bool) (o : Option C) → given (a && b) o ≡ given a (given b o)
unfolding given
given_and true b o = refl
given_and false b o = refl

-- what is asked of a shape
abbrev pub ask : Program → (i : Placeℕ) → Shape → Option Program
ask p i s = given (no_inner_label_between p i s.last && no_interior_label_at p i) (candidate s.folded)

inverted_begins : (from to : ℕ) (p : Program) (i : Placeℕ) → inverted_at from to p i ≡ bind (inverted_shape from to p i) (ask p i)
unfolding inverted_at inverted_shape
inverted_begins from to p i =
    let j : Placeℕ = next p (suc i) in
    let m : Placeℕ = next p (suc j) in
    let left : Instruction → Instruction → Program = λ b jump. drop_all (j ∷ []) (set p i (aimed to b jump)) in
    bind_over (branch from (at p i)) _ (ask p i) _ (λ b.
    bind_over (unconditional (at p j)) _ (ask p i) _ (λ jump.
    bind_over (local_label (at p m)) _ (ask p i) _ (λ n.
    given_and (names_bare n b) (no_inner_label_between p i m && no_interior_label_at p i) (candidate (left b jump))
    ∙ given_over (names_bare n b) (record { last = m; folded = left b jump }) (ask p i))))

trampoline_begins : (f : ℕ) (p : Program) (i : Placeℕ) → trampoline_at f p i ≡ bind (trampoline_shape f p i) (ask p i)
unfolding trampoline_at trampoline_shape
trampoline_begins f p i =
    let j : Placeℕ = next p (suc i) in
    let t : Placeℕ = next p (suc j) in
    let l : Placeℕ = next p (suc t) in
    let m : Placeℕ = next p (suc l) in
    bind_over (branch f (at p i)) _ (ask p i) _ (λ b.
    bind_over (unconditional (at p j)) _ (ask p i) _ (λ skip.
    bind_over (local_label (at p t)) _ (ask p i) _ (λ n.
    bind_over (unconditional (at p l)) _ (ask p i) _ (λ last.
    bind_over (local_label (at p m)) _ (ask p i) _ (λ s.
    given_over (names_bare n b && (names_bare s skip && eqb (references (context_at p t) n p) 1))
    (record { last = m; folded = drop_all (j ∷ t ∷ l ∷ []) (set p i (aimed f b last)) }) (ask p i))))))

pub begins : (p : Program) (x : Pattern) (i : Placeℕ) → pattern_at p x i ≡ bind (shape_at p x i) (ask p i)
begins p (inverted from to) i = inverted_begins from to p i
begins p (trampoline f) i = trampoline_begins f p i

-- ---- the fold, by what its shape is and whether inner labels stand in its way
module _ (p : Program) (x : Pattern) (i : Placeℕ) where
  pub begun_none : shape_at p x i ≡ none → pattern_at p x i ≡ none
  begun_none e = begins p x i ∙ bind_no (shape_at p x i) (ask p i) e

  module _ (s : Shape) (e : shape_at p x i ≡ some s) where
    asked : pattern_at p x i ≡ ask p i s
    unfolding bind
    asked = begins p x i ∙ ap (λ (o : Option Shape). bind o (ask p i)) e

    pub begun_free : no_inner_label_between p i s.last && no_interior_label_at p i ≡ true → pattern_at p x i ≡ candidate s.folded
    begun_free h = asked ∙ given_true _ (candidate s.folded) h

    pub begun_barred : no_inner_label_between p i s.last && no_interior_label_at p i ≡ false → pattern_at p x i ≡ none
    begun_barred h = asked ∙ given_false _ (candidate s.folded) h
