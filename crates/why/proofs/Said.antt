-- The reason of a fold and of a shorter form, by what stands in its way first.
use mathlib.Core.Path.{◌≡◌, refl, sym, ap, ◌∙◌}
use mathlib.Core.List.{List}
use mathlib.Core.Option.{Option, none, some}
use mathlib.Core.Bool.{Bool, true, false}
use Prim.Native.Nat.{ℕ}
use lib.Dec.{eqb}
use lib.ListN.{set}
use Rattle.std.specs.Prelude.{None, Some}
use Rattle.laws.specs.Options.{bind, given}
use Rattle.rules.specs.Programs.{Placeℕ, instr, Program, at, Instruction, as_instr}
use Rattle.rules.specs.Names.{Entry}
use Rattle.rules.specs.Rewriting.{is_change_jump, no_inner_label_between, no_interior_label_at, branch, Pattern}
use Rattle.patterns.specs.Shapes.{Shape, shape_at}
use Rattle.staying.specs.declared.Reason.{Reason}
use Rattle.staying.specs.declared.Reason.TheVariants.{Change, Inside, Between}
use Rattle.staying.specs.Reasons.{reason_of, fold_reason, shrink_reason}
use Rattle.why.specs.Tried.{attempted_as, fold_at, shrink_at}

-- ---- folds
module _ (p : Program) (i : Placeℕ) (s : Shape) where
  barred : no_inner_label_between p i s.last ≡ false → fold_reason p i s ≡ Between
  unfolding fold_reason
  barred h = rw h

  inside : no_inner_label_between p i s.last ≡ true → no_interior_label_at p i ≡ false → fold_reason p i s ≡ Inside
  unfolding fold_reason
  inside h k = rw (h, k)

  free : no_inner_label_between p i s.last ≡ true → no_interior_label_at p i ≡ true → fold_reason p i s ≡ reason_of s.folded
  unfolding fold_reason
  free h k = rw (h, k)

module _ (p : Program) (x : Pattern) (i : Placeℕ) where
  pub fold_untried : shape_at p x i ≡ none → None ≡ attempted_as (fold_at p x i)
  unfolding bind
  fold_untried e = sym (ap (λ (o : Option Shape). attempted_as (bind o (λ s. some (fold_reason p i s)))) e)

  module _ (s : Shape) (e : shape_at p x i ≡ some s) where
    stands : Some (fold_reason p i s) ≡ attempted_as (fold_at p x i)
    unfolding bind
    stands = sym (ap (λ (o : Option Shape). attempted_as (bind o (λ s. some (fold_reason p i s)))) e)

    pub fold_between : no_inner_label_between p i s.last ≡ false → Some Between ≡ attempted_as (fold_at p x i)
    fold_between h = ap (λ (r : Reason). Some r) (sym (barred p i s h)) ∙ stands

    pub fold_inside : no_inner_label_between p i s.last ≡ true → no_interior_label_at p i ≡ false → Some Inside ≡ attempted_as (fold_at p x i)
    fold_inside h k = ap (λ (r : Reason). Some r) (sym (inside p i s h k)) ∙ stands

    pub fold_said : no_inner_label_between p i s.last ≡ true → no_interior_label_at p i ≡ true → (r : Reason) → r ≡ reason_of s.folded → Some r ≡ attempted_as (fold_at p x i)
    fold_said h k r f = ap (λ (r : Reason). Some r) (f ∙ sym (free p i s h k)) ∙ stands

-- ---- shorter forms
module _ (names : List Entry) (p : Program) (f long : ℕ) (i : Placeℕ) where
  pub form_untried : branch long (at p i) ≡ none → None ≡ attempted_as (shrink_at names p f long i)
  unfolding bind
  form_untried e = sym (ap (λ (o : Option Instruction). attempted_as (bind o (λ x. some (shrink_reason names p i f x)))) e)

  module _ (x : Instruction) (e : branch long (at p i) ≡ some x) where
    long_stands : Some (shrink_reason names p i f x) ≡ attempted_as (shrink_at names p f long i)
    unfolding bind
    long_stands = sym (ap (λ (o : Option Instruction). attempted_as (bind o (λ x. some (shrink_reason names p i f x)))) e)

    changes : is_change_jump names p i ≡ true → shrink_reason names p i f x ≡ Change
    unfolding shrink_reason
    changes h = rw h

    within : is_change_jump names p i ≡ false → no_interior_label_at p i ≡ false → shrink_reason names p i f x ≡ Inside
    unfolding shrink_reason
    within h k = rw (h, k)

    formed : is_change_jump names p i ≡ false → no_interior_label_at p i ≡ true → shrink_reason names p i f x ≡ reason_of (set p i (instr f x.args x.carried))
    unfolding shrink_reason
    formed h k = rw (h, k)

    pub form_change : is_change_jump names p i ≡ true → Some Change ≡ attempted_as (shrink_at names p f long i)
    form_change h = ap (λ (r : Reason). Some r) (sym (changes h)) ∙ long_stands

    pub form_inside : is_change_jump names p i ≡ false → no_interior_label_at p i ≡ false → Some Inside ≡ attempted_as (shrink_at names p f long i)
    form_inside h k = ap (λ (r : Reason). Some r) (sym (within h k)) ∙ long_stands

    pub form_said : is_change_jump names p i ≡ false → no_interior_label_at p i ≡ true → (r : Reason) → r ≡ reason_of (set p i (instr f x.args x.carried))
        → Some r ≡ attempted_as (shrink_at names p f long i)
    form_said h k r g = ap (λ (r : Reason). Some r) (g ∙ sym (formed h k)) ∙ long_stands

-- the form that is asked for is a branch's
pub long_branch : (names : List Entry) (p : Program) (f long : ℕ) (i : Placeℕ)
    → bind (as_instr (at p i)) (λ x. given (eqb x.form long) (some (shrink_reason names p i f x))) ≡ shrink_at names p f long i
unfolding branch bind given
long_branch names p f long i = on (as_instr (at p i))
  where
    is : (b : Bool) (x : Instruction) → given b (some (shrink_reason names p i f x)) ≡ bind (given b (some x)) (λ y. some (shrink_reason names p i f y))
    is true x = refl
    is false x = refl

    on : (o : Option Instruction) → bind o (λ x. given (eqb x.form long) (some (shrink_reason names p i f x)))
        ≡ bind (bind o (λ x. given (eqb x.form long) (some x))) (λ y. some (shrink_reason names p i f y))
    on none = refl
    on (some x) = is (eqb x.form long) x
