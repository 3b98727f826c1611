-- "Show that any two results allowed by the contract coincide": of both entries, whose contracts differ in what the store answers alone.
use mathlib.Core.Path.{◌≡◌, sym, ◌∙◌}
use mathlib.Core.List.{List}
use Prim.Native.Nat.{ℕ}
use Rattle.rules.specs.declared.Refusal.{Refusal}
use Rattle.rules.specs.declared.Sizes.{Sizes}
use Rattle.std.specs.Prelude.{Result}
use Rattle.rules.specs.Answers.{Judged}
use Rattle.rules.specs.Run.{Output}
use Rattle.finishing.specs.Ending.{Delivers}

pub one_run : (x : Judged Output) (listing image : List ℕ) (a b : Result Sizes Refusal) (la ia lb ib : List ℕ)
    → Delivers x a listing image la ia → Delivers x b listing image lb ib → (a ≡ b) × (la ≡ lb) × (ia ≡ ib)
one_run x listing image a b la ia lb ib d e =
    (d.answers ∙ sym e.answers, d.listing_is ∙ sym e.listing_is, d.image_is ∙ sym e.image_is)
