-- The same is answered to equal settings: `why`. That two results coincide is `Same.one_why`.
use mathlib.Core.Path.{◌≡◌, subst}
use mathlib.Core.List.{List}
use Prim.Native.Nat.{ℕ}
use lib.ListN.{length}
use Rattle.rules.specs.declared.Refusal.{Refusal}
use Rattle.rules.specs.declared.Sizes.{Sizes}
use Rattle.std.specs.Prelude.{Result}
use Rattle.rules.specs.declared.Settings.{Settings}
use Rattle.why.specs.Entry.{told, Leaves}

pub why_as_asked : (asked given : Settings) (text out : List ℕ) (a : Result Sizes Refusal) (out' : List ℕ) → asked ≡ given → Leaves (told asked text (length out)) a out out'
    → Leaves (told given text (length out)) a out out'
why_as_asked asked given text out a out' e h = subst (λ (x : Settings). Leaves (told x text (length out)) a out out') e h
