-- The places of the slots that are left, and C-13's list of them.
use Rattle.std.specs.Prelude.{List, [], ◌∷◌, cond, ℕ, leb, get_or}
use Rattle.laws.specs.Counts.{tab}
use Rattle.laws.specs.Lists.{each}
use Rattle.rules.specs.Expressions.{pair}
use Rattle.rules.specs.Programs.{Placeℕ}
use Rattle.slots.specs.Slots.{gone_form}

-- as the tables have them: the places below n whose form is not that of a slot that is gone
unfoldable pub kept_to : (forms : List ℕ) (n : ℕ) → List Placeℕ
kept_to forms n = each (λ i. cond (leb gone_form (get_or forms i 0)) [] (i ∷ [])) (tab (λ i. i) n)

-- C-13: "the optimizer's list, now handed out too .., of the place each output statement stems from", two bytes an entry, high byte first
unfoldable pub list_of : List Placeℕ → List ℕ
list_of is = each (λ i. pair i) is
