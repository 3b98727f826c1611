-- Equal answers of `mapping` are said by the same numbers, and any two results of the function for C coincide.
use mathlib.Core.Path.{◌≡◌, sym, ◌∙◌, subst}
use mathlib.Core.List.{List}
use Prim.Native.Nat.{ℕ}
use lib.ListN.{length}
use Rattle.rules.specs.declared.Refusal.{Refusal}
use Rattle.mapping.specs.declared.Counts.{Counts}
use Rattle.std.specs.Prelude.{Result}
use Rattle.rules.specs.declared.Settings.{Settings}
use Rattle.mapping.specs.Entry.{mapped, answer_as, room_as, Leaves}
use Rattle.border_walks.specs.declared.maps.MapReply.{MapReply}
use Rattle.border_walks.specs.Maps.{SaysMap}

pub map_same : (r : MapReply) (a b : Result Counts Refusal) → a ≡ b → SaysMap r a → SaysMap r b
map_same r a b e h = subst (λ (x : Result Counts Refusal). SaysMap r x) e h

-- the same is answered to equal settings
pub map_asked : (asked given : Settings) (text out : List ℕ) (a : Result Counts Refusal) (out' : List ℕ) → asked ≡ given → Leaves (mapped asked text (length out)) a out out'
    → Leaves (mapped given text (length out)) a out out'
map_asked asked given text out a out' e h = subst (λ (x : Settings). Leaves (mapped x text (length out)) a out out') e h

one_said : (a : Result Counts Refusal) (r s : MapReply) → SaysMap r a → SaysMap s a → r ≡ s
one_said a r s h k =
    rw (
      h.number ∙ sym k.number,
      h.place ∙ sym k.place,
      h.argument ∙ sym k.argument,
      h.amount ∙ sym k.amount,
      h.lines ∙ sym k.lines,
      h.rows ∙ sym k.rows,
    )

-- `mortarbee_map`
pub one_map : (asked : Settings) (text room : List ℕ) (r s : MapReply) (x y : List ℕ)
    → let m = mapped asked text (length room) in
    SaysMap r (answer_as m) × (x ≡ room_as m room) → SaysMap s (answer_as m) × (y ≡ room_as m room) → (r ≡ s) × (x ≡ y)
one_map asked text room r s x y a b = (one_said _ r s a.0 b.0, a.1 ∙ sym b.1)
