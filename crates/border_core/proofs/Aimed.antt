-- Equal answers of `targets` are said by the same numbers, and any two results of the function for C coincide.
use mathlib.Core.Path.{◌≡◌, sym, ◌∙◌, subst}
use mathlib.Core.List.{List}
use Prim.Native.Nat.{ℕ}
use lib.ListN.{length}
use Rattle.rules.specs.declared.Refusal.{Refusal}
use Rattle.targets.specs.declared.Counts.{Counts}
use Rattle.std.specs.Prelude.{Result}
use Rattle.rules.specs.declared.Settings.{Settings}
use Rattle.targets.specs.Entry.{told, Leaves}
use Rattle.border_core.specs.declared.aims.TargetsReply.{TargetsReply}
use Rattle.border_core.specs.Aims.{SaysTargets, Aims}

pub targets_same : (r : TargetsReply) (a b : Result Counts Refusal) → a ≡ b → SaysTargets r a → SaysTargets r b
targets_same r a b e h = subst (λ (x : Result Counts Refusal). SaysTargets r x) e h

-- the same is answered to equal settings
pub targets_asked : (asked given : Settings) (text out : List ℕ) (a : Result Counts Refusal) (out' : List ℕ) → asked ≡ given → Leaves (told asked text (length out)) a out out'
    → Leaves (told given text (length out)) a out out'
targets_asked asked given text out a out' e h = subst (λ (x : Settings). Leaves (told x text (length out)) a out out') e h

one_said : (a : Result Counts Refusal) (r s : TargetsReply) → SaysTargets r a → SaysTargets s a → r ≡ s
one_said a r s h k =
    rw (
      h.number ∙ sym k.number,
      h.place ∙ sym k.place,
      h.argument ∙ sym k.argument,
      h.amount ∙ sym k.amount,
      h.lines ∙ sym k.lines,
      h.transfers ∙ sym k.transfers,
      h.marked ∙ sym k.marked,
    )

-- `mortarbee_targets`
pub one_targets : (asked : Settings) (text room : List ℕ) (r s : TargetsReply) (x y : List ℕ) → Aims asked text r room x → Aims asked text s room y → (r ≡ s) × (x ≡ y)
one_targets asked text room r s x y a b = (one_said _ r s a.says b.says, a.room_is ∙ sym b.room_is)
