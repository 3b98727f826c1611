-- Equal answers are said by the same numbers.
use mathlib.Core.Path.{◌≡◌, sym, subst}
use mathlib.Core.List.{List}
use mathlib.Core.Bool.{Bool, cond}
use Prim.Native.Nat.{ℕ}
use lib.Dec.{eqb}
use lib.ListN.{length}
use Rattle.store.specs.declared.Setting.{Setting}
use Rattle.store.specs.declared.Edition.{Edition}
use Rattle.rules.specs.declared.Sizes.{Sizes}
use Rattle.rules.specs.declared.Refusal.{Refusal}
use Rattle.std.specs.Prelude.{Result, Option}
use Rattle.entries.specs.Optimizing.{Delivers}
use Rattle.store.specs.Rooms.{get_in, newest_in}
use Rattle.editions.specs.Under.{under}
use Rattle.border.specs.declared.replies.NumberedReply.{NumberedReply}
use Rattle.border.specs.declared.replies.FoundReply.{FoundReply}
use Rattle.border.specs.declared.replies.ShownReply.{ShownReply}
use Rattle.border.specs.Exported.{run_under, SaysNumbered, SaysFound, SaysShown}

pub numbered_same : (r : NumberedReply) (a b : Result ℕ Refusal) → a ≡ b → SaysNumbered r a → SaysNumbered r b
numbered_same r a b e h = subst (λ (x : Result ℕ Refusal). SaysNumbered r x) e h

pub found_same : (r : FoundReply) (a b : Result Edition Refusal) → a ≡ b → SaysFound r a → SaysFound r b
found_same r a b e h = subst (λ (x : Result Edition Refusal). SaysFound r x) e h

pub shown_same : (r : ShownReply) (a b : Result (Option Setting) Refusal) → a ≡ b → SaysShown r a → SaysShown r b
shown_same r a b e h = subst (λ (x : Result (Option Setting) Refusal). SaysShown r x) e h

-- a run under the newest edition or under a given one, as the test of its number goes
pub as_tested : (store : List ℕ) (f e : ℕ) (text out image : List ℕ) (b : Bool) → eqb e 0 ≡ b → (a : Result Sizes Refusal) (out' image' : List ℕ)
    → Delivers (under (cond b (newest_in store f) (get_in store f e)) text (length out) (length image)) a out image out' image'
    → Delivers (run_under store f e text (length out) (length image)) a out image out' image'
as_tested store f e text out image b q a out' image' h =
    subst (λ (x : Bool). Delivers (under (cond x (newest_in store f) (get_in store f e)) text (length out) (length image)) a out image out' image') (sym q) h
