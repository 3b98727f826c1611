-- The store is judged before anything is asked of it: what the code's verdict says of each answer. Assumes nothing.
use mathlib.Core.Path.{◌≡◌, refl, sym, ◌∙◌, ap}
use mathlib.Core.List.{List}
use mathlib.Core.Option.{Option, none, some}
use Prim.Native.Nat.{ℕ, ◌≤◌}
use lib.Dec.{leb}
use lib.ListN.{length}
use borrow.Author.Tests.{leb-true}
use Rattle.std.specs.Prelude.{Result, None, Ok, Err, Some}
use Rattle.laws.proofs.Tests.{clash}
use Rattle.rules.specs.declared.Refusal.{Refusal}
use Rattle.rules.specs.declared.Refusal.TheVariants.{Room}
use Rattle.rules.specs.Answers.{Judged, Check, ok, no, ◌>>◌}
use Rattle.rules.proofs.Laws.{require_ok}
use Rattle.store.specs.Store.{Store}
use Rattle.store.specs.Rooms.{store_in, judged, in_store, verdict_as, held_as}

is_good : (x : Check) → (Ok tt) ≡ verdict_as x → x ≡ ok tt
is_good (ok u) e = refl
is_good (no r) e = clash (cc)

is_bad : (x : Check) (r : Refusal) → Err r ≡ verdict_as x → x ≡ no r
is_bad (ok u) r e = clash (cc)
is_bad (no s) r e = let q : r ≡ s = cc in ap no (sym q)

module _ (room : List ℕ) (v : Result (Unit {0}) Refusal) (told : v ≡ verdict_as (judged room)) where
  pub long_enough : v ≡ Ok tt → 160 ≤ length room
  unfolding judged
  long_enough e = leb-true 160 (length room) (require_ok (leb 160 (length room)) (Room 0) _ tt (is_good (judged room) (sym e ∙ told))).0

  module _ {A : Type 0} (f : Store → Judged A) where
    pub asked_then : v ≡ Ok tt → in_store room f ≡ f (store_in room)
    unfolding in_store ◌>>◌
    asked_then e = rw (is_good (judged room) (sym e ∙ told))

    pub refused_first : (r : Refusal) → v ≡ Err r → in_store room f ≡ no r
    unfolding in_store ◌>>◌
    refused_first r e = rw (is_bad (judged room) r (sym e ∙ told))

-- ---- what the search for an edition says
pub found_none : (o : Option ℕ) → held_as o ≡ None → o ≡ none
found_none none e = refl
found_none (some w) e = clash (cc)

pub found_some : (o : Option ℕ) (w : ℕ) → held_as o ≡ Some w → o ≡ some w
found_some none w e = clash (cc)
found_some (some v) w e = let q : v ≡ w = cc in ap some q
