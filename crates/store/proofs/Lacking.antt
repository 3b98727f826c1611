-- 17 and 18 have their causes: what a good store lacks that refuses what it is asked.
use mathlib.Core.Path.{◌≡◌, refl, sym, ◌∙◌}
use mathlib.Core.Logic.{◌⊎◌, inl, inr}
use mathlib.Core.Option.{Option, none, some}
use mathlib.Core.Bool.{Bool, true, false, ◌&&◌}
use Prim.Native.Nat.{ℕ, zero, suc, ◌≤◌}
use native.Mathlib.Omega.{arith}
use lib.Dec.{leb, ltb}
use borrow.Author.Tests.{leb-false, ltb-false}
use Rattle.laws.proofs.Tests.{clash}
use Rattle.rules.specs.declared.Refusal.{Refusal}
use Rattle.rules.specs.declared.Refusal.TheVariants.{Unknown, Full}
use Rattle.rules.specs.Answers.{ok, no, require}
use Rattle.store.specs.Store.{Store, find, newest, known, get, get_newest, has_free, add, drop_old}
use Rattle.store.specs.Promise.{Lacks}
use Rattle.store.proofs.Afterwards.{newest_held, get_some}

module _ (ss : Store) (f : ℕ) where
  get_lacks : (e : ℕ) (r : Refusal) → get f e ss ≡ no r → (r ≡ Unknown) × ((e ≡ 0) ⊎ (find f e ss ≡ none))
  unfolding get require
  get_lacks e r h = on (leb 1 e) refl (find f e ss) refl h
    where
      on : (b : Bool) → leb 1 e ≡ b → (o : Option ℕ) → find f e ss ≡ o → require b Unknown (known e o) ≡ no r
          → (r ≡ Unknown) × ((e ≡ 0) ⊎ (find f e ss ≡ none))
      on true l none d z = let y : r ≡ Unknown = cc in (y, inr d)
      on true l (some w) d z = clash (cc)
      on false l o d z = let y : r ≡ Unknown = cc in (y, inl (omega (arith, leb-false 1 e l)))

  -- a family that has an edition has a newest
  newest_lacks : (r : Refusal) → get_newest f ss ≡ no r → (r ≡ Unknown) × (newest f ss ≡ 0)
  unfolding get_newest
  newest_lacks r h = ((get_lacks (newest f ss) r h).0, on (newest f ss) refl)
    where
      on : (n : ℕ) → newest f ss ≡ n → newest f ss ≡ 0
      on zero q = q
      on (suc n) q =
          let w = newest_held f ss (omega arith) in
          let z = sym (get_some f (newest f ss) w.0 ss (omega arith) w.1) ∙ h in
          clash (cc)

  drop_lacks : (r : Refusal) → drop_old f ss ≡ no r → (r ≡ Unknown) × (newest f ss ≡ 0)
  unfolding drop_old require
  drop_lacks r h = on (leb 1 (newest f ss)) refl h
    where
      on : (b : Bool) → leb 1 (newest f ss) ≡ b → require b Unknown (ok (newest f ss)) ≡ no r → (r ≡ Unknown) × (newest f ss ≡ 0)
      on true l z = clash (cc)
      on false l z = let y : r ≡ Unknown = cc in (y, omega (arith, leb-false 1 (newest f ss) l))

  add_lacks : (r : Refusal) → add f ss ≡ no r → (r ≡ Full) × ((has_free ss ≡ false) ⊎ (65535 ≤ newest f ss))
  unfolding add require
  add_lacks r h = on (has_free ss) refl (ltb (newest f ss) 65535) refl h
    where
      on : (b : Bool) → has_free ss ≡ b → (c : Bool) → ltb (newest f ss) 65535 ≡ c → require (b && c) Full (ok (suc (newest f ss))) ≡ no r
          → (r ≡ Full) × ((has_free ss ≡ false) ⊎ (65535 ≤ newest f ss))
      on true e true l z = clash (cc)
      on true e false l z = let y : r ≡ Full = cc in (y, inr (ltb-false (newest f ss) 65535 l))
      on false e c l z = let y : r ≡ Full = cc in (y, inl e)

  -- lacks: of every good store, and of any other
  pub lacks : Lacks ss f
  lacks = record { get_17 = get_lacks; newest_17 = newest_lacks; drop_17 = drop_lacks; add_18 = add_lacks }
