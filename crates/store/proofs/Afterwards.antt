-- What is asked for after adding and after dropping: "never alters an old one", "the newest can be asked for", "the newest stays".
use mathlib.Core.Path.{◌≡◌, refl, sym, ◌∙◌, ap}
use mathlib.Core.List.{List, [], ◌∷◌}
use mathlib.Core.Logic.{◌≢◌}
use mathlib.Core.Option.{Option, none, some}
use mathlib.Core.Bool.{Bool, true, false, cond}
use Prim.Native.Nat.{ℕ, zero, suc, ◌<◌, ◌≤◌, max}
use native.Mathlib.Omega.{arith}
use lib.Dec.{leb, eqb}
use lib.ListN.{length}
use borrow.Author.Tests.{le-leb, eqb-false}
use Rattle.rules.specs.declared.Refusal.TheVariants.{Unknown}
use Rattle.rules.specs.declared.Settings.{Settings}
use Rattle.rules.specs.Answers.{Judged, ok, no, require}
use Rattle.rules.proofs.Laws.{no_ok, require_ok}
use Rattle.store.specs.declared.Edition.{Edition}
use Rattle.store.specs.Switches.{switches_of, settings_of}
use Rattle.store.specs.Store.{Store, is_good, find, newest, known, get, get_newest, has_free, added, add, dropped, drop_old}
use Rattle.store.specs.Rooms.{store_in, in_store, newest_in, add_in, drop_in, after_add, after_drop}
use Rattle.store.specs.Promise.{Adds, Drops, Holds, Grown, Thinned}
use Rattle.store.proofs.Causes.{asks}
use Rattle.store.proofs.SwitchBits.{small, settings_back}
use Rattle.store.proofs.OldOnesStay.{adds}
use Rattle.store.proofs.NewestStays.{drops}
use Rattle.store.proofs.RoomHolds.{in_store_lem, add_ok, drop_ok, keeps}

-- a room that holds this store in front
module _ (room room' : List ℕ) (ss : Store) (h : Holds room room' ss) (long : 160 ≤ length room) (good : is_good ss ≡ true) where
  asks_held : {A : Type 0} (f : Store → Judged A) → in_store room' f ≡ f ss
  asks_held f = asks room' f (rw h.as_long long) (rw h.store good) ∙ ap f h.store

-- ---- asking by what is found

pub get_some : (f e w : ℕ) (ss : Store) → 1 ≤ e → find f e ss ≡ some w → get f e ss ≡ ok (record { number = e; settings = settings_of w })
unfolding get require
get_some f e w ss l h = rw (le-leb 1 e l, h)

get_none : (f e : ℕ) (ss : Store) → find f e ss ≡ none → get f e ss ≡ no Unknown
unfolding get require
get_none f e ss h = rw h (on (leb 1 e))
  where
    on : (t : Bool) → require {A = Edition} t Unknown (no Unknown) ≡ no Unknown
    on true = refl
    on false = refl

get_zero : (f : ℕ) (ss : Store) → get f 0 ss ≡ no Unknown
unfolding get require
get_zero f ss = refl

-- where the same is found, the same is answered
get_same : (f e : ℕ) (ss tt : Store) → (1 ≤ e → find f e ss ≡ find f e tt) → get f e ss ≡ get f e tt
unfolding get require
get_same f zero ss tt h = refl
get_same f (suc e) ss tt h = ap (λ (o : Option ℕ). require (leb 1 (suc e)) Unknown (known (suc e) o)) (h (omega arith))

-- an edition that is answered has the number that was asked for
abbrev number_of : Judged Edition → ℕ
number_of (ok e) = e.number
number_of (no r) = 0

number_is : (f e : ℕ) (ss : Store) (old : Edition) → get f e ss ≡ ok old → e ≡ old.number
unfolding get
number_is f e ss old h = on (find f e ss) (require_ok (leb 1 e) Unknown (known e (find f e ss)) old h).1
  where
    on : (o : Option ℕ) → known e o ≡ ok old → e ≡ old.number
    on none q = no_ok Unknown old q
    on (some w) q = ap number_of q

-- a family's newest edition is held
pub newest_held : (f : ℕ) (ss : Store) → 1 ≤ newest f ss → (w : ℕ) × (find f (newest f ss) ss ≡ some w)
unfolding newest find
newest_held f [] h = absurd (omega arith)
newest_held f (s ∷ ss) h = on (eqb s.family f) refl h (newest_held f ss)
  where
    -- in this place, or behind it
    later : eqb s.family f ≡ true → eqb s.edition (max s.edition (newest f ss)) ≡ false
        → max s.edition (newest f ss) ≡ newest f ss
        → (w : ℕ) × (find f (newest f ss) ss ≡ some w)
        → (w : ℕ) × (find f (max s.edition (newest f ss)) (s ∷ ss) ≡ some w)
    later e q z b = (b.0, rw (e, q) (ap (λ (m : ℕ). find f m ss) z ∙ b.1))

    here : (u : Bool) → eqb s.family f ≡ true → eqb s.edition (max s.edition (newest f ss)) ≡ u
        → 1 ≤ max s.edition (newest f ss)
        → (1 ≤ newest f ss → (w : ℕ) × (find f (newest f ss) ss ≡ some w))
        → (w : ℕ) × (find f (max s.edition (newest f ss)) (s ∷ ss) ≡ some w)
    here true e q h below = (s.switches, rw (e, q))
    here false e q h below =
        let z : max s.edition (newest f ss) ≡ newest f ss = omega (arith, eqb-false s.edition (max s.edition (newest f ss)) q) in
        later e q z (below (omega arith))

    on : (t : Bool) → eqb s.family f ≡ t → 1 ≤ cond t (max s.edition (newest f ss)) (newest f ss)
        → (1 ≤ newest f ss → (w : ℕ) × (find f (newest f ss) ss ≡ some w))
        → (w : ℕ) × (find f (cond t (max s.edition (newest f ss)) (newest f ss)) (s ∷ ss) ≡ some w)
    on true e h below = here (eqb s.edition (max s.edition (newest f ss))) e refl h below
    on false e h below = let b = below h in (b.0, rw e b.1)

-- ---- after adding
module _ (room : List ℕ) (f : ℕ) (asked : Settings) (e : ℕ) (h : add_in room f ≡ ok e) where
  abbrev ss : Store
  ss = store_in room

  abbrev more : Store
  more = added f (switches_of asked) ss

  told : (160 ≤ length room) × (is_good ss ≡ true) × (add f ss ≡ ok e)
  told = in_store_lem room (λ ss. add f ss) e h

  allowed : (has_free ss ≡ true) × (newest f ss < 65535) × (suc (newest f ss) ≡ e)
  allowed = add_ok f e ss told.2

  facts : Adds ss f (switches_of asked)
  facts = adds ss f (switches_of asked) allowed.0

  then : {A : Type 0} (g : Store → Judged A) → in_store (after_add room f asked) g ≡ g more
  then g =
      asks_held room (after_add room f asked) more ((keeps room f).added_is asked e h).1 told.0 (facts.good (small asked) told.1) g

  before : {A : Type 0} (g : Store → Judged A) → in_store room g ≡ g ss
  before g = asks room g told.0 told.1

  found : get f e more ≡ ok (record { number = e; settings = asked })
  found =
      let z = ap (λ (n : ℕ). find f n more) (sym allowed.2) ∙ facts.new_one in
      get_some f e (switches_of asked) more (omega (arith, allowed.2)) z
      ∙ ap (λ (x : Settings). ok (record { number = e; settings = x })) (settings_back asked)

  -- an answer on the newest of a family that another edition does not touch
  newest_same : (g : ℕ) → g ≢ f → get_newest g more ≡ get_newest g ss
  unfolding get_newest
  newest_same g n = rw (facts.others g n) (get_same g (newest g ss) more ss (λ l. facts.old_ones g (newest g ss) l (λ p q. n p)))

  first : newest_in room f ≡ no Unknown → newest f ss ≡ 0
  unfolding get_newest
  first u = on (newest f ss) refl
    where
      on : (n : ℕ) → newest f ss ≡ n → newest f ss ≡ 0
      on zero q = q
      on (suc n) q =
          let w = newest_held f ss (omega arith) in
          let o = get_some f (newest f ss) w.0 ss (omega arith) w.1 in
          no_ok Unknown _ (sym u ∙ before (λ ss. get_newest f ss) ∙ o)

  pub grown : Grown room f asked e
  unfolding get_newest
  grown =
      record {
        new_one = then (λ ss. get f e ss) ∙ found;
        newest_is = then (λ ss. get_newest f ss) ∙ ap (λ (n : ℕ). get f n more) (facts.newest_is ∙ allowed.2) ∙ found;
        old_ones =
            λ g n other. then (λ ss. get g n ss) ∙ get_same g n more ss (λ l. facts.old_ones g n l (λ p q. other p (q ∙ allowed.2)))
            ∙ sym (before (λ ss. get g n ss));
        others = λ g n. then (λ ss. get_newest g ss) ∙ newest_same g n ∙ sym (before (λ ss. get_newest g ss));
        first_is_1 = λ u. omega (arith, first u, allowed.2);
        one_above = λ old q. sym allowed.2 ∙ ap suc (number_is f (newest f ss) ss old (sym (before (λ ss. get_newest f ss)) ∙ q));
      }

-- ---- after dropping
module _ (room : List ℕ) (f e : ℕ) (h : drop_in room f ≡ ok e) where
  abbrev kept : Store
  kept = dropped f (store_in room)

  told_drop : (160 ≤ length room) × (is_good (store_in room) ≡ true) × (drop_old f (store_in room) ≡ ok e)
  told_drop = in_store_lem room (λ ss. drop_old f ss) e h

  top : newest f (store_in room) ≡ e
  top = (drop_ok f e (store_in room) told_drop.2).1

  drop_facts : Drops (store_in room) f
  drop_facts = drops (store_in room) f

  held : Holds room (after_drop room f) kept
  held = ((keeps room f).dropped_is e h).1

  then_drop : {A : Type 0} (g : Store → Judged A) → in_store (after_drop room f) g ≡ g kept
  then_drop g = asks_held room (after_drop room f) kept held told_drop.0 (drop_facts.good told_drop.1) g

  before_drop : {A : Type 0} (g : Store → Judged A) → in_store room g ≡ g (store_in room)
  before_drop g = asks room g told_drop.0 told_drop.1

  same_newest : get_newest f kept ≡ get_newest f (store_in room)
  unfolding get_newest
  same_newest = rw drop_facts.newest_stays (get_same f (newest f (store_in room)) kept (store_in room) drop_facts.still_held)

  other_newest : (g : ℕ) → g ≢ f → get_newest g kept ≡ get_newest g (store_in room)
  unfolding get_newest
  other_newest g n =
      rw (drop_facts.others_newest g n) (get_same g (newest g (store_in room)) kept (store_in room) (λ l. drop_facts.others g (newest g (store_in room)) l n))

  gone : (n : ℕ) → n < e → get f n kept ≡ no Unknown
  gone zero l = get_zero f kept
  gone (suc n) l = get_none f (suc n) kept (drop_facts.old_gone (suc n) (omega arith) (omega (arith, top)))

  pub thinned : Thinned room f e
  thinned =
      record {
        newest_stays = then_drop (λ ss. get_newest f ss) ∙ same_newest ∙ sym (before_drop (λ ss. get_newest f ss));
        old_gone = λ n l. then_drop (λ ss. get f n ss) ∙ gone n l;
        others =
            λ g n o. then_drop (λ ss. get g n ss) ∙ get_same g n kept (store_in room) (λ l. drop_facts.others g n l o)
            ∙ sym (before_drop (λ ss. get g n ss));
        others_newest = λ g o. then_drop (λ ss. get_newest g ss) ∙ other_newest g o ∙ sym (before_drop (λ ss. get_newest g ss));
        next_number = λ n a. sym (add_ok f n kept (sym (then_drop (λ ss. add f ss)) ∙ a)).2 ∙ ap suc (drop_facts.newest_stays ∙ top);
        room_back = rw (held.store, ← top) drop_facts.room_back;
      }
