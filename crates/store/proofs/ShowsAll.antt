-- What is shown place by place is what can be asked for.
use mathlib.Core.Path.{◌≡◌, refl, sym, ◌∙◌, ap}
use mathlib.Core.List.{List, [], ◌∷◌}
use mathlib.Core.Logic.{⊎_elim}
use mathlib.Core.Option.{Option, none, some}
use mathlib.Core.Bool.{Bool, true, false, ◌&&◌, ◌||◌, not, cond}
use Prim.Native.Nat.{ℕ, zero, suc, ◌<◌, ◌≤◌}
use native.Mathlib.Omega.{arith}
use lib.Dec.{leb, eqb}
use lib.ListN.{length, get_or}
use borrow.Author.Tests.{eqb-true, eq-eqb, not-true}
use Rattle.laws.specs.Lists.{every}
use Rattle.laws.proofs.Lists.{every_at}
use Rattle.laws.proofs.Stores.{get_out}
use Rattle.laws.proofs.Tests.{and_true, true_false, none_some, lt_or_le}
use Rattle.rules.specs.declared.Refusal.TheVariants.{Unknown}
use Rattle.rules.specs.Answers.{ok}
use Rattle.rules.proofs.Laws.{no_ok, require_ok}
use Rattle.store.specs.declared.Setting.{Setting}
use Rattle.store.specs.declared.Edition.{Edition}
use Rattle.store.specs.Switches.{settings_of}
use Rattle.store.specs.Store.{Store, free, is_free, is_of, in_range, none_holds, alone, none_twice, is_good, find, known, get, place_at}
use Rattle.store.specs.Rooms.{store_in, get_in, place_in}
use Rattle.store.specs.Promise.{ShownRight}
use Rattle.store.proofs.OldOnesStay.{free_is, no_edition, eqb_sym}
use Rattle.store.proofs.NewestStays.{in_range_some}
use Rattle.store.proofs.RoomHolds.{in_store_lem, length_store}
use Rattle.store.proofs.Causes.{asks}
use Rattle.store.proofs.Afterwards.{get_some}

-- ---- a place that is not free is found under its own family and edition
module _ (k : ℕ) where
  -- a place before it holds another
  other : (x s : Setting) (ss : Store) → 1 ≤ s.edition → alone x ss ≡ true → k < length ss → get_or ss k free ≡ s
      → is_of s.family s.edition x ≡ false
  unfolding none_holds
  other x s ss l a m e = on (is_free x) refl a
    where
      on : (t : Bool) → is_free x ≡ t → t || none_holds x.family x.edition ss ≡ true → is_of s.family s.edition x ≡ false
      on true q h = no_edition s.family s.edition x (free_is x q).1 l
      on false q h =
          let n = not-true _ (every_at (λ y. not (is_of x.family x.edition y)) ss k free m h) in
          let o = ap (is_of x.family x.edition) (sym e) ∙ n in
          rw (eqb_sym x.family s.family, eqb_sym x.edition s.edition) o

found_at : (ss : Store) (k : ℕ) (s : Setting) → 1 ≤ s.edition → none_twice ss ≡ true → k < length ss → get_or ss k free ≡ s
    → find s.family s.edition ss ≡ some s.switches
unfolding find none_twice
found_at [] k s l h m e = absurd (omega arith)
found_at (x ∷ ss) zero s l h m e = rw (← e, eq-eqb x.family x.family refl, eq-eqb x.edition x.edition refl)
found_at (x ∷ ss) (suc k) s l h m e =
    let t = and_true (alone x ss) (none_twice ss) h in
    rw (other k x s ss l t.0 (omega arith) e) (found_at ss k s l t.1 (omega arith) e)

-- ---- what is found stands in a place
same_setting : (s : Setting) (f e w : ℕ) → s.family ≡ f → s.edition ≡ e → s.switches ≡ w
    → s ≡ record { family = f; edition = e; switches = w }
same_setting s f e w a b c =
    ap (λ (n : ℕ). setting n s.edition s.switches) a ∙ ap (λ (n : ℕ). setting f n s.switches) b ∙ ap (λ (n : ℕ). setting f e n) c
  where
    setting : (f e w : ℕ) → Setting
    setting f e w = record { family = f; edition = e; switches = w }

place_of : (f e w : ℕ) (ss : Store) → find f e ss ≡ some w
    → (k : ℕ) × (k < length ss) × (get_or ss k free ≡ record { family = f; edition = e; switches = w })
unfolding find
place_of f e w [] h = none_some w h
place_of f e w (s ∷ ss) h = on (eqb s.family f) (eqb s.edition e) refl refl h (place_of f e w ss)
  where
    later : find f e ss ≡ some w
        → (find f e ss ≡ some w → (k : ℕ) × (k < length ss) × (get_or ss k free ≡ record { family = f; edition = e; switches = w }))
        → (k : ℕ) × (k < suc (length ss)) × (get_or (s ∷ ss) k free ≡ record { family = f; edition = e; switches = w })
    later q below = let b = below q in (suc b.0, omega (arith, b.1), b.2)

    on : (a b : Bool) → eqb s.family f ≡ a → eqb s.edition e ≡ b → cond (a && b) (some s.switches) (find f e ss) ≡ some w
        → (find f e ss ≡ some w → (k : ℕ) × (k < length ss) × (get_or ss k free ≡ record { family = f; edition = e; switches = w }))
        → (k : ℕ) × (k < suc (length ss)) × (get_or (s ∷ ss) k free ≡ record { family = f; edition = e; switches = w })
    on true true p q h below =
        let z : s.switches ≡ w = cc in
        (0, omega arith, same_setting s f e w (eqb-true s.family f p) (eqb-true s.edition e q) z)
    on true false p q h below = later h below
    on false b p q h below = later h below

-- ---- of a room

some_of : (e : ℕ) (o : Option ℕ) (x : Edition) → known e o ≡ ok x → (w : ℕ) × (o ≡ some w)
some_of e none x q = no_ok Unknown x q
some_of e (some w) x q = (w, refl)

module _ (room : List ℕ) where
  -- a place that is not free is one of the 32
  inside : (k : ℕ) (s : Setting) → place_at k (store_in room) ≡ s → is_free s ≡ false → k < length (store_in room)
  inside k s e n =
      ⊎_elim (λ l. l) (λ l. true_false (ap is_free (sym (get_out (store_in room) k free l) ∙ e) ∙ n)) (lt_or_le k (length (store_in room)))

  shown_found : (k : ℕ) (s : Setting) → place_in room k ≡ ok s → is_free s ≡ false
      → get_in room s.family s.edition ≡ ok (record { number = s.edition; settings = settings_of s.switches })
  unfolding is_good
  shown_found k s h n =
      let x = in_store_lem room (λ ss. ok (place_at k ss)) s h in
      let e : place_at k (store_in room) ≡ s = cc x.2 in
      let g = and_true (every (λ y. in_range y) (store_in room)) (none_twice (store_in room)) x.1 in
      let m = inside k s e n in
      let l = in_range_some s (ap in_range (sym e) ∙ every_at (λ y. in_range y) (store_in room) k free m g.0) n in
      let f = found_at (store_in room) k s l g.1 m e in
      asks room (λ ss. get s.family s.edition ss) x.0 x.1 ∙ get_some s.family s.edition s.switches (store_in room) l f

  found_shown : (f e : ℕ) (x : Edition) → get_in room f e ≡ ok x
      → (k : ℕ) × (k < 32) × (w : ℕ) × (place_in room k ≡ ok (record { family = f; edition = e; switches = w }))
  unfolding get
  found_shown f e x h =
      let y = in_store_lem room (λ ss. get f e ss) x h in
      let o = find f e (store_in room) in
      let w = some_of e o x (require_ok (leb 1 e) Unknown (known e o) x y.2).1 in
      let p = place_of f e w.0 (store_in room) w.1 in
      (p.0, omega (arith, p.1, length_store room), w.0, asks room (λ ss. ok (place_at p.0 ss)) y.0 y.1 ∙ ap ok p.2)

  -- shows-all: the places show each edition that can be asked for, and nothing else
  pub shows_all : ShownRight room
  shows_all = record { shown_found = shown_found; found_shown = found_shown }
