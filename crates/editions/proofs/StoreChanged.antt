-- A run under an edition after the store was changed: "never alters an old one", "the newest stays".
use mathlib.Core.Path.{◌≡◌, ap}
use mathlib.Core.List.{List}
use Prim.Native.Nat.{ℕ}
use Rattle.rules.specs.declared.Settings.{Settings}
use Rattle.rules.specs.Answers.{Judged, ok, ◌>>=◌}
use Rattle.rules.specs.Run.{run}
use Rattle.store.specs.declared.Edition.{Edition}
use Rattle.store.specs.Rooms.{add_in, drop_in}
use Rattle.store.proofs.Afterwards.{grown, thinned}
use Rattle.editions.specs.Under.{under}
use Rattle.editions.specs.Promise.{RunsAfterAdding, RunsAfterDropping}

module _ (text : List ℕ) (listing_room image_room : ℕ) where
  -- where the store answers the same, the run is the same
  same_run : (x y : Judged Edition) → x ≡ y → under x text listing_room image_room ≡ under y text listing_room image_room
  same_run x y e = ap (λ (z : Judged Edition). under z text listing_room image_room) e

  run_of : (x : Judged Edition) (e : Edition) → x ≡ ok e → under x text listing_room image_room ≡ run e.settings text listing_room image_room
  unfolding under ◌>>=◌
  run_of x e q = rw q

  pub runs_after_adding : (store : List ℕ) (f : ℕ) (asked : Settings) (e : ℕ) → add_in store f ≡ ok e
      → RunsAfterAdding store f asked e text listing_room image_room
  runs_after_adding store f asked e h =
      let g = grown store f asked e h in
      record {
        new_one = run_of _ _ g.new_one;
        newest = run_of _ _ g.newest_is;
        old_ones = λ k n o. same_run _ _ (g.old_ones k n o);
        others = λ k o. same_run _ _ (g.others k o);
      }

  pub runs_after_dropping : (store : List ℕ) (f e : ℕ) → drop_in store f ≡ ok e → RunsAfterDropping store f text listing_room image_room
  runs_after_dropping store f e h =
      let t = thinned store f e h in
      record { newest_stays = same_run _ _ t.newest_stays; others = λ g n o. same_run _ _ (t.others g n o) }
