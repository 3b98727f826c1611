-- Document 02, C-24: "A run under a setting equals document 01 without the switched-off steps". The definitions of a run take the settings
-- (rules), so a run under an edition is the run under the settings that the store has for it. "Refusals, before any of document 01: .."
use Rattle.rules.specs.declared.Refusal.{Refusal}
use Rattle.std.specs.Prelude.{List, ℕ, Err, Result, Ok}
use Rattle.rules.specs.Answers.{Judged, no, ◌>>=◌}
use Rattle.rules.specs.Run.{Output, run}
use Rattle.store.specs.declared.Edition.{Edition}
use Rattle.store.specs.Rooms.{get_in, newest_in}

-- the run under what was asked of the store, if that is not refused
unfoldable pub under : Judged Edition → (text : List ℕ) (listing_room image_room : ℕ) → Judged Output
under x text listing_room image_room = do
  e ← x
  run e.settings text listing_room image_room

-- under edition e of family f
abbrev pub run_edition : (store : List ℕ) (f e : ℕ) (text : List ℕ) (listing_room image_room : ℕ) → Judged Output
run_edition store f e text listing_room image_room = under (get_in store f e) text listing_room image_room

-- under the newest edition of family f
abbrev pub run_newest : (store : List ℕ) (f : ℕ) (text : List ℕ) (listing_room image_room : ℕ) → Judged Output
run_newest store f text listing_room image_room = under (newest_in store f) text listing_room image_room

-- the same by the code's answer
abbrev pub run_found : Result Edition Refusal → (text : List ℕ) (listing_room image_room : ℕ) → Judged Output
run_found (Ok e) text listing_room image_room = run e.settings text listing_room image_room
run_found (Err r) text listing_room image_room = no r
