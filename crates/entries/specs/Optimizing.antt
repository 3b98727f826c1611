-- What the main entry answers, phase by phase: rules' `run`, as an answer and as both rooms' bytes at the end.
use Rattle.std.specs.Prelude.{◌≡◌, List, ℕ, length}
use Rattle.laws.specs.Lists.{total}
use Rattle.rules.specs.declared.Settings.{Settings}
use Rattle.rules.specs.Answers.{Judged, ok, ◌>>◌}
use Rattle.rules.specs.Programs.{Program}
use Rattle.rules.specs.Listing.{Beside}
use Rattle.rules.specs.Judging.{judge}
use Rattle.rules.specs.Rewriting.{Chain, anchor, chain, instr_bytes}
use Rattle.rules.specs.Output.{shown}
use Rattle.rules.specs.Run.{Output}
use Rattle.output.specs.Stems.{kept_to}
use Rattle.slots.specs.State.{forms_in, carry_in, owners_in, offsets_in}
use Rattle.finishing.specs.Ending.{result_of, roomed}
pub use Rattle.finishing.specs.Ending.{Delivers}

-- what is handed out of an anchored program: comments go "after all rewriting"
unfoldable pub rewritten : Settings → Beside → Program → Output
rewritten asked b q =
    let end : Chain = chain asked (total instr_bytes q) q in
    result_of b (shown asked end.program) end.count

-- a program as read: "After the first assembly only 12 can be given"
unfoldable pub judged_run : Settings → Beside → (listing_room image_room list_room : ℕ) → Program → Judged Output
judged_run asked b listing_room image_room list_room p =
    judge p >> roomed (length p) listing_room image_room list_room (rewritten asked b (anchor p))

-- the rows of a state are whole
pub record Full (state : List (List ℕ)) : Type 0 where
  pub forms : length (forms_in state) ≡ 1025
  pub carry : length (carry_in state) ≡ 1025
  pub owners : length (owners_in state) ≡ 1025
  pub offsets : length (offsets_in state) ≡ 1025

-- the slots that are left at the end are those that the output's statements stem from
abbrev pub Left : Judged Output → (forms : List ℕ) (count : ℕ) → Type 0
Left x forms count = (o : Output) → x ≡ ok o → kept_to forms count ≡ o.stems
