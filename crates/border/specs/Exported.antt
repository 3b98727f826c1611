-- What the functions for C answer of a store: structs of numbers, the first 0 where nothing is refused.
use Rattle.rules.specs.declared.Refusal.{Refusal}
use Rattle.std.specs.Prelude.{◌≡◌, List, Bool, cond, ℕ, eqb, Err, Ok, Result, Some, None, Option}
use Rattle.rules.specs.Answers.{Judged}
use Rattle.rules.specs.Run.{Output}
use Rattle.rules.specs.Refusals.{Fault, fault_of}
use Rattle.store.specs.declared.Edition.{Edition}
use Rattle.store.specs.declared.Setting.{Setting}
use Rattle.store.specs.Rooms.{get_in, newest_in, place_in, found_as, shown_as}
use Rattle.store.specs.Switches.{settings_of}
use Rattle.editions.specs.Under.{under}
use Rattle.border_core.specs.Replies.{nothing}
use Rattle.border.specs.declared.replies.NumberedReply.{NumberedReply}
use Rattle.border.specs.declared.replies.FoundReply.{FoundReply}
use Rattle.border.specs.declared.replies.ShownReply.{ShownReply}

-- a setting as a number
abbrev pub bit : Bool → ℕ
bit b = cond b 1 0

-- ---- C-24, a run under an edition

-- under edition e of family f; 0 asks for the newest, for no edition has this number
abbrev pub run_under : (store : List ℕ) (f e : ℕ) (text : List ℕ) (listing_room image_room : ℕ) → Judged Output
run_under store f e text listing_room image_room =
    under (cond (eqb e 0) (newest_in store f) (get_in store f e)) text listing_room image_room

-- ---- C-24, `add_edition` and `drop_old`

abbrev pub numbered_fault : Result ℕ Refusal → Fault
numbered_fault (Ok n) = nothing
numbered_fault (Err r) = fault_of r

abbrev pub number_of : Result ℕ Refusal → ℕ
number_of (Ok n) = n
number_of (Err r) = 0

pub record SaysNumbered (r : NumberedReply) (a : Result ℕ Refusal) : Type 0 where
  pub number : r.number ≡ (numbered_fault a).number
  pub place : r.place ≡ (numbered_fault a).place
  pub argument : r.argument ≡ (numbered_fault a).argument
  pub amount : r.amount ≡ (numbered_fault a).amount
  pub edition : r.edition ≡ number_of a

-- ---- C-24, `get_edition` and `get_newest`

abbrev pub found_fault : Result Edition Refusal → Fault
found_fault (Ok e) = nothing
found_fault (Err r) = fault_of r

-- a number of the edition that was found
abbrev pub of_found : (Edition → ℕ) → Result Edition Refusal → ℕ
of_found f (Ok e) = f e
of_found f (Err r) = 0

pub record SaysFound (r : FoundReply) (a : Result Edition Refusal) : Type 0 where
  pub number : r.number ≡ (found_fault a).number
  pub place : r.place ≡ (found_fault a).place
  pub argument : r.argument ≡ (found_fault a).argument
  pub amount : r.amount ≡ (found_fault a).amount
  pub edition : r.edition ≡ of_found (λ e. e.number) a
  pub comments : r.comments ≡ of_found (λ e. bit e.settings.comments) a
  pub callf : r.callf ≡ of_found (λ e. bit e.settings.callf) a
  pub folds : r.folds ≡ of_found (λ e. bit e.settings.folds) a

-- ---- C-24, `show_place`

abbrev pub shown_fault : Result (Option Setting) Refusal → Fault
shown_fault (Ok (Some s)) = nothing
shown_fault (Ok None) = nothing
shown_fault (Err r) = fault_of r

-- a number of what the place holds
abbrev pub of_shown : (Setting → ℕ) → Result (Option Setting) Refusal → ℕ
of_shown f (Ok (Some s)) = f s
of_shown f (Ok None) = 0
of_shown f (Err r) = 0

pub record SaysShown (r : ShownReply) (a : Result (Option Setting) Refusal) : Type 0 where
  pub number : r.number ≡ (shown_fault a).number
  pub place : r.place ≡ (shown_fault a).place
  pub argument : r.argument ≡ (shown_fault a).argument
  pub amount : r.amount ≡ (shown_fault a).amount
  pub held : r.held ≡ of_shown (λ s. 1) a
  pub family : r.family ≡ of_shown (λ s. s.family) a
  pub edition : r.edition ≡ of_shown (λ s. s.edition) a
  pub comments : r.comments ≡ of_shown (λ s. bit (settings_of s.switches).comments) a
  pub callf : r.callf ≡ of_shown (λ s. bit (settings_of s.switches).callf) a
  pub folds : r.folds ≡ of_shown (λ s. bit (settings_of s.switches).folds) a

-- what is shown: `mortarbee_get_edition` answers the same of the edition that a place shows
pub record AsShown (r : ShownReply) (q : FoundReply) : Type 0 where
  pub done : q.number ≡ 0
  pub edition : q.edition ≡ r.edition
  pub comments : q.comments ≡ r.comments
  pub callf : q.callf ≡ r.callf
  pub folds : q.folds ≡ r.folds

abbrev pub ShowsRight : (room : List ℕ) → Type 0
ShowsRight room =
    (k : ℕ) (r : ShownReply) → SaysShown r (shown_as (place_in room k)) → r.held ≡ 1
    → (q : FoundReply) → SaysFound q (found_as (get_in room r.family r.edition)) → AsShown r q
