-- What the functions for C answer: structs of numbers, the first 0 where nothing is refused.
use Rattle.rules.specs.declared.Address.{Address}
use Rattle.rules.specs.declared.Refusal.{Refusal}
use Rattle.rules.specs.declared.Sizes.{Sizes}
use Rattle.std.specs.Prelude.{◌≡◌, List, not, ℕ, eqb, length, Err, Result, Ok}
use Rattle.rules.specs.declared.Settings.{Settings}
use Rattle.rules.specs.Answers.{Judged, ok, no}
use Rattle.rules.specs.Programs.{Program}
use Rattle.rules.specs.Run.{Output, assembled, answer_of, listing_after, image_after}
use Rattle.rules.specs.Refusals.{Fault, of_none, fault_of}
use Rattle.entries.specs.Assembling.{answer_as, room_as}
use Rattle.digits.specs.Leaves.{answer_as as text_as, room_as as text_room}
use Rattle.readable.specs.Readable.{readable}
use Rattle.sits.specs.All.{laid_out, laid_as, table_after}
use Rattle.border_core.specs.declared.faults.Told.{Told}
use Rattle.border_core.specs.declared.replies.Reply.{Reply}
use Rattle.border_core.specs.declared.replies.CountedReply.{CountedReply}
use Rattle.border_core.specs.declared.replies.SitsReply.{SitsReply}

-- settings as three bytes: 0 is no, any other yes
abbrev pub asked_by : (comments callf folds : ℕ) → Settings
asked_by comments callf folds = record { comments = not (eqb comments 0); callf = not (eqb callf 0); folds = not (eqb folds 0) }

-- "Each returns its number and the statement's place from 0; 12 returns the statement count"; C-12: "Refusals 8 to 11 shall also give the argument's
-- place from 0 and the signed number at fault". The four numbers, zeros where nothing is refused
abbrev pub nothing : Fault
nothing = of_none 0

pub record Tells (t : Told) (f : Fault) : Type 0 where
  pub number : t.number ≡ f.number
  pub place : t.place ≡ f.place
  pub argument : t.argument ≡ f.argument
  pub amount : t.amount ≡ f.amount

-- ---- document 01

abbrev pub fault_in : Result Sizes Refusal → Fault
fault_in (Ok s) = nothing
fault_in (Err r) = fault_of r

abbrev pub listing_of : Result Sizes Refusal → ℕ
listing_of (Ok s) = s.listing
listing_of (Err r) = 0

abbrev pub rewrites_of : Result Sizes Refusal → ℕ
rewrites_of (Ok s) = s.rewrites
rewrites_of (Err r) = 0

abbrev pub image_of : Result Sizes Refusal → ℕ
image_of (Ok s) = s.image
image_of (Err r) = 0

pub record Says (r : Reply) (a : Result Sizes Refusal) : Type 0 where
  pub number : r.number ≡ (fault_in a).number
  pub place : r.place ≡ (fault_in a).place
  pub argument : r.argument ≡ (fault_in a).argument
  pub amount : r.amount ≡ (fault_in a).amount
  pub listing : r.listing ≡ listing_of a
  pub rewrites : r.rewrites ≡ rewrites_of a
  pub image : r.image ≡ image_of a

-- `assemble`, with its answer so
pub record Assembles (text : List ℕ) (r : Reply) (room room' : List ℕ) : Type 0 where
  pub says : Says r (answer_as (assembled text (length room)))
  pub room_is : room' ≡ room_as (assembled text (length room)) room

-- C-16: `readable_text`, with its answer so
pub record Reads (text : List ℕ) (r : Reply) (room room' : List ℕ) : Type 0 where
  pub says : Says r (text_as (readable text (length room)))
  pub room_is : room' ≡ text_room (readable text (length room)) room

-- a run that ends so
pub record Ends (end : Judged Output) (r : Reply) (out image out' image' : List ℕ) : Type 0 where
  pub says : Says r (answer_of end)
  pub listing_is : out' ≡ listing_after end out
  pub image_is : image' ≡ image_after end image

-- ---- "1 a line or frame breaks the listing form; 2 a limit above is passed", and how many statements there are

abbrev pub counted_as : Judged Program → Result ℕ Refusal
counted_as (ok p) = Ok (length p)
counted_as (no r) = Err r

abbrev pub count_fault : Result ℕ Refusal → Fault
count_fault (Ok n) = nothing
count_fault (Err r) = fault_of r

abbrev pub count_of : Result ℕ Refusal → ℕ
count_of (Ok n) = n
count_of (Err r) = 0

pub record SaysCounted (r : CountedReply) (a : Result ℕ Refusal) : Type 0 where
  pub number : r.number ≡ (count_fault a).number
  pub place : r.place ≡ (count_fault a).place
  pub argument : r.argument ≡ (count_fault a).argument
  pub amount : r.amount ≡ (count_fault a).amount
  pub statements : r.statements ≡ count_of a

-- ---- C-17, `where_sits` and `all_sit`

abbrev pub sits_fault : Result Address Refusal → Fault
sits_fault (Ok a) = nothing
sits_fault (Err r) = fault_of r

abbrev pub address_of : Result Address Refusal → ℕ
address_of (Ok a) = a.0
address_of (Err r) = 0

pub record SaysSits (r : SitsReply) (a : Result Address Refusal) : Type 0 where
  pub number : r.number ≡ (sits_fault a).number
  pub place : r.place ≡ (sits_fault a).place
  pub argument : r.argument ≡ (sits_fault a).argument
  pub amount : r.amount ≡ (sits_fault a).amount
  pub address : r.address ≡ address_of a

pub record Positions (text : List ℕ) (r : CountedReply) (table table' : List ℕ) : Type 0 where
  pub says : SaysCounted r (laid_as (laid_out text))
  pub table_is : table' ≡ table_after (laid_out text) table
