-- What `why` answers to a listing and a room, and what it leaves in it.
use Rattle.rules.specs.declared.Refusal.{Refusal}
use Rattle.rules.specs.declared.Sizes.{Sizes}
use Rattle.std.specs.Prelude.{◌≡◌, List, ℕ, leb, length, Err, Result, Ok}
use Rattle.laws.specs.Lists.{total}
use Rattle.rules.specs.declared.Settings.{Settings}
use Rattle.rules.specs.declared.Refusal.TheVariants.{Room}
use Rattle.rules.specs.Answers.{Judged, ok, no, ◌>>=◌, require}
use Rattle.rules.specs.Programs.{Program}
use Rattle.rules.specs.Rewriting.{Chain, chain, optimized, instr_bytes}
use Rattle.rules.specs.Run.{front}
use Rattle.starting.specs.Begun.{accepted}
use Rattle.staying.specs.Reasons.{Why, whys}
use Rattle.staying.specs.Lines.{why_lines}

-- what stands in the way at an end form, and how many rewrites led to it
pub record Told : Type 0 where
  pub whys : List Why
  pub rewrites : ℕ

unfoldable pub end_told : Settings → (end : Program) (rewrites : ℕ) → Told
end_told asked end n = record { whys = whys asked end; rewrites = n }

abbrev pub chain_told : Settings → Chain → Told
chain_told asked c = end_told asked c.program c.count

-- 12 where the room is too short for the lines, with the statement count
unfoldable pub told_in : (count : ℕ) → Told → (room : ℕ) → Judged Told
told_in count x room = require (leb (length (why_lines x.whys)) room) (Room count) (ok x)

-- "for each Jmpf and Callf that is left, and each branch that begins a pattern and was not folded": the end form's, or the listing's refusal
unfoldable pub told : Settings → (text : List ℕ) (room : ℕ) → Judged Told
told asked text room = do
  p ← accepted text
  told_in (length p) (chain_told asked (optimized asked p)) room

abbrev pub answer_as : Judged Told → Result Sizes Refusal
answer_as (ok x) = Ok (record { listing = length (why_lines x.whys); rewrites = x.rewrites; image = 0 })
answer_as (no r) = Err r

-- "No lent byte changes" on refusal; "On acceptance, room beyond the result is unchanged."
abbrev pub room_as : Judged Told → (room : List ℕ) → List ℕ
room_as (ok x) room = front (why_lines x.whys) room
room_as (no r) room = room

pub record Leaves (x : Judged Told) (r : Result Sizes Refusal) (before after : List ℕ) : Type 0 where
  pub answer : r ≡ answer_as x
  pub room : after ≡ room_as x before

-- ---- words of the code's contracts

-- of an anchored program q
unfoldable pub told_from : Settings → (q : Program) → Told
told_from asked q = chain_told asked (chain asked (total instr_bytes q) q)
