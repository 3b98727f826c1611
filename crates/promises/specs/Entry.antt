-- The three demands down to the entry: what an answer of `optimize_jumps` says of the bytes that it wrote. Its contract is `Answered` (Demand2), and
-- proofs/Entry derives what stands here from that alone.
use Rattle.std.specs.Prelude.{◌≡◌, List, [], ◌∷◌, true, ℕ, ◌≤◌, length, take, drop, pos, Ok}
use Rattle.std.proofs.Math.Option.{some}
use Rattle.laws.specs.Lists.{total}
use Rattle.rules.specs.declared.Settings.{Settings}
use Rattle.rules.specs.declared.Sizes.{Sizes}
use Rattle.rules.specs.declared.Refusal.{Refusal}
use Rattle.rules.specs.Answers.{ok}
use Rattle.rules.specs.Programs.{Placeℕ, instr, Program, at}
use Rattle.rules.specs.Layout.{origin}
use Rattle.rules.specs.Listing.{read_listing, Beside, beside_of}
use Rattle.rules.specs.Judging.{judge}
use Rattle.rules.specs.Rewriting.{instr_bytes, optimized}
use Rattle.rules.specs.Run.{output_of, rewritten}
use Rattle.promises.specs.Demand1.{has_number, Cause}
use Rattle.promises.specs.Faults.{FirstFault}
use Rattle.promises.specs.Demand2.{output_program, own_from, WithinTotal}
use Rattle.promises.specs.Room.{constants}
use Rattle.promises.specs.Demand3.{Aims, TargetKept, Demand3}
use Rattle.rules.specs.Output.{lines_from}

-- ---- an acceptance: `written` and `bytes` are the listing and the image that were handed out, and `rewrites` the count

-- "They and the rewrite count, which the port adds, are proved equal to definitions written from document 01."
pub record AsDefined (asked : Settings) (b : Beside) (p : Program) (written bytes : List ℕ) (rewrites : ℕ) : Type 0 where
  pub listing : written ≡ (output_of asked b p).listing
  pub image : bytes ≡ (rewritten asked p).image
  pub count : rewrites ≡ (optimized asked p).count

-- "Who has read the shrunk code back?": what was written keeps the listing rules, if it keeps the total limit, and reads as `again`, which assembles as
-- given to the image; its form and its source lines are the input's
pub record ReadAgain (b : Beside) (stems : List Placeℕ) (written bytes : List ℕ) (again : Program) : Type 0 where
  pub reads : WithinTotal b.form again → read_listing written ≡ ok again
  pub form : (beside_of written).form ≡ b.form
  pub lines : (beside_of written).lines ≡ lines_from b.lines stems
  pub assembles : judge again ≡ ok bytes

-- "In the output that target .. names the same offset of the statement that stems from the one it first named": read from what was written, the
-- transfer that carries the target of the input's transfer at place i stands where TargetKept has it, and its number is the address of byte o of
-- that statement there
pub record TargetWritten (asked : Settings) (p again : Program) (i s : Placeℕ) (o : ℕ) (kept : TargetKept asked p i s o) : Type 0 where
  pub stands : at again kept.place ≡ instr kept.form kept.args kept.place
  pub names_byte : origin again (Ok (pos kept.address)) ≡ some (record { place = kept.owner; offset = o })

-- the three demands of an accepted text, and of what was handed out for it
pub record Promised (asked : Settings) (text written bytes : List ℕ) (rewrites : ℕ) : Type 0 where
  -- "it keeps the listing rules, assembles as given"
  pub program : Program
  pub keeps_rules : read_listing text ≡ ok program
  pub image : List ℕ
  pub assembles : judge program ≡ ok image
  -- demand 2
  pub as_defined : AsDefined asked (beside_of text) program written bytes rewrites
  pub again : Program
  pub again_is : again ≡ own_from 0 (output_program asked program)
  pub read_again : ReadAgain (beside_of text) (rewritten asked program).stems written bytes again
  -- C-15: the total limit is kept wherever no constant was a target
  pub no_constants : constants program ≡ 0 → read_listing written ≡ ok again
  -- demand 3
  pub demand_3 : Demand3 asked program
  pub targets_written : (i s : Placeℕ) (o : ℕ) (a : Aims program i s o) → TargetWritten asked program again i s o (demand_3.targets_kept i s o a)
  pub bounded : rewrites ≤ total instr_bytes program

-- "On acceptance, room beyond the result is unchanged": a result of n bytes stands in front
pub record BeyondKept (n : ℕ) (room room' : List ℕ) : Type 0 where
  pub holds : n ≤ length room
  pub beyond : drop n room' ≡ drop n room
  pub as_long : length room' ≡ length room

-- what the answer `Ok sizes` says
pub record OnAcceptance (asked : Settings) (text listing image : List ℕ) (sizes : Sizes) (listing' image' : List ℕ) : Type 0 where
  pub promised : Promised asked text (take sizes.listing listing') (take sizes.image image') sizes.rewrites
  pub listing_room_holds : BeyondKept sizes.listing listing listing'
  pub image_room_holds : BeyondKept sizes.image image image'

-- ---- a refusal

abbrev pub twelve : List ℕ
twelve = 1 ∷ 2 ∷ 3 ∷ 4 ∷ 5 ∷ 6 ∷ 7 ∷ 8 ∷ 9 ∷ 10 ∷ 11 ∷ 12 ∷ []

-- what the answer `Err r` says: "one of twelve numbered refusals naming a statement, and a refusal changes no byte we lent"; "No number is given
-- without its cause", and no other number has one
pub record OnRefusal (asked : Settings) (text listing image : List ℕ) (r : Refusal) (listing' image' : List ℕ) : Type 0 where
  pub listing_kept : listing' ≡ listing
  pub image_kept : image' ≡ image
  pub numbered : has_number twelve r ≡ true
  pub cause : Cause asked text (length listing) (length image) r
  pub first : FirstFault text r
  pub only : (s : Refusal) → Cause asked text (length listing) (length image) s → s ≡ r
