-- Document 02, C-13, of a listing and what the optimizer made of it, under "the optimizer's list .. of the place each output statement stems from":
-- no statement is added, every dropped one is removed, and every changed one is a transfer.
use Rattle.std.specs.Prelude.{◌≡◌, List, [], Bool, true, false, ℕ, ◌<◌, leb, length, get_or}
use Rattle.std.proofs.Math.Option.{some}
use Rattle.rules.specs.declared.Refusal.TheVariants.{Room}
use Rattle.rules.specs.declared.Settings.{Settings}
use Rattle.rules.specs.Answers.{ok, require}
use Rattle.rules.specs.Forms.{is_transfer}
use Rattle.rules.specs.Programs.{Placeℕ, Stmt, Program, at, is_gone, on_instr}
use Rattle.rules.specs.Rewriting.{optimized}
use Rattle.rules.specs.Output.{write_back, shown}
use Rattle.rules.specs.Run.{Output}
use Rattle.output.specs.Stems.{list_of}
use Rattle.pairing.specs.Pairings.{frames_of, pairs_from}
use Rattle.differences.specs.Changes.{Change, kept, removed, added, changed, changes_of, text_of}
use Rattle.differences.specs.Differences.{of_both, text, after, differences}

-- one of "the twenty transfers of `control_flow_target`"
abbrev pub transfers : Stmt → Bool
transfers s = on_instr false (λ x. is_transfer x.form) s

-- what stands in each slot of the input at the end: numbers are written back, and comments gone unless they are asked for
abbrev pub slots_at_end : Settings → Program → Program
slots_at_end asked p = shown asked (write_back (optimized asked p).program)

-- the differences of a text and the output that was handed out for it, with the list that was handed out too
abbrev pub own_changes : (text : List ℕ) → Output → List Change
own_changes t o = changes_of (frames_of t) (frames_of o.listing) (pairs_from 0 o.stems)

-- what each of them says of an input p whose slots are `end` at the end: what is removed was dropped, what is kept or changed was not, and a changed
-- one is a transfer, before and after
abbrev pub OfRun : (p end : Program) → Change → Type 0
OfRun p end (kept i j f) = is_gone (at end i) ≡ false
OfRun p end (removed i f) = is_gone (at end i) ≡ true
OfRun p end (added j f) = ⊥
OfRun p end (changed i j old new) = (transfers (at p i) ≡ true) × (transfers (at end i) ≡ true)

-- of an accepted text that reads as p, and its output, where that keeps the total limit: one of C-15 that passes it is 2 as any listing is
pub record OwnList (asked : Settings) (t : List ℕ) (p : Program) (o : Output) : Type 0 where
  -- the bytes that were handed out are a pairing that is never 13, nor is either listing 1 or 2: 12 alone can be given
  pub never_refused : (room : ℕ) → (let s : List ℕ = text_of (own_changes t o) in
      differences t o.listing (some (list_of o.stems)) room ≡ after of_both (require (leb (length s) room) (Room (length p)) (ok s)) text)
  -- no statement is "added", and every changed one is a transfer
  pub each_right : (k : ℕ) (d : Change) → k < length (own_changes t o) → OfRun p (slots_at_end asked p) (get_or (own_changes t o) k d)
  -- there is one for each statement of the input, in its order: "every dropped one is removed"
  pub one_each : length (own_changes t o) ≡ length p
  pub dropped_removed : (i : Placeℕ) (d : Change) → i < length p → is_gone (at (slots_at_end asked p) i) ≡ true
      → get_or (own_changes t o) i d ≡ removed i (get_or (frames_of t) i [])

-- C-18, "The tool of C-13 must ask for them": with comments asked for, what is removed is what the rewriting dropped, and no comment
abbrev pub CommentsStay : Settings → Program → Type 0
CommentsStay asked p = asked.comments ≡ true → slots_at_end asked p ≡ write_back (optimized asked p).program
