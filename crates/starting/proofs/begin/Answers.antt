-- `starting::begin` meets its contract, on every input.
use mathlib.Core.Path.{◌≡◌, ap, ◌∙◌}
use mathlib.Core.List.{List}
use Prim.Native.Nat.{ℕ}
use Rattle.std.proofs.lemmas.Result.{err_from_is_err_and}
use Rattle.rules.specs.Programs.{Program}
use Rattle.rules.specs.Listing.{read_listing}
use Rattle.listing.specs.Tables.{input_of}
use Rattle.entries.proofs.Phases.{listed_read, listed_refused}
use Rattle.starting.proofs.Begins.{anchored_as, begun_unread, begun_bad, begun_good}
use Rattle.starting.proofs.begin.Goals as goal

-- the statements as read, by where the frames begin in the state
input_at : (frames new starts : List ℕ) (n : ℕ) (p : Program) → new ≡ starts → input_of frames starts n ≡ p → input_of frames new n ≡ p
input_at frames new starts n p e h = ap (λ (l : List ℕ). input_of frames l n) e ∙ h

pub returns-in_err-count : goal.returns-in_err-count
returns-in_err-count c =
    let text = c.args.listing.now in
    let p = err_from_is_err_and c.from_residual.result c.from_residual.ensures.1 in
    rw (p.1, p.2) (begun_unread text _ _ _ (listed_refused _ _ _ (read_listing text) _ c.in_err-count.was c.read_listing.ensures.listed))

pub returns-in_err-start_slots : goal.returns-in_err-start_slots
returns-in_err-start_slots c =
    let text = c.args.listing.now in
    let h = listed_read _ _ _ (read_listing text) _ c.in_ok-count.was c.read_listing.ensures.listed in
    let p = err_from_is_err_and c.from_residual-in_err-start_slots.result c.from_residual-in_err-start_slots.ensures.1 in
    rw (p.1, p.2)
    (begun_bad text _ _ _ h.0 _ h.1 (input_at _ _ _ _ h.0 c.start_slots.ensures.1 h.2.input) (anchored_as _ h.0 h.2.input c.start_slots.ensures.0) _ c.in_err-start_slots.was)

pub returns : goal.returns
returns c =
    let text = c.args.listing.now in
    let h = listed_read _ _ _ (read_listing text) _ c.in_ok-count.was c.read_listing.ensures.listed in
    begun_good text _ _ _ h.0 _ h.1 (input_at _ _ _ _ h.0 c.start_slots.ensures.1 h.2.input) (anchored_as _ h.0 h.2.input c.start_slots.ensures.0) c.in_ok-start_slots.was
