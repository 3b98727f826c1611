-- What the code says of the walk over two listings' lines.
use Rattle.std.specs.Prelude.{◌≡◌, List, [], ◌∷◌, ◌++◌, ℕ, zero, suc, ◌≤◌, length, get_or}
use Rattle.rules.specs.Expressions.{pair}
use Rattle.rules.specs.Programs.{Placeℕ}
use Rattle.rules.specs.Listing.{unhex}
use Rattle.rules.specs.Output.{line_of}
use Rattle.pairing.specs.Pairings.{Frames, frames_of}
use Rattle.pairing.specs.Promise.{InOrder}
use Rattle.pairing.specs.Lines.{Lined}
use Rattle.pairing.specs.Tables.{pairs_in}
use Rattle.differences.specs.Changes.{paired, bytes_of, changes_of, text_of}
use Rattle.differences.specs.declared.walks.Counts.{Counts}

-- n frames from place i on, each a line of this kind: all removed or all added
unfoldable pub run_text : (kind : ℕ) (a : Frames) (n : ℕ) (i : Placeℕ) → List ℕ
run_text kind a zero i = []
run_text kind a (suc n) i = line_of (kind ∷ (pair i ++ get_or a i [])) ++ run_text kind a n (suc i)

-- how many characters the line of a pair has
abbrev pub PairSize : (old new : List ℕ) (r : ℕ) → Type 0
PairSize old new r = (i j : Placeℕ) → r ≡ length (line_of (bytes_of (paired i j (unhex old) (unhex new))))

-- two accepted listings with the starts of their lines, and pairs in order
pub record Ready (first firsts second seconds pairs : List ℕ) (counts : Counts) : Type 0 where
  pub lined : Lined first firsts counts.first
  pub lined' : Lined second seconds counts.second
  pub few : counts.pairs ≤ 1024
  pub order : InOrder counts.first counts.second 0 0 (pairs_in pairs counts.pairs)

-- the text of their differences
abbrev pub text_for : (first second pairs : List ℕ) → Counts → List ℕ
text_for first second pairs counts = text_of (changes_of (frames_of first) (frames_of second) (pairs_in pairs counts.pairs))
