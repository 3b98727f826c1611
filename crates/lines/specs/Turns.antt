-- What the code says of one line of a text.
use Rattle.std.specs.Prelude.{◌≡◌, cond, List, [], ◌∷◌, ℕ, suc, ◌≤◌, eqb, length}
use Rattle.rules.specs.declared.Refusal.{Refusal}
use Rattle.rules.specs.Refusals.{fault_of}
use Rattle.rules.specs.Answers.{Judged, ok, no}
use Rattle.rules.specs.Programs.{Program}
use Rattle.rules.specs.Listing.{lines_of, ListingForm}
use Rattle.listing.specs.Lines.{first_line}
use Rattle.lines.specs.declared.standing.Turn.{Turn}
use Rattle.lines.specs.Alone.{by_itself, standing}

-- n is 0 where nothing is refused, else the refusal's number
abbrev pub Numbered : Judged Program → (n : ℕ) → Type 0
Numbered (ok p) n = n ≡ 0
Numbered (no r) n = (n ≡ (fault_of r).number) × (1 ≤ n)

-- 2, or for any other refusal of a listing that is read 1
abbrev pub one_or_two : Refusal → ℕ
one_or_two r = cond (eqb (fault_of r).number 2) 2 1

-- how many bytes the first line has, its line feed included
unfoldable pub line_end : List ℕ → ℕ
line_end [] = 0
line_end (c ∷ t) = suc (cond (eqb c 10) 0 (line_end t))

-- x is one line, with its line feed if it has one
abbrev pub OneLine : List ℕ → Type 0
OneLine x = lines_of x ≡ first_line x ∷ []

-- what becomes of the first line of t
pub record TurnOf (w : ListingForm) (t : List ℕ) (r : Turn) : Type 0 where
  pub ends : r.end ≡ line_end t
  pub number_is : Numbered (by_itself w (first_line t)) r.number
  pub length_is : r.length ≡ length (standing w (first_line t))
  pub short : r.length ≤ 248
