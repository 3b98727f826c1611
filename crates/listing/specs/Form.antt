-- C-20: the form of a listing as the code has it, the first line that marks it, and a frame without its source line.
use Rattle.std.specs.Prelude.{Bool, true, false, ◌&&◌, cond, List, [], ◌∷◌, ℕ, zero, suc, ◌+◌, eqb, get_or, drop}
use Rattle.rules.specs.Listing.{ListingForm, old_form, new_form}

abbrev pub form_of : (marked : Bool) → ListingForm
form_of true = new_form
form_of false = old_form

-- the text begins with `7D02` and a line feed
unfoldable pub is_marked : List ℕ → Bool
is_marked t =
    eqb (get_or t 0 0) 55 && (eqb (get_or t 1 0) 68 && (eqb (get_or t 2 0) 48 && (eqb (get_or t 3 0) 50 && eqb (get_or t 4 0) 10)))

-- what comes behind that line, if it is there
unfoldable pub after_mark : List ℕ → List ℕ
after_mark t = cond (is_marked t) (drop 5 t) t

-- the bytes of a frame without the b that stand behind its kind
abbrev pub without : (b : ℕ) → List ℕ → List ℕ
without b [] = []
without b (k ∷ s) = k ∷ drop b s

-- where byte k of these stands in the frame
abbrev pub kept_at : (b k : ℕ) → ℕ
kept_at b zero = 0
kept_at b (suc k) = suc k + b
