-- Document 01, "Refusal numbers": which statement a refusal names. It is the first, in the order of the listing, that its check refuses.
use Rattle.std.specs.Prelude.{◌≡◌, List, [], ◌∷◌, ◌++◌, false, true, ℕ, ◌<◌, length, get_or, take, ℤ, pos, ◌-ℤ◌, ◌⊎◌, Ok}
use Rattle.laws.specs.Lists.{total}
use Rattle.rules.specs.declared.Refusal.{Refusal}
use Rattle.rules.specs.declared.Refusal.TheVariants.{Broken, Limit, Again, Room, Range, Outside, Far, Page}
use Rattle.rules.specs.Refusals.{fault_of}
use Rattle.rules.specs.Answers.{at_place, Judged, ok, no, Check, require, judged_or}
use Rattle.rules.specs.Programs.{Placeℕ, Stmt, Program, at, as_name, Addressℕ, Operand, register, instr, bytes, words}
use Rattle.rules.specs.Layout.{position, after}
use Rattle.rules.specs.Listing.{Line, lines_of, unhex, within_limits, well_formed, read_listing, ListingForm, read_frame_in, form_in, statement_lines}
use Rattle.rules.specs.Names.{Key, Entry, Placed, placed, context_at}
use Rattle.rules.specs.Judging.{keys_in, are_new, settles, define, define_all, encode, worth, worth_of}
use Rattle.rules.specs.Expressions.{Expr, num}
use Rattle.promises.specs.Demand1.{has_number}

-- of n places the first that a check refuses, with r; those before it pass
pub record FirstRefused {A : Type 0} (n : ℕ) (check : Placeℕ → Judged A) (r : Refusal) : Type 0 where
  pub place : Placeℕ
  pub within : place < n
  pub refused : check place ≡ no r
  pub earlier : (j : Placeℕ) → j < place → (a : A) × (check j ≡ ok a)

-- and r names that place: "Each returns its number and the statement's place from 0"
pub record AtFault {A : Type 0} (n : ℕ) (check : Placeℕ → Judged A) (r : Refusal) : Type 0 where
  pub first : FirstRefused n check r
  pub names : (fault_of r).place ≡ first.place

-- ---- the checks

-- "1 and 2 line by line": line i of a listing of form w, C-20's mark apart, the characters of the lines before it counted
abbrev pub line_in : List Line → (i : Placeℕ) → Line
line_in ls i = get_or ls i (record { chars = []; ended = false })

abbrev pub characters_in : List Line → ℕ
characters_in ls = total (λ l. length l.chars) ls

abbrev pub line_at : ListingForm → List Line → (i : Placeℕ) → Judged Stmt
line_at w ls i =
    require (within_limits w i (characters_in (take i ls)) (line_in ls i).chars) (Limit (at_place i))
    (require (well_formed (line_in ls i)) (Broken (at_place i)) (read_frame_in w i (unhex (line_in ls i).chars)))

-- "then 3": the name that statement i defines is none of those defined above it
unfoldable pub keys_of : (seen : List Key) → List Placed → List Key
keys_of seen [] = seen
keys_of seen (x ∷ xs) = keys_of (keys_in x.context (as_name x.stmt) ++ seen) xs

abbrev pub name_at : Program → (i : Placeℕ) → Check
name_at p i = require (are_new (keys_of [] (take i (placed p))) (keys_in (context_at p i) (as_name (at p i)))) (Again (at_place i)) (ok tt)

-- "then 5 and 6": statement i settles at its position
abbrev pub settle_at : Program → (i : Placeℕ) → Check
settle_at p i = settles i (position p i) (at p i)

-- "then variables (4, 7)": statement i is defined by the names above it
abbrev pub define_at : Program → (i : Placeℕ) → Judged (List Entry)
define_at p i = define (judged_or (define_all [] (take i (placed p))) []) i (context_at p i) (position p i) (at p i)

-- "then encoding by statement and argument"
abbrev pub encode_at : (names : List Entry) → Program → (i : Placeℕ) → Judged (List ℕ)
encode_at names p i = encode names p i (context_at p i) (position p i) (at p i)

-- ---- the statement at fault, by the check that refuses it; 12 is about no statement, and returns the statement count
pub data FirstFault (text : List ℕ) (r : Refusal) : Type 0 where
  line : AtFault (length (statement_lines (lines_of text))) (line_at (form_in (lines_of text)) (statement_lines (lines_of text))) r → FirstFault text r
  named : (p : Program) → read_listing text ≡ ok p → AtFault (length p) (name_at p) r → FirstFault text r
  laid : (p : Program) → read_listing text ≡ ok p → AtFault (length p) (settle_at p) r → FirstFault text r
  defined : (p : Program) → read_listing text ≡ ok p → AtFault (length p) (define_at p) r → FirstFault text r
  encoded : (p : Program) (names : List Entry) → read_listing text ≡ ok p → define_all [] (placed p) ≡ ok names → AtFault (length p) (encode_at names p) r → FirstFault text r
  room : (p : Program) → read_listing text ≡ ok p → r ≡ Room (length p) → FirstFault text r

-- ---- C-12: "Refusals 8 to 11 shall also give the argument's place from 0 and the signed number at fault: the value, or for 10 the difference"

-- of an argument j of value v, n being the address after its statement
pub data Amounts (n : Addressℕ) (i : Placeℕ) (j : ℕ) (v : ℤ) : Refusal → Type 0 where
  out_of_range : Amounts n i j v (Range (at_place i) j v)
  outside : Amounts n i j v (Outside (at_place i) j v)
  far : Amounts n i j v (Far (at_place i) j (v -ℤ pos n))
  other_page : Amounts n i j v (Page (at_place i) j v)

-- why encoding refuses the statement at place i of p: a value that is not there (4, 7), or argument or item j, whose value is the number at fault
pub data NumberAtFault (names : List Entry) (p : Program) (i : Placeℕ) (r : Refusal) : Type 0 where
  no_value : has_number (4 ∷ 7 ∷ []) r ≡ true → NumberAtFault names p i r
  of_argument : (f : ℕ) (xs : List Operand) (c : Placeℕ) (j : ℕ) (v : ℤ) → at p i ≡ instr f xs c → j < length xs → worth_of names p (context_at p i) (get_or xs j (register 0)) ≡ Ok v
      → Amounts (after (position p i) (at p i)) i j v r → NumberAtFault names p i r
  of_item : (es : List Expr) (j : ℕ) (v : ℤ) → (at p i ≡ bytes es) ⊎ (at p i ≡ words es) → j < length es → worth names (context_at p i) (get_or es j (num (pos 0))) ≡ Ok v
      → Amounts (after (position p i) (at p i)) i j v r → NumberAtFault names p i r
