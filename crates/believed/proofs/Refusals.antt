-- A pass refuses with r exactly when r is the refusal of the first place that its check refuses. Each pass is a search, and a search has
-- two laws.
use mathlib.Core.Path.{◌≡◌, refl, sym, ◌∙◌, ap}
use mathlib.Core.Logic.{◌↔◌}
use mathlib.Core.List.{List, [], ◌∷◌, ◌++◌}
use mathlib.Core.Option.{Option, none, some}
use mathlib.Core.Bool.{Bool, true, false}
use Prim.Native.Nat.{ℕ, zero, suc, ◌+◌, ◌<◌}
use native.Mathlib.Omega.{arith}
use lib.ListN.{length, get_or, take}
use Rattle.laws.specs.Lists.{total}
use Rattle.laws.specs.Options.{or_else, first_from}
use Rattle.laws.proofs.Tests.{clash}
use Rattle.laws.proofs.Options.{first_from_some, first_from_hit, first_from_none, first_from_ext}
use Rattle.rules.specs.declared.Refusal.{Refusal}
use Rattle.rules.specs.declared.Refusal.TheVariants.{Broken, Limit, Again}
use Rattle.rules.specs.Answers.{at_place, Judged, ok, no, Check, ◌>>=◌, ◌>>◌, check_each, require, judged_or}
use Rattle.rules.specs.Programs.{Placeℕ, Stmt, gone, Program, at, as_name}
use Rattle.rules.specs.Layout.{position}
use Rattle.rules.specs.Listing.{Line, lines_of, unhex, within_limits, well_formed, read_lines, read_listing, ListingForm, form_in, statement_lines, read_frame_in}
use Rattle.rules.specs.Names.{Key, Entry, Placed, placed, context_at}
use Rattle.rules.specs.Judging.{keys_in, are_new, no_name_twice, settles, positions_fit, define, define_all, encode, encode_all}
use Rattle.rules.proofs.Laws.{length_placed, placed_at_lem}
use Rattle.promises.specs.Faults.{FirstRefused, line_in, characters_in, line_at, keys_of, name_at, settle_at, define_at, encode_at}

-- ---- the refusal of an answer, if it is one
abbrev pub refusal_of : {A : Type 0} → Judged A → Option Refusal
refusal_of (ok a) = none
refusal_of (no r) = some r

module _ {A : Type 0} where
  pub is_refusal : (x : Judged A) (r : Refusal) → refusal_of x ≡ some r → x ≡ no r
  is_refusal (ok a) r e = clash (cc)
  is_refusal (no s) r e = ap no (cc)

  pub is_answer : (x : Judged A) → refusal_of x ≡ none → (a : A) × (x ≡ ok a)
  is_answer (ok a) e = (a, refl)
  is_answer (no s) e = clash (cc)

  pub no_refusal : (x : Judged A) (a : A) → x ≡ ok a → refusal_of x ≡ none
  no_refusal x a e = ap refusal_of e

-- two parts, the second of which refuses alike whatever the first gives
pub refusal_bind : {A B : Type 0} (x : Judged A) (f : A → Judged B) (o : Option Refusal) → ((a : A) → x ≡ ok a → refusal_of (f a) ≡ o)
    → refusal_of (x >>= f) ≡ or_else (refusal_of x) o
unfolding ◌>>=◌ or_else
refusal_bind (ok a) f o h = h a refl
refusal_bind (no r) f o h = refl

refusal_then : {A B : Type 0} (x : Judged A) (y : Judged B) → refusal_of (x >> y) ≡ or_else (refusal_of x) (refusal_of y)
unfolding ◌>>◌ or_else
refusal_then (ok a) y = refl
refusal_then (no r) y = refl

none_more : (o : Option Refusal) → or_else o none ≡ o
unfolding or_else
none_more none = refl
none_more (some r) = refl

-- ---- a search over checks
pub first_later : {A : Type 0} (f : ℕ → Option A) (n i : ℕ) → first_from f n (suc i) ≡ first_from (λ j. f (suc j)) n i
unfolding first_from
first_later f zero i = refl
first_later f (suc n) i = ap (or_else (f (suc i))) (first_later f n (suc i))

module _ {A : Type 0} (n : ℕ) (check : Placeℕ → Judged A) (r : Refusal) where
  pub first_refused : first_from (λ j. refusal_of (check j)) n 0 ≡ some r ↔ FirstRefused n check r
  first_refused = (
    λ e. let h = first_from_some (λ j. refusal_of (check j)) n 0 r e in
        record {
          place = h.place;
          within = omega (arith, h.below);
          refused = is_refusal (check h.place) r h.holds;
          earlier = λ j l. is_answer (check j) (h.before j (omega arith) l);
        },
    λ h. first_from_hit (λ j. refusal_of (check j)) n 0 h.place r (omega arith) (omega (arith, h.within))
        (λ j l m. let a = h.earlier j m in no_refusal (check j) a.0 a.1) (ap refusal_of h.refused),
  )

-- a pass that is such a search
refuses_first : {A B : Type 0} (n : ℕ) (check : Placeℕ → Judged A) (pass : Judged B) (r : Refusal)
    → refusal_of pass ≡ first_from (λ j. refusal_of (check j)) n 0
    → pass ≡ no r ↔ FirstRefused n check r
refuses_first n check pass r e =
    (λ h. (first_refused n check r).0 (sym e ∙ ap refusal_of h), λ h. is_refusal pass r (e ∙ (first_refused n check r).1 h))

-- ---- the passes, over placed statements
pub nowhere : Placed
nowhere = record { place = 0; context = 0; position = 0; stmt = gone }

-- a check that passes
abbrev pub passed : Check
passed = ok tt

new_at : List Key → Placed → Check
new_at seen x = require (are_new seen (keys_in x.context (as_name x.stmt))) (Again (at_place x.place)) (ok tt)

naming_search : (seen : List Key) (xs : List Placed)
    → refusal_of (no_name_twice seen xs) ≡ first_from (λ j. refusal_of (new_at (keys_of seen (take j xs)) (get_or xs j nowhere))) (length xs) 0
unfolding no_name_twice keys_of new_at require first_from or_else
naming_search seen [] = refl
naming_search seen (x ∷ xs) =
    on (are_new seen (keys_in x.context (as_name x.stmt))) (naming_search (keys_in x.context (as_name x.stmt) ++ seen) xs)
  where
    later : Placeℕ → Option Refusal
    later j = refusal_of (new_at (keys_of seen (take j (x ∷ xs))) (get_or (x ∷ xs) j nowhere))

    on : (b : Bool)
        → refusal_of (no_name_twice (keys_in x.context (as_name x.stmt) ++ seen) xs) ≡ first_from (λ j. later (suc j)) (length xs) 0
        → refusal_of (require b (Again (at_place x.place)) (no_name_twice (keys_in x.context (as_name x.stmt) ++ seen) xs))
        ≡ or_else (refusal_of (require b (Again (at_place x.place)) passed)) (first_from later (length xs) 1)
    on true e = e ∙ sym (first_later later (length xs) 0)
    on false e = refl

each_search : (f : Placed → Check) (xs : List Placed)
    → refusal_of (check_each f xs) ≡ first_from (λ j. refusal_of (f (get_or xs j nowhere))) (length xs) 0
unfolding check_each first_from
each_search f [] = refl
each_search f (x ∷ xs) =
    refusal_then (f x) (check_each f xs)
    ∙ ap (or_else (refusal_of (f x))) (each_search f xs ∙ sym (first_later (λ j. refusal_of (f (get_or (x ∷ xs) j nowhere))) (length xs) 0))

define_by : List Entry → Placed → Judged (List Entry)
define_by above x = define above x.place x.context x.position x.stmt

define_search : (above : List Entry) (xs : List Placed)
    → refusal_of (define_all above xs)
    ≡ first_from (λ j. refusal_of (define_by (judged_or (define_all above (take j xs)) []) (get_or xs j nowhere))) (length xs) 0
unfolding define_all judged_or define_by first_from ◌>>=◌
define_search above [] = refl
define_search above (x ∷ xs) =
    refusal_bind (define_by above x) (λ names. define_all names xs) (first_from later (length xs) 1) (λ names e. below names e (define_search names xs))
  where
    later : Placeℕ → Option Refusal
    later j = refusal_of (define_by (judged_or (define_all above (take j (x ∷ xs))) []) (get_or (x ∷ xs) j nowhere))

    below : (names : List Entry) → define_by above x ≡ ok names
        → refusal_of (define_all names xs)
        ≡ first_from (λ j. refusal_of (define_by (judged_or (define_all names (take j xs)) []) (get_or xs j nowhere))) (length xs) 0
        → refusal_of (define_all names xs) ≡ first_from later (length xs) 1
    below names d e =
        e ∙ first_from_ext _ (λ j. later (suc j)) (length xs) 0
        (λ j l m. ap (λ (o : Judged (List Entry)). refusal_of (define_by (judged_or (o >>= (λ more. define_all more (take j xs))) []) (get_or xs j nowhere))) (sym d))
        ∙ sym (first_later later (length xs) 0)

encode_by : List Entry → Program → Placed → Judged (List ℕ)
encode_by names p x = encode names p x.place x.context x.position x.stmt

encode_search : (names : List Entry) (p : Program) (xs : List Placed)
    → refusal_of (encode_all names p xs) ≡ first_from (λ j. refusal_of (encode_by names p (get_or xs j nowhere))) (length xs) 0
unfolding encode_all encode_by first_from
encode_search names p [] = refl
encode_search names p (x ∷ xs) =
    refusal_bind (encode_by names p x) _ (first_from later (length xs) 1) (λ b e.
    refusal_bind (encode_all names p xs) _ none (λ rest d. refl) ∙ none_more (refusal_of (encode_all names p xs))
    ∙ encode_search names p xs ∙ sym (first_later later (length xs) 0))
  where
    later : Placeℕ → Option Refusal
    later j = refusal_of (encode_by names p (get_or (x ∷ xs) j nowhere))

-- ---- and over a whole program
module _ (p : Program) (r : Refusal) where
  placed_length : length (placed p) ≡ length p
  unfolding placed
  placed_length = length_placed 0 0 0 p

  -- a check of placed statements, by place
  by_place : {A B : Type 0} (pass : Judged B) (given : Placeℕ → Placed → Judged A)
      → refusal_of pass ≡ first_from (λ j. refusal_of (given j (get_or (placed p) j nowhere))) (length (placed p)) 0
      → refusal_of pass
      ≡ first_from (λ j. refusal_of (given j (record { place = j; context = context_at p j; position = position p j; stmt = at p j }))) (length p) 0
  by_place pass given e =
      e ∙ ap (λ (n : ℕ). first_from (λ j. refusal_of (given j (get_or (placed p) j nowhere))) n 0) placed_length
      ∙ first_from_ext _ _ (length p) 0 (λ j l m. ap (λ (x : Placed). refusal_of (given j x)) (placed_at_lem p j nowhere (omega arith)))

  -- "then 3"
  pub names_refuse : no_name_twice [] (placed p) ≡ no r ↔ FirstRefused (length p) (name_at p) r
  unfolding new_at
  names_refuse =
      refuses_first (length p) (name_at p) (no_name_twice [] (placed p)) r (by_place (no_name_twice [] (placed p)) (λ j. new_at (keys_of [] (take j (placed p)))) (naming_search [] (placed p)))

  -- "then 5 and 6"
  pub positions_refuse : positions_fit (placed p) ≡ no r ↔ FirstRefused (length p) (settle_at p) r
  unfolding positions_fit
  positions_refuse =
      refuses_first (length p) (settle_at p) (positions_fit (placed p)) r
      (by_place (positions_fit (placed p)) (λ j x. settles x.place x.position x.stmt) (each_search (λ x. settles x.place x.position x.stmt) (placed p)))

  -- "then variables (4, 7)"
  pub variables_refuse : define_all [] (placed p) ≡ no r ↔ FirstRefused (length p) (define_at p) r
  unfolding define_by
  variables_refuse =
      refuses_first (length p) (define_at p) (define_all [] (placed p)) r
      (by_place (define_all [] (placed p)) (λ j. define_by (judged_or (define_all [] (take j (placed p))) [])) (define_search [] (placed p)))

  -- "then encoding by statement"
  pub statements_refuse : (names : List Entry) → encode_all names p (placed p) ≡ no r ↔ FirstRefused (length p) (encode_at names p) r
  unfolding encode_by
  statements_refuse names =
      refuses_first (length p) (encode_at names p) (encode_all names p (placed p)) r (by_place (encode_all names p (placed p)) (λ j. encode_by names p) (encode_search names p (placed p)))

-- where encoding passes, each statement passes
pub statements_pass : (p : Program) (names : List Entry) (image : List ℕ) → encode_all names p (placed p) ≡ ok image → (i : Placeℕ)
    → i < length p → (b : List ℕ) × (encode_at names p i ≡ ok b)
unfolding encode_by
statements_pass p names image e i l =
    let search : none ≡ first_from (λ j. refusal_of (encode_at names p j)) (length p) 0 =
    by_place p (Again (at_place 0)) (ok image) (λ j. encode_by names p) (ap refusal_of (sym e) ∙ encode_search names p (placed p)) in
    is_answer (encode_at names p i) (first_from_none (λ j. refusal_of (encode_at names p j)) (length p) 0 (sym search) i (omega arith) (omega arith))

-- ---- "1 and 2 line by line"
read_line : (w : ListingForm) (i sum : ℕ) → Line → Judged Stmt
read_line w i sum l =
    require (within_limits w i sum l.chars) (Limit (at_place i)) (require (well_formed l) (Broken (at_place i)) (read_frame_in w i (unhex l.chars)))

line_search : (w : ListingForm) (i sum : ℕ) (ls : List Line)
    → refusal_of (read_lines w i sum ls)
    ≡ first_from (λ j. refusal_of (read_line w (i + j) (sum + characters_in (take j ls)) (line_in ls j))) (length ls) 0
unfolding read_lines read_line total first_from
line_search w i sum [] = refl
line_search w i sum (l ∷ ls) =
    refusal_bind (read_line w i sum l) _ (first_from later (length ls) 1) (λ s e.
    refusal_bind (read_lines w (suc i) (sum + length l.chars) ls) _ none (λ p d. refl)
    ∙ none_more (refusal_of (read_lines w (suc i) (sum + length l.chars) ls))
    ∙ line_search w (suc i) (sum + length l.chars) ls ∙ first_from_ext _ (λ j. later (suc j)) (length ls) 0 (λ j a b. shifted j)
    ∙ sym (first_later later (length ls) 0))
    ∙ ap (λ (o : Option Refusal). or_else o (first_from later (length ls) 1)) (sym here)
  where
    later : Placeℕ → Option Refusal
    later j = refusal_of (read_line w (i + j) (sum + characters_in (take j (l ∷ ls))) (line_in (l ∷ ls) j))

    here : later 0 ≡ refusal_of (read_line w i sum l)
    here = let y : i + 0 ≡ i = omega arith in let z : sum + 0 ≡ sum = omega arith in rw (y, z)

    shifted : (j : Placeℕ)
        → refusal_of (read_line w (suc i + j) (sum + length l.chars + characters_in (take j ls)) (line_in ls j)) ≡ later (suc j)
    shifted j =
        let y : suc i + j ≡ i + suc j = omega arith in
        let z : sum + length l.chars + characters_in (take j ls) ≡ sum + (length l.chars + characters_in (take j ls)) = omega arith in
        rw (y, z)

pub lines_refuse : (text : List ℕ) (r : Refusal)
    → read_listing text
    ≡ no r ↔ FirstRefused (length (statement_lines (lines_of text))) (line_at (form_in (lines_of text)) (statement_lines (lines_of text))) r
unfolding read_listing read_line
lines_refuse text r =
    let w : ListingForm = form_in (lines_of text) in
    let ls : List Line = statement_lines (lines_of text) in
    refuses_first (length ls) (line_at w ls) (read_listing text) r
    (line_search w 0 0 ls ∙ first_from_ext _ (λ j. refusal_of (line_at w ls j)) (length ls) 0
    (λ j a b. let y : 0 + j ≡ j = omega arith in let z : 0 + characters_in (take j ls) ≡ characters_in (take j ls) = omega arith in rw (y, z)))
