-- The statement that a refusal names is the first, in the order of the listing, that its check refuses.
use mathlib.Core.Path.{◌≡◌, refl, sym, ◌∙◌, ap}
use mathlib.Core.List.{List, [], ◌∷◌, ◌++◌}
use mathlib.Core.Bool.{Bool, true, false}
use Prim.Native.Nat.{ℕ, zero, suc, ◌+◌, ◌<◌}
use native.Mathlib.Omega.{arith}
use lib.ListN.{length, get_or, take}
use Rattle.laws.specs.Lists.{total}
use Rattle.laws.proofs.Tests.{clash}
use Rattle.rules.specs.declared.Settings.{Settings}
use Rattle.rules.specs.declared.Refusal.{Refusal}
use Rattle.rules.specs.declared.Refusal.TheVariants.{Broken, Limit, Again}
use Rattle.rules.specs.Refusals.{fault_of}
use Rattle.rules.specs.Answers.{at_place, Judged, ok, no, Check, ◌>>=◌, ◌>>◌, check_each, require, judged_or}
use Rattle.rules.specs.Programs.{Placeℕ, Stmt, gone, Program, at, as_name}
use Rattle.rules.specs.Listing.{Line, lines_of, unhex, within_limits, well_formed, read_lines, read_listing, ListingForm, form_in, statement_lines, read_frame_in}
use Rattle.rules.specs.Names.{Key, Entry, Placed, placed, context_at}
use Rattle.rules.specs.Layout.{position}
use Rattle.rules.specs.Judging.{keys_in, are_new, no_name_twice, settles, positions_fit, define, define_all, encode, encode_all}
use Rattle.rules.specs.Run.{run}
use Rattle.rules.proofs.Laws.{length_placed, placed_at_lem}
use Rattle.promises.specs.Demand1.{Cause, reading, naming, laying, defining, encoding, room}
use Rattle.promises.specs.Faults.{FirstRefused, AtFault, line_in, characters_in, line_at, keys_of, name_at, settle_at, define_at, encode_at, FirstFault, line, named, laid, defined, encoded, room as no_room}
use Rattle.promises.proofs.Says.{Nothing-more, says_no, says_require}
use Rattle.promises.proofs.Listings.{line_names}
use Rattle.promises.proofs.Numbers.{Tells, settles_says, define_says, encode_says}
use Rattle.promises.proofs.RefusedOnce.{refused_once}

-- ---- the first of a list: here, or later
module _ {A : Type 0} (n : ℕ) (check : Placeℕ → Judged A) (r : Refusal) where
  first_here : check 0 ≡ no r → FirstRefused (suc n) check r
  first_here e = record { place = 0; within = omega arith; refused = e; earlier = λ j l. absurd (omega arith) }

  first_later : (a : A) → check 0 ≡ ok a → FirstRefused n (λ j. check (suc j)) r → FirstRefused (suc n) check r
  first_later a e f = record { place = suc f.place; within = omega (arith, f.within); refused = f.refused; earlier = before }
    where
      before : (j : Placeℕ) → j < suc f.place → (b : A) × (check j ≡ ok b)
      before zero l = (a, e)
      before (suc j) l = f.earlier j (omega arith)

-- checks that agree at each place
first_same : {A : Type 0} (m n : ℕ) (check other : Placeℕ → Judged A) (r : Refusal) → m ≡ n → ((j : Placeℕ) → j < n → check j ≡ other j) → FirstRefused m check r → FirstRefused n other r
first_same m n check other r e h f =
    record {
      place = f.place;
      within = omega (arith, f.within);
      refused = sym (h f.place (omega (arith, f.within))) ∙ f.refused;
      earlier = λ j l. let b = f.earlier j l in (b.0, sym (h j (omega (arith, f.within))) ∙ b.1);
    }

-- a refusal of two parts is the first's, or the second's after an acceptance
bind_no {ℓ} : {A B : Type 0} {X : Type ℓ} (x : Judged A) (f : A → Judged B) (r : Refusal) → (x ≡ no r → X) → ((a : A) → x ≡ ok a → f a ≡ no r → X) → x >>= f ≡ no r → X
unfolding ◌>>=◌
bind_no (ok a) f r h k e = k a refl e
bind_no (no s) f r h k e = h (ap no (cc))

then_no {ℓ} : {A B : Type 0} {X : Type ℓ} (x : Judged A) (y : Judged B) (r : Refusal) → (x ≡ no r → X) → ((a : A) → x ≡ ok a → y ≡ no r → X) → x >> y ≡ no r → X
unfolding ◌>>◌
then_no (ok a) y r h k e = k a refl e
then_no (no s) y r h k e = h (ap no (cc))

-- ---- the passes, over placed statements
nowhere : Placed
nowhere = record { place = 0; context = 0; position = 0; stmt = gone }

-- a name defined again
new_at : List Key → Placed → Check
new_at seen x = require (are_new seen (keys_in x.context (as_name x.stmt))) (Again (at_place x.place)) (ok tt)

naming_first : (seen : List Key) (xs : List Placed) (r : Refusal) → no_name_twice seen xs ≡ no r → FirstRefused (length xs) (λ j. new_at (keys_of seen (take j xs)) (get_or xs j nowhere)) r
unfolding no_name_twice keys_of new_at require
naming_first seen [] r e = clash (cc)
naming_first seen (x ∷ xs) r e =
    on (are_new seen (keys_in x.context (as_name x.stmt))) refl e (naming_first (keys_in x.context (as_name x.stmt) ++ seen) xs r)
  where
    on : (b : Bool) → are_new seen (keys_in x.context (as_name x.stmt)) ≡ b
        → require b (Again (at_place x.place)) (no_name_twice (keys_in x.context (as_name x.stmt) ++ seen) xs) ≡ no r
        → (no_name_twice (keys_in x.context (as_name x.stmt) ++ seen) xs ≡ no r
        → FirstRefused (length xs) (λ j. new_at (keys_of (keys_in x.context (as_name x.stmt) ++ seen) (take j xs)) (get_or xs j nowhere)) r)
        → FirstRefused (suc (length xs)) (λ j. new_at (keys_of seen (take j (x ∷ xs))) (get_or (x ∷ xs) j nowhere)) r
    on true t e below = first_later (length xs) (λ j. new_at (keys_of seen (take j (x ∷ xs))) (get_or (x ∷ xs) j nowhere)) r tt (rw t) (below e)
    on false t e below = first_here (length xs) (λ j. new_at (keys_of seen (take j (x ∷ xs))) (get_or (x ∷ xs) j nowhere)) r (rw t e)

-- a check of each
each_first : (f : Placed → Check) (xs : List Placed) (r : Refusal) → check_each f xs ≡ no r → FirstRefused (length xs) (λ j. f (get_or xs j nowhere)) r
unfolding check_each
each_first f [] r e = clash (cc)
each_first f (x ∷ xs) r e =
    then_no (f x) (check_each f xs) r (λ h. first_here (length xs) (λ j. f (get_or (x ∷ xs) j nowhere)) r h)
    (λ a h k. first_later (length xs) (λ j. f (get_or (x ∷ xs) j nowhere)) r a h (each_first f xs r k)) e

-- variables: the names above are those of the statements before
define_by : List Entry → Placed → Judged (List Entry)
define_by above x = define above x.place x.context x.position x.stmt

define_first : (above : List Entry) (xs : List Placed) (r : Refusal) → define_all above xs ≡ no r
    → FirstRefused (length xs) (λ j. define_by (judged_or (define_all above (take j xs)) []) (get_or xs j nowhere)) r
unfolding define_all judged_or define_by ◌>>=◌
define_first above [] r e = clash (cc)
define_first above (x ∷ xs) r e = on (define_by above x) refl e (λ names. define_first names xs r)
  where
    check : List Placed → Placeℕ → Judged (List Entry)
    check l j = define_by (judged_or (define_all above (take j l)) []) (get_or l j nowhere)

    on : (o : Judged (List Entry)) → define_by above x ≡ o → o >>= (λ names. define_all names xs) ≡ no r
        → ((names : List Entry) → define_all names xs ≡ no r → FirstRefused (length xs) (λ j. define_by (judged_or (define_all names (take j xs)) []) (get_or xs j nowhere)) r)
        → FirstRefused (suc (length xs)) (check (x ∷ xs)) r
    on (no s) d e below = first_here (length xs) (check (x ∷ xs)) r (d ∙ ap no (cc))
    on (ok names) d e below =
        first_later (length xs) (check (x ∷ xs)) r names d
        (first_same (length xs) (length xs) (λ j. define_by (judged_or (define_all names (take j xs)) []) (get_or xs j nowhere)) (λ j. check (x ∷ xs) (suc j)) r refl
        (λ j l. ap (λ (o : Judged (List Entry)). define_by (judged_or (o >>= (λ more. define_all more (take j xs))) []) (get_or xs j nowhere)) (sym d)) (below names e))

-- encoding
encode_by : List Entry → Program → Placed → Judged (List ℕ)
encode_by names p x = encode names p x.place x.context x.position x.stmt

encode_first : (names : List Entry) (p : Program) (xs : List Placed) (r : Refusal) → encode_all names p xs ≡ no r → FirstRefused (length xs) (λ j. encode_by names p (get_or xs j nowhere)) r
unfolding encode_all encode_by
encode_first names p [] r e = clash (cc)
encode_first names p (x ∷ xs) r e =
    bind_no (encode_by names p x) _ r (λ h. first_here (length xs) (λ j. encode_by names p (get_or (x ∷ xs) j nowhere)) r h)
    (λ b h k. first_later (length xs) (λ j. encode_by names p (get_or (x ∷ xs) j nowhere)) r b h
    (bind_no (encode_all names p xs) _ r (λ m. encode_first names p xs r m) (λ rest m n. clash (cc)) k)) e

-- ---- and over a whole program
module _ (p : Program) (r : Refusal) where
  placed_length : length (placed p) ≡ length p
  unfolding placed
  placed_length = length_placed 0 0 0 p

  named_first : no_name_twice [] (placed p) ≡ no r → FirstRefused (length p) (name_at p) r
  unfolding new_at
  named_first e =
      first_same (length (placed p)) (length p) (λ j. new_at (keys_of [] (take j (placed p))) (get_or (placed p) j nowhere)) (name_at p) r placed_length
      (λ j l. ap (new_at (keys_of [] (take j (placed p)))) (placed_at_lem p j nowhere l)) (naming_first [] (placed p) r e)

  laid_first : positions_fit (placed p) ≡ no r → FirstRefused (length p) (settle_at p) r
  unfolding positions_fit
  laid_first e =
      first_same (length (placed p)) (length p) (λ j. settles (get_or (placed p) j nowhere).place (get_or (placed p) j nowhere).position (get_or (placed p) j nowhere).stmt) (settle_at p) r placed_length
      (λ j l. ap (λ (x : Placed). settles x.place x.position x.stmt) (placed_at_lem p j nowhere l))
      (each_first (λ x. settles x.place x.position x.stmt) (placed p) r e)

  defined_first : define_all [] (placed p) ≡ no r → FirstRefused (length p) (define_at p) r
  unfolding define_by
  defined_first e =
      first_same (length (placed p)) (length p) (λ j. define_by (judged_or (define_all [] (take j (placed p))) []) (get_or (placed p) j nowhere)) (define_at p) r placed_length
      (λ j l. ap (define_by (judged_or (define_all [] (take j (placed p))) [])) (placed_at_lem p j nowhere l)) (define_first [] (placed p) r e)

  -- encoding refuses at the first statement that does not encode
  pub encoded_first : (names : List Entry) → encode_all names p (placed p) ≡ no r → FirstRefused (length p) (encode_at names p) r
  unfolding encode_by
  encoded_first names e =
      first_same (length (placed p)) (length p) (λ j. encode_by names p (get_or (placed p) j nowhere)) (encode_at names p) r placed_length
      (λ j l. ap (encode_by names p) (placed_at_lem p j nowhere l)) (encode_first names p (placed p) r e)

-- ---- lines
read_line : (w : ListingForm) (i sum : ℕ) → Line → Judged Stmt
read_line w i sum l = require (within_limits w i sum l.chars) (Limit (at_place i)) (require (well_formed l) (Broken (at_place i)) (read_frame_in w i (unhex l.chars)))

lines_first : (w : ListingForm) (i sum : ℕ) (ls : List Line) (r : Refusal) → read_lines w i sum ls ≡ no r
    → FirstRefused (length ls) (λ j. read_line w (i + j) (sum + characters_in (take j ls)) (line_in ls j)) r
unfolding read_lines read_line total
lines_first w i sum [] r e = clash (cc)
lines_first w i sum (l ∷ ls) r e =
    bind_no (read_line w i sum l) _ r (λ h. first_here (length ls) check r (here ∙ h))
    (λ s h k. first_later (length ls) check r s (here ∙ h)
    (bind_no (read_lines w (suc i) (sum + length l.chars) ls) _ r
    (λ m. first_same (length ls) (length ls) (λ j. read_line w (suc i + j) (sum + length l.chars + characters_in (take j ls)) (line_in ls j)) (λ j. check (suc j)) r refl shifted
    (lines_first w (suc i) (sum + length l.chars) ls r m))
    (λ p m n. clash (cc)) k)) e
  where
    check : Placeℕ → Judged Stmt
    check j = read_line w (i + j) (sum + characters_in (take j (l ∷ ls))) (line_in (l ∷ ls) j)

    here : check 0 ≡ read_line w i sum l
    here = let y : i + 0 ≡ i = omega arith in let z : sum + 0 ≡ sum = omega arith in rw (y, z)

    shifted : (j : Placeℕ) → j < length ls → read_line w (suc i + j) (sum + length l.chars + characters_in (take j ls)) (line_in ls j) ≡ check (suc j)
    shifted j m =
        let y : suc i + j ≡ i + suc j = omega arith in
        let z : sum + length l.chars + characters_in (take j ls) ≡ sum + (length l.chars + characters_in (take j ls)) = omega arith in
        rw (y, z)

line_first : (text : List ℕ) (r : Refusal) → read_listing text ≡ no r
    → FirstRefused (length (statement_lines (lines_of text))) (line_at (form_in (lines_of text)) (statement_lines (lines_of text))) r
unfolding read_listing read_line
line_first text r e =
    let w : ListingForm = form_in (lines_of text) in
    let ls : List Line = statement_lines (lines_of text) in
    first_same (length ls) (length ls) (λ j. read_line w (0 + j) (0 + characters_in (take j ls)) (line_in ls j)) (line_at w ls) r refl
    (λ j l. let y : 0 + j ≡ j = omega arith in let z : 0 + characters_in (take j ls) ≡ characters_in (take j ls) = omega arith in rw (y, z)) (lines_first w 0 0 ls r e)

-- ---- each check refuses with the place that it is asked of

at_fault : {A : Type 0} (n : ℕ) (check : Placeℕ → Judged A) (r : Refusal) → ((i : Placeℕ) → check i ≡ no r → (fault_of r).place ≡ i) → FirstRefused n check r → AtFault n check r
at_fault n check r h f = record { first = f; names = h f.place f.refused }

module _ (r : Refusal) (i : Placeℕ) where
  abbrev Here : Placeℕ → Type 0
  Here j = j ≡ i

  name_names : (p : Program) → name_at p i ≡ no r → (fault_of r).place ≡ i
  name_names p e =
      says_no Nothing-more (λ s. (fault_of s).place ≡ i) (name_at p i) r
      (says_require Nothing-more (λ s. (fault_of s).place ≡ i) (are_new (keys_of [] (take i (placed p))) (keys_in (context_at p i) (as_name (at p i)))) (Again (at_place i)) (ok tt) refl (λ t. tt)) e

  settle_names : (p : Program) → settle_at p i ≡ no r → (fault_of r).place ≡ i
  settle_names p e = (says_no Nothing-more (λ s. Tells (5 ∷ 6 ∷ []) Here s) (settle_at p i) r (settles_says Here i (position p i) (at p i) refl) e).place

  define_names : (p : Program) → define_at p i ≡ no r → (fault_of r).place ≡ i
  define_names p e =
      (says_no Nothing-more (λ s. Tells (4 ∷ 7 ∷ []) Here s) (define_at p i) r
      (define_says Here (judged_or (define_all [] (take i (placed p))) []) i (context_at p i) (position p i) (at p i) refl) e).place

  encode_names : (names : List Entry) (p : Program) → encode_at names p i ≡ no r → (fault_of r).place ≡ i
  encode_names names p e =
      (says_no Nothing-more (λ s. Tells (4 ∷ 7 ∷ 8 ∷ 9 ∷ 10 ∷ 11 ∷ []) Here s) (encode_at names p i) r (encode_says Here names p i (context_at p i) (position p i) (at p i) refl) e).place

-- first-fault: a refusal is that of the first statement, or line, that its check refuses, and names its place
pub first_fault : (asked : Settings) (text : List ℕ) (listing_room image_room : ℕ) (r : Refusal) → run asked text listing_room image_room ≡ no r → FirstFault text r
first_fault asked text listing_room image_room r e = on ((refused_once asked text listing_room image_room r).0 e)
  where
    on : Cause asked text listing_room image_room r → FirstFault text r
    on (reading d x) = line (at_fault _ _ r (λ i. line_names (form_in (lines_of text)) i (characters_in (take i (statement_lines (lines_of text)))) (line_in (statement_lines (lines_of text)) i) r) (line_first text r d))
    on (naming p d a x) = named p d (at_fault _ _ r (λ i. name_names r i p) (named_first p r a))
    on (laying p d a b x) = laid p d (at_fault _ _ r (λ i. settle_names r i p) (laid_first p r b))
    on (defining p d a b c x) = defined p d (at_fault _ _ r (λ i. define_names r i p) (defined_first p r c))
    on (encoding p names d a b c f x) = encoded p names d c (at_fault _ _ r (λ i. encode_names r i names p) (encoded_first p r names f))
    on (room p image d j f x) = no_room p d x
