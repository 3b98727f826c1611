-- The image of a program that assembles has at most 65,536 bytes: each form has as many bytes as its size says, whatever its arguments.
use mathlib.Core.Path.{◌≡◌, refl, ◌∙◌, ap}
use mathlib.Core.Logic.{⊎_elim}
use mathlib.Core.List.{List, [], ◌∷◌, ◌++◌}
use mathlib.Core.Bool.{Bool, true, false, cond}
use Prim.Native.Nat.{ℕ, zero, suc, ◌+◌, ◌-◌, ◌*◌, ◌/◌, ◌%◌, ◌^◌, ◌≤◌, ◌<◌}
use native.Mathlib.Nat.{mul-suc}
use native.Mathlib.Omega.{arith}
use lib.Dec.{T, leb, eqb}
use lib.ListN.{length, get_or, length-append, length-replicate, length-map, replicate}
use borrow.Author.Tests.{eqb-true, leb-true}
use Rattle.laws.specs.Counts.{all_to}
use Rattle.laws.proofs.Tests.{lt_or_le}
use Rattle.laws.proofs.Stores.{get_out}
use Rattle.laws.proofs.Counts.{all_at}
use Rattle.rules.specs.Answers.{ok, require}
use Rattle.rules.specs.Expressions.{Expr}
use Rattle.rules.specs.Forms.{table, form, form_at, size_at, operands_at}
use Rattle.rules.specs.Patterns.{codes, argument, onto_byte, Mode, bit, letter, digits, read_pattern, rows_of, bytes_at}
use Rattle.rules.specs.Programs.{Placeℕ, Addressℕ, Stmt, gone, instr, label, variable, comment, org, bytes, words, Program, pad, Space, empty, exactly, from, up_to, space_at, bytes_in, byte_count}
use Rattle.rules.specs.Layout.{after, gap, lay, behind, lay_in}
use Rattle.rules.specs.Names.{enter, Entry, placed_from, placed}
use Rattle.rules.specs.Encoding.{byte, word}
use Rattle.rules.specs.Values.{nat, below}
use Rattle.rules.specs.Judging.{positions_fit, value_at, worth, fields, items, encode, encode_all, judge, settles_in}
use Rattle.rules.proofs.Laws.{then_ok, require_ok}
use Rattle.promises.proofs.Passes.{judge_passes}
use Rattle.promises.proofs.Positions.{fit_cons}

-- ---- forms
-- how many bytes a pattern has does not depend on the arguments
onto_length : (x y : ℕ) (l m : List (List ℕ)) → length l ≡ length m → length (onto_byte x l) ≡ length (onto_byte y m)
onto_length x y [] [] e = refl
onto_length x y [] (b ∷ m) e = absurd (omega arith)
onto_length x y (a ∷ l) [] e = absurd (omega arith)
onto_length x y (a ∷ l) (b ∷ m) e = e

pattern_length : (a b c : ℕ) (m : Mode) (xs : List ℕ) → length (read_pattern a b c m xs) ≡ length (read_pattern 0 0 0 m xs)
pattern_length a b c m [] = refl
pattern_length a b c bit (x ∷ xs) = on (eqb x 91) (eqb x 32) (pattern_length a b c letter xs) (pattern_length a b c bit xs)
  where
    on : (s t : Bool) → length (read_pattern a b c letter xs) ≡ length (read_pattern 0 0 0 letter xs) → length (read_pattern a b c bit xs) ≡ length (read_pattern 0 0 0 bit xs)
        → length (cond s (read_pattern a b c letter xs) (cond t ([] ∷ read_pattern a b c bit xs) (onto_byte (x - 48) (read_pattern a b c bit xs))))
        ≡ length (cond s (read_pattern 0 0 0 letter xs) (cond t ([] ∷ read_pattern 0 0 0 bit xs) (onto_byte (x - 48) (read_pattern 0 0 0 bit xs))))
    on true t h k = h
    on false true h k = ap suc k
    on false false h k = onto_length (x - 48) (x - 48) (read_pattern a b c bit xs) (read_pattern 0 0 0 bit xs) k
pattern_length a b c letter (x ∷ xs) = pattern_length a b c (digits (x - 97) 0) xs
pattern_length a b c (digits l n) (x ∷ xs) = on (eqb x 93) (pattern_length a b c bit xs) (pattern_length a b c (digits l (n * 10 + (x - 48))) xs)
  where
    on : (s : Bool) → length (read_pattern a b c bit xs) ≡ length (read_pattern 0 0 0 bit xs)
        → length (read_pattern a b c (digits l (n * 10 + (x - 48))) xs) ≡ length (read_pattern 0 0 0 (digits l (n * 10 + (x - 48))) xs)
        → length (cond s (onto_byte (argument a b c l / 2 ^ n % 2) (read_pattern a b c bit xs)) (read_pattern a b c (digits l (n * 10 + (x - 48))) xs))
        ≡ length (cond s (onto_byte (argument 0 0 0 l / 2 ^ n % 2) (read_pattern 0 0 0 bit xs)) (read_pattern 0 0 0 (digits l (n * 10 + (x - 48))) xs))
    on true h k = onto_length _ _ (read_pattern a b c bit xs) (read_pattern 0 0 0 bit xs) h
    on false h k = k

-- the seventy
sizes_agree : T (all_to (λ f. eqb (length (rows_of f 0 0 0)) (size_at f)) 70)
unfolding all_to rows_of form_at
sizes_agree = tt

holds : (b : Bool) → T b → b ≡ true
holds true t = refl
holds false t = absurd t

rows_inside : (f a b c : ℕ) → f < 70 → length (rows_of f a b c) ≡ size_at f
unfolding rows_of
rows_inside f a b c l =
    pattern_length a b c bit (codes (form_at f).pattern)
    ∙ eqb-true (length (rows_of f 0 0 0)) (size_at f) (all_at (λ f. eqb (length (rows_of f 0 0 0)) (size_at f)) f 70 l (holds _ sizes_agree))

-- past the last there is none, of no bytes
rows_outside : (f a b c : ℕ) → 70 ≤ f → length (rows_of f a b c) ≡ size_at f
unfolding rows_of form_at
rows_outside f a b c h = rw (get_out table f (form "" "" 0 []) h)

-- so each form has as many bytes as its size
pub bytes_size : (f : ℕ) (vs : List ℕ) → length (bytes_at f vs) ≡ size_at f
unfolding bytes_at
bytes_size f vs =
    let a : ℕ = get_or vs 0 0 in
    let b : ℕ = get_or vs 1 0 in
    let c : ℕ = get_or vs 2 0 in
    rw length-map (⊎_elim (λ l. rows_inside f a b c l) (λ l. rows_outside f a b c l) (lt_or_le f 70))

-- ---- statements
items_size : (names : List Entry) (bound m : ℕ) (write : ℕ → List ℕ) → ((v : ℕ) → length (write v) ≡ m) → (i : Placeℕ) (k j : ℕ) (es : List Expr) (b : List ℕ)
    → items names bound write i k j es ≡ ok b → length b ≡ m * length es
unfolding items
items_size names bound m write w i k j [] b e = let z : b ≡ [] = cc in rw z (omega arith)
items_size names bound m write w i k j (d ∷ es) b e =
    let v = then_ok (value_at i (worth names k d)) _ b e in
    let r = then_ok (require (below bound v.0) _ (items names bound write i k (suc j) es)) _ b v.2 in
    let t = require_ok (below bound v.0) _ (items names bound write i k (suc j) es) r.0 r.1 in
    let z : b ≡ write (nat v.0) ++ r.0 = cc r.2 in
    rw z (length-append (write (nat v.0)) r.0 ∙ whole (length es) (w (nat v.0)) (items_size names bound m write w i k (suc j) es r.0 t.1))
  where
    whole : {x y : ℕ} (n : ℕ) → x ≡ m → y ≡ m * n → x + y ≡ m * suc n
    whole n p q = rw (p, q, mul-suc) (omega arith)

-- bytes b, of which there are n, in front of a rest that fits
reached : (q n l : ℕ) (rest : List ℕ) → l ≡ n → q + n ≤ 65536 → (1 ≤ length rest → q + n + length rest ≤ 65536) → q + (l + length rest) ≤ 65536
reached q n l [] e h k = omega arith
reached q n l (b ∷ rest) e h k = omega (arith, k (omega arith))

none_of : (b : List ℕ) → b ≡ [] → length b ≡ 0
none_of b e = ap length e

pub gap_length : (n : ℕ) (rest : List ℕ) → 1 ≤ length rest → length (gap n rest) ≡ n + length rest
gap_length n [] h = absurd (omega arith)
gap_length n (b ∷ rest) h = rw (length-append, length-replicate)

pub gap_some : (n : ℕ) (rest : List ℕ) → 1 ≤ length (gap n rest) → 1 ≤ length rest
gap_some n [] h = h
gap_some n (b ∷ rest) h = omega arith

-- a statement has as many bytes as its space says
pub encode_size : (names : List Entry) (p : Program) (i k : ℕ) (q : Addressℕ) (s : Stmt) (b : List ℕ) → encode names p i k q s ≡ ok b → length b ≡ byte_count q s
unfolding encode
encode_size names p i k q gone b e = none_of b (cc e)
encode_size names p i k q (instr f xs c) b e =
    let v = then_ok (fields names p i k (q + size_at f) 0 (operands_at f) xs) _ b e in
    let z : b ≡ bytes_at f v.0 = cc v.2 in
    ap length z ∙ bytes_size f v.0
encode_size names p i k q (label n) b e = none_of b (cc e)
encode_size names p i k q (variable n d) b e = none_of b (cc e)
encode_size names p i k q (comment x) b e = none_of b (cc e)
encode_size names p i k q (org a) b e = none_of b (cc e)
encode_size names p i k q (bytes es) b e = omega (arith, items_size names 256 1 byte (λ v. refl) i k 0 es b e)
encode_size names p i k q (words es) b e = items_size names 65536 2 word (λ v. refl) i k 0 es b e
encode_size names p i k q (pad add m) b e = let z : b ≡ replicate (up_to q m + add) 0 = cc e in ap length z ∙ length-replicate (up_to q m + add) 0

lays : (i : Placeℕ) (q : Addressℕ) (x : Space) (b rest : List ℕ) → length b ≡ bytes_in x → settles_in i q x ≡ ok tt
    → (1 ≤ length rest → behind q x + length rest ≤ 65536) → 1 ≤ length (lay_in q x b rest) → q + length (lay_in q x b rest) ≤ 65536
lays i q empty b rest e t h l = h l
lays i q (exactly n) b rest e t h l = rw (length-append b rest) (reached q n (length b) rest e (leb-true (q + n) 65536 (require_ok (leb (q + n) 65536) _ _ tt t).0) h)
lays i q (from a) b rest e t h l =
    let up = leb-true q a (require_ok (leb q a) _ _ tt t).0 in
    let some : 1 ≤ length rest = gap_some (a - q) rest l in
    rw (gap_length (a - q) rest some) (omega (arith, h some))

-- ---- the image from a statement on
image_from : (names : List Entry) (p₀ : Program) (i k q : ℕ) (p : Program) (image : List ℕ) → positions_fit (placed_from i k q p) ≡ ok tt
    → encode_all names p₀ (placed_from i k q p) ≡ ok image → 1 ≤ length image → q + length image ≤ 65536
unfolding encode_all placed_from
image_from names p₀ i k q [] image f e l = let z : image ≡ [] = cc in absurd (omega (arith, ap length z))
image_from names p₀ i k q (s ∷ p) image f e l =
    let t = fit_cons i k q s p (unfold placed_from in f) in
    let b = then_ok (encode names p₀ i (enter k s) q s) _ image e in
    let r = then_ok (encode_all names p₀ (placed_from (suc i) (enter k s) (after q s) p)) _ image b.2 in
    let z : image ≡ lay q s b.0 r.0 = cc r.2 in
    let m : 1 ≤ length (lay q s b.0 r.0) = rw z at l in
    rw z (lays i q (space_at q s) b.0 r.0 (encode_size names p₀ i (enter k s) q s b.0 b.1) t.settled (image_from names p₀ (suc i) (enter k s) (after q s) p r.0 t.rest r.1) m)

-- from address 0
pub image_room_holds : (p : Program) (image : List ℕ) → judge p ≡ ok image → length image ≤ 65536
unfolding placed
image_room_holds p image e =
    let h = judge_passes p image e in
    on (length image) refl (image_from h.names p 0 0 0 p image h.laid h.encoded)
  where
    on : (n : ℕ) → length image ≡ n → (1 ≤ length image → 0 + length image ≤ 65536) → length image ≤ 65536
    on zero d k = omega arith
    on (suc n) d k = omega (arith, k (omega arith))
