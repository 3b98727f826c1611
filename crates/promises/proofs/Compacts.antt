-- Slots that are gone do not show: without them the program assembles to the same image, if no operand is an inner label.
use mathlib.Core.Path.{◌≡◌, refl, ◌∙◌, ap}
use mathlib.Core.List.{List, [], ◌∷◌, ◌++◌}
use mathlib.Core.Bool.{Bool, true, false}
use Prim.Native.Nat.{ℕ, suc, ◌+◌}
use lib.Dec.{leb, eqb}
use lib.IntN.{ℤ, pos, ◌-ℤ◌}
use Rattle.rules.specs.declared.Unvalued.TheVariants.{Unknown, Nothing}
use Rattle.rules.specs.declared.Unvalued.{Unvalued}
use Rattle.std.specs.Prelude.{Result, Err, Ok}
use Rattle.laws.specs.Lists.{every}
use Rattle.laws.proofs.Tests.{and_true, false_true}
use Rattle.rules.specs.declared.Refusal.{Refusal}
use Rattle.rules.specs.declared.Refusal.TheVariants.{Range}
use Rattle.rules.specs.declared.Kind.{Kind}
use Rattle.rules.specs.declared.Kind.TheVariants.{Reg, I8, D9, Bit, Rel8, A12, A16, Rel16}
use Rattle.rules.specs.Answers.{at_place, Judged, ok, no, ◌>>=◌, ◌>>◌, check_each, require}
use Rattle.rules.specs.Expressions.{Expr}
use Rattle.rules.specs.Forms.{size_at, operands_at}
use Rattle.rules.specs.Programs.{Placeℕ, Addressℕ, Operand, register, value, inner, Stmt, gone, instr, label, variable, comment, org, bytes, words, Program, as_name, args_of, is_gone, Space, empty, exactly, from, space_at, Naming, unnamed, labels, binds, naming_of, pad}
use Rattle.rules.specs.Layout.{after}
use Rattle.rules.specs.Names.{enter, Key, Entry, placed_from, placed}
use Rattle.rules.specs.Values.{below, signed_byte, nat}
use Rattle.rules.specs.Encoding.{page, field, byte, word}
use Rattle.rules.specs.Judging.{keys_in, are_new, no_name_twice, reaches, settles, positions_fit, value_at, worth, worth_of, define, define_all, fields, items, encode, encode_all, judge, settles_in, define_in}
use Rattle.rules.specs.Output.{compact}
use Rattle.rules.proofs.Laws.{no_ok, then_ok, next_ok}
use Rattle.promises.proofs.Frames.{is_plain}
use Rattle.promises.proofs.Passes.{judge_passes, passes_judge}

-- ---- a slot is gone, or it is kept
pub data View : Stmt → Type 0 where
  is_gone_lem : View gone
  is_live : {s : Stmt} → is_gone s ≡ false → View s

pub view : (s : Stmt) → View s
view gone = is_gone_lem
view (instr f xs c) = is_live refl
view (label n) = is_live refl
view (variable n e) = is_live refl
view (comment x) = is_live refl
view (org l) = is_live refl
view (bytes es) = is_live refl
view (words es) = is_live refl
view (pad add m) = is_live refl

-- a slot that is kept stays
pub compact_live : (s : Stmt) (p : Program) → is_gone s ≡ false → compact (s ∷ p) ≡ s ∷ compact p
unfolding compact
compact_live s p e = rw e

-- ---- an acceptance does not depend on the place
module _ {A : Type 0} where
  require_moved : (t : Bool) (r r' : Refusal) (y y' : Judged A) (a : A) → (y ≡ ok a → y' ≡ ok a) → require t r y ≡ ok a → require t r' y' ≡ ok a
  unfolding require
  require_moved true r r' y y' a h e = h e
  require_moved false r r' y y' a h e = no_ok r a e

bind_moved : {A B : Type 0} (x x' : Judged A) (f f' : A → Judged B) (b : B) → ((a : A) → x ≡ ok a → x' ≡ ok a) → ((a : A) → f a ≡ ok b → f' a ≡ ok b) → x >>= f ≡ ok b → x' >>= f' ≡ ok b
unfolding ◌>>=◌
bind_moved (ok a) x' f f' b h k e = rw (h a refl) (k a e)
bind_moved (no r) x' f f' b h k e = no_ok r b e

reaches_moved : (i j : Placeℕ) (q : Addressℕ) → reaches i q ≡ ok tt → reaches j q ≡ ok tt
reaches_moved i j q e = require_moved (leb q 65536) _ _ (ok tt) (ok tt) tt (λ z. z) e

settles_moved : (i j : Placeℕ) (q : Addressℕ) (s : Stmt) → settles i q s ≡ ok tt → settles j q s ≡ ok tt
settles_moved i j q s = on (space_at q s)
  where
    on : (x : Space) → settles_in i q x ≡ ok tt → settles_in j q x ≡ ok tt
    on empty e = e
    on (exactly n) e = reaches_moved i j (q + n) e
    on (from l) e = require_moved (leb q l) _ _ (ok tt) (ok tt) tt (λ z. z) e

value_moved : (i j : Placeℕ) (o : Result ℤ Unvalued) (z : ℤ) → value_at i o ≡ ok z → value_at j o ≡ ok z
value_moved i j (Ok v) z e = e
value_moved i j (Err Unknown) z e = no_ok _ z e
value_moved i j (Err Nothing) z e = no_ok _ z e

define_moved : (above : List Entry) (i j : Placeℕ) (k : ℕ) (q : Addressℕ) (s : Stmt) (names : List Entry) → define above i k q s ≡ ok names → define above j k q s ≡ ok names
define_moved above i j k q s names = on (naming_of s)
  where
    on : (x : Naming) → define_in above i k q x ≡ ok names → define_in above j k q x ≡ ok names
    on unnamed e = e
    on (labels n) e = e
    on (binds n d) e = bind_moved (value_at i (worth above k d)) (value_at j (worth above k d)) _ _ names (λ z h. value_moved i j (worth above k d) z h) (λ z h. h) e

range_moved : (i j : Placeℕ) (a : ℕ) (t : Bool) (v : ℤ) (b : ℕ) → require t (Range (at_place i) a v) (ok (nat v)) ≡ ok b → require t (Range (at_place j) a v) (ok (nat v)) ≡ ok b
range_moved i j a t v b e = require_moved t _ _ (ok (nat v)) (ok (nat v)) b (λ z. z) e

field_moved : (i j : Placeℕ) (a : ℕ) (n : Addressℕ) (d : Kind) (v : ℤ) (b : ℕ) → field i a n d v ≡ ok b → field j a n d v ≡ ok b
unfolding field
field_moved i j a n Reg v b e = e
field_moved i j a n I8 v b e = range_moved i j a (below 256 v) v b e
field_moved i j a n D9 v b e = range_moved i j a (below 512 v) v b e
field_moved i j a n Bit v b e = range_moved i j a (below 8 v) v b e
field_moved i j a n Rel8 v b e = require_moved (below 65536 v) _ _ _ _ b (λ h. require_moved (signed_byte (v -ℤ pos n)) _ _ _ _ b (λ z. z) h) e
field_moved i j a n A12 v b e = require_moved (below 65536 v) _ _ _ _ b (λ h. require_moved (eqb (page (nat v)) (page n)) _ _ _ _ b (λ z. z) h) e
field_moved i j a n A16 v b e = range_moved i j a (below 65536 v) v b e
field_moved i j a n Rel16 v b e = require_moved (below 65536 v) _ _ _ _ b (λ z. z) e

-- ---- nor on the program, if no operand is an inner label
worth_moved : (names : List Entry) (p p' : Program) (k : ℕ) (x : Operand) → is_plain x ≡ true → worth_of names p' k x ≡ worth_of names p k x
worth_moved names p p' k (register r) h = refl
worth_moved names p p' k (value e) h = refl
worth_moved names p p' k (inner i o) h = false_true h

fields_moved : (names : List Entry) (p p' : Program) (i j : Placeℕ) (k n a : ℕ) (ds : List Kind) (xs : List Operand) (vs : List ℕ) → every is_plain xs ≡ true
    → fields names p i k n a ds xs ≡ ok vs → fields names p' j k n a ds xs ≡ ok vs
unfolding fields every
fields_moved names p p' i j k n a [] xs vs h e = e
fields_moved names p p' i j k n a (d ∷ ds) [] vs h e = e
fields_moved names p p' i j k n a (d ∷ ds) (x ∷ xs) vs h e =
    let t = and_true (is_plain x) (every is_plain xs) h in
    rw (worth_moved names p p' k x t.0)
    (bind_moved (value_at i (worth_of names p k x)) (value_at j (worth_of names p k x)) _ _ vs (λ z. value_moved i j (worth_of names p k x) z) (λ v.
    bind_moved (field i a n d v) (field j a n d v) _ _ vs (λ b. field_moved i j a n d v b) (λ b.
    bind_moved (fields names p i k n (suc a) ds xs) (fields names p' j k n (suc a) ds xs) _ _ vs (λ bs. fields_moved names p p' i j k n (suc a) ds xs bs t.1) (λ bs z. z))) e)

items_moved : (names : List Entry) (bound : ℕ) (write : ℕ → List ℕ) (i j : Placeℕ) (k a : ℕ) (es : List Expr) (vs : List ℕ)
    → items names bound write i k a es ≡ ok vs → items names bound write j k a es ≡ ok vs
unfolding items
items_moved names bound write i j k a [] vs e = e
items_moved names bound write i j k a (d ∷ es) vs e =
    bind_moved (value_at i (worth names k d)) (value_at j (worth names k d)) _ _ vs (λ z. value_moved i j (worth names k d) z) (λ v.
    bind_moved _ _ _ _ vs (λ bs. require_moved (below bound v) _ _ (items names bound write i k (suc a) es) (items names bound write j k (suc a) es) bs
    (items_moved names bound write i j k (suc a) es bs)) (λ bs z. z)) e

encode_moved : (names : List Entry) (p p' : Program) (i j : Placeℕ) (k : ℕ) (q : Addressℕ) (s : Stmt) (b : List ℕ) → every is_plain (args_of s) ≡ true
    → encode names p i k q s ≡ ok b → encode names p' j k q s ≡ ok b
unfolding encode
encode_moved names p p' i j k q gone b h e = e
encode_moved names p p' i j k q (instr f xs c) b h e =
    bind_moved _ _ _ _ b (λ vs. fields_moved names p p' i j k (q + size_at f) 0 (operands_at f) xs vs h) (λ vs z. z) e
encode_moved names p p' i j k q (label n) b h e = e
encode_moved names p p' i j k q (variable n d) b h e = e
encode_moved names p p' i j k q (comment x) b h e = e
encode_moved names p p' i j k q (org l) b h e = e
encode_moved names p p' i j k q (bytes es) b h e = items_moved names 256 byte i j k 0 es b e
encode_moved names p p' i j k q (words es) b h e = items_moved names 65536 word i j k 0 es b e
encode_moved names p p' i j k q (pad add m) b h e = e

-- ---- the passes
once_compact : (seen : List Key) (i j k q : ℕ) (p : Program) → no_name_twice seen (placed_from i k q p) ≡ ok tt → no_name_twice seen (placed_from j k q (compact p)) ≡ ok tt
unfolding no_name_twice placed_from compact
once_compact seen i j k q [] e = e
once_compact seen i j k q (s ∷ p) e =
    on (view s) e (λ seen'. once_compact seen' (suc i) j (enter k s) (after q s) p) (λ seen'. once_compact seen' (suc i) (suc j) (enter k s) (after q s) p)
  where
    on : {s : Stmt} → View s → no_name_twice seen (placed_from i k q (s ∷ p)) ≡ ok tt
        → ((seen' : List Key) → no_name_twice seen' (placed_from (suc i) (enter k s) (after q s) p) ≡ ok tt → no_name_twice seen' (placed_from j (enter k s) (after q s) (compact p)) ≡ ok tt)
        → ((seen' : List Key) → no_name_twice seen' (placed_from (suc i) (enter k s) (after q s) p) ≡ ok tt → no_name_twice seen' (placed_from (suc j) (enter k s) (after q s) (compact p)) ≡ ok tt)
        → no_name_twice seen (placed_from j k q (compact (s ∷ p))) ≡ ok tt
    on is_gone_lem e here later = here seen (unfold as_name require in e)
    on {s} (is_live l) e here later =
        rw (compact_live s p l)
        (require_moved (are_new seen (keys_in (enter k s) (as_name s))) _ _ _ _ tt (later (keys_in (enter k s) (as_name s) ++ seen)) e)

fit_compact : (i j k q : ℕ) (p : Program) → positions_fit (placed_from i k q p) ≡ ok tt → positions_fit (placed_from j k q (compact p)) ≡ ok tt
unfolding positions_fit check_each placed_from compact ◌>>◌
fit_compact i j k q [] e = e
fit_compact i j k q (s ∷ p) e = on (view s) e (fit_compact (suc i) j (enter k s) (after q s) p) (fit_compact (suc i) (suc j) (enter k s) (after q s) p)
  where
    on : {s : Stmt} → View s → positions_fit (placed_from i k q (s ∷ p)) ≡ ok tt
        → (positions_fit (placed_from (suc i) (enter k s) (after q s) p) ≡ ok tt → positions_fit (placed_from j (enter k s) (after q s) (compact p)) ≡ ok tt)
        → (positions_fit (placed_from (suc i) (enter k s) (after q s) p) ≡ ok tt → positions_fit (placed_from (suc j) (enter k s) (after q s) (compact p)) ≡ ok tt)
        → positions_fit (placed_from j k q (compact (s ∷ p))) ≡ ok tt
    on is_gone_lem e here later = here e
    on {s} (is_live l) e here later =
        let h = next_ok (settles i q s) _ tt e in
        let z : settles j q s ≡ ok tt = settles_moved i j q s h.1 in
        rw (compact_live s p l, z, ◌>>◌) (later h.2)

pub define_compact : (above : List Entry) (i j k q : ℕ) (p : Program) (names : List Entry) → define_all above (placed_from i k q p) ≡ ok names → define_all above (placed_from j k q (compact p)) ≡ ok names
unfolding define_all placed_from compact ◌>>=◌
define_compact above i j k q [] names e = e
define_compact above i j k q (s ∷ p) names e =
    on (view s) e (λ more. define_compact more (suc i) j (enter k s) (after q s) p names) (λ more. define_compact more (suc i) (suc j) (enter k s) (after q s) p names)
  where
    on : {s : Stmt} → View s → define_all above (placed_from i k q (s ∷ p)) ≡ ok names
        → ((more : List Entry) → define_all more (placed_from (suc i) (enter k s) (after q s) p) ≡ ok names → define_all more (placed_from j (enter k s) (after q s) (compact p)) ≡ ok names)
        → ((more : List Entry) → define_all more (placed_from (suc i) (enter k s) (after q s) p) ≡ ok names → define_all more (placed_from (suc j) (enter k s) (after q s) (compact p)) ≡ ok names)
        → define_all above (placed_from j k q (compact (s ∷ p))) ≡ ok names
    on is_gone_lem e here later = here above e
    on {s} (is_live l) e here later =
        rw (compact_live s p l) (bind_moved (define above i (enter k s) q s) (define above j (enter k s) q s) _ _ names (λ more. define_moved above i j (enter k s) q s more) later e)

abbrev pub plain_stmt : Stmt → Bool
plain_stmt s = every is_plain (args_of s)

encode_compact : (names : List Entry) (p₀ p₁ : Program) (i j k q : ℕ) (p : Program) (image : List ℕ) → every plain_stmt p ≡ true
    → encode_all names p₀ (placed_from i k q p) ≡ ok image → encode_all names p₁ (placed_from j k q (compact p)) ≡ ok image
unfolding encode_all encode placed_from compact every ◌>>=◌
encode_compact names p₀ p₁ i j k q [] image h e = e
encode_compact names p₀ p₁ i j k q (s ∷ p) image h e =
    let t = and_true (plain_stmt s) (every plain_stmt p) h in
    on (view s) t.0 e (λ r. encode_compact names p₀ p₁ (suc i) j (enter k s) (after q s) p r t.1) (λ r. encode_compact names p₀ p₁ (suc i) (suc j) (enter k s) (after q s) p r t.1)
  where
    on : {s : Stmt} → View s → plain_stmt s ≡ true → encode_all names p₀ (placed_from i k q (s ∷ p)) ≡ ok image
        → ((r : List ℕ) → encode_all names p₀ (placed_from (suc i) (enter k s) (after q s) p) ≡ ok r → encode_all names p₁ (placed_from j (enter k s) (after q s) (compact p)) ≡ ok r)
        → ((r : List ℕ) → encode_all names p₀ (placed_from (suc i) (enter k s) (after q s) p) ≡ ok r → encode_all names p₁ (placed_from (suc j) (enter k s) (after q s) (compact p)) ≡ ok r)
        → encode_all names p₁ (placed_from j k q (compact (s ∷ p))) ≡ ok image
    on is_gone_lem t e here later =
        let r = then_ok (encode_all names p₀ (placed_from (suc i) k q p)) _ image e in
        let same : r.0 ≡ image = cc r.2 in
        here image (r.1 ∙ ap ok same)
    on {s} (is_live l) t e here later =
        rw (compact_live s p l)
        (bind_moved (encode names p₀ i (enter k s) q s) (encode names p₁ j (enter k s) q s) _ _ image (λ b. encode_moved names p₀ p₁ i j (enter k s) q s b t)
        (λ b. bind_moved (encode_all names p₀ (placed_from (suc i) (enter k s) (after q s) p)) _ _ _ image later (λ r z. z)) e)

-- the image of what is left
pub judge_compact : (p : Program) (image : List ℕ) → every plain_stmt p ≡ true → judge p ≡ ok image → judge (compact p) ≡ ok image
unfolding placed
judge_compact p image h e =
    let a = judge_passes p image e in
    passes_judge (compact p) image
    (record {
      once = once_compact [] 0 0 0 0 p a.once;
      laid = fit_compact 0 0 0 0 p a.laid;
      names = a.names;
      defined = define_compact [] 0 0 0 0 p a.names a.defined;
      encoded = encode_compact a.names p (compact p) 0 0 0 0 p image h a.encoded;
    })
