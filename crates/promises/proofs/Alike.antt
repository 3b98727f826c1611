-- Statements that are judged alike, place by place, make programs that are judged alike. So does a change of operands that keeps their worth.
use mathlib.Core.Path.{◌≡◌, refl, ap, ap₂}
use mathlib.Core.List.{List, [], ◌∷◌, ◌++◌}
use Prim.Native.Nat.{ℕ, suc, ◌<◌}
use native.Mathlib.Omega.{arith}
use lib.ListN.{length}
use Rattle.rules.specs.declared.Refusal.TheVariants.{Again}
use Rattle.rules.specs.Answers.{at_place, Judged, ok, no, Check, ◌>>=◌, ◌>>◌, check_each, require, judged_or}
use Rattle.rules.specs.Programs.{Placeℕ, Addressℕ, Stmt, Program, at, as_name}
use Rattle.rules.specs.Layout.{after, lay}
use Rattle.rules.specs.Names.{enter, Key, Entry, placed_from, placed, context_from}
use Rattle.rules.specs.Judging.{keys_in, are_new, no_name_twice, settles, positions_fit, define, define_all, encode, encode_all, judge, names_of}

-- s in p and t in p' are judged alike, in context k and among these names
pub record Alike (names : List Entry) (p p' : Program) (k : ℕ) (s t : Stmt) : Type 0 where
  pub goes_on : (q : Addressℕ) → after q t ≡ after q s
  pub enters : (j : ℕ) → enter j t ≡ enter j s
  pub called : as_name t ≡ as_name s
  pub settled : (i : Placeℕ) (q : Addressℕ) → settles i q t ≡ settles i q s
  pub defined : (above : List Entry) (i : Placeℕ) (j : ℕ) (q : Addressℕ) → define above i j q t ≡ define above i j q s
  pub encoded : (i : Placeℕ) (q : Addressℕ) → encode names p' i k q t ≡ encode names p i k q s
  pub laid : (q : Addressℕ) (b rest : List ℕ) → lay q t b rest ≡ lay q s b rest

bind_ext : {A B : Type 0} (x : Judged A) {f g : A → Judged B} → ((a : A) → f a ≡ g a) → x >>= f ≡ x >>= g
unfolding ◌>>=◌
bind_ext (ok a) h = h a
bind_ext (no r) h = refl

-- where what is handed on is known
bind_known : {A B : Type 0} (x : Judged A) (d : A) (f g : A → Judged B) → f (judged_or x d) ≡ g (judged_or x d) → x >>= f ≡ x >>= g
unfolding ◌>>=◌ judged_or
bind_known (ok a) d f g h = h
bind_known (no r) d f g h = refl

lay_ext : (x y : Judged (List ℕ)) {f g : List ℕ → List ℕ → List ℕ} → ((b r : List ℕ) → f b r ≡ g b r)
    → x >>= (λ b. y >>= (λ r. ok (f b r))) ≡ x >>= (λ b. y >>= (λ r. ok (g b r)))
unfolding ◌>>=◌
lay_ext (ok b) (ok r) h = ap ok (h b r)
lay_ext (ok b) (no r) h = refl
lay_ext (no r) y h = refl

-- ---- the passes, over statements that are alike place by place
module _ (names : List Entry) (p p' : Program) where
  -- the first of them after context k
  abbrev pub AllAlike : (k : ℕ) → Program → Program → Type 0
  AllAlike k l m = (length m ≡ length l) × ((i : Placeℕ) → i < length l → Alike names p p' (context_from k l i) (at l i) (at m i))

  first : (k : ℕ) (s t : Stmt) (l m : Program) → AllAlike k (s ∷ l) (t ∷ m) → Alike names p p' (enter k s) s t
  unfolding context_from
  first k s t l m h = h.1 0 (omega arith)

  rest : (k : ℕ) (s t : Stmt) (l m : Program) → AllAlike k (s ∷ l) (t ∷ m) → AllAlike (enter k s) l m
  unfolding context_from
  rest k s t l m h = (omega (arith, h.0), λ i j. h.1 (suc i) (omega arith))

  once_alike : (seen : List Key) (i k q : ℕ) (l m : Program) → AllAlike k l m → no_name_twice seen (placed_from i k q m) ≡ no_name_twice seen (placed_from i k q l)
  unfolding no_name_twice placed_from
  once_alike seen i k q [] [] h = refl
  once_alike seen i k q [] (t ∷ m) h = absurd (omega (arith, h.0))
  once_alike seen i k q (s ∷ l) [] h = absurd (omega (arith, h.0))
  once_alike seen i k q (s ∷ l) (t ∷ m) h =
      let a = first k s t l m h in
      rw (a.enters k, a.called, a.goes_on q)
      (ap (require (are_new seen (keys_in (enter k s) (as_name s))) (Again (at_place i)))
      (once_alike (keys_in (enter k s) (as_name s) ++ seen) (suc i) (enter k s) (after q s) l m (rest k s t l m h)))

  fit_alike : (i k q : ℕ) (l m : Program) → AllAlike k l m → positions_fit (placed_from i k q m) ≡ positions_fit (placed_from i k q l)
  unfolding positions_fit check_each placed_from
  fit_alike i k q [] [] h = refl
  fit_alike i k q [] (t ∷ m) h = absurd (omega (arith, h.0))
  fit_alike i k q (s ∷ l) [] h = absurd (omega (arith, h.0))
  fit_alike i k q (s ∷ l) (t ∷ m) h =
      let a = first k s t l m h in
      rw (a.enters k, a.goes_on q) (ap₂ (λ (x y : Check). x >> y) (a.settled i q) (fit_alike (suc i) (enter k s) (after q s) l m (rest k s t l m h)))

  define_alike : (above : List Entry) (i k q : ℕ) (l m : Program) → AllAlike k l m → define_all above (placed_from i k q m) ≡ define_all above (placed_from i k q l)
  unfolding define_all placed_from
  define_alike above i k q [] [] h = refl
  define_alike above i k q [] (t ∷ m) h = absurd (omega (arith, h.0))
  define_alike above i k q (s ∷ l) [] h = absurd (omega (arith, h.0))
  define_alike above i k q (s ∷ l) (t ∷ m) h =
      let a = first k s t l m h in
      rw (a.enters k, a.goes_on q, a.defined above i (enter k s) q)
      (bind_ext (define above i (enter k s) q s) (λ names. define_alike names (suc i) (enter k s) (after q s) l m (rest k s t l m h)))

  encode_alike : (i k q : ℕ) (l m : Program) → AllAlike k l m → encode_all names p' (placed_from i k q m) ≡ encode_all names p (placed_from i k q l)
  unfolding encode_all placed_from
  encode_alike i k q [] [] h = refl
  encode_alike i k q [] (t ∷ m) h = absurd (omega (arith, h.0))
  encode_alike i k q (s ∷ l) [] h = absurd (omega (arith, h.0))
  encode_alike i k q (s ∷ l) (t ∷ m) h =
      let a = first k s t l m h in
      rw (a.enters k, a.goes_on q, a.encoded i q, encode_alike (suc i) (enter k s) (after q s) l m (rest k s t l m h))
      (lay_ext (encode names p i (enter k s) q s) (encode_all names p (placed_from (suc i) (enter k s) (after q s) l)) (a.laid q))

-- programs alike place by place, among the names of the one, have one image, or one refusal
pub judge_alike : (p p' : Program) → AllAlike (names_of p) p p' 0 p p' → judge p' ≡ judge p
unfolding judge placed names_of
judge_alike p p' h =
    let names : List Entry = names_of p in
    rw (once_alike names p p' [] 0 0 0 p p' h, fit_alike names p p' 0 0 0 p p' h, define_alike names p p' [] 0 0 0 p p' h)
    (ap (λ (x : Judged (List ℕ)). no_name_twice [] (placed_from 0 0 0 p) >> (positions_fit (placed_from 0 0 0 p) >> x))
    (bind_known (define_all [] (placed_from 0 0 0 p)) [] (λ names. encode_all names p' (placed_from 0 0 0 p')) (λ names. encode_all names p (placed_from 0 0 0 p)) (encode_alike names p p' 0 0 0 p p' h)))
