-- A program with other places in the field `carried`: what does not look at the field, positions, names, judging, edits.
use mathlib.Core.Path.{◌≡◌, refl, ◌∙◌, ap, ap₂}
use mathlib.Core.List.{List, [], ◌∷◌, map}
use mathlib.Core.Option.{Option, none, some}
use mathlib.Core.Bool.{Bool, true, false, ◌&&◌, not, cond}
use Prim.Native.Nat.{ℕ, zero, suc, ◌+◌, ◌-◌}
use lib.Dec.{ltb, eqb}
use lib.ListN.{length, length-map, set, get_or-map}
use Rattle.laws.specs.Options.{or_else, given, first_from, first_of, bind}
use Rattle.laws.specs.Lists.{total, every}
use Rattle.laws.specs.Counts.{scan}
use Rattle.laws.proofs.Counts.{scan_ext}
use Rattle.rules.specs.Answers.{Judged, ok, no, ◌>>=◌, judged_or, is_ok}
use Rattle.rules.specs.Forms.{is_unconditional}
use Rattle.rules.specs.Programs.{Placeℕ, Operand, register, value, inner, Stmt, gone, instr, Program, at, byte_count, Naming, naming_of, Instruction, as_instr, args_of, as_label, as_name, over_exprs, on_last}
use Rattle.rules.specs.Expressions.{mentions}
use Rattle.rules.specs.Layout.{after, position}
use Rattle.rules.specs.Names.{enter, context_from, context_at, Key, Entry, Placed, placed_from, placed}
use Rattle.rules.specs.Judging.{define, define_all, names_of, encode, judge, assembles}
use Rattle.rules.specs.Rewriting.{moves_in, moving_after, moving_of, of_inner, every_inner_label, no_inner_label_between, no_interior_label_at, acceptable, candidate, insignificant, next, branch, unconditional, local_label, drop_all, references}
use Rattle.rules.proofs.Laws.{by_change, other}
use Rattle.promises.proofs.Alike.{Alike, judge_alike}
use Rattle.promises.proofs.Positions.{AllSameRoom, position_same, size_same}
use Rattle.promises.proofs.Retargets.{Kept, positions_kept, same_alike}
use Rattle.believed.specs.Uncarried.{recarry, recarried}

-- ---- options and lists, one made from the other
abbrev pub omap : {A B : Type 0} → (A → B) → Option A → Option B
omap f none = none
omap f (some a) = some (f a)

module _ {A B : Type 0} (r : A → B) where
  given_omap : (b : Bool) (o : Option A) → given b (omap r o) ≡ omap r (given b o)
  unfolding given
  given_omap true o = refl
  given_omap false o = refl

  pub or_else_omap : (o q : Option A) → or_else (omap r o) (omap r q) ≡ omap r (or_else o q)
  unfolding or_else
  or_else_omap none q = refl
  or_else_omap (some a) q = refl

  pub first_omap : (f : ℕ → Option B) (g : ℕ → Option A) → ((j : ℕ) → f j ≡ omap r (g j)) → (n i : ℕ)
      → first_from f n i ≡ omap r (first_from g n i)
  unfolding first_from
  first_omap f g h zero i = refl
  first_omap f g h (suc n) i = rw (h i, first_omap f g h n (suc i)) (or_else_omap (g i) (first_from g n (suc i)))

  pub first_of_omap : {X : Type 0} (f : X → Option B) (g : X → Option A) → ((x : X) → f x ≡ omap r (g x)) → (xs : List X)
      → first_of f xs ≡ omap r (first_of g xs)
  unfolding first_of
  first_of_omap f g h [] = refl
  first_of_omap f g h (x ∷ xs) = rw (h x, first_of_omap f g h xs) (or_else_omap (g x) (first_of g xs))

  pub bind_omap : {X Y : Type 0} (h : X → Y) (o : Option X) (f : Y → Option B) (g : X → Option A) → ((x : X) → f (h x) ≡ omap r (g x))
      → bind (omap h o) f ≡ omap r (bind o g)
  unfolding bind
  bind_omap h none f g k = refl
  bind_omap h (some x) f g k = k x

  pub bind_plain : {X : Type 0} (o : Option X) (f : X → Option B) (g : X → Option A) → ((x : X) → f x ≡ omap r (g x))
      → bind o f ≡ omap r (bind o g)
  unfolding bind
  bind_plain none f g k = refl
  bind_plain (some x) f g k = k x

pub map_twice : {X Y Z W : Type 0} (f : Y → W) (g : X → Y) (h : Z → W) (k : X → Z) → ((x : X) → f (g x) ≡ h (k x)) → (xs : List X)
    → map f (map g xs) ≡ map h (map k xs)
map_twice f g h k e [] = refl
map_twice {W = W} f g h k e (x ∷ xs) = ap₂ (λ (a : W) (l : List W). a ∷ l) (e x) (map_twice f g h k e xs)

pub total_map : {X : Type 0} (w : X → ℕ) (f : X → X) → ((x : X) → w (f x) ≡ w x) → (xs : List X) → total w (map f xs) ≡ total w xs
unfolding total
total_map w f e [] = refl
total_map w f e (x ∷ xs) = ap₂ (λ (a b : ℕ). a + b) (e x) (total_map w f e xs)

pub on_last_ext : (f g : Operand → Operand) → ((x : Operand) → f x ≡ g x) → (xs : List Operand) → on_last f xs ≡ on_last g xs
on_last_ext f g h [] = refl
on_last_ext f g h (x ∷ []) = rw (h x)
on_last_ext f g h (x ∷ y ∷ xs) = ap (λ (l : List Operand). x ∷ l) (on_last_ext f g h (y ∷ xs))

bind_ext : {A B : Type 0} (x : Judged A) {f g : A → Judged B} → ((a : A) → f a ≡ g a) → x >>= f ≡ x >>= g
unfolding ◌>>=◌
bind_ext (ok a) h = h a
bind_ext (no r) h = refl

module _ (c : Placeℕ → Placeℕ) where
  abbrev R : Program → Program
  R p = recarried c p

  -- what does not look at the field
  pub blind : {X : Type 0} (f : Stmt → X) → ((g : ℕ) (xs : List Operand) (a b : Placeℕ) → f (instr g xs a) ≡ f (instr g xs b)) → (s : Stmt)
      → f (recarry c s) ≡ f s
  blind f h s = by_change (λ s t. f t ≡ f s) (λ x. instr x.form x.args (c x.carried)) (λ g xs d. h g xs (c d) d) (λ s n. refl) s

  pub at_re : (p : Program) (i : Placeℕ) → at (R p) i ≡ recarry c (at p i)
  unfolding recarried
  at_re p i = get_or-map (recarry c) p i gone

  pub length_re : (p : Program) → length (R p) ≡ length p
  unfolding recarried
  length_re p = rw length-map

  -- ---- positions, contexts, names
  pub room_re : (p : Program) → AllSameRoom p (R p)
  room_re p =
      (length_re p, λ i. rw (at_re p i) (record { goes_on = λ q. blind (after q) (λ g xs a b. refl) (at p i); as_big = λ q. blind (byte_count q) (λ g xs a b. refl) (at p i) }))

  pub position_re : (p : Program) (i : Placeℕ) → position (R p) i ≡ position p i
  position_re p i = position_same p (R p) (room_re p) i

  pub kept_re : (p : Program) → Kept p (R p)
  kept_re p = positions_kept p (R p) (position_re p)

  context_from_lem : (k : ℕ) (p : Program) (i : Placeℕ) → context_from k (map (recarry c) p) i ≡ context_from k p i
  unfolding context_from
  context_from_lem k [] i = refl
  context_from_lem k (s ∷ p) zero = blind (enter k) (λ g xs a b. refl) s
  context_from_lem k (s ∷ p) (suc i) =
      ap (λ (m : ℕ). context_from m (map (recarry c) p) i) (blind (enter k) (λ g xs a b. refl) s) ∙ context_from_lem (enter k s) p i

  pub context_re : (p : Program) (i : Placeℕ) → context_at (R p) i ≡ context_at p i
  unfolding context_at recarried
  context_re p i = context_from_lem 0 p i

  abbrev pub moved : Placed → Placed
  moved x = record { place = x.place; context = x.context; position = x.position; stmt = recarry c x.stmt }

  placed_from_lem : (i k q : ℕ) (p : Program) → placed_from i k q (map (recarry c) p) ≡ map moved (placed_from i k q p)
  unfolding placed_from
  placed_from_lem i k q [] = refl
  placed_from_lem i k q (s ∷ p) =
      rw (blind (enter k) (λ g xs a b. refl) s, blind (after q) (λ g xs a b. refl) s)
      (ap (λ (l : List Placed). record { place = i; context = enter k s; position = q; stmt = recarry c s } ∷ l) (placed_from_lem (suc i) (enter k s) (after q s) p))

  pub placed_re : (p : Program) → placed (R p) ≡ map moved (placed p)
  unfolding placed recarried
  placed_re p = placed_from_lem 0 0 0 p

  define_re : (above : List Entry) (xs : List Placed) → define_all above (map moved xs) ≡ define_all above xs
  unfolding define_all
  define_re above [] = refl
  define_re above (x ∷ xs) =
      rw (blind naming_of (λ g ys a b. refl) x.stmt) (bind_ext (define above x.place x.context x.position x.stmt) (λ names. define_re names xs))

  pub names_re : (p : Program) → names_of (R p) ≡ names_of p
  unfolding names_of
  names_re p = ap (λ (o : Judged (List Entry)). judged_or o []) (ap (define_all []) (placed_re p) ∙ define_re [] (placed p))

  moving_after_lem : (above : List Key) (xs : List Placed) → moving_after above (map moved xs) ≡ moving_after above xs
  unfolding moving_after
  moving_after_lem above [] = refl
  moving_after_lem above (x ∷ xs) =
      ap (λ (n : Naming). moving_after (moves_in above x.context n) (map moved xs)) (blind naming_of (λ g ys a b. refl) x.stmt)
      ∙ moving_after_lem (moves_in above x.context (naming_of x.stmt)) xs

  pub moving_re : (p : Program) → moving_of (R p) ≡ moving_of p
  unfolding moving_of
  moving_re p = ap (moving_after []) (placed_re p) ∙ moving_after_lem [] (placed p)

  pub references_re : (k n : ℕ) (p : Program) → references k n (R p) ≡ references k n p
  unfolding references
  references_re k n p =
      ap (total weight) (placed_re p)
      ∙ total_map weight moved (λ x. ap (λ (m : ℕ). cond (eqb x.context k) m 0) (blind (over_exprs (λ e. mentions (λ m. eqb m n) e)) (λ g xs a b. refl) x.stmt)) (placed p)
    where
      weight : Placed → ℕ
      weight x = cond (eqb x.context k) (over_exprs (λ e. mentions (λ m. eqb m n) e) x.stmt) 0

  -- ---- judging
  pub judge_re : (p : Program) → judge (R p) ≡ judge p
  judge_re p = judge_alike p (R p) (length_re p, λ i h. rw (at_re p i) (alike (context_from 0 p i) (at p i)))
    where
      alike : (k : ℕ) (s : Stmt) → Alike (names_of p) p (R p) k s (recarry c s)
      alike k s =
          by_change (Alike (names_of p) p (R p) k) (λ x. instr x.form x.args (c x.carried)) (λ f xs d. instruction k f xs d) (λ s n. same_alike p (R p) (kept_re p) (names_of p) k s) s
        where
          instruction : (k f : ℕ) (xs : List Operand) (d : Placeℕ) → Alike (names_of p) p (R p) k (instr f xs d) (instr f xs (c d))
          instruction k f xs d =
              record {
                goes_on = λ q. refl;
                enters = λ j. refl;
                called = unfold as_name in refl;
                settled = λ i q. refl;
                defined = λ above i j q. refl;
                encoded = λ i q. unfold encode in (same_alike p (R p) (kept_re p) (names_of p) k (instr f xs d)).encoded i q;
                laid = λ q b rest. refl;
              }

  operands_ext : (f g : Placeℕ → ℕ → Bool) → ((i o : ℕ) → f i o ≡ g i o) → (xs : List Operand)
      → every (of_inner f) xs ≡ every (of_inner g) xs
  unfolding every
  operands_ext f g h [] = refl
  operands_ext f g h (register r ∷ xs) = operands_ext f g h xs
  operands_ext f g h (value e ∷ xs) = operands_ext f g h xs
  operands_ext f g h (inner i o ∷ xs) = ap₂ (λ (a b : Bool). a && b) (h i o) (operands_ext f g h xs)

  inner_re : (f g : Placeℕ → ℕ → Bool) → ((i o : ℕ) → f i o ≡ g i o) → (p : Program) → every_inner_label f (R p) ≡ every_inner_label g p
  unfolding every_inner_label recarried every
  inner_re f g h [] = refl
  inner_re f g h (s ∷ p) =
      ap₂ (λ (a b : Bool). a && b) (ap (every (of_inner f)) (blind args_of (λ k xs a b. refl) s) ∙ operands_ext f g h (args_of s)) (inner_re f g h p)

  pub between_re : (p : Program) (i m : Placeℕ) → no_inner_label_between (R p) i m ≡ no_inner_label_between p i m
  unfolding no_inner_label_between
  between_re p i m = inner_re _ _ (λ owner o. refl) p

  pub interior_re : (p : Program) (i : Placeℕ) → no_interior_label_at (R p) i ≡ no_interior_label_at p i
  unfolding no_interior_label_at
  interior_re p i = inner_re _ _ (λ owner o. refl) p

  acceptable_re : (p : Program) → acceptable (R p) ≡ acceptable p
  unfolding acceptable assembles
  acceptable_re p =
      ap₂ (λ (a b : Bool). a && b) (inner_re _ _ (λ owner o. ap (ltb o) (size_same p (R p) (room_re p) owner)) p) (ap is_ok (judge_re p))

  candidate_re : (p : Program) → candidate (R p) ≡ omap R (candidate p)
  unfolding candidate
  candidate_re p = rw (acceptable_re p) (given_omap R (acceptable p) (some p))

  -- ---- looks at a statement
  unfoldable pub re_i : Instruction → Instruction
  re_i x = record { form = x.form; args = x.args; carried = c x.carried }

  pub instr_re : (s : Stmt) → as_instr (recarry c s) ≡ omap re_i (as_instr s)
  unfolding as_instr re_i
  instr_re s =
      by_change (λ s t. as_instr t ≡ omap re_i (as_instr s)) (λ x. instr x.form x.args (c x.carried)) (λ g xs d. refl) (λ s n. let e = other none (λ x. some x) s n in rw e) s

  pub branch_re : (f : ℕ) (s : Stmt) → branch f (recarry c s) ≡ omap re_i (branch f s)
  unfolding branch re_i
  branch_re f s =
      ap (λ (o : Option Instruction). bind o (λ x. given (eqb x.form f) (some x))) (instr_re s)
      ∙ bind_omap re_i re_i (as_instr s) (λ x. given (eqb x.form f) (some x)) (λ x. given (eqb x.form f) (some x)) (λ x. given_omap re_i (eqb x.form f) (some x))

  pub unconditional_re : (s : Stmt) → unconditional (recarry c s) ≡ omap re_i (unconditional s)
  unfolding unconditional re_i
  unconditional_re s =
      ap (λ (o : Option Instruction). bind o (λ x. given (is_unconditional x.form) (some x))) (instr_re s)
      ∙ bind_omap re_i re_i (as_instr s) (λ x. given (is_unconditional x.form) (some x)) (λ x. given (is_unconditional x.form) (some x)) (λ x. given_omap re_i (is_unconditional x.form) (some x))

  pub label_re : (s : Stmt) → local_label (recarry c s) ≡ local_label s
  unfolding local_label as_label
  label_re s = blind local_label (λ g xs a b. refl) s

  pub next_re : (p : Program) (i : Placeℕ) → next (R p) i ≡ next p i
  unfolding next
  next_re p i =
      ap (λ (n : ℕ). scan (λ j. not (insignificant (at (R p) j))) (n - i) i) (length_re p)
      ∙ scan_ext (λ j. not (insignificant (at (R p) j))) (λ j. not (insignificant (at p j))) (length p - i) i
      (λ m l h. ap (λ (s : Stmt). not (insignificant s)) (at_re p m) ∙ blind (λ s. not (insignificant s)) (λ g xs a b. refl) (at p m))

  -- ---- edits
  set_re : (p : Program) (i : Placeℕ) (s : Stmt) → set (R p) i (recarry c s) ≡ R (set p i s)
  unfolding recarried
  set_re [] i s = refl
  set_re (x ∷ p) zero s = refl
  set_re (x ∷ p) (suc i) s = ap (λ (l : Program). recarry c x ∷ l) (set_re p i s)

  drop_re : (is : List Placeℕ) (p : Program) → drop_all is (R p) ≡ R (drop_all is p)
  unfolding drop_all
  drop_re [] p = refl
  drop_re (i ∷ is) p = ap (drop_all is) (set_re p i gone) ∙ drop_re is (set p i gone)

  pub edit_re : (is : List Placeℕ) (p : Program) (i : Placeℕ) (s : Stmt)
      → candidate (drop_all is (set (R p) i (recarry c s))) ≡ omap R (candidate (drop_all is (set p i s)))
  edit_re is p i s = ap candidate (ap (drop_all is) (set_re p i s) ∙ drop_re is (set p i s)) ∙ candidate_re (drop_all is (set p i s))

  pub put_re : (p : Program) (i : Placeℕ) (s : Stmt) → candidate (set (R p) i (recarry c s)) ≡ omap R (candidate (set p i s))
  put_re p i s = ap candidate (set_re p i s) ∙ candidate_re (set p i s)

  -- a test that is the same, then the candidate
  pub tested : (t u : Bool) (o : Option Program) (q : Option Program) → t ≡ u → o ≡ omap R q → given t o ≡ omap R (given u q)
  tested t u o q e h = ap₂ (λ (b : Bool) (x : Option Program). given b x) e h ∙ given_omap R u q
