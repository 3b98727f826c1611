-- A walk of an image by the map is the walk of the listing, told by the addresses of the long image.
use mathlib.Core.Path.{◌≡◌, refl, sym, ◌∙◌, ap}
use mathlib.Core.List.{List, [], ◌∷◌, map}
use mathlib.Core.Option.{Option, none, some}
use mathlib.Core.Bool.{Bool, true, false, cond, ◌||◌}
use Prim.Native.Nat.{ℕ, zero, suc, ◌+◌, ◌<◌}
use native.Mathlib.Omega.{arith}
use lib.Dec.{eqb}
use lib.ListN.{length}
use lib.IntN.{pos, negsuc}
use borrow.Author.Tests.{le-leb, not-false}
use Rattle.rules.specs.declared.Unvalued.TheVariants.{Unknown, Nothing}
use Rattle.rules.specs.declared.Unvalued.{Unvalued}
use Rattle.std.specs.Prelude.{ℤ, Result, Err, Ok}
use Rattle.laws.proofs.Tests.{false_true, clash}
use Rattle.rules.specs.Answers.{ok}
use Rattle.rules.specs.Expressions.{Expr, num, name, two, one, eval_tree}
use Rattle.rules.specs.Forms.{size_at, is_transfer}
use Rattle.rules.specs.Programs.{Placeℕ, Operand, register, value, inner, Stmt, gone, instr, label, variable, comment, org, bytes, words, pad, Program, at, on_instr, last_of}
use Rattle.rules.specs.Layout.{position, size_in, Origin}
use Rattle.rules.specs.Names.{context_at, Entry, placed}
use Rattle.rules.specs.Judging.{worth, worth_of, names_of, positions_fit}
use Rattle.rules.specs.Rewriting.{moving_of, is_change_jump}
use Rattle.promises.proofs.Weights.{instr_inside}
use Rattle.walk.specs.Walk.{same_test}
use Rattle.paths.specs.Walk.{Oracle, Class, jumps, calls, returns, tests, plain, class, plain_form, taken_on, Event, front, event, Ending, going, off_the_end, in_data, inside, leaves, computed, clouded, unreturned, no_address, Spot, here, done, State, start_at, Move, stop, on, pick, acts, is_code, code_at, to_spot, label_names, is_followed, aim_at, holds_none, is_clouded, enters_instr, enters_at, meets_at, meets, Walk, halts, follow, run, walk}
use Rattle.paths.specs.SamePath.{itself, SameWorth}
use Rattle.decoded.specs.Decoded.{as_worth, numbered, Decodes}
use Rattle.decoded.specs.Bytes.{spot_of}
use Rattle.mapwalk.specs.Stands.{Sort, as_code, as_aside, as_stop, hidden, blanked, target_as, decodes, enters_as, enters_found, steps_from, image_step, image_walk, memory}
use Rattle.mapwalk.specs.Maps.{followed, sort_at, moves_at, stand_at, stands_of}
use Rattle.mapwalk.proofs.Seeks.{found_as, seek_comes}

-- ---- operands
last_of_map : (f : Operand → Operand) (xs : List Operand) → f (register 0) ≡ register 0 → last_of (map f xs) ≡ f (last_of xs)
last_of_map f [] h = sym h
last_of_map f (x ∷ []) h = refl
last_of_map f (x ∷ y ∷ xs) h = last_of_map f (y ∷ xs) h

spot_value : (names : List Entry) (k : ℕ) (e : Expr) (v : Result ℤ Unvalued) → worth names k e ≡ v → spot_of (as_worth e v) ≡ to_spot v
unfolding eval_tree
spot_value names k e (Ok z) h = refl
spot_value names k (num z) (Err Unknown) h = clash (cc)
spot_value names k (name n) (Err Unknown) h = refl
spot_value names k (two o e d) (Err Unknown) h = refl
spot_value names k (one o e) (Err Unknown) h = refl
spot_value names k (num z) (Err Nothing) h = clash (cc)
spot_value names k (name n) (Err Nothing) h = refl
spot_value names k (two o e d) (Err Nothing) h = refl
spot_value names k (one o e) (Err Nothing) h = refl

front_map : (g : Operand → Operand) (xs : List Operand) → front (map g xs) ≡ map g (front xs)
front_map g [] = refl
front_map g (x ∷ []) = refl
front_map g (x ∷ y ∷ xs) = ap (λ (l : List Operand). g x ∷ l) (front_map g (y ∷ xs))

-- ---- a walk of the listing, told as the image is
module _ (base : Program) where
  abbrev pub tell_operand : Placeℕ → Operand → Operand
  tell_operand i x = cond (moves_at base i x) hidden (numbered (names_of base) base (context_at base i) x)

  abbrev pub tell_event : Event → Event
  tell_event v = record { place = position base v.place; form = v.form; args = map (tell_operand v.place) v.args }

  abbrev pub tell_ending : Ending → Ending
  tell_ending (going i) = going (position base i)
  tell_ending off_the_end = off_the_end
  tell_ending (in_data i) = in_data (position base i)
  tell_ending (inside i n) = inside (position base i) n
  tell_ending (leaves i xs) = leaves (position base i) []
  tell_ending (computed k e) = computed 0 (num (pos 0))
  tell_ending (clouded i) = leaves (position base i) []
  tell_ending unreturned = unreturned
  tell_ending no_address = no_address

  abbrev pub tell_spot : Spot → Spot
  tell_spot (here a) = here a
  tell_spot (done e) = done (tell_ending e)

  abbrev pub tell_state : State → State
  tell_state s = record { spot = tell_spot s.spot; left = s.left; met = map tell_event s.met }

  abbrev pub tell_move : Move → Move
  tell_move (stop e) = stop (tell_ending e)
  tell_move (on i s) = on (position base i) (tell_state s)

  abbrev pub tell_walk : Walk → Walk
  tell_walk w = record { met = map tell_event w.met; ending = tell_ending w.ending }

  -- the oracle that answers the listing's walk as o answers that of the image
  abbrev pub tell_oracle : Oracle → Oracle
  tell_oracle o = record { answers = λ met. o.answers (map tell_event met); returns = λ met. o.returns (map tell_event met) }

  run_tell : (f g : State → Move) → ((s : State) → f (tell_state s) ≡ tell_move (g s)) → (n : ℕ) (s : State) → run f n (tell_state s) ≡ tell_walk (run g n s)
  unfolding run
  run_tell f g h zero s = ap (halts (tell_state s)) (h s) ∙ onward (g s)
    where
      onward : (m : Move) → halts (tell_state s) (tell_move m) ≡ tell_walk (halts s m)
      onward (stop e) = refl
      onward (on i t) = refl
  run_tell f g h (suc n) s = ap (follow (λ t. run f n t) (tell_state s)) (h s) ∙ onward (g s) (run_tell f g h n)
    where
      onward : (m : Move) → ((t : State) → run f n (tell_state t) ≡ tell_walk (run g n t)) → follow (λ t. run f n t) (tell_state s) (tell_move m) ≡ tell_walk (follow (λ t. run g n t) s m)
      onward (stop e) below = refl
      onward (on i t) below = below t

  pick_tell : (l : List ℕ) (n : ℕ) → pick l n ≡ tell_spot (pick l n)
  pick_tell [] n = refl
  pick_tell (a ∷ l) zero = refl
  pick_tell (a ∷ l) (suc n) = pick_tell l n

  acts_tell : (o : Oracle) (c : Class) (v : Event) (w : Bool) (n : ℕ) (to : Spot) (s : State)
      → acts o c (tell_event v) w n (tell_spot to) (tell_state s) ≡ tell_move (acts (tell_oracle o) c v w n to s)
  acts_tell o jumps v w n to s = refl
  acts_tell o calls v w n to s = refl
  acts_tell o returns v w n to s =
      ap (λ (g : Spot). on (position base v.place) (record { spot = g; left = s.left; met = tell_event v ∷ map tell_event s.met }))
      (pick_tell s.left (o.returns (tell_event v ∷ map tell_event s.met)))
  acts_tell o tests v w n to s =
      ap (λ (g : Spot). on (position base v.place) (record { spot = g; left = s.left; met = tell_event v ∷ map tell_event s.met }))
      (on_test (same_test (o.answers (tell_event v ∷ map tell_event s.met)) w))
    where
      on_test : (t : Bool) → cond t (tell_spot to) (here n) ≡ tell_spot (cond t to (here n))
      on_test true = refl
      on_test false = refl
  acts_tell o plain v w n to s = refl

  event_tell : (i f : ℕ) (xs : List Operand) → event (position base i) f (map (tell_operand i) xs) ≡ tell_event (event i f xs)
  unfolding event
  event_tell i f xs = ap (λ (l : List Operand). record { place = position base i; form = plain_form f; args = l }) (split (is_transfer f))
    where
      split : (b : Bool) → cond b (front (map (tell_operand i) xs)) (map (tell_operand i) xs) ≡ map (tell_operand i) (cond b (front xs) xs)
      split true = front_map (tell_operand i) xs
      split false = refl

  spot_tell : (v : Result ℤ Unvalued) → to_spot v ≡ tell_spot (to_spot v)
  spot_tell (Ok (pos a)) = refl
  spot_tell (Ok (negsuc a)) = refl
  spot_tell (Err Unknown) = refl
  spot_tell (Err Nothing) = refl

  -- where a target leads, by its number in the image
  target_tell : (p : Program) (k : ℕ) (x : Operand) → target_as (cond (followed p k x) as_code as_aside) (numbered (names_of p) p k x) ≡ tell_spot (aim_at p k x)
  target_tell p k (register r) = spot_tell (worth_of (names_of p) p k (register r))
  target_tell p k (value e) = split (is_followed (label_names p) (moving_of p) k e)
    where
      split : (b : Bool) → target_as (cond b as_code as_aside) (as_worth e (worth (names_of p) k e)) ≡ tell_spot (cond b (to_spot (worth (names_of p) k e)) (done (computed k e)))
      split true = spot_value (names_of p) k e (worth (names_of p) k e) refl ∙ spot_tell (worth (names_of p) k e)
      split false = refl
  target_tell p k (inner i o) = spot_tell (worth_of (names_of p) p k (inner i o))

  blanked_is : (i : ℕ) (g : Operand → Operand) → ((x : Operand) → moves_at base i x ≡ false → g x ≡ numbered (names_of base) base (context_at base i) x) → (xs : List Operand)
      → blanked (map (moves_at base i) xs) (map g xs) ≡ map (tell_operand i) xs
  blanked_is i g h [] = refl
  blanked_is i g h (x ∷ xs) = rw (blanked_is i g h xs) (ap (λ (y : Operand). y ∷ map (tell_operand i) xs) (split (moves_at base i x) (h x)))
    where
      split : (b : Bool) → (b ≡ false → g x ≡ numbered (names_of base) base (context_at base i) x) → cond b hidden (g x) ≡ cond b hidden (numbered (names_of base) base (context_at base i) x)
      split true k = refl
      split false k = k refl

numbered_same : (p q : Program) (k l : ℕ) (x : Operand) → holds_none (moving_of p) k x ≡ true → worth_of (names_of q) q l x ≡ worth_of (names_of p) p k x → numbered (names_of q) q l x ≡ numbered (names_of p) p k x
numbered_same p q k l (register r) h e = refl
numbered_same p q k l (value y) h e = ap (as_worth y) e
numbered_same p q k l (inner i o) h e = false_true h

-- ---- one instruction
module _ (base p : Program) (image : List ℕ) (d : Decodes p image) (w : SameWorth base p itself) (o : Oracle) where
  told_is : (i f : ℕ) (xs : List Operand) (c : ℕ) → at p i ≡ instr f xs c → blanked (map (moves_at base i) xs) (map (numbered (names_of p) p (context_at p i)) xs) ≡ map (tell_operand base i) xs
  told_is i f xs c e =
      blanked_is base i (numbered (names_of p) p (context_at p i))
      (λ x z. let h : holds_none (moving_of base) (context_at base i) x ≡ true = not-false _ z in numbered_same base p (context_at base i) (context_at p i) x h (w.worths i (instr_inside p i f xs c e) x h)) xs

  -- what is decoded there
  code_tells : (i f : ℕ) (xs : List Operand) (c to : ℕ) (so : Sort) (s : State) → at p i ≡ instr f xs c
      → target_as so (numbered (names_of p) p (context_at p i) (last_of xs)) ≡ tell_spot base (aim_at p (context_at p i) (last_of xs))
      → decodes o image (record { told = position base i; from = position p i; to = to; sort = so; moving = map (moves_at base i) xs }) (tell_state base s)
      ≡ tell_move base (acts (tell_oracle base o) (class f) (event i f xs) (taken_on f) (position p i + size_at f) (aim_at p (context_at p i) (last_of xs)) s)
  code_tells i f xs c to so s e h =
      rw (
        d.form i f xs c e,
        le-leb (position p i + size_at f) (length image) (d.whole i f xs c e),
        d.operands i f xs c e,
        told_is i f xs c e,
        last_of_map (numbered (names_of p) p (context_at p i)) xs refl,
        h,
      )
      (ap (λ (v : Event). acts o (class f) v (taken_on f) (position p i + size_at f) (tell_spot base (aim_at p (context_at p i) (last_of xs))) (tell_state base s)) (event_tell base i f xs)
      ∙ acts_tell base o (class f) (event i f xs) (taken_on f) (position p i + size_at f) (aim_at p (context_at p i) (last_of xs)) s)

  -- by its sort
  instr_tells : (i f : ℕ) (xs : List Operand) (c to : ℕ) (s : State) → at p i ≡ instr f xs c → (so : Sort)
      → so ≡ cond (is_clouded p i || is_change_jump (names_of p) p i) as_stop (cond (followed p (context_at p i) (last_of xs)) as_code as_aside)
      → enters_as o image (record { told = position base i; from = position p i; to = to; sort = so; moving = map (moves_at base i) xs }) (tell_state base s) so
      ≡ tell_move base (enters_instr (tell_oracle base o) itself p i (record { form = f; args = xs; carried = c }) s)
  instr_tells i f xs c to s e so h =
      split (is_clouded p i) (is_change_jump (names_of p) p i) (followed p (context_at p i) (last_of xs)) so h (target_tell base p (context_at p i) (last_of xs))
    where
      split : (a b t : Bool) (so : Sort) → so ≡ cond (a || b) as_stop (cond t as_code as_aside)
          → target_as (cond t as_code as_aside) (numbered (names_of p) p (context_at p i) (last_of xs)) ≡ tell_spot base (aim_at p (context_at p i) (last_of xs))
          → enters_as o image (record { told = position base i; from = position p i; to = to; sort = so; moving = map (moves_at base i) xs }) (tell_state base s) so
          ≡ tell_move base (cond a (stop (clouded i)) (cond b (stop (leaves i xs)) (acts (tell_oracle base o) (class f) (event i f xs) (taken_on f) (position p i + size_at f) (aim_at p (context_at p i) (last_of xs)) s)))
      split true b t so k g = rw k
      split false true t so k g = rw k
      split false false true so k g = rw k (code_tells i f xs c to as_code s e g)
      split false false false so k g = rw k (code_tells i f xs c to as_aside s e g)

  stmt_tells : (i : ℕ) (x : Stmt) (s : State) → at p i ≡ x
      → enters_as o image (stand_at base p i) (tell_state base s) (sort_at p i) ≡ tell_move base (on_instr (stop (in_data i)) (λ y. enters_instr (tell_oracle base o) itself p i y s) x)
  stmt_tells i gone s e = rw e
  stmt_tells i (instr f xs c) s e = rw e (instr_tells i f xs c (position p i + size_at f) s e _ refl)
  stmt_tells i (label n) s e = rw e
  stmt_tells i (variable n y) s e = rw e
  stmt_tells i (comment x) s e = rw e
  stmt_tells i (org l) s e = rw e
  stmt_tells i (bytes es) s e = rw e
  stmt_tells i (words es) s e = rw e
  stmt_tells i (pad add m) s e = rw e

  at_tells : (g : Option Origin) (s : State) → enters_found o image (found_as base p g) (tell_state base s) ≡ tell_move base (enters_at (tell_oracle base o) itself p g s)
  at_tells none s = refl
  at_tells (some g) s = split (eqb g.offset 0)
    where
      split : (b : Bool)
          → cond b (enters_as o image (stand_at base p g.place) (tell_state base s) (sort_at p g.place)) (stop (inside (position base g.place) g.offset))
          ≡ tell_move base (cond b (on_instr (stop (in_data g.place)) (λ x. enters_instr (tell_oracle base o) itself p g.place x s) (at p g.place)) (stop (inside g.place g.offset)))
      split true = stmt_tells g.place (at p g.place) s refl
      split false = refl

  module _ (laid : positions_fit (placed p) ≡ ok tt) (solid : (b : Placeℕ) → is_code (at p b) ≡ true → 0 < size_in p b) where
    step_tells : (s : State) → image_step o (stands_of base p) image (tell_state base s) ≡ tell_move base (meets (tell_oracle base o) itself p s)
    unfolding image_step meets
    step_tells s = split s.spot
      where
        split : (x : Spot) → steps_from o (stands_of base p) image (tell_state base s) (tell_spot base x) ≡ tell_move base (meets_at (tell_oracle base o) itself p x s)
        split (here a) = ap (λ f. enters_found o image f (tell_state base s)) (seek_comes base p image d laid solid memory a (omega arith)) ∙ at_tells (code_at p a) s
        split (done e) = refl

    -- image-tells: by the map, the image walks as the listing
    pub image_tells : (n a : ℕ) → image_walk o n (stands_of base p) image a ≡ tell_walk base (walk (tell_oracle base o) itself n p a)
    unfolding image_walk walk
    image_tells n a = run_tell base (image_step o (stands_of base p) image) (meets (tell_oracle base o) itself p) step_tells n (start_at a)
