-- The end form is sound as the input is, so that its frames can be read back: rewrites put only sound operands where sound operands stood, and a
-- number that is written back fits its field.
use mathlib.Core.Path.{◌≡◌, refl, ◌∙◌}
use mathlib.Core.Logic.{⊎_elim}
use mathlib.Core.List.{List, [], ◌∷◌}
use mathlib.Core.Option.{Option, none, some}
use mathlib.Core.Bool.{Bool, true, false, cond}
use Prim.Native.Nat.{ℕ, zero, suc, ◌+◌, ◌≤◌, ◌<◌}
use native.Mathlib.Omega.{arith}
use lib.Dec.{leb, ltb}
use lib.ListN.{set}
use lib.IntN.{pos}
use borrow.Author.Tests.{leb-true, ltb-true, le-leb}
use Rattle.laws.specs.Lists.{total, every}
use Rattle.laws.proofs.Tests.{clash, and_true}
use Rattle.laws.proofs.Lists.{every_any}
use Rattle.rules.specs.declared.Settings.{Settings}
use Rattle.rules.specs.Answers.{ok}
use Rattle.rules.specs.Expressions.{Expr, num, bytes_of}
use Rattle.rules.specs.Forms.{form_at, is_unconditional}
use Rattle.rules.specs.Programs.{Placeℕ, Addressℕ, Operand, register, value, inner, Stmt, gone, instr, Program, at, byte_count, on_instr, args_of, last_of, on_last, retarget, Space, empty, exactly, from, space_at, bytes_in}
use Rattle.rules.specs.Layout.{after, position_from, position, Origin, origin, size_in}
use Rattle.rules.specs.Names.{enter, placed_from, placed, context_at}
use Rattle.rules.specs.Judging.{settles, positions_fit, settles_in, worth, names_of}
use Rattle.rules.specs.Rewriting.{inner_at, anchor, of_inner, every_inner_label, aimed, drop_all, acceptable, optimized, instr_bytes, moving_of, holds_label}
use Rattle.rules.specs.Output.{plain_target, write_back, frame_of}
use Rattle.rules.proofs.Laws.{require_ok, by_instr, by_change, other}
use Rattle.promises.specs.Room.{frame_bytes}
use Rattle.promises.proofs.General.{all_set}
use Rattle.promises.proofs.Steps.{Step, invert, bounce, shrink}
use Rattle.promises.proofs.Shorter.{unconditional_form}
use Rattle.promises.proofs.Chains.{chain_keeps}
use Rattle.promises.proofs.Anchors.{at_anchor, anchored_keeps, anchor_in}
use Rattle.promises.proofs.Sounds.{shapes, SoundExpr, Sound, Sounds, SoundStmt}
use Rattle.promises.proofs.Listings.{WellMade}
use Rattle.promises.proofs.Positions.{fit_cons}
use Rattle.promises.proofs.Passes.{assembles_image, judge_passes}
use Rattle.promises.proofs.Acceptable.{acceptable_parts}
use Rattle.promises.proofs.WritesBack.{at_write_back}

-- ---- sound, and an instruction or short
abbrev pub instr_or_short : Stmt → Bool
instr_or_short s = on_instr (leb (frame_bytes s) 120) (λ x. true) s

pub record Kept-sound (s : Stmt) : Type 0 where
  pub sound : SoundStmt s
  pub short : instr_or_short s ≡ true

-- ---- operands changed
sounds_last : (f : Operand → Operand) → ((b : Bool) (x : Operand) → Sound b x → Sound b (f x)) → (bs : List Bool) (xs : List Operand) → Sounds bs xs → Sounds bs (on_last f xs)
sounds_last f h [] [] s = s
sounds_last f h [] (x ∷ xs) s = absurd s
sounds_last f h (b ∷ bs) [] s = s
sounds_last f h (b ∷ bs) (x ∷ []) s = (h b x s.0, s.1)
sounds_last f h (b ∷ bs) (x ∷ y ∷ xs) s = (s.0, sounds_last f h bs (y ∷ xs) s.1)

sounds_put : (x : Operand) (d : Expr) → Sound false x → (bs : List Bool) (xs : List Operand) → last_of xs ≡ value d → Sounds bs xs → Sounds bs (on_last (λ old. x) xs)
sounds_put x d h [] [] e s = s
sounds_put x d h [] (y ∷ xs) e s = absurd s
sounds_put x d h (b ∷ bs) [] e s = s
sounds_put x d h (true ∷ bs) (register r ∷ []) e s = clash (cc)
sounds_put x d h (true ∷ bs) (value y ∷ []) e s = absurd s.0
sounds_put x d h (true ∷ bs) (inner i o ∷ []) e s = absurd s.0
sounds_put x d h (false ∷ bs) (y ∷ []) e s = (h, s.1)
sounds_put x d h (b ∷ bs) (y ∷ z ∷ xs) e s = (s.0, sounds_put x d h bs (z ∷ xs) e s.1)

-- an unconditional has one operand, which is no register
jump_target : (f : ℕ) (xs : List Operand) → is_unconditional f ≡ true → Sounds (shapes f) xs → Sound false (last_of xs)
unfolding form_at
jump_target f xs u s = ⊎_elim (λ e. on xs (rw e at s)) (⊎_elim (λ e. on xs (rw e at s)) (λ e. on xs (rw e at s))) (unconditional_form f u)
  where
    on : (xs : List Operand) → Sounds (false ∷ []) xs → Sound false (last_of xs)
    on [] s = absurd s
    on (x ∷ []) s = s.0
    on (x ∷ y ∷ xs) s = absurd s.1

-- ---- anchoring
sound_anchored : (p : Program) (j : Placeℕ) (b : Bool) (x : Operand) → Sound b x → Sound b (anchor_in p j x)
sound_anchored p j true (register r) s = s
sound_anchored p j true (value e) s = absurd s
sound_anchored p j true (inner i o) s = s
sound_anchored p j false (register r) s = absurd s
sound_anchored p j false (value e) s = on (holds_label (moving_of p) (context_at p j) e) (origin p (worth (names_of p) (context_at p j) e))
  where
    on : (h : Bool) (o : Option Origin) → Sound false (cond h (value e) (inner_at e o))
    on true o = s
    on false none = s
    on false (some g) = tt
sound_anchored p j false (inner i o) s = s

kept_retarget : (f : Operand → Operand) → ((b : Bool) (x : Operand) → Sound b x → Sound b (f x)) → (s : Stmt) → Kept-sound s → Kept-sound (retarget f s)
kept_retarget f h s =
    by_change (λ s t. Kept-sound s → Kept-sound t) (λ x. instr x.form (on_last f x.args) x.carried) (λ g xs c k. record { sound = (k.sound.0, sounds_last f h (shapes g) xs k.sound.1); short = refl }) (λ s n k. k) s

AllKept : Program → Type 0
AllKept p = (i : Placeℕ) → Kept-sound (at p i)

made_kept : (p : Program) → WellMade p → AllKept p
unfolding AllKept
made_kept p w i = record { sound = w.sound i; short = on (at p i) (w.short i) }
  where
    on : (s : Stmt) → frame_bytes s ≤ 120 → instr_or_short s ≡ true
    on = by_instr (λ s. frame_bytes s ≤ 120 → instr_or_short s ≡ true) (λ f xs c h. refl) (λ s n h. other (leb (frame_bytes s) 120) (λ x. true) s n ∙ le-leb (frame_bytes s) 120 h)

anchor_kept : (p : Program) → WellMade p → AllKept (anchor p)
unfolding AllKept
anchor_kept p w i =
    let k = made_kept p w i in
    rw (at_anchor p i) (anchored_keeps Kept-sound p i (kept_retarget (anchor_in p i) (sound_anchored p i) (at p i) k) k)

-- ---- a rewrite
kept_gone : Kept-sound gone
unfolding frame_of
kept_gone = record { sound = tt; short = refl }

kept_aimed : (f g : ℕ) (xs ys : List Operand) (c d : Placeℕ) (e : Expr) → g < 70 → shapes g ≡ shapes f → last_of xs ≡ value e → Sound false (last_of ys) → Kept-sound (instr f xs c)
    → Kept-sound (instr g (on_last (λ old. last_of ys) xs) d)
kept_aimed f g xs ys c d e l m b s k =
    record { sound = (l, rw m (sounds_put (last_of ys) e s (shapes f) xs b k.sound.1)); short = refl }

kept_drop : (js : List Placeℕ) (p : Program) → AllKept p → AllKept (drop_all js p)
unfolding AllKept drop_all
kept_drop [] p h = h
kept_drop (j ∷ js) p h = kept_drop js (set p j gone) (all_set Kept-sound p j gone gone kept_gone h)

kept_step : (p q : Program) → Step p q → AllKept p → AllKept q
unfolding AllKept
kept_step p q (invert f) h =
    let b : Kept-sound (instr f.from f.b.args f.b.carried) = rw f.branch_at at (h f.i) in
    let j : Kept-sound (instr f.jump.form f.jump.args f.jump.carried) = rw f.jump_at at (h f.j) in
    let target = jump_target f.jump.form f.jump.args f.isjump j.sound.1 in
    rw f.new
    (kept_drop (f.j ∷ []) (set p f.i (aimed f.to f.b f.jump))
    (all_set Kept-sound p f.i (aimed f.to f.b f.jump) gone
    (kept_aimed f.from f.to f.b.args f.jump.args f.b.carried f.jump.carried _ f.to_form f.same_shapes f.bare target b) h))
kept_step p q (bounce f) h =
    let b : Kept-sound (instr f.f f.b.args f.b.carried) = rw f.branch_at at (h f.i) in
    let j : Kept-sound (instr f.last.form f.last.args f.last.carried) = rw f.last_at at (h f.u) in
    let target = jump_target f.last.form f.last.args f.isjump j.sound.1 in
    rw f.new
    (kept_drop (f.j ∷ f.m ∷ f.u ∷ []) (set p f.i (aimed f.f f.b f.last))
    (all_set Kept-sound p f.i (aimed f.f f.b f.last) gone
    (kept_aimed f.f f.f f.b.args f.last.args f.b.carried f.last.carried _ b.sound.0 refl f.bare target b) h))
kept_step p q (shrink s) h =
    let b : Kept-sound (instr s.x.form s.x.args s.x.carried) = rw s.far_at at (h s.i) in
    rw s.new
    (all_set Kept-sound p s.i (instr s.f s.x.args s.x.carried) gone (record { sound = (s.new_form, rw s.same_shapes b.sound.1); short = refl }) h)

end_kept : (asked : Settings) (p : Program) → WellMade p → AllKept (optimized asked p).program
unfolding optimized
end_kept asked p w = chain_keeps asked AllKept kept_step (total instr_bytes p) (anchor p) (anchor_kept p w)

-- ---- a byte of a statement lies below 65,536
reaches_end : (i : Placeℕ) (q : Addressℕ) (s : Stmt) → settles i q s ≡ ok tt → 1 ≤ byte_count q s → q + byte_count q s ≤ 65536
reaches_end i q s = on (space_at q s)
  where
    on : (x : Space) → settles_in i q x ≡ ok tt → 1 ≤ bytes_in x → q + bytes_in x ≤ 65536
    on empty e h = absurd (omega arith)
    on (exactly n) e h = leb-true (q + n) 65536 (require_ok (leb (q + n) 65536) _ _ tt e).0
    on (from l) e h = absurd (omega arith)

position_end : (i k q : ℕ) (p : Program) → positions_fit (placed_from i k q p) ≡ ok tt → (j : Placeℕ) → 1 ≤ byte_count (position_from q p j) (at p j)
    → position_from q p j + byte_count (position_from q p j) (at p j) ≤ 65536
unfolding position_from
position_end i k q [] e j h = absurd (omega arith)
position_end i k q (s ∷ p) e zero h = reaches_end i q s (fit_cons i k q s p e).settled h
position_end i k q (s ∷ p) e (suc j) h = position_end (suc i) (enter k s) (after q s) p (fit_cons i k q s p e).rest j h

byte_below : (p : Program) → positions_fit (placed p) ≡ ok tt → (j o : ℕ) → o < size_in p j → position p j + o < 65536
unfolding placed position
byte_below p e j o h = omega (arith, position_end 0 0 0 p e j (omega arith))

-- ---- writing back
sound_number : (a : ℕ) → a < 65536 → SoundExpr (num (pos a))
unfolding bytes_of
sound_number a h = (record { sfits = omega arith }, omega arith)

sounds_written : (p : Program) → positions_fit (placed p) ≡ ok tt → (bs : List Bool) (xs : List Operand) → every (of_inner (λ owner o. ltb o (size_in p owner))) xs ≡ true
    → Sounds bs xs → Sounds bs (on_last (plain_target p) xs)
unfolding every
sounds_written p l [] [] t s = s
sounds_written p l [] (x ∷ xs) t s = absurd s
sounds_written p l (b ∷ bs) [] t s = s
sounds_written p l (b ∷ bs) (register r ∷ []) t s = s
sounds_written p l (b ∷ bs) (value e ∷ []) t s = s
sounds_written p l (true ∷ bs) (inner i o ∷ []) t s = absurd s.0
sounds_written p l (false ∷ bs) (inner i o ∷ []) t s =
    (sound_number (position p i + o) (byte_below p l i o (ltb-true o (size_in p i) (and_true (ltb o (size_in p i)) true t).0)), s.1)
sounds_written p l (b ∷ bs) (x ∷ y ∷ xs) t s =
    let test : Operand → Bool = of_inner (λ owner o. ltb o (size_in p owner)) in
    (s.0, sounds_written p l bs (y ∷ xs) (and_true (test x) (every test (y ∷ xs)) t).1 s.1)

kept_written : (p : Program) → positions_fit (placed p) ≡ ok tt → (s : Stmt) → every (of_inner (λ owner o. ltb o (size_in p owner))) (args_of s) ≡ true → Kept-sound s
    → Kept-sound (retarget (plain_target p) s)
kept_written p l s =
    by_change (λ s t. every (of_inner (λ owner o. ltb o (size_in p owner))) (args_of s) ≡ true → Kept-sound s → Kept-sound t) (λ x. instr x.form (on_last (plain_target p) x.args) x.carried)
    (λ f xs c t k. record { sound = (k.sound.0, sounds_written p l (shapes f) xs t k.sound.1); short = refl }) (λ s n t k. k) s

-- the end form, written back
pub written_sound : (asked : Settings) (p : Program) → WellMade p → acceptable (optimized asked p).program ≡ true → (i : Placeℕ) → Kept-sound (at (write_back (optimized asked p).program) i)
unfolding AllKept every_inner_label
written_sound asked p w good i =
    let e : Program = (optimized asked p).program in
    let parts = acceptable_parts e good in
    let image = assembles_image e parts.1 in
    let laid = (judge_passes e image.0 image.1).laid in
    rw (at_write_back e i)
    (kept_written e laid (at e i)
    (every_any (λ s. every (of_inner (λ owner o. ltb o (size_in e owner))) (args_of s)) e i gone (unfold every in refl) parts.0) (end_kept asked p w i))
