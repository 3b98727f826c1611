-- Writing numbers back: what stands at each place, that it moves nothing and changes no byte, and that no inner label is left. Inner labels stand
-- only as an instruction's last operand, which every rewrite keeps.
use mathlib.Core.Path.{◌≡◌, refl, sym, ◌∙◌, ap}
use mathlib.Core.List.{List, [], ◌∷◌}
use mathlib.Core.Bool.{Bool, true, ◌&&◌}
use lib.ListN.{length, length-map, get_or-map}
use Rattle.laws.specs.Lists.{total, every}
use Rattle.laws.proofs.Tests.{and_true, and_both}
use Rattle.laws.proofs.Lists.{every_any, every_all, every_set}
use Rattle.rules.specs.declared.Settings.{Settings}
use Rattle.rules.specs.Expressions.{eval_tree}
use Rattle.rules.specs.Programs.{Placeℕ, Operand, register, value, inner, Stmt, gone, instr, Program, at, args_of, on_last, retarget}
use Rattle.rules.specs.Layout.{position}
use Rattle.rules.specs.Judging.{judge, names_of}
use Rattle.rules.specs.Rewriting.{aimed, drop_all, anchor, optimized, instr_bytes}
use Rattle.rules.specs.Output.{plain_target, write_back}
use Rattle.rules.proofs.Laws.{by_instr, by_change, other}
use Rattle.rules.specs.Names.{Entry, context_from}
use Prim.Native.Nat.{ℕ}
use Rattle.promises.proofs.Steps.{Step, invert, bounce, shrink}
use Rattle.promises.proofs.Chains.{chain_keeps}
use Rattle.promises.proofs.Anchors.{at_anchor, anchored_keeps, anchor_in}
use Rattle.promises.proofs.Frames.{is_plain}
use Rattle.promises.proofs.Listings.{WellMade, made_instr}
use Rattle.promises.proofs.Alike.{judge_alike}
use Rattle.promises.proofs.Positions.{AllSameRoom, room_retarget, position_same}
use Rattle.promises.proofs.Retargets.{Kept, KeptBy, positions_kept, retarget_alike}
use Rattle.promises.proofs.Compacts.{plain_stmt}

-- ---- what is written back
pub at_write_back : (p : Program) (i : Placeℕ) → at (write_back p) i ≡ retarget (plain_target p) (at p i)
unfolding write_back
at_write_back p i = get_or-map (λ s. retarget (plain_target p) s) p i gone

-- as many statements
pub length_write_back : (p : Program) → length (write_back p) ≡ length p
unfolding write_back
length_write_back p = rw length-map

module _ (p : Program) where
  -- each takes the room that it took
  pub write_back_room : AllSameRoom p (write_back p)
  write_back_room = (length_write_back p, λ i. rw (at_write_back p i) (room_retarget (plain_target p) (at p i)))

  -- and stands where it stood
  pub write_back_position : (i : Placeℕ) → position (write_back p) i ≡ position p i
  write_back_position i = position_same p (write_back p) write_back_room i

  write_back_kept : Kept p (write_back p)
  write_back_kept = positions_kept p (write_back p) write_back_position

  write_back_changed : (names : List Entry) (k : ℕ) → KeptBy names k (plain_target p) p (write_back p)
  unfolding eval_tree
  write_back_changed names k (register r) = refl
  write_back_changed names k (value e) = refl
  write_back_changed names k (inner i o) = refl

  -- no byte changes
  pub judge_write_back : judge (write_back p) ≡ judge p
  judge_write_back =
      judge_alike p (write_back p)
      (length_write_back p, λ i h. rw (at_write_back p i) (retarget_alike p (write_back p) write_back_kept (names_of p) (context_from 0 p i) (plain_target p) (write_back_changed (names_of p) (context_from 0 p i)) (at p i)))

-- ---- inner labels are last operands
abbrev front_plain : List Operand → Bool
front_plain [] = true
front_plain (x ∷ []) = true
front_plain (x ∷ y ∷ xs) = is_plain x && front_plain (y ∷ xs)

abbrev pub inner_last : Stmt → Bool
inner_last s = front_plain (args_of s)

front_on_last : (f : Operand → Operand) (xs : List Operand) → front_plain (on_last f xs) ≡ front_plain xs
front_on_last f [] = refl
front_on_last f (x ∷ []) = refl
front_on_last f (x ∷ y ∷ xs) = two_more y xs (front_on_last f (y ∷ xs))
  where
    two_more : (y : Operand) (xs : List Operand) → front_plain (on_last f (y ∷ xs)) ≡ front_plain (y ∷ xs) → front_plain (x ∷ on_last f (y ∷ xs)) ≡ is_plain x && front_plain (y ∷ xs)
    two_more y [] e = refl
    two_more y (z ∷ xs) e = ap (λ (b : Bool). is_plain x && b) e

front_plain_lem : (xs : List Operand) → every is_plain xs ≡ true → front_plain xs ≡ true
unfolding every
front_plain_lem [] h = refl
front_plain_lem (x ∷ []) h = refl
front_plain_lem (x ∷ y ∷ xs) h =
    let t = and_true (is_plain x) (every is_plain (y ∷ xs)) h in
    and_both (is_plain x) (front_plain (y ∷ xs)) t.0 (front_plain_lem (y ∷ xs) t.1)

inner_retarget : (f : Operand → Operand) (s : Stmt) → inner_last s ≡ true → inner_last (retarget f s) ≡ true
inner_retarget f s = by_change (λ s t. inner_last s ≡ true → inner_last t ≡ true) (λ x. instr x.form (on_last f x.args) x.carried) (λ g xs c h. front_on_last f xs ∙ h) (λ s n h. h) s

-- of what was read, of what is anchored, and of what a step leaves
inner_made : (p : Program) → WellMade p → (i : Placeℕ) (s : Stmt) → at p i ≡ s → inner_last s ≡ true
inner_made p w i = by_instr (λ s. at p i ≡ s → inner_last s ≡ true) (λ f xs c e. front_plain_lem xs (made_instr p w i f xs c e).1) (λ s n e. ap front_plain (other [] (λ x. x.args) s n))

inner_anchor : (p : Program) → WellMade p → every inner_last (anchor p) ≡ true
inner_anchor p w =
    every_all inner_last (anchor p) gone
    (λ i h. let t = inner_made p w i (at p i) refl in
    ap inner_last (at_anchor p i) ∙ anchored_keeps (λ s. inner_last s ≡ true) p i (inner_retarget (anchor_in p i) (at p i) t) t)

inner_step : (p q : Program) → Step p q → every inner_last p ≡ true → every inner_last q ≡ true
unfolding drop_all
inner_step p q (invert f) h =
    let old : inner_last (at p f.i) ≡ true = every_any inner_last p f.i gone refl h in
    let b : front_plain f.b.args ≡ true = ap inner_last (sym f.branch_at) ∙ old in
    rw f.new (every_set inner_last _ f.j gone refl (every_set inner_last p f.i (aimed f.to f.b f.jump) (front_on_last _ f.b.args ∙ b) h))
inner_step p q (bounce f) h =
    let old : inner_last (at p f.i) ≡ true = every_any inner_last p f.i gone refl h in
    let b : front_plain f.b.args ≡ true = ap inner_last (sym f.branch_at) ∙ old in
    rw f.new
    (every_set inner_last _ f.u gone refl
    (every_set inner_last _ f.m gone refl
    (every_set inner_last _ f.j gone refl
    (every_set inner_last p f.i (aimed f.f f.b f.last) (front_on_last _ f.b.args ∙ b) h))))
inner_step p q (shrink s) h =
    let old : inner_last (at p s.i) ≡ true = every_any inner_last p s.i gone refl h in
    rw s.new (every_set inner_last p s.i (instr s.f s.x.args s.x.carried) (ap inner_last (sym s.far_at) ∙ old) h)

-- so of the end form
pub inner_end : (asked : Settings) (p : Program) → WellMade p → every inner_last (optimized asked p).program ≡ true
unfolding optimized
inner_end asked p w = chain_keeps asked (λ q. every inner_last q ≡ true) inner_step (total instr_bytes p) (anchor p) (inner_anchor p w)

-- ---- so none is left
plain_last : (p : Program) (xs : List Operand) → front_plain xs ≡ true → every is_plain (on_last (plain_target p) xs) ≡ true
unfolding every
plain_last p [] h = refl
plain_last p (register r ∷ []) h = refl
plain_last p (value e ∷ []) h = refl
plain_last p (inner i o ∷ []) h = refl
plain_last p (x ∷ y ∷ xs) h =
    let t = and_true (is_plain x) (front_plain (y ∷ xs)) h in
    and_both (is_plain x) (every is_plain (on_last (plain_target p) (y ∷ xs))) t.0 (plain_last p (y ∷ xs) t.1)

plain_retarget : (p : Program) (s : Stmt) → inner_last s ≡ true → plain_stmt (retarget (plain_target p) s) ≡ true
unfolding every
plain_retarget p s = by_change (λ s t. inner_last s ≡ true → plain_stmt t ≡ true) (λ x. instr x.form (on_last (plain_target p) x.args) x.carried) (λ f xs c h. plain_last p xs h) (λ s n h. ap (every is_plain) (other [] (λ x. x.args) s n)) s

-- in a whole program
pub write_back_plain : (p : Program) → every inner_last p ≡ true → every plain_stmt (write_back p) ≡ true
write_back_plain p h =
    every_all plain_stmt (write_back p) gone (λ i k. ap plain_stmt (at_write_back p i) ∙ plain_retarget p (at p i) (every_any inner_last p i gone refl h))
