-- How many frame bytes a program needs when its numbers are written back: anchoring adds two for each constant that is a target, a rewrite adds none,
-- and what is written needs as many.
use mathlib.Core.Path.{◌≡◌, refl, ◌∙◌, ap, sym}
use mathlib.Core.List.{List, [], ◌∷◌}
use mathlib.Core.Option.{Option, none, some}
use mathlib.Core.Bool.{Bool, true, false, cond, ◌&&◌, not}
use Prim.Native.Nat.{ℕ, ◌+◌, ◌≤◌, suc, ◌*◌}
use native.Mathlib.Omega.{arith}
use lib.Dec.{leb}
use lib.ListN.{length, length-append}
use borrow.Author.Tests.{leb-false}
use Rattle.laws.specs.Lists.{total, every, each}
use Rattle.laws.proofs.Tests.{clash, and_true, false_true}
use Rattle.laws.proofs.Lists.{every_any, total_ext}
use Rattle.rules.specs.declared.Settings.{Settings}
use Rattle.rules.specs.Expressions.{Expr, num, name, two, one, mentions, holds_name, bytes_of}
use Rattle.rules.specs.Programs.{Placeℕ, Operand, register, value, inner, Stmt, gone, Program, at, on_instr, last_of, on_last, retarget, instr}
use Rattle.rules.specs.Layout.{Origin, origin, after, position}
use Rattle.rules.specs.Rewriting.{inner_at, anchor, optimized, instr_bytes, moving_of, holds_label, is_anchored, is_change_jump}
use Rattle.rules.specs.Output.{plain_target, write_back, operand_bytes, frame_of, shown}
use Rattle.promises.specs.Demand2.{output_program}
use Rattle.promises.specs.Room.{frame_bytes, is_constant, constant_at, constants}
use Rattle.rules.proofs.Laws.{by_instr, by_change, other, length_placed, placed_at_lem}
use Rattle.rules.specs.Forms.{is_transfer}
use Rattle.rules.specs.Names.{context_at, Placed, placed_from, placed, enter}
use Rattle.rules.specs.Judging.{worth, names_of}
use Rattle.promises.proofs.Shows.{by_spoken, at_shown, length_shown}
use Rattle.promises.proofs.General.{total_below, total_alike}
use Rattle.promises.proofs.Steps.{Step, invert, bounce, shrink}
use Rattle.promises.proofs.Weights.{weigh_inverted, weigh_trampoline, weigh_shrunk}
use Rattle.promises.proofs.Chains.{chain_keeps}
use Rattle.promises.proofs.Anchors.{length_anchor, at_anchor, anchor_in}
use Rattle.promises.proofs.Frames.{is_plain}
use Rattle.promises.proofs.Listings.{WellMade, made_instr}
use Rattle.promises.proofs.Compacts.{plain_stmt}
use Rattle.promises.proofs.WritesBack.{at_write_back, length_write_back, inner_end, write_back_plain}
use Rattle.promises.proofs.Ranks.{total_compact}

-- an operand's bytes; an inner label will be a number, of five
abbrev pub width : Operand → ℕ
width (register r) = 1
width (value e) = length (bytes_of e)
width (inner i o) = 5

-- a statement's frame bytes, so counted
abbrev pub frame_room : Stmt → ℕ
frame_room s = on_instr (frame_bytes s) (λ x. 2 + total width x.args) s

-- ---- operands changed
last_width : (f : Operand → Operand) (n : ℕ) (xs : List Operand) → width (f (last_of xs)) ≤ width (last_of xs) + n → total width (on_last f xs) ≤ total width xs + n
unfolding total
last_width f n [] h = omega arith
last_width f n (x ∷ []) h = omega (arith, h)
last_width f n (x ∷ y ∷ xs) h = omega (arith, last_width f n (y ∷ xs) h)

last_same : (f : Operand → Operand) → ((x : Operand) → width (f x) ≡ width x) → (xs : List Operand) → total width (on_last f xs) ≡ total width xs
unfolding total
last_same f h [] = refl
last_same f h (x ∷ []) = omega (arith, h x)
last_same f h (x ∷ y ∷ xs) = omega (arith, last_same f h (y ∷ xs))

-- an expression put for another
put_width : (x : Operand) (d : Expr) (xs : List Operand) → last_of xs ≡ value d → total width (on_last (λ old. x) xs) + length (bytes_of d) ≡ total width xs + width x
unfolding total
put_width x d [] e = clash (cc)
put_width x d (y ∷ []) e = let z : width y ≡ length (bytes_of d) = ap width e in omega arith
put_width x d (y ∷ z ∷ xs) e = omega (arith, put_width x d (z ∷ xs) e)

last_part : (xs : List Operand) → width (last_of xs) ≤ total width xs + 1
unfolding total
last_part [] = omega arith
last_part (x ∷ []) = omega arith
last_part (x ∷ y ∷ xs) = omega (arith, last_part (y ∷ xs))

-- ---- anchoring: a tree with no name holds a number, so it has five bytes or more; any tree has three or more
nameless_bytes : (e : Expr) → mentions (λ n. true) e ≡ 0 → 5 ≤ length (bytes_of e)
unfolding mentions bytes_of
nameless_bytes (num z) h = omega arith
nameless_bytes (name n) h = absurd (omega arith)
nameless_bytes (two o e d) h = omega (arith, nameless_bytes e (omega arith), length-append (bytes_of e) (bytes_of d))
nameless_bytes (one o e) h = omega (arith, nameless_bytes e h)

three_bytes : (e : Expr) → 3 ≤ length (bytes_of e)
unfolding bytes_of
three_bytes (num z) = omega arith
three_bytes (name n) = omega arith
three_bytes (two o e d) = omega (arith, three_bytes e, length-append (bytes_of e) (bytes_of d))
three_bytes (one o e) = omega (arith, three_bytes e)

-- two more for a target that holds a name and no label
abbrev extra : Program → Placeℕ → Operand → ℕ
extra p i x = cond (is_constant (moving_of p) (context_at p i) x) 1 0

anchor_width : (p : Program) (i : Placeℕ) (x : Operand) → width (anchor_in p i x) ≤ width x + 2 * extra p i x
unfolding holds_name
anchor_width p i (register r) = omega arith
anchor_width p i (value e) = on (leb 1 (mentions (λ n. true) e)) refl (holds_label (moving_of p) (context_at p i) e)
  where
    aimed_at : (n : ℕ) → 5 ≤ length (bytes_of e) + n → (o : Option Origin) → width (inner_at e o) ≤ length (bytes_of e) + n
    aimed_at n h none = omega arith
    aimed_at n h (some g) = h

    on : (a : Bool) → leb 1 (mentions (λ n. true) e) ≡ a → (b : Bool)
        → width (cond b (value e) (inner_at e (origin p (worth (names_of p) (context_at p i) e)))) ≤ length (bytes_of e) + 2 * cond (a && not b) 1 0
    on true h true = omega arith
    on false h true = omega arith
    on true h false = aimed_at 2 (omega (arith, three_bytes e)) (origin p (worth (names_of p) (context_at p i) e))
    on false h false = aimed_at 0 (omega (arith, nameless_bytes e (omega (arith, leb-false 1 (mentions (λ n. true) e) h)))) (origin p (worth (names_of p) (context_at p i) e))
anchor_width p i (inner j o) = omega arith

plain_width : (p : Program) (x : Operand) → width (plain_target p x) ≡ width x
unfolding bytes_of
plain_width p (register r) = refl
plain_width p (value e) = refl
plain_width p (inner i o) = refl

room_same : (f : Operand → Operand) → ((x : Operand) → width (f x) ≡ width x) → (s : Stmt) → frame_room (retarget f s) ≡ frame_room s
room_same f h s = by_change (λ s t. frame_room t ≡ frame_room s) (λ x. instr x.form (on_last f x.args) x.carried) (λ g xs c. ap (λ (n : ℕ). 2 + n) (last_same f h xs)) (λ s n. refl) s

-- at each place
anchored_room : (p : Program) (i : Placeℕ) (s : Stmt) → frame_room (cond (is_anchored (names_of p) p i s) (retarget (anchor_in p i) s) s)
    ≤ frame_room s + 2 * constant_at p (record { place = i; context = context_at p i; position = position p i; stmt = s })
unfolding is_anchored
anchored_room p i =
    by_instr (λ s. frame_room (cond (is_anchored (names_of p) p i s) (retarget (anchor_in p i) s) s) ≤ frame_room s + 2 * constant_at p (record { place = i; context = context_at p i; position = position p i; stmt = s }))
    (λ f xs c. on f xs c (is_transfer f) (is_change_jump (names_of p) p i))
    (λ s n. rw (other false _ s n) (omega arith))
  where
    on : (f : ℕ) (xs : List Operand) (c : Placeℕ) (t u : Bool)
        → frame_room (cond (t && not u) (instr f (on_last (anchor_in p i) xs) c) (instr f xs c)) ≤ 2 + total width xs + 2 * cond (t && is_constant (moving_of p) (context_at p i) (last_of xs)) 1 0
    on f xs c true true = omega arith
    on f xs c true false = omega (arith, last_width (anchor_in p i) (2 * extra p i (last_of xs)) xs (anchor_width p i (last_of xs)))
    on f xs c false u = omega arith

placed_room : (w : Stmt → ℕ) (v : Placed → ℕ) (i k q : ℕ) (p : Program) → total (λ x. w x.stmt + 2 * v x) (placed_from i k q p) ≡ total w p + 2 * total v (placed_from i k q p)
unfolding total placed_from
placed_room w v i k q [] = refl
placed_room w v i k q (s ∷ p) = omega (arith, placed_room w v (suc i) (enter k s) (after q s) p)

anchor_room : (p : Program) → total frame_room (anchor p) ≤ total frame_room p + 2 * constants p
unfolding constants placed
anchor_room p =
    let nowhere : Placed = record { place = 0; context = 0; position = 0; stmt = gone } in
    let most : total frame_room (anchor p) ≤ total (λ x. frame_room x.stmt + 2 * constant_at p x) (placed p) =
    total_below frame_room (λ x. frame_room x.stmt + 2 * constant_at p x) (anchor p) (placed p) gone nowhere (length_anchor p ∙ sym (length_placed 0 0 0 p))
    (λ i h. rw (at_anchor p i, placed_at_lem p i nowhere (omega (arith, h, length_anchor p))) (anchored_room p i (at p i))) in
    omega (arith, most, placed_room frame_room (constant_at p) 0 0 0 p)

write_back_room : (p : Program) → total frame_room (write_back p) ≡ total frame_room p
write_back_room p =
    total_alike frame_room frame_room (write_back p) p gone gone (length_write_back p)
    (λ i h. ap frame_room (at_write_back p i) ∙ room_same (plain_target p) (plain_width p) (at p i))

-- ---- a rewrite: the branch's bare name goes, and the dropped unconditional made room for its target
step_room : (p q : Program) → Step p q → total frame_room q ≤ total frame_room p
unfolding frame_of bytes_of
step_room p q (invert f) =
    let x : Operand = last_of f.jump.args in
    let old : frame_room (at p f.i) ≡ 2 + total width f.b.args = ap frame_room f.branch_at in
    let dropped : frame_room (at p f.j) ≡ 2 + total width f.jump.args = ap frame_room f.jump_at in
    omega (arith, weigh_inverted f frame_room refl, put_width x (name f.n) f.b.args f.bare, last_part f.jump.args)
step_room p q (bounce f) =
    let x : Operand = last_of f.last.args in
    let old : frame_room (at p f.i) ≡ 2 + total width f.b.args = ap frame_room f.branch_at in
    let dropped : frame_room (at p f.u) ≡ 2 + total width f.last.args = ap frame_room f.last_at in
    omega (arith, weigh_trampoline f frame_room refl, put_width x (name f.t) f.b.args f.bare, last_part f.last.args)
step_room p q (shrink h) =
    let old : frame_room (at p h.i) ≡ 2 + total width h.x.args = ap frame_room h.far_at in
    omega (arith, weigh_shrunk h frame_room)

-- ---- with no inner label they are the frame's bytes
plain_operand : (x : Operand) → is_plain x ≡ true → length (operand_bytes x) ≡ width x
plain_operand (register r) h = refl
plain_operand (value e) h = refl
plain_operand (inner i o) h = false_true h

plain_operands : (xs : List Operand) → every is_plain xs ≡ true → length (each (λ x. operand_bytes x) xs) ≡ total width xs
unfolding every each total
plain_operands [] h = refl
plain_operands (x ∷ xs) h =
    let t = and_true (is_plain x) (every is_plain xs) h in
    omega (arith, length-append (operand_bytes x) (each (λ x. operand_bytes x) xs), plain_operand x t.0, plain_operands xs t.1)

plain_room : (s : Stmt) → plain_stmt s ≡ true → frame_bytes s ≡ frame_room s
unfolding frame_of
plain_room s = by_instr (λ s. plain_stmt s ≡ true → frame_bytes s ≡ frame_room s) (λ f xs c h. omega (arith, plain_operands xs h)) (λ s n h. sym (other (frame_bytes s) (λ x. 2 + total width x.args) s n)) s

plain_total : (p : Program) → every plain_stmt p ≡ true → total frame_bytes p ≡ total frame_room p
plain_total p h = total_ext frame_bytes frame_room p gone (λ i k. plain_room (at p i) (every_any plain_stmt p i gone (unfold every in refl) h))

made_plain : (p : Program) → WellMade p → (i : Placeℕ) (s : Stmt) → at p i ≡ s → plain_stmt s ≡ true
unfolding every
made_plain p w i = by_instr (λ s. at p i ≡ s → plain_stmt s ≡ true) (λ f xs c e. (made_instr p w i f xs c e).1) (λ s n e. ap (every is_plain) (other [] (λ x. x.args) s n))

-- nor do comments that go
shown_frames : (asked : Settings) (p : Program) → total frame_bytes (shown asked p) ≤ total frame_bytes p
unfolding frame_of
shown_frames asked p =
    total_below frame_bytes frame_bytes (shown asked p) p gone gone (length_shown asked p)
    (λ i h. rw (at_shown asked p i) (by_spoken (λ s t. frame_bytes t ≤ frame_bytes s) asked (λ s. omega arith) (λ x. omega arith) (at p i)))

-- the output needs no more frame bytes than the input, constants as targets apart
pub output_frames : (asked : Settings) (p : Program) → WellMade p → total frame_bytes (output_program asked p) ≤ total frame_bytes p + 2 * constants p
unfolding output_program optimized
output_frames asked p w =
    let e : Program = (optimized asked p).program in
    let start : total frame_bytes p ≡ total frame_room p = total_ext frame_bytes frame_room p gone (λ i k. plain_room (at p i) (made_plain p w i (at p i) refl)) in
    let kept : total frame_room e ≤ total frame_room p + 2 * constants p =
    chain_keeps asked (λ q. total frame_room q ≤ total frame_room p + 2 * constants p) (λ r t st h. omega (arith, step_room r t st)) (total instr_bytes p) (anchor p) (anchor_room p) in
    let written : total frame_bytes (write_back e) ≡ total frame_room (write_back e) = plain_total (write_back e) (write_back_plain e (inner_end asked p w)) in
    omega (arith, total_compact frame_bytes (unfold frame_of in refl) (shown asked (write_back e)), shown_frames asked (write_back e), write_back_room e)
