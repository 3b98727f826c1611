-- The inner labels that targets become, written into the tables of a listing as read, make its program the anchored one.
use mathlib.Core.Path.{◌≡◌, refl, sym, ap, ap₂, ◌∙◌}
use mathlib.Core.Logic.{◌⊎◌, inl, inr}
use mathlib.Core.List.{List, [], ◌∷◌, map}
use mathlib.Core.Option.{Option, none, some}
use mathlib.Core.Bool.{Bool, true, false, not, cond}
use Prim.Native.Nat.{ℕ, ◌≤◌, ◌<◌}
use native.Mathlib.Omega.{arith}
use lib.IntN.{pos, negsuc}
use lib.ListN.{length, get_or, length-map}
use Rattle.rules.specs.declared.Unvalued.TheVariants.{Unknown, Nothing}
use Rattle.rules.specs.declared.Unvalued.{Unvalued}
use Rattle.std.specs.Prelude.{ℤ, Result, Err, Ok}
use Rattle.laws.proofs.Tests.{none_some, eq_or_not, lt_or_le, cond_true, cond_false}
use Rattle.laws.proofs.Lists.{get_or_map_in}
use Rattle.laws.proofs.Counts.{tab_is}
use Rattle.rules.specs.Forms.{is_transfer}
use Rattle.rules.specs.Programs.{Operand, register, value, inner, Stmt, gone, instr, label, variable, comment, org, bytes, words, pad, args_of, last_of, on_last, retarget, Program, at, kind_of}
use Rattle.rules.specs.Layout.{Origin, origin}
use Rattle.rules.specs.Names.{Key, Entry, Placed, context_at, placed}
use Rattle.rules.specs.Judging.{worth, names_of}
use Rattle.rules.specs.Rewriting.{is_change_jump, holds_label, moving_of, inner_at, anchor_target, is_anchored, anchor_at, anchor}
use Rattle.rules.proofs.Laws.{length_placed, placed_at_lem}
use Rattle.slots.specs.Slots.{Slots, slots, gone_form, no_owner, written, target_of, aimed_at, slot_at, program_of, Sound}
use Rattle.slots.proofs.Slots.{slot_gone, slot_other, kind_kept, not_gone}
use Rattle.image.proofs.Operands.{slot_is}
use Rattle.image.proofs.Placed.{placed_at}
use Rattle.asm.proofs.OriginsBack.{origin_stems}
use Rattle.patterns.proofs.Programs.{length_program, at_program}
use Rattle.patterns.proofs.Instructions.{target_inner, target_written, last_target}
use Rattle.anchors.specs.Anchored.{constant_value, origin_at, owner_of, offset_of, AsRead, Anchored}

-- ---- one target

-- the operand that a target becomes: an inner label of its origin, or as it was
abbrev inner_or : Operand → Option Origin → Operand
inner_or x none = x
inner_or x (some o) = inner o.place o.offset

anchor_target_lem : (names : List Entry) (moving : List Key) (p : Program) (k : ℕ) (x : Operand)
    → anchor_target names moving p k x ≡ inner_or x (origin p (constant_value names moving k x))
unfolding origin
anchor_target_lem names moving p k (register r) = refl
anchor_target_lem names moving p k (value e) = on (holds_label moving k e) (worth names k e)
  where
    found : (o : Option Origin) → inner_at e o ≡ inner_or (value e) o
    found none = refl
    found (some o) = refl

    on : (b : Bool) (x : Result ℤ Unvalued) → cond b (value e) (inner_at e (origin p x)) ≡ inner_or (value e) (origin p (cond b (Err Unknown) x))
    on true x = refl
    on false x = found (origin p x)
anchor_target_lem names moving p k (inner i o) = refl

-- an operand put in the last place twice
aimed_twice : (g : Operand → Operand) (x : Operand) (xs : List Operand) → on_last g (on_last (λ old. x) xs) ≡ on_last (λ old. g x) xs
aimed_twice g x [] = refl
aimed_twice g x (y ∷ []) = refl
aimed_twice g x (y ∷ z ∷ []) = refl
aimed_twice g x (y ∷ z ∷ w ∷ xs) = ap (λ (l : List Operand). y ∷ l) (aimed_twice g x (z ∷ w ∷ xs))

-- an origin's statement is one of the program
origin_inside : (p : Program) (x : Result ℤ Unvalued) (o : Origin) → origin p x ≡ some o → o.place < length p
unfolding origin
origin_inside p (Ok (pos a)) o e = (origin_stems p a o e).inside
origin_inside p (Ok (negsuc a)) o e = none_some o e
origin_inside p (Err Unknown) o e = none_some o e
origin_inside p (Err Nothing) o e = none_some o e

pub label_inside : (names : List Entry) (moving : List Key) (p : Program) (i : ℕ) (o : Origin) → origin_at names moving p i ≡ some o → o.place < length p
unfolding origin_at
label_inside names moving p i o e = on (is_anchored names p i (at p i)) e
  where
    on : (b : Bool) → cond b (origin p (constant_value names moving (context_at p i) (last_of (args_of (at p i))))) none ≡ some o → o.place < length p
    on true f = origin_inside p (constant_value names moving (context_at p i) (last_of (args_of (at p i)))) o f
    on false f = none_some o f

-- ---- the tables as read, and those with the inner labels

module _ (t : Slots) (s : Sound t) (r : AsRead t) (owners offsets : List ℕ) (moving : List Key)
    (labels : (i : ℕ) → i < t.count → get_or owners i 0 ≡ owner_of (origin_at (names_of (program_of t)) moving (program_of t) i))
    (offs : (i : ℕ) → i < t.count → get_or offsets i 0 ≡ offset_of (origin_at (names_of (program_of t)) moving (program_of t) i)) where
  abbrev u : Slots
  u = slots t.frames t.starts t.count t.forms t.carry owners offsets

  abbrev p : Program
  p = program_of t

  abbrev names : List Entry
  names = names_of p

  inside : (i : ℕ) (o : Origin) → origin_at names moving p i ≡ some o → o.place < t.count
  inside i o e = omega (arith, label_inside names moving p i o e, length_program t)

  -- the target of place i, then and now
  target_then : (i : ℕ) → i < t.count → target_of t i ≡ last_of (args_of (written t i))
  target_then i l = target_written t i (omega (arith, r.free i l))

  target_now : (i : ℕ) → i < t.count → target_of u i ≡ inner_or (target_of t i) (origin_at names moving p i)
  target_now i l = on (origin_at names moving p i) refl
    where
      on : (o : Option Origin) → origin_at names moving p i ≡ o → target_of u i ≡ inner_or (target_of t i) o
      on none e = target_written u i (omega (arith, labels i l, ap owner_of e)) ∙ sym (target_then i l)
      on (some o) e =
          target_inner u i (omega (arith, labels i l, ap owner_of e, inside i o e, s.held.few))
          ∙ ap₂ inner (labels i l ∙ ap owner_of e) (offs i l ∙ ap offset_of e)

  -- a statement at place i, as anchoring leaves it
  abbrev anchored : (i : ℕ) → Stmt → Stmt
  anchored i x = cond (is_anchored names p i x) (retarget (anchor_target names moving p (context_at p i)) x) x

  module _ (i : ℕ) (l : i < t.count) where
    abbrev form : ℕ
    form = get_or t.forms i 0

    abbrev args : List Operand
    args = args_of (written t i)

    other_left : (x : Stmt) → (kind_of x ≡ 1 → ⊥) → anchored i x ≡ x
    unfolding is_anchored
    other_left gone n = refl
    other_left (instr g xs c) n = absurd (n refl)
    other_left (label m) n = refl
    other_left (variable m d) n = refl
    other_left (comment x) n = refl
    other_left (org m) n = refl
    other_left (bytes es) n = refl
    other_left (words es) n = refl
    other_left (pad add m) n = refl

    module _ (e : kind_of (slot_at t i) ≡ 1) (d : kind_of (slot_at u i) ≡ 1) where
      -- the instruction, with the target that it carries
      slot_then : slot_at t i ≡ instr form (aimed_at t form i args) i
      slot_then = slot_is t s.held i l e ∙ rw (r.own i l)

      slot_now : slot_at u i ≡ instr form (aimed_at u form i args) i
      slot_now = slot_is u s.held i l d ∙ rw (r.own i l)

      plain : is_transfer form ≡ false → slot_at u i ≡ anchored i (slot_at t i)
      unfolding is_anchored
      plain n =
          slot_now
          ∙ rw n
          (sym (ap (anchored i) (slot_then ∙ ap (λ (xs : List Operand). instr form xs i) (cond_false (is_transfer form) _ _ n))
          ∙ rw n))

      module _ (n : is_transfer form ≡ true) where
        stands : slot_at t i ≡ instr form (on_last (λ old. target_of t i) args) i
        stands = slot_then ∙ ap (λ (xs : List Operand). instr form xs i) (cond_true (is_transfer form) _ _ n)

        target : last_of (args_of (at p i)) ≡ target_of t i
        target = ap (λ x. last_of (args_of x)) (at_program t i l) ∙ last_target t s i l e n ∙ ap (target_of t) (r.own i l)

        chosen : origin_at names moving p i ≡ cond (not (is_change_jump names p i)) (origin p (constant_value names moving (context_at p i) (target_of t i))) none
        unfolding origin_at is_anchored
        chosen =
            let test : is_anchored names p i (at p i) ≡ not (is_change_jump names p i) = ap (is_anchored names p i) (at_program t i l ∙ stands) ∙ rw n in
            ap₂ (λ (b : Bool) (x : Operand). cond b (origin p (constant_value names moving (context_at p i) x)) none) test target

        -- either way
        becomes : (b : Bool) → not (is_change_jump names p i) ≡ b → instr form (on_last (λ old. target_of u i) args) i ≡ cond b (retarget (anchor_target names moving p (context_at p i)) (instr form (on_last (λ old. target_of t i) args) i)) (instr form (on_last (λ old. target_of t i) args) i)
        becomes true q =
            let o : origin_at names moving p i ≡ origin p (constant_value names moving (context_at p i) (target_of t i)) = chosen ∙ cond_true _ _ _ q in
            let x : target_of u i ≡ anchor_target names moving p (context_at p i) (target_of t i) = target_now i l ∙ ap (inner_or (target_of t i)) o ∙ sym (anchor_target_lem names moving p (context_at p i) (target_of t i)) in
            ap (λ (y : Operand). instr form (on_last (λ old. y) args) i) x
            ∙ ap (λ (xs : List Operand). instr form xs i) (sym (aimed_twice (anchor_target names moving p (context_at p i)) (target_of t i) args))
        becomes false q =
            let o : origin_at names moving p i ≡ none = chosen ∙ cond_false _ _ _ q in
            ap (λ (y : Operand). instr form (on_last (λ old. y) args) i) (target_now i l ∙ ap (inner_or (target_of t i)) o)

        transfer : slot_at u i ≡ anchored i (slot_at t i)
        unfolding is_anchored
        transfer =
            slot_now
            ∙ ap (λ (xs : List Operand). instr form xs i) (cond_true (is_transfer form) _ _ n)
            ∙ becomes (not (is_change_jump names p i)) refl
            ∙ sym (ap (anchored i) stands ∙ rw n)

      instruction : slot_at u i ≡ anchored i (slot_at t i)
      instruction = on (is_transfer form) refl
        where
          on : (b : Bool) → is_transfer form ≡ b → slot_at u i ≡ anchored i (slot_at t i)
          on true n = transfer n
          on false n = plain n

    pub slot_anchored : slot_at u i ≡ anchored i (slot_at t i)
    slot_anchored = on (lt_or_le form gone_form) (eq_or_not (kind_of (written t i)) 1)
      where
        on : (form < gone_form) ⊎ (gone_form ≤ form) → (kind_of (written t i) ≡ 1) ⊎ (kind_of (written t i) ≡ 1 → ⊥) → slot_at u i ≡ anchored i (slot_at t i)
        on (inl g) (inl k) = instruction (kind_kept t i g ∙ k) (kind_kept u i g ∙ k)
        on (inl g) (inr k) =
            slot_other u i g k ∙ sym (ap (anchored i) (slot_other t i g k) ∙ other_left (written t i) k)
        on (inr g) k = slot_gone u i g ∙ sym (ap (anchored i) (slot_gone t i g) ∙ other_left gone (λ z. omega arith))

  -- ---- the whole program

  count_anchored : length (map (anchor_at names moving p) (placed p)) ≡ t.count
  unfolding placed
  count_anchored = length-map (placed p) _ ∙ length_placed 0 0 0 p ∙ length_program t

  each_anchored : (i : ℕ) → i < t.count → get_or (map (anchor_at names moving p) (placed p)) i gone ≡ slot_at u i
  unfolding placed
  each_anchored i l =
      let m : i < length p = omega (arith, length_program t) in
      let d : Placed = placed_at p i in
      get_or_map_in (anchor_at names moving p) (placed p) i d gone (omega (arith, length_placed 0 0 0 p))
      ∙ ap (anchor_at names moving p) (placed_at_lem p i d m)
      ∙ ap (anchored i) (at_program t i l)
      ∙ sym (slot_anchored i l)

  program_anchored : program_of u ≡ map (anchor_at names moving p) (placed p)
  unfolding program_of
  program_anchored = sym (tab_is (slot_at u) t.count (map (anchor_at names moving p) (placed p)) gone count_anchored each_anchored)

  -- ---- what is known of the tables stays

  kind_back : (i : ℕ) → kind_of (slot_at u i) ≡ 1 → kind_of (slot_at t i) ≡ 1
  kind_back i e =
      let g = not_gone u i 0 e in
      kind_kept t i g ∙ sym (kind_kept u i g) ∙ e

  owner_inside : (c : ℕ) → c < t.count → get_or owners c 0 < no_owner → get_or owners c 0 < t.count
  owner_inside c l h = on (origin_at names moving p c) refl
    where
      on : (o : Option Origin) → origin_at names moving p c ≡ o → get_or owners c 0 < t.count
      on none e = absurd (omega (arith, labels c l, ap owner_of e))
      on (some o) e = omega (arith, labels c l, ap owner_of e, inside c o e)

  sound_anchored : Sound u
  sound_anchored =
      record {
        held = s.held;
        forms = λ i l e. s.forms i l (kind_back i e);
        carried = λ i l e n. (let w = s.carried i l (kind_back i e) n in record { inside = w.inside; instruction = w.instruction; transfer = w.transfer });
        owned = owner_inside;
      }

  pub tables_anchored : moving ≡ moving_of p → Anchored t u
  unfolding anchor
  tables_anchored m = record { program = program_anchored ∙ ap (λ (ms : List Key). map (anchor_at names ms p) (placed p)) m; sound = sound_anchored }
