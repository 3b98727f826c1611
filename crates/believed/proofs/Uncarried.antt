-- uncarried: programs that differ in what is carried alone are judged alike, rewritten alike and written alike.
use mathlib.Core.Path.{◌≡◌, refl, sym, ◌∙◌, ap, ap₂}
use mathlib.Core.List.{List, [], ◌∷◌, map}
use mathlib.Core.Option.{Option, none, some}
use mathlib.Core.Bool.{Bool, true, false, ◌&&◌, not, cond}
use Prim.Native.Nat.{ℕ, zero, suc}
use lib.Dec.{eqb}
use lib.ListN.{length, get_or, drop}
use Rattle.rules.specs.declared.Unvalued.{Unvalued}
use Rattle.std.specs.Prelude.{ℤ, Result}
use Rattle.laws.specs.Options.{or_else}
use Rattle.laws.specs.Lists.{total}
use Rattle.laws.proofs.Tests.{cond_map}
use Rattle.rules.specs.declared.Settings.{Settings}
use Rattle.rules.specs.Answers.{judged_or}
use Rattle.rules.specs.Forms.{is_transfer, jmpf, not1}
use Rattle.rules.specs.Programs.{Placeℕ, Operand, register, value, inner, Stmt, gone, instr, label, variable, comment, org, bytes, words, pad, Program, at, Instruction, on_instr, as_instr, is_form, args_of, retarget, is_gone, on_last}
use Rattle.rules.specs.Layout.{after, position}
use Rattle.rules.specs.Listing.{ListingForm, old_form, new_form, Beside}
use Rattle.rules.specs.Names.{context_at, Key, Entry, Placed, placed}
use Rattle.rules.specs.Judging.{worth, worth_of, names_of, judge}
use Rattle.rules.specs.Rewriting.{nearest, skipped, valued_10d_and_0, changes_at, is_change_jump, moving_of, anchor_target, is_anchored, anchor_at, anchor, next, branch, unconditional, local_label, names_bare, aimed, inverted_at, references, trampoline_at, Pattern, inverted, trampoline, patterns_for, pattern_at, shorter, shrink_at, anywhere, step, Chain, more, chain, instr_bytes, optimized}
use Rattle.rules.specs.Output.{plain_target, write_back, spoken, shown, compact, stems_from, stems, frame_of, with_line, frame_in, lines_in, text_of}
use Rattle.rules.specs.Run.{Output, rewritten, output_of}
use Rattle.rules.proofs.Laws.{is_instr, by_instr, other}
use Rattle.promises.proofs.Positions.{origin_same}
use Rattle.believed.specs.Uncarried.{recarry, recarried, Uncarried}
use Rattle.believed.proofs.Recarried.{omap, map_twice, total_map, on_last_ext, or_else_omap, first_omap, first_of_omap, bind_omap, bind_plain, blind, at_re, length_re, room_re, position_re, kept_re, context_re, moved, placed_re, names_re, moving_re, references_re, judge_re, between_re, interior_re, re_i, instr_re, branch_re, unconditional_re, label_re, next_re, edit_re, put_re, tested}

module _ (c : Placeℕ → Placeℕ) where
  abbrev R : Program → Program
  R p = recarried c p

  -- ---- the patterns
  inverted_re : (from to : ℕ) (p : Program) (i : Placeℕ) → inverted_at from to (R p) i ≡ omap R (inverted_at from to p i)
  unfolding inverted_at names_bare re_i
  inverted_re from to p i =
      let j : Placeℕ = next p (suc i) in
      let m : Placeℕ = next p (suc j) in
      rw (next_re c p (suc i), next_re c p (suc j), at_re c p i, at_re c p j, at_re c p m, branch_re c from (at p i), unconditional_re c (at p j), label_re c (at p m), between_re c p i m, interior_re c p i)
      (bind_omap R (re_i c) (branch from (at p i)) _ _ (λ b.
      bind_omap R (re_i c) (unconditional (at p j)) _ _ (λ jump.
      bind_plain R (local_label (at p m)) _ _ (λ n.
      tested c _ _ _ _ refl (edit_re c (j ∷ []) p i (aimed to b jump))))))

  trampoline_re : (f : ℕ) (p : Program) (i : Placeℕ) → trampoline_at f (R p) i ≡ omap R (trampoline_at f p i)
  unfolding trampoline_at names_bare re_i
  trampoline_re f p i =
      let j : Placeℕ = next p (suc i) in
      let m : Placeℕ = next p (suc j) in
      let u : Placeℕ = next p (suc m) in
      let v : Placeℕ = next p (suc u) in
      rw (
        next_re c p (suc i),
        next_re c p (suc j),
        next_re c p (suc m),
        next_re c p (suc u),
        at_re c p i,
        at_re c p j,
        at_re c p m,
        at_re c p u,
        at_re c p v,
        branch_re c f (at p i),
        unconditional_re c (at p j),
        label_re c (at p m),
        unconditional_re c (at p u),
        label_re c (at p v),
        context_re c p m,
        between_re c p i v,
        interior_re c p i,
      )
      (bind_omap R (re_i c) (branch f (at p i)) _ _ (λ b.
      bind_omap R (re_i c) (unconditional (at p j)) _ _ (λ skip.
      bind_plain R (local_label (at p m)) _ _ (λ t.
      bind_omap R (re_i c) (unconditional (at p u)) _ _ (λ last.
      bind_plain R (local_label (at p v)) _ _ (λ s.
      tested c _ _ _ _ (once t b s skip) (tested c _ _ _ _ refl (edit_re c (j ∷ m ∷ u ∷ []) p i (aimed f b last)))))))))
    where
      once : (t : ℕ) (b : Instruction) (s : ℕ) (skip : Instruction)
          → names_bare t (re_i c b) && (names_bare s (re_i c skip) && eqb (references (context_at p (next p (suc (next p (suc i))))) t (R p)) 1)
          ≡ names_bare t b && (names_bare s skip && eqb (references (context_at p (next p (suc (next p (suc i))))) t p) 1)
      once t b s skip = rw (references_re c (context_at p (next p (suc (next p (suc i))))) t p)

  pattern_re : (x : Pattern) (p : Program) (i : Placeℕ) → pattern_at (R p) x i ≡ omap R (pattern_at p x i)
  pattern_re (inverted from to) p i = inverted_re from to p i
  pattern_re (trampoline f) p i = trampoline_re f p i

  -- ---- change jumps
  nearest_re : (p : Program) (i : Placeℕ) → nearest (R p) i ≡ nearest p i
  unfolding nearest
  nearest_re p zero = refl
  nearest_re p (suc i) = rw (at_re c p i, blind c skipped (λ g xs a b. refl) (at p i), nearest_re p i)

  valued_ext : (w v : Operand → Result ℤ Unvalued) → ((x : Operand) → w x ≡ v x) → (xs : List Operand) → valued_10d_and_0 w xs ≡ valued_10d_and_0 v xs
  valued_ext w v h [] = refl
  valued_ext w v h (x ∷ []) = refl
  valued_ext w v h (x ∷ y ∷ []) = rw (h x, h y)
  valued_ext w v h (x ∷ y ∷ z ∷ zs) = refl

  changes_re : (names : List Entry) (p : Program) (i : Placeℕ) (o : Option Placeℕ) → changes_at names (R p) i o ≡ changes_at names p i o
  changes_re names p i none = refl
  changes_re names p i (some j) =
      ap₂ (λ (a b : Bool). a && b) (ap (is_form not1) (at_re c p j) ∙ blind c (is_form not1) (λ g xs a b. refl) (at p j))
      (ap₂ (λ (a b : Bool). a && b)
      (ap (λ (s : Stmt). valued_10d_and_0 (worth_of names (R p) (context_at (R p) j)) (args_of s)) (at_re c p j)
      ∙ ap (valued_10d_and_0 (worth_of names (R p) (context_at (R p) j))) (blind c args_of (λ g xs a b. refl) (at p j))
      ∙ valued_ext _ _ (λ x. ap (λ (k : ℕ). worth_of names (R p) k x) (context_re c p j) ∙ kept_re c p names (context_at p j) x) (args_of (at p j)))
      (ap₂ eqb (ap (after (position (R p) j)) (at_re c p j) ∙ blind c (after (position (R p) j)) (λ g xs a b. refl) (at p j) ∙ ap (λ (q : ℕ). after q (at p j)) (position_re c p j)) (position_re c p i)))

  change_re : (names : List Entry) (p : Program) (i : Placeℕ) → is_change_jump names (R p) i ≡ is_change_jump names p i
  unfolding is_change_jump
  change_re names p i =
      ap₂ (λ (a b : Bool). a && b) (ap (is_form jmpf) (at_re c p i) ∙ blind c (is_form jmpf) (λ g xs a b. refl) (at p i))
      (ap (changes_at names (R p) i) (nearest_re p i) ∙ changes_re names p i (nearest p i))

  shrink_re : (asked : Settings) (names : List Entry) (p : Program) (i : Placeℕ)
      → shrink_at asked names (R p) i ≡ omap R (shrink_at asked names p i)
  unfolding shrink_at shorter re_i
  shrink_re asked names p i =
      rw (at_re c p i, instr_re c (at p i), interior_re c p i, change_re names p i)
      (bind_omap R (re_i c) (as_instr (at p i)) _ _ (λ x.
      first_of_omap R _ _ (λ f. tested c _ _ _ _ refl (put_re c p i (instr f x.args x.carried))) (shorter asked names p i x.form)))

  -- ---- the chain
  step_re : (asked : Settings) (p : Program) → step asked (R p) ≡ omap R (step asked p)
  unfolding step anywhere
  step_re asked p =
      rw (length_re c p, names_re c p)
      (ap₂ (λ (a b : Option Program). or_else a b)
      (first_of_omap R _ _ (λ x. first_omap R (pattern_at (R p) x) (pattern_at p x) (pattern_re x p) (length p) 0) (patterns_for asked))
      (first_omap R (shrink_at asked (names_of p) (R p)) (shrink_at asked (names_of p) p) (shrink_re asked (names_of p) p) (length p) 0)
      ∙ or_else_omap R _ _)

  re_c : Chain → Chain
  re_c d = record { program = R d.program; count = d.count }

  chain_re : (asked : Settings) (n : ℕ) (p : Program) → chain asked n (R p) ≡ re_c (chain asked n p)
  unfolding chain re_c
  chain_re asked zero p = refl
  chain_re asked (suc n) p =
      ap (λ (o : Option Program). elim o as (λ x. Chain) [ none ↦ record { program = R p; count = 0 } | some q ↦ more (chain asked n q) ]) (step_re asked p)
      ∙ on (step asked p) (chain_re asked n)
    where
      on : (o : Option Program) → ((q : Program) → chain asked n (R q) ≡ re_c (chain asked n q))
          → ◌≡◌ {A = Chain} (elim (omap R o) as (λ x. Chain) [ none ↦ record { program = R p; count = 0 } | some q ↦ more (chain asked n q) ])
          (re_c (elim o as (λ x. Chain) [ none ↦ record { program = p; count = 0 } | some q ↦ more (chain asked n q) ]))
      on none below = refl
      on (some q) below = ap more (below q)

  -- ---- anchoring, writing back
  still : (s : Stmt) → is_instr s ≡ false → recarry c s ≡ s
  still s n = other s (λ x. instr x.form x.args (c x.carried)) s n

  aimed_re : (f g : Operand → Operand) → ((x : Operand) → f x ≡ g x) → (s : Stmt) → retarget f (recarry c s) ≡ recarry c (retarget g s)
  aimed_re f g h s =
      by_instr (λ s. retarget f (recarry c s) ≡ recarry c (retarget g s))
      (λ k xs d. ap (λ (l : List Operand). instr k l (c d)) (on_last_ext f g h xs))
      (λ s n. ap (retarget f) (still s n) ∙ other s (λ x. instr x.form (on_last f x.args) x.carried) s n ∙ sym (ap (recarry c) (other s (λ x. instr x.form (on_last g x.args) x.carried) s n) ∙ still s n)) s

  target_re : (names : List Entry) (moving : List Key) (p : Program) (k : ℕ) (x : Operand)
      → anchor_target names moving (R p) k x ≡ anchor_target names moving p k x
  target_re names moving p k (register r) = refl
  target_re names moving p k (value e) = rw (origin_same p (R p) (room_re c p) (worth names k e))
  target_re names moving p k (inner i o) = refl

  anchored_re : (names : List Entry) (p : Program) (i : Placeℕ) (s : Stmt)
      → is_anchored names (R p) i (recarry c s) ≡ is_anchored names p i s
  unfolding is_anchored
  anchored_re names p i s =
      rw (change_re names p i) (blind c (on_instr false (λ x. is_transfer x.form && not (is_change_jump names p i))) (λ g xs a b. refl) s)

  anchor_at_lem : (names : List Entry) (moving : List Key) (p : Program) (x : Placed)
      → anchor_at names moving (R p) (moved c x) ≡ recarry c (anchor_at names moving p x)
  anchor_at_lem names moving p x =
      ap (λ (b : Bool). cond b (retarget (anchor_target names moving (R p) x.context) (recarry c x.stmt)) (recarry c x.stmt)) (anchored_re names p x.place x.stmt)
      ∙ ap (λ (s : Stmt). cond (is_anchored names p x.place x.stmt) s (recarry c x.stmt))
      (aimed_re (anchor_target names moving (R p) x.context) (anchor_target names moving p x.context) (target_re names moving p x.context) x.stmt)
      ∙ sym (cond_map (recarry c) (is_anchored names p x.place x.stmt) (retarget (anchor_target names moving p x.context) x.stmt) x.stmt)

  anchor_re : (p : Program) → anchor (R p) ≡ R (anchor p)
  unfolding anchor recarried
  anchor_re p =
      rw (names_re c p, moving_re c p, placed_re c p)
      (map_twice (anchor_at (names_of p) (moving_of p) (R p)) (moved c) (recarry c) (anchor_at (names_of p) (moving_of p) p) (anchor_at_lem (names_of p) (moving_of p) p) (placed p))

  bytes_re : (p : Program) → total instr_bytes (R p) ≡ total instr_bytes p
  unfolding recarried
  bytes_re p = total_map instr_bytes (recarry c) (λ s. blind c instr_bytes (λ g xs a b. refl) s) p

  optimized_re : (asked : Settings) (p : Program) → optimized asked (R p) ≡ re_c (optimized asked p)
  unfolding optimized
  optimized_re asked p = rw (bytes_re p, anchor_re p) (chain_re asked (total instr_bytes p) (anchor p))

  plain_re : (p : Program) (x : Operand) → plain_target (R p) x ≡ plain_target p x
  plain_re p (register r) = refl
  plain_re p (value e) = refl
  plain_re p (inner i o) = rw (position_re c p i)

  write_back_re : (p : Program) → write_back (R p) ≡ R (write_back p)
  unfolding write_back recarried
  write_back_re p =
      map_twice (λ s. retarget (plain_target (R p)) s) (recarry c) (recarry c) (λ s. retarget (plain_target p) s) (aimed_re (plain_target (R p)) (plain_target p) (plain_re p)) p

  spoken_re : (asked : Settings) (s : Stmt) → spoken asked (recarry c s) ≡ recarry c (spoken asked s)
  spoken_re asked gone = refl
  spoken_re asked (instr f xs d) = refl
  spoken_re asked (label n) = refl
  spoken_re asked (variable n e) = refl
  spoken_re asked (comment x) = sym (cond_map (recarry c) (not asked.comments) gone (comment x))
  spoken_re asked (org l) = refl
  spoken_re asked (bytes es) = refl
  spoken_re asked (words es) = refl
  spoken_re asked (pad add m) = refl

  shown_re : (asked : Settings) (p : Program) → shown asked (R p) ≡ R (shown asked p)
  unfolding shown recarried
  shown_re asked p = map_twice (spoken asked) (recarry c) (recarry c) (spoken asked) (spoken_re asked) p

  compact_re : (p : Program) → compact (R p) ≡ R (compact p)
  unfolding compact recarried
  compact_re [] = refl
  compact_re (s ∷ p) = rw (blind c is_gone (λ g xs a b. refl) s) (on (is_gone s) (compact_re p))
    where
      on : (b : Bool) → compact (map (recarry c) p) ≡ map (recarry c) (compact p)
          → cond b (compact (map (recarry c) p)) (recarry c s ∷ compact (map (recarry c) p))
          ≡ map (recarry c) (cond b (compact p) (s ∷ compact p))
      on true e = e
      on false e = ap (λ (l : Program). recarry c s ∷ l) e

  stems_from_is : (i : Placeℕ) (p : Program) → stems_from i (map (recarry c) p) ≡ stems_from i p
  unfolding stems_from
  stems_from_is i [] = refl
  stems_from_is i (s ∷ p) = rw (blind c is_gone (λ g xs a b. refl) s, stems_from_is (suc i) p)

  stems_re : (p : Program) → stems (R p) ≡ stems p
  unfolding stems recarried
  stems_re p = stems_from_is 0 p

  frame_re : (w : ListingForm) (n : ℕ) (s : Stmt) → frame_in w n (recarry c s) ≡ frame_in w n s
  unfolding frame_of
  frame_re old_form n s = blind c frame_of (λ g xs a b. refl) s
  frame_re new_form n s = ap (with_line n) (blind c frame_of (λ g xs a b. refl) s)

  lines_re : (w : ListingForm) (ns : List ℕ) (p : Program) → lines_in w ns (map (recarry c) p) ≡ lines_in w ns p
  unfolding lines_in
  lines_re w ns [] = refl
  lines_re w ns (s ∷ p) = rw (frame_re w (get_or ns 0 0) s, lines_re w (drop 1 ns) p)

  text_re : (b : Beside) (is : List Placeℕ) (p : Program) → text_of b is (R p) ≡ text_of b is p
  unfolding text_of recarried
  text_re b is p = rw (lines_re b.form _ p)

  -- ---- the output
  abbrev handed : Settings → Beside → Chain → Output
  handed asked b d =
      let left : Program = shown asked (write_back d.program) in
      record { listing = text_of b (stems left) (compact left); stems = stems left; count = d.count; image = judged_or (judge (compact left)) [] }

  handed_re : (asked : Settings) (b : Beside) (d : Chain) → handed asked b (re_c d) ≡ handed asked b d
  unfolding re_c
  handed_re asked b d =
      let left : Program = shown asked (write_back d.program) in
      rw (write_back_re d.program, shown_re asked (write_back d.program), stems_re left, compact_re left, text_re b (stems left) (compact left), judge_re c (compact left))

  -- uncarried: no answer depends on what is carried
  pub uncarried : (asked : Settings) (p : Program) → Uncarried asked p c
  unfolding output_of rewritten
  uncarried asked p =
      record { judged = judge_re c p; handed_out = λ b. ap (handed asked b) (optimized_re asked p) ∙ handed_re asked b (optimized asked p) }
