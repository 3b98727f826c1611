-- Rewrite by rewrite: n of them are told, and the rest are those of the program at hand.
use mathlib.Core.Path.{◌≡◌, refl, sym, ap, ◌∙◌}
use mathlib.Core.List.{List, [], ◌∷◌, ◌++◌}
use mathlib.Core.Option.{Option, none, some}
use mathlib.Core.Bool.{Bool, true, false}
use Prim.Native.Nat.{ℕ, ◌+◌, ◌-◌, ◌*◌, ◌≤◌, ◌<◌}
use native.Mathlib.Nat.{sub-zero}
use native.Mathlib.Omega.{arith}
use lib.ListN.{length, take, drop, length-drop, length-take, length-append}
use lib.Seq.{take-add, take_all, drop-drop}
use Rattle.laws.specs.Lists.{total, each}
use Rattle.laws.proofs.Lists.{each_append, each_one}
use Rattle.laws.proofs.Options.{said_some, said_none}
use Rattle.laws.proofs.Tests.{sub_lt}
use Rattle.rules.specs.declared.Settings.{Settings}
use Rattle.rules.specs.Programs.{Program}
use Rattle.rules.specs.Judging.{assembles}
use Rattle.rules.specs.Rewriting.{step, instr_bytes}
use Rattle.promises.proofs.Shorter.{step_shorter}
use Rattle.promises.proofs.Acceptable.{acceptable_parts, step_acceptable}
use Rattle.slots.specs.Slots.{Slots, program_of}
use Rattle.attempts.specs.Standing.{Tried}
use Rattle.digits.specs.Digits.{laid}
use Rattle.digits.proofs.Rooms.{length_laid, laid_more, laid_nothing}
use Rattle.steps.specs.Steps.{Rewrite, rewrite_of, steps_in, step_line, step_lines}
use Rattle.steps.proofs.Done.{steps_stop, steps_more}
use Rattle.steps.proofs.InSlots.{length_step}

-- ---- lines, 21 characters each
pub length_lines : (rs : List Rewrite) → length (step_lines rs) ≡ 21 * length rs
unfolding step_lines each
length_lines [] = refl
length_lines (r ∷ rs) = omega (arith, length-append (step_line r) (step_lines rs), length_step r, length_lines rs)

-- one more element of a list, from what is left of it
module _ (S : List Rewrite) (n : ℕ) (x : Rewrite) (rest : List Rewrite) (e : drop n S ≡ x ∷ rest) where
  one_inside : n < length S
  one_inside = omega (arith, ap length e, length-drop n S)

  one_left : drop (n + 1) S ≡ rest
  one_left = sym (drop-drop 1 n S) ∙ ap (drop 1) e

  one_lines : step_lines (take (n + 1) S) ≡ step_lines (take n S) ++ step_line x
  unfolding step_lines
  one_lines =
      ap step_lines (take-add n 1 S ∙ ap (λ (l : List Rewrite). take n S ++ take 1 l) e)
      ∙ each_append step_line (take n S) (x ∷ []) ∙ ap (λ (l : List ℕ). each step_line (take n S) ++ l) (each_one step_line x)

-- ---- the walk
module _ (asked : Settings) (p₀ : Program) where
  abbrev pub all : List Rewrite
  all = steps_in asked (total instr_bytes p₀) p₀

  pub record Walked (p : Program) (n : ℕ) : Type 0 where
    pub left : drop n all ≡ steps_in asked (total instr_bytes p₀ - n) p
    pub few : n + total instr_bytes p ≤ total instr_bytes p₀
    pub good : assembles p ≡ true

  pub walked_start : assembles p₀ ≡ true → Walked p₀ 0
  walked_start g = record { left = rw sub-zero; few = omega arith; good = g }

  module _ (p : Program) (n : ℕ) (h : Walked p n) where
    -- one more rewrite
    module _ (q : Program) (e : step asked p ≡ some q) where
      next_is : drop n all ≡ rewrite_of p q ∷ steps_in asked (total instr_bytes p₀ - (n + 1)) q
      next_is =
          let less = step_shorter asked p q e in
          let b : n < total instr_bytes p₀ = omega (arith, h.few) in
          h.left ∙ ap (λ (k : ℕ). steps_in asked k p) (sub_lt (total instr_bytes p₀) n b) ∙ steps_more asked (total instr_bytes p₀ - (n + 1)) p q e

      pub walked_more : Walked q (n + 1)
      walked_more =
          let less = step_shorter asked p q e in
          record {
            left = one_left all n (rewrite_of p q) _ next_is;
            few = omega (arith, h.few);
            good = (acceptable_parts q (step_acceptable asked p q e)).1;
          }

      pub walked_inside : n < length all
      walked_inside = one_inside all n (rewrite_of p q) _ next_is

      -- its line behind those before it
      pub walked_line : (room out out' : List ℕ) → length (step_lines all) ≤ length room → out ≡ laid room 0 (step_lines (take n all))
          → out' ≡ laid out (21 * n) (step_line (rewrite_of p q)) → out' ≡ laid room 0 (step_lines (take (n + 1) all))
      walked_line room out out' f k l =
          let inside = walked_inside in
          let size : 0 + length (step_lines (take n all)) ≡ 21 * n = omega (arith, length_lines (take n all), length-take n all) in
          l ∙ ap (λ (d : List ℕ). laid d (21 * n) (step_line (rewrite_of p q))) k
          ∙ laid_more room (step_lines (take n all)) (step_line (rewrite_of p q)) 0 (21 * n) size (omega (arith, f, length_lines all, length_step (rewrite_of p q)))
          ∙ ap (laid room 0) (sym (one_lines all n (rewrite_of p q) _ next_is))

    -- none remains: all are told
    pub walked_end : step asked p ≡ none → take n all ≡ all
    walked_end e = take_all n all (omega (arith, length-drop n all, ap length (h.left ∙ steps_stop asked (total instr_bytes p₀ - n) p e)))

  -- the room stays as long, and has room for the next line
  pub walked_room : (n : ℕ) (room out : List ℕ) → n < length all → length (step_lines all) ≤ length room → out ≡ laid room 0 (step_lines (take n all)) → 21 * n + 21 ≤ length out
  walked_room n room out l f k =
      omega (arith, f, length_lines all, ap length k, length_laid room 0 (step_lines (take n all)) (omega (arith, f, length_lines all, length_lines (take n all), length-take n all)))

  -- and is never longer or shorter than it was
  pub walked_length : (n : ℕ) (room out : List ℕ) → length (step_lines all) ≤ length room → out ≡ laid room 0 (step_lines (take n all)) → length out ≡ length room
  walked_length n room out f k =
      ap length k ∙ length_laid room 0 (step_lines (take n all)) (omega (arith, f, length_lines all, length_lines (take n all), length-take n all))

  pub walked_none : (room : List ℕ) → room ≡ laid room 0 (step_lines (take 0 all))
  unfolding step_lines each
  walked_none room = sym (laid_nothing room 0)

-- ---- what a tried rewrite says
pub tried_some : (x : Option Program) (t u : Slots) (r : Bool) → Tried x t u r → r ≡ true → x ≡ some (program_of u)
tried_some x t u r h e = said_some x (program_of t) (sym h.says ∙ e) ∙ ap some (sym h.leaves)

pub tried_none : (x : Option Program) (t u : Slots) (r : Bool) → Tried x t u r → r ≡ false → x ≡ none
tried_none x t u r h e = said_none x (sym h.says ∙ e)
