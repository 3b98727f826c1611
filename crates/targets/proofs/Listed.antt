-- The targets of the first places, one place more, and a room filled with their lines.
use mathlib.Core.Path.{◌≡◌, refl, sym, ap, ◌∙◌}
use mathlib.Core.List.{List, [], ◌∷◌, ◌++◌, append-nil}
use mathlib.Core.Bool.{Bool, true, false, cond}
use Prim.Native.Nat.{ℕ, suc, ◌+◌, ◌*◌, ◌≤◌, ◌<◌}
use native.Mathlib.Numerals.{add-one}
use native.Mathlib.Omega.{arith}
use lib.ListN.{length, length-append}
use Rattle.laws.specs.Lists.{total, each}
use Rattle.laws.specs.Counts.{tab}
use Rattle.laws.proofs.Lists.{each_append, each_one, total_append}
use Rattle.laws.proofs.Counts.{each_tab, rises}
use Rattle.laws.proofs.Tests.{cond_true, cond_false, false_true}
use Rattle.rules.specs.Forms.{is_transfer, form_at}
use Rattle.rules.specs.Programs.{Placeℕ, Stmt, on_instr, Program, at}
use Rattle.rules.proofs.Laws.{by_instr, other}
use Rattle.patterns.specs.Targets.{form_in}
use Rattle.digits.specs.Digits.{laid}
use Rattle.digits.proofs.Rooms.{length_laid, laid_more, laid_nothing}
use Rattle.slots.specs.Slots.{gone_form}
use Rattle.targets.specs.Targets.{Target, target_at, is_same, targets_in, mark_byte, target_line}
use Rattle.targets.specs.Entry.{target_lines, mark_of, marks, targets_to}
use Rattle.targets.proofs.Same.{length_target}

-- the place whose target an instruction carries
abbrev pub carried_in : Stmt → Placeℕ
carried_in s = on_instr 0 (λ x. x.carried) s

no_transfer : is_transfer gone_form ≡ false
unfolding is_transfer form_at
no_transfer = refl

module _ (F : Placeℕ → Target) where
  abbrev found : Stmt → List Target
  found s = on_instr [] (λ x. cond (is_transfer x.form) (F x.carried ∷ []) []) s

  found_one : (s : Stmt) → is_transfer (form_in s) ≡ true → found s ≡ F (carried_in s) ∷ []
  found_one =
      by_instr (λ s. is_transfer (form_in s) ≡ true → found s ≡ F (carried_in s) ∷ []) (λ f xs c h. cond_true (is_transfer f) (F c ∷ []) [] h)
      (λ s n h. false_true (sym no_transfer ∙ ap is_transfer (sym (other gone_form (λ x. x.form) s n)) ∙ h))

  found_none : (s : Stmt) → is_transfer (form_in s) ≡ false → found s ≡ []
  found_none =
      by_instr (λ s. is_transfer (form_in s) ≡ false → found s ≡ []) (λ f xs c h. cond_false (is_transfer f) (F c ∷ []) [] h)
      (λ s n h. other [] (λ x. cond (is_transfer x.form) (F x.carried ∷ []) []) s n)

-- ---- one place more
module _ (p e : Program) where
  pub to_none : targets_to p e 0 ≡ []
  unfolding targets_to each tab
  to_none = refl

  module _ (i : Placeℕ) where
    to_more : targets_to p e (i + 1) ≡ targets_to p e i ++ targets_in p e i
    unfolding targets_to
    to_more = each_tab (targets_in p e) (λ k. k) i

    pub to_one : is_transfer (form_in (at e i)) ≡ true → targets_to p e (i + 1) ≡ targets_to p e i ++ (target_at p e i (carried_in (at e i)) ∷ [])
    to_one h = to_more ∙ ap (λ (l : List Target). targets_to p e i ++ l) (found_one (target_at p e i) (at e i) h)

    pub to_other : is_transfer (form_in (at e i)) ≡ false → targets_to p e (i + 1) ≡ targets_to p e i
    to_other h = to_more ∙ ap (λ (l : List Target). targets_to p e i ++ l) (found_none (target_at p e i) (at e i) h) ∙ append-nil (targets_to p e i)

    pub count_one : (n : ℕ) → n ≡ length (targets_to p e i) → is_transfer (form_in (at e i)) ≡ true → n + 1 ≡ length (targets_to p e (i + 1))
    count_one n h z = omega (arith, ap length (to_one z), length-append (targets_to p e i) (target_at p e i (carried_in (at e i)) ∷ []))

    pub count_other : (n : ℕ) → n ≡ length (targets_to p e i) → is_transfer (form_in (at e i)) ≡ false → n ≡ length (targets_to p e (i + 1))
    count_other n h z = h ∙ ap length (sym (to_other z))

    to_rises : length (targets_to p e i) ≤ length (targets_to p e (suc i))
    to_rises =
        let z : targets_to p e (suc i) ≡ targets_to p e i ++ targets_in p e i = rw (← add-one i) to_more in
        omega (arith, ap length z, length-append (targets_to p e i) (targets_in p e i))

  pub to_within : (i n : ℕ) → i ≤ n → length (targets_to p e i) ≤ length (targets_to p e n)
  to_within = rises (λ k. length (targets_to p e k)) (λ k. to_rises k)

-- ---- lines, 45 characters each
pub length_lines : (ts : List Target) → length (target_lines ts) ≡ 45 * length ts
unfolding target_lines each
length_lines [] = refl
length_lines (t ∷ ts) = omega (arith, length-append (target_line t) (target_lines ts), length_target t, length_lines ts)

lines_more : (ts : List Target) (t : Target) → target_lines (ts ++ (t ∷ [])) ≡ target_lines ts ++ target_line t
unfolding target_lines
lines_more ts t = each_append target_line ts (t ∷ []) ∙ ap (λ (l : List ℕ). each target_line ts ++ l) (each_one target_line t)

marks_more : (ts : List Target) (t : Target) → marks (ts ++ (t ∷ [])) ≡ marks ts + mark_of t
unfolding marks total
marks_more ts t = total_append mark_of ts (t ∷ []) ∙ omega arith

pub mark_low : (b : Bool) → mark_byte b ≤ 1
mark_low true = omega arith
mark_low false = omega arith

-- ---- a room filled with those of the first i places
pub record Written (p e : Program) (room : List ℕ) (i n marked : ℕ) (out : List ℕ) : Type 0 where
  pub count : n ≡ length (targets_to p e i)
  pub few : n ≤ i
  pub marked_is : marked ≡ marks (targets_to p e i)
  pub marked_few : marked ≤ i
  pub filled : out ≡ laid room 0 (target_lines (targets_to p e i))

module _ (p e : Program) (room : List ℕ) where
  pub written_start : Written p e room 0 0 0 room
  unfolding marks target_lines each total
  written_start =
      record {
        count = sym (ap length (to_none p e));
        few = omega arith;
        marked_is = sym (ap marks (to_none p e));
        marked_few = omega arith;
        filled = sym (ap (λ (l : List Target). laid room 0 (target_lines l)) (to_none p e) ∙ laid_nothing room 0);
      }

  module _ (i n marked : ℕ) (out : List ℕ) (w : Written p e room i n marked out) where
    pub written_other : is_transfer (form_in (at e i)) ≡ false → Written p e room (i + 1) n marked out
    written_other h =
        let z = sym (to_other p e i h) in
        record {
          count = w.count ∙ ap length z;
          few = omega (arith, w.few);
          marked_is = w.marked_is ∙ ap marks z;
          marked_few = omega (arith, w.marked_few);
          filled = w.filled ∙ ap (λ (l : List Target). laid room 0 (target_lines l)) z;
        }

    module _ (m : ℕ) (l : i ≤ m) (f : length (target_lines (targets_to p e m)) ≤ length room) where
      size : length (target_lines (targets_to p e i)) ≡ 45 * n
      size = omega (arith, length_lines (targets_to p e i), w.count)

      -- the room stays as long
      pub written_length : length out ≡ length room
      written_length =
          ap length w.filled
          ∙ length_laid room 0 (target_lines (targets_to p e i))
          (omega (arith, size, f, length_lines (targets_to p e m), to_within p e i m (omega arith), w.count))

      module _ (inside : i < m) (h : is_transfer (form_in (at e i)) ≡ true) where
        -- and has room for the next line
        pub written_room : 45 * n + 45 ≤ length room
        written_room = omega (arith, f, length_lines (targets_to p e m), to_within p e (i + 1) m (omega arith), count_one p e i n w.count h)

        pub written_one : (c r : ℕ) (out' : List ℕ) → c ≡ carried_in (at e i) → out' ≡ laid out (45 * n) (target_line (target_at p e i c)) → r ≡ mark_of (target_at p e i c)
            → Written p e room (i + 1) (n + 1) (marked + r) out'
        written_one c r out' ec eo er =
            let z : targets_to p e (i + 1) ≡ targets_to p e i ++ (target_at p e i c ∷ []) =
            to_one p e i h ∙ ap (λ (k : Placeℕ). targets_to p e i ++ (target_at p e i k ∷ [])) (sym ec) in
            let line = target_line (target_at p e i c) in
            record {
              count = count_one p e i n w.count h;
              few = omega (arith, w.few);
              marked_is = omega (arith, w.marked_is, er, marks_more (targets_to p e i) (target_at p e i c), ap marks z);
              marked_few = omega (arith, w.marked_few, er, mark_low (is_same (target_at p e i c)));
              filled =
                  eo ∙ ap (λ (d : List ℕ). laid d (45 * n) line) w.filled
                  ∙ laid_more room (target_lines (targets_to p e i)) line 0 (45 * n) (omega (arith, size)) (omega (arith, written_room, length_target (target_at p e i c)))
                  ∙ ap (laid room 0) (sym (ap target_lines z ∙ lines_more (targets_to p e i) (target_at p e i c)));
            }
