-- The lines up to a try: one more try, and the room for them.
use mathlib.Core.Path.{◌≡◌, refl, sym, ap, ◌∙◌}
use mathlib.Core.List.{List, [], ◌∷◌, ◌++◌}
use mathlib.Core.Option.{Option, none, some}
use Prim.Native.Nat.{ℕ, zero, suc, ◌+◌, ◌*◌, ◌/◌, ◌%◌, ◌≤◌, ◌<◌}
use native.Mathlib.Numerals.{add-one}
use native.Mathlib.Omega.{arith}
use lib.ListN.{length, length-append}
use Rattle.std.specs.Prelude.{Option as AnOption}
use Rattle.laws.specs.Lists.{each}
use Rattle.laws.specs.Counts.{tab}
use Rattle.laws.proofs.Lists.{each_append, each_one}
use Rattle.laws.proofs.Counts.{tab_suc, rises}
use Rattle.rules.specs.declared.Settings.{Settings}
use Rattle.rules.specs.Programs.{Program}
use Rattle.digits.specs.Digits.{laid}
use Rattle.digits.proofs.Rooms.{length_laid, laid_more, laid_nothing, length_line}
use Rattle.staying.specs.declared.Reason.{Reason}
use Rattle.staying.specs.Reasons.{attempt_at, Why, why_of, reason_in, whys_in, whys}
use Rattle.rules.specs.Expressions.{pair}
use Rattle.staying.specs.Lines.{attempt_byte, reason_byte, fault_in, fault_bytes, why_line, why_lines}
use Rattle.why.specs.Tried.{attempted_as, tried_count, why_at, tried_lines}

-- a line has 27 characters
pub length_why : (w : Why) → length (why_line w) ≡ 27
unfolding why_line
length_why w = length_line (0x75 ∷ attempt_byte w.attempt ∷ (pair w.place ++ (reason_byte w.reason ∷ fault_bytes (fault_in w.reason))))

pub length_lines : (ws : List Why) → length (why_lines ws) ≡ 27 * length ws
unfolding why_lines each
length_lines [] = refl
length_lines (w ∷ ws) = omega (arith, length-append (why_line w) (each why_line ws), length_why w, length_lines ws)

module _ (asked : Settings) (p : Program) where
  -- the reasons before try m
  abbrev pub before : (m : ℕ) → List Why
  before m = each (whys_in asked p) (tab (λ i. i) m)

  pub one_more : (m : ℕ) → before (m + 1) ≡ before m ++ whys_in asked p m
  one_more m =
      ap (each (whys_in asked p)) (tab_suc (λ i. i) m) ∙ each_append (whys_in asked p) (tab (λ i. i) m) (m ∷ []) ∙ ap (λ (x : List Why). before m ++ x) (each_one (whys_in asked p) m)

  one_at_most : (m : ℕ) → length (whys_in asked p m) ≤ 1
  unfolding whys_in
  one_at_most m = on (reason_in asked p m)
    where
      on : (o : Option Reason) → length (why_of (attempt_at (m % 26)) (m / 26) o) ≤ 1
      on none = omega arith
      on (some r) = omega arith

  -- no more than all
  rises_one : (m : ℕ) → length (before m) ≤ length (before (suc m))
  rises_one m = omega (arith, ap length (ap before (sym (add-one m)) ∙ one_more m), length-append (before m) (whys_in asked p m))

  pub all_of : (m : ℕ) → m ≤ 26 * length p → length (before m) ≤ length (whys asked p)
  unfolding whys
  all_of m l = rises (λ k. length (before k)) rises_one m (26 * length p) l

  pub few : (m : ℕ) → length (before m) ≤ m
  unfolding tab each
  few zero = omega arith
  few (suc m) = omega (arith, ap length (ap before (sym (add-one m)) ∙ one_more m), length-append (before m) (whys_in asked p m), few m, one_at_most m)

  tried_one : (m : ℕ) (o : Option Reason) → length (why_of (attempt_at (m % 26)) (m / 26) o) ≡ tried_count (attempted_as o)
  tried_one m none = refl
  tried_one m (some r) = refl

  tried_line : (m : ℕ) (o : Option Reason) → why_lines (why_of (attempt_at (m % 26)) (m / 26) o) ≡ tried_lines m (attempted_as o)
  unfolding why_lines each
  tried_line m none = refl
  tried_line m (some r) = each_one why_line (why_at m r)

  module _ (m : ℕ) (r : AnOption Reason) (e : r ≡ attempted_as (reason_in asked p m)) where
    here : length (whys_in asked p m) ≡ tried_count r
    unfolding whys_in
    here = tried_one m (reason_in asked p m) ∙ sym (ap tried_count e)

    pub count_more : length (before (m + 1)) ≡ length (before m) + tried_count r
    count_more = ap length (one_more m) ∙ length-append (before m) (whys_in asked p m) ∙ ap (λ (k : ℕ). length (before m) + k) here

    lines_here : why_lines (whys_in asked p m) ≡ tried_lines m r
    unfolding whys_in
    lines_here = tried_line m (reason_in asked p m) ∙ sym (ap (tried_lines m) e)

    pub lines_more : why_lines (before (m + 1)) ≡ why_lines (before m) ++ tried_lines m r
    unfolding why_lines
    lines_more = ap why_lines (one_more m) ∙ each_append why_line (before m) (whys_in asked p m) ∙ ap (λ (x : List ℕ). why_lines (before m) ++ x) lines_here

    -- the room for it
    module _ (count : ℕ) (c : count ≡ length p) (l : m < 26 * count) (room out : List ℕ) (fits : length (why_lines (whys asked p)) ≤ length room)
        (is : out ≡ laid room 0 (why_lines (before m))) where
      enough : length (why_lines (before (m + 1))) ≤ length room
      enough = omega (arith, fits, length_lines (before (m + 1)), length_lines (whys asked p), within)
        where
          within : length (before (m + 1)) ≤ length (whys asked p)
          within = all_of (m + 1) (omega (arith, c))

      size : length (why_lines (before m)) + length (tried_lines m r) ≡ length (why_lines (before (m + 1)))
      size = sym (ap length lines_more ∙ length-append (why_lines (before m)) (tried_lines m r))

      long : length out ≡ length room
      long = ap length is ∙ length_laid room 0 (why_lines (before m)) (omega (arith, enough, size))

      pub room_here : 27 * length (before m) + 27 * tried_count r ≤ length out
      room_here = omega (arith, enough, long, length_lines (before (m + 1)), count_more)

      pub line_here : (out' : List ℕ) → out' ≡ laid out (27 * length (before m)) (tried_lines m r) → out' ≡ laid room 0 (why_lines (before (m + 1)))
      line_here out' e =
          e ∙ ap (λ (d : List ℕ). laid d (27 * length (before m)) (tried_lines m r)) is
          ∙ laid_more room (why_lines (before m)) (tried_lines m r) 0 (27 * length (before m)) (omega (arith, length_lines (before m))) (omega (arith, enough, size, length_lines (before m)))
          ∙ ap (laid room 0) (sym lines_more)

-- at the start, and at the end
pub none_before : (asked : Settings) (p : Program) → 0 ≡ length (before asked p 0)
unfolding tab each
none_before asked p = refl

pub all_before : (asked : Settings) (p : Program) (m : ℕ) → m ≡ 26 * length p → length (before asked p m) ≡ length (whys asked p)
unfolding whys
all_before asked p m e = ap (λ (k : ℕ). length (before asked p k)) e

pub whole_before : (asked : Settings) (p : Program) (m : ℕ) → m ≡ 26 * length p → before asked p m ≡ whys asked p
unfolding whys
whole_before asked p m e = ap (before asked p) e

pub none_laid : (asked : Settings) (p : Program) (room : List ℕ) → room ≡ laid room 0 (why_lines (before asked p 0))
unfolding tab each why_lines
none_laid asked p room = sym (laid_nothing room 0)

pub long_before : (asked : Settings) (p : Program) (m : ℕ) → m ≤ 26 * length p → (room out : List ℕ) → length (why_lines (whys asked p)) ≤ length room
    → out ≡ laid room 0 (why_lines (before asked p m)) → length out ≡ length room
long_before asked p m l room out fits is =
    ap length is ∙ length_laid room 0 (why_lines (before asked p m)) (omega (arith, fits, length_lines (before asked p m), length_lines (whys asked p), all_of asked p m l))
