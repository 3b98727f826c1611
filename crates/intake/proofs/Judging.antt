-- The line that a text begins with, judged in its order: each answer of the code is what `Judges` says. Assumes nothing.
use mathlib.Core.Path.{◌≡◌, sym, ap, ◌∙◌, subst}
use mathlib.Core.Bool.{true}
use mathlib.Core.List.{List}
use Prim.Native.Nat.{ℕ, ◌+◌, ◌*◌, ◌≤◌, ◌<◌}
use native.Mathlib.Omega.{arith}
use lib.IntN.{pos}
use lib.ListN.{length, take}
use lib.Seq.{length-take-le}
use borrow.Author.Tests.{lt-ltb, le-ltb}
use Rattle.rules.specs.declared.Refusal.TheVariants.{Limit, Column}
use Rattle.rules.specs.Answers.{at_place, no}
use Rattle.listing.specs.Lines.{line_length, first_line}
use Rattle.listing.proofs.FirstLine.{line_within}
use Rattle.grammar.specs.Reading as reading
use Rattle.grammar.specs.Reading.{WrongAt}
use Rattle.people.specs.Reading.{Reads}
use Rattle.intake.specs.Intake as intake
use Rattle.intake.specs.Intake.{Judges}
use Rattle.intake.specs.Turns.{Framed}

module _ (t : List ℕ) (i sum n : ℕ) (e : n ≡ line_length t) where
  within : n ≤ length t
  within = omega (arith, line_within t)

  long : length (first_line t).chars ≡ n
  long = length-take-le (line_length t) t (line_within t) ∙ sym e

  chars_are : take n t ≡ (first_line t).chars
  chars_are = ap (λ (k : ℕ). take k t) e

  pub wide : i < 1024 → 1024 < n → Judges i sum (first_line t) (no (Limit (at_place i)))
  wide h k = intake.wide h (omega (arith, long))

  pub wrong : (c : ℕ) → i < 1024 → n ≤ 1024 → WrongAt (take n t) c → Judges i sum (first_line t) (no (Column (at_place i) (pos c)))
  wrong c h k w = intake.wrong c h (omega (arith, long)) (subst (λ x. WrongAt x c) chars_are w)

  -- a good line
  module _ (h : i < 1024) (k : n ≤ 1024) (a : List ℕ) (to : ℕ) (r : Reads (take n t) a to) where
    short : length (first_line t).chars ≤ 1024
    short = omega (arith, long)

    good : reading.Line r.x (first_line t).chars
    good = subst (λ x. reading.Line r.x x) chars_are r.line

    pub unended : n ≡ length t → Judges i sum (first_line t) (no (Column (at_place i) (pos n)))
    unended q =
        subst (λ m. Judges i sum (first_line t) (no (Column (at_place i) (pos m)))) long
        (intake.unended r.x h short good (le-ltb (line_length t) (length t) (omega arith)))

    module _ (q : n ≡ length t → ⊥) where
      less : line_length t < length t
      less = omega (arith, within)

      ended : (first_line t).ended ≡ true
      ended = lt-ltb (line_length t) (length t) less

      pub over : 120 < to → Judges i sum (first_line t) (no (Limit (at_place i)))
      over o = intake.passes r.x h short good ended (λ f m. r.passes o f)

      module _ (o : to ≤ 120) where
        pub full : 49152 < sum + 2 * to → Judges i sum (first_line t) (no (Limit (at_place i)))
        full m = intake.passes r.x h short good ended (λ f u. omega (arith, r.ends o))

        pub framed : sum + 2 * to ≤ 49152 → Framed i sum t a (n + 1) to
        framed m = record {
          s = r.x;
          judges = intake.reads r.x h short good ended (r.fits o) (omega (arith, r.ends o));
          there = less;
          ends = omega arith;
          size = r.ends o;
          short = o;
          room_size = r.size;
          frame = r.frame o;
        }
