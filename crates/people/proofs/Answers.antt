-- What is read by the plan of lines is a line of the grammar, and where the reader is stuck is 15's column. Assumes nothing.
use mathlib.Core.Path.{◌≡◌, subst}
use mathlib.Core.List.{List, []}
use Prim.Native.Nat.{ℕ, ◌-◌, ◌≤◌}
use native.Mathlib.Omega.{arith}
use lib.ListN.{length, drop, length-drop}
use Rattle.std.specs.Prelude.{Ok, Err, Result}
use Rattle.grammar.specs.Reading.{WrongAt}
use Rattle.plans.specs.Lines.{line_plan}
use Rattle.plans.proofs.Wholes.{reads_line, column}
use Rattle.laying.specs.Speaking.{Spoken}
use Rattle.people.specs.Reading.{Answers}

pub answers : (s a : List ℕ) (r : Result ℕ ℕ) → Spoken line_plan s 0 a r → Answers s a r
answers s a (Ok to) (x, (w, h)) =
    record {
      x = x;
      line = (reads_line x s [] w).0;
      size = h.size;
      within = h.within;
      fits = λ l. (h.short l, subst (λ n. n ≤ 120) (h.ends l) l);
      ends = h.ends;
      frame = h.front;
      passes = λ l f. omega (arith, h.over l f.0, f.1);
    }
answers s a (Err c) (w, h) =
    let e : length s - length (drop c s) ≡ c = omega (arith, length-drop c s) in subst (λ n. WrongAt s n) e (column s (drop c s) w)
