-- What document 01's program prints is what `mortarbee_print_run` and `mortarbee_refusal_line` give: the page's front, or the line of the answer's numbers.
use mathlib.Core.Path.{◌≡◌, ◌∙◌}
use mathlib.Core.List.{List}
use Prim.Native.Nat.{ℕ, ◌<◌}
use native.Mathlib.Nat.{mod-eq_of_lt}
use native.Mathlib.Omega.{arith}
use Rattle.rules.specs.declared.Sizes.{Sizes}
use Rattle.std.specs.Prelude.{Err, Result, Ok}
use Rattle.rules.specs.declared.Settings.{Settings}
use Rattle.rules.specs.declared.Refusal.{Refusal}
use Rattle.rules.specs.declared.Refusal.TheVariants.{Broken, Limit, Again, NoName, Back, Beyond, NoValue, Range, Outside, Far, Page, Room, Pairing, Absent, Column, Start, Unknown, Full, Store}
use Rattle.rules.specs.Refusals.{fault_of}
use Rattle.printing.specs.Page.{refusal_line, PrintedRun}
use Rattle.printing.proofs.Demands.{prints, printed_refused}
use Rattle.border_core.specs.declared.pages.PrintedReply.{PrintedReply}
use Rattle.border_core.specs.Pages.{SaysPrinted, Prints, line_of, PrintsAll}

-- a refusal's number is never 0, and fits in a byte
number_fits : (q : Refusal) → (0 < (fault_of q).number) × ((fault_of q).number < 256)
number_fits (Broken i) = (omega arith, omega arith)
number_fits (Limit i) = (omega arith, omega arith)
number_fits (Again i) = (omega arith, omega arith)
number_fits (NoName i) = (omega arith, omega arith)
number_fits (Back i) = (omega arith, omega arith)
number_fits (Beyond i) = (omega arith, omega arith)
number_fits (NoValue i) = (omega arith, omega arith)
number_fits (Range i j v) = (omega arith, omega arith)
number_fits (Outside i j v) = (omega arith, omega arith)
number_fits (Far i j v) = (omega arith, omega arith)
number_fits (Page i j v) = (omega arith, omega arith)
number_fits (Room n) = (omega arith, omega arith)
number_fits (Pairing k) = (omega arith, omega arith)
number_fits Absent = (omega arith, omega arith)
number_fits (Column i c) = (omega arith, omega arith)
number_fits Start = (omega arith, omega arith)
number_fits Unknown = (omega arith, omega arith)
number_fits Full = (omega arith, omega arith)
number_fits Store = (omega arith, omega arith)

-- the line of the answer's numbers is the refusal's
same_line : (r : PrintedReply) (q : Refusal) → SaysPrinted r (Err q) → line_of r ≡ refusal_line q
same_line r q y = rw (y.number, y.place, y.argument, y.amount, mod-eq_of_lt (number_fits q).1)

module _ (asked : Settings) (text : List ℕ) (r : PrintedReply) (page image page' image' : List ℕ) where
  -- prints-all
  pub prints_all : Prints asked text r page image page' image' → PrintsAll asked text r page image page' image'
  prints_all h = on h.answer h.says h.leaves
    where
      on : (a : Result Sizes Refusal) → SaysPrinted r a → PrintedRun asked text page image a page' image' → PrintsAll asked text r page image page' image'
      on (Ok s) y x =
          let z = prints asked text page image page' image' (Ok s) x in
          record { accepted = λ e. (rw y.page z.printed_is, rw y.page z.beyond); refused = λ n. absurd (n y.number) }
      on (Err q) y x =
          let z = prints asked text page image page' image' (Err q) x in
          let same = printed_refused asked text page image page' image' q x in
          record {
            accepted = λ e. absurd (omega (arith, e, y.number, (number_fits q).0));
            refused = λ n. (same_line r q y ∙ z.printed_is, same.0, same.1);
          }
