-- "Show that any two results allowed by the contract coincide": what is printed, and how long it is; the 7E line.
use mathlib.Core.Path.{◌≡◌, sym, ◌∙◌}
use mathlib.Core.List.{List}
use Prim.Native.Nat.{ℕ, ◌≤◌}
use lib.ListN.{length}
use Rattle.rules.specs.declared.Sizes.{Sizes}
use Rattle.std.specs.Prelude.{Result}
use Rattle.rules.specs.declared.Refusal.{Refusal}
use Rattle.rules.specs.declared.Settings.{Settings}
use Rattle.printing.specs.Page.{page_length, refusal_line, PrintedRun}

-- `print_run`: the answer, and every byte of the page and of the image's room
pub one_printed : (asked : Settings) (text page image : List ℕ) (r s : Result Sizes Refusal) (x y u v : List ℕ) → PrintedRun asked text page image r x u → PrintedRun asked text page image s y v → (r ≡ s) × (x ≡ y) × (u ≡ v)
one_printed asked text page image r s x y u v a b = (a.answers ∙ sym b.answers, a.page_is ∙ sym b.page_is, a.image_is ∙ sym b.image_is)

-- `page_length`
pub one_length : (answer : Result Sizes Refusal) (m n : ℕ) → (m ≡ page_length answer) × (m ≤ 62482) → (n ≡ page_length answer) × (n ≤ 62482) → m ≡ n
one_length answer m n a b = a.0 ∙ sym b.0

-- `refusal_line`
pub one_line : (r : Refusal) (x y : List ℕ) → (x ≡ refusal_line r) × (19 ≡ length x) → (y ≡ refusal_line r) × (19 ≡ length y) → x ≡ y
one_line r x y a b = a.0 ∙ sym b.0
