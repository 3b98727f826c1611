-- What the readers of a line answer, in terms of its plan: the frame that they leave, or the byte where they are stuck.
use Rattle.std.specs.Prelude.{◌≡◌, List, [], ◌∷◌, cond, ℕ, ◌≤◌, ltb, length, drop, Result, Ok, Err}
use Rattle.laws.specs.Lists.{each, total}
use Rattle.rules.specs.Expressions.{Expr, bytes_of}
use Rattle.rules.specs.Programs.{Stmt, over_exprs}
use Rattle.rules.specs.Output.{frame_of}
use Rattle.grammar.specs.Reading.{is_decimal, look}
use Rattle.grammar.specs.Going.{Read, got, stuck, digits}
use Rattle.plans.specs.Plans.{Plan, Walks}
use Rattle.plans.specs.Lines.{items_plan}
use Rattle.laying.specs.Laying.{long, Stands}

-- the frame of a statement stands in the room
abbrev pub Held : (a : List ℕ) (to : ℕ) → Stmt → Type 0
Held a to x = Stands a to (frame_of x) (over_exprs long x)

-- the line s from k on, read by the plan P
abbrev pub Spoken : Plan → (s : List ℕ) (k : ℕ) (a : List ℕ) → Result ℕ ℕ → Type 0
Spoken P s k a (Ok to) = (x : Stmt) × (Walks P (drop k s) (got x []) × Held a to x)
Spoken P s k a (Err c) = Walks P (drop k s) (stuck (drop c s)) × (c ≤ length s)

-- the line has to end at k
abbrev pub ends_at : (size k to : ℕ) → Result ℕ ℕ
ends_at size k to = cond (ltb k size) (Err k) (Ok to)

-- a number of at most `most`: at least one digit
unfoldable pub number_of : (most : ℕ) → List ℕ → Read ℕ
number_of most t = cond (is_decimal (look t)) (digits most 0 t) (stuck t)

abbrev pub Counted : (s : List ℕ) (k most : ℕ) → Result (ℕ × ℕ) ℕ → Type 0
Counted s k most (Ok (n, v)) = (number_of most (drop k s) ≡ got v (drop n s)) × ((n ≤ length s) × (v ≤ most))
Counted s k most (Err n) = (number_of most (drop k s) ≡ stuck (drop n s)) × (n ≤ length s)

-- ---- items of data

-- the frame of items, before their count is known
abbrev pub item_bytes : (kind count : ℕ) → List Expr → List ℕ
item_bytes kind n es = kind ∷ n ∷ each (λ e. bytes_of e) es

-- the count is stored behind the kind
abbrev pub ItemsEnd : (b a : List ℕ) (n to : ℕ) → Result ℕ ℕ → Type 0
ItemsEnd b a n to r =
    (r ≡ Ok to) × ((kind : ℕ) (es : List Expr) (l : ℕ) → Stands b to (item_bytes kind 0 es) l → Stands a to (item_bytes kind n es) l)

-- the items of a line, whatever statement is made of them
abbrev pub Listed : (List Expr → Stmt) → (kind : ℕ) (s : List ℕ) (k : ℕ) (a : List ℕ) → Result ℕ ℕ → Type 0
Listed make kind s k a (Ok to) =
    (es : List Expr)
    × (Walks (items_plan make 15 []) (drop k s) (got (make es) []) × Stands a to (item_bytes kind (length es) es) (total long es))
Listed make kind s k a (Err c) = Walks (items_plan make 15 []) (drop k s) (stuck (drop c s)) × (c ≤ length s)
