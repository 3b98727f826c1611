-- How a line is read: by a plan, which says what may come next. Only the next byte decides. `Reads P s t` is the grammar of a plan: t is
-- a text of the statement s. `Walks P t o` is how the reader goes, with its answer.
use Rattle.std.specs.Prelude.{◌≡◌, List, [], ◌∷◌, ◌++◌, Bool, true, false, ℕ, ◌≤◌, eqb, length}
use Rattle.std.proofs.Math.Option.{Option, none, some}
use Rattle.rules.specs.Expressions.{Expr}
use Rattle.rules.specs.Programs.{Stmt}
use Rattle.grammar.specs.Reading.{is_decimal, look, Decimal, Exp}
use Rattle.grammar.specs.Going as going
use Rattle.grammar.specs.Going.{Read, got, stuck, infix_of, whole, Goes}

pub data Plan : Type 0 where
  -- the line ends here
  done : Stmt → Plan
  -- the line ends here with a statement, if there is one, or goes on with a byte that passes a test
  fork : (end : Option Stmt) (ok : ℕ → Bool) (next : ℕ → Plan) → Plan
  -- an expression, a number of at most `most`, the five digits of a name; then as the plan says
  expression : (Expr → Plan) → Plan
  decimal : (most : ℕ) → (ℕ → Plan) → Plan
  five : (ℕ → Plan) → Plan
  -- a byte that passes a test, which no expression begins with; or else an expression
  either : (ok : ℕ → Bool) (next : ℕ → Plan) → (Expr → Plan) → Plan
  -- all that is left of the line, by a reader of its own: what is unbounded and no expression
  finish : (List ℕ → Read Stmt) → Plan

-- two texts that begin alike: both have ended, or the first byte is the same
pub data Alike : List ℕ → List ℕ → Type 0 where
  both : Alike [] []
  same : {c : ℕ} {r u : List ℕ} → Alike (c ∷ r) (c ∷ u)

pub data Reads : Plan → Stmt → List ℕ → Type 0 where
  last : {s : Stmt} → Reads (done s) s []
  ends : {s : Stmt} {ok : ℕ → Bool} {f : ℕ → Plan} → Reads (fork (some s) ok f) s []
  byte : {end : Option Stmt} {s : Stmt} {ok : ℕ → Bool} {f : ℕ → Plan} {c : ℕ} {t : List ℕ} → ok c ≡ true → Reads (f c) s t
      → Reads (fork end ok f) s (c ∷ t)
  tree : {s : Stmt} {f : Expr → Plan} {e : Expr} {w v : List ℕ} → Exp 5 e w → Reads (f e) s v → Reads (expression f) s (w ++ v)
  value : {s : Stmt} {most n : ℕ} {f : ℕ → Plan} {w v : List ℕ} → Decimal most n w → Reads (f n) s v → Reads (decimal most f) s (w ++ v)
  digits : {s : Stmt} {n : ℕ} {f : ℕ → Plan} {w v : List ℕ} → length w ≡ 5 → Decimal 32767 n w → Reads (f n) s v → Reads (five f) s (w ++ v)
  marked : {s : Stmt} {ok : ℕ → Bool} {next : ℕ → Plan} {f : Expr → Plan} {c : ℕ} {t : List ℕ} → ok c ≡ true → Reads (next c) s t
      → Reads (either ok next f) s (c ∷ t)
  bare : {s : Stmt} {ok : ℕ → Bool} {next : ℕ → Plan} {f : Expr → Plan} {e : Expr} {w v : List ℕ} → Exp 5 e w → Reads (f e) s v
      → Reads (either ok next f) s (w ++ v)
  finished : {s : Stmt} {t : List ℕ} {read : List ℕ → Read Stmt} → read t ≡ got s [] → Reads (finish read) s t

pub data Walks : Plan → List ℕ → Read Stmt → Type 0 where
  last : {s : Stmt} → Walks (done s) [] (got s [])
  over : {s : Stmt} {c : ℕ} {t : List ℕ} → Walks (done s) (c ∷ t) (stuck (c ∷ t))
  ended : {s : Stmt} {ok : ℕ → Bool} {f : ℕ → Plan} → Walks (fork (some s) ok f) [] (got s [])
  short : {ok : ℕ → Bool} {f : ℕ → Plan} → Walks (fork none ok f) [] (stuck [])
  steps : {end : Option Stmt} {ok : ℕ → Bool} {f : ℕ → Plan} {c : ℕ} {t : List ℕ} {o : Read Stmt} → ok c ≡ true → Walks (f c) t o
      → Walks (fork end ok f) (c ∷ t) o
  wrong : {end : Option Stmt} {ok : ℕ → Bool} {f : ℕ → Plan} {c : ℕ} {t : List ℕ} → ok c ≡ false
      → Walks (fork end ok f) (c ∷ t) (stuck (c ∷ t))
  tree : {f : Expr → Plan} {e : Expr} {t r : List ℕ} {o : Read Stmt} → Goes (whole 5) t (got e r) → Walks (f e) r o
      → Walks (expression f) t o
  treeless : {f : Expr → Plan} {t r : List ℕ} → Goes (whole 5) t (stuck r) → Walks (expression f) t (stuck r)
  value : {f : ℕ → Plan} {most n : ℕ} {t r : List ℕ} {o : Read Stmt} → is_decimal (look t) ≡ true
      → going.digits most 0 t ≡ got n r → Walks (f n) r o
      → Walks (decimal most f) t o
  large : {f : ℕ → Plan} {most : ℕ} {t r : List ℕ} → is_decimal (look t) ≡ true → going.digits most 0 t ≡ stuck r
      → Walks (decimal most f) t (stuck r)
  valueless : {f : ℕ → Plan} {most : ℕ} {t : List ℕ} → is_decimal (look t) ≡ false → Walks (decimal most f) t (stuck t)
  digits : {f : ℕ → Plan} {n : ℕ} {t r : List ℕ} {o : Read Stmt} → going.fixed 32767 5 0 t ≡ got n r → Walks (f n) r o → Walks (five f) t o
  nameless : {f : ℕ → Plan} {t r : List ℕ} → going.fixed 32767 5 0 t ≡ stuck r → Walks (five f) t (stuck r)
  marked : {ok : ℕ → Bool} {next : ℕ → Plan} {f : Expr → Plan} {c : ℕ} {t : List ℕ} {o : Read Stmt} → ok c ≡ true → Walks (next c) t o
      → Walks (either ok next f) (c ∷ t) o
  bare : {ok : ℕ → Bool} {next : ℕ → Plan} {f : Expr → Plan} {e : Expr} {t r : List ℕ} {o : Read Stmt} → ok (look t) ≡ false
      → Goes (whole 5) t (got e r)
      → Walks (f e) r o → Walks (either ok next f) t o
  bareless : {ok : ℕ → Bool} {next : ℕ → Plan} {f : Expr → Plan} {t r : List ℕ} → ok (look t) ≡ false → Goes (whole 5) t (stuck r)
      → Walks (either ok next f) t (stuck r)
  finishes : {t : List ℕ} {o : Read Stmt} {read : List ℕ → Read Stmt} → read t ≡ o → Walks (finish read) t o

-- what may stand behind an expression or a number: the end, or a byte that is no digit, no space and no operator
abbrev pub Behind : Plan → Type 0
Behind (done s) = Unit
Behind (fork end ok f) = (c : ℕ) → ok c ≡ true → (is_decimal c ≡ false) × ((eqb c 32 ≡ false) × (infix_of c ≡ none))
Behind (expression f) = ⊥
Behind (decimal most f) = ⊥
Behind (five f) = ⊥
Behind (either ok next f) = ⊥
Behind (finish read) = ⊥

-- a reader of all that is left: it leaves nothing; where it is stuck it took w, some text that it reads begins with w, and it is stuck
-- there in every text that begins alike
pub record Halts (read : List ℕ → Read Stmt) (t r : List ℕ) : Type 0 where
  pub w : List ℕ
  pub split : t ≡ w ++ r
  pub more : List ℕ
  pub line : Stmt
  pub good : read (w ++ more) ≡ got line []
  pub alike : (u : List ℕ) → Alike r u → read (w ++ u) ≡ stuck u

abbrev pub Finishes : (List ℕ → Read Stmt) → List ℕ → Read Stmt → Type 0
Finishes read t (got s r) = r ≡ []
Finishes read t (stuck r) = Halts read t r

-- from everywhere in the plan some line can be finished
unfoldable pub Alive : Plan → Type 0
Alive (done s) = Unit
Alive (fork (some s) ok f) = (c : ℕ) → ok c ≡ true → Alive (f c)
Alive (fork none ok f) = ((c : ℕ) × (ok c ≡ true)) × ((c : ℕ) → ok c ≡ true → Alive (f c))
Alive (expression f) = (e : Expr) → Behind (f e) × Alive (f e)
Alive (decimal most f) = (9 ≤ most) × ((n : ℕ) → Behind (f n) × Alive (f n))
Alive (five f) = (n : ℕ) → Alive (f n)
Alive (either ok next f) =
    (((c : ℕ) → ok c ≡ true → going.class_of c ≡ going.other) × (ok 0 ≡ false))
    × (((c : ℕ) → ok c ≡ true → Alive (next c)) × ((e : Expr) → Behind (f e) × Alive (f e)))
Alive (finish read) = ((t : List ℕ) × ((s : Stmt) × (read t ≡ got s []))) × ((t : List ℕ) → Finishes read t (read t))
