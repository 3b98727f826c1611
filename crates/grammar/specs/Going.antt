-- How the reader of C-19 goes over an expression, byte by byte with one byte of look-ahead. The words of the code's contracts:
-- `Goes m t o` says that reading the text t in mode m comes to o. That this is the grammar of Reading.antt, and that it gets stuck at the right
-- byte, is proved.
use Rattle.std.specs.Prelude.{◌≡◌, List, [], ◌∷◌, Bool, true, false, ◌&&◌, cond, not, ℕ, zero, suc, ◌+◌, ◌-◌, ◌*◌, leb, eqb, pos, neg_ℤ, drop}
use Rattle.std.proofs.Math.Option.{Option, none, some}
use Rattle.rules.specs.declared.Op1.{Op1}
use Rattle.rules.specs.declared.Op1.TheVariants.{Negate, Upper, Lower}
use Rattle.rules.specs.declared.Op2.{Op2}
use Rattle.rules.specs.declared.Op2.TheVariants.{Plus, Minus, Times, Divide, Xor, And, Or}
use Rattle.rules.specs.Expressions.{Expr, num, name, two, one}
use Rattle.text.specs.Text.{tens}
use Rattle.grammar.specs.Reading.{is_decimal, look, level_of}

-- what was read and the text behind it; or the text from the byte on that no good line could have there
pub data Read (A : Type 0) : Type 0 where
  got : A → List ℕ → Read A
  stuck : List ℕ → Read A

abbrev pub on_got : {A B : Type 0} → (A → B) → Read A → Read B
on_got f (got a r) = got (f a) r
on_got f (stuck r) = stuck r

-- ---- numbers and names

-- the digits that t begins with, v before them, while the number stays at most `most`
unfoldable pub digits : (most v : ℕ) → List ℕ → Read ℕ
digits most v [] = got v []
digits most v (d ∷ t) =
    cond (is_decimal d) (cond (leb (10 * v + (d - 48)) most) (digits most (10 * v + (d - 48)) t) (stuck (d ∷ t))) (got v (d ∷ t))

-- k digits, v before them, that can still be a number of at most `most`
unfoldable pub fixed : (most k v : ℕ) → List ℕ → Read ℕ
fixed most zero v t = got v t
fixed most (suc k) v [] = stuck []
fixed most (suc k) v (d ∷ t) =
    cond (is_decimal d && leb ((10 * v + (d - 48)) * tens k) most) (fixed most k (10 * v + (d - 48)) t) (stuck (d ∷ t))

unfoldable pub local : List ℕ → Read Expr
local [] = stuck []
local (c ∷ t) = cond (eqb c 108) (on_got (λ n. name (0x8000 + n)) (fixed 32767 5 0 t)) (stuck (c ∷ t))

-- ---- what an operand begins with

unfoldable pub skip : List ℕ → List ℕ
skip [] = []
skip (c ∷ t) = cond (eqb c 32) (skip t) (c ∷ t)

pub data Class : Type 0 where
  digit : Class
  minus : Class
  global : Class
  dot : Class
  bracket : Class
  upper : Class
  lower : Class
  space : Class
  other : Class

unfoldable pub class_of : ℕ → Class
class_of c =
    cond (is_decimal c) digit
    (cond (eqb c 45) minus
    (cond (eqb c 103) global
    (cond (eqb c 46) dot
    (cond (eqb c 40) bracket
    (cond (eqb c 62) upper
    (cond (eqb c 60) lower
    (cond (eqb c 32) space
    other)))))))

-- a number or a name; a parenthesis; a sign and the text behind it; or the text from the byte on that no operand could have there
pub data Start : Type 0 where
  leaf : Read Expr → Start
  paren : Start
  sign : Op1 → List ℕ → Start
  nothing : List ℕ → Start

-- behind spaces: only a prefix sign. A minus that touches a digit is none, and the digit is the byte
abbrev pub led_by : Class → ℕ → List ℕ → Start
led_by digit c t = nothing (c ∷ t)
led_by minus c t = cond (is_decimal (look t)) (nothing t) (sign Negate t)
led_by global c t = nothing (c ∷ t)
led_by dot c t = nothing (c ∷ t)
led_by bracket c t = nothing (c ∷ t)
led_by upper c t = sign Upper t
led_by lower c t = sign Lower t
led_by space c t = nothing (c ∷ t)
led_by other c t = nothing (c ∷ t)

unfoldable pub led : List ℕ → Start
led [] = nothing []
led (c ∷ t) = led_by (class_of c) c t

abbrev pub start_by : Class → ℕ → List ℕ → Start
start_by digit c t = leaf (on_got (λ v. num (pos v)) (digits 2147483647 0 (c ∷ t)))
start_by minus c t = cond (is_decimal (look t)) (leaf (on_got (λ v. num (neg_ℤ (pos v))) (digits 2147483648 0 t))) (sign Negate t)
start_by global c t = leaf (on_got (λ n. name n) (fixed 32767 5 0 t))
start_by dot c t = leaf (local t)
start_by bracket c t = paren
start_by upper c t = sign Upper t
start_by lower c t = sign Lower t
start_by space c t = led (skip t)
start_by other c t = nothing (c ∷ t)

unfoldable pub start : List ℕ → Start
start [] = nothing []
start (c ∷ t) = start_by (class_of c) c t

-- ---- operators

-- the infix operator that a byte is, and the one of level l
unfoldable pub infix_of : ℕ → Option Op2
infix_of c =
    cond (eqb c 42) (some Times)
    (cond (eqb c 47) (some Divide)
    (cond (eqb c 43) (some Plus)
    (cond (eqb c 45) (some Minus)
    (cond (eqb c 38) (some And)
    (cond (eqb c 94) (some Xor)
    (cond (eqb c 124) (some Or)
    none))))))

abbrev pub at_level : ℕ → Option Op2 → Option Op2
at_level l none = none
at_level l (some o) = cond (eqb (level_of o) l) (some o) none

abbrev pub op_at : (l c : ℕ) → Option Op2
op_at l c = at_level l (infix_of c)

abbrev pub is_some : Option Op2 → Bool
is_some none = false
is_some (some o) = true

-- spaces after an operand: only an operator may follow them
abbrev pub gap : Expr → List ℕ → Read Expr
gap e r = cond (eqb (look r) 32 && not (is_some (infix_of (look (skip r))))) (stuck (skip r)) (got e (skip r))

-- the closing parenthesis
abbrev pub close : Read Expr → Read Expr
close (got e r) = cond (eqb (look r) 41) (got e (drop 1 r)) (stuck r)
close (stuck r) = stuck r

-- ---- the readers: of an operand alone; of an expression of level l with the spaces after it; of what follows e in a chain of level l + 1
pub data Mode : Type 0 where
  alone : Mode
  whole : ℕ → Mode
  rest : ℕ → Expr → Mode

pub data Goes : Mode → List ℕ → Read Expr → Type 0 where
  leafs : {t : List ℕ} {o : Read Expr} → start t ≡ leaf o → Goes alone t o
  opens : {t : List ℕ} {o : Read Expr} → start t ≡ paren → Goes (whole 5) (drop 1 t) o → Goes alone t (close o)
  signs : {t r : List ℕ} {o : Read Expr} (s : Op1) → start t ≡ sign s r → Goes alone (skip r) o → Goes alone t (on_got (one s) o)
  nones : {t r : List ℕ} → start t ≡ nothing r → Goes alone t (stuck r)
  ends : {t r : List ℕ} {e : Expr} → Goes alone t (got e r) → Goes (whole 0) t (gap e r)
  fails : {t r : List ℕ} → Goes alone t (stuck r) → Goes (whole 0) t (stuck r)
  firsts : {t r : List ℕ} {e : Expr} {o : Read Expr} {l : ℕ} → Goes (whole l) t (got e r) → Goes (rest l e) r o → Goes (whole (suc l)) t o
  sinks : {t r : List ℕ} {l : ℕ} → Goes (whole l) t (stuck r) → Goes (whole (suc l)) t (stuck r)
  stops : {r : List ℕ} {e : Expr} {l : ℕ} → op_at (suc l) (look r) ≡ none → Goes (rest l e) r (got e r)
  agains : {r q : List ℕ} {e d : Expr} {l : ℕ} {o : Read Expr} (p : Op2) → op_at (suc l) (look r) ≡ some p
      → Goes (whole l) (skip (drop 1 r)) (got d q)
      → Goes (rest l (two p e d)) q o → Goes (rest l e) r o
  breaks : {r q : List ℕ} {e : Expr} {l : ℕ} (p : Op2) → op_at (suc l) (look r) ≡ some p → Goes (whole l) (skip (drop 1 r)) (stuck q)
      → Goes (rest l e) r (stuck q)
