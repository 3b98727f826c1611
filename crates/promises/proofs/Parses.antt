-- An expression that is read takes as many bytes as it is written with, no more than there are and may be, and its numbers and names fit their fields.
use mathlib.Core.Path.{◌≡◌, refl}
use mathlib.Core.List.{List}
use mathlib.Core.Bool.{Bool, true, false, cond}
use Prim.Native.Nat.{ℕ, zero, suc, ◌+◌, ◌-◌, ◌*◌, ◌^◌, ◌≤◌, ◌<◌, min}
use native.Mathlib.Omega.{arith}
use lib.Dec.{leb, ltb}
use lib.ListN.{length, get_or, drop, length-drop, length-append}
use lib.Seq.{get_or-drop}
use mir.Syntax.{w32}
use mir.Val.{SFits}
use mir.Facts.{sfits_to_z}
use borrow.Author.Tests.{leb-true}
use Rattle.rules.specs.declared.Op1.{Op1}
use Rattle.rules.specs.declared.Op2.{Op2}
use Rattle.rules.specs.declared.Tag.{Tag}
use Rattle.rules.specs.declared.Tag.TheVariants.{Number, Name, Two, One, Bad}
use Rattle.rules.specs.Expressions.{Expr, num, name, two, one, Parsed, got, long, broken, tag_of, lack_of, need, number_of, name_of, one_more, two_more, then_second, by_tag, parse, read_expr, bytes_of}

-- ---- bytes, and trees that bytes can say
abbrev pub Bytes : List ℕ → Type 0
Bytes s = (i : ℕ) → get_or s i 0 < 256

pub bytes_drop : (n : ℕ) (s : List ℕ) → Bytes s → Bytes (drop n s)
bytes_drop n s h i = rw (get_or-drop n s i 0) (h (n + i))

-- numbers of 32 signed bits, names of 16
abbrev pub Fine : Expr → Type 0
Fine (num z) = SFits w32 z
Fine (name n) = n < 65536
Fine (two o e d) = Fine e × Fine d
Fine (one o e) = Fine e

-- ---- what a reading of s says, of which `room` bytes may be read, if it went well
pub record Taken-by (room : ℕ) (s : List ℕ) (e : Expr) (n : ℕ) : Type 0 where
  pub as_written : n ≡ length (bytes_of e)
  pub there : n ≤ length s
  pub allowed : n ≤ room
  pub fine : Bytes s → Fine e

abbrev pub Took : ℕ → List ℕ → Parsed → Type 0
Took room s (got e n) = Taken-by room s e n
Took room s long = Unit
Took room s broken = Unit

lacks : (room : ℕ) (s : List ℕ) → Took room s (lack_of room s)
lacks room s = on (ltb (length s) room)
  where
    on : (b : Bool) → Took room s (cond b broken long)
    on true = tt
    on false = tt

needs : (n room : ℕ) (s : List ℕ) (p : Parsed) → (n ≤ length s → n ≤ room → Took room s p) → Took room s (need n room s p)
needs n room s p h = on (leb n (min room (length s))) refl
  where
    on : (b : Bool) → leb n (min room (length s)) ≡ b → Took room s (cond b p (lack_of room s))
    on true e = let l = leb-true n (min room (length s)) e in h (omega arith) (omega arith)
    on false e = lacks room s

one_took : (o : Op1) (room : ℕ) (s : List ℕ) (p : Parsed) → 1 ≤ length s → 1 ≤ room → Took (room - 1) (drop 1 s) p → Took room s (one_more o p)
unfolding one_more bytes_of
one_took o room s (got e n) l m h =
    record {
      as_written = omega (arith, h.as_written);
      there = omega (arith, h.there, length-drop 1 s);
      allowed = omega (arith, h.allowed);
      fine = λ b. h.fine (bytes_drop 1 s b);
    }
one_took o room s long l m h = tt
one_took o room s broken l m h = tt

two_took : (o : Op2) (room : ℕ) (s : List ℕ) (e : Expr) (n : ℕ) (p : Parsed) → n ≡ length (bytes_of e) → (Bytes s → Fine e) → 1 + n ≤ length s → 1 + n ≤ room
    → Took (room - (1 + n)) (drop (1 + n) s) p → Took room s (two_more o e n p)
unfolding two_more bytes_of
two_took o room s e n (got d m) k f l r h =
    record {
      as_written = omega (arith, h.as_written, length-append (bytes_of e) (bytes_of d));
      there = omega (arith, h.there, length-drop (1 + n) s);
      allowed = omega (arith, h.allowed);
      fine = λ b. (f b, h.fine (bytes_drop (1 + n) s b));
    }
two_took o room s e n long k f l r h = tt
two_took o room s e n broken k f l r h = tt

second_took : (o : Op2) (rec : ℕ → List ℕ → Parsed) → ((room : ℕ) (s : List ℕ) → Took room s (rec room s)) → (room : ℕ) (s : List ℕ) (p : Parsed) → 1 ≤ length s → 1 ≤ room
    → Took (room - 1) (drop 1 s) p → Took room s (then_second o rec room s p)
unfolding then_second
second_took o rec below room s (got e n) l m h =
    two_took o room s e n (rec (room - (1 + n)) (drop (1 + n) s)) h.as_written (λ b. h.fine (bytes_drop 1 s b)) (omega (arith, h.there, length-drop 1 s)) (omega (arith, h.allowed))
    (below (room - (1 + n)) (drop (1 + n) s))
second_took o rec below room s long l m h = tt
second_took o rec below room s broken l m h = tt

number_fits : (s : List ℕ) → Bytes s → SFits w32 (number_of s)
number_fits s b =
    let n : ℕ = get_or s 1 0 * 16777216 + get_or s 2 0 * 65536 + get_or s 3 0 * 256 + get_or s 4 0 in
    let h : n < 2 ^ 32 = omega (arith, b 1, b 2, b 3, b 4) in
    sfits_to_z {n = n} (record { fits = h })

tag_took : (t : Tag) (rec : ℕ → List ℕ → Parsed) → ((room : ℕ) (s : List ℕ) → Took room s (rec room s)) → (room : ℕ) (s : List ℕ) → 1 ≤ length s → 1 ≤ room → Took room s (by_tag t rec room s)
unfolding by_tag bytes_of
tag_took Number rec below room s l m =
    needs 5 room s (got (num (number_of s)) 5) (λ h r. record { as_written = refl; there = h; allowed = r; fine = number_fits s })
tag_took Name rec below room s l m =
    needs 3 room s (got (name (name_of s)) 3) (λ h r. record { as_written = refl; there = h; allowed = r; fine = λ b. omega (arith, b 1, b 2) })
tag_took (Two o) rec below room s l m = second_took o rec below room s (rec (room - 1) (drop 1 s)) l m (below (room - 1) (drop 1 s))
tag_took (One o) rec below room s l m = one_took o room s (rec (room - 1) (drop 1 s)) l m (below (room - 1) (drop 1 s))
tag_took Bad rec below room s l m = tt

parse_took : (f room : ℕ) (s : List ℕ) → Took room s (parse f room s)
unfolding parse
parse_took zero room s = tt
parse_took (suc f) room s = on (leb 1 (min room (length s))) refl (parse_took f)
  where
    on : (b : Bool) → leb 1 (min room (length s)) ≡ b → ((room : ℕ) (s : List ℕ) → Took room s (parse f room s))
        → Took room s (cond b (by_tag (tag_of (get_or s 0 0)) (parse f) room s) (lack_of room s))
    on true e below = let l = leb-true 1 (min room (length s)) e in tag_took (tag_of (get_or s 0 0)) (parse f) below room s (omega arith) (omega arith)
    on false e below = lacks room s

-- of 32 bytes at most
pub read_expr_took : (s : List ℕ) → Took 32 s (read_expr s)
unfolding read_expr
read_expr_took s = parse_took 32 32 s
