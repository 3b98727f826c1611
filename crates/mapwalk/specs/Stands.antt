-- The walk of an image by a map: no program is asked. At an address the decoder of C-21 reads whatever stands there; the map says what bytes cannot: where
-- instructions and data begin and end, under which address of the long image an event is told, which jumps leave for another memory, which targets are
-- computed with a label, and which operands are. Zeros outside the map decode to Nop: they are passed one by one, without a step and without an event.
use Rattle.std.specs.Prelude.{List, [], ◌∷◌, ◌⊎◌, ◌≡◌, Bool, false, cond, not, ◌&&◌, ◌||◌, ℕ, zero, suc, ◌+◌, ◌-◌, eqb, leb, ltb, length, get_or, drop, pos}
use Rattle.std.proofs.Math.Option.{Option, none, some}
use Rattle.rules.specs.Expressions.{num}
use Rattle.rules.specs.Forms.{size_at, operands_at}
use Rattle.rules.specs.Programs.{Addressℕ, Operand, value, last_of}
use Rattle.decoding.specs.Opcodes.{form_of_byte}
use Rattle.decoding.specs.Operands.{operands_from}
use Rattle.paths.specs.Walk.{Oracle, class, taken_on, event, in_data, inside, leaves, off_the_end, no_address, computed, Spot, here, done, State, start_at, Move, stop, acts, Walk, run}
use Rattle.paths.specs.SamePath.{Alike}
use Rattle.decoded.specs.Bytes.{spot_of}

-- what stands there: an instruction; one whose target is not followed, so that the walk ends where it goes there; a jump at which the walk ends; data
pub data Sort : Type 0 where
  as_code : Sort
  as_aside : Sort
  as_stop : Sort
  as_data : Sort

-- a row of the map, as one of the two images has it: from its first byte up to the one behind its last
pub record Stand : Type 0 where
  pub told : Addressℕ
  pub from : Addressℕ
  pub to : Addressℕ
  pub sort : Sort
  pub moving : List Bool

-- ---- where an address is

abbrev pub covers : (a : Addressℕ) → Stand → Bool
covers a s = leb s.from a && ltb a s.to

unfoldable pub covering : List Stand → (a : Addressℕ) → Option Stand
covering [] a = none
covering (s ∷ ss) a = cond (covers a s) (some s) (covering ss a)

-- a row ends above the address
unfoldable pub is_below : (a : Addressℕ) → List Stand → Bool
is_below a [] = false
is_below a (s ∷ ss) = ltb a s.to || is_below a ss

-- in a row; with nothing of the map at the address or above it; at a byte outside the map that is no Nop
pub data Found : Type 0 where
  standing : Stand → (offset : ℕ) → Found
  past : Found
  outside : Found

abbrev pub nop : ℕ
nop = 0x43

abbrev pub found_in : (a : Addressℕ) (rest : Found) → Option Stand → Found
found_in a rest none = rest
found_in a rest (some s) = standing s (a - s.from)

-- from address a on, over as many zeros as there may be
unfoldable pub seek : (fuel : ℕ) → List Stand → (image : List ℕ) → (a : Addressℕ) → Found
seek zero ss image a = past
seek (suc n) ss image a =
    found_in a (cond (is_below a ss) (cond (eqb (form_of_byte (get_or image a 0)) nop) (seek n ss image (suc a)) outside) past) (covering ss a)

-- "Positions reach at most 65,536"
abbrev pub memory : ℕ
memory = 65537

-- ---- one instruction

-- what is told of the operands: a number that moves with a label is left out
abbrev pub hidden : Operand
hidden = value (num (pos 0))

abbrev pub blanked : (moving : List Bool) → List Operand → List Operand
blanked [] xs = []
blanked (m ∷ ms) [] = []
blanked (m ∷ ms) (x ∷ xs) = cond m hidden x ∷ blanked ms xs

abbrev pub target_as : Sort → Operand → Spot
target_as as_code x = spot_of x
target_as as_aside x = done (computed 0 (num (pos 0)))
target_as as_stop x = spot_of x
target_as as_data x = spot_of x

abbrev pub decodes : Oracle → (image : List ℕ) → Stand → State → Move
decodes o image t s =
    let bytes : List ℕ = drop t.from image in
    let f : ℕ = form_of_byte (get_or bytes 0 0) in
    let held : List Operand = operands_from f bytes (t.from + size_at f) 0 (operands_at f) in
    cond (not (leb (t.from + size_at f) (length image))) (stop off_the_end)
    (acts o (class f) (event t.told f (blanked t.moving held)) (taken_on f) (t.from + size_at f) (target_as t.sort (last_of held)) s)

abbrev pub enters_as : Oracle → (image : List ℕ) → Stand → State → Sort → Move
enters_as o image t s as_code = decodes o image t s
enters_as o image t s as_aside = decodes o image t s
enters_as o image t s as_stop = stop (leaves t.told [])
enters_as o image t s as_data = stop (in_data t.told)

abbrev pub enters_found : Oracle → (image : List ℕ) → Found → State → Move
enters_found o image (standing t k) s = cond (eqb k 0) (enters_as o image t s t.sort) (stop (inside t.told k))
enters_found o image past s = stop off_the_end
enters_found o image outside s = stop no_address

abbrev pub steps_from : Oracle → List Stand → (image : List ℕ) → State → Spot → Move
steps_from o ss image s (here a) = enters_found o image (seek memory ss image a) s
steps_from o ss image s (done e) = stop e

unfoldable pub image_step : Oracle → List Stand → (image : List ℕ) → State → Move
image_step o ss image s = steps_from o ss image s s.spot

-- a walk of n steps at most from address a
unfoldable pub image_walk : Oracle → (n : ℕ) → List Stand → (image : List ℕ) → (a : Addressℕ) → Walk
image_walk o n ss image a = run (image_step o ss image) n (start_at a)

-- ---- the promise: two images and a map, its rows as each of the two has them. From address 0, and from each row that is left: there the long walk starts at
-- the address under which the row is told, and the short one where the row begins

abbrev pub Among : Stand → List Stand → Type 0
Among x [] = ⊥
Among x (y ∷ ys) = (x ≡ y) ⊎ Among x ys

pub record SameImages (longs shorts : List Stand) (long short : List ℕ) : Type 0 where
  pub from_zero : Alike (λ o n. image_walk o n longs long 0) (λ o n. image_walk o n shorts short 0)
  pub from_row : (x : Stand) → Among x shorts → Alike (λ o n. image_walk o n longs long x.told) (λ o n. image_walk o n shorts short x.from)
