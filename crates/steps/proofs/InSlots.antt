-- What stands in a slot, as the tables have it, and a rewrite as a line.
use mathlib.Core.Path.{◌≡◌, refl, sym, ap, ap₂, ◌∙◌}
use mathlib.Core.List.{[], ◌∷◌}
use mathlib.Core.Bool.{Bool, true, false}
use Prim.Native.Nat.{ℕ, ◌+◌, ◌-◌, ◌/◌, ◌%◌, ◌≤◌, ◌<◌}
use native.Mathlib.Omega.{arith}
use lib.ListN.{length, get_or}
use Rattle.laws.specs.Counts.{scan}
use Rattle.laws.proofs.Counts.{scan_starts, scan_hit, scan_miss, scan_end}
use Rattle.rules.specs.Programs.{Placeℕ, Stmt, Program, kind_of, at}
use Rattle.rules.specs.Output.{line_of}
use Rattle.rules.proofs.Laws.{by_instr, other}
use Rattle.listing.specs.Tables.{Held}
use Rattle.slots.specs.Slots.{Slots, slot_at, program_of}
use Rattle.env.proofs.Programs.{length_program}
use Rattle.patterns.proofs.Programs.{at_program, past_program}
use Rattle.patterns.proofs.Instructions.{slot_is}
use Rattle.digits.proofs.Rooms.{length_line}
use Rattle.steps.specs.declared.Seat.{Seat}
use Rattle.steps.specs.Steps.{seat_of, is_changed, changed_at, changed, rule_of, rule_byte, rewrite_at, rewrite_of, Rewrite, step_line}

-- ---- a slot
abbrev none : Seat
none = record { form = 70; carried = 0 }

module _ (t : Slots) (i : Placeℕ) where
  -- behind the last
  pub seat_past : t.count ≤ i → none ≡ seat_of (at (program_of t) i)
  seat_past l = sym (ap seat_of (past_program t i l))

  plain : (s : Stmt) → (kind_of s ≡ 1 → ⊥) → seat_of s ≡ none
  plain = by_instr (λ s. (kind_of s ≡ 1 → ⊥) → seat_of s ≡ none) (λ f xs c n. absurd (n refl)) (λ s e n. other none (λ x. record { form = x.form; carried = x.carried }) s e)

  -- no instruction
  pub seat_plain : i < t.count → (kind_of (slot_at t i) ≡ 1 → ⊥) → none ≡ seat_of (at (program_of t) i)
  seat_plain l n = sym (ap seat_of (at_program t i l) ∙ plain (slot_at t i) n)

  -- an instruction
  pub seat_instr : Held t.frames t.starts t.count → i < t.count → kind_of (slot_at t i) ≡ 1
      → record { form = get_or t.forms i 0; carried = get_or t.carry i 0 } ≡ seat_of (at (program_of t) i)
  seat_instr h l k = sym (ap seat_of (at_program t i l) ∙ ap seat_of (slot_is t h i l k))

-- ---- the search that stands at i
abbrev pub Searches : (t u : Slots) (i : ℕ) → Type 0
Searches t u i = changed (program_of t) (program_of u) ≡ scan (changed_at (program_of t) (program_of u)) (t.count - i) i

module _ (t u : Slots) where
  pub search_starts : Searches t u 0
  unfolding changed
  search_starts =
      let P = changed_at (program_of t) (program_of u) in
      ap (λ (k : ℕ). scan P k 0) (length_program t) ∙ scan_starts P t.count

  module _ (i : ℕ) (h : Searches t u i) where
    pub search_ends : t.count ≤ i → i ≡ changed (program_of t) (program_of u)
    search_ends l = sym (h ∙ scan_end _ t.count i l)

    module _ (l : i < t.count) (a b : Seat) (r : Bool) (e : r ≡ is_changed a b) (old : a ≡ seat_of (at (program_of t) i)) (new : b ≡ seat_of (at (program_of u) i)) where
      tested : changed_at (program_of t) (program_of u) i ≡ r
      tested = sym (e ∙ ap₂ is_changed old new)

      pub search_hits : r ≡ true → i ≡ changed (program_of t) (program_of u)
      search_hits z = sym (h ∙ scan_hit _ t.count i l (tested ∙ z))

      pub search_misses : r ≡ false → Searches t u (i + 1)
      search_misses z = h ∙ scan_miss _ t.count i l (tested ∙ z)

-- ---- the line
low : (n a b : ℕ) → n < 65536 → a ≡ n / 256 % 256 → b ≡ n % 256 → (a ≡ n / 256) × (b ≡ n % 256)
low n a b h e f = (omega arith, f)

pub line_is : (i r h l : ℕ) (old new : Seat) (a b c d x y : ℕ) → i < 65536 → r ≡ rule_byte (rule_of old.form new.form) → h ≡ i / 256 % 256 → l ≡ i % 256
    → (a ≡ old.carried) × (a < 65536) → (b ≡ new.carried) × (b < 65536) → c ≡ a / 256 % 256 → d ≡ a % 256 → x ≡ b / 256 % 256 → y ≡ b % 256
    → line_of (0x76 ∷ r ∷ h ∷ l ∷ old.form ∷ c ∷ d ∷ new.form ∷ x ∷ y ∷ []) ≡ step_line (rewrite_at i old new)
unfolding step_line
line_is i r h l old new a b c d x y k er eh el ea eb ec ed ex ey =
    let z = low i h l k eh el in
    let u = low a c d ea.1 ec ed in
    let v = low b x y eb.1 ex ey in
    rw (er, z.0, z.1, u.0, u.1, v.0, v.1, ea.0, eb.0)

pub length_step : (r : Rewrite) → length (step_line r) ≡ 21
unfolding step_line
length_step r = length_line _

-- ---- the rewrite that leads from p to q, by what the tables have
pub rewrite_told : (p q : Program) (i : Placeℕ) (a b : Seat) → i ≡ changed p q → a ≡ seat_of (at p i) → b ≡ seat_of (at q i) → rewrite_at i a b ≡ rewrite_of p q
unfolding rewrite_of
rewrite_told p q i a b e x y = ap₂ (rewrite_at i) x y ∙ ap (λ (k : ℕ). rewrite_at k (seat_of (at p k)) (seat_of (at q k))) e
