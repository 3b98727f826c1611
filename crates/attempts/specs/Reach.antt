-- A target that is worth the same in every candidate, and a form that cannot have it.
use Rattle.std.specs.Prelude.{◌≡◌, false, List, ℕ, ◌+◌, ℤ, get_or, Ok}
use Rattle.rules.specs.declared.Kind.TheVariants.{Reg}
use Rattle.rules.specs.Answers.{is_ok}
use Rattle.rules.specs.Forms.{operands_at, size_at}
use Rattle.rules.specs.Programs.{Placeℕ, Addressℕ, Program}
use Rattle.rules.specs.Names.{Entry}
use Rattle.rules.specs.Judging.{worth_of}
use Rattle.slots.specs.Slots.{Slots, target_of}
use Rattle.image.specs.Encoding.{field_of}

-- the target that was written at place c is worth z, whatever names stand for and wherever statements lie
abbrev pub FixedAt : Slots → (c : Placeℕ) (z : ℤ) → Type 0
FixedAt t c z = (names : List Entry) (p : Program) (k : ℕ) → worth_of names p k (target_of t c) ≡ Ok z

-- form f at q refuses the target that slot i carries, in every program
abbrev pub OutOfReach : Slots → (q : Addressℕ) (f : ℕ) (i : Placeℕ) → Type 0
OutOfReach t q f i =
    (names : List Entry) (p : Program) (k : ℕ)
    → is_ok (field_of names p i k (q + size_at f) 0 (get_or (operands_at f) 0 Reg) (target_of t (get_or t.carry i 0))) ≡ false
