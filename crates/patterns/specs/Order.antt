-- The order of the patterns, and what is known of each.
use Rattle.std.specs.Prelude.{◌≡◌, true, ℕ, get_or}
use Rattle.rules.specs.Forms.{is_transfer}
use Rattle.rules.specs.Rewriting.{Pattern, inverted, trampoline, patterns}
use Rattle.slots.specs.Slots.{Agree}
use Rattle.patterns.specs.declared.Pattern.{Pattern as Tried}
use Rattle.patterns.specs.declared.Pattern.TheVariants.{Inverted, Trampoline}

-- pattern k; past the last one never asked
abbrev pub pattern_at : (k : ℕ) → Pattern
pattern_at k = get_or patterns k (trampoline 0)

-- what the code's pattern stands for
abbrev pub pattern_of : Tried → Pattern
pattern_of (Inverted from to) = inverted from to
pattern_of (Trampoline f) = trampoline f

-- a pattern's branch is a transfer, and where another form takes its place, that form fits there
abbrev pub Known : Pattern → Type 0
Known (inverted from to) = (is_transfer from ≡ true) × Agree to from
Known (trampoline f) = is_transfer f ≡ true
