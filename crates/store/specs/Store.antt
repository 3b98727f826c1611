-- Document 02, C-24: "Keep up to 32 settings in lent room, each under a two-byte family and edition number".
use Rattle.std.specs.Prelude.{List, [], ◌∷◌, map, Bool, true, false, ◌&&◌, ◌||◌, not, cond, ℕ, suc, max, leb, ltb, eqb, get_or}
use Rattle.std.proofs.Math.Option.{Option, none, some}
use Rattle.laws.specs.Lists.{every}
use Rattle.rules.specs.declared.Refusal.TheVariants.{Unknown, Full}
use Rattle.rules.specs.Answers.{Judged, ok, no, require}
use Rattle.store.specs.declared.Setting.{Setting}
use Rattle.store.specs.declared.Edition.{Edition}
use Rattle.store.specs.Switches.{settings_of}

-- the 32 places of a store, free ones too: an edition is numbered "from 1 on", so that of a free place is 0
abbrev pub Store : Type 0
Store = List Setting

abbrev pub free : Setting
free = record { family = 0; edition = 0; switches = 0 }

abbrev pub is_free : Setting → Bool
is_free s = eqb s.family 0 && (eqb s.edition 0 && eqb s.switches 0)

-- the setting of this family and edition
abbrev pub is_of : (f e : ℕ) → Setting → Bool
is_of f e s = eqb s.family f && eqb s.edition e

-- ---- 19: "a setting held twice or out of range there"

abbrev pub in_range : Setting → Bool
in_range s = is_free s || (leb 1 s.edition && ltb s.switches 8)

-- none of these places holds this family and edition
unfoldable pub none_holds : (f e : ℕ) → Store → Bool
none_holds f e ss = every (λ x. not (is_of f e x)) ss

-- no later place holds the family and edition of s, unless s is free
abbrev pub alone : Setting → Store → Bool
alone s ss = is_free s || none_holds s.family s.edition ss

unfoldable pub none_twice : Store → Bool
none_twice [] = true
none_twice (s ∷ ss) = alone s ss && none_twice ss

unfoldable pub is_good : Store → Bool
is_good ss = every (λ s. in_range s) ss && none_twice ss

-- ---- asking: "the newest can be asked for"

-- the switches of a family's edition
unfoldable pub find : (f e : ℕ) → Store → Option ℕ
find f e [] = none
find f e (s ∷ ss) = cond (is_of f e s) (some s.switches) (find f e ss)

-- a family's newest edition, or 0 where it has none
unfoldable pub newest : (f : ℕ) → Store → ℕ
newest f [] = 0
newest f (s ∷ ss) = cond (eqb s.family f) (max s.edition (newest f ss)) (newest f ss)

-- 17: "unknown family or edition"
abbrev pub known : (e : ℕ) → Option ℕ → Judged Edition
known e none = no Unknown
known e (some w) = ok (record { number = e; settings = settings_of w })

unfoldable pub get : (f e : ℕ) → Store → Judged Edition
get f e ss = require (leb 1 e) Unknown (known e (find f e ss))

unfoldable pub get_newest : (f : ℕ) → Store → Judged Edition
get_newest f ss = get f (newest f ss) ss

-- what stands at place k; behind the last nothing
abbrev pub place_at : (k : ℕ) → Store → Setting
place_at k ss = get_or ss k free

-- ---- adding: "a new edition, numbered one above the newest from 1 on"

unfoldable pub has_free : Store → Bool
has_free [] = false
has_free (s ∷ ss) = is_free s || has_free ss

-- in the first free place
unfoldable pub put : Setting → Store → Store
put x [] = []
put x (s ∷ ss) = cond (is_free s) (x ∷ ss) (s ∷ put x ss)

abbrev pub edition : (f w : ℕ) → Store → Setting
edition f w ss = record { family = f; edition = suc (newest f ss); switches = w }

unfoldable pub added : (f w : ℕ) → Store → Store
added f w ss = put (edition f w ss) ss

-- 18: "store full after reuse, or a family at edition 65,535"; the answer is the new edition's number
unfoldable pub add : (f : ℕ) → Store → Judged ℕ
add f ss = require (has_free ss && ltb (newest f ss) 65535) Full (ok (suc (newest f ss)))

-- ---- "Dropping old editions of a family gives their room back, and the newest stays."

abbrev pub is_old : (f top : ℕ) → Setting → Bool
is_old f top s = eqb s.family f && (leb 1 s.edition && ltb s.edition top)

abbrev pub cleared : (f top : ℕ) → Setting → Setting
cleared f top s = cond (is_old f top s) free s

unfoldable pub dropped : (f : ℕ) → Store → Store
dropped f ss = map (λ s. cleared f (newest f ss) s) ss

-- the answer is the number of the edition that stays
unfoldable pub drop_old : (f : ℕ) → Store → Judged ℕ
drop_old f ss = require (leb 1 (newest f ss)) Unknown (ok (newest f ss))
