-- The image of a program's slots, and what stands in a room once bytes were written there.
use Rattle.std.specs.Prelude.{List, [], ◌++◌, ℕ, ◌+◌, get_or, length, take, drop}
use Rattle.rules.specs.Answers.{judged_or}
use Rattle.rules.specs.Programs.{Placeℕ, Addressℕ, byte_count}
use Rattle.slots.specs.Slots.{slot_at}
use Rattle.image.specs.declared.data.Data.{Data}
use Rattle.image.specs.declared.data.Data.TheVariants.{Bytes, Words}
use Rattle.image.specs.Tables.{Tables}
use Rattle.image.specs.Encoding.{encode_slots}

-- asked only of slots that encode
unfoldable pub image_of : Tables → List ℕ
image_of d = judged_or (encode_slots d) []

-- the room, with bytes b from address q on
abbrev pub put : (room : List ℕ) (q : Addressℕ) (b : List ℕ) → List ℕ
put room q b = take q room ++ b ++ drop (q + length b) room

-- how many bytes the statement in slot i has
abbrev pub size_of : Tables → (i : Placeℕ) → ℕ
size_of d i = byte_count (get_or d.positions i 0) (slot_at d.slots i)

-- how many bytes an item of data has
abbrev pub width_of : Data → ℕ
width_of Bytes = 1
width_of Words = 2
