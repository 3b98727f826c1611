-- Document 01, "Values, names, places": the image by address. Each byte is looked up by its origin, on its own.
use Rattle.std.specs.Prelude.{◌≡◌, List, [], cond, ℕ, zero, suc, length, get_or, pos, Ok}
use Rattle.std.proofs.Math.Option.{Option, none, some}
use Rattle.laws.specs.Options.{is_some}
use Rattle.laws.specs.Counts.{tab}
use Rattle.rules.specs.declared.Settings.{Settings}
use Rattle.rules.specs.Answers.{ok, judged_or}
use Rattle.rules.specs.Programs.{Placeℕ, Addressℕ, Program}
use Rattle.rules.specs.Layout.{Origin, origin}
use Rattle.rules.specs.Judging.{names_of, judge}
use Rattle.rules.specs.Run.{rewritten}
use Rattle.promises.specs.Demand2.{output_program}
use Rattle.promises.specs.Faults.{encode_at}

-- the origin of an address: "a byte's origin is a statement place and an offset, never an address"
abbrev pub origin_at : Program → (a : Addressℕ) → Option Origin
origin_at p a = origin p (Ok (pos a))

-- the bytes that the statement at place i is encoded to
unfoldable pub encoding_of : Program → (i : Placeℕ) → List ℕ
encoding_of p i = judged_or (encode_at (names_of p) p i) []

-- byte o of the encoding of statement i where the origin is (i, o), and 0 where there is none: "gaps are zero"
abbrev pub byte_from : Program → Option Origin → ℕ
byte_from p none = 0
byte_from p (some g) = get_or (encoding_of p g.place) g.offset 0

unfoldable pub byte_at : Program → (a : Addressℕ) → ℕ
byte_at p a = byte_from p (origin_at p a)

-- "to the last byte of a statement that has bytes": behind the last of the first n addresses that has an origin; 0 where none has
unfoldable pub end_below : Program → (n : ℕ) → Addressℕ
end_below p zero = 0
end_below p (suc a) = cond (is_some (origin_at p a)) (suc a) (end_below p a)

-- "Positions reach at most 65,536"
unfoldable pub image_end : Program → Addressℕ
image_end p = end_below p 65536

-- "The image runs from 0 to the last byte of a statement that has bytes": its bytes at 0, 1, .. up to there
unfoldable pub image_by_address : Program → List ℕ
image_by_address p = tab (byte_at p) (image_end p)

-- ---- what is promised of it

-- the image that assembling gives is the one by address: byte by byte, to its end, as a whole
pub record ByAddress (p : Program) (image : List ℕ) : Type 0 where
  pub each_byte : (a : Addressℕ) → get_or image a 0 ≡ byte_at p a
  pub ends : length image ≡ image_end p
  pub whole : image ≡ image_by_address p

abbrev pub SameImage : Program → (image : List ℕ) → Type 0
SameImage p image = judge p ≡ ok image → ByAddress p image

-- "Who has read the shrunk code back?": both the input's image and the one that is handed out, each of its own statements
pub record BothImages (asked : Settings) (p : Program) (image : List ℕ) : Type 0 where
  pub input : ByAddress p image
  pub output : ByAddress (output_program asked p) (rewritten asked p).image
