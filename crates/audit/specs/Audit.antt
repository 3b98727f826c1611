-- A shipped image held against what its long listing shrinks to: "same, or the first address that differs with both bytes and the statement and offset
-- there, or one longer than the other".
use Rattle.std.specs.Prelude.{List, [], ◌∷◌, cond, ℕ, suc, eqb, ltb, length, get_or}
use Rattle.std.proofs.Math.Option.{Option}
use Rattle.rules.specs.declared.Settings.{Settings}
use Rattle.rules.specs.Answers.{Judged, ok, ◌>>=◌}
use Rattle.rules.specs.Programs.{Addressℕ}
use Rattle.rules.specs.Layout.{Origin, origin_from}
use Rattle.rules.specs.Rewriting.{optimized}
use Rattle.rules.specs.Run.{rewritten}
use Rattle.starting.specs.Begun.{accepted}

-- how many bytes from the front on are the same in both
unfoldable pub alike : (wanted shipped : List ℕ) → ℕ
alike [] ys = 0
alike (x ∷ xs) [] = 0
alike (x ∷ xs) (y ∷ ys) = cond (eqb x y) (suc (alike xs ys)) 0

-- `wanted` is what the listing shrinks to. A byte belongs to a statement, by its place in the listing and the byte's offset in what became of it, or
-- to none: it is a gap that an org leaves
pub data Finding : Type 0 where
  same : Finding
  -- both have a byte at the address, and it is another
  differs : (a : Addressℕ) (wanted shipped : ℕ) (of : Option Origin) → Finding
  -- the shipped image ends at the address, where the wanted one has a byte
  short : (a : Addressℕ) (of : Option Origin) → Finding
  -- the wanted image ends at the address, where the shipped one has a byte
  long : (a : Addressℕ) → Finding

unfoldable pub held : (of : Addressℕ → Option Origin) (wanted shipped : List ℕ) → Finding
held of wanted shipped =
    let a : Addressℕ = alike wanted shipped in
    cond (ltb a (length wanted))
    (cond (ltb a (length shipped)) (differs a (get_or wanted a 0) (get_or shipped a 0) (of a)) (short a (of a)))
    (cond (ltb a (length shipped)) (long a) same)

-- "Refusals of the listing as `run` gives them", but for 12: no room is lent. The end form has a slot for each statement of the listing
unfoldable pub audit : Settings → (text shipped : List ℕ) → Judged Finding
audit asked text shipped = do
  p ← accepted text
  ok (held (λ a. origin_from 0 0 (optimized asked p).program a) (rewritten asked p).image shipped)
