-- What the code says of the walk over an image.
use Rattle.std.specs.Prelude.{◌≡◌, List, ℕ, ◌+◌, ◌≤◌, length, drop}
use Rattle.rules.specs.Programs.{Addressℕ, Stmt, Program, byte_count}
use Rattle.rules.specs.Layout.{after}
use Rattle.rules.specs.Output.{frame_of}
use Rattle.readback.specs.declared.frames.Step.{Step}
use Rattle.readback.specs.declared.walks.Extent.{Extent}
use Rattle.readback.specs.ReadBack.{read_one, read_all, listing_of}

-- the statement of an image at q, and all from q on. Their places count for nothing here: no frame has one
abbrev pub first_on : (image : List ℕ) (q : Addressℕ) → Stmt
first_on image q = read_one 0 q (drop q image)

abbrev pub all_on : (image : List ℕ) (q : Addressℕ) → Program
all_on image q = read_all 0 q (drop q image)

-- the statement at q: how many bytes it takes, and how many its frame has
pub record StepAt (image : List ℕ) (q : Addressℕ) (r : Step) : Type 0 where
  pub takes : byte_count q (first_on image q) ≡ r.0
  pub goes_on : after q (first_on image q) ≡ q + r.0
  pub some : 1 ≤ r.0
  pub there : q + r.0 ≤ length image
  pub frame : length (frame_of (first_on image q)) ≡ r.1
  pub short : r.1 ≤ 17

-- statements: how many, and how many characters their listing has
pub record ExtentOf (p : Program) (r : Extent) : Type 0 where
  pub count : r.0 ≡ length p
  pub length_is : r.1 ≡ length (listing_of p)
