-- What `readable` comes to, by each test in its order.
use mathlib.Core.Path.{◌≡◌, refl, sym, ap}
use mathlib.Core.List.{List}
use Prim.Native.Nat.{ℕ, ◌<◌, ◌≤◌}
use lib.ListN.{length}
use borrow.Author.Tests.{lt-leb, le-leb}
use Rattle.std.specs.Prelude.{Result, Err, Ok}
use Rattle.rules.specs.declared.Refusal.{Refusal}
use Rattle.rules.specs.declared.Refusal.TheVariants.{Room}
use Rattle.rules.specs.Answers.{Judged, ok, no, ◌>>=◌, require}
use Rattle.rules.specs.Programs.{Program}
use Rattle.rules.specs.Listing.{read_listing}
use Rattle.listing.specs.Tables.{input_of, Held, Holds, ListedAs}
use Rattle.readable.specs.Readable.{text_of, within, readable}

pub no_room : (p : Program) (room : ℕ) → room < length (text_of p) → within p room ≡ no (Room (length p))
unfolding within require
no_room p room h = rw (lt-leb (length (text_of p)) room h)

pub all_fits : (p : Program) (room : ℕ) → length (text_of p) ≤ room → within p room ≡ ok (text_of p)
unfolding within require
all_fits p room h = rw (le-leb (length (text_of p)) room h)

pub read_ok : (listing : List ℕ) (p : Program) (room : ℕ) → read_listing listing ≡ ok p → readable listing room ≡ within p room
unfolding readable ◌>>=◌
read_ok listing p room e = rw e

-- ---- what was read into the tables

module _ (listing frames starts : List ℕ) (room : ℕ) where
  pub read : (count : ℕ) (r : Result ℕ Refusal) → r ≡ Ok count → ListedAs frames starts r (read_listing listing)
      → Held frames starts count × (readable listing room ≡ within (input_of frames starts count) room)
  unfolding readable ◌>>=◌
  read count r e h = on (read_listing listing) refl h
    where
      on : (x : Judged Program) → read_listing listing ≡ x → ListedAs frames starts r x
          → Held frames starts count × (readable listing room ≡ within (input_of frames starts count) room)
      on (ok p) z h = let g : Holds frames starts count p = rw e at h in (g.held, rw z (ap (λ (q : Program). within q room) (sym g.input)))
      on (no q) z h = absurd (rw e at h)

  pub unread : (q : Refusal) (r : Result ℕ Refusal) → r ≡ Err q → ListedAs frames starts r (read_listing listing) → readable listing room ≡ no q
  unfolding readable ◌>>=◌
  unread q r e h = on (read_listing listing) refl h
    where
      on : (x : Judged Program) → read_listing listing ≡ x → ListedAs frames starts r x → readable listing room ≡ no q
      on (ok p) z h = absurd (rw e at h)
      on (no s) z h = let k : q ≡ s = rw e at h in rw z (sym (ap no k))
