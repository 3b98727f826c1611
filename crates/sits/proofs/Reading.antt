-- What the code finds in the tables is where statement n sits.
use mathlib.Core.Path.{◌≡◌, sym, ap}
use mathlib.Core.List.{List}
use Prim.Native.Nat.{ℕ}
use lib.ListN.{take}
use Rattle.std.specs.Prelude.{Result, Err, Ok}
use Rattle.rules.specs.declared.Refusal.{Refusal}
use Rattle.rules.specs.Answers.{Judged, ok, no, ◌>>=◌}
use Rattle.rules.specs.Programs.{Program}
use Rattle.rules.specs.Listing.{Line, lines_of, form_in, statement_lines, read_lines, read_listing}
use Rattle.listing.specs.Tables.{input_of, Held, Holds, ListedAs}
use Rattle.sits.specs.Before.{length_before}
use Rattle.sits.specs.Sits.{read_before, sits_among, sits}
use Rattle.sits.proofs.LinesBefore.{before_part}

-- the part before n, as a listing of its own
part_read : (text : List ℕ) (n : ℕ) → read_before n (lines_of text) ≡ read_listing (take (length_before n text) text)
unfolding read_before read_listing
part_read text n = ap (λ (ls : List Line). read_lines (form_in ls) 0 0 (statement_lines ls)) (sym (before_part n text))

module _ (text : List ℕ) (n : ℕ) (frames starts : List ℕ) where
  -- the tables hold the statements before n
  pub sits_read : (count : ℕ) (r : Result ℕ Refusal) → r ≡ Ok count → ListedAs frames starts r (read_listing (take (length_before n text) text))
      → Held frames starts count × (sits text n ≡ sits_among n (input_of frames starts count))
  unfolding sits ◌>>=◌
  sits_read count r e h = on (read_listing (take (length_before n text) text)) (part_read text n) h
    where
      on : (x : Judged Program) → read_before n (lines_of text) ≡ x → ListedAs frames starts r x
          → Held frames starts count × (sits text n ≡ sits_among n (input_of frames starts count))
      on (ok p) z h = let g : Holds frames starts count p = rw e at h in (g.held, rw z (ap (sits_among n) (sym g.input)))
      on (no q) z h = absurd (rw e at h)

  pub sits_unread : (q : Refusal) (r : Result ℕ Refusal) → r ≡ Err q → ListedAs frames starts r (read_listing (take (length_before n text) text))
      → sits text n ≡ no q
  unfolding sits ◌>>=◌
  sits_unread q r e h = on (read_listing (take (length_before n text) text)) (part_read text n) h
    where
      on : (x : Judged Program) → read_before n (lines_of text) ≡ x → ListedAs frames starts r x → sits text n ≡ no q
      on (ok p) z h = absurd (rw e at h)
      on (no s) z h = let k : q ≡ s = rw e at h in rw z (sym (ap no k))
