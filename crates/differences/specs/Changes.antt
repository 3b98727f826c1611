-- Document 02, C-13: "Give exact differences of two listings: each statement kept, removed, added or changed, with its places and frames."
use Rattle.std.specs.Prelude.{List, [], ◌∷◌, ◌++◌, map, cond, ℕ, zero, suc, ◌+◌, ◌-◌, ◌*◌, eqb, length, get_or, take, drop}
use Rattle.std.proofs.Math.Option.{Option, none, some}
use Rattle.laws.specs.Lists.{each, same}
use Rattle.laws.specs.Options.{given, bind}
use Rattle.rules.specs.Expressions.{pair}
use Rattle.rules.specs.Programs.{Placeℕ}
use Rattle.rules.specs.Listing.{lines_of, unhex}
use Rattle.rules.specs.Output.{line_of}
use Rattle.pairing.specs.Pairings.{Frame, Frames, Pair}

-- i is a place of the first listing, j one of the second
pub data Change : Type 0 where
  kept : (i j : Placeℕ) (frame : Frame) → Change
  removed : (i : Placeℕ) (frame : Frame) → Change
  added : (j : Placeℕ) (frame : Frame) → Change
  changed : (i j : Placeℕ) (old new : Frame) → Change

-- two statements that are paired: "paired unequal frames are \"changed\""; frames are compared whole, their source lines included
abbrev pub paired : (i j : Placeℕ) (old new : Frame) → Change
paired i j old new = cond (same old new) (kept i j new) (changed i j old new)

-- n statements from a place on, all removed or all added
unfoldable pub removed_from : (a : Frames) (n : ℕ) (i : Placeℕ) → List Change
removed_from a zero i = []
removed_from a (suc n) i = removed i (get_or a i []) ∷ removed_from a n (suc i)

unfoldable pub added_from : (b : Frames) (n : ℕ) (j : Placeℕ) → List Change
added_from b zero j = []
added_from b (suc n) j = added j (get_or b j []) ∷ added_from b n (suc j)

-- "Order is kept; between pairs, removed ones come before added ones", before the first pair and behind the last one too: the
-- differences of a from place i on and b from place j on
unfoldable pub between : (a b : Frames) (i j : Placeℕ) → List Pair → List Change
between a b i j [] = removed_from a (length a - i) i ++ added_from b (length b - j) j
between a b i j (p ∷ ps) =
    removed_from a (p.first - i) i
    ++ (added_from b (p.second - j) j
    ++ (paired p.first p.second (get_or a p.first []) (get_or b p.second [])
    ∷ between a b (suc p.first) (suc p.second) ps))

unfoldable pub changes_of : (a b : Frames) → List Pair → List Change
changes_of a b ps = between a b 0 0 ps

-- the next statement of the first, which has to be the one that is mentioned
abbrev pub taking : Frame → Frames → (Frames → Option Frames) → Option Frames
taking f [] go = none
taking f (x ∷ a) go = given (same f x) (go a)

abbrev pub onto : Frame → Option Frames → Option Frames
onto f o = bind o (λ b. some (f ∷ b))

-- "Applying the differences to the first": a kept statement is taken from it, a removed one is left out, an added one is put in, a
-- changed one is put for the one that stands there. They are no differences of it where a statement is not mentioned
unfoldable pub apply : List Change → Frames → Option Frames
apply [] [] = some []
apply [] (x ∷ a) = none
apply (kept i j f ∷ ds) a = taking f a (λ rest. onto f (apply ds rest))
apply (removed i f ∷ ds) a = taking f a (λ rest. apply ds rest)
apply (added j f ∷ ds) a = onto f (apply ds a)
apply (changed i j old new ∷ ds) a = taking old a (λ rest. onto new (apply ds rest))

-- ---- the differences as text, one a line: 70 kept, place, place, frame; 71 removed, place, frame; 72 added, place, frame; 73 changed,
-- place, place, the count of the old frame's bytes in one byte, the old frame, the new frame

abbrev pub bytes_of : Change → List ℕ
bytes_of (kept i j f) = 0x70 ∷ (pair i ++ (pair j ++ f))
bytes_of (removed i f) = 0x71 ∷ (pair i ++ f)
bytes_of (added j f) = 0x72 ∷ (pair j ++ f)
bytes_of (changed i j old new) = 0x73 ∷ (pair i ++ (pair j ++ (length old ∷ (old ++ new))))

unfoldable pub text_of : List Change → List ℕ
text_of ds = each (λ d. line_of (bytes_of d)) ds

-- ---- and read again, from the bytes that were handed out

-- two bytes from byte k on
abbrev pub two_at : (s : List ℕ) (k : ℕ) → ℕ
two_at s k = get_or s k 0 * 256 + get_or s (k + 1) 0

unfoldable pub change_in : (s : List ℕ) → Change
change_in s =
    cond (eqb (get_or s 0 0) 0x70) (kept (two_at s 1) (two_at s 3) (drop 5 s))
    (cond (eqb (get_or s 0 0) 0x71) (removed (two_at s 1) (drop 3 s))
    (cond (eqb (get_or s 0 0) 0x72) (added (two_at s 1) (drop 3 s))
    (changed (two_at s 1) (two_at s 3) (take (get_or s 5 0) (drop 6 s)) (drop (get_or s 5 0) (drop 6 s)))))

unfoldable pub changes_in : (text : List ℕ) → List Change
changes_in text = map (λ l. change_in (unhex l.chars)) (lines_of text)
