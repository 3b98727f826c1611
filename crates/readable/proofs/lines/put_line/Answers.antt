-- `readable::lines::put_line` meets its contract: the line, and its line feed.
use mathlib.Core.Path.{◌≡◌, ap, ◌∙◌}
use mathlib.Core.List.{List, [], ◌∷◌, ◌++◌}
use Prim.Native.Nat.{ℕ, ◌+◌, ◌-◌, ◌≤◌}
use native.Mathlib.Omega.{arith}
use lib.ListN.{length, set, take}
use lib.Seq.{length-take-le}
use borrow.Rule.Slice.PartMut.{put_mid}
use Rattle.std.proofs.lemmas.List.{drop-drop}
use Rattle.listing.specs.Tables.{input_at}
use Rattle.digits.specs.Digits.{laid}
use Rattle.digits.proofs.Rooms.{length_laid, laid_one, laid_more}
use Rattle.readable.proofs.Turns.{length_line}
use Rattle.readable.proofs.lines.put_line.Goals as goal

-- what was written into the local room
module _ (w : goal.After-slice_known-2-1) where
  abbrev room : List ℕ
  room = w.line_at-n.new.room

  abbrev n : ℕ
  n = w.line_at-n.result

  has : length (take n room) ≡ n
  has = length-take-le n room (omega (arith, w.line_at-n.ensures.0.short, w.line_at-n.ensures.1))

  fits : w.args.at + (n + 1) ≤ length w.args.out.now
  fits =
      let a = w.args in
      omega (arith, w.line_at-n.ensures.0.ends, length_line (input_at a.frames.now a.starts.now a.i), w.requires.2)

-- a piece copied into its part of a room
laid_copied : (d x y : List ℕ) (a k : ℕ) → y ≡ x → length x ≡ k → put_mid a (a + k - a) d y ≡ laid d a x
unfolding laid
laid_copied d x y a k q e =
    let m : a + (a + k - a) ≡ a + length x = omega arith in
    rw (q, drop-drop (a + k - a) a d, m)

pub returns : goal.returns
returns c =
    let a = c.args in
    let e = c.line_at-n.ensures.0 in
    let x : List ℕ = take (n c) (room c) in
    let k : length x ≡ n c = has c in
    let f = fits c in
    let p : put_mid a.at (a.at + n c - a.at) a.out.now c.copy_from_slice.new.self ≡ laid a.out.now a.at x =
    laid_copied a.out.now x c.copy_from_slice.new.self a.at (n c) c.copy_from_slice.ensures.after k in (
      ap (λ (o : List ℕ). set o (a.at + n c) 10) p
          ∙ laid_one (laid a.out.now a.at x) (a.at + n c) 10 (omega (arith, length_laid a.out.now a.at x (omega arith)))
          ∙ laid_more a.out.now x (10 ∷ []) a.at (a.at + n c) (omega arith) (omega arith)
          ∙ ap (λ (t : List ℕ). laid a.out.now a.at (t ++ (10 ∷ []))) e.is,
      omega (arith, e.ends, length_line (input_at a.frames.now a.starts.now a.i)),
    )
