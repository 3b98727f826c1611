-- `standing::put_comment` meets its contract: the comment is laid in a room of its own, and its digits in the listing. Assumes nothing.
use mathlib.Core.Path.{◌≡◌, sym, ap, ◌∙◌}
use mathlib.Core.List.{List}
use Prim.Native.Nat.{ℕ, ◌+◌, ◌≤◌}
use native.Mathlib.Omega.{arith}
use lib.ListN.{length, take, length-take}
use lib.Seq.{length-take-le}
use Rattle.rules.specs.Programs.{comment}
use Rattle.rules.specs.Output.{frame_in, line_of}
use Rattle.listing.specs.Form.{form_of}
use Rattle.listing.specs.Lines.{first_line}
use Rattle.digits.specs.Digits.{laid}
use Rattle.digits.proofs.Rooms.{length_line}
use Rattle.lines.proofs.Comments.{comment_length, kept_chars, frame_room, frame_laid}
use Rattle.lines.proofs.standing.put_comment.Goals as goal

abbrev chars : (k : goal.After-frame-1) → List ℕ
chars k = (first_line k.args.line.now).chars

abbrev chars_2 : (k : goal.After-put_line-arg-1) → List ℕ
chars_2 k = (first_line k.args.line.now).chars

abbrev chars_3 : (k : goal.After-frame-3-1) → List ℕ
chars_3 k = (first_line k.args.line.now).chars

small : (k : goal.After-frame-1) → k.kept-k.result ≤ 119
small k = omega (arith, k.kept-k.ensures.0, length-take 119 (chars k))

small_2 : (k : goal.After-put_line-arg-1) → k.kept-k.result ≤ 119
small_2 k = omega (arith, k.kept-k.ensures.0, length-take 119 (chars_2 k))

small_3 : (k : goal.After-frame-3-1) → k.kept-k.result ≤ 119
small_3 k = omega (arith, k.kept-k.ensures.0, length-take 119 (chars_3 k))

pub put_text-requires : goal.put_text-requires
put_text-requires c =
    omega (arith, small c, c.line_bytes-from.ensures.1, length-take-le c.kept-k.result c.args.line.now c.kept-k.ensures.1)

pub slice_bounds-frame-end : goal.slice_bounds-frame-end
slice_bounds-frame-end c =
    omega (arith, small_2 c, c.line_bytes-from.ensures.1, c.put_text.auto.out)

pub slice_bounds-put_line-end : goal.slice_bounds-put_line-end
slice_bounds-put_line-end c =
    sym (length-take-le _ c.put_text.new.out (omega (arith, small_3 c, c.line_bytes-from.ensures.1, c.put_text.auto.out)))

pub put_line-requires : goal.put_line-requires
put_line-requires c =
    let w = form_of c.args.marked in
    let x = take 119 (chars_3 c) in
    let n = length-take-le (1 + c.line_bytes-from.result + c.kept-k.result) c.put_text.new.out
    (omega (arith, small_3 c, c.line_bytes-from.ensures.1, c.put_text.auto.out)) in
    omega (arith, c.requires.1, length_line (frame_in w 0 (comment x)), comment_length w x, c.line_bytes-from.ensures.0, c.kept-k.ensures.0)

pub returns : goal.returns
returns c =
    let w = form_of c.args.marked in
    let x = take c.kept-k.result c.args.line.now in
    let n : length x ≡ c.kept-k.result = length-take-le c.kept-k.result c.args.line.now c.kept-k.ensures.1 in
    let frame : take (1 + c.line_bytes-from.result + c.kept-k.result) c.put_text.new.out ≡ frame_in w 0 (comment x) =
    ap (take (1 + c.line_bytes-from.result + c.kept-k.result)) c.put_text.ensures
    ∙ ap (λ (m : ℕ). take (1 + c.line_bytes-from.result + m) (laid frame_room (1 + c.line_bytes-from.result) x)) (sym n)
    ∙ frame_laid w c.line_bytes-from.result x c.line_bytes-from.ensures.0 in
    c.put_line.ensures
    ∙ ap (λ (f : List ℕ). laid c.args.out.now c.args.at (line_of f))
    (frame ∙ ap (λ (y : List ℕ). frame_in w 0 (comment y)) (kept_chars c.args.line.now c.requires.0 c.kept-k.result c.kept-k.ensures.0))
