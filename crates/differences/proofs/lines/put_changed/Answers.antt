-- `put_changed` meets its contract: head, both frames and line feed, one behind the other. Assumes nothing.
use mathlib.Core.Path.{ap, ◌∙◌}
use mathlib.Core.List.{List, [], ◌∷◌, ◌++◌}
use Prim.Native.Nat.{ℕ}
use native.Mathlib.Omega.{arith}
use Rattle.rules.specs.Listing.{unhex}
use Rattle.rules.specs.Expressions.{pair}
use Rattle.rules.specs.Output.{line_of}
use Rattle.digits.specs.Digits.{laid}
use Rattle.differences.proofs.Pieces.{two_laid, two_head, count_byte}
use Rattle.differences.proofs.lines.put_changed.Goals as goal

pub returns : goal.returns
returns c =
    let u = c.put_text-2 in
    let t = c.put_text in
    let p = c.put_bytes in
    let n = c.low_byte-3 in
    let l' = c.low_byte-2 in
    let h' = c.high-2 in
    let l = c.low_byte in
    let h = c.high in
    let d = c.args.out.now in
    let old = c.args.old.now in
    let new = c.args.new.now in
    let both = unhex old ++ unhex new in (
      two_laid d p.new.out t.new.out u.new.out (0x73 ∷ h.result ∷ l.result ∷ h'.result ∷ l'.result ∷ n.result ∷ []) old new
          c.args.at _ _ _ c.requires.0 c.requires.1 p.ensures t.ensures u.ensures (omega arith) (omega arith) (omega arith)
          (omega (arith, c.requires.4))
          ∙ ap (λ (f : List ℕ). laid d c.args.at (line_of f))
          (two_head 0x73 h.result l.result h'.result l'.result c.args.i c.args.j (n.result ∷ both) h.ensures
          l.ensures
          h'.ensures l'.ensures)
          ∙ ap (λ (k : ℕ). laid d c.args.at (line_of (0x73 ∷ (pair c.args.i ++ (pair c.args.j ++ (k ∷ both))))))
          (n.ensures ∙ count_byte old c.requires.0),
      omega arith,
    )
