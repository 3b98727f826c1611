-- `why::lines::put_why` meets its contract: thirteen bytes in a line.
use mathlib.Core.Path.{◌≡◌, ap, ◌∙◌}
use mathlib.Core.List.{List, ◌∷◌, ◌++◌}
use Prim.Native.Nat.{ℕ, ◌/◌, ◌%◌, ◌^◌, ◌<◌}
use lib.ListN.{get_or}
use mir.Syntax.{w32}
use mir.Val.{of_z, SFits}
use mir.Facts.{to_z-of_z, Fits-of_z}
use borrow.Author.Rules.{rules}
use Rattle.rules.specs.Refusals.{Fault}
use Rattle.rules.specs.Expressions.{pair, four}
use Rattle.rules.specs.Output.{line_of}
use Rattle.digits.specs.Digits.{laid}
use Rattle.fault.proofs.Told.{fault_given}
use Rattle.staying.specs.Reasons.{attempt_at}
use Rattle.staying.specs.Lines.{attempt_byte, reason_byte, fault_bytes, why_line}
use Rattle.why.proofs.Bytes.{why_bytes}
use Rattle.why.proofs.lines.put_why.Goals as goal

pub returns : goal.returns
unfolding why_line
returns c =
    let out = c.args.out.now in
    let at = c.args.at in
    let i = c.args.m / 26 in
    let t = attempt_byte (attempt_at (c.args.m % 26)) in
    let kind = reason_byte c.args.reason in
    let g = c.fault_in-f.result in
    let b = c.bits.result in
    let fit : SFits w32 g.amount = search (rules, c.struct_told-1.given, c.struct_known-1.given) in
    let k : b ≡ of_z w32 g.amount = c.bits.ensures ∙ ap (of_z w32) (to_z-of_z fit) in
    let m : b < 2 ^ 32 = rw k (Fits-of_z fit).fits in
    let part = λ (j : ℕ). ap (λ (l : List ℕ). get_or l j 0) c.to_be_bytes.ensures in
    c.put_line.ensures
    ∙ ap (λ (x : List ℕ). laid out at (line_of x))
    (why_bytes t i kind g.number g.place g.argument b _ _ _ _ _ _ _ _ _ _ _ c.requires.1 m c.attempt_byte.ensures c.low_byte.ensures
    c.low_byte-2.ensures
    c.reason_byte.ensures c.low_byte-3.ensures c.low_byte-4.ensures c.low_byte-5.ensures (part 0) (part 1) (part 2) (part 3))
    ∙ ap (λ (n : ℕ). laid out at
    (line_of (0x75 ∷ t ∷ (pair i ++ (kind ∷ (g.number ∷ (pair (g.place % 65536) ++ (g.argument % 256 ∷ four n)))))))) k
    ∙ ap (λ (x : Fault). laid out at (line_of (0x75 ∷ t ∷ (pair i ++ (kind ∷ fault_bytes x))))) (fault_given g _ c.fault_in-f.ensures)
