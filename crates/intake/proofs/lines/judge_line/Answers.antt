-- `lines::judge_line` meets its contract: each answer is what the definition says of the line, in its order. Assumes nothing.
use mathlib.Core.Path.{◌≡◌, sym, subst}
use mathlib.Core.List.{List}
use Prim.Native.Nat.{ℕ, ◌≤◌, ◌<◌}
use native.Mathlib.Omega.{arith}
use lib.IntN.{ℤ}
use lib.ListN.{take}
use lib.Seq.{length-take-le}
use mir.Syntax.{w32}
use mir.Val.{to_z}
use mir.Facts.{to_z_pos}
use Rattle.rules.specs.declared.Refusal.TheVariants.{Column}
use Rattle.rules.specs.Answers.{at_place, no}
use Rattle.listing.specs.Lines.{line_length, first_line}
use Rattle.listing.proofs.FirstLine.{line_within}
use Rattle.grammar.specs.Reading.{WrongAt}
use Rattle.people.specs.Reading.{Answers}
use Rattle.intake.specs.Intake as intake
use Rattle.intake.specs.Intake.{Judges}
use Rattle.intake.proofs.Judging.{wide, wrong, unended, over, full, framed}
use Rattle.intake.proofs.lines.judge_line.Goals as goal

-- a column lies in its line
stuck : (t : List ℕ) (n : ℕ) → n ≡ line_length t → n ≤ 1024 → (c : ℕ) → WrongAt (take n t) c → c ≤ 1024
stuck t n is short c w = omega (arith, w.within, short, length-take-le n t (omega (arith, is, line_within t)))

-- a column as the code holds it
told : (t : List ℕ) (i sum c : ℕ) → c ≤ 1024 → Judges i sum (first_line t) (no (Column (at_place i) (lib.IntN.pos c)))
    → Judges i sum (first_line t) (no (Column (at_place i) (to_z w32 c)))
told t i sum c h j = subst (λ (z : ℤ). Judges i sum (first_line t) (no (Column (at_place i) z))) (sym (to_z_pos w32 {n = c} (omega arith)))
    j

pub returns-then-i-ge1024 : goal.returns-then-i-ge1024
returns-then-i-ge1024 c = intake.many (omega (arith, c.if-i-ge1024.true))

pub returns-then-n-gt1024 : goal.returns-then-n-gt1024
returns-then-n-gt1024 c =
    let a = c.args in
    let l = c.line_length-n in
    wide a.text.now a.i a.sum l.result l.ensures (omega (arith, c.if-i-ge1024.false)) (omega (arith, c.if-n-gt1024.true))

pub slice_bounds-read_line-end : goal.slice_bounds-read_line-end
slice_bounds-read_line-end c =
    let l = c.line_length-n in
    let t = c.args.text.now in
    sym (length-take-le l.result t (omega (arith, l.ensures, line_within t)))

pub returns-then-n-text : goal.returns-then-n-text
returns-then-n-text c =
    let a = c.args in
    let t = a.text.now in
    let l = c.line_length-n in
    let few : a.i < 1024 = omega (arith, c.if-i-ge1024.false) in
    let short : l.result ≤ 1024 = omega (arith, c.if-n-gt1024.false) in
    let w = subst (λ x. Answers (take l.result t) c.read_line.new.out x) c.in-Ok.is c.read_line.ensures in
    told t a.i a.sum l.result short
    (unended t a.i a.sum l.result l.ensures few short c.read_line.new.out c.in-Ok.to w c.if-n-text.true)

pub returns-then-to-gt120 : goal.returns-then-to-gt120
returns-then-to-gt120 c =
    let a = c.args in
    let t = a.text.now in
    let l = c.line_length-n in
    let few : a.i < 1024 = omega (arith, c.if-i-ge1024.false) in
    let short : l.result ≤ 1024 = omega (arith, c.if-n-gt1024.false) in
    let w = subst (λ x. Answers (take l.result t) c.read_line.new.out x) c.in-Ok.is c.read_line.ensures in
    over t a.i a.sum l.result l.ensures few short c.read_line.new.out c.in-Ok.to w c.if-n-text.false c.if-to-gt120.true

pub returns-then-sum-to-gt49152 : goal.returns-then-sum-to-gt49152
returns-then-sum-to-gt49152 c =
    let a = c.args in
    let t = a.text.now in
    let l = c.line_length-n in
    let few : a.i < 1024 = omega (arith, c.if-i-ge1024.false) in
    let short : l.result ≤ 1024 = omega (arith, c.if-n-gt1024.false) in
    let w = subst (λ x. Answers (take l.result t) c.read_line.new.out x) c.in-Ok.is c.read_line.ensures in
    full t a.i a.sum l.result l.ensures few short c.read_line.new.out c.in-Ok.to w c.if-n-text.false
    (omega (arith, c.if-to-gt120.false)) c.if-sum-to-gt49152.true

pub returns-in-Err : goal.returns-in-Err
returns-in-Err c =
    let a = c.args in
    let t = a.text.now in
    let l = c.line_length-n in
    let few : a.i < 1024 = omega (arith, c.if-i-ge1024.false) in
    let short : l.result ≤ 1024 = omega (arith, c.if-n-gt1024.false) in
    let x = c.in-Err.c in
    let w = subst (λ x. Answers (take l.result t) c.read_line.new.out x) c.in-Err.is c.read_line.ensures in
    told t a.i a.sum x (stuck t l.result l.ensures short x w) (wrong t a.i a.sum l.result l.ensures x few short w)

pub returns-else-sum-to-gt49152 : goal.returns-else-sum-to-gt49152
returns-else-sum-to-gt49152 c =
    let a = c.args in
    let t = a.text.now in
    let l = c.line_length-n in
    let few : a.i < 1024 = omega (arith, c.if-i-ge1024.false) in
    let short : l.result ≤ 1024 = omega (arith, c.if-n-gt1024.false) in
    let w = subst (λ x. Answers (take l.result t) c.read_line.new.out x) c.in-Ok.is c.read_line.ensures in
    framed t a.i a.sum l.result l.ensures few short c.read_line.new.out c.in-Ok.to w c.if-n-text.false
    (omega (arith, c.if-to-gt120.false)) (omega (arith, c.if-sum-to-gt49152.false))
