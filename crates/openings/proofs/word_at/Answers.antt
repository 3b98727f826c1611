use mathlib.Core.Path.{◌∙◌, ap, sym}
use mathlib.Core.List.{◌++◌}
use native.Mathlib.Omega.{arith}
use Rattle.plans.specs.Fronts.{opens}
use Rattle.openings.specs.Numbered.{word_at, tail_of}
use Rattle.openings.proofs.Numbered.{form_spelling, dot_spelling, last_spelling}
use Rattle.openings.proofs.word_at.Goals as goal

-- src/lib.rt:78:9
pub returns-then-i-lt70 : goal.returns-then-i-lt70
returns-then-i-lt70 c =
    let i = c.args.i in
    let r = c.mnemonic.ensures in
    record { size = r.1; says = form_spelling i (omega arith) ∙ ap (λ y. y ++ tail_of (opens (word_at i))) (sym r.0) }

-- src/lib.rt:81:9
pub returns-then-i-lt75 : goal.returns-then-i-lt75
returns-then-i-lt75 c =
    let i = c.args.i in
    let r = c.dot_word.ensures in
    record {
      size = r.1;
      says = dot_spelling i (omega arith) (omega arith) (omega arith)
          ∙ ap (λ y. y ++ tail_of (opens (word_at i))) (sym r.0);
    }

-- src/lib.rt:73:1
pub returns : goal.returns
returns c =
    let i = c.args.i in
    let r = c.dot_word-2.ensures in
    record { size = r.1; says = last_spelling i (omega arith) ∙ ap (λ y. y ++ tail_of (opens (word_at i))) (sym r.0) }
