-- `pair_size` meets its contract, for a pair that is kept and for one that is changed. Assumes nothing.
use mathlib.Core.Path.{sym, ap, ◌∙◌}
use native.Mathlib.Omega.{arith}
use lib.ListN.{length}
use Rattle.rules.specs.Output.{line_of}
use Rattle.differences.specs.Changes.{Change, bytes_of}
use Rattle.differences.proofs.Pieces.{kept_size, changed_size, pair_kept, pair_changed}
use Rattle.differences.proofs.lines.pair_size.Goals as goal

pub returns-then-same_bytes : goal.returns-then-same_bytes
returns-then-same_bytes c i j =
    let x = c.args.old.now in
    let y = c.args.new.now in
    sym (ap (λ (d : Change). length (line_of (bytes_of d)))
    (pair_kept i j x y c.requires.0 c.requires.1 (sym c.same_bytes.ensures ∙ c.if-same_bytes.true))
    ∙ kept_size i j y c.requires.1)

pub returns-else-same_bytes : goal.returns-else-same_bytes
returns-else-same_bytes c i j =
    let x = c.args.old.now in
    let y = c.args.new.now in
    omega (
      arith,
      ap (λ (d : Change). length (line_of (bytes_of d)))
          (pair_changed i j x y c.requires.0 c.requires.1 (sym c.same_bytes.ensures ∙ c.if-same_bytes.false)),
      changed_size i j x y c.requires.0 c.requires.1,
    )
