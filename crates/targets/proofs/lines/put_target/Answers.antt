-- `targets::lines::put_target` meets its contract.
use mathlib.Core.Path.{ap, ◌∙◌}
use mathlib.Core.List.{List}
use Prim.Native.Nat.{ℕ}
use Rattle.digits.specs.Digits.{laid}
use Rattle.targets.specs.Targets.{mark_byte}
use Rattle.targets.proofs.Same.{same_is, line_is}
use Rattle.targets.proofs.lines.put_target.Goals as goal

pub returns : goal.returns
returns c p e h k =
    let mark = c.mark_byte-mark.ensures ∙ ap mark_byte c.is_same.ensures in (
      c.put_parts.ensures
          ∙ ap (λ (l : List ℕ). laid c.args.out.now c.args.at l)
          (line_is p e c.args.c c.args.i c.args.b c.args.a h k _ _ mark c.head_bytes-head.ensures),
      c.from.ensures ∙ mark ∙ ap mark_byte (same_is p e c.args.c c.args.i c.args.b c.args.a h k),
    )
