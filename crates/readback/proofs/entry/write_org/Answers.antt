-- `readback::entry::write_org` meets its contract: three bytes in a line. Assumes nothing.
use mathlib.Core.Path.{ap, ◌∙◌}
use mathlib.Core.List.{List}
use Prim.Native.Nat.{ℕ}
use Rattle.rules.specs.Output.{line_of}
use Rattle.digits.specs.Digits.{laid}
use Rattle.readback.proofs.Orgs.{org_frame}
use Rattle.readback.proofs.entry.write_org.Goals as goal

pub returns : goal.returns
returns c =
    c.put_line.ensures
    ∙ ap (λ (f : List ℕ). laid c.args.out.now 0 (line_of f))
    (org_frame c.args.start.0 c.low_byte.result c.low_byte-2.result c.requires.0 c.low_byte.ensures
    c.low_byte-2.ensures)
