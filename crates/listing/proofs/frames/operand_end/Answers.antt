-- `operand_end` meets its contract: an operand that the form does not have takes nothing. Assumes nothing.
use mathlib.Core.Path.{sym, ap, ◌∙◌}
use Rattle.std.specs.Prelude.{Option}
use Rattle.rules.specs.declared.Kind.{Kind}
use Rattle.rules.specs.Forms.{operands_at}
use Rattle.instruction.specs.Tables.{operand_in}
use Rattle.listing.specs.Frames.{operand_end}
use Rattle.listing.proofs.FrameParts.{next_inside}
use Rattle.listing.proofs.frames.operand_end.Goals as goal

pub returns-in-Some : goal.returns-in-Some
returns-in-Some c =
    let read = c.kind_end.ensures ∙ ap (λ (o : Option Kind). operand_end c.args.s.now o c.args.a) (sym c.in-Some.is ∙ c.operand_kind.ensures) in
    (read, next_inside c.args.s.now (operand_in (operands_at c.args.form) c.args.j) c.args.a c.kind_end.result c.requires read)
