-- `instructions::instruction_line` meets its contract.
use mathlib.Core.Path.{sym, ◌∙◌}
use mathlib.Core.List.{[], append-nil}
use Rattle.laws.specs.Lists.{each}
use Rattle.laws.proofs.Stores.{rest_is}
use Rattle.rules.specs.Output.{operand_bytes}
use Rattle.text.specs.Text.{line_text}
use Rattle.terms.proofs.Writes.{wrote_then}
use Rattle.wording.proofs.instructions.instruction_line.Goals as goal

pub returns : goal.returns
unfolding line_text
returns c =
    let s = c.args.frame.now in
    λ xs n q f. wrote_then c.put_mnemonic-a.ensures (c.arguments.ensures.all xs [] f (rest_is 2 s ∙ q
    ∙ sym (append-nil (each (λ x. operand_bytes x) xs))))
