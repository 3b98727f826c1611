-- `lines::data_line` meets its contract.
use mathlib.Core.Path.{sym, ◌∙◌}
use mathlib.Core.List.{[], append-nil}
use lib.ListN.{length}
use Rattle.laws.specs.Lists.{each}
use Rattle.rules.specs.Expressions.{bytes_of}
use Rattle.terms.proofs.Writes.{wrote_then}
use Rattle.wording.proofs.Datas.{behind_two, rest_items}
use Rattle.wording.proofs.lines.data_line.Goals as goal

pub returns : goal.returns
returns c =
    let s = c.args.frame.now in
    λ es q f.
    let z = behind_two s (length es) (each (λ e. bytes_of e) es) q in
    wrote_then c.put_dot_word-a.ensures
    ((rest_items 32 2 s c.items.ensures).all es [] (sym z.0 ∙ sym c.from-n.ensures)
    (z.1 ∙ sym (append-nil (each (λ e. bytes_of e) es))) f)
