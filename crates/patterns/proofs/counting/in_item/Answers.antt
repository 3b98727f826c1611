-- `patterns::counting::in_item` meets its contract: an item reads where it begins.
use mathlib.Core.Path.{ap, ◌∙◌}
use Prim.Native.Nat.{ℕ}
use lib.IntN.{pos}
use lib.ListN.{get_or, drop}
use native.Mathlib.Omega.{arith}
use Rattle.rules.specs.Expressions.{num, read_expr}
use Rattle.slots.specs.Slots.{item_at, DataIn}
use Rattle.slots.proofs.Frames.{Reads}
use Rattle.slots.proofs.Operands.{reads_inside}
use Rattle.patterns.specs.Mentions.{read_as, items_of}
use Rattle.patterns.proofs.Mentions.{data_in}
use Rattle.patterns.proofs.counting.in_item.Goals as goal

item : (c : goal.After-item_in) (i : ℕ) → DataIn i c.args.frame.now
    → Reads (drop (item_at c.args.frame.now 2 c.args.j) c.args.frame.now) (get_or (items_of (read_as i c.args.frame.now)) c.args.j
    (num (pos 0)))
item c i d = (data_in i c.args.frame.now d).items.each c.args.j c.requires.1

item_2 : (c : goal.After-in_part) (i : ℕ) → DataIn i c.args.frame.now
    → Reads (drop (item_at c.args.frame.now 2 c.args.j) c.args.frame.now) (get_or (items_of (read_as i c.args.frame.now)) c.args.j
    (num (pos 0)))
item_2 c i d = (data_in i c.args.frame.now d).items.each c.args.j c.requires.1

pub in_part-requires : goal.in_part-requires
in_part-requires c = (
  omega (
    arith,
    c.item_in.ensures,
    reads_inside c.args.frame.now (item_at c.args.frame.now 2 c.args.j) _
        (item c c.requires.0.0 c.requires.0.1),
  ),
  c.requires.2,
)

pub returns : goal.returns
returns c =
    record {
      few = c.in_part.ensures.few;
      by_index = λ i d f l.
          let h = item_2 c i d in
          c.in_part.ensures.by_index f l _ h.width (ap (λ (n : ℕ). read_expr (drop n c.args.frame.now)) c.item_in.ensures ∙ h.reads);
    }
