-- `anchors::anchoring::anchor` meets its contract: the names that move are found first, and no context depends on a target.
use borrow.Author.Rules.{rules}
use Rattle.slots.specs.State.{starts_in, forms_in, carry_in, owners_in, offsets_in}
use Rattle.asm.proofs.Carrying.{placed_any}
use Rattle.anchors.proofs.anchoring.anchor.Goals as goal

pub fill_moving-requires : goal.fill_moving-requires
fill_moving-requires c =
    let z = c.args.state.now in (
      c.requires.fact.0.sound.held,
      search rules,
      λ carry owners offsets.
          (placed_any c.args.frames.now (starts_in z) c.args.count (forms_in z) (carry_in z) (owners_in z) (offsets_in z)
          c.args.contexts.now c.requires.fact.2 carry owners offsets).context,
    )
