-- `mapping::laying::find_positions` meets its contract: the program assembles.
use mathlib.Core.Path.{◌≡◌, refl}
use borrow.Author.Rules.{rules}
use Rattle.std.specs.Prelude.{Result, Err, Ok}
use Rattle.rules.specs.declared.Refusal.{Refusal}
use Rattle.slots.specs.State.{starts_in, forms_in, carry_in, owners_in, offsets_in}
use Rattle.slots.specs.Links.{contexts_read}
use Rattle.asm.proofs.Carrying.{placed_any}
use Rattle.finishing.proofs.Ended.{not_refused}
use Rattle.mapping.proofs.laying.find_positions.Goals as goal

pub judge_linked-requires : goal.judge_linked-requires
judge_linked-requires c =
    let z = c.args.state.now in (
      c.requires.0.sound,
      c.requires.0.together,
      c.requires.0.named,
      c.requires.2,
      c.requires.3,
      search rules,
      placed_any c.args.frames.now (starts_in z) c.args.count (forms_in z) (carry_in z) (owners_in z) (offsets_in z)
          (contexts_read c.args.frames.now (starts_in z) c.args.count) c.requires.0.context,
    )

is_good : (v : Result (Unit {0}) Refusal) → ((q : Refusal) → v ≡ Err q → v ≡ Ok tt) → v ≡ Ok tt
is_good (Ok tt) h = refl
is_good (Err q) h = h q refl

pub returns : goal.returns
returns c =
    let good = is_good c.judge_linked.result (λ q e. not_refused _ _ q e c.judge_linked.ensures c.requires.1) in
    let ready = c.judge_linked.ensures.ready good in
    search rules
