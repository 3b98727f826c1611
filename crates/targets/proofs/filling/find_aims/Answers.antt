-- `targets::filling::find_aims` meets its contract: the program assembles.
use mathlib.Core.Path.{◌≡◌, refl, sym, ◌∙◌}
use mathlib.Core.Bool.{false}
use borrow.Author.Rules.{rules}
use Rattle.std.specs.Prelude.{Result, Ok, Err}
use Rattle.std.specs.Result.{is_ok}
use Rattle.laws.proofs.Tests.{true_false}
use Rattle.rules.specs.declared.Refusal.{Refusal}
use Rattle.slots.specs.State.{starts_in, forms_in, carry_in, owners_in, offsets_in}
use Rattle.slots.specs.Links.{contexts_read}
use Rattle.asm.proofs.Carrying.{placed_any}
use Rattle.finishing.proofs.Ended.{not_refused}
use Rattle.targets.proofs.filling.find_aims.Goals as goal

pub judge_linked-requires : goal.judge_linked-requires
judge_linked-requires c =
    let z = c.args.state.now in (
      c.requires.0.sound,
      c.requires.0.together,
      c.requires.0.named,
      c.requires.2,
      search rules,
      search rules,
      placed_any c.args.frames.now (starts_in z) c.args.count (forms_in z) (carry_in z) (owners_in z) (offsets_in z)
          (contexts_read c.args.frames.now (starts_in z) c.args.count) c.requires.0.context,
    )

-- what is not good is refused
refused : (r : Result (Unit {0}) Refusal) → is_ok r ≡ false → (q : Refusal) × (r ≡ Err q)
refused (Ok x) h = true_false h
refused (Err q) h = (q, refl)

pub returns-else-is_ok : goal.returns-else-is_ok
returns-else-is_ok c =
    let e = refused c.judge_linked.result (sym c.is_ok.ensures.value ∙ c.if-is_ok.false) in
    not_refused _ _ e.0 e.1 c.judge_linked.ensures c.requires.1
