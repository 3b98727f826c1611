-- `reach::misses` meets its contract: a value that the form refuses is the target's in every program.
use mathlib.Core.Path.{◌≡◌, sym, ap, ◌∙◌}
use Prim.Native.Nat.{◌+◌}
use lib.ListN.{get_or}
use borrow.Author.Rules.{rules}
use Rattle.std.specs.Prelude.{Ok}
use Rattle.rules.specs.declared.Kind.TheVariants.{Reg}
use Rattle.rules.specs.Answers.{is_ok}
use Rattle.rules.specs.Encoding.{field}
use Rattle.rules.specs.Judging.{worth_of}
use Rattle.expression.proofs.Signed.{at32}
use Rattle.rules.specs.Forms.{operands_at, size_at}
use Rattle.slots.specs.Slots.{slots, target_of}
use Rattle.image.proofs.Fields.{field_value}
use Rattle.slots.specs.State.{starts_in, carry_in, owners_in}
use Rattle.attempts.proofs.reach.misses.Goals as goal

-- a value that was passed on is read back from its bits
as_passed : (c : goal.After-refuses) → at32 c.in-Ok.v ≡ c.in-Ok.v
as_passed c = search rules

pub returns-in-Ok : goal.returns-in-Ok
returns-in-Ok c e forms offsets names p k =
    let i = c.args.at.0 in
    let n = get_or c.args.positions.now i 0 + size_at c.args.form in
    let kind = get_or (operands_at c.args.form) 0 Reg in
    let aim = target_of (slots c.args.frames.now (starts_in c.args.state.now) c.args.count forms (carry_in c.args.state.now)
    (owners_in c.args.state.now) offsets) in
    let fixed : worth_of names p k (aim (get_or (carry_in c.args.state.now) i 0)) ≡ Ok c.in-Ok.v =
    ap (λ c. worth_of names p k (aim c)) (sym c.from.ensures) ∙ c.fixed_target.ensures c.in-Ok.v c.in-Ok.is forms
    (carry_in c.args.state.now) offsets names p k in
    ap is_ok (field_value names p i k n 0 kind (aim (get_or (carry_in c.args.state.now) i 0)) c.in-Ok.v fixed)
    ∙ ap (λ y. is_ok (field i 0 n kind y)) (sym (as_passed c))
    ∙ c.refuses.ensures e
