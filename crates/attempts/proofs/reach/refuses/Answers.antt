-- `reach::refuses` meets its contract: where the code's field is refused, the definition's is.
use mathlib.Core.Path.{◌≡◌, refl, sym, ap, ◌∙◌}
use mathlib.Core.Bool.{true, false}
use native.Mathlib.Omega.{arith}
use Prim.Native.Nat.{◌+◌}
use lib.ListN.{get_or}
use borrow.Author.Rules.{rules}
use Rattle.std.specs.Prelude.{Result, Ok, Err, is_err}
use Rattle.laws.proofs.Tests.{false_true}
use Rattle.rules.specs.declared.Refusal.{Refusal}
use Rattle.instruction.proofs.Numbers.{size_bound}
use Rattle.rules.specs.declared.Kind.TheVariants.{Reg}
use Rattle.rules.specs.Answers.{is_ok}
use Rattle.rules.specs.Encoding.{field}
use Rattle.rules.specs.Forms.{operands_at}
use Rattle.expression.proofs.Signed.{at32}
use Rattle.encoding.specs.Operands.{held}
use Rattle.image.proofs.Operands.{kind_found}
use Rattle.image.proofs.Fields.{field_no}
use Rattle.attempts.proofs.Missed.{held_fails}
use Rattle.attempts.proofs.reach.refuses.Goals as goal

refused : {T E : Type 0} (r : Result T E) → is_err r ≡ true → (q : E) × (r ≡ Err q)
refused (Err q) e = (q, refl)
refused (Ok x) e = false_true e

pub overflow_add-n : goal.overflow_add-n
overflow_add-n c = omega (arith, c.size.ensures, size_bound c.args.form)

pub returns-in-Some : goal.returns-in-Some
unfolding is_ok
returns-in-Some c e =
    -- a value that was passed on is read back from its bits
    let as_passed : at32 c.args.v ≡ c.args.v = search rules in
    let no : (q : Refusal) × (c.field_of.result ≡ Err q) = refused c.field_of.result (sym c.is_err.ensures.value ∙ e) in
    let i = c.args.at.0 in
    let n = c.args.position + c.size.result in
    let is : c.in-Some.kind ≡ get_or (operands_at c.args.form) 0 Reg = kind_found (operands_at c.args.form) 0 c.requires
    c.operand_kind.ensures c.in-Some.is in
    let refused = field_no (field i 0 n c.in-Some.kind (held c.in-Some.kind (at32 c.args.v))) c.field_of.ensures no.1 in
    let fails : is_ok (field i 0 n c.in-Some.kind c.args.v) ≡ false = held_fails i 0 n c.in-Some.kind c.args.v
    (ap (λ y. is_ok (field i 0 n c.in-Some.kind (held c.in-Some.kind y))) (sym as_passed) ∙ ap is_ok refused) in
    ap (λ m. is_ok (field i 0 (c.args.position + m) (get_or (operands_at c.args.form) 0 Reg) c.args.v)) (sym c.size.ensures)
    ∙ ap (λ d. is_ok (field i 0 n d c.args.v)) (sym is)
    ∙ fails
