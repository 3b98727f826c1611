-- `codes::field_at` meets its contract: the argument's value is judged, then its range.
use mathlib.Core.Path.{◌≡◌, sym, ap, ◌∙◌}
use mathlib.Core.List.{List}
use lib.ListN.{get_or}
use borrow.Author.Rules.{rules}
use Rattle.rules.specs.declared.Unvalued.{Unvalued}
use Rattle.std.specs.Prelude.{ℤ, Result, Err, Ok}
use Rattle.std.proofs.lemmas.Result.{err_from_is_err_and}
use Rattle.rules.specs.declared.Kind.{Kind}
use Rattle.rules.specs.declared.Kind.TheVariants.{Reg}
use Rattle.rules.specs.Forms.{operands_at}
use Rattle.rules.specs.Encoding.{field}
use Rattle.rules.specs.Names.{context_at}
use Rattle.rules.specs.Judging.{worth_of}
use Rattle.std.proofs.lemmas.Grind.{common_steps}
use native.Mathlib.Omega.{arith}
use Rattle.expression.proofs.Signed.{at32}
use Rattle.instruction.specs.Tables.{operand_in}
use Rattle.encoding.specs.Operands.{field_as, held}
use Rattle.image.specs.Tables.{Tables, tables_of, program, operand_at}
use Rattle.image.proofs.Answers.{unvalued_of}
use Rattle.image.proofs.Operands.{kind_found, kind_there}
use Rattle.image.proofs.Worths.{worth_at_lem, value_held}
use Rattle.image.proofs.Fields.{field_value, field_unvalued}
use Rattle.slots.specs.State.{forms_in}
use Rattle.image.proofs.codes.field_at.Goals as goal
use Rattle.image.proofs.codes.field_at.Goals.{After-argument_worth}

-- what both answers know: the tables, the operands of the form that stands there, and the worth as the program has it
module _ (s : After-argument_worth) where
  abbrev here : Tables
  here =
      tables_of s.args.frames.now s.args.state.now s.args.count
      s.args.links.now s.args.values.now s.args.positions.now

  abbrev kinds : List Kind
  kinds = operands_at (get_or (forms_in s.args.state.now) s.args.at.0 0)

  worth_is : (o : Result ℤ Unvalued) → s.argument_worth.result ≡ o
      → worth_of here.entries (program here) (context_at (program here) s.args.at.0) (operand_at here.slots s.args.at.0 s.args.j) ≡ o
  worth_is o q =
      sym (worth_at_lem here s.requires.fact.0 s.args.at.0 s.requires.fact.1 s.requires.fact.2 s.args.j s.requires.j_in_bounds.0)
      ∙ sym s.argument_worth.ensures ∙ q

pub returns : goal.returns
returns c =
    let s = (goal.at.returns c).After-argument_worth in
    let was : c.argument_worth.result ≡ Ok c.in_ok-v.v = grind (arith, common_steps, c.in_ok-v.was) in
    let d = here s in
    let i = c.args.at.0 in
    let z = c.in_ok-v.v in
    let kind = c.in-Some.kind in
    let n = c.args.n.0 in
    let same : at32 z ≡ z = search rules in
    let kind_is : c.operand_kind.result ≡ operand_in (kinds s) c.args.j =
    c.operand_kind.ensures ∙ ap (λ f. operand_in (operands_at f) c.args.j) c.form_in.ensures in
    let is : kind ≡ get_or (kinds s) c.args.j Reg = kind_found (kinds s) c.args.j c.requires.j_in_bounds.0 kind_is c.in-Some.is in
    c.field_of.ensures
    ∙ ap (λ y. field_as (field i c.args.j n kind (held kind y))) same
    ∙ ap (λ y. field_as (field i c.args.j n kind y))
    (value_held d.slots c.requires.fact.0.sound i c.requires.fact.1 c.requires.fact.2 c.args.j c.requires.j_in_bounds.0 d.entries
    d.positions (get_or d.contexts i 0) z kind is
    (sym c.argument_worth.ensures ∙ was))
    ∙ ap (λ y. field_as (field i c.args.j n y z)) is
    ∙ ap field_as (sym (field_value d.entries (program d) i (context_at (program d) i) n c.args.j (get_or (kinds s) c.args.j Reg)
    (operand_at d.slots i c.args.j) z (worth_is s (Ok z) was)))

pub returns-in_err-v : goal.returns-in_err-v
returns-in_err-v c =
    let s = (goal.at.returns-in_err-v c).After-argument_worth in
    let d = here s in
    let i = c.args.at.0 in
    let p = err_from_is_err_and c.from_residual.result c.from_residual.ensures.1 in
    let was : c.map_err.result ≡ Err p.0 = c.in_err-v.was ∙ ap Err (sym p.2) in
    let refused = unvalued_of i c.argument_worth.result c.map_err.result _ c.map_err.ensures.cases (λ e r h. search rules) p.0 was in
    rw p.1
    (ap field_as (sym (field_unvalued d.entries (program d) i (context_at (program d) i) c.args.n.0 c.args.j
    (get_or (kinds s) c.args.j Reg) (operand_at d.slots i c.args.j) (worth_is s (Err refused.0) refused.1) refused.2)))

-- there is an argument j
pub returns-in_default : goal.returns-in_default
returns-in_default c =
    kind_there (operands_at (get_or (forms_in c.args.state.now) c.args.at.0 0)) c.args.j c.requires.j_in_bounds.0
    (c.operand_kind.ensures ∙ ap (λ f. operand_in (operands_at f) c.args.j) c.form_in.ensures) c.in_default.is
