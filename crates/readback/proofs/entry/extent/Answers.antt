-- `readback::entry::extent` meets its contract: the org is one statement and seven characters more. Assumes nothing.
use mathlib.Core.Path.{subst, sym, ◌∙◌}
use native.Mathlib.Omega.{arith}
use Rattle.rules.specs.Programs.{Program}
use Rattle.readback.specs.Walks.{ExtentOf}
use Rattle.readback.proofs.Orgs.{with_org, without_org}
use Rattle.readback.proofs.entry.extent.Goals as goal

pub returns-then-has_org : goal.returns-then-has_org
returns-then-has_org c =
    let a = c.args in
    let o = with_org a.image.now a.start.0 (sym c.has_org.ensures ∙ c.if-has_org.true) in
    let e = c.measure-rest.ensures.0 in
    record { count = omega (arith, o.count, e.count); length_is = omega (arith, o.length_is, e.length_is) }

pub returns : goal.returns
returns c =
    let a = c.args in
    subst (λ (p : Program). ExtentOf p c.measure-rest.result)
    (sym (without_org a.image.now a.start.0 (sym c.has_org.ensures ∙ c.if-has_org.false))) c.measure-rest.ensures.0
