-- `naming::is_bare` meets its contract. Assumes nothing.
use mathlib.Core.Path.{sym, ◌∙◌}
use native.Mathlib.Omega.{arith}
use borrow.Author.Rules.{rules}
use Rattle.expression.proofs.Bares.{too_short, a_name, no_name}
use Rattle.expression.proofs.naming.is_bare.Goals as goal

pub returns-then-s-lt3 : goal.returns-then-s-lt3
returns-then-s-lt3 c n l = too_short c.args.s.now n c.if-s-lt3.true

pub returns-in-Name : goal.returns-in-Name
returns-in-Name c n l =
    let q = sym c.tag_of.ensures ∙ c.in-Name.is in
    a_name c.args.s.now n q c.is_to.result (c.is_to.ensures ∙ l.name 0 (omega (arith, c.if-s-lt3.false)) q)

-- the joined arms are those of any other tag
pub returns-in-Number : goal.returns-in-Number
returns-in-Number c n l =
    let a = c.args in
    no_name a.s.now n c.tag_of.result (sym c.tag_of.ensures) (λ e. search (rules, e))
