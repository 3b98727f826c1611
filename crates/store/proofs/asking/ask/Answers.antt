-- `store::asking::ask` meets its contract, as the edition is from 1 on, and a place holds it.
use mathlib.Core.Path.{◌≡◌, sym, ◌∙◌, ap}
use native.Mathlib.Omega.{arith}
use borrow.Author.Tests.{le-leb, lt-leb}
use Rattle.std.proofs.lemmas.Result.{err_from_is_err_and}
use Rattle.std.specs.Prelude.{Ok, Err, Some, None}
use Rattle.rules.specs.declared.Settings.{Settings}
use Rattle.rules.specs.declared.Refusal.TheVariants.{Unknown}
use Rattle.rules.specs.Answers.{require}
use Rattle.store.specs.Store.{find, get}
use Rattle.store.specs.Rooms.{store_in}
use Rattle.store.proofs.JudgedFirst.{found_none, found_some}
use Rattle.store.proofs.asking.ask.Goals as goal

pub returns-then-edition-lt1 : goal.returns-then-edition-lt1
unfolding get require
returns-then-edition-lt1 c = rw (lt-leb 1 c.args.edition c.if-edition-lt1.true)

pub returns-in_err-w : goal.returns-in_err-w
unfolding get require
returns-in_err-w c =
    let a = c.args in
    let p = err_from_is_err_and c.from_residual.result c.from_residual.ensures.1 in
    let n : c.find_switches.result ≡ None = grind arith in
    let o = found_none (find a.family a.edition (store_in a.room.now)) (sym c.find_switches.ensures ∙ n) in
    let r : c.in_err-w.field-0.0 ≡ Unknown = grind arith in
    rw (le-leb 1 a.edition c.if-edition-lt1.false, o) (p.1 ∙ ap Err (p.2 ∙ r))

pub returns : goal.returns
unfolding get require
returns c =
    let a = c.args in
    let h : c.find_switches.result ≡ Some c.in_ok-w.w = grind arith in
    let o = found_some (find a.family a.edition (store_in a.room.now)) _ (sym c.find_switches.ensures ∙ h) in
    let s = ap (λ (x : Settings). Ok (record { number = a.edition; settings = x })) c.settings_of.ensures in
    rw (le-leb 1 a.edition c.if-edition-lt1.false, o) s
