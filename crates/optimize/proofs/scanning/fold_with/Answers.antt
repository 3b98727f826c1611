-- `optimize::scanning::fold_with` meets its contract. The loop's invariant: the tables are what they were, the pattern's branch stands at
-- i, and nothing was found so far.
use mathlib.Core.Path.{refl, sym, subst, ◌∙◌}
use mathlib.Core.Option.{Option}
use Prim.Native.Nat.{◌+◌, ◌<◌}
use lib.ListN.{get_or}
use native.Mathlib.Omega.{arith}
use Rattle.laws.proofs.Options.{first_starts}
use Rattle.rules.specs.Programs.{Placeℕ, Program}
use Rattle.rules.specs.Rewriting.{pattern_at, anywhere}
use Rattle.slots.specs.Slots.{Slots, program_of}
use Rattle.slots.specs.State.{forms_in, table_of}
use Rattle.patterns.specs.declared.Pattern.{Pattern}
use Rattle.patterns.specs.Order.{pattern_of}
use Rattle.optimize.specs.Branches.{branch_of, Next}
use Rattle.optimize.proofs.Branches.{none_between}
use Rattle.optimize.proofs.Tries.{tried_as, found, missed, ended, anywhere_is}
use Rattle.optimize.proofs.scanning.fold_with.Goals as goal

-- what is tried
abbrev tries : (p : Pattern) → Slots → (i : Placeℕ) → Option Program
tries p t i = pattern_at (program_of t) (pattern_of p) i

abbrev here : (c : goal.After-from-i) → Slots
here c =
    table_of c.args.frames.now c.args.state.now c.args.count

abbrev here_2 : (c : goal.Then-try_pattern) → Slots
here_2 c =
    table_of c.args.frames.now c.args.state.now c.args.count

abbrev here_3 : (c : goal.After-from-i-in-loop-i) → Slots
here_3 c =
    table_of c.args.frames.now c.args.state.now c.args.count

abbrev here_4 : (c : goal.After-loop-i) → Slots
here_4 c =
    table_of c.args.frames.now c.args.state.now c.args.count

-- the first place of the pattern's branch, and the next one
begins : (c : goal.After-from-i) →
    Next (forms_in c.args.state.now) c.args.count (branch_of (pattern_of c.args.p)) 0 c.from-i.result
begins c =
    let f = c.from-form.result in
    let byte : f < 256 = omega (arith, c.from-form.ensures, c.branch_of.type_inv) in
    subst (λ g. Next (forms_in c.args.state.now) c.args.count g 0 c.from-i.result) (c.from-form.ensures ∙ c.branch_of.ensures)
    (subst (Next (forms_in c.args.state.now) c.args.count f 0) (sym c.from-i.ensures) (c.requires.3.begins f byte))

goes_on : (c : goal.After-from-i-in-loop-i) →
    Next (forms_in c.args.state.now) c.args.count (branch_of (pattern_of c.args.p)) (c.loop-i.i + 1) c.from-i-in-loop-i.result
goes_on c =
    let i = c.loop-i.i in
    subst (λ g. Next (forms_in c.args.state.now) c.args.count g (i + 1) c.from-i-in-loop-i.result) (c.loop-i.invariant.2 c.loop-i-test.true)
    (subst (Next (forms_in c.args.state.now) c.args.count (get_or (forms_in c.args.state.now) i 0) (i + 1))
    (sym c.from-i-in-loop-i.ensures) (c.requires.3.goes i c.loop-i-test.true))

pub loop-i-init : goal.loop-i-init
loop-i-init c =
    let n = begins c in (
      n.below,
      refl,
      n.stands,
      first_starts (tries c.args.p (here c)) c.args.count ∙ none_between (here c) c.requires.0.sound (pattern_of c.args.p) 0
          c.from-i.result n,
    )

pub returns-then-try_pattern : goal.returns-then-try_pattern
returns-then-try_pattern c =
    tried_as _ (anywhere (tries c.args.p (here_2 c)) (program_of (here_2 c))) (anywhere_is (tries c.args.p (here_2 c)) (here_2 c))
    (found (tries c.args.p) c.args.count c.loop-i.i c.loop-i.invariant.1 c.loop-i.invariant.3 c.loop-i-test.true c.try_pattern.ensures
    c.if-try_pattern.true)

pub loop-i-preserved : goal.loop-i-preserved
loop-i-preserved c =
    let e = c.try_pattern.ensures in
    let n = goes_on c in (
      n.below,
      e.kept c.if-try_pattern.false ∙ c.loop-i.invariant.1,
      n.stands,
      missed (tries c.args.p) c.args.count c.loop-i.i c.loop-i.invariant.1 c.loop-i.invariant.3 c.loop-i-test.true e c.if-try_pattern.false
          ∙ none_between (here_3 c) c.requires.0.sound (pattern_of c.args.p) (c.loop-i.i + 1) c.from-i-in-loop-i.result n,
    )

pub returns : goal.returns
returns c =
    tried_as _ (anywhere (tries c.args.p (here_4 c)) (program_of (here_4 c))) (anywhere_is (tries c.args.p (here_4 c)) (here_4 c))
    (ended (tries c.args.p) c.args.count c.loop-i.i c.loop-i.invariant.1 c.loop-i.invariant.3 c.loop-i-test.false c.requires.0)
