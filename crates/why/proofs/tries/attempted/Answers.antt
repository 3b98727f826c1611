-- `why::tries::attempted` meets its contract: the attempt of that number, if it is asked for.
use Prim.Native.Nat.{◌/◌, ◌<◌}
use native.Mathlib.Omega.{arith}
use borrow.Author.Tests.{not-true, not-false}
use Rattle.rules.specs.Programs.{Program}
use Rattle.slots.specs.Slots.{program_of}
use Rattle.slots.specs.State.{table_of}
use Rattle.patterns.specs.Order.{pattern_of}
use Rattle.why.proofs.Numbers.{fold_off, fold_on, br_on, jmp_on, call_off, call_on, br_fits, jmp_fits, call_fits, jmpf_transfers, callf_transfers}
use Rattle.why.proofs.tries.attempted.Goals as goal

module _ (s : goal.Then-not-asked) where
  abbrev program : Program
  program = program_of (table_of s.args.frames.now s.args.state.now s.args.count)

module _ (s : goal.After-try_fold) where
  abbrev program_2 : Program
  program_2 = program_of (table_of s.args.frames.now s.args.state.now s.args.count)

module _ (s : goal.Then-k-eq23) where
  inside_3 : s.args.m / 26 < s.args.count
  inside_3 = omega (arith, s.requires.3)

module _ (s : goal.After-try_shorter) where
  abbrev program_4 : Program
  program_4 = program_of (table_of s.args.frames.now s.args.state.now s.args.count)

module _ (s : goal.Then-k-eq24) where
  inside_5 : s.args.m / 26 < s.args.count
  inside_5 = omega (arith, s.requires.3)

module _ (s : goal.After-try_shorter-then-k-eq24) where
  abbrev program_6 : Program
  program_6 = program_of (table_of s.args.frames.now s.args.state.now s.args.count)

module _ (s : goal.Then-not-asked-2) where
  abbrev program_7 : Program
  program_7 = program_of (table_of s.args.frames.now s.args.state.now s.args.count)

module _ (s : goal.Else-not-asked-2) where
  inside_8 : s.args.m / 26 < s.args.count
  inside_8 = omega (arith, s.requires.3)

module _ (s : goal.After-try_shorter-2) where
  abbrev program_9 : Program
  program_9 = program_of (table_of s.args.frames.now s.args.state.now s.args.count)

pub returns-then-not-asked : goal.returns-then-not-asked
returns-then-not-asked c = fold_off c.args.asked (program c) c.args.m c.if-k-lt23.true (not-true _ c.if-not-asked.true)

pub returns-then-k-lt23 : goal.returns-then-k-lt23
returns-then-k-lt23 c =
    fold_on c.args.asked (program_2 c) c.args.m c.if-k-lt23.true (not-false _ c.if-not-asked.false) (pattern_of c.pattern.result)
    c.pattern.ensures.0 _ c.try_fold.ensures

pub try_shorter-requires : goal.try_shorter-requires
try_shorter-requires c = (c.requires.0, c.requires.1, c.requires.2, inside_3 c, jmpf_transfers, br_fits)

pub returns-then-k-eq23 : goal.returns-then-k-eq23
returns-then-k-eq23 c = br_on c.args.asked (program_4 c) c.args.m c.if-k-eq23.true _ c.try_shorter.ensures

pub try_shorter-requires-then-k-eq24 : goal.try_shorter-requires-then-k-eq24
try_shorter-requires-then-k-eq24 c = (c.requires.0, c.requires.1, c.requires.2, inside_5 c, jmpf_transfers, jmp_fits)

pub returns-then-k-eq24 : goal.returns-then-k-eq24
returns-then-k-eq24 c = jmp_on c.args.asked (program_6 c) c.args.m c.if-k-eq24.true _ c.try_shorter-then-k-eq24.ensures

pub returns-then-not-asked-2 : goal.returns-then-not-asked-2
returns-then-not-asked-2 c = call_off c.args.asked (program_7 c) c.args.m c.if-k-lt23.false c.if-k-eq23.false c.if-k-eq24.false
    (not-true _ c.if-not-asked-2.true)

pub try_shorter-requires-2 : goal.try_shorter-requires-2
try_shorter-requires-2 c = (c.requires.0, c.requires.1, c.requires.2, inside_8 c, callf_transfers, call_fits)

pub returns : goal.returns
returns c =
    call_on c.args.asked (program_9 c) c.args.m c.if-k-lt23.false c.if-k-eq23.false c.if-k-eq24.false (not-false _ c.if-not-asked-2.false)
    _ c.try_shorter-2.ensures
