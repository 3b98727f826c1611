use mathlib.Core.Path.{sym, ap}
use Rattle.leaves.proofs.Leafs.{infix_none}
use Rattle.grammar.specs.Going.{infix_of}
use Rattle.leaves.specs.Answering.{code_of}
use Rattle.sums.proofs.infix_of.Goals as goal

pub returns-in-42 : goal.returns-in-42
unfolding infix_of
returns-in-42 c = rw c.in-42.is

pub returns-in-47 : goal.returns-in-47
unfolding infix_of
returns-in-47 c = rw c.in-47.is

pub returns-in-43 : goal.returns-in-43
unfolding infix_of
returns-in-43 c = rw c.in-43.is

pub returns-in-45 : goal.returns-in-45
unfolding infix_of
returns-in-45 c = rw c.in-45.is

pub returns-in-38 : goal.returns-in-38
unfolding infix_of
returns-in-38 c = rw c.in-38.is

pub returns-in-94 : goal.returns-in-94
unfolding infix_of
returns-in-94 c = rw c.in-94.is

pub returns-in-124 : goal.returns-in-124
unfolding infix_of
returns-in-124 c = rw c.in-124.is

pub returns-in_default : goal.returns-in_default
returns-in_default c = let r = c.in_default.in_default-own.rest in
    sym (ap code_of (infix_none c.args.c r.0.0.0.0.0.0.1 r.0.0.0.0.0.1 r.0.0.0.0.1 r.0.0.0.1 r.0.0.1 r.0.1 r.1))
