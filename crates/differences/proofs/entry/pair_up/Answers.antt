-- `pair_up` meets its contract: without a list what is alike, with one its entries, or 13. Assumes nothing.
use mathlib.Core.Path.{sym, ◌∙◌}
use native.Mathlib.Omega.{arith}
use Rattle.pairing.specs.Pairings.{frames_of}
use Rattle.pairing.proofs.Frames.{frames_count}
use Rattle.differences.proofs.Paired.{paired_alike, paired_entries, paired_bad}
use Rattle.differences.proofs.entry.pair_up.Goals as goal

pub returns-in_default : goal.returns-in_default
returns-in_default c =
    let e = c.pair_alike.ensures in
    paired_alike (frames_of c.args.first.now) (frames_of c.args.second.now) _ _ _ (rw c.in_default.is) e.0 e.1

pub returns-then-good-entry_count : goal.returns-then-good-entry_count
returns-then-good-entry_count c =
    let e = c.take_entries-good.ensures in
    let t = c.args.first.now in
    let u = c.args.second.now in
    paired_bad (frames_of t) (frames_of u) _ c.args.pairs.now c.in-Some.list.now c.args.n
    c.args.m _ (rw c.in-Some.is)
    (c.requires.0.count ∙ sym (frames_count t)) (c.requires.1.count ∙ sym (frames_count u)) e.0
    (omega (arith, c.entry_count.ensures, c.if-good-entry_count.true))

pub returns : goal.returns
returns c =
    let e = c.take_entries-good.ensures in
    let t = c.args.first.now in
    let u = c.args.second.now in
    paired_entries (frames_of t) (frames_of u) _ _ c.in-Some.list.now _ _ _ (rw c.in-Some.is)
    (c.requires.0.count ∙ sym (frames_count t)) (c.requires.1.count ∙ sym (frames_count u)) e.0
    (omega (arith, c.entry_count.ensures, c.if-good-entry_count.false)) e.1 e.2
