-- `differences` meets its contract, on every input: each refusal in its place. Assumes nothing.
use mathlib.Core.Path.{◌≡◌, sym, subst, ap, ◌∙◌}
use Prim.Native.Nat.{ℕ}
use lib.ListN.{length}
use Rattle.std.proofs.lemmas.Result.{err_from_is_err_and}
use Rattle.rules.specs.Programs.{Program}
use Rattle.rules.specs.Answers.{ok}
use Rattle.rules.specs.Listing.{read_listing}
use Rattle.pairing.specs.Pairings.{frames_of}
use Rattle.differences.specs.declared.entry.Whose.TheVariants.{OfFirst, OfSecond}
use Rattle.differences.specs.Differences.{Differing, text, of_both, after, compared}
use Rattle.differences.specs.Entry.{given_as, Leaves}
use Rattle.differences.proofs.Outcomes.{told_ok, told_err, counted_ok, counted_no, is_read, lines_counted}
use Rattle.differences.proofs.Outcomes.{first_refused, second_refused, other_form, both_read}
use Rattle.differences.proofs.entry.differences.Goals as goal
use Rattle.differences.proofs.entry.differences.Goals.{In_ok-n, In_ok-m}

-- the first listing was read
module _ (n : In_ok-n) where
  first_read : (p : Program) × (read_listing n.args.first.now ≡ ok p) × (n.in_ok-n.n ≡ length p)
  first_read =
      counted_ok _ _ _ (told_ok OfFirst n.statements_of.result _ n.map_err.ensures.cases _ n.in_ok-n.was) n.statements_of.ensures

-- and the second
module _ (m : In_ok-m) where
  second_read : (q : Program) × (read_listing m.args.second.now ≡ ok q) × (m.in_ok-m.m ≡ length q)
  second_read =
      counted_ok _ _ _ (told_ok OfSecond m.statements_of-2.result _ m.map_err-2.ensures.cases _ m.in_ok-m.was) m.statements_of-2.ensures

pub returns-in_err-n : goal.returns-in_err-n
returns-in_err-n c =
    let a = c.args in
    let e = told_err OfFirst c.statements_of.result _ c.map_err.ensures.cases _ c.in_err-n.was in
    let p = err_from_is_err_and c.from_residual.result c.from_residual.ensures.1 in
    rw (p.1, p.2, e.2) (first_refused a.first.now a.second.now (given_as a.pairing) a.out.now _ (counted_no _ _ _ e.1 c.statements_of.ensures))

pub returns-then-not-same_form : goal.returns-then-not-same_form
returns-then-not-same_form c =
    let a = c.args in
    let p = first_read (goal.at.returns-then-not-same_form c).In_ok-n in
    other_form a.first.now a.second.now (given_as a.pairing) a.out.now p.0 p.1 (sym c.same_form.ensures ∙ c.if-not-same_form.true)

pub returns-in_err-m : goal.returns-in_err-m
returns-in_err-m c =
    let a = c.args in
    let p = first_read (goal.at.returns-in_err-m c).In_ok-n in
    let e = told_err OfSecond c.statements_of-2.result _ c.map_err-2.ensures.cases _ c.in_err-m.was in
    let q = err_from_is_err_and c.from_residual-in_err-m.result c.from_residual-in_err-m.ensures.1 in
    rw (q.1, q.2, e.2)
    (second_refused a.first.now a.second.now (given_as a.pairing) a.out.now p.0 p.1 (sym c.same_form.ensures ∙ c.if-not-same_form.false) _
    (counted_no _ _ _ e.1 c.statements_of-2.ensures))

pub compare-requires : goal.compare-requires
compare-requires c =
    let a = c.args in
    let p = first_read (goal.at.compare-requires c).In_ok-n in
    let q = second_read (goal.at.compare-requires c).In_ok-m in
    (is_read _ p.0 p.1, lines_counted a.first.now p.0 _ p.1 p.2, is_read _ q.0 q.1, lines_counted a.second.now q.0 _ q.1 q.2)

pub returns : goal.returns
returns c =
    let a = c.args in
    let p = first_read (goal.at.returns c).In_ok-n in
    let q = second_read (goal.at.returns c).In_ok-m in
    let w = c.compare in
    let g = sym c.same_form.ensures ∙ c.if-not-same_form.false in
    let e = both_read a.first.now a.second.now (given_as a.pairing) a.out.now p.0 p.1 g q.0 q.1 in
    let as_counted = ap (λ (k : ℕ). after of_both
    (compared (frames_of a.first.now) (frames_of a.second.now) (given_as a.pairing) k (length a.out.now)) text) (sym p.2) in
    subst (λ (x : Differing). Leaves x w.result a.out.now w.new.out) (sym (e ∙ as_counted)) w.ensures
