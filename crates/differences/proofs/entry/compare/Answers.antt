-- `compare` meets its contract: lines, pairs or 13, and then the text or 12. Assumes nothing.
use mathlib.Core.Path.{◌≡◌, sym, subst, ◌∙◌}
use lib.ListN.{length}
use Rattle.rules.specs.declared.Refusal.{Refusal}
use Rattle.std.specs.Prelude.{ℕ, Result}
use Rattle.std.proofs.lemmas.Result.{err_from_is_err_and}
use Rattle.pairing.specs.Pairings.{frames_of}
use Rattle.pairing.proofs.Frames.{frames_count}
use Rattle.pairing.proofs.Orders.{pairs_order}
use Rattle.differences.specs.declared.entry.Whose.TheVariants.{OfBoth}
use Rattle.differences.specs.Differences.{Differing}
use Rattle.differences.specs.Entry.{given_as, PairedAs, Leaves}
use Rattle.differences.proofs.Outcomes.{told_ok, told_err, pairs_bad, pairs_good}
use Rattle.differences.proofs.entry.compare.Goals as goal

pub write_differences-requires : goal.write_differences-requires
write_differences-requires c =
    let a = c.args in
    let x = frames_of a.first.now in
    let y = frames_of a.second.now in
    let e = told_ok OfBoth c.pair_up.result _ c.map_err.ensures.cases _ c.in_ok-k.was in
    let t = subst (λ (r : Result ℕ Refusal). PairedAs x y (given_as a.pairing) c.pair_up.new.pairs r) e c.pair_up.ensures in
    let n : length x ≡ a.n = frames_count a.first.now ∙ sym c.find_lines.ensures.count in
    let m : length y ≡ a.m = frames_count a.second.now ∙ sym c.find_lines-2.ensures.count in
    record {
      lined = c.find_lines.ensures;
      lined' = c.find_lines-2.ensures;
      few = t.2;
      order = rw t.1 (rw (n, m) at (pairs_order x y (given_as a.pairing) t.0));
    }

pub returns-in_err-k : goal.returns-in_err-k
returns-in_err-k c =
    let a = c.args in
    let x = frames_of a.first.now in
    let y = frames_of a.second.now in
    let e = told_err OfBoth c.pair_up.result _ c.map_err.ensures.cases _ c.in_err-k.was in
    let t = subst (λ (r : Result ℕ Refusal). PairedAs x y (given_as a.pairing) c.pair_up.new.pairs r) e.1 c.pair_up.ensures in
    let p = err_from_is_err_and c.from_residual.result c.from_residual.ensures.1 in
    rw (p.1, p.2, e.2) (pairs_bad x y (given_as a.pairing) c.pair_up.new.pairs a.n a.out.now _ t)

pub returns : goal.returns
returns c =
    let a = c.args in
    let x = frames_of a.first.now in
    let y = frames_of a.second.now in
    let w = c.write_differences in
    let e = told_ok OfBoth c.pair_up.result _ c.map_err.ensures.cases _ c.in_ok-k.was in
    let t = subst (λ (r : Result ℕ Refusal). PairedAs x y (given_as a.pairing) c.pair_up.new.pairs r) e c.pair_up.ensures in
    let g = pairs_good x y (given_as a.pairing) _ a.n a.out.now _ t in
    subst (λ (z : Differing). Leaves z w.result a.out.now w.new.out) (sym g) w.ensures
