-- `patterns::counting::in_items` meets its contract: one item more at each turn, 16 at most.
use mathlib.Core.Path.{◌≡◌, refl, sym, ap, ◌∙◌}
use Prim.Native.Nat.{ℕ, ◌≤◌, ◌<◌}
use lib.IntN.{pos}
use lib.ListN.{length, take}
use lib.Seq.{take-length}
use native.Mathlib.Omega.{arith}
use Rattle.laws.specs.Lists.{total}
use Rattle.laws.proofs.Lists.{total_more}
use Rattle.rules.specs.Expressions.{num, mentions}
use Rattle.patterns.specs.Mentions.{read_as, items_of}
use Rattle.patterns.proofs.Mentions.{ItemsIn, data_in}
use Rattle.patterns.proofs.counting.in_items.Goals as goal

holds : (c : goal.After-loop-j) → ItemsIn c.requires.0.0 c.args.frame.now
holds c = data_in c.requires.0.0 c.args.frame.now c.requires.0.1

few : (c : goal.After-loop-j) → c.loop-j.j ≤ 16
few c = omega (arith, (holds c).few, c.requires.1)

pub loop-j-init : goal.loop-j-init
unfolding total
loop-j-init c = (omega arith, λ i d f l. refl)

pub loop-j-preserved : goal.loop-j-preserved
loop-j-preserved c =
    let l = c.loop-j in (
      omega (arith, l.invariant.0, c.in_item-found.ensures.few),
      λ i d f r.
          let es = items_of (read_as i c.args.frame.now) in
          let inside : l.j < length es = omega (arith, (data_in i c.args.frame.now d).items.count, c.requires.1) in
          omega (
            arith,
            l.invariant.1 i d f r,
            c.in_item-found.ensures.by_index i d f r,
            total_more (mentions f) es l.j (num (pos 0))
                inside,
          ),
    )

pub returns : goal.returns
returns c =
    let l = c.loop-j in record {
      few = omega (arith, l.invariant.0, (holds c).few, c.requires.1);
      by_index = λ i d f r.
          let h = data_in i c.args.frame.now d in
          let es = items_of (read_as i c.args.frame.now) in
          let e : l.j ≡ length es = omega (arith, h.items.count, c.requires.1) in
          l.invariant.1 i d f r ∙ ap (λ (k : ℕ). total (mentions f) (take k es)) e ∙ ap (total (mentions f)) (take-length es)
          ∙ sym (h.over (mentions f));
    }
