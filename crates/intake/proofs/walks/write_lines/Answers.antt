-- `walks::write_lines` meets its contract: the lines so far stand in the room, and what is left is read. Assumes nothing.
use mathlib.Core.Path.{◌≡◌, refl, subst}
use mathlib.Core.List.{List}
use Prim.Native.Nat.{ℕ, ◌-◌, ◌≤◌}
use native.Mathlib.Omega.{arith}
use lib.ListN.{length, take, drop}
use lib.Seq.{length-take-le}
use Rattle.rules.specs.declared.Refusal.{Refusal}
use Rattle.std.specs.Prelude.{Ok, Err, Result}
use Rattle.laws.proofs.Stores.{rest_is}
use Rattle.intake.specs.Turns.{Framed, Turned}
use Rattle.intake.proofs.Written.{begins, ends, unrefused, room_for, goes_on}
use Rattle.intake.proofs.walks.write_lines.Goals as goal

-- the line at q is read
read : (t : List ℕ) (q i sum end n : ℕ) (room : List ℕ) (x : Result (ℕ × ℕ) Refusal) → x ≡ Ok (end, n) → Turned i sum (take (length t - q) (drop q t)) room x
    → Framed i sum (drop q t) room end n
read t q i sum end n room x is w = subst (λ y. Turned i sum (drop q t) room y) is (subst (λ u. Turned i sum u room x) (rest_is q t) w)

pub loop-q-init : goal.loop-q-init
loop-q-init c = (refl, begins c.args.text.now c.args.listing.now c.requires)

-- what is no Ok is refused
refused : (x : Result (ℕ × ℕ) Refusal) → ((v : ℕ × ℕ) → x ≡ Ok v → ⊥) → (r : Refusal) × (x ≡ Err r)
refused (Ok v) f = absurd (f v refl)
refused (Err r) f = (r, refl)

pub returns-in_default : goal.returns-in_default
returns-in_default c =
    let t = c.args.text.now in
    let l = c.loop-q in
    let j = c.judge_line in
    let said = subst (λ t. Turned l.i l.sum t j.new.room j.result) (rest_is l.q t) j.ensures in
    let w = subst (λ x. Turned l.i l.sum (drop l.q t) j.new.room x) (refused j.result c.in_default.not-Ok).1 said in
    unrefused l.invariant.1 (omega (arith, c.loop-q-test.true)) _ w

pub put_line-requires : goal.put_line-requires
put_line-requires c =
    let l = c.loop-q in
    let j = c.judge_line in
    let r = read c.args.text.now l.q l.i l.sum c.in-Ok.end c.in-Ok.n j.new.room j.result c.in-Ok.is j.ensures in
    let there : c.in-Ok.n ≤ length j.new.room = omega (arith, r.short, r.room_size) in
    omega (
      arith,
      room_for l.invariant.1 (omega (arith, c.loop-q-test.true)) r,
      l.invariant.1.size,
      length-take-le c.in-Ok.n j.new.room there,
    )

pub loop-q-preserved : goal.loop-q-preserved
loop-q-preserved c =
    let l = c.loop-q in
    let j = c.judge_line in
    let r = read c.args.text.now l.q l.i l.sum c.in-Ok.end c.in-Ok.n j.new.room j.result c.in-Ok.is j.ensures in
    (r.room_size, goes_on l.invariant.1 (omega (arith, c.loop-q-test.true)) r c.put_line.new.out c.put_line.ensures c.put_line.auto.out)

pub returns : goal.returns
returns c = ends c.loop-q.invariant.1 (omega (arith, c.loop-q-test.false))
