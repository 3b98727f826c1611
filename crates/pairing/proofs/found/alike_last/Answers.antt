-- `alike_last` meets its contract: it finds the first two frames that differ, counted from the end of what the beginning left. Assumes nothing.
use Rattle.std.proofs.Common.{◌≡◌, ℕ, ◌-◌, [], true, false, min, reverse, length, get_or, drop, sym, ◌∙◌, rules, arith}
use mathlib.Core.Path.{ap₂}
use Rattle.std.proofs.lemmas.Iterator.{first_from_Range}
use Rattle.laws.specs.Lists.{same}
use Rattle.pairing.specs.Pairings.{Frames, frames_of}
use Rattle.pairing.proofs.Frames.{frames_count, last_at, last_count, first_unlike}
use Rattle.pairing.proofs.found.alike_last.Goals as goal

pub returns : goal.returns
returns c =
    let a : Frames = frames_of c.args.first.now in
    let b : Frames = frames_of c.args.second.now in
    let n : c.args.n ≡ length a = c.requires.0.count ∙ sym (frames_count c.args.first.now) in
    let m : c.args.m ≡ length b = c.requires.1.count ∙ sym (frames_count c.args.second.now) in
    let t = λ (k : ℕ). same (get_or a (c.args.n - 1 - k) []) (get_or b (c.args.m - 1 - k) []) in
    let size : c.min.result - c.args.b ≡ min (length (reverse (drop c.args.b a))) (length (reverse (drop c.args.b b))) =
    omega (arith, c.min.ensures, n, m, last_count a c.args.b, last_count b c.args.b) in
    let found = first_from_Range _ _ _ _ (λ k. t k ≡ false) (λ k. t k ≡ true) c.find.ensures.ran (λ x q k. search rules) (λ x q k. search rules) in
    let e = first_unlike _ _ _ size t (λ k l. sym (ap₂ same
    (last_at a c.args.b k (omega (arith, c.min.ensures)) ∙ rw n) (last_at b c.args.b k (omega (arith, c.min.ensures)) ∙ rw m))) _ found in
    rw (c.unwrap_or.ensures, ← c.requires.2) (e.0, omega (arith, e.1, c.min.ensures), omega (arith, e.1, c.min.ensures))
