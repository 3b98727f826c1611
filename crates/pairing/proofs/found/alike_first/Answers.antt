-- `alike_first` meets its contract: it finds the first two frames that differ. Assumes nothing.
use Rattle.std.proofs.Common.{◌≡◌, ℕ, [], true, false, min, length, get_or, refl, rules, arith}
use Rattle.std.proofs.lemmas.Iterator.{first_from_Range}
use Rattle.laws.specs.Lists.{same}
use Rattle.pairing.specs.Pairings.{Frames, frames_of}
use Rattle.pairing.proofs.Frames.{frames_count, first_unlike}
use Rattle.pairing.proofs.found.alike_first.Goals as goal

pub returns : goal.returns
returns c =
    let a : Frames = frames_of c.args.first.now in
    let b : Frames = frames_of c.args.second.now in
    let t = λ (k : ℕ). same (get_or a k []) (get_or b k []) in
    let size : c.min-most.result ≡ min (length a) (length b) =
    omega (arith, frames_count c.args.first.now, frames_count c.args.second.now, c.min-most.ensures, c.requires.0.count, c.requires.1.count) in
    let found = first_from_Range _ _ _ _ (λ k. t k ≡ false) (λ k. t k ≡ true) c.find.ensures.ran (λ x q k. search rules) (λ x q k. search rules) in
    let e = first_unlike a b _ size t (λ k l. refl) _ found in
    rw c.unwrap_or.ensures (e.0, omega (arith, e.1, c.min-most.ensures), omega (arith, e.1, c.min-most.ensures))
