-- `unhex_into` meets its contract: after k turns the first k bytes that are kept stand behind `at`. Assumes nothing.
use mathlib.Core.Path.{◌≡◌, ap, ◌∙◌}
use mathlib.Core.List.{List}
use Prim.Native.Nat.{ℕ, ◌-◌, ◌/◌}
use native.Mathlib.Numerals.{add-one}
use native.Mathlib.Omega.{arith}
use lib.ListN.{length, get_or}
use lib.Seq.{paste-suc}
use Rattle.rules.specs.Listing.{unhex}
use Rattle.listing.specs.Form.{without}
use Rattle.listing.proofs.DigitPairs.{length_unhex}
use Rattle.listing.proofs.Forms.{without_at, length_without}
use Rattle.listing.proofs.hexadecimal.unhex_into.Goals as goal

-- the bytes that are kept, and how many they are
module _ (s : goal.After-way_told-1) where
  abbrev bytes : List ℕ
  bytes = without s.args.b (unhex s.args.line.now)

  many : length bytes ≡ length s.args.line.now / 2 - s.args.b
  many =
      length_without s.args.b (unhex s.args.line.now) (omega (arith, length_unhex s.args.line.now, s.requires.2))
      ∙ ap (λ (n : ℕ). n - s.args.b) (length_unhex s.args.line.now)

pub loop-k-preserved : goal.loop-k-preserved
loop-k-preserved c =
    let u = unhex c.args.line.now in
    let byte : c.byte_of.result ≡ get_or (bytes c) c.loop-k.k 0 =
    c.byte_of.ensures ∙ rw (without_at c.args.b u c.loop-k.k) (ap (λ (n : ℕ). get_or u n 0) c.kept_at.ensures.0) in
    let put = paste-suc c.args.frames.now c.args.at (bytes c) c.loop-k.k 0 (omega (arith, c.requires.3, c.requires.4))
    (omega (arith, many c)) in
    (c.loop-k.invariant.0, rw (c.loop-k.invariant.1, byte, add-one) put)
