-- `storing::put_number` meets its contract.
use mathlib.Core.Path.{◌≡◌, refl, ◌∙◌, ap}
use mathlib.Core.List.{[], ◌∷◌}
use Prim.Native.Nat.{ℕ, ◌/◌, ◌%◌}
use native.Mathlib.Omega.{arith}
use Rattle.rules.specs.Expressions.{four}
use Rattle.leaves.proofs.Puts.{put_behind}
use Rattle.leaves.proofs.storing.put_number.Goals as goal

pub returns : goal.returns
returns c =
    let n = c.args.bits in
    let z : n / 16777216 % 256 ≡ n / 16777216 = omega arith in
    let f : c.to_be_bytes.result ≡ four n = c.to_be_bytes.ensures ∙ ap (λ (k : ℕ). k ∷ n / 65536 % 256 ∷ n / 256 % 256 ∷ n % 256 ∷ []) z in
    put_behind c.args.out.now (four n) c.copy_from_slice.new.self c.args.at 0 4 _ c.requires.0 (c.copy_from_slice.ensures.after ∙ f) refl
    (omega arith) (omega arith)
