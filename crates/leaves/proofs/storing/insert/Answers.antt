-- `storing::insert` meets its contract.
use mathlib.Core.Path.{◌≡◌, refl, ◌∙◌}
use Prim.Native.Nat.{◌+◌}
use native.Mathlib.Omega.{arith}
use lib.ListN.{length-set}
use Rattle.std.specs.List.{copy_within}
use Rattle.leaves.proofs.Puts.{Moved, moved_within, moved_put}
use Rattle.leaves.proofs.storing.insert.Goals as goal

pub returns : goal.returns
returns c =
    let a = c.args in
    let b = a.out.now in
    let e : c.copy_within.new.self ≡ copy_within b a.at a.end (a.at + 1) = c.copy_within.ensures.after in
    let m : Moved b c.copy_within.new.self a.end a.at = moved_within b c.copy_within.new.self a.end a.at (omega arith) (omega (arith, c.requires.0)) e in
    record {
      size = length-set c.copy_within.new.self a.at a.code ∙ m.size ∙ c.requires.0;
      full = λ h. absurd (omega arith);
      ends = λ h. refl;
      stands = λ h. moved_put b c.copy_within.new.self a.end a.at a.code (omega arith) (omega (arith, c.requires.0)) m;
    }
