-- Demand 3 of the letter by bytes: what a kept target names in the input's image and in the output's is the same byte of the same
-- statement's encoding.
use Rattle.std.specs.Prelude.{◌≡◌, List, ℕ, ◌≤◌, ◌<◌, length, get_or, pos, Ok}
use Rattle.std.proofs.Math.Option.{some}
use Rattle.rules.specs.declared.Settings.{Settings}
use Rattle.rules.specs.Programs.{Placeℕ, Addressℕ, Operand, Stmt, Program, at, retarget}
use Rattle.rules.specs.Names.{context_at}
use Rattle.rules.specs.Judging.{worth, names_of}
use Rattle.rules.specs.Run.{rewritten}
use Rattle.promises.specs.Demand2.{output_program}
use Rattle.promises.specs.Demand3.{Aims, TargetKept}
use Rattle.believed.specs.ByAddress.{origin_at, encoding_of}

-- t is s, but for the target where s is an instruction
abbrev pub SameButTarget : Stmt → Stmt → Type 0
SameButTarget s t = (x : Operand) × (t ≡ retarget (λ old. x) s)

-- the byte at address a of an image is byte o of the encoding of statement i
pub record IsByte (p : Program) (image : List ℕ) (a : Addressℕ) (i : Placeℕ) (o : ℕ) : Type 0 where
  pub origin_is : origin_at p a ≡ some (record { place = i; offset = o })
  pub inside : o < length (encoding_of p i)
  pub byte_is : get_or image a 0 ≡ get_or (encoding_of p i) o 0

-- the transfer at place i named byte o of statement s, and the one that carries its target names byte o of what stems from s. Behind its
-- first byte that statement is the one that was written: "A replaced instruction may have no inner label with offset 1 or more"
pub record NamesAlike (asked : Settings) (p : Program) (image : List ℕ) (i s : Placeℕ) (o : ℕ)
    (aims : Aims p i s o) (kept : TargetKept asked p i s o) : Type 0 where
  pub address : Addressℕ
  pub target_was : worth (names_of p) (context_at p i) aims.target ≡ Ok (pos address)
  pub in_input : IsByte p image address s o
  pub in_output : IsByte (output_program asked p) (rewritten asked p).image kept.address kept.owner o
  pub stems_from_is : get_or (rewritten asked p).stems kept.owner 0 ≡ s
  pub unreplaced : 1 ≤ o → SameButTarget (at p s) (at (output_program asked p) kept.owner)
