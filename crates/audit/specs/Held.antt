-- A finding as the code holds it.
use Rattle.rules.specs.declared.Refusal.{Refusal}
use Rattle.audit.specs.declared.Finding.{Finding as Found}
use Rattle.audit.specs.declared.Finding.TheVariants.{Differs, Short, Same, Long}
use Rattle.std.specs.Prelude.{List, [], ℕ, Ok, Err, Result}
use Rattle.laws.specs.Lists.{total}
use Rattle.rules.specs.declared.Address.{Address}
use Rattle.rules.specs.declared.Settings.{Settings}
use Rattle.rules.specs.Answers.{Judged, ok, no, judged_or}
use Rattle.rules.specs.Programs.{Program}
use Rattle.rules.specs.Layout.{origin_from}
use Rattle.rules.specs.Judging.{judge}
use Rattle.rules.specs.Rewriting.{chain, instr_bytes}
use Rattle.asm.specs.Belonging.{origin_as}
use Rattle.audit.specs.Audit.{Finding, same, differs, short, long, held}

abbrev pub at_address : ℕ → Address
at_address a = record { 0 = a }

abbrev pub finding_as : Finding → Found
finding_as same = Same
finding_as (differs a x y o) = Differs (at_address a) x y (origin_as o)
finding_as (short a o) = Short (at_address a) (origin_as o)
finding_as (long a) = Long (at_address a)

abbrev pub audit_as : Judged Finding → Result Found Refusal
audit_as (ok f) = Ok (finding_as f)
audit_as (no r) = Err r

-- the image of an end form, which assembles
unfoldable pub end_image : Program → List ℕ
end_image end = judged_or (judge end) []

-- the finding on an anchored program q
unfoldable pub end_finding : Settings → (q : Program) (shipped : List ℕ) → Finding
end_finding asked q shipped =
    let end : Program = (chain asked (total instr_bytes q) q).program in
    held (λ a. origin_from 0 0 end a) (end_image end) shipped
