-- The finding on an end form is the one that the definition asks for: its image is the image that is handed out.
use mathlib.Core.Path.{◌≡◌, sym, ap, ◌∙◌}
use mathlib.Core.List.{List, []}
use Prim.Native.Nat.{ℕ, ◌≤◌}
use native.Mathlib.Omega.{arith}
use lib.ListN.{length}
use Rattle.laws.specs.Lists.{total}
use Rattle.rules.specs.declared.Settings.{Settings}
use Rattle.rules.specs.Answers.{Judged, judged_or}
use Rattle.rules.specs.Programs.{Program}
use Rattle.rules.specs.Layout.{origin_from}
use Rattle.rules.specs.Rewriting.{Chain, anchor, chain, optimized, instr_bytes}
use Rattle.rules.specs.Run.{rewritten}
use Rattle.promises.specs.Demand2.{Input}
use Rattle.promises.proofs.Passes.{assembles_image}
use Rattle.promises.proofs.ImageRoom.{image_room_holds}
use Rattle.promises.proofs.Anchors.{instr_bytes_anchor}
use Rattle.promises.proofs.ImageOfOutput.{image_of_output}
use Rattle.slots.specs.Slots.{Slots, program_of}
use Rattle.image.specs.Tables.{Tables, program}
use Rattle.image.specs.Image.{image_of}
use Rattle.optimize.specs.Optimized.{Optimized}
use Rattle.finishing.specs.Ending.{Assembled}
use Rattle.audit.specs.Audit.{held}
use Rattle.audit.specs.Held.{end_image, end_finding}

-- the tables of an end form encode to its image
pub end_image_lem : (d : Tables) → Assembled d → image_of d ≡ end_image (program d)
unfolding image_of end_image
end_image_lem d h = ap (λ (x : Judged (List ℕ)). judged_or x []) (sym h.encodes)

-- a local room holds it
pub image_fits : (d : Tables) → Assembled d → length (image_of d) ≤ 65536
unfolding end_image judged_or
image_fits d h =
    let i = assembles_image (program d) h.good in
    let e : image_of d ≡ i.0 = end_image_lem d h ∙ ap (λ (x : Judged (List ℕ)). judged_or x []) i.1 in
    rw e (image_room_holds (program d) i.0 i.1)

-- what the rewriting left
pub end_finding_lem : (asked : Settings) (t u : Slots) (n : ℕ) (shipped : List ℕ) → Optimized asked t u n
    → held (origin_from 0 0 (program_of u)) (end_image (program_of u)) shipped ≡ end_finding asked (program_of t) shipped
unfolding end_finding
end_finding_lem asked t u n shipped h =
    ap (λ (c : Chain). held (λ a. origin_from 0 0 c.program a) (end_image c.program) shipped) (sym (h.chain_is (total instr_bytes (program_of t)) (omega arith)))

-- of an accepted program
pub whole_finding : (asked : Settings) (p : Program) (shipped : List ℕ) → Input p
    → end_finding asked (anchor p) shipped ≡ held (λ a. origin_from 0 0 (optimized asked p).program a) (rewritten asked p).image shipped
unfolding end_finding end_image optimized judged_or
whole_finding asked p shipped h =
    let i = image_of_output asked p h in
    ap (λ (fuel : ℕ). (let end : Program = (chain asked fuel (anchor p)).program in held (λ a. origin_from 0 0 end a) (end_image end) shipped)) (instr_bytes_anchor p)
    ∙ ap (λ (l : List ℕ). held (λ a. origin_from 0 0 (optimized asked p).program a) l shipped) (ap (λ (x : Judged (List ℕ)). judged_or x []) i.of_end ∙ sym i.handed_out)
