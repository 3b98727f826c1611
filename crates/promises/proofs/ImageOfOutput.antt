-- The output assembles, to the image of the end form: writing numbers back and leaving dropped slots and comments out changes no byte. So the image that is
-- handed out is never a default.
use mathlib.Core.Path.{◌≡◌, ◌∙◌}
use mathlib.Core.List.{List}
use Prim.Native.Nat.{ℕ}
use Rattle.rules.specs.declared.Settings.{Settings}
use Rattle.rules.specs.Answers.{ok, judged_or}
use Rattle.rules.specs.Programs.{Program}
use Rattle.rules.specs.Judging.{judge}
use Rattle.rules.specs.Rewriting.{optimized}
use Rattle.rules.specs.Output.{write_back, shown}
use Rattle.rules.specs.Run.{rewritten}
use Rattle.promises.specs.Demand2.{Input, output_program, ImageOfOutput}
use Rattle.promises.proofs.Shows.{judge_shown, shown_plain}
use Rattle.promises.proofs.Acceptable.{acceptable_parts, end_acceptable}
use Rattle.promises.proofs.Listings.{read_made}
use Rattle.promises.proofs.Passes.{assembles_image}
use Rattle.promises.proofs.WritesBack.{judge_write_back, inner_end, write_back_plain}
use Rattle.promises.proofs.Compacts.{judge_compact}

-- an accepted program has an end form that assembles
pub end_assembles : (asked : Settings) (p : Program) → Input p → (image : List ℕ) × (judge (optimized asked p).program ≡ ok image)
end_assembles asked p h =
    let good = end_acceptable asked p (read_made h.text p h.reads) h.image h.assembles in
    assembles_image (optimized asked p).program (acceptable_parts (optimized asked p).program good).1

-- image-of-output: the end form, the output's statements and what is handed out have one image
pub image_of_output : (asked : Settings) (p : Program) → Input p → ImageOfOutput asked p
unfolding rewritten output_program judged_or
image_of_output asked p h =
    let w = read_made h.text p h.reads in
    let end : Program = (optimized asked p).program in
    let e = end_assembles asked p h in
    let q = judge_compact (shown asked (write_back end)) e.0 (shown_plain asked (write_back end) (write_back_plain end (inner_end asked p w))) (judge_shown asked (write_back end) ∙ judge_write_back end ∙ e.1) in
    record { image = e.0; of_end = e.1; of_output = q; handed_out = rw q }
