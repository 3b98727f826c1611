-- What the phases hand to each other is what document 01's run has: an end form's text and image are the output's, and the whole is the run of the
-- text.
use mathlib.Core.Path.{◌≡◌, refl, sym, ap, ap₂, ◌∙◌, subst}
use mathlib.Core.List.{List, []}
use mathlib.Core.Bool.{true}
use Prim.Native.Nat.{ℕ, ◌*◌, ◌≤◌}
use native.Mathlib.Omega.{arith}
use lib.ListN.{length}
use Rattle.std.specs.Prelude.{Result, Err, Ok}
use Rattle.laws.specs.Lists.{total}
use Rattle.laws.proofs.Tests.{clash}
use Rattle.rules.specs.declared.Sizes.{Sizes}
use Rattle.rules.specs.declared.Refusal.{Refusal}
use Rattle.rules.specs.declared.Refusal.TheVariants.{Room}
use Rattle.rules.specs.declared.Settings.{Settings}
use Rattle.rules.specs.Answers.{Judged, ok, no, ◌>>=◌, ◌>>◌, require, judged_or}
use Rattle.rules.specs.Programs.{Program}
use Rattle.rules.specs.Listing.{read_listing, Beside, beside_of}
use Rattle.rules.specs.Judging.{judge, assembles}
use Rattle.rules.specs.Rewriting.{Chain, anchor, chain, instr_bytes, optimized}
use Rattle.rules.specs.Output.{write_back, shown, compact, stems, text_of}
use Rattle.rules.specs.Run.{Output, output_of, rewritten as run_rewritten}
use Rattle.rules.proofs.Laws.{next_ok}
use Rattle.promises.specs.Demand2.{Input, output_program}
use Rattle.promises.proofs.Passes.{assembles_image}
use Rattle.promises.proofs.Anchors.{instr_bytes_anchor}
use Rattle.promises.proofs.ImageOfOutput.{image_of_output}
use Rattle.promises.proofs.Shows.{judge_shown, write_back_shown}
use Rattle.slots.specs.Slots.{Slots, program_of}
use Rattle.output.specs.Showing.{Shown}
use Rattle.optimize.specs.Optimized.{Optimized}
use Rattle.output.specs.Stems.{kept_to}
use Rattle.finishing.specs.Ending.{fits_all, result_of, roomed, Delivers, Fitted}
use Rattle.finishing.proofs.Ended.{stems_result}
use Rattle.entries.specs.Stems.{run_stems, Stems}
use Rattle.entries.specs.Optimizing.{rewritten, judged_run, Left}
use Rattle.entries.proofs.Listed.{roomed_ok, stems_no, done_ok}

-- ---- rewritten

pub rewritten_is : (asked : Settings) (b : Beside) (q end : Program) (n : ℕ) → chain asked (total instr_bytes q) q ≡ record { program = end; count = n } → rewritten asked b q ≡ result_of b (shown asked end) n
unfolding rewritten
rewritten_is asked b q end n e = ap (λ (c : Chain). result_of b (shown asked c.program) c.count) e

-- what the rewriting left, handed out
module _ (asked : Settings) (b : Beside) (t u v : Slots) (n : ℕ) (h : Optimized asked t u n) (k : Shown asked u v) where
  rewritten_shown : rewritten asked b (program_of t) ≡ result_of b (program_of v) n
  rewritten_shown =
      rewritten_is asked b (program_of t) (program_of u) n (h.chain_is (total instr_bytes (program_of t)) (omega arith))
      ∙ ap (λ (p : Program). result_of b p n) (sym k.program)

  pub optimized_fitted : (room : ℕ) {r : Result Sizes Refusal} {out image out' image' : List ℕ}
      → Fitted t.count room (result_of b (program_of v) n) r out image out' image'
      → Fitted t.count room (rewritten asked b (program_of t)) r out image out' image'
  optimized_fitted room {r} {out} {image} {out'} {image'} d =
      subst (λ (o : Output). Fitted t.count room o r out image out' image') (sym rewritten_shown) d

  pub optimized_left : kept_to v.forms v.count ≡ (rewritten asked b (program_of t)).stems
  optimized_left = stems_result b v n k.sound.held ∙ sym (ap (λ (o : Output). o.stems) rewritten_shown)

-- of the same program
pub fitted_program : (asked : Settings) (b : Beside) (p q : Program) (n room : ℕ) {r : Result Sizes Refusal} {out image out' image' left : List ℕ} → p ≡ q
    → Fitted n room (rewritten asked b p) r out image out' image' × (left ≡ (rewritten asked b p).stems)
    → Fitted n room (rewritten asked b q) r out image out' image' × (left ≡ (rewritten asked b q).stems)
fitted_program asked b p q n room {r} {out} {image} {out'} {image'} {left} e d =
    subst (λ (z : Program). Fitted n room (rewritten asked b z) r out image out' image' × (left ≡ (rewritten asked b z).stems)) e d

-- what is handed out of an accepted program is document 01's output: the end form's image is the output's
pub rewritten_output : (asked : Settings) (b : Beside) (p : Program) → Input p → rewritten asked b (anchor p) ≡ output_of asked b p
unfolding rewritten result_of output_of run_rewritten optimized output_program
rewritten_output asked b p h =
    let i = image_of_output asked p h in
    let end : Program = (optimized asked p).program in
    let same : judge (shown asked end) ≡ judge (compact (shown asked (write_back end))) = judge_shown asked end ∙ i.of_end ∙ sym i.of_output in
    ap (λ (fuel : ℕ). (let c = chain asked fuel (anchor p) in result_of b (shown asked c.program) c.count)) (instr_bytes_anchor p)
    ∙ ap (λ (q : Program). record { listing = text_of b (stems q) (compact q); stems = stems q; count = (optimized asked p).count; image = judged_or (judge (shown asked end)) [] }) (write_back_shown asked end)
    ∙ ap (λ x. record { listing = text_of b (stems (shown asked (write_back end))) (compact (shown asked (write_back end))); stems = stems (shown asked (write_back end)); count = (optimized asked p).count; image = judged_or x [] }) same

-- ---- the run

module _ (asked : Settings) (e : Beside) (a b c : ℕ) (p : Program) where
  pub judged_no : (q : Refusal) → judge p ≡ no q → judged_run asked e a b c p ≡ no q
  unfolding judged_run ◌>>◌
  judged_no q z = rw z

  pub judged_ok : (image : List ℕ) → judge p ≡ ok image → judged_run asked e a b c p ≡ roomed (length p) a b c (rewritten asked e (anchor p))
  unfolding judged_run ◌>>◌
  judged_ok image z = rw z

module _ (asked : Settings) (b : Beside) (p : Program) (n room : ℕ) (e : length p ≡ n) (g : assembles p ≡ true) (out image : List ℕ) where
  judged_roomed : judged_run asked b (length out) (length image) room p ≡ roomed n (length out) (length image) room (rewritten asked b (anchor p))
  judged_roomed =
      let i = assembles_image p g in
      judged_ok asked b (length out) (length image) room p i.0 i.1
      ∙ ap (λ m. roomed m (length out) (length image) room (rewritten asked b (anchor p))) e

  pub judged_delivers : {r : Result Sizes Refusal} {out' image' : List ℕ} → Fitted n room (rewritten asked b (anchor p)) r out image out' image'
      → Delivers (judged_run asked b (length out) (length image) room p) r out image out' image'
  judged_delivers {r} {out'} {image'} h = subst (λ (x : Judged Output). Delivers x r out image out' image') (sym judged_roomed) h

  pub judged_left : (forms : List ℕ) (count : ℕ) → kept_to forms count ≡ (rewritten asked b (anchor p)).stems
      → Left (judged_run asked b (length out) (length image) room p) forms count
  judged_left forms count l o z =
      let f = roomed_ok n (length out) (length image) room (rewritten asked b (anchor p)) o (sym judged_roomed ∙ z) in
      l ∙ ap (λ (y : Output). y.stems) f.0

-- the list of what is handed out fits its room
pub judged_fits : (asked : Settings) (b : Beside) (x y room : ℕ) (p : Program) (o : Output) → judged_run asked b x y room p ≡ ok o → 2 * length o.stems ≤ room
unfolding judged_run
judged_fits asked b x y room p o e =
    let n = next_ok (judge p) (roomed (length p) x y room (rewritten asked b (anchor p))) o e in
    let r = roomed_ok (length p) x y room (rewritten asked b (anchor p)) o n.2 in
    subst (λ (z : Output). 2 * length z.stems ≤ room) r.0 r.1

pub list_fits : (asked : Settings) (b : Beside) (room : ℕ) (p : Program) {r : Result Sizes Refusal} {out image out' image' : List ℕ} (forms : List ℕ) (count : ℕ) (sizes : Sizes) → r ≡ Ok sizes
    → (let x : Judged Output = judged_run asked b (length out) (length image) room p in Delivers x r out image out' image' × Left x forms count)
    → 2 * length (kept_to forms count) ≤ room
list_fits asked b room p {r} {out} {image} {out'} {image'} forms count sizes e d =
    let h = done_ok _ r out image [] out' image' d.0 sizes e in
    rw (d.1 h.0 h.1) (judged_fits asked b (length out) (length image) room p h.0 h.1)

-- of a refusal nothing is said
pub left_no : (x : Judged Output) (q : Refusal) (forms : List ℕ) (count : ℕ) → x ≡ no q → Left x forms count
left_no x q forms count e o z = clash (cc)

pub delivers_program : (asked : Settings) (b : Beside) (p q : Program) (room : ℕ) {r : Result Sizes Refusal} {out image out' image' : List ℕ} (forms : List ℕ) (count : ℕ)
    → p ≡ q
    → (let x : Judged Output = judged_run asked b (length out) (length image) room p in Delivers x r out image out' image' × Left x forms count)
    → (let y : Judged Output = judged_run asked b (length out) (length image) room q in Delivers y r out image out' image' × Left y forms count)
delivers_program asked b p q room {r} {out} {image} {out'} {image'} forms count e d =
    subst
    (λ (z : Program). (let x : Judged Output = judged_run asked b (length out) (length image) room z in
    Delivers x r out image out' image' × Left x forms count)) e d

module _ (asked : Settings) (text : List ℕ) (a b c : ℕ) where
  run_no : (q : Refusal) → read_listing text ≡ no q → run_stems asked text a b c ≡ no q
  unfolding run_stems ◌>>=◌
  run_no q e = rw e

  run_read : (p : Program) → read_listing text ≡ ok p → run_stems asked text a b c ≡ judged_run asked (beside_of text) a b c p
  unfolding run_stems judged_run ◌>>=◌ ◌>>◌ roomed
  run_read p e = rw e (on (judge p) refl)
    where
      on : (x : Judged (List ℕ)) → judge p ≡ x
          → (x >> require (fits_all a b c (output_of asked (beside_of text) p)) (Room (length p)) (ok (output_of asked (beside_of text) p)))
          ≡ (x >> roomed (length p) a b c (rewritten asked (beside_of text) (anchor p)))
      on (ok image) j =
          ap (λ o. roomed (length p) a b c o)
          (sym (rewritten_output asked (beside_of text) p (record { text = text; reads = e; image = image; assembles = j })))
      on (no q) j = refl

-- ---- the text

module _ (asked : Settings) (text out image list : List ℕ) where
  abbrev whole : Judged Output
  whole = run_stems asked text (length out) (length image) (length list)

  pub stems_unread : (q : Refusal) → read_listing text ≡ no q → Stems whole (Err q) out image list out image list
  stems_unread q e = stems_no whole q out image list (run_no asked text (length out) (length image) (length list) q e)

  pub stems_read : (b : Beside) (p q : Program) {r : Result (Sizes × ℕ) Refusal} {out' image' list' : List ℕ} → beside_of text ≡ b → read_listing text ≡ ok p → q ≡ p
      → Stems (judged_run asked b (length out) (length image) (length list) q) r out image list out' image' list'
      → Stems whole r out image list out' image' list'
  stems_read b p q {r} {out'} {image'} {list'} z e f h =
      let x : judged_run asked b (length out) (length image) (length list) q ≡ whole =
      ap₂ (λ (c : Beside) (s : Program). judged_run asked c (length out) (length image) (length list) s) (sym z) f
      ∙ sym (run_read asked text (length out) (length image) (length list) p e) in
      subst (λ (y : Judged Output). Stems y r out image list out' image' list') x h
