-- `finishing::judge_end` meets its contract: an end form assembles, and both rooms are judged before a byte is written.
use mathlib.Core.Path.{◌≡◌, ap, ◌∙◌}
use native.Mathlib.Omega.{arith}
use lib.ListN.{length}
use borrow.Author.Rules.{rules}
use Rattle.rules.specs.Run.{front}
use Rattle.output.specs.Lines.{beside_in}
use Rattle.slots.specs.State.{starts_in, forms_in, carry_in, owners_in, offsets_in}
use Rattle.slots.specs.Links.{contexts_read}
use Rattle.image.specs.Tables.{Tables, tables_of, program}
use Rattle.asm.proofs.Carrying.{placed_any}
use Rattle.output.proofs.Listings.{kept_few}
use Rattle.finishing.specs.Ending.{result_of, Assembled}
use Rattle.finishing.proofs.Deliveries.{fitted_listing, fitted_image, fitted_list, fitted_whole}
use Rattle.finishing.proofs.Ended.{assembled_by, not_refused, assembled_encodes, image_result, listing_result, stems_result, count_result}
use Rattle.finishing.proofs.judge_end.Goals.{then-out-listing_size-via-then-out-listing_size, then-out-listing_size-via-else-out-listing_size+then-image-image_size, then-out-listing_size-via-else-out-listing_size+else-image-image_size+then-wanted-count_stems}
use Rattle.finishing.proofs.judge_end.Goals as goal

pub judge_linked-requires : goal.judge_linked-requires
judge_linked-requires c =
    let z = c.args.state.now in (
      c.requires.0.sound,
      c.requires.0.together,
      c.requires.0.named,
      c.requires.2,
      search rules,
      search rules,
      placed_any c.args.frames.now (starts_in z) c.args.count (forms_in z) (carry_in z) (owners_in z) (offsets_in z)
          (contexts_read c.args.frames.now (starts_in z) c.args.count) c.requires.0.context,
    )

pub returns-in_err-judge_linked : goal.returns-in_err-judge_linked
returns-in_err-judge_linked c =
    not_refused _ _ _ c.in_err-judge_linked.was c.judge_linked.ensures c.requires.1

pub overflow_mul-count_stems : goal.overflow_mul-count_stems
overflow_mul-count_stems c =
    omega (arith, c.count_stems.ensures, kept_few (forms_in c.args.state.now) c.args.count, c.requires.0.sound.held.few)

-- what was counted is the length of the end form's listing
text_counted : (c : goal.Joined-then-out-listing_size) →
    let a = c.args in
    let t : Tables = tables_of a.frames.now a.state.now a.count a.links.now c.judge_linked.new.values c.judge_linked.new.positions in
    c.text_length-listing_size.result
    ≡ length (result_of (beside_in a.wanted.marked a.lines.now a.count) (program t) a.rewrites).listing
text_counted c =
    let a = c.args in
    let z = a.state.now in
    let t : Tables = tables_of a.frames.now z a.count a.links.now c.judge_linked.new.values c.judge_linked.new.positions in
    let good : Assembled t = assembled_by _ _ c.in_ok-judge_linked.was c.judge_linked.ensures in
    let beside = beside_in a.wanted.marked a.lines.now a.count in
    c.text_length-listing_size.ensures beside.lines (offsets_in z) good.ready.sound ∙ ap length (listing_result beside t.slots a.rewrites)

-- one of the rooms is too short
pub returns-then-out-listing_size : goal.returns-then-out-listing_size
returns-then-out-listing_size c =
    let a = c.args in
    let z = a.state.now in
    let t : Tables = tables_of a.frames.now z a.count a.links.now c.judge_linked.new.values c.judge_linked.new.positions in
    let good : Assembled t = assembled_by _ _ c.in_ok-judge_linked.was c.judge_linked.ensures in
    let beside = beside_in a.wanted.marked a.lines.now a.count in
    let o = result_of beside (program t) a.rewrites in
    let counted = c.image_length-image_size.ensures (carry_in z) (owners_in z) (offsets_in z) _ _ good.ready (assembled_encodes t good)
    ∙ ap length (image_result t good beside a.rewrites) in
    elim c.then-out-listing_size.branch [
      | then-out-listing_size-via-then-out-listing_size w ↦ fitted_listing a.count a.wanted.list o a.out.now a.image.now
          (omega (arith, w.if-out-listing_size.true, text_counted c))
      | then-out-listing_size-via-else-out-listing_size+then-image-image_size w ↦ fitted_image a.count a.wanted.list o a.out.now a.image.now
          (omega (arith, w.if-image-image_size.true, counted))
      | then-out-listing_size-via-else-out-listing_size+else-image-image_size+then-wanted-count_stems w ↦
          fitted_list a.count a.wanted.list o a.out.now a.image.now
          (omega (arith, w.if-wanted-count_stems.true, w.count_stems.ensures ∙ ap length (stems_result beside t.slots a.rewrites good.ready.sound.held)))
    ]

pub write_image-requires : goal.write_image-requires
write_image-requires c =
    let a = c.args in
    let z = a.state.now in
    let t : Tables = tables_of a.frames.now z a.count a.links.now c.judge_linked.new.values c.judge_linked.new.positions in
    let good : Assembled t = assembled_by _ _ c.in_ok-judge_linked.was c.judge_linked.ensures in
    let beside = beside_in a.wanted.marked a.lines.now a.count in
    let counted = c.image_length-image_size.ensures (carry_in z) (owners_in z) (offsets_in z) _ _ good.ready (assembled_encodes t good)
    ∙ ap length (image_result t good beside a.rewrites) in (
      good.ready,
      assembled_encodes t good,
      omega (arith, counted, ap length (image_result t good beside a.rewrites)),
    )

pub returns : goal.returns
returns c =
    let a = c.args in
    let z = a.state.now in
    let t : Tables = tables_of a.frames.now z a.count a.links.now c.judge_linked.new.values c.judge_linked.new.positions in
    let good : Assembled t = assembled_by _ _ c.in_ok-judge_linked.was c.judge_linked.ensures in
    let beside = beside_in a.wanted.marked a.lines.now a.count in
    let text = c.text_length-listing_size.ensures beside.lines (offsets_in z) good.ready.sound ∙ ap length (listing_result beside t.slots a.rewrites) in
    let counted = c.image_length-image_size.ensures (carry_in z) (owners_in z) (offsets_in z) _ _ good.ready (assembled_encodes t good)
    ∙ ap length (image_result t good beside a.rewrites) in
    let stems = c.count_stems.ensures ∙ ap length (stems_result beside t.slots a.rewrites good.ready.sound.held) in
    fitted_whole a.count a.wanted.list (result_of beside (program t) a.rewrites) a.out.now a.image.now c.text_length-listing_size.result
    a.rewrites c.image_length-image_size.result _ _ (omega (arith, text)) (omega (arith, counted)) (omega (arith, stems))
    text (count_result beside (program t) a.rewrites) counted
    (c.write_text.ensures ∙ ap (λ y. front y a.out.now) (listing_result beside t.slots a.rewrites))
    (c.write_image.ensures ∙ ap (λ y. front y a.image.now) (image_result t good beside a.rewrites))
