-- `read_listing` meets its contract: after i turns the tables hold the first i statements and their source lines, and what is left of the
-- text
-- gives the rest. Each turn leaves less of the text. Assumes nothing.
use mathlib.Core.Path.{◌∙◌}
use native.Mathlib.Numerals.{add-one}
use native.Mathlib.Omega.{arith}
use borrow.Author.Tests.{tests}
use Rattle.std.proofs.Common.{rules}
use lib.ListN.{set, length-set}
use lib.Seq.{get_or-set_same}
use Rattle.std.proofs.lemmas.Result.{err_from_is_err_and}
use Rattle.listing.specs.Form.{form_of}
use Rattle.listing.proofs.FirstLine.{rest_shorter}
use Rattle.listing.proofs.LineByLine.{at_first, at_next, at_refusal, at_end, lines_first, lines_next, lines_end}
use Rattle.listing.proofs.reading.read_listing.Goals as goal

pub loop-rest-init : goal.loop-rest-init
loop-rest-init c =
    let text = c.args.text.now in
    let starts = c.args.starts.now in
    let rest = c.after_mark-first.ensures in
    let m = c.new_form-marked.ensures.0 in (
      rw (rest, m) (at_first text c.args.frames.now (set starts 0 0) c.requires.0 (length-set starts 0 0 ∙ c.requires.1)
          (get_or-set_same starts 0 0 0 (omega (arith, c.requires.1)))),
      rw (rest, m) (lines_first text c.args.lines.now),
      c.requires.0,
      length-set starts 0 0 ∙ c.requires.1,
      c.requires.2,
    )

pub returns-in_err-read_line : goal.returns-in_err-read_line
returns-in_err-read_line c =
    let p = err_from_is_err_and c.from_residual.result c.from_residual.ensures.1 in
    rw (p.1, p.2)
    record {
      listed = at_refusal (form_of c.new_form-marked.result) c.args.text.now c.loop-rest.rest.now c.loop-rest.frames c.loop-rest.starts
          c.read_line.new.frames c.read_line.new.starts c.loop-rest.i c.loop-rest.invariant.0 (search (rules, tests))
          c.read_line.result _ c.read_line.ensures.line c.in_err-read_line.was;
      beside = tt;
      lengths = c.read_line.ensures.lengths;
    }

pub loop-rest-smaller : goal.loop-rest-smaller
loop-rest-smaller c = rw c.take_line-next.ensures (rest_shorter c.loop-rest.rest.now (search (rules, tests)))

pub loop-rest-preserved : goal.loop-rest-preserved
loop-rest-preserved c =
    let told = c.in_ok-read_line.was in
    let w = form_of c.new_form-marked.result in
    let next = at_next w c.args.text.now c.loop-rest.rest.now c.loop-rest.frames c.loop-rest.starts c.read_line.new.frames
    c.read_line.new.starts c.loop-rest.i c.loop-rest.invariant.0 (search (rules, tests)) c.read_line.result c.read_line.ensures.line told in
    let few = next.held.few in
    let lines = lines_next w c.args.text.now c.loop-rest.rest.now c.loop-rest.lines c.read_line.new.lines c.loop-rest.i
    c.loop-rest.invariant.1 (search (rules, tests)) (omega (arith, few, c.loop-rest.invariant.4)) c.read_line.result c.read_line.ensures.source
    told in (
      rw (c.take_line-next.ensures, add-one) next,
      rw (c.take_line-next.ensures, add-one) lines,
      c.read_line.ensures.lengths.0,
      c.read_line.ensures.lengths.1,
      c.read_line.ensures.lengths.2,
    )

pub returns : goal.returns
returns c =
    record {
      listed = at_end (form_of c.new_form-marked.result) c.args.text.now c.loop-rest.rest.now c.loop-rest.frames c.loop-rest.starts
          c.loop-rest.i c.loop-rest.invariant.0 (search (rules, tests));
      beside = lines_end (form_of c.new_form-marked.result) c.args.text.now c.loop-rest.rest.now c.loop-rest.lines c.loop-rest.i
          c.loop-rest.invariant.1 (search (rules, tests));
      lengths = (c.loop-rest.invariant.2, c.loop-rest.invariant.3, c.loop-rest.invariant.4);
    }
