-- `read_line` meets its contract: each way through it is one of document 01's judgements, in its order. Assumes nothing.
use mathlib.Core.Path.{◌≡◌, sym, ap, ◌∙◌}
use Prim.Native.Nat.{ℕ, ◌*◌, ◌≤◌}
use native.Mathlib.Nat.{mul-le-mul_right}
use native.Mathlib.Omega.{arith}
use lib.ListN.{length, set, length-set}
use lib.Seq.{length-take-le}
use Rattle.std.specs.Prelude.{Err, Ok}
use Rattle.std.proofs.Common.{rules}
use Rattle.std.proofs.lemmas.Result.{err_from_is_err_and}
use Rattle.rules.specs.Listing.{unhex, source_line}
use Rattle.listing.specs.Reading.{kept_of}
use Rattle.laws.proofs.Tests.{clash}
use Rattle.listing.specs.Form.{form_of}
use Rattle.listing.proofs.FirstLine.{line_within}
use Rattle.listing.proofs.OneLine.{lined_of, passed_on, as_first, line_over, line_ill, line_short, line_digits, line_few, line_long, line_room, line_judged, line_places, line_sizes, kept_size, is_one}
use mathlib.Core.Bool.{not}
use Rattle.listing.proofs.reading.read_line.Goals as goal

-- b is at most 4, and i at most 1,024
small : (b i : ℕ) → b ≤ 4 → i ≤ 1024 → b * i ≤ 4096
small b i h k = omega (arith, mul-le-mul_right i h)

pub slice_bounds-line-end : goal.slice_bounds-line-end
slice_bounds-line-end c =
    let text = c.args.text.now in
    let n = c.line_length-n.result in
    sym (length-take-le n text (omega (arith, c.line_length-n.ensures, line_within text)))

pub returns-then-not-within_limits : goal.returns-then-not-within_limits
returns-then-not-within_limits c =
    record {
      line = line_over (form_of c.args.marked) c.args.text.now c.requires.0 c.line_length-n.ensures c.line_bytes-b.ensures.0 c.from.ensures
          c.within_limits.ensures (ap not c.if-not-within_limits.true);
      source = tt;
      lengths = (c.requires.1, c.requires.2, c.requires.3);
    }

pub returns-then-not-well_formed : goal.returns-then-not-well_formed
returns-then-not-well_formed c =
    record {
      line = line_ill (form_of c.args.marked) c.args.text.now c.requires.0 c.line_length-n.ensures c.line_bytes-b.ensures.0 c.from.ensures
          c.within_limits.ensures (ap not c.if-not-within_limits.false) c.well_formed-2.ensures (ap not c.if-not-well_formed.true);
      source = tt;
      lengths = (c.requires.1, c.requires.2, c.requires.3);
    }

pub returns-then-line-b : goal.returns-then-line-b
returns-then-line-b c =
    record {
      line = line_short (form_of c.args.marked) c.args.text.now c.requires.0 c.line_length-n.ensures c.line_bytes-b.ensures.0
          c.from.ensures c.within_limits.ensures (ap not c.if-not-within_limits.false) c.well_formed-2.ensures
          (ap not c.if-not-well_formed.false) c.if-line-b.true;
      source = tt;
      lengths = (c.requires.1, c.requires.2, c.requires.3);
    }

pub source_line-requires : goal.source_line-requires
source_line-requires c = (
  line_digits (form_of c.args.marked) c.args.text.now c.requires.0 c.line_length-n.ensures c.line_bytes-b.ensures.0 c.from.ensures
      c.within_limits.ensures (ap not c.if-not-within_limits.false) c.well_formed-2.ensures (ap not c.if-not-well_formed.false),
  line_long (form_of c.args.marked) c.args.text.now c.requires.0 c.line_length-n.ensures c.line_bytes-b.ensures.0 c.from.ensures
      c.within_limits.ensures (ap not c.if-not-within_limits.false) c.well_formed-2.ensures (ap not c.if-not-well_formed.false)
      c.if-line-b.false c.requires.1 c.requires.2,
)

pub bounds-lines-i : goal.bounds-lines-i
bounds-lines-i c =
    omega (
      arith,
      line_few (form_of c.args.marked) c.args.text.now c.requires.0 c.line_length-n.ensures c.line_bytes-b.ensures.0
          c.from.ensures c.within_limits.ensures (ap not c.if-not-within_limits.false) c.well_formed-2.ensures
          (ap not c.if-not-well_formed.false),
      c.requires.3,
    )

pub add_frame-requires : goal.add_frame-requires
add_frame-requires c =
    line_room (form_of c.args.marked) c.args.text.now c.requires.0 c.line_length-n.ensures c.line_bytes-b.ensures.0 c.from.ensures
    c.within_limits.ensures (ap not c.if-not-within_limits.false) c.well_formed-2.ensures (ap not c.if-not-well_formed.false)
    c.if-line-b.false c.requires.1 c.requires.2

pub keep-requires : goal.keep-requires
keep-requires c =
    let sizes = line_sizes (form_of c.args.marked) c.args.text.now c.requires.0 c.line_length-n.ensures c.line_bytes-b.ensures.0
    c.from.ensures c.within_limits.ensures (ap not c.if-not-within_limits.false) c.well_formed-2.ensures
    (ap not c.if-not-well_formed.false) c.if-line-b.false c.requires.1 c.requires.2 c.add_frame.ensures.stored in
    let small = line_places (form_of c.args.marked) c.args.text.now c.requires.0 c.line_length-n.ensures c.line_bytes-b.ensures.0
    c.from.ensures c.within_limits.ensures (ap not c.if-not-within_limits.false) c.well_formed-2.ensures
    (ap not c.if-not-well_formed.false) c.if-line-b.false c.requires.1 c.requires.2 _ ((passed_on c.args.i c.add_frame.result c.map_err.result _ c.map_err.ensures.cases (λ e r h. search rules)).reads _ c.in_ok-statement.was) c.add_frame.ensures.read in (
      line_few (form_of c.args.marked) c.args.text.now c.requires.0 c.line_length-n.ensures c.line_bytes-b.ensures.0 c.from.ensures
          c.within_limits.ensures (ap not c.if-not-within_limits.false) c.well_formed-2.ensures (ap not c.if-not-well_formed.false),
      sizes.1,
      small 1,
      small 2,
    )

pub returns : goal.returns
returns c =
    let told = (passed_on c.args.i c.add_frame.result c.map_err.result _ c.map_err.ensures.cases (λ e r h. search rules)).reads _ c.in_ok-statement.was in
    let it = c.in_ok-statement.statement in
    let mid = c.add_frame.new.starts in
    let sizes = line_sizes (form_of c.args.marked) c.args.text.now c.requires.0 c.line_length-n.ensures c.line_bytes-b.ensures.0
    c.from.ensures c.within_limits.ensures (ap not c.if-not-within_limits.false) c.well_formed-2.ensures
    (ap not c.if-not-well_formed.false) c.if-line-b.false c.requires.1 c.requires.2 c.add_frame.ensures.stored in
    let kept = c.keep.ensures in record {
      line = line_judged (form_of c.args.marked) c.args.text.now c.requires.0 c.line_length-n.ensures c.line_bytes-b.ensures.0
          c.from.ensures c.within_limits.ensures (ap not c.if-not-within_limits.false) c.well_formed-2.ensures
          (ap not c.if-not-well_formed.false) c.if-line-b.false c.requires.1 c.requires.2 (Ok tt) (ap (lined_of c.args.i) told)
          c.add_frame.ensures.stored
          (λ y e. kept ∙ ap (kept_of mid c.args.i) (is_one it y (sym told ∙ e))) c.add_frame.ensures.read;
      source = as_first c.args.text.now c.line_length-n.result c.line_length-n.ensures (λ l. set c.args.lines.now c.args.i
          c.source_line.result ≡ set c.args.lines.now c.args.i (source_line (form_of c.args.marked) (unhex l.chars)))
          (ap (set c.args.lines.now c.args.i) c.source_line.ensures);
      lengths = (
        sizes.0,
        ap length kept ∙ kept_size mid c.args.i it ∙ sizes.1,
        length-set c.args.lines.now c.args.i c.source_line.result
            ∙ c.requires.3,
      );
    }

pub returns-in_err-statement : goal.returns-in_err-statement
returns-in_err-statement c =
    let sizes = line_sizes (form_of c.args.marked) c.args.text.now c.requires.0 c.line_length-n.ensures c.line_bytes-b.ensures.0
    c.from.ensures c.within_limits.ensures (ap not c.if-not-within_limits.false) c.well_formed-2.ensures
    (ap not c.if-not-well_formed.false) c.if-line-b.false c.requires.1 c.requires.2 c.add_frame.ensures.stored in
    let p = err_from_is_err_and c.from_residual.result c.from_residual.ensures.1 in
    let told = (passed_on c.args.i c.add_frame.result c.map_err.result _ c.map_err.ensures.cases (λ e r h. search rules)).refused p.0
    (c.in_err-statement.was ∙ ap Err (sym p.2)) in
    rw p.1
    record {
      line = line_judged (form_of c.args.marked) c.args.text.now c.requires.0 c.line_length-n.ensures c.line_bytes-b.ensures.0
          c.from.ensures c.within_limits.ensures (ap not c.if-not-within_limits.false) c.well_formed-2.ensures
          (ap not c.if-not-well_formed.false) c.if-line-b.false c.requires.1 c.requires.2 {starts' = c.add_frame.new.starts}
          (Err p.0) told c.add_frame.ensures.stored
          (λ y e. clash (let z = sym (ap (lined_of c.args.i) e) ∙ told in cc)) c.add_frame.ensures.read;
      source = tt;
      lengths = (sizes.0, sizes.1, length-set c.args.lines.now c.args.i c.source_line.result ∙ c.requires.3);
    }
