-- `entry::salvage` meets its contract: the rooms, then the mark, then the lines. Assumes nothing.
use mathlib.Core.Path.{◌≡◌, sym, ap, ◌∙◌}
use mathlib.Core.Bool.{Bool}
use mathlib.Core.List.{List, ◌++◌}
use Prim.Native.Nat.{ℕ, ◌+◌}
use native.Mathlib.Omega.{arith}
use lib.ListN.{length}
use Rattle.rules.specs.Output.{mark_of}
use Rattle.listing.specs.Form.{is_marked, form_of}
use Rattle.salvage.specs.Entry.{extent_of}
use Rattle.digits.specs.Digits.{laid}
use Rattle.digits.proofs.Rooms.{laid_more}
use Rattle.salvage.specs.declared.walks.Extent.{Extent}
use Rattle.salvage.specs.Salvage.{Salvaged, salvaged}
use Rattle.salvage.specs.Turns.{from_on, mark_length}
use Rattle.salvage.proofs.Steps.{extent_is}
use Rattle.salvage.proofs.Whole.{mark_size, mark_there, whole_listing, whole_length, whole_count, whole_report, no_listing_room, no_report_room, written}
use Rattle.salvage.proofs.entry.salvage.Goals as goal
use Rattle.salvage.proofs.entry.salvage.Goals.{then-listing-chars-via-then-listing-chars, then-listing-chars-via-else-listing-chars+then-report-rest}

-- what was measured behind the mark is what comes out, the mark's own length apart
module _ (text : List ℕ) (b : Bool) (e : b ≡ is_marked text) (n : ℕ) (k : n ≡ mark_length b) (r : Extent) (m : r ≡ extent_of (from_on (form_of b) text n 0 0)) where
  abbrev from : ℕ → Salvaged
  from j = from_on (form_of b) text j 0 0

  rest_is : (r.statements ≡ (from n).count) × (r.listing ≡ length (from n).listing) × (r.report ≡ length (from n).report)
  rest_is = (ap (λ (y : Extent). y.statements) m, ap (λ (y : Extent). y.listing) m, ap (λ (y : Extent). y.report) m)

  sized : (r.statements ≡ (salvaged text).count) × (n + r.listing ≡ length (salvaged text).listing) × (r.report ≡ length (salvaged text).report)
  sized = (
    rest_is.0 ∙ ap (λ (j : ℕ). (from j).count) k ∙ sym (whole_count text b e),
    omega (arith, rest_is.1, ap (λ (j : ℕ). length (from j).listing) k, whole_length text b e),
    rest_is.2 ∙ ap (λ (j : ℕ). length (from j).report) k ∙ ap length (sym (whole_report text b e)),
  )

pub measure-rest-requires : goal.measure-rest-requires
measure-rest-requires c =
    omega (arith, c.mark_length-start.ensures, mark_there c.args.text.now c.new_form-marked.result c.new_form-marked.ensures.0)

pub returns-then-listing-chars : goal.returns-then-listing-chars
returns-then-listing-chars c =
    let a = c.args in
    let g = sized a.text.now _ c.new_form-marked.ensures.0 _ c.mark_length-start.ensures _ c.measure-rest.ensures.0 in
    elim c.then-listing-chars.branch [
      | then-listing-chars-via-then-listing-chars w ↦
          no_listing_room a.text.now a.listing.now a.report.now c.measure-rest.result.statements g.0 (omega (arith, w.if-listing-chars.true, g.1))
      | then-listing-chars-via-else-listing-chars+then-report-rest w ↦
          no_report_room a.text.now a.listing.now a.report.now c.measure-rest.result.statements g.0 (omega (arith, w.if-report-rest.true, g.2))
    ]

pub write_from-requires : goal.write_from-requires
write_from-requires c =
    let r = rest_is c.args.text.now _ c.new_form-marked.ensures.0 _ c.mark_length-start.ensures _ c.measure-rest.ensures.0 in (
      omega (arith, c.mark_length-start.ensures, mark_there c.args.text.now _ c.new_form-marked.ensures.0),
      omega (arith, r.1, c.put_mark.auto.listing),
      omega (arith, r.2),
    )

pub returns : goal.returns
returns c =
    let a = c.args in
    let text = a.text.now in
    let b = c.new_form-marked.result in
    let e = c.new_form-marked.ensures.0 in
    let n = c.mark_length-start.result in
    let x = from_on (form_of b) text n 0 0 in
    let is : x ≡ from_on (form_of b) text (mark_length b) 0 0 = ap (λ (k : ℕ). from_on (form_of b) text k 0 0) c.mark_length-start.ensures
    in
    let g = sized text b e n c.mark_length-start.ensures _ c.measure-rest.ensures.0 in
    let r = rest_is text b e n c.mark_length-start.ensures _ c.measure-rest.ensures.0 in
    written text a.listing.now a.report.now
    (
    record {
      statements = c.measure-rest.result.statements;
      listing = n + c.measure-rest.result.listing;
      report = c.measure-rest.result.report;
    })
    c.write_from.new.listing c.write_from.new.report
    (omega (arith, g.1)) (omega (arith, g.2))
    (extent_is (salvaged text) c.measure-rest.result.statements (n + c.measure-rest.result.listing) c.measure-rest.result.report
    g.0 g.1 g.2)
    (c.write_from.ensures.0 ∙ ap (λ (d : List ℕ). laid d n x.listing) c.put_mark.ensures
    ∙ laid_more a.listing.now (mark_of (form_of b)) x.listing 0 n (omega (arith, mark_size b, c.mark_length-start.ensures))
    (omega (arith, r.1))
    ∙ ap (laid a.listing.now 0) (ap (λ (y : Salvaged). mark_of (form_of b) ++ y.listing) is ∙ sym (whole_listing text b e)))
    (c.write_from.ensures.1 ∙ ap (laid a.report.now 0) (ap (λ (y : Salvaged). y.report) is ∙ sym (whole_report text b e)))
