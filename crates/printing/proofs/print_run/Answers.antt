-- `printing::print_run` meets its contract, on every input.
use mathlib.Core.Path.{◌≡◌, ap, sym, ◌∙◌}
use native.Mathlib.Omega.{arith}
use lib.ListN.{length}
use borrow.Author.Rules.{rules}
use Rattle.std.specs.Prelude.{Result}
use Rattle.rules.specs.declared.Refusal.{Refusal}
use Rattle.rules.specs.declared.Sizes.{Sizes}
use Rattle.rules.specs.Output.{done_line}
use Rattle.printing.specs.Page.{LineFits, last_after}
use Rattle.printing.proofs.Pages.{done_fits, part_room, line_behind, lent_printable, lent_printed}
use Rattle.printing.proofs.print_run.Goals as goal

pub done_line-requires : goal.done_line-requires
done_line-requires c =
    let a = c.args in
    let s = c.in_ok-sizes.sizes in
    let page = c.run_into.new.page in
    let size : length page ≡ 62482 = search rules in
    let fits : LineFits s 62482 =
    done_fits _ s 62482 c.in_ok-sizes.was (lent_printable a.asked a.listing.now a.page.now a.image.now _ _ _ (search rules) c.run_into.ensures 62482 (omega arith)) in
    (fits.rewrites, fits.image, rw size at (part_room page s.listing 13 (omega (arith, fits.listing, size))))

pub returns : goal.returns
returns c =
    let a = c.args in
    let s = c.in_ok-sizes.sizes in
    let page = c.run_into.new.page in
    let size : length page ≡ 62482 = search rules in
    let behind = rw size at (line_behind (done_line s.rewrites s.image) page c.done_line.new.out s.listing) in
    let whole = behind c.done_line.ensures ∙ sym (ap (λ (r : Result Sizes Refusal). last_after r page) c.in_ok-sizes.was) in
    rw (← c.in_ok-sizes.was) (lent_printed a.asked a.listing.now a.page.now a.image.now _ _ _ (search rules) c.run_into.ensures _ whole)
