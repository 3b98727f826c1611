-- `readback::entry::write_all` meets its contract: the org's line, and the other lines behind it. Assumes nothing.
use mathlib.Core.Path.{◌≡◌, sym, ap, ◌∙◌}
use mathlib.Core.List.{List}
use Prim.Native.Nat.{ℕ}
use native.Mathlib.Omega.{arith}
use lib.ListN.{length}
use Rattle.rules.specs.Programs.{Program, org}
use Rattle.rules.specs.Output.{frame_of, line_of}
use Rattle.digits.specs.Digits.{laid}
use Rattle.digits.proofs.Rooms.{laid_more}
use Rattle.readback.specs.ReadBack.{statements_of, listing_of}
use Rattle.readback.specs.Walks.{all_on}
use Rattle.readback.proofs.Orgs.{WithOrg, org_line, with_org, without_org}
use Rattle.readback.proofs.entry.write_all.Goals as goal

behind : (i : goal.After-write_org-arg-1) → WithOrg i.args.image.now i.args.start.0
behind i = with_org i.args.image.now i.args.start.0
    (sym i.has_org.ensures ∙ i.if-has_org.true)

behind_2 : (i : goal.After-write_from-arg-1) → WithOrg i.args.image.now i.args.start.0
behind_2 i = with_org i.args.image.now i.args.start.0
    (sym i.has_org.ensures ∙ i.if-has_org.true)

behind_3 : (i : goal.After-slice_known-then-has_org-2-1) → WithOrg i.args.image.now i.args.start.0
behind_3 i = with_org i.args.image.now i.args.start.0
    (sym i.has_org.ensures ∙ i.if-has_org.true)

alone : (i : goal.After-write_from-arg-2-1)
    → statements_of i.args.image.now i.args.start.0 ≡ all_on i.args.image.now i.args.start.0
alone i = without_org i.args.image.now i.args.start.0
    (sym i.has_org.ensures ∙ i.if-has_org.false)

alone_2 : (i : goal.After-slice_known-2-1)
    → statements_of i.args.image.now i.args.start.0 ≡ all_on i.args.image.now i.args.start.0
alone_2 i = without_org i.args.image.now i.args.start.0
    (sym i.has_org.ensures ∙ i.if-has_org.false)

pub write_org-requires : goal.write_org-requires
write_org-requires c =
    let o = behind c in
    (omega (arith, o.inside, c.requires.1), omega (arith, o.length_is, c.requires.2))

pub write_from-requires : goal.write_from-requires
write_from-requires c =
    let o = behind_2 c in
    (c.requires.0, c.requires.1, omega (arith, o.length_is, c.requires.2, c.write_org.auto.out))

pub returns-then-has_org : goal.returns-then-has_org
returns-then-has_org c =
    let o = behind_3 c in
    let x = line_of (frame_of (org c.args.start.0)) in
    let rest = listing_of (all_on c.args.image.now c.args.start.0) in
    c.write_from.ensures ∙ ap (λ (l : List ℕ). laid l 7 rest) c.write_org.ensures
    ∙ laid_more c.args.listing.now x rest 0 7 (omega (arith, org_line c.args.start.0)) (omega (arith, o.length_is, c.requires.2))
    ∙ ap (laid c.args.listing.now 0) (sym o.listing)

pub write_from-requires-2 : goal.write_from-requires-2
write_from-requires-2 c =
    (c.requires.0, c.requires.1, omega (arith, c.requires.2, ap (λ (p : Program). length (listing_of p)) (alone c)))

pub returns : goal.returns
returns c =
    c.write_from-2.ensures ∙ ap (λ (p : Program). laid c.args.listing.now 0 (listing_of p)) (sym (alone_2 c))
