-- `audit::holding::hold` meets its contract: each answer is the finding at the place where the count stops.
use mathlib.Core.Path.{sym, ap, ◌∙◌}
use lib.ListN.{get_or}
use Rattle.rules.specs.declared.Place.{Place}
use Rattle.std.specs.Prelude.{ℕ, Option}
use Rattle.audit.specs.declared.Finding.TheVariants.{Differs, Short}
use Rattle.rules.specs.Layout.{origin_from}
use Rattle.slots.specs.Slots.{slots, program_of}
use Rattle.slots.specs.State.{starts_in, forms_in}
use Rattle.audit.specs.Held.{at_address, finding_as}
use Rattle.audit.proofs.Findings.{held_differs, held_short, held_long, held_same_is}
use Rattle.audit.proofs.holding.hold.Goals as goal

pub returns-then-a-shipped : goal.returns-then-a-shipped
returns-then-a-shipped c carry owners offsets =
    let w = c.args.wanted.now in
    let h = c.args.shipped.now in
    let n = c.count_alike-a.result in
    let p = program_of (slots c.args.frames.now (starts_in c.args.state.now) c.args.count (forms_in c.args.state.now) carry owners offsets)
    in
    ap (λ (x : Option (Place × ℕ)). Differs (at_address n) (get_or w n 0) (get_or h n 0) x) (c.origin_of-origin.ensures carry owners offsets).answer
    ∙ ap finding_as (sym (held_differs (origin_from 0 0 p) w h n c.count_alike-a.ensures.0 c.if-a-wanted.true c.if-a-shipped.true))

pub returns-then-a-wanted : goal.returns-then-a-wanted
returns-then-a-wanted c carry owners offsets =
    let w = c.args.wanted.now in
    let h = c.args.shipped.now in
    let n = c.count_alike-a.result in
    let p = program_of (slots c.args.frames.now (starts_in c.args.state.now) c.args.count (forms_in c.args.state.now) carry owners offsets)
    in
    ap (λ (x : Option (Place × ℕ)). Short (at_address n) x) (c.origin_of-origin.ensures carry owners offsets).answer
    ∙ ap finding_as (sym (held_short (origin_from 0 0 p) w h n c.count_alike-a.ensures.0 c.if-a-wanted.true c.if-a-shipped.false))

pub returns-then-a-shipped-2 : goal.returns-then-a-shipped-2
returns-then-a-shipped-2 c carry owners offsets =
    ap finding_as (sym (held_long _ c.args.wanted.now c.args.shipped.now c.count_alike-a.result c.count_alike-a.ensures.0
    c.if-a-wanted.false c.if-a-shipped-2.true))

pub returns : goal.returns
returns c carry owners offsets =
    ap finding_as (sym (held_same_is _ c.args.wanted.now c.args.shipped.now c.count_alike-a.result c.count_alike-a.ensures.0
    c.if-a-wanted.false c.if-a-shipped-2.false))
