-- `asm::candidates::assembles` meets its contract: it passes where positions, variables and encoding pass, no name being defined twice.
use mathlib.Core.Bool.{Bool, true, false}
use mathlib.Core.Path.{◌≡◌, sym, ◌∙◌}
use Rattle.laws.proofs.Tests.{false_true}
use Rattle.std.proofs.Common.{rules}
use Rattle.slots.specs.Links.{contexts_read}
use Rattle.slots.specs.State.{starts_in, forms_in, carry_in, owners_in, offsets_in, table_of}
use Rattle.asm.proofs.Carrying.{placed_any}
use Rattle.asm.proofs.Ending.{ready_of, filled_of, fails_settled, assembles_last}
use Rattle.asm.proofs.candidates.assembles.Goals as goal

pub settle_all-requires-clause-any : goal.settle_all-requires-clause-any
settle_all-requires-clause-any c carry owners offsets =
    (placed_any c.args.frames.now (starts_in c.args.state.now) c.args.count (forms_in c.args.state.now) (carry_in c.args.state.now)
    (owners_in c.args.state.now) (offsets_in c.args.state.now)
    (contexts_read c.args.frames.now (starts_in c.args.state.now) c.args.count) c.requires.1 carry owners offsets).context

pub encodes_all-requires : goal.encodes_all-requires
encodes_all-requires c =
    let t = table_of c.args.frames.now c.args.state.now c.args.count in
    let h = c.settle_all.ensures (carry_in c.args.state.now) (owners_in c.args.state.now) (offsets_in c.args.state.now) in (
      ready_of t _ _ _ c.requires.0 c.requires.2 c.requires.1 (filled_of t _ _ _ c.requires.4 c.requires.1 c.requires.3 _ c.if-settle_all.true h),
      c.requires.5,
    )

pub returns-then-settle_all : goal.returns-then-settle_all
returns-then-settle_all c =
    let t = table_of c.args.frames.now c.args.state.now c.args.count in
    let h = c.settle_all.ensures (carry_in c.args.state.now) (owners_in c.args.state.now) (offsets_in c.args.state.now) in
    let filled = filled_of t _ _ _ c.requires.4 c.requires.1 c.requires.3 _ c.if-settle_all.true h in
    (assembles_last t _ _ _ _ filled c.encodes_all.ensures, λ d. filled.place)

-- where 4 to 7 fail, the answer is no, however the code says it
refused : {A : Type 0} (r b : Bool) → r ≡ false → false ≡ b → (r ≡ b) × (r ≡ true → A)
refused r b fails e = (fails ∙ e, λ yes. false_true (sym fails ∙ yes))

pub returns-else-settle_all : goal.returns-else-settle_all
returns-else-settle_all c =
    let t = table_of c.args.frames.now c.args.state.now c.args.count in
    let h = c.settle_all.ensures (carry_in c.args.state.now) (owners_in c.args.state.now) (offsets_in c.args.state.now) in
    refused _ _ (search rules) (fails_settled t c.args.links.now _ _ c.requires.3 _ c.if-settle_all.false h)
