-- `optimize::shrinking::shrink` meets its contract: the names of a program that assembles stand, and the tables hold their values and how
-- deep its inner labels reach.
use mathlib.Core.Path.{◌≡◌, refl, sym, ◌∙◌}
use mathlib.Core.Bool.{false}
use borrow.Author.Rules.{rules}
use Rattle.std.specs.Prelude.{Result, Ok, Err, is_ok}
use Rattle.laws.proofs.Tests.{true_false}
use Rattle.rules.specs.declared.Refusal.{Refusal}
use Rattle.slots.specs.Slots.{Slots}
use Rattle.slots.specs.State.{carry_in, owners_in, offsets_in, table_of}
use Rattle.optimize.proofs.Names.{standing_placed, never_refused}
use Rattle.optimize.proofs.shrinking.shrink.Goals as goal

refused : {T E : Type 0} (r : Result T E) → is_ok r ≡ false → (q : E) × (r ≡ Err q)
refused (Err q) e = (q, refl)
refused (Ok x) e = true_false e

pub lay_and_define-requires : goal.lay_and_define-requires
lay_and_define-requires c =
    (c.requires.0.sound.held, search rules, search rules, c.requires.2, standing_placed _ _ _ _ _ _ _ c.requires.0)

pub returns-else-is_ok : goal.returns-else-is_ok
returns-else-is_ok c =
    let t : Slots = table_of c.args.frames.now c.args.state.now c.args.count in
    let no : (q : Refusal) × (c.lay_and_define.result ≡ Err q) =
    refused c.lay_and_define.result (sym c.is_ok.ensures.value ∙ c.if-is_ok.false) in
    never_refused t _ _ _ _ no.0 c.requires.1
    (c.lay_and_define.ensures (carry_in c.args.state.now) (owners_in c.args.state.now) (offsets_in c.args.state.now) c.requires.0.named)
    no.1
