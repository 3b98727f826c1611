-- `starting::judge_and_anchor` meets its contract: what is anchored stands, and its contexts are those at hand.
use mathlib.Core.Path.{◌≡◌, sym, ap, ◌∙◌, subst}
use mathlib.Core.Bool.{true}
use mathlib.Core.List.{List}
use Prim.Native.Nat.{ℕ}
use lib.ListN.{length}
use Rattle.rules.specs.Judging.{assembles}
use Rattle.slots.specs.Slots.{Slots, program_of}
use Rattle.slots.specs.State.{starts_in, forms_in, carry_in, owners_in, offsets_in, table_of}
use Rattle.slots.proofs.State.{table_labelled}
use Rattle.slots.specs.Links.{contexts_read, Beside, Together}
use Rattle.image.specs.Tables.{Tables, tables_of}
use Rattle.env.specs.Tables.{Any}
use Rattle.asm.specs.Assembling.{InPlace}
use Rattle.asm.proofs.Carrying.{placed_any}
use Rattle.attempts.specs.Standing.{Standing}
use Rattle.finishing.specs.Ending.{Assembled}
use Rattle.entries.proofs.Stands.{own_together, anchored_stands}
use Rattle.finishing.proofs.Ended.{assembled_by}
use Rattle.starting.proofs.judge_and_anchor.Goals as goal

abbrev here : (c : goal.After-anchor) → Slots
here c = table_of c.args.frames.now c.args.state.now c.args.count

-- the program is good
module _ (e : goal.After-anchor) where
  abbrev state : List (List ℕ)
  state = e.args.state.now

  abbrev tables : Tables
  tables = tables_of e.args.frames.now state e.args.count e.judge.new.links e.judge.new.values e.judge.new.positions

  good : Assembled tables
  good = assembled_by _ _ e.in_ok-judge.was e.judge.ensures.judged_as

  placed : Any e.args.frames.now (starts_in state) e.args.count (forms_in state) (λ t. InPlace t)
  placed =
      placed_any e.args.frames.now (starts_in state) e.args.count (forms_in state) (carry_in state) (owners_in state) (offsets_in state)
      (contexts_read e.args.frames.now (starts_in state) e.args.count) (record { context = good.ready.context })

-- what is anchored stands
module _ (a : goal.After-anchor) where
  abbrev anchored : List (List ℕ)
  anchored = a.anchor.new.next

  abbrev new : Slots
  new = table_of a.args.frames.now anchored a.args.count

  stands : Standing new × (assembles (program_of new) ≡ true)
  stands =
      let l = a.anchor.ensures.1 in
      let is = table_labelled a.args.frames.now (state a) anchored a.args.count l in
      anchored_stands (here a) new a.anchor.ensures.0 (good a).good
      (ap length l.forms ∙ a.requires.2.forms) (ap length l.carry ∙ a.requires.2.carry)
      (subst (λ (z : Slots). InPlace z) (sym is) (placed a _ _ _)) (subst (λ (z : Slots). Together z) (sym is) (own_together _ a.requires.1.own))

  beside : Beside a.args.frames.now (starts_in anchored) a.args.count a.judge.new.links
  beside =
      subst (λ (z : List ℕ). Beside a.args.frames.now z a.args.count a.judge.new.links)
      (sym a.anchor.ensures.1.starts) (a.judge.ensures.beside a.in_ok-judge.was)

pub returns : goal.returns
returns a = (
  record {
    answer = sym a.in_ok-judge.was ∙ a.judge.ensures.judged_as.answer;
    starts = λ z. record { anchored = a.anchor.ensures.0.program; stands = (stands a).0; good = (stands a).1; beside = beside a };
  },
  a.anchor.ensures.1.starts,
)
