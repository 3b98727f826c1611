-- `entries::optimizing::judge_read` meets its contract: what is judged good is anchored, and what is anchored stands.
use mathlib.Core.Path.{◌≡◌, sym, ap, ◌∙◌, subst}
use mathlib.Core.Bool.{true}
use mathlib.Core.List.{List}
use Prim.Native.Nat.{ℕ}
use lib.ListN.{length}
use Rattle.std.proofs.lemmas.Result.{err_from_is_err_and}
use Rattle.rules.specs.Judging.{judge, assembles}
use Rattle.slots.specs.Slots.{Slots, program_of}
use Rattle.slots.specs.State.{starts_in, forms_in, carry_in, owners_in, offsets_in, table_of}
use Rattle.slots.proofs.State.{table_labelled}
use Rattle.slots.specs.Links.{contexts_read, Beside, Together}
use Rattle.image.specs.Tables.{Tables, tables_of}
use Rattle.env.specs.Tables.{Any}
use Rattle.env.proofs.Programs.{length_program}
use Rattle.asm.specs.Assembling.{InPlace}
use Rattle.asm.proofs.Carrying.{placed_any}
use Rattle.attempts.specs.Standing.{Standing}
use Rattle.output.specs.Lines.{beside_in}
use Rattle.finishing.specs.Ending.{Assembled}
use Rattle.finishing.proofs.Ended.{bad_no, assembled_by}
use Rattle.finishing.proofs.Deliveries.{delivers_no}
use Rattle.entries.proofs.Stands.{own_together, anchored_stands}
use Rattle.entries.proofs.Results.{fitted_program, judged_no, judged_delivers, judged_left, left_no}
use Rattle.entries.proofs.optimizing.judge_read.Goals as goal

abbrev here : (c : goal.After-rewrite_anchored-arg-3-1) → Slots
here c = table_of c.args.frames.now c.args.state.now c.args.count

-- the program is good
module _ (e : goal.After-rewrite_anchored-arg-3-1) where
  abbrev state : List (List ℕ)
  state = e.args.state.now

  abbrev tables : Tables
  tables = tables_of e.args.frames.now state e.args.count e.judge.new.links e.judge.new.values e.judge.new.positions

  good : Assembled tables
  good = assembled_by _ _ e.in_ok-judge.was e.judge.ensures.judged_as

  placed : Any e.args.frames.now (starts_in state) e.args.count (forms_in state) (λ t. InPlace t)
  placed =
      placed_any e.args.frames.now (starts_in state) e.args.count (forms_in state) (carry_in state) (owners_in state) (offsets_in state)
      (contexts_read e.args.frames.now (starts_in state) e.args.count) (record { context = good.ready.context })

-- what is anchored stands
module _ (a : goal.After-rewrite_anchored-arg-3-1) where
  abbrev anchored : List (List ℕ)
  anchored = a.anchor.new.next

  abbrev new : Slots
  new = table_of a.args.frames.now anchored a.args.count

  stands : Standing new × (assembles (program_of new) ≡ true)
  stands =
      let l = a.anchor.ensures.1 in
      let is = table_labelled a.args.frames.now (state a) anchored a.args.count l in
      anchored_stands (here a) new a.anchor.ensures.0 (good a).good
      (ap length l.forms ∙ a.requires.2.forms) (ap length l.carry ∙ a.requires.2.carry)
      (subst (λ (z : Slots). InPlace z) (sym is) (placed a _ _ _)) (subst (λ (z : Slots). Together z) (sym is) (own_together _ a.requires.1.own))

  beside : Beside a.args.frames.now (starts_in anchored) a.args.count a.judge.new.links
  beside =
      subst (λ (z : List ℕ). Beside a.args.frames.now z a.args.count a.judge.new.links)
      (sym a.anchor.ensures.1.starts) (a.judge.ensures.beside a.in_ok-judge.was)

pub returns-in_err-judge : goal.returns-in_err-judge
returns-in_err-judge c =
    let p = program_of (table_of c.args.frames.now c.args.state.now c.args.count) in
    let out = c.args.out.now in
    let image = c.args.image.now in
    let beside = beside_in c.args.wanted.marked c.args.lines.now c.args.count in
    let no_good = bad_no (judge p) _ (sym c.in_err-judge.was ∙ c.judge.ensures.judged_as.answer) in
    let e = judged_no c.args.wanted.settings beside (length out) (length image) c.args.wanted.list p _ no_good in
    let r = err_from_is_err_and c.from_residual.result c.from_residual.ensures.1 in
    rw (r.1, r.2) (delivers_no _ _ out image e, left_no _ _ _ c.args.count e)

pub rewrite_anchored-requires : goal.rewrite_anchored-requires
rewrite_anchored-requires c = ((stands c).0, (stands c).1, beside c)

pub returns : goal.returns
returns c =
    let asked = c.args.wanted.settings in
    let room = c.args.wanted.list in
    let n = c.args.count in
    let t = table_of c.args.frames.now c.args.state.now n in
    let marks = beside_in c.args.wanted.marked c.args.lines.now n in
    let d = fitted_program asked marks _ _ n room c.anchor.ensures.0.program c.rewrite_anchored.ensures in
    let good = (assembled_by _ _ c.in_ok-judge.was c.judge.ensures.judged_as).good in (
      judged_delivers asked marks (program_of t) n room (length_program t) good c.args.out.now c.args.image.now d.0,
      judged_left asked marks (program_of t) n room (length_program t) good c.args.out.now c.args.image.now _ n d.1,
    )
