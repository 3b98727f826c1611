-- `patterns::shapes::inverted_shape` meets its contract: each way out is a way in which the definition has none, or what its fold leaves.
use mathlib.Core.Path.{◌≡◌, sym, ◌∙◌}
use mathlib.Core.Bool.{Bool, true, false}
use mathlib.Core.Option.{Option, some}
use mathlib.Core.List.{[], ◌∷◌}
use Prim.Native.Nat.{ℕ}
use lib.ListN.{set}
use Rattle.laws.specs.Options.{given}
use Rattle.laws.proofs.Options.{given_true, given_false}
use Rattle.rules.specs.Names.{context_at}
use Rattle.rules.specs.Programs.{Program}
use Rattle.rules.specs.Rewriting.{names_bare, aimed, drop_all}
use Rattle.slots.specs.Slots.{Slots, program_of}
use Rattle.patterns.specs.Targets.{instr_at}
use Rattle.patterns.specs.Shapes.{Shape, inverted_shape}
use Rattle.patterns.specs.Matches.{OpeningFound, InvertedBegins}
use Rattle.patterns.proofs.Instructions.{carried_target}
use Rattle.patterns.proofs.Naming.{bare_to}
use Rattle.patterns.proofs.Contexts.{jump_context, landing_context}
use Rattle.patterns.proofs.Folds.{opening_found, inverted_is, told_by}
use Rattle.slots.specs.State.{forms_in, carry_in, owners_in, offsets_in, table_of}
use Rattle.patterns.proofs.shapes.inverted_shape.Goals as goal

pub names_bare-requires : goal.names_bare-requires
names_bare-requires c =
    let t : Slots = table_of c.args.frames.now c.args.state.now c.args.count in
    let o : OpeningFound t c.args.from c.args.at.0 c.in_ok-jump.jump.0 c.in_ok-jump.m.0 c.in_ok-jump.field-0-2 =
    opening_found t c.args.at.0 c.args.from c.in_ok-jump.was
    (c.opening_at.ensures (carry_in c.args.state.now) (owners_in c.args.state.now) (offsets_in c.args.state.now)) in
    let m = o.branches in
    (c.requires.0.held, c.requires.2, carried_target t c.requires.0 c.args.at.0 c.requires.2 m.kind m.transfer, c.requires.1.beside.full)

pub returns : goal.returns
returns c =
    let t : Slots = table_of c.args.frames.now c.args.state.now c.args.count in
    let i : ℕ = c.args.at.0 in
    let j : ℕ = c.in_ok-jump.jump.0 in
    let m : ℕ = c.in_ok-jump.m.0 in
    let n : ℕ = c.in_ok-jump.field-0-2 in
    let p : Program = program_of t in
    let o : OpeningFound t c.args.from i j m n =
    opening_found t i c.args.from c.in_ok-jump.was
    (c.opening_at.ensures (carry_in c.args.state.now) (owners_in c.args.state.now) (offsets_in c.args.state.now)) in
    -- the label and the unconditional stand in the branch's context
    let jump_together : context_at p j ≡ context_at p i = jump_context t i j o.jumps in
    let label_together : context_at p m ≡ context_at p i = landing_context t j m c.requires.0.held n o.lands ∙ jump_together in
    let bare : Bool = names_bare n (instr_at t i) in
    let standing : (to : ℕ) → Option Shape = λ to. some (
    record {
      last = m;
      folded = drop_all (j ∷ []) (set p i (aimed to (instr_at t i) (instr_at t j)));
    }) in
    let shape : (to : ℕ) → inverted_shape c.args.from to p i ≡ given bare (standing to) =
    λ to. inverted_is c.args.from to p i j o.jumps.next_is m o.lands.next_is (instr_at t i) (instr_at t j) n o.is o.jumps.is o.lands.is in
    -- the test, as the definition has it
    let tested : c.names_bare.result ≡ bare =
    c.names_bare.ensures n
    (bare_to t c.requires.0 (λ k. (c.type_inv.frames k).fits) c.args.links.now c.requires.1 m n o.lands.inside o.lands.is i o.branches
    (sym label_together))
    (forms_in c.args.state.now) (offsets_in c.args.state.now) c.requires.0 o.branches.kind o.branches.transfer in
    told_by (InvertedBegins t c.args.from i) c.names_bare.result (c.in_ok-jump.jump, c.in_ok-jump.m) c.then_some.ensures
    (λ (e : c.names_bare.result ≡ true). record {
      jump_rises = o.jumps.rises;
      label_rises = o.lands.rises;
      inside = o.lands.inside;
      branches = o.branches;
      form = o.form;
      jumps = o.jumps.moves;
      together = jump_together;
      shape = λ to. shape to ∙ given_true bare (standing to) (sym tested ∙ e);
    })
    (λ (e : c.names_bare.result ≡ false) to. shape to ∙ given_false bare (standing to) (sym tested ∙ e))
