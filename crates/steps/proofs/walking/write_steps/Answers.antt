-- `steps::walking::write_steps` meets its contract. The loop's invariant: the rewrites that were done are told, and the rest are those of the program
-- at hand. The measure is the bytes of its instructions.
use mathlib.Core.Path.{refl, ap, ◌∙◌}
use mathlib.Core.List.{List}
use native.Mathlib.Omega.{arith}
use Rattle.promises.proofs.Shorter.{step_shorter}
use Rattle.slots.specs.Slots.{Slots, program_of}
use Rattle.slots.specs.State.{table_of}
use Rattle.optimize.proofs.Ends.{few_bytes}
use Rattle.digits.specs.Digits.{laid}
use Rattle.steps.specs.Steps.{Rewrite, step_lines}
use Rattle.steps.proofs.Walks.{walked_start, walked_more, walked_inside, walked_line, walked_end, walked_room, walked_none, tried_some, tried_none}
use Rattle.steps.proofs.walking.write_steps.Goals as goal

abbrev here : (c : goal.After-slice_known-1) → Slots
here c = table_of c.args.frames.now c.args.state.now c.args.count

abbrev here_2 : (c : goal.Then-not-rewrite) → Slots
here_2 c = table_of c.args.frames.now c.args.state.now c.args.count

abbrev here_3 : (c : goal.After-put_change-arg-1) → Slots
here_3 c = table_of c.args.frames.now c.args.state.now c.args.count

abbrev here_4 : (c : goal.After-slice_known-in-loop-asked-1) → Slots
here_4 c = table_of c.args.frames.now c.args.state.now c.args.count

pub loop-asked-init : goal.loop-asked-init
loop-asked-init c =
    (c.requires.0, walked_start c.args.asked (program_of (here c)) c.requires.1, walked_none c.args.asked (program_of (here c)) c.args.out.now, refl)

pub returns-then-not-rewrite : goal.returns-then-not-rewrite
returns-then-not-rewrite c =
    let p₀ = program_of (here_2 c) in
    c.loop-asked.invariant.2
    ∙ ap (λ (x : List Rewrite). laid c.args.out.now 0 (step_lines x)) (walked_end c.args.asked p₀ _ c.loop-asked.n c.loop-asked.invariant.1 (tried_none _ _ _ _ c.rewrite.ensures (c.if-not-rewrite.true)))

pub overflow_mul-n : goal.overflow_mul-n
overflow_mul-n c =
    omega (arith, c.loop-asked.invariant.1.few, few_bytes (here_3 c) c.requires.0)

pub put_change-requires : goal.put_change-requires
put_change-requires c =
    let p₀ = program_of (here_3 c) in
    let e = tried_some _ _ _ _ c.rewrite.ensures (c.if-not-rewrite.false) in (
      c.loop-asked.invariant.0.sound.held,
      c.rewrite.ensures.stands.sound.held,
      walked_room c.args.asked p₀ c.loop-asked.n c.args.out.now c.loop-asked.out (walked_inside c.args.asked p₀ _ c.loop-asked.n c.loop-asked.invariant.1 _ e) c.requires.3 c.loop-asked.invariant.2,
    )

pub overflow_add-n : goal.overflow_add-n
overflow_add-n c =
    omega (arith, c.loop-asked.invariant.1.few, few_bytes (here_4 c) c.requires.0)

pub loop-asked-smaller : goal.loop-asked-smaller
loop-asked-smaller c =
    step_shorter _ _ _ (tried_some _ _ _ _ c.rewrite.ensures (c.if-not-rewrite.false))

pub loop-asked-preserved : goal.loop-asked-preserved
loop-asked-preserved c =
    let p₀ = program_of (here_4 c) in
    let e = tried_some _ _ _ _ c.rewrite.ensures (c.if-not-rewrite.false) in (
      c.rewrite.ensures.stands,
      walked_more c.args.asked p₀ _ c.loop-asked.n c.loop-asked.invariant.1 _ e,
      walked_line c.args.asked p₀ _ c.loop-asked.n c.loop-asked.invariant.1 _ e c.args.out.now c.loop-asked.out _ c.requires.3 c.loop-asked.invariant.2 c.put_change.ensures,
      c.rewrite.ensures.starts_kept ∙ c.loop-asked.invariant.3,
    )
