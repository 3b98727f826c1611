-- `patterns::targets::target_links` meets its contract: the links from where the last argument begins.
use mathlib.Core.Path.{◌≡◌, ap, ◌∙◌}
use mathlib.Core.List.{List}
use Prim.Native.Nat.{ℕ, ◌-◌, ◌≤◌, ◌<◌}
use native.Mathlib.Omega.{arith}
use lib.ListN.{length, get_or, drop}
use Rattle.laws.proofs.Stores.{rest_is}
use Rattle.rules.specs.Forms.{operands_at}
use Rattle.rules.specs.Statements.{argument_at}
use Rattle.instruction.proofs.Numbers.{few_operands}
use Rattle.listing.specs.Tables.{frame_at}
use Rattle.slots.proofs.Tables.{bounds, length_frame}
use Rattle.slots.proofs.Linking.{spans, length_beside}
use Rattle.patterns.specs.Targets.{last_links}
use Rattle.patterns.proofs.Instructions.{target_frame, target_count, target_inside}
use Rattle.slots.specs.State.{starts_in}
use Rattle.patterns.proofs.targets.target_links.Goals as goal

abbrev frame : (c : goal.After-operand_count) → List ℕ
frame c = frame_at c.args.frames.now (starts_in c.args.state.now) c.args.at.0

abbrev frame_2 : (c : goal.After-argument_at-a) → List ℕ
frame_2 c = frame_at c.args.frames.now (starts_in c.args.state.now) c.args.at.0

abbrev frame_3 : (c : goal.After-result-1) → List ℕ
frame_3 c = frame_at c.args.frames.now (starts_in c.args.state.now) c.args.at.0

abbrev last : (s : List ℕ) → ℕ
last s = length (operands_at (get_or s 1 0)) - 1

-- the count, as the frame has it
counted : (c : goal.After-operand_count) → c.operand_count.result ≡ length (operands_at (get_or (frame c) 1 0))
counted c = c.operand_count.ensures ∙ ap (λ s. length (operands_at (get_or s 1 0))) c.frame_at-frame.ensures

-- the count, as the frame has it
counted_2 : (c : goal.After-argument_at-a) → c.operand_count.result ≡ length (operands_at (get_or (frame_2 c) 1 0))
counted_2 c = c.operand_count.ensures ∙ ap (λ s. length (operands_at (get_or s 1 0))) c.frame_at-frame.ensures

-- the count, as the frame has it
counted_3 : (c : goal.After-result-1) → c.operand_count.result ≡ length (operands_at (get_or (frame_3 c) 1 0))
counted_3 c = c.operand_count.ensures ∙ ap (λ s. length (operands_at (get_or s 1 0))) c.frame_at-frame.ensures

some : (c : goal.After-operand_count) → 1 ≤ c.operand_count.result
some c = omega (arith, counted c, target_count _ _ _ c.requires.0 c.args.at.0 c.requires.1)

some_2 : (c : goal.After-argument_at-a) → 1 ≤ c.operand_count.result
some_2 c = omega (arith, counted_2 c, target_count _ _ _ c.requires.0 c.args.at.0 c.requires.1)

some_3 : (c : goal.After-result-1) → 1 ≤ c.operand_count.result
some_3 c = omega (arith, counted_3 c, target_count _ _ _ c.requires.0 c.args.at.0 c.requires.1)

-- where the target begins
begins : (c : goal.After-argument_at-a) →
    let s : List ℕ = frame_2 c in
    c.argument_at-a.result ≡ argument_at s (operands_at (get_or s 1 0)) 2 (last s)
begins c =
    let s = frame_2 c in
    c.argument_at-a.ensures s (c.requires.0.noted c.args.at.0 c.requires.1.inside) c.requires.1.instruction
    (omega (arith, counted_2 c, some_2 c))
    ∙ ap (λ (n : ℕ). argument_at s (operands_at (get_or s 1 0)) 2 (n - 1)) (counted_2 c)

-- where the target begins
begins_2 : (c : goal.After-result-1) →
    let s : List ℕ = frame_3 c in
    c.argument_at-a.result ≡ argument_at s (operands_at (get_or s 1 0)) 2 (last s)
begins_2 c =
    let s = frame_3 c in
    c.argument_at-a.ensures s (c.requires.0.noted c.args.at.0 c.requires.1.inside) c.requires.1.instruction
    (omega (arith, counted_3 c, some_3 c))
    ∙ ap (λ (n : ℕ). argument_at s (operands_at (get_or s 1 0)) 2 (n - 1)) (counted_3 c)

inside : (c : goal.After-argument_at-a) → c.argument_at-a.result < length c.links_at-beside.result.now
inside c =
    omega (
      arith,
      begins c,
      target_inside _ _ _ c.requires.0 c.args.at.0 c.requires.1,
      ap length c.links_at-beside.ensures,
      length_beside c.args.frames.now (starts_in c.args.state.now) c.args.count c.requires.0 c.args.links.now c.requires.2 c.args.at.0
          c.requires.1.inside,
    )

pub links_at-beside-requires : goal.links_at-beside-requires
links_at-beside-requires c =
    spans c.args.frames.now (starts_in c.args.state.now) c.args.count c.requires.0 c.args.links.now c.requires.2 c.args.at.0
    c.requires.1.inside

pub bounds-frame-1 : goal.bounds-frame-1
bounds-frame-1 c =
    omega (arith, ap length c.frame_at-frame.ensures, (target_frame _ _ _ c.requires.0 c.args.at.0 c.requires.1).long)

pub overflow_sub-operand_count : goal.overflow_sub-operand_count
overflow_sub-operand_count c = omega (arith, some c)

pub argument_at-a-requires : goal.argument_at-a-requires
argument_at-a-requires c =
    (omega (arith, c.requires.1.inside, c.requires.0.few), omega (arith, counted c, some c, few_operands (get_or (frame c) 1 0)))

pub offset_bounds-beside-a : goal.offset_bounds-beside-a
offset_bounds-beside-a c =
    let few : length (frame_at c.args.links.now (starts_in c.args.state.now) c.args.at.0) ≤ 28672 = omega (
      arith,
      length_beside c.args.frames.now (starts_in c.args.state.now) c.args.count c.requires.0 c.args.links.now c.requires.2 c.args.at.0
          c.requires.1.inside,
      length_frame c.args.frames.now (starts_in c.args.state.now) c.args.count c.requires.0 c.args.at.0 c.requires.1.inside,
      (bounds c.args.frames.now (starts_in c.args.state.now) c.args.count c.requires.0 c.args.at.0 c.requires.1.inside).within,
    ) in
    record { fits = omega (arith, inside c, ap length c.links_at-beside.ensures, few) }

pub slice_bounds-result-count : goal.slice_bounds-result-count
slice_bounds-result-count c = omega (arith, inside c)

pub slice_bounds-result-start : goal.slice_bounds-result-start
slice_bounds-result-start c = omega (arith, inside c)

pub returns : goal.returns
unfolding last_links
returns c =
    rest_is c.argument_at-a.result _ ∙ ap (λ x. drop c.argument_at-a.result x) c.links_at-beside.ensures
    ∙ ap (λ (k : ℕ). drop k (frame_at c.args.links.now (starts_in c.args.state.now) c.args.at.0)) (begins_2 c)
