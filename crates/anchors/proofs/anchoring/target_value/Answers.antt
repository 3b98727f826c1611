-- `anchors::anchoring::target_value` meets its contract: the target reads where its frame says.
use mathlib.Core.Path.{◌≡◌, sym, ap, ◌∙◌}
use mathlib.Core.List.{List}
use Prim.Native.Nat.{ℕ, ◌<◌}
use native.Mathlib.Omega.{arith}
use lib.ListN.{get_or}
use Rattle.rules.specs.declared.Unvalued.{Unvalued}
use Rattle.std.specs.Prelude.{ℤ, Result}
use Rattle.laws.proofs.Tests.{cond_true, cond_false}
use Rattle.rules.specs.Expressions.{Expr, read_expr, got}
use Rattle.rules.specs.Programs.{Operand, value, args_of, last_of}
use Rattle.rules.specs.Names.{Key, Entry, key_of, lookup}
use Rattle.rules.specs.Rewriting.{holds_label}
use Rattle.expression.specs.Environment.{keys_of}
use Rattle.listing.specs.Tables.{frame_at, input_at}
use Rattle.slots.proofs.Frames.{Reads}
use Rattle.slots.proofs.Linking.{length_beside}
use Rattle.patterns.specs.Targets.{last_bytes}
use Rattle.patterns.proofs.Instructions.{target_reads}
use Rattle.patterns.proofs.Naming.{last_lengths}
use Rattle.anchors.specs.Anchored.{constant_value}
use Rattle.anchors.proofs.Targets.{last_linked}
use Rattle.slots.specs.State.{starts_in}
use Rattle.anchors.proofs.anchoring.target_value.Goals as goal

-- the target's expression
target : (s : goal.Then-holds_label)
    → (e : Expr) × Reads (last_bytes (frame_at s.args.frames.now (starts_in s.args.state.now) s.args.at.0)) e
    × (last_of (args_of (input_at s.args.frames.now (starts_in s.args.state.now) s.args.at.0)) ≡ value e)
target s = target_reads _ _ _ s.requires.0 s.args.at.0 s.requires.1

-- the target's expression
target_2 : (s : goal.After-linked_worth)
    → (e : Expr) × Reads (last_bytes (frame_at s.args.frames.now (starts_in s.args.state.now) s.args.at.0)) e
    × (last_of (args_of (input_at s.args.frames.now (starts_in s.args.state.now) s.args.at.0)) ≡ value e)
target_2 s = target_reads _ _ _ s.requires.0 s.args.at.0 s.requires.1

module _ (s : goal.Then-holds_label) where
  abbrev moving : List Key
  moving = keys_of s.args.moving.now s.args.contexts.now s.args.count

  abbrev context : ℕ
  context = get_or s.args.contexts.now s.args.at.0 0

  -- what the contract says of an operand
  abbrev answer : List Entry → Operand → Result ℤ Unvalued
  answer names = constant_value names moving context

module _ (s : goal.After-linked_worth) where
  abbrev moving_2 : List Key
  moving_2 = keys_of s.args.moving.now s.args.contexts.now s.args.count

  abbrev context_2 : ℕ
  context_2 = get_or s.args.contexts.now s.args.at.0 0

  -- what the contract says of an operand
  abbrev answer_2 : List Entry → Operand → Result ℤ Unvalued
  answer_2 names = constant_value names moving_2 context_2

inside : (s : goal.After-target_links-beside) → s.args.at.0 < 1024
inside s = omega (arith, s.requires.0.few, s.requires.1.inside)

reads : (c : goal.Then-holds_label) → let r = target c in read_expr c.target_in-target.result.now ≡ got r.0 r.1.width
reads c = ap read_expr c.target_in-target.ensures ∙ (target c).1.reads

reads_2 : (c : goal.After-linked_worth) → let r = target_2 c in read_expr c.target_in-target.result.now ≡ got r.0 r.1.width
reads_2 c = ap read_expr c.target_in-target.ensures ∙ (target_2 c).1.reads

held : (c : goal.Then-holds_label) →
    c.holds_label.result ≡ holds_label (moving c) (context c) (target c).0
held c = let r = target c in c.holds_label.ensures r.0 r.1.width (reads c)

held_2 : (c : goal.After-linked_worth) →
    c.holds_label.result ≡ holds_label (moving_2 c) (context_2 c) (target_2 c).0
held_2 c = let r = target_2 c in c.holds_label.ensures r.0 r.1.width (reads_2 c)

pub returns-then-holds_label : goal.returns-then-holds_label
returns-then-holds_label c names l =
    let r = target c in
    sym (ap (answer c names) r.2 ∙ cond_true (holds_label (moving c) (context c) r.0) _ _ (sym (held c) ∙ c.if-holds_label.true))

pub linked_worth-requires : goal.linked_worth-requires
linked_worth-requires c = (
  omega (arith, inside c, c.requires.0.few),
  rw (c.target_in-target.ensures, c.target_links-beside.ensures)
      (last_lengths _ _ (length_beside c.args.frames.now (starts_in c.args.state.now) c.args.count c.requires.0 c.args.links.now
      c.requires.2 c.args.at.0 c.requires.1.inside)),
)

pub returns : goal.returns
returns c names l =
    let r = target_2 c in
    c.linked_worth.ensures (λ m. lookup names (key_of (context_2 c) m))
    (rw (c.target_in-target.ensures, c.target_links-beside.ensures) (last_linked (λ m. lookup names (key_of (context_2 c) m)) _ _
    c.args.values.now c.args.count l)) r.0 r.1.width (reads_2 c)
    ∙ sym (ap (answer_2 c names) r.2 ∙ cond_false (holds_label (moving_2 c) (context_2 c) r.0) _ _
    (sym (held_2 c) ∙ c.if-holds_label.false))
