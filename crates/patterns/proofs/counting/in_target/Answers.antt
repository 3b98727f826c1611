-- `patterns::counting::in_target` meets its contract: the target is an inner label, or reads where the frame says.
use mathlib.Core.Path.{sym, ap, ◌∙◌}
use mathlib.Core.List.{List}
use Prim.Native.Nat.{ℕ}
use native.Mathlib.Omega.{arith}
use lib.ListN.{length}
use Rattle.rules.specs.Expressions.{read_expr, mentions}
use Rattle.rules.specs.Programs.{in_operand}
use Rattle.listing.specs.Tables.{frame_at}
use Rattle.slots.specs.Slots.{Slots, slots}
use Rattle.patterns.specs.Mentions.{Short}
use Rattle.patterns.proofs.Instructions.{target_reads, target_inner, target_written}
use Rattle.patterns.proofs.Naming.{beside_short, last_lengths, last_referred, last_short}
use Rattle.slots.specs.State.{starts_in, owners_in}
use Rattle.patterns.proofs.counting.in_target.Goals as goal

abbrev over : (c : goal.Then-owner_at-lt-NO_OWNER) (forms carry offsets : List ℕ) → Slots
over c forms carry offsets = slots c.args.frames.now (starts_in c.args.state.now) c.args.count forms carry (owners_in c.args.state.now)
    offsets

abbrev over_2 : (c : goal.After-count_links) (forms carry offsets : List ℕ) → Slots
over_2 c forms carry offsets = slots c.args.frames.now (starts_in c.args.state.now) c.args.count forms carry (owners_in c.args.state.now)
    offsets

-- its frame, and the links beside it
module _ (c : goal.After-target_links) where
  abbrev frame : List ℕ
  frame = frame_at c.args.frames.now (starts_in c.args.state.now) c.args.at.0

  abbrev beside : List ℕ
  beside = frame_at c.args.links.now (starts_in c.args.state.now) c.args.at.0

  short : Short frame beside
  short = beside_short c.args.frames.now (starts_in c.args.state.now) c.args.count c.requires.0 c.args.links.now c.requires.2 c.args.at.0
      c.requires.1.inside

-- its frame, and the links beside it
module _ (c : goal.After-count_links) where
  abbrev frame_2 : List ℕ
  frame_2 = frame_at c.args.frames.now (starts_in c.args.state.now) c.args.at.0

  abbrev beside_2 : List ℕ
  beside_2 = frame_at c.args.links.now (starts_in c.args.state.now) c.args.at.0

  short_2 : Short frame_2 beside_2
  short_2 = beside_short c.args.frames.now (starts_in c.args.state.now) c.args.count c.requires.0 c.args.links.now c.requires.2 c.args.at.0
      c.requires.1.inside

pub returns-then-owner_at-lt-NO_OWNER : goal.returns-then-owner_at-lt-NO_OWNER
returns-then-owner_at-lt-NO_OWNER c =
    record {
      few = omega arith;
      by_index = λ f l forms carry offsets.
          sym (ap (in_operand (mentions f)) (target_inner (over c forms carry offsets) c.args.at.0
          (omega (arith, c.owner_at.ensures, c.if-owner_at-lt-NO_OWNER.true))));
    }

pub count_links-requires : goal.count_links-requires
count_links-requires c =
    rw (c.target_in.ensures, c.target_links.ensures) (last_lengths (frame c) (beside c) (short c).0)

pub returns : goal.returns
returns c =
    let e = target_reads _ _ _ c.requires.0 c.args.at.0 c.requires.1 in record {
      few = omega (arith, c.count_links.ensures.few, ap length c.target_in.ensures, last_short (frame_2 c), (short_2 c).1);
      by_index = λ f l forms carry offsets.
          c.count_links.ensures.by_index f (rw (c.target_in.ensures, c.target_links.ensures) (last_referred f (frame_2 c) (beside_2 c)
          c.args.place.0 l)) e.0 e.1.width
          (ap read_expr c.target_in.ensures ∙ e.1.reads)
          ∙ sym (ap (in_operand (mentions f)) (target_written (over_2 c forms carry offsets) c.args.at.0
          (omega (arith, c.owner_at.ensures, c.if-owner_at-lt-NO_OWNER.false)) ∙ e.2));
    }
