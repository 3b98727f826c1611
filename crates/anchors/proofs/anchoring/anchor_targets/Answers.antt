-- `anchors::anchoring::anchor_targets` meets its contract: the loop fills both rows from the front.
use mathlib.Core.Path.{◌≡◌, refl, sym, ap, ◌∙◌, subst}
use mathlib.Core.List.{List}
use Prim.Native.Nat.{ℕ, ◌+◌, ◌≤◌, ◌<◌}
use native.Mathlib.Omega.{arith}
use lib.ListN.{length, length-set}
use Rattle.laws.specs.Counts.{tab}
use Rattle.laws.proofs.Counts.{tab_more}
use Rattle.rules.specs.Names.{Key}
use Rattle.expression.specs.Environment.{keys_of}
use Rattle.env.proofs.Filled.{get_filled}
use Rattle.image.specs.Tables.{Tables, tables_of, program}
use Rattle.slots.specs.Slots.{Slots}
use Rattle.slots.specs.State.{owners_in, offsets_in, Labelled, LabelPut}
use Rattle.slots.proofs.State.{labelled_same, labelled_more, table_labelled}
use Rattle.anchors.specs.Anchored.{origin_at, owner_in, offset_in, owner_of, offset_of, Anchored}
use Rattle.anchors.proofs.Retargets.{tables_anchored}
use Rattle.anchors.proofs.anchoring.anchor_targets.Goals as goal
use Rattle.anchors.proofs.anchoring.anchor_targets.Invariants.{Filling}

-- what the tables are to hold at a place, `moving` being the names that move
abbrev owner_at : Tables → (moving : List Key) (k : ℕ) → ℕ
owner_at d moving k = owner_of (origin_at d.entries moving (program d) k)

abbrev offset_at : Tables → (moving : List Key) (k : ℕ) → ℕ
offset_at d moving k = offset_of (origin_at d.entries moving (program d) k)

abbrev here : (s : goal.After-put_label) → Tables
here s =
    tables_of s.args.frames.now s.args.state.now s.args.count s.args.links.now s.args.values.now s.args.positions.now

abbrev here_2 : (s : goal.After-loop-i) → Tables
here_2 s =
    tables_of s.args.frames.now s.args.state.now s.args.count s.args.links.now s.args.values.now s.args.positions.now

abbrev moving_keys : (s : goal.After-put_label) → List Key
moving_keys s = keys_of s.args.moving.now s.args.contexts.now s.args.count

abbrev moving_keys_2 : (s : goal.After-loop-i) → List Key
moving_keys_2 s = keys_of s.args.moving.now s.args.contexts.now s.args.count

-- one more place
filled_more : (d : Tables) (moving : List Key) (i : ℕ) (next₀ next next' : List (List ℕ)) (owner offset : ℕ) → i < d.slots.count
    → d.slots.count ≤ 1024
    → length (owners_in next₀) ≡ 1025 → length (offsets_in next₀) ≡ 1025 → owner ≡ owner_at d moving i → offset ≡ offset_at d moving i
    → LabelPut next next' i owner offset → Filling d moving i next₀ next → Filling d moving (i + 1) next₀ next'
filled_more d moving i next₀ next next' owner offset l few p q e f w h =
    record {
      low = omega arith;
      owner = w.owners ∙ tab_more (owner_at d moving) (owners_in next₀) (owners_in next) i owner h.owner (omega arith) e;
      offset = w.offsets ∙ tab_more (offset_at d moving) (offsets_in next₀) (offsets_in next) i offset h.offset (omega arith) f;
      owner_room = ap length w.owners ∙ length-set (owners_in next) i owner ∙ h.owner_room;
      offset_room = ap length w.offsets ∙ length-set (offsets_in next) i offset ∙ h.offset_room;
      labelled = labelled_more next₀ next next' h.labelled w.labelled;
    }

-- the rows to be filled are as long as the state's
owners_full : (s : goal.After-put_label) → length (owners_in s.args.next.now) ≡ 1025
owners_full s = ap (λ (n : List (List ℕ)). length (owners_in n)) s.requires.fact_2.3 ∙ s.requires.fact_2.0

offsets_full : (s : goal.After-put_label) → length (offsets_in s.args.next.now) ≡ 1025
offsets_full s = ap (λ (n : List (List ℕ)). length (offsets_in n)) s.requires.fact_2.3 ∙ s.requires.fact_2.1

pub loop-i-init : goal.loop-i-init
unfolding tab
loop-i-init c =
    let same = c.requires.fact_2.3 in
    record {
      low = omega arith;
      owner = refl;
      offset = refl;
      owner_room = ap (λ (n : List (List ℕ)). length (owners_in n)) same ∙ c.requires.fact_2.0;
      offset_room = ap (λ (n : List (List ℕ)). length (offsets_in n)) same ∙ c.requires.fact_2.1;
      labelled = labelled_same _;
    }

pub loop-i-preserved : goal.loop-i-preserved
loop-i-preserved c =
    filled_more (here c) (moving_keys c) c.loop-i.i c.args.next.now c.loop-i.next _ _ _ c.loop-i-test.true c.requires.fact.0.sound.held.few
    (owners_full c) (offsets_full c)
    (c.label_of-label.ensures.0 ∙ ap owner_in c.origin_at.ensures.answer)
    (c.label_of-label.ensures.1 ∙ ap offset_in c.origin_at.ensures.answer)
    c.put_label.ensures
    c.loop-i.invariant

pub returns : goal.returns
returns c =
    let d = here_2 c in
    let n = d.slots.count in
    let all : (k : ℕ) → k < n → k < c.loop-i.i = λ k m. omega (arith, c.loop-i-test.false) in
    let labelled : Labelled c.args.state.now c.loop-i.next = subst (λ (z : List (List ℕ)). Labelled z c.loop-i.next) c.requires.fact_2.3
    c.loop-i.invariant.labelled in (
      subst (λ (z : Slots). Anchored d.slots z) (sym (table_labelled c.args.frames.now c.args.state.now c.loop-i.next n labelled))
          (tables_anchored d.slots c.requires.fact.0.sound c.requires.fact.1 _ _ (moving_keys_2 c)
          (λ k m. get_filled (owner_at d (moving_keys_2 c)) c.loop-i.i _ _ k 0 c.loop-i.invariant.owner (all k m))
          (λ k m. get_filled (offset_at d (moving_keys_2 c)) c.loop-i.i _ _ k 0 c.loop-i.invariant.offset (all k m))
          c.requires.fact_2.2),
      labelled,
    )
