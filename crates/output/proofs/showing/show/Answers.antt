-- `output::showing::show` meets its contract: a row filled from the front, each form from its own.
use mathlib.Core.Path.{◌≡◌, refl, ap, ap₂, ◌∙◌}
use mathlib.Core.List.{List, ◌++◌}
use Prim.Native.Nat.{ℕ, ◌≤◌}
use native.Mathlib.Omega.{arith}
use lib.ListN.{length, get_or, drop}
use Rattle.laws.specs.Counts.{tab}
use Rattle.laws.proofs.Counts.{tab_more, length_tab}
use Rattle.laws.proofs.Stores.{front_length}
use Rattle.rules.specs.declared.Settings.{Settings}
use Rattle.rules.specs.Programs.{Stmt, kind_of}
use Rattle.slots.specs.Slots.{Slots, slots, slot_at}
use Rattle.slots.specs.State.{starts_in, forms_in, carry_in, owners_in, offsets_in, table_of}
use Rattle.slots.proofs.State.{kept_same, kept_more, table_kept}
use Rattle.output.specs.Showing.{shown_form}
use Rattle.output.proofs.Shows.{slot_same, shown_slots, front_at, behind_at}
use Rattle.output.proofs.showing.show.Goals as goal
use Rattle.output.proofs.showing.show.Goals.{Start}

-- the form of each place
abbrev given : Settings → Slots → (i : ℕ) → ℕ
given asked t i = shown_form asked (kind_of (slot_at t i)) (get_or t.forms i 0)

module _ (s : Start) where
  abbrev before : List (List ℕ)
  before = s.args.state.now

  abbrev old : Slots
  old = table_of s.args.frames.now before s.args.count

  abbrev its : (i : ℕ) → ℕ
  its i = given s.args.asked old i

  -- a row stays as long as it was
  full : (i : ℕ) (forms : List ℕ) → i ≤ s.args.count → forms ≡ tab its i ++ drop i (forms_in before) → length forms ≡ 1025
  full i forms l e =
      front_length (tab its i) (forms_in before) forms i e (length_tab its i) (omega (arith, l, s.requires.0.held.few, s.requires.1))
      ∙ s.requires.1

-- what stands at place i stands there until its turn
still : (t : Slots) (starts forms : List ℕ) (i : ℕ) → starts ≡ t.starts → get_or forms i 0 ≡ get_or t.forms i 0
    → slot_at (slots t.frames starts t.count forms t.carry t.owners t.offsets) i ≡ slot_at t i
still t starts forms i e q = rw e (slot_same t forms i q)

pub loop-i-init : goal.loop-i-init
unfolding tab
loop-i-init c = (refl, refl, kept_same _)

pub put_form-requires : goal.put_form-requires
put_form-requires c =
    let s = (goal.at.put_form-requires c).Start in
    (omega (arith, c.requires.0.held.few), full s c.loop-i.i _ c.loop-i.auto.i-end c.loop-i.invariant.0)

pub loop-i-preserved : goal.loop-i-preserved
loop-i-preserved c =
    let s = (goal.at.loop-i-preserved c).Start in
    let l = c.loop-i in
    let b = before s in
    let form = behind_at (its s) (forms_in b) (forms_in l.state) l.i l.invariant.0 in
    let same = still (old s) (starts_in l.state) (forms_in l.state) l.i l.invariant.2.starts form in (
      c.put_form.ensures.forms
          ∙ tab_more (its s) (forms_in b) (forms_in l.state) l.i _ l.invariant.0
          (omega (arith, c.requires.0.held.few, c.requires.1))
          (c.shown_form-shown.ensures (carry_in b) (owners_in b) (offsets_in b) ∙ ap₂ (λ (x : Stmt) (y : ℕ). shown_form c.args.asked
          (kind_of x) y) same form),
      c.put_form.ensures.carry ∙ l.invariant.1,
      kept_more b l.state _ l.invariant.2 c.put_form.ensures.kept,
    )

pub returns : goal.returns
returns c =
    let s = (goal.at.returns c).Start in
    let l = c.loop-i in
    let n = c.args.count in
    let b = before s in
    let e : l.i ≡ n = omega arith in
    let filled : forms_in l.state ≡ tab (its s) n ++ drop n (forms_in b) = rw e at l.invariant.0 in
    record {
      room = (full s n (forms_in l.state) (omega arith) filled, l.invariant.2.starts);
      shows = (
        table_kept c.args.frames.now b l.state n l.invariant.2
            ∙ ap (λ (z : List ℕ). slots c.args.frames.now (starts_in b) n (forms_in l.state) z (owners_in b) (offsets_in b)) l.invariant.1,
        shown_slots c.args.asked (old s) (forms_in l.state) c.requires.0
            (λ i h. front_at (its s) n (forms_in l.state) (drop n (forms_in b)) i filled h),
      );
    }
