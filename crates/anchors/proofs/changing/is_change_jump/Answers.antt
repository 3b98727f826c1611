-- `anchors::changing::is_change_jump` meets its contract: the form, then the nearest statement that is not skipped.
use mathlib.Core.Path.{◌≡◌, sym, ap, ◌∙◌}
use mathlib.Core.Option.{some}
use Prim.Native.Nat.{ℕ}
use native.Mathlib.Omega.{arith}
use Rattle.rules.specs.Rewriting.{changes_at, is_change_jump}
use Rattle.rules.specs.Rewriting.{nearest as nearest_place}
use Rattle.image.specs.Tables.{Tables, tables_of, program}
use Rattle.patterns.specs.Targets.{stands_at, form_in}
use Rattle.anchors.specs.Changes.{nearest_as}
use Rattle.anchors.proofs.Jumps.{nearest_inside, found_at, found_none, jump_not, jump_is}
use Rattle.slots.specs.State.{carry_in, owners_in, offsets_in}
use Rattle.anchors.proofs.changing.is_change_jump.Goals as goal

module _ (s : goal.Then-form_at-ne-JMPF) where
  abbrev here : Tables
  here =
      tables_of s.args.frames.now s.args.state.now s.args.count
      s.args.links.now s.args.values.now s.args.positions.now

  abbrev place : ℕ
  place = s.args.at.0

module _ (s : goal.In-Some) where
  abbrev here_2 : Tables
  here_2 =
      tables_of s.args.frames.now s.args.state.now s.args.count
      s.args.links.now s.args.values.now s.args.positions.now

  abbrev place_2 : ℕ
  place_2 = s.args.at.0

module _ (s : goal.After-changes_at) where
  abbrev here_3 : Tables
  here_3 =
      tables_of s.args.frames.now s.args.state.now s.args.count
      s.args.links.now s.args.values.now s.args.positions.now

  abbrev place_3 : ℕ
  place_3 = s.args.at.0

module _ (s : goal.In-None) where
  abbrev here_4 : Tables
  here_4 =
      tables_of s.args.frames.now s.args.state.now s.args.count
      s.args.links.now s.args.values.now s.args.positions.now

  abbrev place_4 : ℕ
  place_4 = s.args.at.0

form_is : (c : goal.Then-form_at-ne-JMPF) → c.form_at.result ≡ form_in (stands_at (here c).slots (place c))
form_is c = c.form_at.ensures (carry_in c.args.state.now) (owners_in c.args.state.now) (offsets_in c.args.state.now)

form_is_2 : (c : goal.After-changes_at) → c.form_at.result ≡ form_in (stands_at (here_3 c).slots (place_3 c))
form_is_2 c = c.form_at.ensures (carry_in c.args.state.now) (owners_in c.args.state.now) (offsets_in c.args.state.now)

form_is_3 : (c : goal.In-None) → c.form_at.result ≡ form_in (stands_at (here_4 c).slots (place_4 c))
form_is_3 c = c.form_at.ensures (carry_in c.args.state.now) (owners_in c.args.state.now) (offsets_in c.args.state.now)

-- what the nearest statement decides
decided : (c : goal.After-changes_at) →
    is_change_jump (here_3 c).entries (program (here_3 c)) (place_3 c) ≡ changes_at (here_3 c).entries (program (here_3 c)) (place_3 c)
    (nearest_place (program (here_3 c)) (place_3 c))
decided c =
    let d = here_3 c in
    jump_is d.entries (program d) (place_3 c) (sym (form_is_2 c) ∙ c.if-form_at-ne-JMPF.false)

-- what the nearest statement decides
decided_2 : (c : goal.In-None) →
    is_change_jump (here_4 c).entries (program (here_4 c)) (place_4 c) ≡ changes_at (here_4 c).entries (program (here_4 c)) (place_4 c)
    (nearest_place (program (here_4 c)) (place_4 c))
decided_2 c =
    let d = here_4 c in
    jump_is d.entries (program d) (place_4 c) (sym (form_is_3 c) ∙ c.if-form_at-ne-JMPF.false)

-- the answer, as the definition has it
nearest_is : (c : goal.In-Some) → c.nearest.result ≡ nearest_as (nearest_place (program (here_2 c)) (place_2 c))
nearest_is c = c.nearest.ensures (carry_in c.args.state.now) (owners_in c.args.state.now) (offsets_in c.args.state.now)

-- the answer, as the definition has it
nearest_is_2 : (c : goal.After-changes_at) → c.nearest.result ≡ nearest_as (nearest_place (program (here_3 c)) (place_3 c))
nearest_is_2 c = c.nearest.ensures (carry_in c.args.state.now) (owners_in c.args.state.now) (offsets_in c.args.state.now)

-- the answer, as the definition has it
nearest_is_3 : (c : goal.In-None) → c.nearest.result ≡ nearest_as (nearest_place (program (here_4 c)) (place_4 c))
nearest_is_3 c = c.nearest.ensures (carry_in c.args.state.now) (owners_in c.args.state.now) (offsets_in c.args.state.now)

found : (c : goal.In-Some) →
    nearest_place (program (here_2 c)) (place_2 c) ≡ some c.in-Some.j.0
found c =
    found_at (nearest_place (program (here_2 c)) (place_2 c)) c.in-Some.j (sym (nearest_is c) ∙ c.in-Some.is)

found_2 : (c : goal.After-changes_at) →
    nearest_place (program (here_3 c)) (place_3 c) ≡ some c.in-Some.j.0
found_2 c =
    found_at (nearest_place (program (here_3 c)) (place_3 c)) c.in-Some.j (sym (nearest_is_2 c) ∙ c.in-Some.is)

pub returns-then-form_at-ne-JMPF : goal.returns-then-form_at-ne-JMPF
returns-then-form_at-ne-JMPF c =
    let d = here c in
    sym (jump_not d.entries (program d) (place c) (λ e. c.if-form_at-ne-JMPF.true (form_is c ∙ e)))

pub changes_at-requires : goal.changes_at-requires
changes_at-requires c =
    (c.requires.0, c.requires.1, omega (arith, c.requires.1, nearest_inside (program (here_2 c)) (place_2 c) c.in-Some.j.0 (found c)))

pub returns-in-Some : goal.returns-in-Some
returns-in-Some c =
    let d = here_3 c in
    c.changes_at.ensures ∙ sym (decided c ∙ ap (changes_at d.entries (program d) (place_3 c)) (found_2 c))

pub returns-in-None : goal.returns-in-None
returns-in-None c =
    let d = here_4 c in
    sym (decided_2 c ∙ ap (changes_at d.entries (program d) (place_4 c)) (found_none (nearest_place (program d) (place_4 c))
    (sym (nearest_is_3 c) ∙ c.in-None.is)))
