-- `targets::filling::find_aims_read` meets its contract: the state of the listing as it was read stands.
use mathlib.Core.Path.{◌≡◌, sym, ap, ◌∙◌, subst}
use mathlib.Core.List.{List}
use mathlib.Core.Bool.{true}
use Prim.Native.Nat.{ℕ}
use Rattle.rules.specs.Judging.{assembles}
use Rattle.listing.specs.Tables.{Held, input_of}
use Rattle.slots.specs.Links.{Beside}
use Rattle.targets.proofs.Reading.{aims_as, read_program, read_good, read_stands, read_beside}
use Rattle.targets.proofs.filling.find_aims_read.Goals as goal

-- what is known of the rows is known of the stripes
abbrev Known : (frames : List ℕ) (count : ℕ) (links starts : List ℕ) → Type 0
Known frames count links starts = Held frames starts count × (assembles (input_of frames starts count) ≡ true) × Beside frames starts count
    links

module _ (c : goal.After-find_aims-arg-1) where
  abbrev frames : List ℕ
  frames = c.args.frames.now

  abbrev count : ℕ
  count = c.args.count

  known : Known frames count c.args.links.now c.stripes-starts.result
  known =
      subst
      (Known frames count c.args.links.now)
      (sym c.stripes-starts.ensures)
      (c.requires.0, c.requires.1, c.requires.2)

module _ (c : goal.After-find_aims) where
  abbrev frames_2 : List ℕ
  frames_2 = c.args.frames.now

  abbrev count_2 : ℕ
  count_2 = c.args.count

  known_2 : Known frames_2 count_2 c.args.links.now c.stripes-starts.result
  known_2 =
      subst
      (Known frames_2 count_2 c.args.links.now)
      (sym c.stripes-starts.ensures)
      (c.requires.0, c.requires.1, c.requires.2)

pub find_aims-requires : goal.find_aims-requires
find_aims-requires c =
    let f = frames c in
    let r = c.stripes-starts.result in
    let k = known c in
    let e = c.start_state-first.ensures f k.0 in (
      read_stands f r (count c) k.0 k.1 _ e,
      read_good f r (count c) k.0 k.1 _ e,
      read_beside f r (count c) k.0 k.1 _ e c.args.links.now k.2,
      c.requires.3,
    )

pub returns : goal.returns
returns c =
    let k = known_2 c in
    let read = read_program (frames_2 c) c.stripes-starts.result (count_2 c) k.0 k.1 _ (c.start_state-first.ensures (frames_2 c) k.0) in
    aims_as _ _ (read ∙ ap (λ (z : List ℕ). input_of (frames_2 c) z (count_2 c)) c.stripes-starts.ensures) c.find_aims.ensures
