-- `audit::holding::hold_judged` meets its contract: the front of the local room is the image.
use mathlib.Core.Path.{◌≡◌, sym, ap, ◌∙◌}
use mathlib.Core.List.{List, ◌++◌}
use Prim.Native.Nat.{ℕ}
use native.Mathlib.Omega.{arith}
use lib.ListN.{length, take, length-replicate}
use lib.Seq.{take_at}
use Rattle.rules.specs.Layout.{origin_from}
use Rattle.slots.specs.State.{starts_in, forms_in, carry_in, owners_in, offsets_in}
use Rattle.image.specs.Tables.{Tables, tables_of, program}
use Rattle.image.specs.Image.{image_of}
use Rattle.asm.proofs.Carrying.{positioned_any}
use Rattle.finishing.proofs.Ended.{assembled_encodes}
use Rattle.audit.specs.Audit.{held}
use Rattle.audit.specs.Held.{finding_as}
use Rattle.audit.proofs.Ends.{image_fits}
use Rattle.audit.proofs.holding.hold_judged.Goals as goal

abbrev here : (c : goal.After-image-1) → Tables
here c =
    tables_of c.args.frames.now c.args.state.now c.args.count
    c.args.links.now c.args.values.now c.args.positions.now

abbrev here_2 : (c : goal.After-image-2-1) → Tables
here_2 c =
    tables_of c.args.frames.now c.args.state.now c.args.count
    c.args.links.now c.args.values.now c.args.positions.now

abbrev here_3 : (c : goal.After-image-3-1) → Tables
here_3 c =
    tables_of c.args.frames.now c.args.state.now c.args.count
    c.args.links.now c.args.values.now c.args.positions.now

abbrev here_4 : (c : goal.After-hold) → Tables
here_4 c =
    tables_of c.args.frames.now c.args.state.now c.args.count
    c.args.links.now c.args.values.now c.args.positions.now

-- what was counted is the image's length, and the room's front is the image
counted : (c : goal.After-image-2-1) → c.image_length-n.result ≡ length (image_of (here_2 c))
counted c =
    c.image_length-n.ensures (carry_in c.args.state.now) (owners_in c.args.state.now) (offsets_in c.args.state.now) c.args.links.now
    c.args.values.now
    c.requires.ready (assembled_encodes (here_2 c) c.requires)

-- what was counted is the image's length, and the room's front is the image
counted_2 : (c : goal.After-image-3-1) → c.image_length-n.result ≡ length (image_of (here_3 c))
counted_2 c =
    c.image_length-n.ensures (carry_in c.args.state.now) (owners_in c.args.state.now) (offsets_in c.args.state.now) c.args.links.now
    c.args.values.now
    c.requires.ready (assembled_encodes (here_3 c) c.requires)

-- what was counted is the image's length, and the room's front is the image
counted_3 : (c : goal.After-hold) → c.image_length-n.result ≡ length (image_of (here_4 c))
counted_3 c =
    c.image_length-n.ensures (carry_in c.args.state.now) (owners_in c.args.state.now) (offsets_in c.args.state.now) c.args.links.now
    c.args.values.now
    c.requires.ready (assembled_encodes (here_4 c) c.requires)

taken : (d x y : List ℕ) (n : ℕ) → x ≡ d ++ y → n ≡ length d → take n x ≡ d
taken d x y n e k = ap (take n) e ∙ take_at d y n (sym k)

pub write_image-requires : goal.write_image-requires
write_image-requires c = (
  c.requires.ready,
  assembled_encodes (here c) c.requires,
  omega (
    arith,
    image_fits (here c) c.requires,
    length-replicate {A = ℕ} 65536
        0,
  ),
)

pub slice_bounds-image-end : goal.slice_bounds-image-end
slice_bounds-image-end c = omega (arith, counted c, image_fits (here_2 c) c.requires)

pub slice_bounds-hold-end : goal.slice_bounds-hold-end
slice_bounds-hold-end c =
    omega (arith, counted_2 c, ap length (taken (image_of (here_3 c)) _ _ c.image_length-n.result c.write_image.ensures (counted_2 c)))

pub hold-requires : goal.hold-requires
hold-requires c = (
  c.requires.ready.sound.held,
  positioned_any c.args.frames.now (starts_in c.args.state.now) c.args.count (forms_in c.args.state.now) (carry_in c.args.state.now)
      (owners_in c.args.state.now) (offsets_in c.args.state.now)
      c.args.positions.now c.requires.ready.position,
)

pub returns : goal.returns
returns c =
    c.hold.ensures (carry_in c.args.state.now) (owners_in c.args.state.now) (offsets_in c.args.state.now)
    ∙ ap (λ (l : List ℕ). finding_as (held (origin_from 0 0 (program (here_4 c))) l c.args.shipped.now))
    (taken (image_of (here_4 c)) _ _ c.image_length-n.result c.write_image.ensures (counted_3 c))
