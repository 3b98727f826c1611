-- `same_frame` meets its contract: the lines are the same where the frames are. Assumes nothing.
use mathlib.Core.Path.{ap₂, ◌∙◌}
use Rattle.laws.specs.Lists.{same}
use Rattle.pairing.proofs.Frames.{same_frames}
use Rattle.pairing.proofs.found.same_frame.Goals as goal

pub returns : goal.returns
returns c =
    let x = c.line_at.ensures in
    let y = c.line_at-2.ensures in
    let a = c.args in
    c.same_bytes.ensures ∙ ap₂ same x y
    ∙ same_frames a.first.now a.firsts.now a.n a.i a.second.now a.seconds.now a.m a.j c.requires.0
    c.requires.1 c.requires.2 c.requires.3
