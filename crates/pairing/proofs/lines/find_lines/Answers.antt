-- `find_lines` meets its contract: after i turns the starts of i lines are found, and the rest of the text is left. Assumes nothing.
use mathlib.Core.Path.{◌≡◌, refl, ap}
use Prim.Native.Nat.{◌<◌}
use native.Mathlib.Numerals.{add-one}
use native.Mathlib.Omega.{arith}
use lib.ListN.{length}
use Rattle.rules.specs.Listing.{read_listing}
use Rattle.pairing.specs.Lines.{chars_of}
use Rattle.laws.proofs.Stores.{rest_is}
use Rattle.pairing.proofs.Accepted.{AcceptedLines, accepted_lines, is_ok_lem}
use Rattle.pairing.proofs.Finding.{found_first, found_next, rest_within, found_all}
use Rattle.pairing.proofs.lines.find_lines.Goals as goal

accepted : (s : goal.After-rest-1) → AcceptedLines s.args.text.now (is_ok_lem (read_listing s.args.text.now) s.requires.0).0
accepted s = let a = is_ok_lem (read_listing s.args.text.now) s.requires.0 in accepted_lines s.args.text.now a.0 a.1

accepted_2 : (s : goal.After-way_told-in-loop-i-1) → AcceptedLines s.args.text.now (is_ok_lem (read_listing s.args.text.now) s.requires.0).0
accepted_2 s = let a = is_ok_lem (read_listing s.args.text.now) s.requires.0 in accepted_lines s.args.text.now a.0 a.1

accepted_3 : (s : goal.After-loop-i) → AcceptedLines s.args.text.now (is_ok_lem (read_listing s.args.text.now) s.requires.0).0
accepted_3 s = let a = is_ok_lem (read_listing s.args.text.now) s.requires.0 in accepted_lines s.args.text.now a.0 a.1

pub loop-i-init : goal.loop-i-init
loop-i-init c =
    let f = c.first_line-first in
    rw (rest_is f.result c.args.text.now)
    (found_first c.args.text.now c.args.starts.now f.result _ (accepted c) c.requires.2 f.ensures)

pub overflow_sub-starts : goal.overflow_sub-starts
overflow_sub-starts c =
    let t = c.loop-i in
    let h : t.i < length (chars_of c.args.text.now) = omega (arith, c.requires.1) in
    omega (arith, ap length c.take_line-rest.ensures, rest_within c.args.text.now t.starts t.rest.now t.i t.invariant h)

pub bounds-starts-i : goal.bounds-starts-i
bounds-starts-i c = omega (arith, (accepted_2 c).few)

pub loop-i-preserved : goal.loop-i-preserved
loop-i-preserved c =
    let t = c.loop-i in
    let text = c.args.text.now in
    let a = accepted_2 c in
    let h : t.i < length (chars_of text) = omega (arith, c.requires.1) in
    rw (c.take_line-rest.ensures, add-one t.i) (found_next text t.starts t.rest.now t.i t.invariant h _ (omega (arith, a.few)) refl)

pub returns : goal.returns
returns c =
    let e : c.loop-i.i ≡ c.args.n = omega arith in
    found_all c.args.text.now c.loop-i.starts c.loop-i.rest.now c.args.n _ (accepted_3 c) c.requires.1
    (rw e at c.loop-i.invariant)
