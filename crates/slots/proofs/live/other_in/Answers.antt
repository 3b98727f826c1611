-- `slots::live::other_in` meets its contract, kind by kind.
use mathlib.Core.Path.{◌≡◌, sym, ap, ap₂, ◌∙◌}
use mathlib.Core.List.{List}
use Prim.Native.Nat.{ℕ}
use native.Mathlib.Omega.{arith}
use lib.ListN.{get_or}
use Rattle.rules.specs.declared.Statement.TheVariants.{Label, Variable, Org, Bytes, Words, Pad}
use Rattle.rules.specs.Answers.{judged_or}
use Rattle.rules.specs.Listing.{read_frame}
use Rattle.rules.specs.Programs.{gone}
use Rattle.rules.specs.Statements.{arg_at}
use Rattle.slots.specs.Meaning.{OtherIn}
use Rattle.slots.proofs.Frames.{FrameOf}
use Rattle.slots.proofs.Stands.{kind_is, a_kind, a_byte, of_kind}
use Rattle.slots.proofs.live.other_in.Goals as goal

-- a frame of kind k
kind : {s : List ℕ} (r : (i : ℕ) × OtherIn i s) (k : ℕ) → get_or s 0 0 ≡ k → FrameOf k r.0 s (judged_or (read_frame r.0 s) gone)
kind {s} r k e = of_kind r.0 s r.1.reads k e

pub bounds-frame-0 : goal.bounds-frame-0
bounds-frame-0 c = a_byte c.requires.0 c.args.frame.now c.requires.1.reads

pub pair_in-requires : goal.pair_in-requires
pair_in-requires c = (kind c.requires 2 c.in-2.is).long

pub pair_in-requires-in-3 : goal.pair_in-requires-in-3
pair_in-requires-in-3 c = (kind c.requires 3 c.in-3.is).long

pub pair_in-requires-in-5 : goal.pair_in-requires-in-5
pair_in-requires-in-5 c = (kind c.requires 5 c.in-5.is).long

pub items_in-requires : goal.items_in-requires
items_in-requires c = (kind c.requires 6 c.in-6.is).long

pub items_in-requires-in-7 : goal.items_in-requires-in-7
items_in-requires-in-7 c = (kind c.requires 7 c.in-7.is).long

pub items_in-requires-in_default : goal.items_in-requires-in_default
items_in-requires-in_default c =
    let k = a_kind c.requires.0 c.args.frame.now c.requires.1.reads in
    let l = (kind c.requires 8 (omega arith)).long in omega arith

pub bounds-frame-2 : goal.bounds-frame-2
bounds-frame-2 c =
    let k = a_kind c.requires.0 c.args.frame.now c.requires.1.reads in
    let l = (kind c.requires 8 (omega arith)).long in omega arith

pub bounds-frame-3 : goal.bounds-frame-3
bounds-frame-3 c =
    let k = a_kind c.requires.0 c.args.frame.now c.requires.1.reads in
    let l = (kind c.requires 8 (omega arith)).long in omega arith

pub returns-in-2 : goal.returns-in-2
returns-in-2 c = ap Label c.pair_in.ensures ∙ sym (kind_is c.args.frame.now 2 c.in-2.is)

pub returns-in-3 : goal.returns-in-3
returns-in-3 c = ap (λ n. Variable n (arg_at 3)) c.pair_in-in-3.ensures ∙ sym (kind_is c.args.frame.now 3 c.in-3.is)

pub returns-in-4 : goal.returns-in-4
returns-in-4 c = sym (kind_is c.args.frame.now 4 c.in-4.is)

pub returns-in-5 : goal.returns-in-5
returns-in-5 c = ap Org c.pair_in-in-5.ensures ∙ sym (kind_is c.args.frame.now 5 c.in-5.is)

pub returns-in-6 : goal.returns-in-6
returns-in-6 c = ap (λ n. Bytes n (arg_at 2)) c.items_in.ensures ∙ sym (kind_is c.args.frame.now 6 c.in-6.is)

pub returns-in-7 : goal.returns-in-7
returns-in-7 c = ap (λ n. Words n (arg_at 2)) c.items_in-in-7.ensures ∙ sym (kind_is c.args.frame.now 7 c.in-7.is)

pub returns-in_default : goal.returns-in_default
returns-in_default c =
    let k = a_kind c.requires.0 c.args.frame.now c.requires.1.reads in
    ap₂ (λ a b. Pad a b) c.items_in-in_default.ensures (c.from.ensures ∙ c.from_be_bytes.ensures) ∙ sym (kind_is c.args.frame.now 8 (omega arith))
