-- `slots::live::instr_at` meets its contract: the form that stands there, and the arguments where they were read.
use mathlib.Core.Path.{◌≡◌, sym, ap, ◌∙◌}
use mathlib.Core.List.{List}
use Prim.Native.Nat.{ℕ, ◌<◌}
use native.Mathlib.Omega.{arith}
use lib.ListN.{length, get_or}
use borrow.Author.Tests.{lt-ltb}
use Rattle.std.proofs.Common.{rules}
use Rattle.rules.specs.declared.Statement.TheVariants.{Instr as OfInstr}
use Rattle.rules.specs.Forms.{operands_at}
use Rattle.rules.specs.Instructions.{form_of}
use Rattle.rules.specs.Statements.{arg_at, argument_at}
use Rattle.instruction.proofs.Numbers.{number_back, made_is}
use Rattle.listing.specs.Tables.{frame_at, Held}
use Rattle.slots.specs.Slots.{Slots, slots}
use Rattle.slots.specs.State.{starts_in, forms_in}
use Rattle.slots.specs.Meaning.{meant_by}
use Rattle.slots.proofs.State.{found_at}
use Rattle.slots.proofs.Slots.{not_gone}
use Rattle.slots.proofs.Stands.{instr_means, first_is}
use Rattle.slots.proofs.live.instr_at.Goals as goal

-- behind the arguments' places
module _ (c : goal.After-unwrap) where
  abbrev place : ℕ
  place = c.args.at.0

  abbrev second : ℕ
  second = c.from.result

  abbrev third : ℕ
  third = c.from-2.result

  abbrev held : ℕ
  held = c.form_in.result

  form_is : held ≡ get_or (forms_in c.args.state.now) place 0
  form_is = c.form_in.ensures

  module _ (frames : List ℕ) (count : ℕ) (h : Held frames (starts_in c.args.state.now) count) (l : place < count) where
    abbrev frame : List ℕ
    frame = frame_at frames (starts_in c.args.state.now) place

    second_is : get_or frame 0 0 ≡ 1 → (j : ℕ) → 1 < length (operands_at (get_or frame 1 0)) → second ≡ argument_at frame
        (operands_at (get_or frame 1 0)) 2 1
    second_is one j m =
        c.from.ensures ∙ sym (found_at c.args.state.now 1 place (omega arith) (omega (arith, c.requires.0)))
        ∙ (h.noted place l).place one 1 (omega arith) m

    third_is : get_or frame 0 0 ≡ 1 → (j : ℕ) → 2 < length (operands_at (get_or frame 1 0)) → third ≡ argument_at frame
        (operands_at (get_or frame 1 0)) 2 2
    third_is one j m =
        c.from-2.ensures ∙ sym (found_at c.args.state.now 2 place (omega arith) (omega (arith, c.requires.0)))
        ∙ (h.noted place l).place one 2 (omega arith) m

pub unwrap-requires : goal.unwrap-requires
unwrap-requires c =
    let l : c.form_in.result < 70 = omega (arith, c.form_in.ensures, c.requires.1) in
    rw (c.make.ensures, lt-ltb c.form_in.result 70 l) (search rules)

pub returns : goal.returns
returns c =
    let made = made_is (held c) (arg_at 2) (arg_at (second c)) (arg_at (third c)) c.make.ensures c.unwrap.ensures in record {
      form = ap form_of made.1 ∙ number_back (held c) (arg_at 2) (arg_at (second c)) (arg_at (third c)) made.0 ∙ form_is c;
      means = λ frames count carry owners offsets h l kind agree.
          let t : Slots = slots frames (starts_in c.args.state.now) count (forms_in c.args.state.now) carry owners offsets in
          let one = first_is t h (place c) l 0 kind in
          instr_means t h (place c) l (held c) (sym (form_is c)) (not_gone t (place c) 0 kind) one agree (second c) (third c)
          (second_is c frames count h l one) (third_is c frames count h l one)
          ∙ ap (λ x. meant_by t (place c) (OfInstr x)) (sym made.1);
    }
