-- `readback::frames::put_argument` meets its contract: the kind is found, what is held is read as a number, and the number is stored.
-- Assumes nothing.
use mathlib.Core.Path.{◌≡◌, sym, ap, ◌∙◌}
use mathlib.Core.List.{List}
use Prim.Native.Nat.{ℕ, ◌+◌}
use lib.ListN.{length}
use lib.IntN.{ℤ}
use Rattle.rules.specs.declared.Kind.{Kind}
use Rattle.rules.specs.Forms.{operands_at}
use Rattle.digits.specs.Digits.{laid}
use Rattle.decoding.specs.Numbers.{number_as}
use Rattle.decoding.specs.Operands.{reads}
use Rattle.readback.specs.Frames.{kind_at, held_at, value_bytes}
use Rattle.readback.proofs.Arguments.{kind_is, kind_there, held_is, NumberIs, number_is, number_out, value_bytes_lem}
use Rattle.readback.proofs.frames.put_argument.Goals as goal
use Rattle.readback.proofs.frames.put_argument.Goals.{After-read_as}

-- what is held was read
module _ (h : After-read_as) where
  kind_found : h.in_ok-kind.kind ≡ kind_at h.args.form h.args.j
  kind_found =
      let a = h.args in
      kind_is (operands_at a.form) a.j h.in_ok-kind.kind (sym h.operand_kind.ensures ∙ h.in_ok-kind.was)

  value_found : h.held-v.result ≡ held_at h.args.form h.args.s.now h.args.j
  value_found =
      let a = h.args in
      held_is a.form a.s.now a.j h.held-v.result h.requires.0 h.requires.1 kind_found h.byte_at.ensures
      h.byte_at-2.ensures h.byte_at-3.ensures h.held-v.ensures

  -- what is read of it
  abbrev number : ℤ
  number = let a = h.args in reads a.n.0 (kind_at a.form a.j) (held_at a.form a.s.now a.j)

  number_found : h.read_as.result ≡ number_as number
  number_found =
      let n = h.args.n.0 in
      h.read_as.ensures ∙ ap (λ (v : ℕ). number_as (reads n h.in_ok-kind.kind v)) value_found
      ∙ ap (λ (d : Kind). number_as (reads n d (held_at h.args.form h.args.s.now h.args.j))) kind_found

-- there is an argument j
pub returns-in_err-kind : goal.returns-in_err-kind
returns-in_err-kind c =
    rw c.from_residual.ensures
    (kind_there (operands_at c.args.form) c.args.j c.requires.1 (sym c.operand_kind.ensures ∙ c.in_err-kind.was))

pub returns-in_err-number : goal.returns-in_err-number
returns-in_err-number c =
    let h = (goal.at.returns-in_err-number c).After-read_as in
    rw c.from_residual-in_err-number.ensures (number_out (number h) (sym (number_found h) ∙ c.in_err-number.was))

pub returns : goal.returns
returns c =
    let a = c.args in
    let h = (goal.at.returns c).After-read_as in
    let m : NumberIs (number h) c.in_ok-number.number = number_is (number h) _ (sym (number_found h) ∙ c.in_ok-number.was) in
    let e = ap (λ (d : Kind). value_bytes d c.in_ok-number.number) (kind_found h)
    ∙ sym (value_bytes_lem a.n.0 (kind_at a.form a.j) (held_at a.form a.s.now a.j) c.in_ok-number.number m.is) in (
      m.inside,
      c.put_value.ensures.0 ∙ ap (laid a.frame.now a.at) e,
      c.put_value.ensures.1
          ∙ ap (λ (x : List ℕ). a.at + length x) e,
    )
