-- `put_pair` meets its contract: kept where the lines are the same, changed where they are not. Assumes nothing.
use mathlib.Core.Path.{◌≡◌, sym, ap, ◌∙◌}
use Prim.Native.Nat.{ℕ}
use native.Mathlib.Omega.{arith}
use lib.ListN.{length}
use Rattle.rules.specs.Listing.{unhex}
use Rattle.rules.specs.Output.{line_of}
use Rattle.digits.specs.Digits.{laid}
use Rattle.differences.specs.Changes.{Change, kept, changed, paired, bytes_of}
use Rattle.differences.proofs.Pieces.{kept_size, changed_size, pair_kept, pair_changed}
use Rattle.differences.proofs.lines.put_pair.Goals as goal

-- which line it is
is_kept : (i : goal.After-put_kept-arg-1) → paired i.args.i i.args.j (unhex i.args.old.now) (unhex i.args.new.now) ≡ kept i.args.i i.args.j
    (unhex i.args.new.now)
is_kept i =
    pair_kept i.args.i i.args.j i.args.old.now i.args.new.now i.requires.0 i.requires.1
    (sym i.same_bytes.ensures ∙ i.if-same_bytes.true)

-- which line it is
is_kept_2 : (i : goal.After-slice_known-then-same_bytes-1) → paired i.args.i i.args.j (unhex i.args.old.now) (unhex i.args.new.now)
    ≡ kept i.args.i i.args.j
    (unhex i.args.new.now)
is_kept_2 i =
    pair_kept i.args.i i.args.j i.args.old.now i.args.new.now i.requires.0 i.requires.1
    (sym i.same_bytes.ensures ∙ i.if-same_bytes.true)

is_changed : (i : goal.After-put_changed-arg-1) → paired i.args.i i.args.j (unhex i.args.old.now) (unhex i.args.new.now)
    ≡ changed i.args.i i.args.j (unhex i.args.old.now) (unhex i.args.new.now)
is_changed i =
    pair_changed i.args.i i.args.j i.args.old.now i.args.new.now i.requires.0 i.requires.1
    (sym i.same_bytes.ensures ∙ i.if-same_bytes.false)

is_changed_2 : (i : goal.After-slice_known-else-same_bytes-1) → paired i.args.i i.args.j (unhex i.args.old.now) (unhex i.args.new.now)
    ≡ changed i.args.i i.args.j (unhex i.args.old.now) (unhex i.args.new.now)
is_changed_2 i =
    pair_changed i.args.i i.args.j i.args.old.now i.args.new.now i.requires.0 i.requires.1
    (sym i.same_bytes.ensures ∙ i.if-same_bytes.false)

abbrev size : Change → ℕ
size d = length (line_of (bytes_of d))

pub put_kept-requires : goal.put_kept-requires
put_kept-requires c = (
  c.requires.1,
  c.requires.2,
  c.requires.3,
  omega
      (arith, c.requires.4, ap size (is_kept c), kept_size c.args.i c.args.j c.args.new.now c.requires.1),
)

pub put_changed-requires : goal.put_changed-requires
put_changed-requires c = (
  c.requires.0,
  c.requires.1,
  c.requires.2,
  c.requires.3,
  omega (
    arith,
    c.requires.4,
    ap size (is_changed c),
    changed_size c.args.i c.args.j c.args.old.now c.args.new.now
        c.requires.0 c.requires.1,
  ),
)

pub returns-then-same_bytes : goal.returns-then-same_bytes
returns-then-same_bytes c =
    let p = c.put_kept in (
      p.ensures.0 ∙ ap (λ (d : Change). laid c.args.out.now c.args.at (line_of (bytes_of d))) (sym (is_kept_2 c)),
      omega (arith, p.ensures.1, ap size (is_kept_2 c), kept_size c.args.i c.args.j c.args.new.now c.requires.1),
    )

pub returns-else-same_bytes : goal.returns-else-same_bytes
returns-else-same_bytes c =
    let p = c.put_changed in (
      p.ensures.0 ∙ ap (λ (d : Change). laid c.args.out.now c.args.at (line_of (bytes_of d))) (sym (is_changed_2 c)),
      omega (
        arith,
        p.ensures.1,
        ap size (is_changed_2 c),
        changed_size c.args.i c.args.j c.args.old.now c.args.new.now c.requires.0 c.requires.1,
      ),
    )
