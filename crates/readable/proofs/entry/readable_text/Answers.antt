-- `readable::entry::readable_text` meets its contract: what was read is written, on every input.
use mathlib.Core.Path.{sym, subst}
use mathlib.Core.List.{List}
use Prim.Native.Nat.{ℕ}
use lib.ListN.{length}
use Rattle.std.proofs.lemmas.Result.{err_from_is_err_and}
use Rattle.rules.specs.Answers.{Judged}
use Rattle.digits.specs.Leaves.{Leaves}
use Rattle.digits.proofs.Left.{refused}
use Rattle.readable.specs.Readable.{readable}
use Rattle.readable.proofs.Judged.{read, unread}
use Rattle.readable.proofs.entry.readable_text.Goals as goal

pub returns-in_err-count : goal.returns-in_err-count
returns-in_err-count c =
    let a = c.args in
    let t = c.read_listing.new in
    let p = err_from_is_err_and c.from_residual.result c.from_residual.ensures.1 in
    rw (p.1, p.2) (refused (readable a.listing.now (length a.text.now)) _ a.text.now
    (unread a.listing.now t.frames t.starts (length a.text.now) _ c.read_listing.result c.in_err-count.was c.read_listing.ensures.listed))

pub returns : goal.returns
returns c =
    let a = c.args in
    let t = c.read_listing.new in
    subst (λ (x : Judged (List ℕ)). Leaves x c.write_read.result a.text.now c.write_read.new.text)
    (sym (read a.listing.now t.frames t.starts (length a.text.now) _ c.read_listing.result
    c.in_ok-count.was c.read_listing.ensures.listed).1)
    c.write_read.ensures
