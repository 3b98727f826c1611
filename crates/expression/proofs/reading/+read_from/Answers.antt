-- `reading::read_from` meets its contract. The measure is the slice's length, which falls with each operand. Assumes nothing.
use mathlib.Core.Path.{◌≡◌, sym, ap, ◌∙◌}
use Rattle.std.proofs.lemmas.Result.{err_from_is_err_and}
use mathlib.Core.List.{List}
use Prim.Native.Nat.{ℕ, suc, ◌+◌, ◌-◌, ◌≤◌, min}
use native.Mathlib.Omega.{arith}
use lib.ListN.{length, get_or, take, drop}
use Rattle.expression.specs.declared.Unread.{Unread}
use Rattle.std.specs.Prelude.{Err, Result, Ok}
use Rattle.expression.specs.declared.Unread.TheVariants.{Malformed}
use Rattle.std.proofs.Common.{Fits, w8}
use Rattle.rules.specs.declared.Op1.{Op1}
use Rattle.rules.specs.declared.Op2.{Op2}
use Rattle.rules.specs.declared.Tag.TheVariants.{Number, Name, Two, One, Bad}
use Rattle.rules.specs.Expressions.{tag_of, parse}
use Rattle.expression.specs.Reading.{read_of, after_of}
use Rattle.expression.proofs.Ways.{took_ends, of_rest, lacks, by_tag_lem, number_tag, name_tag, bad_tag, one_tag, then_read, two_tag, then_ends}
use Rattle.expression.proofs.reading.+read_from.Goals as goal

-- n bytes were taken by the first of two operands, which is read as r
first : (s : List ℕ) → ((i : ℕ) → Fits w8 (get_or s i 0)) → (room : ℕ) (r : Result ℕ Unread)
    → ((f : ℕ) → room - 1 ≤ f → r ≡ read_of (parse f (room - 1) (take (length s - 1) (drop 1 s)))) → (n : ℕ) → r ≡ Ok n
    → n ≤ min (room - 1) (length s - 1)
first s v room r read n e = took_ends s (λ i. (v i).fits) room (room - 1) 1 r n e (read room (omega arith))

pub returns-then-room-lt1 : goal.returns-then-room-lt1
returns-then-room-lt1 t c f m = c.lack.ensures ∙ lacks f c.args.room c.args.s.now (omega arith) m

pub overflow_add-result : goal.overflow_add-result
overflow_add-result t c = record { fits = omega (arith, first _ c.type_inv.s _ _ c.read_from.ensures _ c.in_ok-read_from-in-One.was) }

pub overflow_add-k : goal.overflow_add-k
overflow_add-k t c = record { fits = omega (arith, first _ c.type_inv.s _ _ c.read_from-in-Two.ensures _ c.in_ok-k-in-Two.was) }

pub slice_bounds-read_from-count-in-Two-2 : goal.slice_bounds-read_from-count-in-Two-2
slice_bounds-read_from-count-in-Two-2 t c = omega (arith, first _ c.type_inv.s _ _ c.read_from-in-Two.ensures _ c.in_ok-k-in-Two.was)

pub slice_bounds-read_from-start-in-Two-2 : goal.slice_bounds-read_from-start-in-Two-2
slice_bounds-read_from-start-in-Two-2 t c = omega (arith, first _ c.type_inv.s _ _ c.read_from-in-Two.ensures _ c.in_ok-k-in-Two.was)

pub overflow_sub-room-in-Two-2 : goal.overflow_sub-room-in-Two-2
overflow_sub-room-in-Two-2 t c = omega (arith, first _ c.type_inv.s _ _ c.read_from-in-Two.ensures _ c.in_ok-k-in-Two.was)

pub overflow_add-result-in-Two : goal.overflow_add-result-in-Two
overflow_add-result-in-Two t c =
    let a = c.args in
    let k = 1 + c.in_ok-k-in-Two.field-0 in
    record {
      fits = omega (
        arith,
        first _ c.type_inv.s _ _ c.read_from-in-Two.ensures _ c.in_ok-k-in-Two.was,
        took_ends a.s.now (λ i. (c.type_inv.s i).fits) a.room (a.room - k) k c.read_from-in-Two-2.result _ c.in_ok-read_from-in-Two.was
            (c.read_from-in-Two-2.ensures a.room (omega arith)),
      );
    }

pub returns-in-Number : goal.returns-in-Number
returns-in-Number t c =
    by_tag_lem _ _ c.if-room-lt1.false c.if-s-lt1.false Number (sym c.tag_of.ensures ∙ c.in-Number.is) _
    (λ g m. c.leaf.ensures ∙ number_tag (parse g) c.args.room c.args.s.now)

pub returns-in-Name : goal.returns-in-Name
returns-in-Name t c =
    by_tag_lem _ _ c.if-room-lt1.false c.if-s-lt1.false Name (sym c.tag_of.ensures ∙ c.in-Name.is) _
    (λ g m. c.leaf-in-Name.ensures ∙ name_tag (parse g) c.args.room c.args.s.now)

-- x, what r, the only operand as it is read, comes to
only : (room : ℕ) (s : List ℕ) → 1 ≤ room → 1 ≤ length s → (o : Op1) → tag_of (get_or s 0 0) ≡ One o → (r : Result ℕ Unread)
    → ((f : ℕ) → room - 1 ≤ f → r ≡ read_of (parse f (room - 1) (take (length s - 1) (drop 1 s)))) → (x : Result ℕ Unread)
    → after_of 1 r ≡ x → (f : ℕ) → room ≤ f → x ≡ read_of (parse f room s)
only room s some byte o tag r read x w =
    by_tag_lem room s some byte (One o) tag x
    (λ g m. sym w ∙ one_tag (parse g) room s o r (of_rest g (room - 1) 1 s r (read g (omega arith))))

pub returns-in_ok-read_from-in-One : goal.returns-in_ok-read_from-in-One
returns-in_ok-read_from-in-One t c =
    only _ _ c.if-room-lt1.false c.if-s-lt1.false _ (sym c.tag_of.ensures ∙ c.in-One.is) _ c.read_from.ensures _
    (ap (after_of 1) c.in_ok-read_from-in-One.was)

pub returns-in_err-read_from-in-One : goal.returns-in_err-read_from-in-One
returns-in_err-read_from-in-One t c =
    let p = err_from_is_err_and c.from_residual.result c.from_residual.ensures.1 in
    only _ _ c.if-room-lt1.false c.if-s-lt1.false _ (sym c.tag_of.ensures ∙ c.in-One.is) _ c.read_from.ensures c.from_residual.result
    (ap (after_of 1) c.in_err-read_from-in-One.was ∙ sym (p.1 ∙ ap Err p.2))

-- what r, the first of two operands as it is read, comes to with the second
second : (room : ℕ) (s : List ℕ) → 1 ≤ room → 1 ≤ length s → (o : Op2) → tag_of (get_or s 0 0) ≡ Two o → (r : Result ℕ Unread)
    → ((f : ℕ) → room - 1 ≤ f → r ≡ read_of (parse f (room - 1) (take (length s - 1) (drop 1 s)))) → (x : Result ℕ Unread)
    → ((g : ℕ) → room ≤ suc g → x ≡ then_read (parse g) room s r) → (f : ℕ) → room ≤ f → x ≡ read_of (parse f room s)
second room s some byte o tag r read x w =
    by_tag_lem room s some byte (Two o) tag x
    (λ g m. w g m ∙ two_tag (parse g) room s o r (of_rest g (room - 1) 1 s r (read g (omega arith))))

-- x, what q, the second as it is read, comes to behind the m bytes of the first
both : (room : ℕ) (s : List ℕ) → 1 ≤ room → 1 ≤ length s → (o : Op2) → tag_of (get_or s 0 0) ≡ Two o → (r : Result ℕ Unread)
    → ((f : ℕ) → room - 1 ≤ f → r ≡ read_of (parse f (room - 1) (take (length s - 1) (drop 1 s)))) → (m : ℕ) → r ≡ Ok m → (q : Result ℕ Unread)
    → ((f : ℕ) → room - (1 + m) ≤ f → q ≡ read_of (parse f (room - (1 + m)) (take (length s - (1 + m)) (drop (1 + m) s)))) → (x : Result ℕ Unread)
    → after_of (1 + m) q ≡ x → (f : ℕ) → room ≤ f → x ≡ read_of (parse f room s)
both room s some byte o tag r read m was q more x w =
    second room s some byte o tag r read x
    (λ g h. sym w ∙ then_ends (parse g) room s m r q was (of_rest g (room - (1 + m)) (1 + m) s q (more g (omega arith))))

pub returns-in_ok-read_from-in-Two : goal.returns-in_ok-read_from-in-Two
returns-in_ok-read_from-in-Two t c =
    both _ _ c.if-room-lt1.false c.if-s-lt1.false _ (sym c.tag_of.ensures ∙ c.in-Two.is) _ c.read_from-in-Two.ensures _ c.in_ok-k-in-Two.was
    _ c.read_from-in-Two-2.ensures _ (ap (after_of (1 + c.in_ok-k-in-Two.field-0)) c.in_ok-read_from-in-Two.was)

pub returns-in_err-k-in-Two : goal.returns-in_err-k-in-Two
returns-in_err-k-in-Two t c =
    let a = c.args in
    let p = err_from_is_err_and c.from_residual-in_err-k-in-Two.result c.from_residual-in_err-k-in-Two.ensures.1 in
    second _ _ c.if-room-lt1.false c.if-s-lt1.false _ (sym c.tag_of.ensures ∙ c.in-Two.is) _ c.read_from-in-Two.ensures
    c.from_residual-in_err-k-in-Two.result
    (λ g h. p.1 ∙ ap Err p.2 ∙ sym (ap (then_read (parse g) a.room a.s.now) c.in_err-k-in-Two.was))

pub returns-in_err-read_from-in-Two : goal.returns-in_err-read_from-in-Two
returns-in_err-read_from-in-Two t c =
    let e = c.from_residual-in_err-read_from-in-Two in
    let p = err_from_is_err_and e.result e.ensures.1 in
    both _ _ c.if-room-lt1.false c.if-s-lt1.false _ (sym c.tag_of.ensures ∙ c.in-Two.is) _ c.read_from-in-Two.ensures _ c.in_ok-k-in-Two.was
    _ c.read_from-in-Two-2.ensures e.result
    (ap (after_of (1 + c.in_ok-k-in-Two.field-0)) c.in_err-read_from-in-Two.was ∙ sym (p.1 ∙ ap Err p.2))

pub returns-in-Bad : goal.returns-in-Bad
returns-in-Bad t c =
    by_tag_lem _ _ c.if-room-lt1.false c.if-s-lt1.false Bad (sym c.tag_of.ensures ∙ c.in-Bad.is) (Err Malformed)
    (λ g m. bad_tag (parse g) c.args.room c.args.s.now)
