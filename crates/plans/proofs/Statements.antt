-- "What C-16 writes reads back as the same statement", and "two different statements have different lines", for every statement that a
-- frame can hold. A statement read alone has place 0. Assumes nothing.
use mathlib.Core.Path.{◌≡◌, refl, sym, subst}
use mathlib.Core.List.{List, [], ◌∷◌, map}
use mathlib.Core.Bool.{Bool, true, false}
use Prim.Native.Nat.{ℕ, ◌≤◌}
use native.Mathlib.Omega.{arith}
use lib.Dec.{leb}
use borrow.Author.Tests.{le-leb, ltb-true}
use Rattle.laws.specs.Lists.{every}
use Rattle.laws.proofs.Tests.{clash, false_true, true_false, and_true, and_both}
use Rattle.rules.specs.declared.Kind.{Kind}
use Rattle.rules.specs.declared.Kind.TheVariants.{Reg, I8, D9, Bit, Rel8, A12, A16, Rel16}
use Rattle.rules.specs.Expressions.{Expr}
use Rattle.rules.specs.Forms.{operands_at}
use Rattle.rules.specs.Programs.{Operand, register, value, inner, Stmt, gone, instr, label, variable, comment, org, bytes, words, pad, is_gone}
use Rattle.promises.specs.Demand2.{own}
use Rattle.promises.proofs.Parses.{Fine}
use Rattle.promises.proofs.RoundTrip.{is_byte, AllBytes}
use Rattle.promises.proofs.Frames.{is_plain}
use Rattle.promises.proofs.Compacts.{plain_stmt}
use Rattle.promises.proofs.Sounds.{is_register, SoundExprs, Sound, Sounds, SoundStmt}
use Rattle.text.specs.Text.{arg_text, args_text, items_text, line_text}
use Rattle.grammar.specs.Reading as reading
use Rattle.grammar.specs.Reading.{Argument, Arguments, Items, Line}
use Rattle.grammar.proofs.RoundTrip.{decimal_is, name_is, reads_back}
use Rattle.plans.proofs.Wholes.{one_statement}

value_text : (k : Kind) (e : Expr) → is_register k ≡ false → Fine e → Argument k (value e) (arg_text k (value e))
value_text Reg e p s = clash (cc)
value_text I8 e p s = reading.immediate (reads_back e s)
value_text D9 e p s = reading.bare refl (reads_back e s)
value_text Bit e p s = reading.bare refl (reads_back e s)
value_text Rel8 e p s = reading.bare refl (reads_back e s)
value_text A12 e p s = reading.bare refl (reads_back e s)
value_text A16 e p s = reading.bare refl (reads_back e s)
value_text Rel16 e p s = reading.bare refl (reads_back e s)

register_text : (k : Kind) (r : ℕ) → is_register k ≡ true → r ≤ 3 → Argument k (register r) (arg_text k (register r))
register_text Reg r p h = reading.indirect h
register_text I8 r p h = false_true p
register_text D9 r p h = false_true p
register_text Bit r p h = false_true p
register_text Rel8 r p h = false_true p
register_text A12 r p h = false_true p
register_text A16 r p h = false_true p
register_text Rel16 r p h = false_true p

operand_text : (k : Kind) (x : Operand) → Sound (is_register k) x → is_plain x ≡ true → Argument k x (arg_text k x)
operand_text k x s h = on (is_register k) x refl s h
  where
    on : (b : Bool) (x : Operand) → is_register k ≡ b → Sound b x → is_plain x ≡ true → Argument k x (arg_text k x)
    on true (register r) e s h = register_text k r e s
    on true (value d) e s h = absurd s
    on true (inner i o) e s h = absurd s
    on false (register r) e s h = absurd s
    on false (value d) e s h = value_text k d e s.0
    on false (inner i o) e s h = false_true h

operands_text : (by : ℕ) (ks : List Kind) (xs : List Operand) → Sounds (map (λ k. is_register k) ks) xs → every is_plain xs ≡ true
    → Arguments by ks xs (args_text by ks xs)
unfolding args_text every
operands_text by [] [] s h = reading.Arguments.none
operands_text by [] (x ∷ xs) s h = absurd s
operands_text by (k ∷ ks) [] s h = absurd s
operands_text by (k ∷ ks) (x ∷ xs) s h =
    let p = and_true (is_plain x) (every is_plain xs) h in
    reading.Arguments.more (operand_text k x s.0 p.0) (operands_text 44 ks xs s.1 p.1)

items_text_lem : (by : ℕ) (es : List Expr) → SoundExprs es → Items by es (items_text by es)
unfolding items_text
items_text_lem by [] s = reading.Items.none
items_text_lem by (e ∷ es) s = reading.Items.more (reads_back e s.0.0) (items_text_lem 44 es s.1)

byte_wide : (x : List ℕ) → AllBytes x → every (λ b. leb b 255) x ≡ true
unfolding every
byte_wide [] h = refl
byte_wide (b ∷ x) h =
    let p = and_true (is_byte b) (every is_byte x) h in
    and_both (leb b 255) (every (λ b. leb b 255) x) (le-leb b 255 (omega (arith, ltb-true b 256 p.0))) (byte_wide x p.1)

-- "What C-16 writes reads back as the same statement"
pub statement_back : (s : Stmt) → SoundStmt s → plain_stmt s ≡ true → is_gone s ≡ false → Line (own 0 s) (line_text s)
unfolding line_text
statement_back gone s h g = true_false g
statement_back (instr f xs c) s h g = reading.instruction s.0 (operands_text 32 (operands_at f) xs s.1 h)
statement_back (label n) s h g = reading.labelled (name_is n s)
statement_back (variable n e) s h g = reading.defined (name_is n (omega (arith, s.0))) s.0 (reads_back e s.1.0)
statement_back (comment x) s h g = reading.commented (byte_wide x s)
statement_back (org l) s h g = reading.located (decimal_is 65535 l (omega (arith, s)) (omega (arith, s)))
statement_back (bytes es) s h g = reading.byte_items s.0 s.1 (items_text_lem 32 es s.2)
statement_back (words es) s h g = reading.word_items s.0 s.1 (items_text_lem 32 es s.2)
statement_back (pad a m) s h g =
    reading.aligned (decimal_is 255 a (omega (arith, s.0)) (omega (arith, s.0))) (decimal_is 256 m s.2 (omega (arith, s.2))) s.1

-- "Two different statements have different lines": but for the place that an instruction carries, which reading sets
pub different : (s r : Stmt) → SoundStmt s → plain_stmt s ≡ true → is_gone s ≡ false → SoundStmt r → plain_stmt r ≡ true → is_gone r ≡ false
    → line_text s ≡ line_text r → own 0 s ≡ own 0 r
different s r a b c x y z e =
    one_statement (own 0 s) (own 0 r) (line_text s) (statement_back s a b c)
    (subst (λ t. Line (own 0 r) t) (sym e) (statement_back r x y z))
