-- C-16: "Two different statements have different lines", of statements that were read from frames. Source lines are no part of a statement.
use mathlib.Core.Path.{◌≡◌, refl, sym, ap, ◌∙◌}
use mathlib.Core.List.{List, [], ◌∷◌}
use mathlib.Core.Bool.{true, false}
use Prim.Native.Nat.{ℕ}
use native.Mathlib.Omega.{arith}
use lib.Dec.{eqb}
use borrow.Author.Tests.{eqb-true}
use Rattle.laws.specs.Lists.{every}
use Rattle.laws.proofs.Tests.{clash, and_true}
use Rattle.rules.specs.declared.Refusal.TheVariants.{Broken}
use Rattle.rules.specs.Answers.{ok, ◌>>=◌, at_place}
use Rattle.rules.specs.Programs.{Stmt, gone, instr, label, variable, comment, org, bytes, words, pad, is_gone}
use Rattle.rules.specs.Listing.{read_frame, read_frame_in, old_form, take_byte}
use Rattle.rules.specs.Output.{frame_of}
use Rattle.rules.proofs.Laws.{no_ok}
use Rattle.promises.specs.Demand2.{own}
use Rattle.promises.proofs.Says.{says_ok}
use Rattle.promises.proofs.Parses.{Bytes}
use Rattle.promises.proofs.Frames.{is_plain, made_at, OfReading, FramedIn, frame_read_in}
use Rattle.promises.proofs.Compacts.{plain_stmt}
use Rattle.text.specs.Text.{line_text}
use Rattle.plans.proofs.Statements.{different}

framed : (a : List ℕ) (s : Stmt) → read_frame 0 a ≡ ok s → FramedIn old_form 0 a s
framed a s e = says_ok (FramedIn old_form 0 a) (OfReading 0) (read_frame_in old_form 0 a) s (frame_read_in old_form 0 a) e

-- a frame has a byte, and so holds a statement
live : (a : List ℕ) (s : Stmt) → read_frame 0 a ≡ ok s → is_gone s ≡ false
unfolding frame_of read_frame take_byte ◌>>=◌
live [] s e = no_ok (Broken (at_place 0)) s e
live (k ∷ x) gone e = clash (omega (arith, (framed (k ∷ x) gone e).as_long))
live (k ∷ x) (instr f xs c) e = refl
live (k ∷ x) (label n) e = refl
live (k ∷ x) (variable n d) e = refl
live (k ∷ x) (comment y) e = refl
live (k ∷ x) (org l) e = refl
live (k ∷ x) (bytes es) e = refl
live (k ∷ x) (words es) e = refl
live (k ∷ x) (pad n m) e = refl

-- what reading makes at place 0: no inner label, and its own place
plain : (s : Stmt) → made_at 0 s ≡ true → plain_stmt s ≡ true
unfolding every
plain gone h = refl
plain (instr f xs c) h = (and_true (eqb c 0) (every is_plain xs) h).1
plain (label n) h = refl
plain (variable n d) h = refl
plain (comment y) h = refl
plain (org l) h = refl
plain (bytes es) h = refl
plain (words es) h = refl
plain (pad n m) h = refl

own_is : (s : Stmt) → made_at 0 s ≡ true → own 0 s ≡ s
own_is gone h = refl
own_is (instr f xs c) h = ap (λ (i : ℕ). instr f xs i) (sym (eqb-true c 0 (and_true (eqb c 0) (every is_plain xs) h).0))
own_is (label n) h = refl
own_is (variable n d) h = refl
own_is (comment y) h = refl
own_is (org l) h = refl
own_is (bytes es) h = refl
own_is (words es) h = refl
own_is (pad n m) h = refl

pub different_lines : (a b : List ℕ) → Bytes a → Bytes b → (s r : Stmt) → read_frame 0 a ≡ ok s → read_frame 0 b ≡ ok r
    → line_text s ≡ line_text r → s ≡ r
different_lines a b ba bb s r d e t =
    let h = framed a s d in
    let k = framed b r e in
    sym (own_is s h.made)
    ∙ different s r (h.sound ba) (plain s h.made) (live a s d) (k.sound bb) (plain r k.made) (live b r e) t
    ∙ own_is r k.made
