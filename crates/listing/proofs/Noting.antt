-- What reading keeps of a frame that reads: its form and its arguments' places, each within the frame. Assumes nothing.
use mathlib.Core.Path.{◌≡◌, refl, sym, ap, ◌∙◌}
use mathlib.Core.Logic.{⊎_elim}
use mathlib.Core.Bool.{Bool, true, false, cond}
use mathlib.Core.List.{List, [], ◌∷◌}
use Prim.Native.Nat.{ℕ, zero, suc, ◌+◌, ◌*◌, ◌≤◌, ◌<◌}
use native.Mathlib.Omega.{arith}
use lib.Dec.{eqb, ltb}
use lib.ListN.{length, get_or, take, drop, set, drop_of_length-le, length-set}
use lib.Seq.{get_or-set_same, get_or-set_other}
use denote.Enum.Declared.{tag_of}
use types.Run.{OneOf}
use borrow.Author.Tests.{eqb-true, eqb-false, eq-eqb, ne_eqb, ltb-true}
use Rattle.laws.proofs.Tests.{lt_or_le}
use Rattle.rules.specs.declared.Arg.{Arg}
use Rattle.rules.specs.declared.Instr.{Instr}
use Rattle.rules.specs.declared.Kind.{Kind}
use Rattle.rules.specs.declared.Kind.TheVariants.{Reg, I8, D9, Bit, Rel8, A12, A16, Rel16}
use Rattle.rules.specs.declared.Refusal.TheVariants.{Broken}
use Rattle.rules.specs.declared.Statement.{Statement}
use Rattle.rules.specs.declared.Statement.TheVariants.{Instr as OfInstr, Label, Variable, Comment, Org, Bytes, Words, Pad}
use Rattle.rules.specs.Answers.{at_place, Judged, ok, ◌>>=◌, require}
use Rattle.rules.specs.Expressions.{parse, read_expr}
use Rattle.rules.specs.Forms.{operands_at}
use Rattle.rules.specs.Instructions.{instr_of, arguments_of}
use Rattle.rules.specs.Programs.{Operand, Stmt}
use Rattle.rules.specs.Listing.{Taken, take_byte, take_expr, take_register, take_value, take_operand, take_operands, read_instr, read_frame}
use Rattle.rules.specs.Statements.{arg_at, width_at, argument_at, instruction_of, statement_of}
use Rattle.rules.proofs.Laws.{no_ok, then_ok, require_ok}
use Rattle.rules.specs.contracts.Statement.{the_type}
use Rattle.instruction.specs.declared.forms.Args.{Args}
use Rattle.instruction.specs.declared.forms.Args.TheVariants.{None, One, Two, Three}
use Rattle.instruction.specs.Forms.{args_as}
use Rattle.instruction.proofs.Numbers.{few_operands, number_back, places_back}
use Rattle.listing.specs.Tables.{form_in}
use Rattle.listing.specs.Reading.{form_for, place_for, kept_of}
use Rattle.listing.proofs.FramesKept.{Longer}
use Rattle.listing.proofs.Statements.{operand_ok}

-- ---- an argument begins within the frame

-- where nothing is left no operand is taken
none_taken : (i : ℕ) (k : Kind) (t : Taken Operand) → take_operand i k [] ≡ ok t → ⊥
unfolding take_register take_byte take_value take_expr read_expr parse ◌>>=◌
none_taken i Reg t e = no_ok _ t e
none_taken i I8 t e = no_ok _ t e
none_taken i D9 t e = no_ok _ t e
none_taken i Bit t e = no_ok _ t e
none_taken i Rel8 t e = no_ok _ t e
none_taken i A12 t e = no_ok _ t e
none_taken i A16 t e = no_ok _ t e
none_taken i Rel16 t e = no_ok _ t e

operand_inside : (i : ℕ) (s : List ℕ) (a : ℕ) (k : Kind) (t : Taken Operand) → take_operand i k (drop a s) ≡ ok t → a < length s
operand_inside i s a k t e =
    ⊎_elim (λ h. h) (λ h. absurd (none_taken i k t (ap (take_operand i k) (sym (drop_of_length-le s h)) ∙ e))) (lt_or_le a (length s))

places_inside : (i : ℕ) (s : List ℕ) (ks : List Kind) (a : ℕ) (t : Taken (List Operand)) → take_operands i ks (drop a s) ≡ ok t
    → (j : ℕ) → j < length ks → argument_at s ks a j < length s
unfolding take_operands argument_at
places_inside i s [] a t e j l = absurd (omega arith)
places_inside i s (k ∷ ks) a t e zero l = operand_inside i s a k _ (then_ok (take_operand i k (drop a s)) _ t e).1
places_inside i s (k ∷ ks) a t e (suc j) l =
    let h = then_ok (take_operand i k (drop a s)) _ t e in
    let m = then_ok (take_operands i ks h.0.rest) _ t h.2 in
    places_inside i s ks (a + width_at s k a) m.0 (ap (take_operands i ks) (operand_ok i s a h.0 k h.1).1 ∙ m.1) j (omega arith)

-- ---- what is kept of a frame that reads
pub record Found (s : List ℕ) (x : Statement) : Type 0 where
  pub form : form_for x ≡ form_in s
  pub inside : (j : ℕ) → place_for j x ≤ length s
  pub place : get_or s 0 0 ≡ 1 → (j : ℕ) → j < length (operands_at (get_or s 1 0)) → place_for j x ≡ argument_at s (operands_at (get_or s 1 0)) 2 j

-- place j of the first n of three
nth_place : (f : ℕ → ℕ) (n j : ℕ) → n ≤ 3 → j < n → (get_or (take n (arg_at (f 0) ∷ arg_at (f 1) ∷ arg_at (f 2) ∷ [])) j (arg_at 0)).0 ≡ f j
nth_place f zero j h l = absurd (omega arith)
nth_place f (suc n) zero h l = refl
nth_place f (suc zero) (suc j) h l = absurd (omega arith)
nth_place f (suc (suc n)) (suc zero) h l = refl
nth_place f (suc (suc zero)) (suc (suc j)) h l = absurd (omega arith)
nth_place f (suc (suc (suc n))) (suc (suc zero)) h l = refl
nth_place f (suc (suc (suc zero))) (suc (suc (suc j))) h l = absurd (omega arith)
nth_place f (suc (suc (suc (suc n)))) (suc (suc (suc j))) h l = absurd (omega arith)

past_place : (n j : ℕ) (a b c : Arg) → n ≤ j → (get_or (take n (a ∷ b ∷ c ∷ [])) j (arg_at 0)).0 ≡ 0
past_place zero j a b c h = refl
past_place (suc n) zero a b c h = absurd (omega arith)
past_place (suc zero) (suc j) a b c h = refl
past_place (suc (suc n)) (suc zero) a b c h = absurd (omega arith)
past_place (suc (suc zero)) (suc (suc j)) a b c h = refl
past_place (suc (suc (suc n))) (suc (suc zero)) a b c h = absurd (omega arith)
past_place (suc (suc (suc zero))) (suc (suc (suc j))) a b c h = refl
past_place (suc (suc (suc (suc n)))) (suc (suc (suc j))) a b c h = refl

instr_found : (i k : ℕ) (s : List ℕ) (x : Stmt) → k ≡ 1 → read_instr i s ≡ ok x → Found (k ∷ s) (instruction_of (k ∷ s))
unfolding read_instr take_byte ◌>>=◌ instruction_of
instr_found i k [] x q e = no_ok _ x e
instr_found i k (f ∷ s) x q e =
    let ks = operands_at f in
    let frame : List ℕ = k ∷ f ∷ s in
    let at : ℕ → ℕ = λ j. argument_at frame ks 2 j in
    let h = then_ok (require (ltb f 70) (Broken (at_place i)) (take_operands i ks s)) _ x e in
    let r = require_ok (ltb f 70) _ (take_operands i ks s) h.0 h.1 in
    let l : f < 70 = ltb-true f 70 r.0 in
    let back = places_back f (arg_at (at 0)) (arg_at (at 1)) (arg_at (at 2)) l in
    let is : (j : ℕ) → j < length ks → (get_or (arguments_of (instr_of f (arg_at (at 0)) (arg_at (at 1)) (arg_at (at 2)))) j (arg_at 0)).0 ≡ at j =
    λ j m. ap (λ (xs : List Arg). (get_or xs j (arg_at 0)).0) back ∙ nth_place at (length ks) j (few_operands f) m in
    let none : (j : ℕ) → length ks ≤ j → (get_or (arguments_of (instr_of f (arg_at (at 0)) (arg_at (at 1)) (arg_at (at 2)))) j (arg_at 0)).0 ≡ 0 =
    λ j m. ap (λ (xs : List Arg). (get_or xs j (arg_at 0)).0) back ∙ past_place (length ks) j _ _ _ m in
    record {
      form = number_back f (arg_at (at 0)) (arg_at (at 1)) (arg_at (at 2)) l ∙ sym (ap (λ (b : Bool). cond b f 0) (eq-eqb k 1 q));
      inside = λ j. ⊎_elim (λ m. omega (arith, is j m, places_inside i frame ks 2 h.0 r.1 j m)) (λ m. omega (arith, none j m)) (lt_or_le j (length ks));
      place = λ o j m. is j m;
    }

-- no other statement has a form or places
other_found : (s : List ℕ) (x : Statement) → (get_or s 0 0 ≡ 1 → ⊥) → form_for x ≡ 0 → ((j : ℕ) → place_for j x ≡ 0) → Found s x
other_found s x n f p =
    record {
      form = f ∙ sym (ap (λ (b : Bool). cond b (get_or s 1 0) 0) (ne_eqb (get_or s 0 0) 1 n));
      inside = λ j. omega (arith, p j);
      place = λ e. absurd (n e);
    }

pub frame_found : (i : ℕ) (s : List ℕ) (x : Stmt) → read_frame i s ≡ ok x → Found s (statement_of s)
unfolding read_frame take_byte ◌>>=◌ statement_of
frame_found i [] x e = no_ok _ x e
frame_found i (k ∷ s) x e =
    first (eqb k 1) refl _ _ _ _ (λ q h. instr_found i k s x q h) (λ q. rest (eqb k 2) (eqb k 3) (eqb k 4) (eqb k 5) (eqb k 6) (eqb k 7) _ _ _ _ _ q) e
  where
    first : (b : Bool) → eqb k 1 ≡ b → (j l : Judged Stmt) (y z : Statement) → (k ≡ 1 → j ≡ ok x → Found (k ∷ s) y) → ((k ≡ 1 → ⊥) → Found (k ∷ s) z)
        → cond b j l ≡ ok x → Found (k ∷ s) (cond b y z)
    first true q j l y z f g h = f (eqb-true k 1 q) h
    first false q j l y z f g h = g (eqb-false k 1 q)

    rest : (j l m n o p : Bool) (a b c d : ℕ) (z : Arg) → (k ≡ 1 → ⊥)
        → Found (k ∷ s) (cond j (Label a) (cond l (Variable a (arg_at 3)) (cond m (Comment b) (cond n (Org a) (cond o (Bytes c z) (cond p (Words c z) (Pad c d)))))))
    rest true l m n o p a b c d z q = other_found (k ∷ s) (Label a) q refl (λ h. refl)
    rest false true m n o p a b c d z q = other_found (k ∷ s) (Variable a (arg_at 3)) q refl (λ h. refl)
    rest false false true n o p a b c d z q = other_found (k ∷ s) (Comment b) q refl (λ h. refl)
    rest false false false true o p a b c d z q = other_found (k ∷ s) (Org a) q refl (λ h. refl)
    rest false false false false true p a b c d z q = other_found (k ∷ s) (Bytes c z) q refl (λ h. refl)
    rest false false false false false true a b c d z q = other_found (k ∷ s) (Words c z) q refl (λ h. refl)
    rest false false false false false false a b c d z q = other_found (k ∷ s) (Pad c d) q refl (λ h. refl)

-- ---- the same by cases, as the code has it

-- a statement of a later variant is no instruction
pub no_instr : (x : Statement) → OneOf (1 ∷ 2 ∷ 3 ∷ 4 ∷ 5 ∷ 6 ∷ 7 ∷ []) (tag_of the_type x) → (form_for x ≡ 0) × ((j : ℕ) → place_for j x ≡ 0)
no_instr (OfInstr x) k =
    absurd
    (⊎_elim (λ q. omega arith)
    (⊎_elim (λ q. omega arith) (⊎_elim (λ q. omega arith) (⊎_elim (λ q. omega arith) (⊎_elim (λ q. omega arith) (⊎_elim (λ q. omega arith) (λ q. omega arith)))))) k)
no_instr (Label n) k = (refl, λ j. refl)
no_instr (Variable n a) k = (refl, λ j. refl)
no_instr (Comment n) k = (refl, λ j. refl)
no_instr (Org l) k = (refl, λ j. refl)
no_instr (Bytes n a) k = (refl, λ j. refl)
no_instr (Words n a) k = (refl, λ j. refl)
no_instr (Pad a m) k = (refl, λ j. refl)

abbrev pub second_in : Args → ℕ
second_in None = 0
second_in (One a) = 0
second_in (Two a b) = b.0
second_in (Three a b c) = b.0

abbrev pub third_in : Args → ℕ
third_in None = 0
third_in (One a) = 0
third_in (Two a b) = 0
third_in (Three a b c) = c.0

second_as : (xs : List Arg) → second_in (args_as xs) ≡ (get_or xs 1 (arg_at 0)).0
second_as [] = refl
second_as (a ∷ []) = refl
second_as (a ∷ b ∷ []) = refl
second_as (a ∷ b ∷ c ∷ xs) = refl

third_as : (xs : List Arg) → third_in (args_as xs) ≡ (get_or xs 2 (arg_at 0)).0
third_as [] = refl
third_as (a ∷ []) = refl
third_as (a ∷ b ∷ []) = refl
third_as (a ∷ b ∷ c ∷ xs) = refl

pub second_is : (x : Instr) {st : Statement} {a o : Args} → st ≡ OfInstr x → a ≡ args_as (arguments_of x) → a ≡ o → place_for 1 st ≡ second_in o
second_is x p q r = ap (place_for 1) p ∙ sym (second_as (arguments_of x)) ∙ ap second_in (sym q ∙ r)

pub third_is : (x : Instr) {st : Statement} {a o : Args} → st ≡ OfInstr x → a ≡ args_as (arguments_of x) → a ≡ o → place_for 2 st ≡ third_in o
third_is x p q r = ap (place_for 2) p ∙ sym (third_as (arguments_of x)) ∙ ap third_in (sym q ∙ r)

-- ---- what the table of starts has then
pub longer : (starts u : List ℕ) (i k : ℕ) (x : Statement) → length starts ≡ 4100 → i < 1024 → Found u x
    → Longer starts (kept_of (set starts (suc i) (get_or starts i 0 + k)) i x) u i k
longer starts u i k x size few found =
    record {
      size = length-set c (3075 + i) (form_for x) ∙ length-set b (2050 + i) (place_for 2 x) ∙ length-set a (1025 + i) (place_for 1 x) ∙ long;
      same = λ j l. low j (omega arith) ∙ get_or-set_other starts (suc i) j (get_or starts i 0 + k) 0 (λ e. omega arith);
      next = low (suc i) (omega arith) ∙ get_or-set_same starts (suc i) (get_or starts i 0 + k) 0 (omega arith);
      kept = λ m j p q l. apart (m * 1025 + j) (λ e. omega arith) (λ e. omega arith) (λ e. omega arith) ∙ get_or-set_other starts (suc i) (m * 1025 + j) (get_or starts i 0 + k) 0 (λ e. omega arith);
      noted = record {
        form = get_or-set_same c (3075 + i) (form_for x) 0 (omega (arith, length-set b (2050 + i) (place_for 2 x), length-set a (1025 + i) (place_for 1 x), long)) ∙ found.form;
        place = λ e j p q. places j p (omega (arith, q, few_operands (get_or u 1 0))) ∙ found.place e j q;
      };
    }
  where
    a : List ℕ
    a = set starts (suc i) (get_or starts i 0 + k)

    b : List ℕ
    b = set a (1025 + i) (place_for 1 x)

    c : List ℕ
    c = set b (2050 + i) (place_for 2 x)

    long : length a ≡ 4100
    long = length-set starts (suc i) (get_or starts i 0 + k) ∙ size

    apart : (n : ℕ) → (n ≡ 1025 + i → ⊥) → (n ≡ 2050 + i → ⊥) → (n ≡ 3075 + i → ⊥) → get_or (kept_of a i x) n 0 ≡ get_or a n 0
    apart n p q r =
        get_or-set_other c (3075 + i) n (form_for x) 0 r ∙ get_or-set_other b (2050 + i) n (place_for 2 x) 0 q ∙ get_or-set_other a (1025 + i) n (place_for 1 x) 0 p

    low : (n : ℕ) → n ≤ 1024 → get_or (kept_of a i x) n 0 ≡ get_or a n 0
    low n l = apart n (λ e. omega arith) (λ e. omega arith) (λ e. omega arith)

    places : (j : ℕ) → 1 ≤ j → j ≤ 2 → get_or (kept_of a i x) (j * 1025 + i) 0 ≡ place_for j x
    places zero p q = absurd (omega arith)
    places (suc zero) p q =
        get_or-set_other c (3075 + i) (1025 + i) (form_for x) 0 (λ e. omega arith)
        ∙ get_or-set_other b (2050 + i) (1025 + i) (place_for 2 x) 0 (λ e. omega arith)
        ∙ get_or-set_same a (1025 + i) (place_for 1 x) 0 (omega (arith, long))
    places (suc (suc zero)) p q =
        get_or-set_other c (3075 + i) (2050 + i) (form_for x) 0 (λ e. omega arith)
        ∙ get_or-set_same b (2050 + i) (place_for 2 x) 0 (omega (arith, length-set a (1025 + i) (place_for 1 x), long))
    places (suc (suc (suc j))) p q = absurd (omega arith)
