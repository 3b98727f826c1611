-- Each argument that was judged good is read again from what was written for it: document 01's encoding of an instruction has one reading.
use mathlib.Core.Path.{◌≡◌, refl, subst, sym, ◌∙◌, ap}
use mathlib.Core.Logic.{⊎_elim}
use mathlib.Core.List.{List, [], ◌∷◌, ◌++◌, map}
use mathlib.Core.Bool.{Bool, true, false}
use Prim.Native.Nat.{ℕ, zero, suc, ◌+◌, ◌-◌, ◌*◌, ◌%◌, ◌^◌, ◌<◌, ◌≤◌}
use native.Mathlib.Nat.{mod-eq_of_lt}
use native.Mathlib.Omega.{arith}
use lib.Dec.{eqb, ltb}
use lib.ListN.{length, get_or}
use lib.IntN.{ℤ, pos, negsuc, ◌-ℤ◌}
use borrow.Author.Tests.{ltb-true, lt-ltb, le-ltb, leb-true, eqb-true}
use Rattle.laws.specs.Lists.{every}
use Rattle.laws.proofs.Tests.{and_true, false_true, lt_or_le}
use Rattle.rules.specs.declared.Kind.{Kind}
use Rattle.rules.specs.declared.Kind.TheVariants.{Reg, I8, D9, Bit, Rel8, A12, A16, Rel16}
use Rattle.rules.specs.declared.Refusal.TheVariants.{Range, Outside, Far, Page}
use Rattle.rules.specs.Answers.{at_place, ok}
use Rattle.rules.proofs.Laws.{then_ok, require_ok}
use Rattle.rules.specs.Values.{below, signed_byte, mod256, nat}
use Rattle.rules.specs.Expressions.{Expr, num, name, two, one, eval_tree}
use Rattle.rules.specs.Forms.{size_at, operands_at}
use Rattle.rules.specs.Patterns.{argument, bytes_at}
use Rattle.rules.specs.Programs.{Placeℕ, Addressℕ, Operand, register, value, inner, Program}
use Rattle.rules.specs.Names.{Entry}
use Rattle.rules.specs.Encoding.{page, field}
use Rattle.rules.specs.Judging.{value_at, worth_of, fields}
use Rattle.promises.proofs.Sounds.{is_register, shapes, Sound, Sounds}
use Rattle.instruction.proofs.Numbers.{few_operands}
use Rattle.decoding.specs.Opcodes.{form_of_byte}
use Rattle.decoding.specs.Promise.{is_plain_number, is_plain_operand}
use Rattle.decoding.specs.Operands.{width, held_in, near, reads, operand_of, operands_from, none_outside}
use Rattle.decoding.proofs.Tables.{one_form, shaped}
use Rattle.decoding.proofs.Written.{written_length, written_bytes, written_begins, written_held}
use Rattle.decoding.proofs.Fields.{up, down}

-- ---- an address: a number from 0 to 65,535

number : (m : ℕ) (z : ℤ) → below m z ≡ true → (a : ℕ) × (z ≡ pos a) × (a < m)
number m (pos a) h = (a, refl, ltb-true a m h)
number m (negsuc a) h = false_true h

-- what is read again: inside, and the number itself
record Again (n : Addressℕ) (d : Kind) (z : ℤ) (v : ℕ) : Type 0 where
  inside : below 65536 (reads n d (v % 2 ^ width d)) ≡ true
  is : reads n d (v % 2 ^ width d) ≡ z

said : (n : Addressℕ) (d : Kind) (z : ℤ) (v a : ℕ) → z ≡ pos a → a < 65536 → reads n d (v % 2 ^ width d) ≡ pos a → Again n d z v
said n d z v a e l r = record { inside = ap (below 65536) r ∙ lt-ltb a 65536 l; is = r ∙ sym e }

-- a range of m numbers that w bits hold
ranged : (n : Addressℕ) (d : Kind) (m : ℕ) (z : ℤ) (v : ℕ) → ((x : ℕ) → reads n d x ≡ pos x) → 2 ^ width d ≡ m → m ≤ 65536
    → below m z ≡ true → ok (nat z) ≡ ok v → Again n d z v
ranged n d m z v r w l b e =
    let t = number m z b in
    let q : v ≡ t.0 = let k : nat z ≡ v = cc in sym k ∙ ap nat t.1 in
    let s : v % 2 ^ width d ≡ t.0 = rw (w, q) (low t.0 t.2) in
    said n d z v t.0 t.1 (omega (arith, t.2)) (r (v % 2 ^ width d) ∙ ap pos s)
  where
    low : (a : ℕ) → a < m → a % m ≡ a
    low a h = mod-eq_of_lt h

-- ---- rel8: below n and above
rel8_up : (n a : ℕ) → n ≤ a → signed_byte (pos a -ℤ pos n) ≡ true → near n (mod256 (pos a -ℤ pos n) % 256) ≡ pos a
rel8_up n a l s =
    let d : pos a -ℤ pos n ≡ pos (a - n) = up a n l in
    let k : a - n ≤ 127 = leb-true (a - n) 127 (rw d at s) in
    let v : mod256 (pos a -ℤ pos n) % 256 ≡ a - n = rw d (omega arith) in
    rw (v, lt-ltb (a - n) 128 (omega arith)) (ap pos (omega arith))

rel8_down : (n a : ℕ) → a < n → signed_byte (pos a -ℤ pos n) ≡ true → near n (mod256 (pos a -ℤ pos n) % 256) ≡ pos a
rel8_down n a l s =
    let d : pos a -ℤ pos n ≡ negsuc (n - suc a) = down a n l in
    let k : suc (n - suc a) ≤ 128 = leb-true (suc (n - suc a)) 128 (rw d at s) in
    let v : mod256 (pos a -ℤ pos n) % 256 ≡ 256 - (n - a) = rw d (omega arith) in
    rw (v, le-ltb (256 - (n - a)) 128 (omega arith), up (n + (256 - (n - a))) 256 (omega arith)) (ap pos (omega arith))

rel8_again : (n : Addressℕ) (z : ℤ) (v : ℕ) → below 65536 z ≡ true → signed_byte (z -ℤ pos n) ≡ true → ok (mod256 (z -ℤ pos n)) ≡ ok v
    → Again n Rel8 z v
rel8_again n z v b s e =
    let t = number 65536 z b in
    let k : mod256 (z -ℤ pos n) ≡ v = cc in
    let s' : signed_byte (pos t.0 -ℤ pos n) ≡ true = rw t.1 at s in
    let q : v ≡ mod256 (pos t.0 -ℤ pos n) = sym k ∙ ap (λ (y : ℤ). mod256 (y -ℤ pos n)) t.1 in
    let r : near n (mod256 (pos t.0 -ℤ pos n) % 256) ≡ pos t.0 = ⊎_elim (λ l. rel8_down n t.0 l s') (λ l. rel8_up n t.0 l s')
    (lt_or_le t.0 n) in
    said n Rel8 z v t.0 t.1 t.2 (ap (λ (x : ℕ). near n (x % 256)) q ∙ r)

-- ---- each kind
again : (i : Placeℕ) (j : ℕ) (n : Addressℕ) (d : Kind) (z : ℤ) (v : ℕ) → n ≤ 65536 → (is_register d ≡ true → below 4 z ≡ true)
    → field i j n d z ≡ ok v → Again n d z v
unfolding field
again i j n Reg z v m g e = ranged n Reg 4 z v (λ x. refl) refl (omega arith) (g refl) e
again i j n I8 z v m g e = let t = require_ok (below 256 z) (Range (at_place i) j z) (ok (nat z)) v e in
    ranged n I8 256 z v (λ x. refl) refl
    (omega arith) t.0 t.1
again i j n D9 z v m g e = let t = require_ok (below 512 z) (Range (at_place i) j z) (ok (nat z)) v e in
    ranged n D9 512 z v (λ x. refl) refl
    (omega arith) t.0 t.1
again i j n Bit z v m g e = let t = require_ok (below 8 z) (Range (at_place i) j z) (ok (nat z)) v e in ranged n Bit 8 z v (λ x. refl) refl
    (omega arith) t.0 t.1
again i j n A16 z v m g e = let t = require_ok (below 65536 z) (Range (at_place i) j z) (ok (nat z)) v e in ranged n A16 65536 z v
    (λ x. refl) refl (omega arith) t.0 t.1
again i j n A12 z v m g e =
    let t = require_ok (below 65536 z) (Range (at_place i) j z) _ v e in
    let u = require_ok (eqb (page (nat z)) (page n)) (Page (at_place i) j z) (ok (nat z)) v t.1 in
    let x = number 65536 z t.0 in
    let k : nat z ≡ v = cc u.1 in
    let q : v ≡ x.0 = sym k ∙ ap nat x.1 in
    let p : page x.0 ≡ page n = sym (ap (λ (y : ℤ). page (nat y)) x.1) ∙ eqb-true (page (nat z)) (page n) u.0 in
    let r : page n * 4096 + v % 4096 ≡ x.0 = omega (arith, p, x.2) in
    said n A12 z v x.0 x.1 x.2 (ap pos r)
again i j n Rel8 z v m g e =
    let t = require_ok (below 65536 z) (Outside (at_place i) j z) _ v e in
    let u = require_ok (signed_byte (z -ℤ pos n)) (Far (at_place i) j (z -ℤ pos n)) (ok (mod256 (z -ℤ pos n))) v t.1 in
    rel8_again n z v t.0 u.0 u.1
again i j n Rel16 z v m g e =
    let t = require_ok (below 65536 z) (Outside (at_place i) j z) (ok ((nat z + 65537 - n) % 65536)) v e in
    let x = number 65536 z t.0 in
    let k : (nat z + 65537 - n) % 65536 ≡ v = cc t.1 in
    let q : v ≡ (x.0 + 65537 - n) % 65536 = sym k ∙ ap (λ (y : ℤ). (nat y + 65537 - n) % 65536) x.1 in
    let r : (v % 65536 + n + 65535) % 65536 ≡ x.0 = omega (arith, x.2) in
    said n Rel16 z v x.0 x.1 x.2 (ap pos r)

-- ---- an operand that is a register or a plain number, and its value

data Plain : Bool → Operand → ℤ → Type 0 where
  a_register : (r : ℕ) → r ≤ 3 → Plain true (register r) (pos r)
  a_number : (z : ℤ) → Plain false (value (num z)) z

plain_number : (e : Expr) → is_plain_number e ≡ true → (z : ℤ) × (Plain false (value e) z)
plain_number (num z) h = (z, a_number z)
plain_number (name n) h = false_true h
plain_number (two o e d) h = false_true h
plain_number (one o e) h = false_true h

plain_operand : (b : Bool) (x : Operand) → Sound b x → is_plain_operand x ≡ true → (z : ℤ) × (Plain b x z)
plain_operand true (register r) s h = (pos r, a_register r s)
plain_operand true (value e) s h = absurd s
plain_operand true (inner i o) s h = absurd s
plain_operand false (register r) s h = absurd s
plain_operand false (value e) s h = plain_number e h
plain_operand false (inner i o) s h = false_true h

plain_low : (b : Bool) (x : Operand) (z : ℤ) → Plain b x z → b ≡ true → below 4 z ≡ true
plain_low _ _ _ (a_register r l) e = lt-ltb r 4 (omega arith)
plain_low _ _ _ (a_number z) e = false_true e

plain_worth : (names : List Entry) (p : Program) (i : Placeℕ) (k : ℕ) (b : Bool) (x : Operand) (z : ℤ) → Plain b x z
    → value_at i (worth_of names p k x) ≡ ok z
unfolding eval_tree
plain_worth names p i k _ _ _ (a_register r l) = refl
plain_worth names p i k _ _ _ (a_number z) = refl

number_again : (x : Operand) (z y : ℤ) → Plain false x z → y ≡ z → value (num y) ≡ x
number_again _ _ y (a_number z) e = ap (λ (u : ℤ). value (num u)) e

register_again : (x : Operand) (z : ℤ) (w : ℕ) → Plain true x z → pos w ≡ z → register w ≡ x
register_again _ _ w (a_register r l) e = let q : w ≡ r = cc in ap register q

operand_again : (n : Addressℕ) (d : Kind) (x : Operand) (z : ℤ) (w : ℕ) → Plain (is_register d) x z → reads n d w ≡ z → operand_of n d w ≡ x
operand_again n Reg x z w h e = register_again x z w h e
operand_again n I8 x z w h e = number_again x z (reads n I8 w) h e
operand_again n D9 x z w h e = number_again x z (reads n D9 w) h e
operand_again n Bit x z w h e = number_again x z (reads n Bit w) h e
operand_again n Rel8 x z w h e = number_again x z (reads n Rel8 w) h e
operand_again n A12 x z w h e = number_again x z (reads n A12 w) h e
operand_again n A16 x z w h e = number_again x z (reads n A16 w) h e
operand_again n Rel16 x z w h e = number_again x z (reads n Rel16 w) h e

-- ---- the arguments of form f, of which s holds what was written

module _ (f : ℕ) (s : List ℕ) (names : List Entry) (p : Program) (i : Placeℕ) (k : ℕ) (n : Addressℕ) (m : n ≤ 65536) where
  abbrev HeldIn : (j : ℕ) (ds : List Kind) (vs : List ℕ) → Type 0
  HeldIn j ds vs = (l : ℕ) → l < length ds → held_in f s (j + l) (width (get_or ds l Reg)) ≡ get_or vs l 0 % 2 ^ width (get_or ds l Reg)

  held_next : (j : ℕ) (d : Kind) (ds : List Kind) (v : ℕ) (vs : List ℕ) → HeldIn j (d ∷ ds) (v ∷ vs) → HeldIn (suc j) ds vs
  held_next j d ds v vs h l e = let z : j + suc l ≡ suc j + l = omega arith in rw z at (h (suc l) (omega arith))

  operands_again : (j : ℕ) (ds : List Kind) (xs : List Operand) (vs : List ℕ) → Sounds (map (λ k. is_register k) ds) xs
      → every is_plain_operand xs ≡ true
      → fields names p i k n j ds xs ≡ ok vs → HeldIn j ds vs → (operands_from f s n j ds ≡ xs) × (none_outside f s n j ds ≡ true)
  unfolding fields operands_from none_outside every
  operands_again j [] [] vs o h e g = (refl, refl)
  operands_again j [] (x ∷ xs) vs o h e g = absurd o
  operands_again j (d ∷ ds) [] vs o h e g = absurd o
  operands_again j (d ∷ ds) (x ∷ xs) vs o h e g =
      let t = and_true (is_plain_operand x) (every is_plain_operand xs) h in
      let y = plain_operand (is_register d) x o.0 t.0 in
      let a = then_ok (value_at i (worth_of names p k x)) _ vs e in
      let z : a.0 ≡ y.0 = let w = plain_worth names p i k (is_register d) x y.0 y.1 in cc a.1 in
      let b = then_ok (field i j n d a.0) _ vs a.2 in
      let c = then_ok (fields names p i k n (suc j) ds xs) _ vs b.2 in
      let v : vs ≡ b.0 ∷ c.0 = cc c.2 in
      let g' : HeldIn j (d ∷ ds) (b.0 ∷ c.0) = rw v at g in
      let j0 : j + 0 ≡ j = omega arith in
      let w : held_in f s j (width d) ≡ b.0 % 2 ^ width d = rw j0 at (g' 0 (omega arith)) in
      let r = again i j n d y.0 b.0 m (plain_low (is_register d) x y.0 y.1)
      (subst (λ (u : ℤ). field i j n d u ≡ ok b.0) z b.1) in
      let rest = operands_again (suc j) ds xs c.0 o.1 t.1 c.1 (held_next j d ds b.0 c.0 g') in
      let one : operand_of n d (held_in f s j (width d)) ≡ x = operand_again n d x y.0 (held_in f s j (width d)) y.1
      (ap (reads n d) w ∙ r.is) in
      let inside : below 65536 (reads n d (held_in f s j (width d))) ≡ true = ap (λ (u : ℕ). below 65536 (reads n d u)) w ∙ r.inside in
      (rw (one, rest.0), rw inside rest.1)

-- ---- and the whole instruction, whatever follows its bytes

argument_of : (vs : List ℕ) (j : ℕ) → j < 3 → argument (get_or vs 0 0) (get_or vs 1 0) (get_or vs 2 0) j ≡ get_or vs j 0
argument_of vs zero h = refl
argument_of vs (suc zero) h = refl
argument_of vs (suc (suc zero)) h = refl
argument_of vs (suc (suc (suc j))) h = absurd (omega arith)

first_low : (s rest : List ℕ) → every (λ b. ltb b 256) s ≡ true → 1 ≤ length s → get_or (s ++ rest) 0 0 < 256
unfolding every
first_low [] rest h l = absurd (omega arith)
first_low (b ∷ s) rest h l = ltb-true b 256 (and_true (ltb b 256) (every (λ x. ltb x 256) s) h).0

pub record InstrAgain (f : ℕ) (s : List ℕ) (n : Addressℕ) (xs : List Operand) : Type 0 where
  pub form : form_of_byte (get_or s 0 0) ≡ f
  pub operands : operands_from f s n 0 (operands_at f) ≡ xs
  pub inside : none_outside f s n 0 (operands_at f) ≡ true

pub bytes_length : (f : ℕ) (vs : List ℕ) → f < 70 → length (bytes_at f vs) ≡ size_at f
unfolding bytes_at
bytes_length f vs l = written_length f l (get_or vs 0 0) (get_or vs 1 0) (get_or vs 2 0) []

pub instr_again : (f : ℕ) (xs : List Operand) (vs rest : List ℕ) (names : List Entry) (p : Program) (i : Placeℕ) (k : ℕ) (n : Addressℕ)
    → f < 70 → n ≤ 65536
    → Sounds (shapes f) xs → every is_plain_operand xs ≡ true → fields names p i k n 0 (operands_at f) xs ≡ ok vs
    → InstrAgain f (bytes_at f vs ++ rest) n xs
unfolding bytes_at
instr_again f xs vs rest names p i k n l m o h e =
    let a : ℕ = get_or vs 0 0 in
    let b : ℕ = get_or vs 1 0 in
    let c : ℕ = get_or vs 2 0 in
    let s : List ℕ = bytes_at f vs ++ rest in
    let size = written_length f l a b c rest in
    let low = first_low (bytes_at f vs) rest (written_bytes f l a b c rest) (omega (arith, size, (shaped f l).some)) in
    let g : HeldIn f s names p i k n m 0 (operands_at f) vs =
    λ j t. let z : 0 + j ≡ j = omega arith in
    rw z (written_held f l a b c rest j t
    ∙ ap (λ (v : ℕ). v % 2 ^ width (get_or (operands_at f) j Reg)) (argument_of vs j (omega (arith, few_operands f)))) in
    let r = operands_again f s names p i k n m 0 (operands_at f) xs vs o h e g in
    record { form = sym ((one_form (get_or s 0 0) low).no_other f l (written_begins f l a b c rest)); operands = r.0; inside = r.1 }
