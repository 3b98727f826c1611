-- An arm of a match over ranges of a byte: what the ranges of the definition say of each byte of it, by one test that antt computes.
use mathlib.Core.Path.{◌≡◌, refl, sym, ◌∙◌, ap}
use mathlib.Core.List.{List, [], ◌∷◌}
use mathlib.Core.Bool.{Bool, true, ◌&&◌, cond}
use Prim.Native.Nat.{ℕ, suc, ◌+◌, ◌-◌, ◌≤◌}
use native.Mathlib.Omega.{arith}
use lib.Dec.{T, eqb}
use borrow.Author.Tests.{eqb-true, ne_eqb}
use Rattle.laws.specs.Counts.{all_to}
use Rattle.laws.specs.Lists.{every}
use Rattle.laws.proofs.Tests.{and_true, cond_true}
use Rattle.rules.specs.Forms.{size_at}
use Rattle.instruction.proofs.Entries.{holds_at, NoneIn, outside}
use Rattle.decoding.specs.Opcodes.{form_of_byte}

-- from lo on, the next n bytes begin form f, which has z bytes
abbrev pub armed : (lo n f z : ℕ) → Bool
armed lo n f z = all_to (λ k. eqb (form_of_byte (lo + k)) f && eqb (size_at f) z) n

pub arm : (lo n f z : ℕ) → T (armed lo n f z) → {b : ℕ} → lo ≤ b → suc b ≤ lo + n → (f ≡ form_of_byte b) × (z ≡ size_at (form_of_byte b))
arm lo n f z t {b} l m =
    let e : lo + (b - lo) ≡ b = omega arith in
    let h = and_true (eqb (form_of_byte (lo + (b - lo))) f) (eqb (size_at f) z)
    (holds_at (λ k. eqb (form_of_byte (lo + k)) f && eqb (size_at f) z) n t (b - lo) (omega arith)) in
    let x : form_of_byte b ≡ f = ap form_of_byte (sym e) ∙ eqb-true (form_of_byte (lo + (b - lo))) f h.0 in
    (sym x, sym (ap size_at x ∙ eqb-true (size_at f) z h.1))

-- the bytes that begin a form alone, the last first
abbrev pub singles : List ℕ
singles =
    0xF1 ∷ 0xF0 ∷ 0xE1 ∷ 0xE0 ∷ 0xD1 ∷ 0xD0 ∷ 0xC1 ∷ 0xC0 ∷ 0xB1 ∷ 0xB0 ∷ 0xA1 ∷ 0xA0 ∷ 0x91 ∷ 0x90 ∷ 0x81 ∷ 0x80 ∷
    0x51 ∷ 0x50 ∷ 0x41 ∷ 0x40 ∷ 0x31 ∷ 0x30 ∷ 0x21 ∷ 0x20 ∷ 0x11 ∷ 0x10 ∷ 0x01 ∷ 0x00 ∷ []

none_outside : (f : ℕ) (gs : List ℕ) → NoneIn f gs → outside gs f ≡ true
unfolding every
none_outside f [] h = refl
none_outside f (g ∷ gs) h = rw (ne_eqb f g h.1) (none_outside f gs h.0)

-- from lo on, of the next n bytes those that are no singles begin form f, which has z bytes
abbrev pub rest_armed : (lo n f z : ℕ) → Bool
rest_armed lo n f z = all_to (λ k. cond (outside singles (lo + k)) (eqb (form_of_byte (lo + k)) f && eqb (size_at f) z) true) n

pub rest_arm : (lo n f z : ℕ) → T (rest_armed lo n f z) → {b : ℕ} → NoneIn b singles → lo ≤ b → suc b ≤ lo + n
    → (f ≡ form_of_byte b) × (z ≡ size_at (form_of_byte b))
rest_arm lo n f z t {b} h l m =
    let k : ℕ = b - lo in
    let e : lo + k ≡ b = omega arith in
    let o : outside singles (lo + k) ≡ true = ap (outside singles) e ∙ none_outside b singles h in
    let p : Bool = eqb (form_of_byte (lo + k)) f && eqb (size_at f) z in
    let q = holds_at (λ k. cond (outside singles (lo + k)) (eqb (form_of_byte (lo + k)) f && eqb (size_at f) z) true) n t k (omega arith) in
    let g = and_true (eqb (form_of_byte (lo + k)) f) (eqb (size_at f) z) (sym (cond_true (outside singles (lo + k)) p true o) ∙ q) in
    let x : form_of_byte b ≡ f = ap form_of_byte (sym e) ∙ eqb-true (form_of_byte (lo + k)) f g.0 in
    (sym x, sym (ap size_at x ∙ eqb-true (size_at f) z g.1))
