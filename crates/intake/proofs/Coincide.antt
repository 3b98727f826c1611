-- "Show that any two results allowed by the contract coincide": the answer, and every byte of the room. Assumes nothing.
use mathlib.Core.Path.{◌≡◌, refl, sym, ap, subst}
use mathlib.Core.List.{List, ◌∷◌}
use mathlib.Core.Bool.{Bool, true, false}
use Prim.Native.Nat.{ℕ, suc, ◌+◌, ◌*◌, ◌≤◌}
use native.Mathlib.Omega.{arith}
use lib.Dec.{ltb}
use lib.IntN.{pos}
use lib.ListN.{length, drop, take-append-drop}
use borrow.Author.Tests.{ltb-true, ltb-false}
use Rattle.rules.specs.declared.Sizes.{Sizes}
use Rattle.std.specs.Prelude.{Result}
use Rattle.laws.proofs.Tests.{clash, both_ways}
use Rattle.rules.specs.declared.Refusal.{Refusal}
use Rattle.rules.specs.declared.Refusal.TheVariants.{Column}
use Rattle.rules.specs.Answers.{at_place, Judged, ok, no}
use Rattle.rules.specs.Programs.{Stmt, Program}
use Rattle.rules.specs.Listing.{Line}
use Rattle.rules.specs.Output.{frame_of}
use Rattle.grammar.specs.Reading as reading
use Rattle.grammar.specs.Reading.{WrongAt, Fitting}
use Rattle.digits.specs.Leaves.{Leaves as Left}
use Rattle.digits.proofs.Left.{one_left}
use Rattle.plans.proofs.Wholes.{one_statement, one_wrong}
use Rattle.intake.specs.Intake as intake
use Rattle.intake.specs.Intake.{Judges, Takes, in_room, Leaves}

-- a good line is nowhere wrong
good_wrong : {X : Type 0} (s : Stmt) (t : List ℕ) (c : ℕ) → reading.Line s t → WrongAt t c → X
good_wrong s t c g w = absurd (on (ltb c (length t)) refl)
  where
    on : (b : Bool) → ltb c (length t) ≡ b → ⊥
    on true q = w.there (ltb-true c (length t) q) (drop (suc c) t, (s, subst (λ y. reading.Line s y) (sym (take-append-drop (suc c) t)) g))
    on false q = w.ends (omega (arith, w.within, ltb-false c (length t) q)) (s, g)

module _ {i sum : ℕ} {l : Line} where
  -- of one line
  pub one_judged : {a b : Judged Stmt} → Judges i sum l a → Judges i sum l b → a ≡ b
  one_judged (intake.many h) (intake.many k) = refl
  one_judged (intake.many h) (intake.wide k m) = refl
  one_judged (intake.many h) (intake.wrong c k m w) = absurd (omega arith)
  one_judged (intake.many h) (intake.unended s k m g e) = absurd (omega arith)
  one_judged (intake.many h) (intake.passes s k m g e f) = refl
  one_judged (intake.many h) (intake.reads s k m g e f n) = absurd (omega arith)
  one_judged (intake.wide h o) (intake.many k) = refl
  one_judged (intake.wide h o) (intake.wide k m) = refl
  one_judged (intake.wide h o) (intake.wrong c k m w) = absurd (omega arith)
  one_judged (intake.wide h o) (intake.unended s k m g e) = absurd (omega arith)
  one_judged (intake.wide h o) (intake.passes s k m g e f) = refl
  one_judged (intake.wide h o) (intake.reads s k m g e f n) = absurd (omega arith)
  one_judged (intake.wrong c h o w) (intake.many k) = absurd (omega arith)
  one_judged (intake.wrong c h o w) (intake.wide k m) = absurd (omega arith)
  one_judged (intake.wrong c h o w) (intake.wrong d k m v) = ap (λ n. no (Column (at_place i) (pos n))) (one_wrong l.chars c d w v)
  one_judged (intake.wrong c h o w) (intake.unended s k m g e) = good_wrong s l.chars c g w
  one_judged (intake.wrong c h o w) (intake.passes s k m g e f) = good_wrong s l.chars c g w
  one_judged (intake.wrong c h o w) (intake.reads s k m g e f n) = good_wrong s l.chars c g w
  one_judged (intake.unended r h o p q) (intake.many k) = absurd (omega arith)
  one_judged (intake.unended r h o p q) (intake.wide k m) = absurd (omega arith)
  one_judged (intake.unended r h o p q) (intake.wrong d k m v) = good_wrong r l.chars d p v
  one_judged (intake.unended r h o p q) (intake.unended s k m g e) = refl
  one_judged (intake.unended r h o p q) (intake.passes s k m g e f) = both_ways l.ended e q
  one_judged (intake.unended r h o p q) (intake.reads s k m g e f n) = both_ways l.ended e q
  one_judged (intake.passes r h o p q x) (intake.many k) = refl
  one_judged (intake.passes r h o p q x) (intake.wide k m) = refl
  one_judged (intake.passes r h o p q x) (intake.wrong d k m v) = good_wrong r l.chars d p v
  one_judged (intake.passes r h o p q x) (intake.unended s k m g e) = both_ways l.ended q e
  one_judged (intake.passes r h o p q x) (intake.passes s k m g e f) = refl
  one_judged (intake.passes r h o p q x) (intake.reads s k m g e f n) =
      let z : s ≡ r = one_statement s r l.chars g p in
      absurd (x (subst (λ y. Fitting y) z f) (subst (λ y. sum + 2 * length (frame_of y) ≤ 49152) z n))
  one_judged (intake.reads r h o p q x y) (intake.many k) = absurd (omega arith)
  one_judged (intake.reads r h o p q x y) (intake.wide k m) = absurd (omega arith)
  one_judged (intake.reads r h o p q x y) (intake.wrong d k m v) = good_wrong r l.chars d p v
  one_judged (intake.reads r h o p q x y) (intake.unended s k m g e) = both_ways l.ended q e
  one_judged (intake.reads r h o p q x y) (intake.passes s k m g e f) =
      let z : r ≡ s = one_statement r s l.chars p g in
      absurd (f (subst (λ u. Fitting u) z x) (subst (λ u. sum + 2 * length (frame_of u) ≤ 49152) z y))
  one_judged (intake.reads r h o p q x y) (intake.reads s k m g e f n) = ap ok (one_statement r s l.chars p g)

-- of all lines
same_ok : {s r : Stmt} → ◌≡◌ {A = Judged Stmt} (ok s) (ok r) → s ≡ r
same_ok e = cc

same_no : {q r : Refusal} → ◌≡◌ {A = Judged Stmt} (no q) (no r) → q ≡ r
same_no e = cc

pub one_taken : {i sum : ℕ} {ls : List Line} {a b : Judged Program} → Takes i sum ls a → Takes i sum ls b → a ≡ b
one_taken intake.none intake.none = refl
one_taken (intake.refused x) (intake.refused y) = ap no (same_no (one_judged x y))
one_taken (intake.refused x) (intake.later y u) = clash (no_ok (one_judged x y))
  where
    no_ok : {q : Refusal} {s : Stmt} → ◌≡◌ {A = Judged Stmt} (no q) (ok s) → ◌≡◌ {A = ℕ} 0 1
    no_ok e = cc
one_taken (intake.refused x) (intake.next y u) = clash (no_ok (one_judged x y))
  where
    no_ok : {q : Refusal} {s : Stmt} → ◌≡◌ {A = Judged Stmt} (no q) (ok s) → ◌≡◌ {A = ℕ} 0 1
    no_ok e = cc
one_taken (intake.later x t) (intake.refused y) = clash (ok_no (one_judged x y))
  where
    ok_no : {q : Refusal} {s : Stmt} → ◌≡◌ {A = Judged Stmt} (ok s) (no q) → ◌≡◌ {A = ℕ} 0 1
    ok_no e = cc
one_taken {i} {sum} (intake.later {ls = ls} x t) (intake.later {r = q} y u) =
    one_taken t (subst (λ v. Takes (suc i) (sum + 2 * length (frame_of v)) ls (no q)) (sym (same_ok (one_judged x y))) u)
one_taken {i} {sum} (intake.later {ls = ls} {r = r} x t) (intake.next {p = p} y u) =
    clash (no_ok (one_taken t (subst (λ v. Takes (suc i) (sum + 2 * length (frame_of v)) ls (ok p)) (sym (same_ok (one_judged x y))) u)))
  where
    no_ok : {q : Refusal} {s : Program} → ◌≡◌ {A = Judged Program} (no q) (ok s) → ◌≡◌ {A = ℕ} 0 1
    no_ok e = cc
one_taken (intake.next x t) (intake.refused y) = clash (ok_no (one_judged x y))
  where
    ok_no : {q : Refusal} {s : Stmt} → ◌≡◌ {A = Judged Stmt} (ok s) (no q) → ◌≡◌ {A = ℕ} 0 1
    ok_no e = cc
one_taken {i} {sum} (intake.next {ls = ls} x t) (intake.later {r = r} y u) =
    clash (ok_no (one_taken t (subst (λ v. Takes (suc i) (sum + 2 * length (frame_of v)) ls (no r)) (sym (same_ok (one_judged x y))) u)))
  where
    ok_no : {q : Refusal} {s : Program} → ◌≡◌ {A = Judged Program} (ok s) (no q) → ◌≡◌ {A = ℕ} 0 1
    ok_no e = cc
one_taken {i} {sum} (intake.next {ls = ls} {s = s} {p = p} x t) (intake.next {s = z} {p = q} y u) =
    let e : s ≡ z = same_ok (one_judged x y) in
    both e (one_taken t (subst (λ v. Takes (suc i) (sum + 2 * length (frame_of v)) ls (ok q)) (sym e) u))
  where
    both : {s z : Stmt} {p q : Program} → s ≡ z → ◌≡◌ {A = Judged Program} (ok p) (ok q)
        → ◌≡◌ {A = Judged Program} (ok (s ∷ p)) (ok (z ∷ q))
    both e f = cc

-- of the entry
pub one_read : (text room : List ℕ) (r s : Result Sizes Refusal) (x y : List ℕ) → Leaves text r room x → Leaves text s room y → (r ≡ s) × (x ≡ y)
one_read text room r s x y a b =
    let j = in_room (length room) a.judged in
    let e : b.judged ≡ a.judged = one_taken b.takes a.takes in
    one_left j room r s x y a.leaves (subst (λ k. Left (in_room (length room) k) s room y) e b.leaves)
