-- A candidate's reason, by the verdict on it.
use mathlib.Core.Path.{◌≡◌, refl, sym, ap, ◌∙◌}
use mathlib.Core.List.{List}
use mathlib.Core.Bool.{Bool, true, false, cond}
use Prim.Native.Nat.{ℕ}
use lib.Dec.{ltb}
use Rattle.std.specs.Prelude.{Result, Ok, Err}
use Rattle.laws.proofs.Tests.{clash}
use Rattle.rules.specs.declared.Refusal.{Refusal}
use Rattle.rules.specs.Answers.{Judged, ok, no}
use Rattle.rules.specs.Programs.{Program}
use Rattle.rules.specs.Layout.{size_in}
use Rattle.rules.specs.Judging.{judge}
use Rattle.rules.specs.Rewriting.{every_inner_label}
use Rattle.asm.specs.Verdicts.{verdict_as}
use Rattle.staying.specs.declared.Reason.TheVariants.{Counts, Beyond, Refused}
use Rattle.staying.specs.Reasons.{by_verdict, reason_of}

by_refusal : (fit : Bool) (j : Judged (List ℕ)) (r : Refusal) → Err r ≡ verdict_as j → by_verdict fit j ≡ Refused r
by_refusal fit (ok x) r e = clash (cc)
by_refusal fit (no q) r e = let z : q ≡ r = cc in rw z

by_good : (fit : Bool) (j : Judged (List ℕ)) → (Ok tt) ≡ verdict_as j → by_verdict fit j ≡ cond fit Counts Beyond
by_good fit (ok x) e = refl
by_good fit (no q) e = clash (cc)

abbrev fits : Program → Bool
fits q = every_inner_label (λ owner o. ltb o (size_in q owner)) q

module _ (q : Program) (v : Result (Unit {0}) Refusal) (e : v ≡ verdict_as (judge q)) where
  pub reason_refused : (r : Refusal) → v ≡ Err r → Refused r ≡ reason_of q
  unfolding reason_of
  reason_refused r h = sym (by_refusal (fits q) (judge q) r (sym h ∙ e))

  reason_fits : (b : Bool) → v ≡ Ok tt → b ≡ fits q → cond b Counts Beyond ≡ reason_of q
  unfolding reason_of
  reason_fits b h f = ap (λ (x : Bool). cond x Counts Beyond) f ∙ sym (by_good (fits q) (judge q) (sym h ∙ e))

  pub reason_counts : (b : Bool) → v ≡ Ok tt → b ≡ fits q → b ≡ true → Counts ≡ reason_of q
  reason_counts b h f t = sym (ap (λ (x : Bool). cond x Counts Beyond) t) ∙ reason_fits b h f

  pub reason_beyond : (b : Bool) → v ≡ Ok tt → b ≡ fits q → b ≡ false → Beyond ≡ reason_of q
  reason_beyond b h f t = sym (ap (λ (x : Bool). cond x Counts Beyond) t) ∙ reason_fits b h f
