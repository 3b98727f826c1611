-- "Their number is the count of the 7F line, and doing them one by one on the input gives the output."
use mathlib.Core.Path.{◌≡◌, refl, sym, ap, ◌∙◌}
use mathlib.Core.List.{List, [], ◌∷◌}
use mathlib.Core.Option.{Option, none, some}
use Prim.Native.Nat.{ℕ, zero, suc}
use native.Mathlib.Omega.{arith}
use lib.ListN.{length}
use Rattle.laws.specs.Options.{bind}
use Rattle.laws.proofs.Options.{given_true}
use Rattle.laws.proofs.Tests.{clash}
use Rattle.laws.specs.Lists.{total}
use Rattle.rules.specs.declared.Settings.{Settings}
use Rattle.rules.specs.Forms.{size_at}
use Rattle.rules.specs.Programs.{Placeℕ, Program, at}
use Rattle.rules.specs.Rewriting.{anchor, step, chain, instr_bytes, optimized}
use Rattle.rules.specs.Run.{rewritten}
use Rattle.promises.specs.Demand2.{Input}
use Rattle.promises.proofs.Listings.{read_made}
use Rattle.promises.proofs.Steps.{Step, invert, bounce, shrink, step_some}
use Rattle.promises.proofs.Chains.{chain_stop, chain_more}
use Rattle.steps.specs.declared.Seat.{Seat}
use Rattle.steps.specs.Steps.{seat_of, same_seat, changed, Rule, inverting, bouncing, rule_of, Rewrite, rewrite_at, rewrite_of, steps_in, steps, doing_as, doing, doing_all}
use Rattle.steps.specs.Promise.{AsDone}
use Rattle.steps.proofs.Again.{bind_is, inverted_again, trampoline_again, shrunk_again}
use Rattle.steps.proofs.Rules.{rule_invert, rule_bounce, rule_shrink}
use Rattle.steps.proofs.Changes.{same_seat_lem, told_inverted, told_trampoline, told_shrunk, Once, once_step, once_trampoline, once_made}

-- ---- the list, where a rewrite remains and where none does
pub steps_stop : (asked : Settings) (n : ℕ) (p : Program) → step asked p ≡ none → steps_in asked n p ≡ []
unfolding steps_in
steps_stop asked zero p e = refl
steps_stop asked (suc n) p e = rw (e, steps_in)

pub steps_more : (asked : Settings) (n : ℕ) (p q : Program) → step asked p ≡ some q → steps_in asked (suc n) p ≡ rewrite_of p q ∷ steps_in asked n q
unfolding steps_in
steps_more asked n p q e = rw (e, steps_in)

-- ---- one rewrite done again
doing_as_lem : (p q : Program) (i : Placeℕ) (a b : Seat) (r : Rule) → rewrite_of p q ≡ rewrite_at i a b → (rewrite_at i a b).rule ≡ r
    → doing_as r p i a.form b.form ≡ some q → doing p (rewrite_of p q) ≡ some q
unfolding doing rewrite_of
doing_as_lem p q i a b r e k d =
    let place : changed p q ≡ i = ap (λ (x : Rewrite). x.place) e in
    let here : seat_of (at p i) ≡ a = ap (λ (j : Placeℕ). seat_of (at p j)) (sym place) ∙ ap (λ (x : Rewrite). x.old) e in
    let there : seat_of (at q i) ≡ b = ap (λ (j : Placeℕ). seat_of (at q j)) (sym place) ∙ ap (λ (x : Rewrite). x.new) e in
    let o = doing_as (rewrite_at i a b).rule p i a.form b.form in
    ap (doing p) e ∙ given_true (same_seat (seat_of (at p i)) a) _ (same_seat_lem _ a here)
    ∙ bind_is o q _ (ap (λ (x : Rule). doing_as x p i a.form b.form) k ∙ d) ∙ given_true (same_seat (seat_of (at q i)) b) (some q) (same_seat_lem _ b there)

-- an inverted fold's forms are two
inverts_apart : (f g : ℕ) → rule_of f g ≡ inverting → f ≡ g → ⊥
inverts_apart f g r e = let z : bouncing ≡ inverting = sym (rule_bounce f) ∙ ap (rule_of f) e ∙ r in clash (cc)

pub doing_step : (p q : Program) → Once p → Step p q → doing p (rewrite_of p q) ≡ some q
doing_step p q h (invert f) =
    let rule = rule_invert f.from f.to f.other f.to_transfers in
    doing_as_lem p q f.i _ _ _ (told_inverted f (inverts_apart f.from f.to rule)) rule (inverted_again f)
doing_step p q h (bounce f) = doing_as_lem p q f.i _ _ _ (told_trampoline f (once_trampoline f h)) (rule_bounce f.f) (trampoline_again f)
doing_step p q h (shrink f) =
    doing_as_lem p q f.i _ _ _ (told_shrunk f (λ e. omega (arith, f.smaller, ap size_at e))) (rule_shrink f.x.form f.f f.smaller f.jump_or_call) (shrunk_again f)

-- ---- all of them, by induction on the fuel
pub counted_in : (asked : Settings) (n : ℕ) (p : Program) → length (steps_in asked n p) ≡ (chain asked n p).count
unfolding steps_in chain
counted_in asked zero p = refl
counted_in asked (suc n) p = on (step asked p) refl (counted_in asked n)
  where
    on : (o : Option Program) → step asked p ≡ o → ((q : Program) → length (steps_in asked n q) ≡ (chain asked n q).count) → length (steps_in asked (suc n) p) ≡ (chain asked (suc n) p).count
    on none e below = rw (steps_stop asked (suc n) p e, chain_stop asked n p e)
    on (some q) e below = rw (steps_more asked n p q e, chain_more asked n p q e) (ap suc (below q))

done_in : (asked : Settings) (n : ℕ) (p : Program) → Once p → doing_all p (steps_in asked n p) ≡ some (chain asked n p).program
unfolding steps_in chain doing_all bind
done_in asked zero p h = refl
done_in asked (suc n) p h = on (step asked p) refl (done_in asked n)
  where
    on : (o : Option Program) → step asked p ≡ o → ((q : Program) → Once q → doing_all q (steps_in asked n q) ≡ some (chain asked n q).program)
        → doing_all p (steps_in asked (suc n) p) ≡ some (chain asked (suc n) p).program
    on none e below = rw (steps_stop asked (suc n) p e, chain_stop asked n p e)
    on (some q) e below =
        let s = step_some asked p q e in
        rw (steps_more asked n p q e, chain_more asked n p q e)
        (then (doing p (rewrite_of p q)) q (steps_in asked n q) (doing_step p q h s) ∙ below q (once_step p q s h))
      where
        then : (o : Option Program) (q : Program) (rs : List Rewrite) → o ≡ some q → bind o (λ r. doing_all r rs) ≡ doing_all q rs
        then o q rs e = rw e

-- as-done: of every accepted program
pub as_done : (asked : Settings) (p : Program) → Input p → AsDone asked p
unfolding steps optimized rewritten
as_done asked p h =
    record {
      counted = counted_in asked (total instr_bytes p) (anchor p);
      done = done_in asked (total instr_bytes p) (anchor p) (once_made p (read_made h.text p h.reads));
    }
