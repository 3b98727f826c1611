-- "In the end form, before numbers are written back, no fold or shrink that rules 3 to 5 of document 01 allow remains. Rewrites never exceed the
-- input's instruction bytes."
use mathlib.Core.Path.{◌≡◌, refl}
use mathlib.Core.Logic.{⊎_elim}
use mathlib.Core.Option.{Option, none}
use native.Mathlib.Omega.{arith}
use lib.ListN.{length, get_or}
use Rattle.laws.specs.Lists.{total}
use Rattle.laws.specs.Options.{bind, first_of}
use Rattle.laws.proofs.Tests.{lt_or_le}
use Rattle.laws.proofs.Stores.{get_out}
use Rattle.laws.proofs.Options.{or_else_none, first_of_none, first_from_none}
use Rattle.rules.specs.declared.Settings.{Settings}
use Rattle.rules.specs.Programs.{Placeℕ, gone, Program, at, as_instr}
use Rattle.rules.specs.Judging.{names_of}
use Rattle.rules.specs.Rewriting.{branch, inverted_at, trampoline_at, Pattern, inverted, trampoline, patterns_for, pattern_at, shrink_at, anywhere, step, chain, instr_bytes, optimized, anchor}
use Rattle.rules.specs.Run.{rewritten}
use Rattle.promises.specs.Demand3.{NoneRemains, RewritesBounded}
use Rattle.promises.proofs.Chains.{chain_ends}
use Rattle.promises.proofs.Anchors.{instr_bytes_anchor}

-- nothing begins at a place behind the last
pattern_outside : (e : Program) (x : Pattern) (i : Placeℕ) → at e i ≡ gone → pattern_at e x i ≡ none
unfolding inverted_at trampoline_at branch as_instr bind
pattern_outside e (inverted a b) i g = rw g
pattern_outside e (trampoline f) i g = rw g

shrink_outside : (asked : Settings) (e : Program) (i : Placeℕ) → at e i ≡ gone → shrink_at asked (names_of e) e i ≡ none
unfolding shrink_at as_instr bind
shrink_outside asked e i g = rw g

anywhere_none : (f : Placeℕ → Option Program) (e : Program) → anywhere f e ≡ none → ((i : Placeℕ) → at e i ≡ gone → f i ≡ none) → (i : Placeℕ) → f i ≡ none
unfolding anywhere
anywhere_none f e h out i =
    ⊎_elim (λ l. first_from_none f (length e) 0 h i (omega arith) (omega arith)) (λ l. out i (get_out e i gone l)) (lt_or_le i (length e))

-- no step means no pattern at any place and no shorter form at any place
pub none_remains : (asked : Settings) (e : Program) → step asked e ≡ none → NoneRemains asked e
unfolding step
none_remains asked e h =
    let parts = or_else_none (first_of (λ x. anywhere (pattern_at e x) e) (patterns_for asked)) (anywhere (shrink_at asked (names_of e) e) e) h in
    record {
      no_step = h;
      no_fold = λ x l i.
          anywhere_none (pattern_at e (get_or (patterns_for asked) x (trampoline 0))) e (first_of_none (λ x. anywhere (pattern_at e x) e) (patterns_for asked) (trampoline 0) parts.0 x l)
          (λ i g. pattern_outside e (get_or (patterns_for asked) x (trampoline 0)) i g) i;
      no_shrink = λ i. anywhere_none (shrink_at asked (names_of e) e) e parts.1 (λ i g. shrink_outside asked e i g) i;
    }

-- run_ends: of the end form no rewrite remains, by pattern and place
pub run_ends : (asked : Settings) (p : Program) → NoneRemains asked (optimized asked p).program
unfolding optimized
run_ends asked p = none_remains asked (chain asked (total instr_bytes p) (anchor p)).program (chain_ends asked (total instr_bytes p) (anchor p) (omega (arith, instr_bytes_anchor p))).0

-- rewrites-bound: the count that is handed out is at most the input's instruction bytes
pub rewrites_bound : (asked : Settings) (p : Program) → RewritesBounded asked p
unfolding optimized rewritten
rewrites_bound asked p =
    record { counted = refl; bounded = omega (arith, (chain_ends asked (total instr_bytes p) (anchor p) (omega (arith, instr_bytes_anchor p))).1, instr_bytes_anchor p) }
