-- Rewriting until no rewrite remains: the chain goes on from where it stands, and it is short, because each rewrite drops a byte.
use mathlib.Core.Path.{◌≡◌, refl, sym, ap, ap₂, ◌∙◌}
use mathlib.Core.Option.{Option, none, some}
use mathlib.Core.Bool.{Bool, true, false}
use Prim.Native.Nat.{ℕ, zero, suc, ◌+◌, ◌-◌, ◌≤◌, ◌<◌}
use native.Mathlib.Nat.{sub-zero}
use native.Mathlib.Omega.{arith}
use Rattle.laws.specs.Options.{option_or}
use Rattle.laws.specs.Lists.{total}
use Rattle.laws.proofs.Lists.{total_bound}
use Rattle.laws.proofs.Options.{said_some}
use Rattle.laws.proofs.Tests.{sub_lt}
use Rattle.rules.specs.Programs.{Stmt, gone, instr, label, variable, comment, org, bytes, words, pad, Program}
use Rattle.rules.specs.declared.Settings.{Settings}
use Rattle.rules.specs.Judging.{assembles}
use Rattle.rules.specs.Rewriting.{Chain, more, step, chain, instr_bytes}
use Rattle.instruction.proofs.Numbers.{size_bound}
use Rattle.slots.specs.Slots.{Slots, program_of}
use Rattle.env.proofs.Programs.{length_program}
use Rattle.promises.proofs.Shorter.{step_shorter}
use Rattle.promises.proofs.Chains.{chain_stop, chain_more}
use Rattle.promises.proofs.Acceptable.{acceptable_parts, step_acceptable}
use Rattle.attempts.specs.Standing.{Standing, Tried}
use Rattle.optimize.specs.Optimized.{Optimized}
use Rattle.optimize.proofs.Tries.{tried_missed}

-- ---- an instruction has at most three bytes

bytes_bound : (s : Stmt) → instr_bytes s ≤ 3
bytes_bound gone = omega arith
bytes_bound (instr f xs c) = size_bound f
bytes_bound (label n) = omega arith
bytes_bound (variable n e) = omega arith
bytes_bound (comment x) = omega arith
bytes_bound (org l) = omega arith
bytes_bound (bytes es) = omega arith
bytes_bound (words es) = omega arith
bytes_bound (pad add m) = omega arith

-- at most 1,024 statements
pub few_bytes : (t : Slots) → Standing t → total instr_bytes (program_of t) ≤ 3072
few_bytes t s = omega (arith, total_bound instr_bytes 3 (program_of t) bytes_bound, length_program t, s.sound.held.few)

-- ---- the chain

-- r rewrites, and then those of d
abbrev pub ahead : (r : ℕ) → Chain → Chain
ahead r d = record { program = d.program; count = r + d.count }

-- r rewrites led from p₀ to p, whatever fuel there is for the rest
pub record Led (asked : Settings) (p₀ p : Program) (r : ℕ) : Type 0 where
  pub goes : (fuel : ℕ) → total instr_bytes p₀ ≤ fuel → chain asked fuel p₀ ≡ ahead r (chain asked (fuel - r) p)
  pub few : r + total instr_bytes p ≤ total instr_bytes p₀
  pub good : assembles p ≡ true

ahead_none : (d : Chain) → d ≡ ahead 0 d
ahead_none d = let z : d.count ≡ 0 + d.count = omega arith in ap (λ (n : ℕ). record { program = d.program; count = n }) z

pub led_start : (asked : Settings) (p : Program) → assembles p ≡ true → Led asked p p 0
led_start asked p g = record { goes = λ fuel l. rw sub-zero (ahead_none (chain asked fuel p)); few = omega arith; good = g }

-- one more
led_more : (asked : Settings) (p₀ p q : Program) (r : ℕ) → Led asked p₀ p r → step asked p ≡ some q → Led asked p₀ q (r + 1)
led_more asked p₀ p q r h e =
    let less = step_shorter asked p q e in
    record {
      goes = λ fuel l.
          (let b : r < fuel = omega (arith, h.few) in
          h.goes fuel l
          ∙ ap (λ (n : ℕ). ahead r (chain asked n p)) (sub_lt fuel r b)
          ∙ ap (ahead r) (chain_more asked (fuel - (r + 1)) p q e)
          ∙ one_more (chain asked (fuel - (r + 1)) q));
      few = omega (arith, h.few);
      good = (acceptable_parts q (step_acceptable asked p q e)).1;
    }
  where
    one_more : (d : Chain) → ahead r (more d) ≡ ahead (r + 1) d
    one_more d = let z : r + suc d.count ≡ r + 1 + d.count = omega arith in ap (λ (n : ℕ). record { program = d.program; count = n }) z

-- none remains
chain_end : (asked : Settings) (n : ℕ) (p : Program) → step asked p ≡ none → chain asked n p ≡ record { program = p; count = 0 }
unfolding chain
chain_end asked zero p e = refl
chain_end asked (suc n) p e = chain_stop asked n p e

module _ {asked : Settings} (t₀ t u : Slots) (r : ℕ) {s : Bool} (h : Led asked (program_of t₀) (program_of t) r) (d : Tried (step asked (program_of t)) t u s) where
  pub record Went : Type 0 where
    pub less : total instr_bytes (program_of u) < total instr_bytes (program_of t)
    pub led : Led asked (program_of t₀) (program_of u) (r + 1)

  pub went : s ≡ true → Went
  went e =
      let p = program_of t in
      let q = program_of u in
      let rewritten : step asked p ≡ some q = said_some (step asked p) p (sym d.says ∙ e) ∙ ap some (sym d.leaves) in
      record { less = step_shorter asked p q rewritten; led = led_more asked (program_of t₀) p q r h rewritten }

  pub stopped : Standing t₀ → s ≡ false → t.starts ≡ t₀.starts → Optimized asked t₀ u r
  stopped start e k =
      let p = program_of t in
      let stays = tried_missed (step asked p) d e in
      let same : program_of u ≡ p = d.leaves ∙ left stays in
      record {
        chain_is = λ fuel l.
            (h.goes fuel l ∙ ap (ahead r) (chain_end asked (fuel - r) p stays)
            ∙ ap₂ (λ (q : Program) (n : ℕ). record { program = q; count = n }) (sym same) (omega arith));
        stands = d.stands;
        starts_kept = d.starts_kept ∙ k;
        good = ap assembles same ∙ h.good;
        few = omega (arith, h.few);
        bounded = omega (arith, h.few, few_bytes t₀ start);
      }
    where
      left : step asked (program_of t) ≡ none → option_or (step asked (program_of t)) (program_of t) ≡ program_of t
      left z = ap (λ (o : Option Program). option_or o (program_of t)) z
