-- What the entry answers: the count is the number of lines, and 12 is judged by it.
use mathlib.Core.Path.{◌≡◌, refl, sym, ap, ap₂, ◌∙◌}
use mathlib.Core.List.{List}
use Prim.Native.Nat.{ℕ, ◌*◌, ◌≤◌, ◌<◌}
use native.Mathlib.Omega.{arith}
use lib.ListN.{length}
use borrow.Author.Tests.{le-leb, lt-leb}
use Rattle.rules.specs.declared.Sizes.{Sizes}
use Rattle.std.specs.Prelude.{Err, Result, Ok}
use Rattle.laws.specs.Lists.{total}
use Rattle.laws.proofs.Tests.{clash}
use Rattle.rules.specs.declared.Settings.{Settings}
use Rattle.rules.specs.declared.Refusal.{Refusal}
use Rattle.rules.specs.declared.Refusal.TheVariants.{Room}
use Rattle.rules.specs.Answers.{Judged, ok, no, ◌>>=◌, require}
use Rattle.rules.specs.Programs.{Program}
use Rattle.rules.specs.Rewriting.{Chain, anchor, instr_bytes}
use Rattle.promises.proofs.Anchors.{instr_bytes_anchor, length_anchor}
use Rattle.slots.specs.Slots.{Slots, program_of}
use Rattle.env.proofs.Programs.{length_program}
use Rattle.optimize.specs.Optimized.{Optimized}
use Rattle.starting.specs.Begun.{accepted}
use Rattle.digits.specs.Digits.{laid}
use Rattle.digits.proofs.Rooms.{laid_front}
use Rattle.steps.specs.Steps.{Rewrite, steps_in, steps, step_lines}
use Rattle.steps.specs.Entry.{told, answer_as, room_as, Leaves, counted_as, lines_for}
use Rattle.steps.proofs.Done.{counted_in}
use Rattle.steps.proofs.Walks.{length_lines}

-- ---- tables that hold the anchored program
module _ (asked : Settings) (t : Slots) (p : Program) (e : program_of t ≡ anchor p) where
  -- their rewrites are the listing's
  pub same_steps : steps_in asked (total instr_bytes (program_of t)) (program_of t) ≡ steps asked p
  unfolding steps
  same_steps = ap (λ (q : Program). steps_in asked (total instr_bytes q) q) e ∙ ap (λ (n : ℕ). steps_in asked n (anchor p)) (instr_bytes_anchor p)

  pub same_count : t.count ≡ length p
  same_count = sym (length_program t) ∙ ap length e ∙ length_anchor p

  -- and so is their number
  pub counted_steps : (u : Slots) (r : ℕ) → Optimized asked t u r → r ≡ length (steps asked p)
  counted_steps u r h =
      ap (λ (c : Chain). c.count) (sym (h.chain_is (total instr_bytes (program_of t)) (omega arith)))
      ∙ sym (counted_in asked (total instr_bytes (program_of t)) (program_of t)) ∙ ap length same_steps

-- ---- the count taken apart
pub counted_of : (asked : Settings) (x : Judged Program) (r : Result (ℕ × ℕ) Refusal) (n k : ℕ) → r ≡ Ok (n, k) → r ≡ counted_as asked x
    → (p : Program) × (x ≡ ok p) × (n ≡ length p) × (k ≡ length (steps asked p))
counted_of asked (ok p) r n k e h =
    let z : ◌≡◌ {A = Result (ℕ × ℕ) Refusal} (Ok (n, k)) (Ok (length p, length (steps asked p))) = sym e ∙ h in
    let both : ◌≡◌ {A = ℕ × ℕ} (n, k) (length p, length (steps asked p)) = cc in
    (p, refl, ap (λ (x : ℕ × ℕ). x.0) both, ap (λ (x : ℕ × ℕ). x.1) both)
counted_of asked (no q) r n k e h = let z : ◌≡◌ {A = Result (ℕ × ℕ) Refusal} (Ok (n, k)) (Err q) = sym e ∙ h in clash (cc)

pub counted_no : (asked : Settings) (x : Judged Program) (r : Result (ℕ × ℕ) Refusal) (q : Refusal) → r ≡ Err q → r ≡ counted_as asked x → x ≡ no q
counted_no asked (ok p) r q e h = let z : ◌≡◌ {A = Result (ℕ × ℕ) Refusal} (Err q) (Ok (length p, length (steps asked p))) = sym e ∙ h in clash (cc)
counted_no asked (no s) r q e h = let z : ◌≡◌ {A = Result (ℕ × ℕ) Refusal} (Err q) (Err s) = sym e ∙ h in let y : s ≡ q = cc in ap no y

-- ---- the answer
module _ (asked : Settings) (text room : List ℕ) where
  pub told_refused : (q : Refusal) → accepted text ≡ no q → Leaves (told asked text (length room)) (Err q) room room
  unfolding told ◌>>=◌
  told_refused q e = rw e (record { answer = refl; room = refl })

  module _ (p : Program) (e : accepted text ≡ ok p) (k : ℕ) (c : k ≡ length (steps asked p)) where
    size : length (step_lines (steps asked p)) ≡ 21 * k
    size = omega (arith, length_lines (steps asked p))

    is_short : length room < 21 * k → told asked text (length room) ≡ no (Room (length p))
    unfolding told ◌>>=◌ require
    is_short h = rw (e, lt-leb (length (step_lines (steps asked p))) (length room) (omega (arith, size)))

    is_whole : 21 * k ≤ length room → told asked text (length room) ≡ ok (steps asked p)
    unfolding told ◌>>=◌ require
    is_whole h = rw (e, le-leb (length (step_lines (steps asked p))) (length room) (omega (arith, size)))

    pub told_short : (n : ℕ) → n ≡ length p → length room < 21 * k → Leaves (told asked text (length room)) (Err (Room n)) room room
    told_short n d h =
        let z = is_short h in
        record { answer = ap (λ (m : ℕ). Err (Room m)) d ∙ sym (ap answer_as z); room = sym (ap (λ x. room_as x room) z) }

    pub lines_fit : 21 * k ≤ length room → length (lines_for asked (accepted text)) ≤ length room
    lines_fit h = omega (arith, ap (λ x. length (lines_for asked x)) e, size)

    pub told_whole : (out : List ℕ) → 21 * k ≤ length room → out ≡ laid room 0 (lines_for asked (accepted text))
        → Leaves (told asked text (length room)) (Ok (record { listing = 21 * k; rewrites = k; image = 0 })) room out
    told_whole out h o =
        let z = is_whole h in
        record {
          answer = ap₂ (λ (a b : ℕ). Ok (record { listing = a; rewrites = b; image = 0 })) (sym size) c ∙ sym (ap answer_as z);
          room = o ∙ ap (λ x. laid room 0 (lines_for asked x)) e ∙ laid_front room (step_lines (steps asked p)) ∙ sym (ap (λ x. room_as x room) z);
        }

-- "Show that any two results allowed by the contract coincide": `steps`
pub one_told : (x : Judged (List Rewrite)) (room : List ℕ) (r s : Result Sizes Refusal) (a b : List ℕ) → Leaves x r room a → Leaves x s room b → (r ≡ s) × (a ≡ b)
one_told x room r s a b h k = (h.answer ∙ sym k.answer, h.room ∙ sym k.room)
