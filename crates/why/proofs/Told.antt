-- What the entry answers: the count is the number of lines, and 12 is judged by it.
use mathlib.Core.Path.{◌≡◌, refl, sym, ap, ap₂, ◌∙◌, subst}
use mathlib.Core.List.{List}
use Prim.Native.Nat.{ℕ, ◌*◌, ◌≤◌, ◌<◌}
use native.Mathlib.Omega.{arith}
use lib.ListN.{length}
use borrow.Author.Tests.{le-leb, lt-leb}
use Rattle.rules.specs.declared.Sizes.{Sizes}
use Rattle.std.specs.Prelude.{Err, Result, Ok}
use Rattle.laws.specs.Lists.{total}
use Rattle.rules.specs.declared.Settings.{Settings}
use Rattle.rules.specs.declared.Refusal.{Refusal}
use Rattle.rules.specs.declared.Refusal.TheVariants.{Room}
use Rattle.rules.specs.Answers.{Judged, ok, no, ◌>>=◌, require}
use Rattle.rules.specs.Programs.{Program}
use Rattle.rules.specs.Rewriting.{anchor, chain, optimized, instr_bytes}
use Rattle.promises.proofs.Anchors.{instr_bytes_anchor, length_anchor}
use Rattle.slots.specs.Slots.{Slots, program_of}
use Rattle.env.proofs.Programs.{length_program}
use Rattle.optimize.specs.Optimized.{Optimized}
use Rattle.starting.specs.Begun.{accepted}
use Rattle.digits.specs.Digits.{laid}
use Rattle.digits.proofs.Rooms.{laid_front}
use Rattle.staying.specs.Reasons.{whys}
use Rattle.staying.specs.Lines.{why_lines}
use Rattle.why.specs.Entry.{Told, end_told, chain_told, told_in, told, Leaves, told_from}
use Rattle.why.proofs.Walks.{length_lines}

-- the same answer under another name
pub leaves_as : (x y : Judged Told) (r : Result Sizes Refusal) (a b : List ℕ) → x ≡ y → Leaves x r a b → Leaves y r a b
leaves_as x y r a b e h = subst (λ (z : Judged Told). Leaves z r a b) e h

-- ---- an end form to which n rewrites led, and which has k lines
module _ (asked : Settings) (end : Program) (n count : ℕ) (room : List ℕ) (k : ℕ) (c : k ≡ length (whys asked end)) where
  size : length (why_lines (whys asked end)) ≡ 27 * k
  size = omega (arith, c, length_lines (whys asked end))

  abbrev its : Told
  its = end_told asked end n

  pub lines_fit : 27 * k ≤ length room → length (why_lines (whys asked end)) ≤ length room
  lines_fit h = omega (arith, h, size)

  is_short : length room < 27 * k → told_in count its (length room) ≡ no (Room count)
  unfolding told_in end_told require
  is_short h = rw (lt-leb (length (why_lines (whys asked end))) (length room) (omega (arith, h, size)))

  is_whole : 27 * k ≤ length room → told_in count its (length room) ≡ ok its
  unfolding told_in end_told require
  is_whole h = rw (le-leb (length (why_lines (whys asked end))) (length room) (omega (arith, h, size)))

  pub told_short : length room < 27 * k → Leaves (told_in count its (length room)) (Err (Room count)) room room
  told_short h = leaves_as (no (Room count)) _ _ _ _ (sym (is_short h)) (record { answer = refl; room = refl })

  pub told_whole : (out : List ℕ) → 27 * k ≤ length room → out ≡ laid room 0 (why_lines (whys asked end))
      → Leaves (told_in count its (length room)) (Ok (record { listing = 27 * k; rewrites = n; image = 0 })) room out
  unfolding end_told
  told_whole out h o =
      leaves_as (ok its) _ _ _ _ (sym (is_whole h))
      (record { answer = ap (λ (a : ℕ). Ok (record { listing = a; rewrites = n; image = 0 })) (sym size); room = o ∙ laid_front room (why_lines (whys asked end)) })

-- ---- what the rewriting left
pub told_from_lem : (asked : Settings) (t u : Slots) (n : ℕ) → Optimized asked t u n → end_told asked (program_of u) n ≡ told_from asked (program_of t)
unfolding told_from
told_from_lem asked t u n h = ap (chain_told asked) (sym (h.chain_is (total instr_bytes (program_of t)) (omega arith)))

-- ---- of a listing, whose tables hold the anchored program
module _ (asked : Settings) (text : List ℕ) (room : ℕ) where
  pub told_no : (q : Refusal) → accepted text ≡ no q → told asked text room ≡ no q
  unfolding told ◌>>=◌
  told_no q e = rw e

  pub told_ok : (p : Program) → accepted text ≡ ok p → told asked text room ≡ told_in (length p) (chain_told asked (optimized asked p)) room
  unfolding told ◌>>=◌
  told_ok p e = rw e

  pub told_anchored : (t : Slots) (p : Program) → accepted text ≡ ok p → program_of t ≡ anchor p → told_in t.count (told_from asked (program_of t)) room ≡ told asked text room
  unfolding told_from optimized
  told_anchored t p d e =
      let same_count : t.count ≡ length p = sym (length_program t) ∙ ap length e ∙ length_anchor p in
      ap₂ (λ (n : ℕ) (q : Program). told_in n (told_from asked q) room) same_count e
      ∙ ap (λ (fuel : ℕ). told_in (length p) (chain_told asked (chain asked fuel (anchor p))) room) (instr_bytes_anchor p)
      ∙ sym (told_ok p d)

pub told_refused : (asked : Settings) (text room : List ℕ) (q : Refusal) → accepted text ≡ no q → Leaves (told asked text (length room)) (Err q) room room
told_refused asked text room q e = leaves_as (no q) _ _ _ _ (sym (told_no asked text (length room) q e)) (record { answer = refl; room = refl })

-- "Show that any two results allowed by the contract coincide": `why`
pub one_why : (x : Judged Told) (room : List ℕ) (r s : Result Sizes Refusal) (a b : List ℕ) → Leaves x r room a → Leaves x s room b → (r ≡ s) × (a ≡ b)
one_why x room r s a b h k = (h.answer ∙ sym k.answer, h.room ∙ sym k.room)
