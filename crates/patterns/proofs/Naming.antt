-- What links say of a statement: which names of it a local label defines.
use mathlib.Core.Path.{◌≡◌, sym, subst, ap, ◌∙◌}
use mathlib.Core.Bool.{Bool, ◌&&◌}
use mathlib.Core.List.{List}
use mathlib.Core.Logic.{⊎_elim}
use mathlib.Core.Option.{some}
use Prim.Native.Nat.{ℕ, ◌-◌, ◌≤◌, ◌<◌}
use native.Mathlib.Omega.{arith}
use lib.Dec.{eqb}
use lib.ListN.{length, get_or, length-drop}
use borrow.Author.Tests.{eq-eqb, ne_eqb, eqb-true}
use Rattle.std.specs.Prelude.{None, Some}
use Rattle.laws.proofs.Tests.{clash, and_true, and_both, second_false, same_test, eq_or_not, lt_or_le}
use Rattle.rules.specs.Forms.{operands_at}
use Rattle.rules.specs.Names.{context_at}
use Rattle.rules.specs.Programs.{Placeℕ, label, as_name, kind_of}
use Rattle.rules.specs.Rewriting.{local_label}
use Rattle.rules.specs.Statements.{argument_at, pair_at}
use Rattle.expression.specs.Environment.{is_here}
use Rattle.expression.specs.Naming.{Referred}
use Rattle.expression.specs.Sound.{AreBytes}
use Rattle.expression.proofs.Entries.{local_name, other_name}
use Rattle.expression.proofs.Tallies.{referred_drop}
use Rattle.listing.specs.Tables.{frame_at, Held}
use Rattle.slots.specs.Links.{name_in, names_read}
use Rattle.slots.specs.Slots.{Slots, slot_at, program_of, Sound}
use Rattle.slots.proofs.Linking.{length_beside, name_read}
use Rattle.slots.proofs.Slots.{slot_data, written_frame}
use Rattle.slots.proofs.Tables.{length_frame, bytes_frame}
use Rattle.patterns.specs.Matches.{Moves}
use Rattle.patterns.specs.Mentions.{Short, Refers, Told}
use Rattle.patterns.specs.Targets.{stands_at, label_as, last_bytes, last_links}
use Rattle.patterns.proofs.Instructions.{no_label, low_label, high_label}
use Rattle.patterns.proofs.Mentions.{means}
use Rattle.patterns.proofs.Programs.{at_program}

-- ---- a frame and the links beside it

pub beside_short : (frames starts : List ℕ) (n : ℕ) (h : Held frames starts n) (links : List ℕ) → length links ≡ 28672 → (i : Placeℕ) → i < n
    → Short (frame_at frames starts i) (frame_at links starts i)
beside_short frames starts n h links full i l =
    (length_beside frames starts n h links full i l, omega (arith, length_frame frames starts n h i l, h.short i l))

-- ---- a target and the links beside it

pub last_lengths : (s links : List ℕ) → length links ≡ length s → length (last_bytes s) ≤ length (last_links s links)
unfolding last_bytes last_links
last_lengths s links e =
    let a : ℕ = argument_at s (operands_at (get_or s 1 0)) 2 (length (operands_at (get_or s 1 0)) - 1) in
    omega (arith, length-drop a s, length-drop a links)

pub last_referred : (f : ℕ → Bool) (s links : List ℕ) (place : ℕ) → Referred f s links place → Referred f (last_bytes s) (last_links s links) place
unfolding last_bytes last_links
last_referred f s links place h = referred_drop s links place f (argument_at s (operands_at (get_or s 1 0)) 2 (length (operands_at (get_or s 1 0)) - 1)) h

pub last_short : (s : List ℕ) → length (last_bytes s) ≤ length s
unfolding last_bytes
last_short s = let a : ℕ = argument_at s (operands_at (get_or s 1 0)) 2 (length (operands_at (get_or s 1 0)) - 1) in omega (arith, length-drop a s)

-- ---- a local label

module _ (t : Slots) (h : Held t.frames t.starts t.count) (m n : ℕ) (l : m < t.count) (is : local_label (stands_at t m) ≡ some n) where
  abbrev there : List ℕ
  there = frame_at t.frames t.starts m

  said : Some n ≡ label_as (local_label (slot_at t m))
  said = sym (ap (λ s. label_as (local_label s)) (sym (at_program t m l)) ∙ ap label_as is)

  kind_there : kind_of (slot_at t m) ≡ 2
  kind_there = ⊎_elim (λ e. e) (λ e. let z : Some n ≡ None = said ∙ no_label (slot_at t m) e in clash (cc)) (eq_or_not (kind_of (slot_at t m)) 2)

  slot_there : slot_at t m ≡ label (pair_at there 1)
  slot_there = slot_data t m 0 kind_there ∙ (written_frame t h m l 1 kind_there).is

  -- "Names 8000 and up are local"
  named : (0x8000 ≤ pair_at there 1) × (pair_at there 1 ≡ n)
  named =
      let here : Some n ≡ label_as (local_label (label (pair_at there 1))) = said ∙ ap (λ s. label_as (local_label s)) slot_there in
      ⊎_elim (λ g. let z : Some n ≡ None = here ∙ low_label (pair_at there 1) g in clash (cc))
      (λ g. (g, let z : Some n ≡ Some (pair_at there 1) = here ∙ high_label (pair_at there 1) g in cc)) (lt_or_le (pair_at there 1) 0x8000)

  pub label_is : stands_at t m ≡ label n
  label_is = at_program t m l ∙ slot_there ∙ ap label named.1

  pub label_high : 0x8000 ≤ n
  label_high = omega (arith, named.0, named.1)

  label_low : AreBytes t.frames → n < 65536
  label_low v = omega (arith, named.1, bytes_frame t.frames t.starts v m 1, bytes_frame t.frames t.starts v m 2)

  -- the listing as it was read has the name there
  label_read : get_or (names_read t.frames t.starts t.count) m 0 ≡ n
  unfolding as_name
  label_read = name_read t.frames t.starts t.count m l ∙ ap name_in (sym (slot_data t m 0 kind_there) ∙ slot_there) ∙ named.1

-- ---- links to a local label

turned : (a b : ℕ) → eqb a b ≡ eqb b a
turned a b = same_test (eqb a b) (eqb b a) (λ p. eq-eqb b a (sym (eqb-true a b p))) (λ p. eq-eqb a b (sym (eqb-true b a p)))

-- "Local names are found only within their context": n of context k is what x means in context c
local_here : (n k x c : ℕ) → 0x8000 ≤ n → n < 65536 → is_here n k x c ≡ eqb c k && eqb x n
local_here n k x c h l = ⊎_elim same other (eq_or_not n x)
  where
    same : n ≡ x → is_here n k x c ≡ eqb c k && eqb x n
    same e =
        local_name n k x c e (omega arith) (omega arith)
        ∙ same_test (eqb k c) (eqb c k && eqb x n) (λ p. and_both (eqb c k) (eqb x n) (eq-eqb c k (sym (eqb-true k c p))) (eq-eqb x n (sym e)))
        (λ p. eq-eqb k c (sym (eqb-true c k (and_true (eqb c k) (eqb x n) p).0)))

    other : (n ≡ x → ⊥) → is_here n k x c ≡ eqb c k && eqb x n
    other e = other_name n k x c e ∙ sym (second_false (eqb c k) (eqb x n) (ne_eqb x n (λ q. e (sym q))))

module _ (t : Slots) (sound : Sound t) (v : AreBytes t.frames) (links : List ℕ) (told : Told t links) (m n : ℕ) (l : m < t.count) (is : local_label (stands_at t m) ≡ some n) where
  abbrev context : (i : Placeℕ) → ℕ
  context = context_at (program_of t)

  linked : (c : Placeℕ) → c < t.count → Referred (means t (context m) n c) (frame_at t.frames t.starts c) (frame_at links t.starts c) m
  linked c q =
      record {
        name = λ j r tag.
            turned (get_or (frame_at links t.starts c) j 0) m ∙ sym ((told.beside.place c q).place j r tag m l)
            ∙ rw (label_read t sound.held m n l is, told.contexts m l, told.contexts c q)
            (local_here n (context m) _ (context c) (label_high t sound.held m n l is) (label_low t sound.held m n l is v));
      }

  -- in every statement, and in the target that it carries
  pub refers_to : (i : Placeℕ) → i < t.count → Refers (means t (context m) n i) t links i m
  refers_to i q =
      record {
        own = linked i q;
        carried = λ e moves.
            let c = get_or t.carry i 0 in
            subst (λ k. Referred (λ x. eqb k (context m) && eqb x n) (frame_at t.frames t.starts c) (frame_at links t.starts c) m)
            (told.together i q e moves) (linked c (sound.carried i q e moves).inside);
      }

  -- within its context the name is enough
  pub bare_to : (i : Placeℕ) → Moves t i → context i ≡ context m
      → Referred (λ x. eqb x n) (frame_at t.frames t.starts (get_or t.carry i 0)) (frame_at links t.starts (get_or t.carry i 0)) m
  bare_to i g e =
      let c = get_or t.carry i 0 in
      subst (λ b. Referred (λ x. b && eqb x n) (frame_at t.frames t.starts c) (frame_at links t.starts c) m)
      (eq-eqb (context i) (context m) e) ((refers_to i g.inside).carried g.kind g.transfer)
