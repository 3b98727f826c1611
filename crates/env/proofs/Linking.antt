-- Links filled byte by byte and frame by frame, and that at most one place defines a name where no name is defined twice.
use mathlib.Core.Path.{◌≡◌, refl, sym, ap, ap₂, subst, ◌∙◌}
use mathlib.Core.Logic.{⊎_elim}
use mathlib.Core.Bool.{Bool, true, false}
use mathlib.Core.List.{List}
use Prim.Native.Nat.{ℕ, zero, suc, ◌+◌, ◌-◌, ◌*◌, ◌≤◌, ◌<◌}
use Rattle.std.specs.Prelude.{eqb}
use native.Mathlib.Omega.{arith}
use lib.ListN.{length, get_or, set, drop}
use lib.Seq.{get_or-set_same, get_or-set_other, get_or-take, get_or-drop}
use borrow.Author.Tests.{eq-eqb, ne_eqb}
use Rattle.laws.proofs.Tests.{false_true}
use Rattle.laws.proofs.Counts.{below_suc}
use Rattle.rules.specs.declared.Tag.TheVariants.{Name}
use Rattle.rules.specs.Expressions.{tag_of, name_of}
use Rattle.expression.specs.Environment.{is_here}
use Rattle.expression.specs.Linked.{Links}
use Rattle.listing.specs.Tables.{frame_at, Held}
use Rattle.slots.proofs.Tables.{length_frame}
use Rattle.env.specs.Linking.{OneAtMost, Means, LinkedTo}

-- the name that begins at byte b
pub name_at_byte : (frames : List ℕ) (b : ℕ) → name_of (drop b frames) ≡ get_or frames (b + 1) 0 * 256 + get_or frames (b + 2) 0
name_at_byte frames b = ap₂ (λ x y. x * 256 + y) (get_or-drop b frames 1 0) (get_or-drop b frames 2 0)

-- a place that defines a name is the one that it means, where no name is defined twice
pub means_found : (names contexts : List ℕ) (n k m l : ℕ) → OneAtMost names contexts n → l < n → is_here (get_or names l 0) (get_or contexts l 0) m k ≡ true
    → Means names contexts n k m l
means_found names contexts n k m l one low here = record { place = λ i p. on i p (is_here (get_or names i 0) (get_or contexts i 0) m k) refl }
  where
    on : (i : ℕ) → i < n → (b : Bool) → is_here (get_or names i 0) (get_or contexts i 0) m k ≡ b → is_here (get_or names i 0) (get_or contexts i 0) m k ≡ eqb i l
    on i p true e = e ∙ sym (eq-eqb i l (one.same k m i l p low e here))
    on i p false e = e ∙ sym (ne_eqb i l (λ z. false_true (sym e ∙ ap (λ j. is_here (get_or names j 0) (get_or contexts j 0) m k) z ∙ here)))

-- ---- the bytes of a frame, come to byte a

module _ (frames names contexts : List ℕ) (n k from end : ℕ) (old : List ℕ) where
  pub linked_start : LinkedTo frames names contexts n k from end from old old
  linked_start = record { linked = λ b p q. absurd (omega arith); below = λ b l. refl }

  module _ (a : ℕ) (new : List ℕ) (h : LinkedTo frames names contexts n k from end a old new) (f : from ≤ a) where
    pub linked_byte : (l : ℕ) → a < length new → (tag_of (get_or frames a 0) ≡ Name → Means names contexts n k (name_of (drop a frames)) l)
        → LinkedTo frames names contexts n k from end (a + 1) old (set new a l)
    linked_byte l room m =
        record {
          linked = λ b p q r t. ⊎_elim
              (λ e. subst (λ x. Means names contexts n k (name_of (drop x frames)) (get_or (set new a l) x 0)) (sym e)
              (rw (get_or-set_same new a l 0 room) (m (ap (λ x. tag_of (get_or frames x 0)) (sym e) ∙ t))))
              (λ less. rw (get_or-set_other new a b l 0 (λ e. omega arith)) (h.linked b p less r t))
              (below_suc b a (omega arith));
          below = λ b less. get_or-set_other new a b l 0 (λ e. omega arith) ∙ h.below b less;
        }

    -- no name begins in the last two bytes
    pub linked_end : end ≤ a + 2 → LinkedTo frames names contexts n k from end end old new
    linked_end e = record { linked = λ b p q r t. h.linked b p (omega arith) r t; below = h.below }

-- ---- frame by frame

module _ (frames starts : List ℕ) (n : ℕ) (held : Held frames starts n) (names contexts : List ℕ) where
  -- a frame begins where the one before it ends, or behind
  climb : (k i : ℕ) → i + k ≤ n → get_or starts i 0 ≤ get_or starts (i + k) 0
  climb zero i l = let z : i + 0 ≡ i = omega arith in rw z (omega arith)
  climb (suc k) i l =
      let z : i + suc k ≡ suc (i + k) = omega arith in
      rw z (omega (arith, climb k i (omega arith), held.rises (i + k) (omega arith)))

  -- the frames of the places below i are linked
  abbrev pub AllTo : (i : ℕ) (links : List ℕ) → Type 0
  AllTo i links =
      (c : ℕ) → c < i → (b : ℕ) → get_or starts c 0 ≤ b → b < get_or starts (suc c) 0 → b + 2 < get_or starts (suc c) 0 → tag_of (get_or frames b 0) ≡ Name
      → Means names contexts n (get_or contexts c 0) (name_of (drop b frames)) (get_or links b 0)

  pub all_next : (i : ℕ) (old new : List ℕ) → i < n → AllTo i old
      → LinkedTo frames names contexts n (get_or contexts i 0) (get_or starts i 0) (get_or starts (i + 1) 0) (get_or starts (i + 1) 0) old new → AllTo (i + 1) new
  all_next i old new l all h c q b p r s t =
      ⊎_elim
      (λ e. let z : get_or starts (i + 1) 0 ≡ get_or starts (suc c) 0 = ap (λ x. get_or starts x 0) (omega arith) in
      rw e (h.linked b (rw e at p) (omega (arith, ap (λ x. get_or starts x 0) e)) (omega arith) t))
      (λ less. let m : get_or starts (suc c) 0 ≤ get_or starts i 0 = omega (arith, climb (i - suc c) (suc c) (omega arith), ap (λ x. get_or starts x 0) (upto c less)) in
      rw (h.below b (omega arith)) (all c less b p r s t))
      (below_suc c i (omega arith))
    where
      upto : (c : ℕ) → c < i → suc c + (i - suc c) ≡ i
      upto c less = omega arith

  -- a byte of a frame, in the whole
  byte_in : (l : List ℕ) (c j : ℕ) → j < get_or starts (suc c) 0 - get_or starts c 0 → get_or (frame_at l starts c) j 0 ≡ get_or l (get_or starts c 0 + j) 0
  unfolding frame_at
  byte_in l c j q =
      get_or-take (get_or starts (suc c) 0 - get_or starts c 0) (drop (get_or starts c 0) l) j 0 q ∙ get_or-drop (get_or starts c 0) l j 0

  pub all_links : (links : List ℕ) → AllTo n links → (c : ℕ) → c < n
      → Links names contexts n (get_or contexts c 0) (frame_at frames starts c) (frame_at links starts c)
  all_links links all c l =
      record {
        place = λ j q t i m.
            let s : ℕ = get_or starts c 0 in
            let long = length_frame frames starts n held c l in
            let at : (x : ℕ) → j + x < length (frame_at frames starts c) → get_or (drop j (frame_at frames starts c)) x 0 ≡ get_or frames (s + j + x) 0 =
            (λ x r. get_or-drop j (frame_at frames starts c) x 0 ∙ byte_in frames c (j + x) (omega (arith, long)) ∙ ap (λ y. get_or frames y 0) (omega arith)) in
            let name : name_of (drop j (frame_at frames starts c)) ≡ name_of (drop (s + j) frames) =
            ap₂ (λ x y. x * 256 + y) (at 1 (omega arith)) (at 2 (omega arith)) ∙ sym (name_at_byte frames (s + j)) in
            let tag : tag_of (get_or frames (s + j) 0) ≡ Name = sym (ap (λ x. tag_of x) (byte_in frames c j (omega (arith, long)))) ∙ t in
            rw (name, byte_in links c j (omega (arith, long)))
            ((all c l (s + j) (omega arith) (omega (arith, long)) (omega (arith, long)) tag).place i m);
      }
