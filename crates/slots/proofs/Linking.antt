-- The parts of the links that lie beside the frames.
use mathlib.Core.Path.{◌≡◌, sym, ap, ◌∙◌}
use mathlib.Core.Bool.{Bool}
use mathlib.Core.List.{List}
use Prim.Native.Nat.{ℕ, suc, ◌+◌, ◌-◌, ◌≤◌, ◌<◌}
use native.Mathlib.Numerals.{add-one}
use native.Mathlib.Omega.{arith}
use lib.IntN.{ℤ}
use lib.ListN.{length, get_or, take, drop, length-take, length-drop}
use Rattle.rules.specs.declared.Unvalued.{Unvalued}
use Rattle.std.specs.Prelude.{Result}
use Rattle.laws.proofs.Counts.{get_or_tab}
use Rattle.laws.proofs.Stores.{rest_is}
use Rattle.rules.specs.Programs.{Placeℕ}
use Rattle.rules.specs.Names.{context_at}
use Rattle.expression.specs.Linked.{Linked}
use Rattle.expression.specs.Naming.{Referred}
use Rattle.expression.proofs.Links.{linked_drop}
use Rattle.expression.proofs.Tallies.{referred_drop}
use Rattle.listing.specs.Tables.{frame_at, input_at, input_of, Held}
use Rattle.slots.specs.Slots.{Slots, slot_at}
use Rattle.slots.specs.Links.{name_in, names_read, contexts_read, names_now, Spans}
use Rattle.slots.proofs.Tables.{bounds, length_frame}

module _ (links starts : List ℕ) (i : Placeℕ) where
  pub part_ends : Spans starts i (length links) → (a e : ℕ) → a ≡ get_or starts i 0 → e ≡ get_or starts (i + 1) 0 → (a ≤ e) × (e ≤ length links)
  part_ends h a e p q =
      let r : e ≡ get_or starts (suc i) 0 = q ∙ ap (λ k. get_or starts k 0) (add-one i) in
      (omega (arith, h.1), omega (arith, h.2))

  pub part_at : (a e : ℕ) → a ≡ get_or starts i 0 → e ≡ get_or starts (i + 1) 0 → take (e - a) (drop a links) ≡ frame_at links starts i
  unfolding frame_at
  part_at a e p q = rw (p, q, add-one i)

module _ (frames starts : List ℕ) (n : ℕ) (h : Held frames starts n) (links : List ℕ) (full : length links ≡ 28672) (i : Placeℕ) (l : i < n) where
  pub spans : Spans starts i (length links)
  spans = let b = bounds frames starts n h i l in (omega (arith, b.few), omega (arith, b.some), omega (arith, b.within))

  own_length : length (frame_at links starts i) ≡ get_or starts (suc i) 0 - get_or starts i 0
  unfolding frame_at
  own_length = let b = bounds frames starts n h i l in simp (length-take, length-drop) (omega (arith, b.some, b.within))

  -- as many links as bytes
  pub length_beside : length (frame_at links starts i) ≡ length (frame_at frames starts i)
  length_beside = own_length ∙ sym (length_frame frames starts n h i l)

-- ---- from a byte of the frame on

pub part_linked : (env : ℕ → Result ℤ Unvalued) (f b : List ℕ) (values : List ℤ) (limit a : ℕ) → Linked env f b values limit
    → Linked env (take (length f - a) (drop a f)) (take (length b - a) (drop a b)) values limit
part_linked env f b values limit a h = rw (rest_is a f, rest_is a b) (linked_drop f b values limit env a h)

pub part_referred : (g : ℕ → Bool) (f b : List ℕ) (place a : ℕ) → Referred g f b place
    → Referred g (take (length f - a) (drop a f)) (take (length b - a) (drop a b)) place
part_referred g f b place a h = rw (rest_is a f, rest_is a b) (referred_drop f b place g a h)

pub part_lengths : (f b : List ℕ) (a : ℕ) → length b ≡ length f → length (take (length f - a) (drop a f)) ≤ length (take (length b - a) (drop a b))
part_lengths f b a e = rw (rest_is a f, rest_is a b) (omega (arith, length-drop a f, length-drop a b))

-- ---- the tables by place

pub name_read : (frames starts : List ℕ) (n : ℕ) (i : Placeℕ) → i < n → get_or (names_read frames starts n) i 0 ≡ name_in (input_at frames starts i)
unfolding names_read
name_read frames starts n i l = get_or_tab (λ j. name_in (input_at frames starts j)) n i 0 l

pub context_read : (frames starts : List ℕ) (n : ℕ) (i : Placeℕ) → i < n → get_or (contexts_read frames starts n) i 0 ≡ context_at (input_of frames starts n) i
unfolding contexts_read
context_read frames starts n i l = get_or_tab (context_at (input_of frames starts n)) n i 0 l

pub name_now : (t : Slots) (i : Placeℕ) → i < t.count → get_or (names_now t) i 0 ≡ name_in (slot_at t i)
unfolding names_now
name_now t i l = get_or_tab (λ j. name_in (slot_at t j)) t.count i 0 l
