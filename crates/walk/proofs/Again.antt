-- The output is once more made only of what C-23 names, with targets that it admits: so that a second run walks alike too.
use mathlib.Core.Path.{◌≡◌, refl, sym, ◌∙◌, ap}
use mathlib.Core.List.{List, [], ◌∷◌}
use mathlib.Core.Bool.{Bool, true, false, ◌&&◌, ◌||◌, cond}
use Prim.Native.Nat.{ℕ, ◌+◌, ◌<◌}
use native.Mathlib.Omega.{arith}
use lib.Dec.{eqb, ltb}
use lib.IntN.{pos}
use borrow.Author.Tests.{ltb-true}
use Rattle.std.specs.Prelude.{Ok}
use Rattle.laws.specs.Lists.{every}
use Rattle.laws.proofs.Tests.{and_true, and_both, or_first, or_second}
use Rattle.laws.proofs.Lists.{every_any, every_all}
use Rattle.rules.specs.Forms.{is_unconditional, bz, bnz}
use Rattle.rules.specs.Programs.{Placeℕ, Operand, inner, Stmt, gone, is_gone, instr, Program, at, args_of, last_of, on_last, retarget}
use Rattle.rules.specs.Layout.{position, size_in, origin}
use Rattle.rules.specs.Names.{context_at}
use Rattle.rules.specs.Rewriting.{of_inner, every_inner_label, acceptable}
use Rattle.rules.specs.Output.{plain_target, write_back, compact}
use Rattle.rules.proofs.Laws.{by_change}
use Rattle.promises.specs.Demand2.{own, own_from}
use Rattle.promises.proofs.Acceptable.{acceptable_parts}
use Rattle.promises.proofs.Looks.{last_of_on_last}
use Rattle.promises.proofs.Positions.{origin_at}
use Rattle.promises.proofs.Ranks.{rank, byte_live}
use Rattle.promises.proofs.ReadsBack.{at_own}
use Rattle.promises.proofs.WritesBack.{at_write_back}
use Rattle.walk.specs.Walk.{nop}
use Rattle.walk.specs.SameWalk.{is_plain_target, is_walked, only_walked}
use Rattle.walk.proofs.Machines.{Deed, Machine}
use Rattle.walk.proofs.Links.{branch_on, Matches, is_gone_lem, is_label, is_comment, is_nop, is_jump, is_test}
use Rattle.walk.proofs.Resolves.{Lands, named, anchored, Resolved}
use Rattle.walk.proofs.Alikes.{every_last}
use Rattle.walk.proofs.Outputs.{Shown}

-- the slots that are left
every_compact : (f : Stmt → Bool) (p : Program) → every f p ≡ true → every f (compact p) ≡ true
unfolding every compact
every_compact f [] h = refl
every_compact f (s ∷ p) h = on (is_gone s) (and_true (f s) (every f p) h).0 (every_compact f p (and_true (f s) (every f p) h).1)
  where
    on : (b : Bool) → f s ≡ true → every f (compact p) ≡ true → every f (cond b (compact p) (s ∷ compact p)) ≡ true
    on true x below = below
    on false x below = and_both (f s) (every f (compact p)) x below

-- rule 5: an inner label's offset is below its owner's size, so that its owner has a byte
inner_sized : (p : Program) → acceptable p ≡ true → (i f c : ℕ) (xs : List Operand) (d : ℕ) → at p i ≡ instr f xs c → last_of xs ≡ inner d 0 → 0 < size_in p d
unfolding every_inner_label
inner_sized p g i f c xs d s t = ltb-true 0 (size_in p d) (ap test (sym t) ∙ every_last test xs refl all)
  where
    test : Operand → Bool
    test = of_inner (λ owner o. ltb o (size_in p owner))

    all : every (of_inner (λ owner o. ltb o (size_in p owner))) xs ≡ true
    all =
        ap (λ (s : Stmt). every (of_inner (λ owner o. ltb o (size_in p owner))) (args_of s)) (sym s)
        ∙ every_any (λ s. every (of_inner (λ owner o. ltb o (size_in p owner))) (args_of s)) p i gone (unfold every in refl) (acceptable_parts p g).0

own_walked : (o : Program) (i : Placeℕ) (s : Stmt) → is_walked o (own i s) ≡ is_walked o s
own_walked o i s = by_change (λ s t. is_walked o t ≡ is_walked o s) (λ x. instr x.form x.args i) (λ f xs c. refl) (λ s n. refl) s

module _ {end o : Program} {m : Machine} (r : Resolved end m) (s : Shown end o) where
  -- what has a byte is an instruction, and is shown as one of the same form
  sized : (i : Placeℕ) → 0 < size_in end i → 0 < size_in o (rank end i)
  sized i h = on refl (r.all i)
    where
      as_big : (f : ℕ) (xs : List Operand) (c : ℕ) → at end i ≡ instr f xs c → 0 < size_in o (rank end i)
      as_big f xs c e = rw (s.instr_at i f xs c e).1 (rw e at h)

      on : {t : Stmt} {x : Deed} → at end i ≡ t → Matches (Lands end (context_at end i)) t x → 0 < size_in o (rank end i)
      on e is_gone_lem = absurd (omega (arith, rw e at h))
      on e is_label = absurd (omega (arith, rw e at h))
      on e is_comment = absurd (omega (arith, rw e at h))
      on e (is_nop {f = f} {xs = xs} {c = c} z) = as_big f xs c e
      on e (is_jump {f = f} {xs = xs} {c = c} u l) = as_big f xs c e
      on e (is_test {f = f} {xs = xs} {c = c} w z l) = as_big f xs c e

  -- a bare label stays, and a number is the first byte of the statement that owned the inner label
  target_admitted : (k : ℕ) (x : Operand) (d : ℕ) → Lands end k x d → (x ≡ inner d 0 → 0 < size_in end d) → is_plain_target o (plain_target end x) ≡ true
  target_admitted k x d (named e z) h = refl
  target_admitted k x d anchored h =
      let has : 0 < size_in end d = h refl in
      let here : position o (rank end d) + 0 ≡ position end d + 0 = ap (λ (a : ℕ). a + 0) (s.position_at d (byte_live (position end d) (at end d) 0 has)) in
      rw (ap (λ (a : ℕ). origin o (Ok (pos a))) (sym here) ∙ origin_at o (rank end d) 0 s.laid (sized d has))

  transfer_admitted : (i f : ℕ) (xs : List Operand) (c d : ℕ) → at end i ≡ instr f xs c → Lands end (context_at end i) (last_of xs) d
      → is_plain_target o (last_of (on_last (plain_target end) xs)) ≡ true
  transfer_admitted i f xs c d e l =
      rw (last_of_on_last (plain_target end) xs refl) (target_admitted (context_at end i) (last_of xs) d l (inner_sized end r.good i f c xs d e))

  shown_walked : (i : Placeℕ) → is_walked o (retarget (plain_target end) (at end i)) ≡ true
  shown_walked i = on refl (r.all i)
    where
      transfers : (f : ℕ) (xs : List Operand) → is_unconditional f || (eqb f bz || eqb f bnz) ≡ true → is_plain_target o (last_of (on_last (plain_target end) xs)) ≡ true
          → eqb f nop || ((is_unconditional f || (eqb f bz || eqb f bnz)) && is_plain_target o (last_of (on_last (plain_target end) xs))) ≡ true
      transfers f xs a b = or_second (eqb f nop) _ (and_both (is_unconditional f || (eqb f bz || eqb f bnz)) _ a b)

      branches : (w : Bool) (f : ℕ) → f ≡ branch_on w → is_unconditional f || (eqb f bz || eqb f bnz) ≡ true
      branches true f e = rw e
      branches false f e = rw e

      on : {t : Stmt} {x : Deed} → at end i ≡ t → Matches (Lands end (context_at end i)) t x → is_walked o (retarget (plain_target end) t) ≡ true
      on e is_gone_lem = refl
      on e is_label = refl
      on e is_comment = refl
      on e (is_nop z) = rw z
      on e (is_jump {f = f} {xs = xs} {c = c} {d = d} u l) = transfers f xs (or_first (is_unconditional f) _ u) (transfer_admitted i f xs c d e l)
      on e (is_test {f = f} {xs = xs} {c = c} {d = d} w z l) = transfers f xs (branches w f z) (transfer_admitted i f xs c d e l)

  written_walked : every (is_walked o) (compact (write_back end)) ≡ true
  written_walked = every_compact (is_walked o) (write_back end) (every_all (is_walked o) (write_back end) gone (λ i h. ap (is_walked o) (at_write_back end i) ∙ shown_walked i))

-- as reading makes them: each instruction carries its own place
pub again_walked : {end : Program} {m : Machine} → Resolved end m → Shown end (own_from 0 (compact (write_back end))) → only_walked (own_from 0 (compact (write_back end))) ≡ true
unfolding only_walked
again_walked {end} r s =
    let shown : Program = compact (write_back end) in
    let o : Program = own_from 0 shown in
    every_all (is_walked o) o gone (λ j h. ap (is_walked o) (at_own 0 shown j) ∙ own_walked o (0 + j) (at shown j) ∙ every_any (is_walked o) shown j gone refl (written_walked r s))
