-- C-11: the image never grows by a rewrite. Its length is where the last statement that has bytes ends; a pad that grows ends no later than it did, and
-- before it came the bytes that went.
use mathlib.Core.Path.{◌≡◌, refl, ap}
use mathlib.Core.Logic.{◌⊎◌, inl, inr, ⊎_elim}
use mathlib.Core.List.{List, [], ◌∷◌}
use Prim.Native.Nat.{ℕ, zero, suc, ◌+◌, ◌-◌, ◌*◌, ◌≤◌, max}
use native.Mathlib.Omega.{arith}
use lib.Dec.{leb}
use lib.ListN.{length, length-append, set}
use borrow.Author.Tests.{leb-true}
use Rattle.laws.specs.Lists.{total}
use Rattle.rules.specs.declared.Settings.{Settings}
use Rattle.rules.specs.Answers.{ok}
use Rattle.rules.specs.Forms.{size_at}
use Rattle.rules.specs.Programs.{Placeℕ, Addressℕ, Stmt, gone, instr, label, variable, comment, org, bytes, words, pad, Program, at, Space, empty, exactly, from, up_to, space_at, bytes_in, byte_count}
use Rattle.rules.specs.Layout.{after, behind, lay_in, lay}
use Rattle.rules.specs.Names.{enter, Entry, placed_from, placed}
use Rattle.rules.specs.Judging.{positions_fit, settles_in, encode, encode_all, judge}
use Rattle.rules.specs.Rewriting.{anchor, instr_bytes, optimized}
use Rattle.rules.proofs.Laws.{then_ok, require_ok}
use Rattle.promises.specs.Demand2.{Input}
use Rattle.promises.specs.Pads.{NeverGrows}
use Rattle.promises.proofs.Passes.{judge_passes}
use Rattle.promises.proofs.Positions.{fit_cons, AllSameRoom}
use Rattle.promises.proofs.Steps.{Step}
use Rattle.promises.proofs.Chains.{chain_keeps}
use Rattle.promises.proofs.Acceptable.{anchor_room}
use Rattle.promises.proofs.ImageRoom.{encode_size, gap_length, gap_some}
use Rattle.promises.proofs.ImageOfOutput.{image_of_output}
use Rattle.promises.proofs.Rises.{up_rises, Shorter, by_sets}

-- where n bytes from q on end; no bytes end nowhere
abbrev reach : Addressℕ → ℕ → ℕ
reach q zero = 0
reach q (suc n) = q + suc n

-- where the last byte ends, of a program that comes at q behind bytes that end at e
abbrev end_from : Addressℕ → ℕ → Program → ℕ
end_from q e [] = e
end_from q e (s ∷ p) = end_from (after q s) (max e (reach q (byte_count q s))) p

-- ---- lower, or as low: what comes at q' behind e' against what comes at q behind e. Where they have come apart, bytes reach up to q
record Low (q' q e' e : ℕ) : Type 0 where
  lower : q' ≤ q
  ends : e' ≤ e
  apart : (q ≤ e) ⊎ (q' ≡ q)

fixed_low : (q' q e' e n' n : ℕ) → n' ≤ n → Low q' q e' e → Low (q' + n') (q + n) (max e' (reach q' n')) (max e (reach q n))
fixed_low q' q e' e zero zero l h =
    record { lower = omega (arith, h.lower); ends = omega (arith, h.ends); apart = ⊎_elim (λ a. inl (omega arith)) (λ a. inr (omega arith)) h.apart }
fixed_low q' q e' e zero (suc n) l h = record { lower = omega (arith, h.lower); ends = omega (arith, h.ends); apart = inl (omega arith) }
fixed_low q' q e' e (suc n') zero l h = absurd (omega arith)
fixed_low q' q e' e (suc n') (suc n) l h = record { lower = omega (arith, h.lower); ends = omega (arith, h.lower, h.ends); apart = inl (omega arith) }

-- a pad that was empty and is not: it ends where bytes had ended
pad_low : (q' q e' e add m : ℕ) → Low q' q e' e
    → Low (q' + (up_to q' m + add)) (q + (up_to q m + add)) (max e' (reach q' (up_to q' m + add))) (max e (reach q (up_to q m + add)))
pad_low q' q e' e add m h = on (up_to q' m + add) (up_to q m + add) refl refl
  where
    later : q' + up_to q' m ≤ q + up_to q m
    later = up_rises q' q m h.lower

    on : (n' n : ℕ) → up_to q' m + add ≡ n' → up_to q m + add ≡ n → Low (q' + n') (q + n) (max e' (reach q' n')) (max e (reach q n))
    on zero zero a b = fixed_low q' q e' e 0 0 (omega arith) h
    on zero (suc n) a b = fixed_low q' q e' e 0 (suc n) (omega arith) h
    on (suc n') (suc n) a b = record { lower = omega (arith, later); ends = omega (arith, later, h.ends); apart = inl (omega arith) }
    on (suc n') zero a b = ⊎_elim covered as_before h.apart
      where
        covered : q ≤ e → Low (q' + suc n') (q + 0) (max e' (q' + suc n')) (max e 0)
        covered c = record { lower = omega (arith, later); ends = omega (arith, later, h.ends); apart = inl (omega arith) }

        as_before : q' ≡ q → Low (q' + suc n') (q + 0) (max e' (q' + suc n')) (max e 0)
        as_before c = absurd (omega (arith, ap (λ (x : ℕ). up_to x m) c))

same_low : (q' q e' e : ℕ) (s : Stmt) → Low q' q e' e → Low (after q' s) (after q s) (max e' (reach q' (byte_count q' s))) (max e (reach q (byte_count q s)))
same_low q' q e' e s h = on s
  where
    quiet : Low q' q (max e' 0) (max e 0)
    quiet = record { lower = h.lower; ends = omega (arith, h.ends); apart = ⊎_elim (λ a. inl (omega arith)) (λ a. inr a) h.apart }

    on : (s : Stmt) → Low (after q' s) (after q s) (max e' (reach q' (byte_count q' s))) (max e (reach q (byte_count q s)))
    on gone = quiet
    on (instr f xs c) = fixed_low q' q e' e (size_at f) (size_at f) (omega arith) h
    on (label n) = quiet
    on (variable n d) = quiet
    on (comment x) = quiet
    on (org l) = record { lower = omega arith; ends = omega (arith, h.ends); apart = inr refl }
    on (bytes es) = fixed_low q' q e' e (length es) (length es) (omega arith) h
    on (words es) = fixed_low q' q e' e (2 * length es) (2 * length es) (omega arith) h
    on (pad add m) = pad_low q' q e' e add m h

ends_low : (q' q e' e : ℕ) (p : Program) → Low q' q e' e → end_from q' e' p ≤ end_from q e p
ends_low q' q e' e [] h = h.ends
ends_low q' q e' e (s ∷ p) h = ends_low (after q' s) (after q s) (max e' (reach q' (byte_count q' s))) (max e (reach q (byte_count q s))) p (same_low q' q e' e s h)

-- a statement gives way to a shorter one
set_from : (q' q e' e : ℕ) (p : Program) (i : Placeℕ) (t : Stmt) → Shorter t (at p i) → Low q' q e' e → end_from q' e' (set p i t) ≤ end_from q e p
set_from q' q e' e [] i t x h = h.ends
set_from q' q e' e (s ∷ p) zero t x h =
    let a = x.new q' in
    let b = x.old q in
    ends_low (after q' t) (after q s) (max e' (reach q' (byte_count q' t))) (max e (reach q (byte_count q s))) p (rw (a.0, a.1, b.0, b.1) (fixed_low q' q e' e x.few x.many x.fewer h))
set_from q' q e' e (s ∷ p) (suc i) t x h =
    set_from (after q' s) (after q s) (max e' (reach q' (byte_count q' s))) (max e (reach q (byte_count q s))) p i t x (same_low q' q e' e s h)

-- ---- the image ends there

-- what the end E says of a part of r bytes behind n bytes from q on
lengths : (q e n r E : ℕ) → e ≤ q → (r ≡ 0 → E ≡ max e (reach q n)) → (1 ≤ r → E ≡ q + n + r) → (n + r ≡ 0 → E ≡ e) × (1 ≤ n + r → E ≡ q + (n + r))
lengths q e zero zero E l a b = (λ z. omega (arith, a refl), λ z. absurd (omega arith))
lengths q e zero (suc r) E l a b = (λ z. absurd (omega arith), λ z. omega (arith, b (omega arith)))
lengths q e (suc n) zero E l a b = (λ z. absurd (omega arith), λ z. omega (arith, a refl))
lengths q e (suc n) (suc r) E l a b = (λ z. absurd (omega arith), λ z. omega (arith, b (omega arith)))

laid_ends : (i : Placeℕ) (q e : ℕ) (x : Space) (b rest : List ℕ) (E : ℕ) → length b ≡ bytes_in x → settles_in i q x ≡ ok tt → e ≤ q
    → (length rest ≡ 0 → E ≡ max e (reach q (bytes_in x))) → (1 ≤ length rest → E ≡ behind q x + length rest)
    → (length (lay_in q x b rest) ≡ 0 → E ≡ e) × (1 ≤ length (lay_in q x b rest) → E ≡ q + length (lay_in q x b rest))
laid_ends i q e empty b rest E s t l none some = (λ z. omega (arith, none z), some)
laid_ends i q e (exactly n) b rest E s t l none some = rw (length-append b rest, s) (lengths q e n (length rest) E l none some)
laid_ends i q e (from a) b rest E s t l none some =
    let up = leb-true q a (require_ok (leb q a) _ _ tt t).0 in
    (λ z. by (length rest) refl z, λ z. let y = gap_some (a - q) rest z in rw (gap_length (a - q) rest y) (omega (arith, some y)))
  where
    by : (r : ℕ) → length rest ≡ r → length (lay_in q (from a) b rest) ≡ 0 → E ≡ e
    by zero d z = omega (arith, none d)
    by (suc r) d z = absurd (omega (arith, gap_length (a - q) rest (omega arith)))

image_from : (names : List Entry) (p₀ : Program) (i k q e : ℕ) (p : Program) (image : List ℕ) → positions_fit (placed_from i k q p) ≡ ok tt
    → encode_all names p₀ (placed_from i k q p) ≡ ok image → e ≤ q → (length image ≡ 0 → end_from q e p ≡ e) × (1 ≤ length image → end_from q e p ≡ q + length image)
unfolding encode_all placed_from
image_from names p₀ i k q e [] image f d l = let z : image ≡ [] = cc in (λ h. refl, λ h. absurd (omega (arith, ap length z)))
image_from names p₀ i k q e (s ∷ p) image f d l =
    let t = fit_cons i k q s p (unfold placed_from in f) in
    let b = then_ok (encode names p₀ i (enter k s) q s) _ image d in
    let r = then_ok (encode_all names p₀ (placed_from (suc i) (enter k s) (after q s) p)) _ image b.2 in
    let z : image ≡ lay q s b.0 r.0 = cc r.2 in
    let below = image_from names p₀ (suc i) (enter k s) (after q s) (max e (reach q (byte_count q s))) p r.0 t.rest r.1 (early (byte_count q s) t.rises) in
    rw z (laid_ends i q e (space_at q s) b.0 r.0 (end_from (after q s) (max e (reach q (byte_count q s))) p) (encode_size names p₀ i (enter k s) q s b.0 b.1) t.settled l below.0 below.1)
  where
    early : (n : ℕ) → q + n ≤ after q s → max e (reach q n) ≤ after q s
    early zero h = omega arith
    early (suc n) h = omega arith

pub image_ends : (p : Program) (image : List ℕ) → judge p ≡ ok image → length image ≡ end_from 0 0 p
unfolding placed
image_ends p image e =
    let h = judge_passes p image e in
    let k = image_from h.names p 0 0 0 0 p image h.laid h.encoded (omega arith) in
    on (length image) refl k.0 k.1
  where
    on : (n : ℕ) → length image ≡ n → (length image ≡ 0 → end_from 0 0 p ≡ 0) → (1 ≤ length image → end_from 0 0 p ≡ 0 + length image) → length image ≡ end_from 0 0 p
    on zero d a b = omega (arith, a d)
    on (suc n) d a b = omega (arith, b (omega arith))

-- ---- statements that take the same room end alike
room_ends : (q e : ℕ) (p p' : Program) → AllSameRoom p p' → end_from q e p' ≡ end_from q e p
room_ends q e [] [] h = refl
room_ends q e [] (s ∷ p') h = absurd (omega (arith, h.0))
room_ends q e (s ∷ p) [] h = absurd (omega (arith, h.0))
room_ends q e (s ∷ p) (t ∷ p') h =
    rw ((h.1 0).goes_on q, (h.1 0).as_big q) (room_ends (after q s) (max e (reach q (byte_count q s))) p p' (omega (arith, h.0), λ i. h.1 (suc i)))

-- never-grows: the image that is handed out is no longer than the input's
pub never_grows : (asked : Settings) (p : Program) (h : Input p) → NeverGrows asked p h.image
unfolding optimized
never_grows asked p h =
    let o = image_of_output asked p h in
    let kept : end_from 0 0 (optimized asked p).program ≤ end_from 0 0 p =
    chain_keeps asked (λ q. end_from 0 0 q ≤ end_from 0 0 p) (λ r t st l. omega (arith, step_ends r t st, l)) (total instr_bytes p) (anchor p) (omega (arith, room_ends 0 0 p (anchor p) (anchor_room p))) in
    rw o.handed_out (omega (arith, kept, image_ends (optimized asked p).program o.image o.of_end, image_ends p h.image h.assembles))
  where
    step_ends : (r t : Program) → Step r t → end_from 0 0 t ≤ end_from 0 0 r
    step_ends r t st =
        by_sets (λ a b. end_from 0 0 a ≤ end_from 0 0 b) (λ a b c x y. omega arith)
        (λ p i t x. set_from 0 0 0 0 p i t x (record { lower = omega arith; ends = omega arith; apart = inr refl })) r t st
