-- An image that was assembled from instructions with plain numbers is read back as these instructions.
use mathlib.Core.Path.{◌≡◌, refl, subst, sym, ◌∙◌, ap}
use mathlib.Core.List.{List, [], ◌∷◌, ◌++◌}
use mathlib.Core.Bool.{true}
use Prim.Native.Nat.{ℕ, suc, ◌+◌, ◌-◌, ◌<◌, ◌≤◌}
use native.Mathlib.Numerals.{one-add}
use native.Mathlib.Omega.{arith}
use lib.Dec.{leb}
use lib.ListN.{length, drop, replicate, length-append, length-replicate}
use lib.Seq.{drop_at}
use borrow.Author.Tests.{leb-true, le-ltb, lt-leb, ne_eqb}
use Rattle.laws.specs.Lists.{every}
use Rattle.laws.proofs.Tests.{and_true, false_true}
use Rattle.rules.specs.Answers.{ok, check_each, require}
use Rattle.rules.proofs.Laws.{then_ok, next_ok, require_ok}
use Rattle.rules.specs.Forms.{size_at, operands_at}
use Rattle.rules.specs.Patterns.{bytes_at}
use Rattle.rules.specs.Programs.{Placeℕ, Addressℕ, Operand, Stmt, gone, instr, label, variable, comment, org, bytes, words, pad, Program, at, byte_count}
use Rattle.rules.specs.Layout.{gap, after}
use Rattle.rules.specs.Names.{Entry, placed_from, placed}
use Rattle.rules.specs.Listing.{read_listing}
use Rattle.rules.specs.Judging.{fields, encode, encode_all, positions_fit, judge}
use Rattle.promises.proofs.Sounds.{SoundStmt}
use Rattle.promises.proofs.Listings.{read_made, made_instr}
use Rattle.promises.proofs.Passes.{judge_passes}
use Rattle.decoding.specs.Promise.{is_plain_operand}
use Rattle.decoding.proofs.Tables.{shaped}
use Rattle.decoding.proofs.Again.{InstrAgain, bytes_length, instr_again}
use Rattle.readback.specs.ReadBack.{of_form, read_one, read_from, read_all, statements_of}
use Rattle.readback.specs.Promise.{is_plain_instr, PlainInstrs}
use Rattle.readback.proofs.Turns.{skip}
use Rattle.readback.proofs.Orgs.{without_org}

-- ---- statements as a listing has them: sound, plain, and each its own place

data Own : Placeℕ → Program → Type 0 where
  none : (i : Placeℕ) → Own i []
  more : (i : Placeℕ) (f : ℕ) (xs : List Operand) (p : Program) → SoundStmt (instr f xs i) → every is_plain_operand xs ≡ true
      → Own (suc i) p
      → Own i (instr f xs i ∷ p)

own_from : (i : Placeℕ) (p : Program) → ((j : Placeℕ) → SoundStmt (at p j))
    → ((j : Placeℕ) (f : ℕ) (xs : List Operand) (c : Placeℕ) → at p j ≡ instr f xs c → c ≡ i + j) → PlainInstrs p → Own i p
unfolding every
own_from i [] s c h = none i
own_from i (x ∷ p) s c h =
    let t = and_true (is_plain_instr x) (every is_plain_instr p) h in
    one x (s 0) (λ f xs k e. c 0 f xs k e ∙ omega arith) t.0
    (own_from (suc i) p (λ j. s (suc j)) (λ j f xs k e. c (suc j) f xs k e ∙ omega arith) t.1)
  where
    one : (x : Stmt) → SoundStmt x → ((f : ℕ) (xs : List Operand) (k : Placeℕ) → x ≡ instr f xs k → k ≡ i) → is_plain_instr x ≡ true
        → Own (suc i) p → Own i (x ∷ p)
    one (instr f xs k) s c h o = let e : k ≡ i = c f xs k refl in rw e (more i f xs p s h o)
    one gone s c h o = false_true h
    one (label n) s c h o = false_true h
    one (variable n e) s c h o = false_true h
    one (comment t) s c h o = false_true h
    one (org l) s c h o = false_true h
    one (bytes es) s c h o = false_true h
    one (words es) s c h o = false_true h
    one (pad add m) s c h o = false_true h

-- ---- one instruction

one_again : (i : Placeℕ) (q : Addressℕ) (f : ℕ) (xs : List Operand) (s : List ℕ) → size_at f ≤ length s → InstrAgain f s (q + size_at f) xs
    → read_one i q s ≡ instr f xs i
unfolding read_one
one_again i q f xs s l g =
    ap (of_form i q s) g.form ∙ rw (le-ltb (length s) (size_at f) l, g.inside) (ap (λ (ys : List Operand). instr f ys i) g.operands)

-- what is read of bytes b, of which the first statement takes all, and others behind them
read_first : (i : Placeℕ) (q : Addressℕ) (f : ℕ) (xs : List Operand) (b rest : List ℕ) → length b ≡ size_at f → 1 ≤ size_at f
    → read_one i q (b ++ rest) ≡ instr f xs i
    → read_all i q (b ++ rest) ≡ instr f xs i ∷ read_all (suc i) (q + size_at f) rest
unfolding read_from
read_first i q f xs [] rest l s e = absurd (omega arith)
read_first i q f xs (x ∷ b) rest l s e =
    let n : length b ≡ size_at f - 1 = omega arith in
    ap (λ (y : Stmt). y ∷ read_from (byte_count q y - 1) (suc i) (after q y) (b ++ rest)) e
    ∙ ap (λ (p : Program). instr f xs i ∷ p)
    (skip (size_at f - 1) (suc i) (q + size_at f) (b ++ rest) ∙ ap (read_all (suc i) (q + size_at f)) (drop_at b rest (size_at f - 1) n))

-- ---- all of them, the first at place i and q

all_again : (names : List Entry) (o : Program) (i : Placeℕ) (k : ℕ) (q : Addressℕ) (p : Program) (image : List ℕ) → Own i p
    → positions_fit (placed_from i k q p) ≡ ok tt
    → encode_all names o (placed_from i k q p) ≡ ok image → read_all i q image ≡ p
unfolding placed_from positions_fit check_each encode_all encode read_from require
all_again names o i k q _ image (none _) u e = let z : image ≡ [] = cc in rw z
all_again names o i k q _ image (more _ f xs p s h w) u e =
    let t = next_ok (require (leb (q + size_at f) 65536) _ (ok tt)) (check_each _ (placed_from (suc i) k (q + size_at f) p)) tt u in
    let n : q + size_at f ≤ 65536 = leb-true (q + size_at f) 65536 (require_ok (leb (q + size_at f) 65536) _ (ok tt) t.0 t.1).0 in
    let a = then_ok (encode names o i k q (instr f xs i)) _ image e in
    let v = then_ok (fields names o i k (q + size_at f) 0 (operands_at f) xs) (λ vs. ok (bytes_at f vs)) a.0 a.1 in
    let r = then_ok (encode_all names o (placed_from (suc i) k (q + size_at f) p)) _ image a.2 in
    let b : a.0 ≡ bytes_at f v.0 = cc v.2 in
    let whole : image ≡ bytes_at f v.0 ++ r.0 = let y : image ≡ a.0 ++ r.0 = cc r.2 in y ∙ ap (λ (x : List ℕ). x ++ r.0) b in
    let size = bytes_length f v.0 s.0 in
    let g = instr_again f xs v.0 r.0 names o i k (q + size_at f) s.0 n s.1 h v.1 in
    let first = one_again i q f xs (bytes_at f v.0 ++ r.0) (omega (arith, length-append (bytes_at f v.0) r.0)) g in
    ap (read_all i q) whole ∙ read_first i q f xs (bytes_at f v.0) r.0 size (shaped f s.0).some first
    ∙ ap (λ (y : Program). instr f xs i ∷ y) (all_again names o (suc i) k (q + size_at f) p r.0 w t.2 r.1)

-- ---- the whole listing

-- what the two passes say of a listing of instructions that comes at q
from_listing : (text : List ℕ) (i : Placeℕ) (k : ℕ) (q : Addressℕ) (p r : Program) (names : List Entry) (o : Program) (image : List ℕ)
    → read_listing text ≡ ok r
    → ((j : Placeℕ) → at p j ≡ at r (i + j)) → PlainInstrs p → positions_fit (placed_from i k q p) ≡ ok tt
    → encode_all names o (placed_from i k q p) ≡ ok image → read_all i q image ≡ p
from_listing text i k q p r names o image e same h u v =
    let w = read_made text r e in
    all_again names o i k q p image
    (own_from i p (λ j. subst (λ (x : Stmt). SoundStmt x) (sym (same j)) (w.sound (i + j)))
    (λ j f xs c d. (made_instr r w (i + j) f xs c (sym (same j) ∙ d)).0) h) u v

-- from 0 on
pub from_zero : (text : List ℕ) (p : Program) (image : List ℕ) → read_listing text ≡ ok p → PlainInstrs p → judge p ≡ ok image
    → statements_of image 0 ≡ p
unfolding placed
from_zero text p image e h j =
    let g = judge_passes p image j in
    without_org image 0 refl
    ∙ from_listing text 0 0 0 p p g.names p image e (λ j. let z : 0 + j ≡ j = omega arith in ap (at p) (sym z)) h g.laid g.encoded

empty : (p : Program) → p ≡ [] → 1 ≤ length p → ⊥
empty p e h = let n : length p ≡ length {A = Stmt} [] = ap (λ (x : Program). length x) e in omega arith

-- behind an org
module _ (text : List ℕ) (l : Addressℕ) (p : Program) (image : List ℕ) (e : read_listing text ≡ ok (org l ∷ p)) (h : PlainInstrs p)
    (j : judge (org l ∷ p) ≡ ok image) where
  record Laid : Type 0 where
    rest : List ℕ
    is : image ≡ gap l rest
    again : read_all 1 l rest ≡ p

  laid_org : Laid
  unfolding placed placed_from positions_fit check_each encode_all encode
  laid_org =
      let g = judge_passes (org l ∷ p) image j in
      let u = next_ok (require (leb 0 l) _ (ok tt)) (check_each _ (placed_from 1 0 l p)) tt g.laid in
      let a = then_ok (ok []) _ image g.encoded in
      let r = then_ok (encode_all g.names (org l ∷ p) (placed_from 1 0 l p)) _ image a.2 in
      let z : l - 0 ≡ l = omega arith in
      let k : image ≡ gap (l - 0) r.0 = cc r.2 in
      record {
        rest = r.0;
        is = k ∙ ap (λ (n : ℕ). gap n r.0) z;
        again = from_listing text 1 0 l p (org l ∷ p) g.names (org l ∷ p) r.0 e
            (λ j. let s : 1 + j ≡ suc j = one-add j in ap (at (org l ∷ p)) (sym s)) h u.2 r.1;
      }

  -- what stands behind the gap
  record Behind : Type 0 where
    inside : l < length image
    rest : List ℕ
    is : drop l image ≡ rest
    again : read_all 1 l rest ≡ p

  behind : 1 ≤ length p → Behind
  unfolding read_from
  behind b = on laid_org laid_org.rest refl
    where
      on : (g : Laid) (rest : List ℕ) → g.rest ≡ rest → Behind
      on g [] z = absurd (empty p (sym g.again ∙ ap (read_all 1 l) z) b)
      on g (x ∷ rest) z =
          let i : image ≡ replicate l 0 ++ (x ∷ rest) = g.is ∙ ap (gap l) z in
          let zeros : List ℕ = replicate l 0 in
          let n : length zeros ≡ l = length-replicate l 0 in
          let m : length image ≡ l + suc (length rest) = ap (λ (y : List ℕ). length y) i
          ∙ omega (arith, length-append (replicate l 0) (x ∷ rest)) in
          record {
            inside = omega arith;
            rest = g.rest;
            is = ap (drop l) i ∙ drop_at (replicate l 0) (x ∷ rest) l n
                ∙ sym z;
            again = g.again;
          }

  pub org_inside : 1 ≤ length p → l ≤ length image
  org_inside b = omega (arith, (behind b).inside)

  pub from_org : 0 < l → 1 ≤ length p → statements_of image l ≡ org l ∷ p
  unfolding statements_of
  from_org a b =
      let g = behind b in
      rw (lt-leb (length image) l g.inside, ne_eqb l 0 (λ y. omega arith))
      (ap (λ (y : List ℕ). org l ∷ read_all 1 l y) g.is ∙ ap (λ (y : Program). org l ∷ y) g.again)
