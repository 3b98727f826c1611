-- All statements read back: they are judged good, and their bytes are those that they were read from.
use mathlib.Core.Path.{◌≡◌, refl, ap}
use mathlib.Core.Option.{none}
use mathlib.Core.List.{List, [], ◌∷◌, ◌++◌}
use Prim.Native.Nat.{ℕ, zero, suc, ◌+◌, ◌-◌, ◌*◌, ◌≤◌}
use native.Mathlib.Omega.{arith}
use lib.ListN.{length, take, drop, length-drop, take-append-drop}
use borrow.Author.Tests.{le-leb}
use Rattle.rules.specs.Answers.{ok, check_each, require, ◌>>=◌, ◌>>◌}
use Rattle.rules.specs.Programs.{Placeℕ, Addressℕ, Stmt, Program, byte_count, as_name}
use Rattle.rules.specs.Layout.{after, lay}
use Rattle.rules.specs.Names.{enter, placed_from, Key, Entry}
use Rattle.rules.specs.Judging.{no_name_twice, reaches, settles, positions_fit, define, define_all, encode_all}
use Rattle.promises.specs.Demand2.{own_from}
use Rattle.promises.proofs.RoundTrip.{AllBytes}
use Rattle.promises.proofs.TextBack.{AllWritable}
use Rattle.decoding.proofs.Bytes.{byte_first}
use Rattle.readback.specs.ReadBack.{read_one, read_from}
use Rattle.readback.proofs.One.{Bodied, is_instr, is_bytes, Reads, one_reads}

-- ---- what an instruction or bytes is to each pass

body_after : (q : Addressℕ) (x : Stmt) → Bodied x → after q x ≡ q + byte_count q x
body_after q _ (is_instr f xs c) = refl
body_after q _ (is_bytes es) = refl

body_enter : (k : ℕ) (x : Stmt) → Bodied x → enter k x ≡ k
body_enter k _ (is_instr f xs c) = refl
body_enter k _ (is_bytes es) = refl

body_name : (x : Stmt) → Bodied x → as_name x ≡ none
unfolding as_name
body_name _ (is_instr f xs c) = refl
body_name _ (is_bytes es) = refl

body_settles : (i : Placeℕ) (q : Addressℕ) (x : Stmt) → Bodied x → settles i q x ≡ reaches i (q + byte_count q x)
body_settles i q _ (is_instr f xs c) = refl
body_settles i q _ (is_bytes es) = refl

body_defines : (above : List Entry) (i : Placeℕ) (k : ℕ) (q : Addressℕ) (x : Stmt) → Bodied x → define above i k q x ≡ ok above
body_defines above i k q _ (is_instr f xs c) = refl
body_defines above i k q _ (is_bytes es) = refl

body_lays : (q : Addressℕ) (x : Stmt) (b rest : List ℕ) → Bodied x → lay q x b rest ≡ b ++ rest
body_lays q _ b rest (is_instr f xs c) = refl
body_lays q _ b rest (is_bytes es) = refl

-- ---- the statements from place i on, for the bytes s at q

pub record Good (i : Placeℕ) (q : Addressℕ) (s : List ℕ) (p : Program) : Type 0 where
  pub named : (k : ℕ) (seen : List Key) → no_name_twice seen (placed_from i k q p) ≡ ok tt
  pub settled : (k : ℕ) → positions_fit (placed_from i k q p) ≡ ok tt
  pub defined : (k : ℕ) (above : List Entry) → define_all above (placed_from i k q p) ≡ ok above
  pub encoded : (names : List Entry) (o : Program) (k : ℕ) → encode_all names o (placed_from i k q p) ≡ ok s
  pub writable : AllWritable p
  pub few : length s ≤ 3 * length p
  pub owned : own_from i p ≡ p

good_none : (i : Placeℕ) (q : Addressℕ) → Good i q [] []
unfolding placed_from no_name_twice positions_fit check_each define_all encode_all own_from
good_none i q =
    record {
      named = λ k seen. refl;
      settled = λ k. refl;
      defined = λ k above. refl;
      encoded = λ names o k. refl;
      writable = tt;
      few = omega arith;
      owned = refl;
    }

module _ (i : Placeℕ) (q : Addressℕ) (s : List ℕ) (x : Stmt) (r : Reads i q s x) (fits : q + byte_count q x ≤ 65536) (p : Program)
    (g : Good (suc i) (after q x) (drop (byte_count q x) s) p) where
  named_more : (k : ℕ) (seen : List Key) → no_name_twice seen (placed_from i k q (x ∷ p)) ≡ ok tt
  unfolding placed_from no_name_twice require
  named_more k seen = rw (body_name x r.bodied) (g.named (enter k x) seen)

  settled_more : (k : ℕ) → positions_fit (placed_from i k q (x ∷ p)) ≡ ok tt
  unfolding placed_from positions_fit check_each ◌>>◌ require
  settled_more k = rw (body_settles i q x r.bodied, le-leb (q + byte_count q x) 65536 fits) (g.settled (enter k x))

  defined_more : (k : ℕ) (above : List Entry) → define_all above (placed_from i k q (x ∷ p)) ≡ ok above
  unfolding placed_from define_all ◌>>=◌
  defined_more k above = rw (body_defines above i (enter k x) q x r.bodied) (g.defined (enter k x) above)

  encoded_more : (names : List Entry) (o : Program) (k : ℕ) → encode_all names o (placed_from i k q (x ∷ p)) ≡ ok s
  unfolding placed_from encode_all ◌>>=◌
  encoded_more names o k =
      rw (
        r.encoded names o (enter k x),
        ◌>>=◌,
        g.encoded names o (enter k x),
        ◌>>=◌,
        body_lays q x (take (byte_count q x) s)
            (drop (byte_count q x) s) r.bodied,
      )
      (ap ok (take-append-drop (byte_count q x) s))

  good_more : Good i q s (x ∷ p)
  unfolding own_from
  good_more =
      record {
        named = named_more;
        settled = settled_more;
        defined = defined_more;
        encoded = encoded_more;
        writable = (r.writable, g.writable);
        few = omega (arith, r.small, r.there, g.few, length-drop (byte_count q x) s);
        owned = rw (r.owned, g.owned);
      }

-- what a statement of a byte or more leaves of the bytes
pub left : (n b : ℕ) (s : List ℕ) → 1 ≤ n → drop (n - 1) s ≡ drop n (b ∷ s)
left zero b s h = absurd (omega arith)
left (suc n) b s h = let e : suc n - 1 ≡ n = omega arith in ap (λ (k : ℕ). drop k s) e

pub from_good : (k : ℕ) (i : Placeℕ) (q : Addressℕ) (s : List ℕ) → AllBytes s → q + length (drop k s) ≤ 65536
    → Good i q (drop k s) (read_from k i q s)
unfolding read_from
from_good zero i q [] h r = good_none i q
from_good (suc k) i q [] h r = good_none i q
from_good (suc k) i q (b ∷ s) h r = from_good k i q s (byte_first b s h).1 r
from_good zero i q (b ∷ s) h r =
    let x : Stmt = read_one i q (b ∷ s) in
    let n : ℕ = byte_count q x in
    let o = one_reads i q b s h r in
    let e : after q x ≡ q + n = body_after q x o.bodied in
    let d = length-drop n (b ∷ s) in
    let l : drop (n - 1) s ≡ drop n (b ∷ s) = left n b s o.some in
    let m : length (drop (n - 1) s) ≡ length (drop n (b ∷ s)) = ap (λ (t : List ℕ). length t) l in
    good_more i q (b ∷ s) x o (omega (arith, o.there)) (read_from (n - 1) (suc i) (after q x) s)
    (rw l at (from_good (n - 1) (suc i) (after q x) s (byte_first b s h).1 (omega (arith, o.there))))
