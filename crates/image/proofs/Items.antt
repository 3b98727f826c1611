-- The items of data that were read: each reads where it begins; and their encoding from item j on.
use mathlib.Core.Path.{◌≡◌, refl, ap, ◌∙◌}
use mathlib.Core.List.{List, [], ◌∷◌, ◌++◌}
use mathlib.Core.Bool.{Bool, true, false}
use Prim.Native.Nat.{ℕ, suc, ◌≤◌, ◌<◌}
use native.Mathlib.Omega.{arith}
use lib.ListN.{length, get_or, drop, drop_of_length-le}
use lib.Seq.{drop-cons}
use lib.IntN.{ℤ, pos}
use Rattle.rules.specs.declared.Refusal.{Refusal}
use Rattle.std.specs.Prelude.{Err, Result, Ok}
use Rattle.rules.specs.declared.Unvalued.{Unvalued}
use Rattle.rules.specs.declared.Refusal.TheVariants.{Range}
use Rattle.rules.specs.Answers.{at_place, Judged, ok, no, ◌>>=◌, require}
use Rattle.rules.specs.Expressions.{Expr, num}
use Rattle.rules.specs.Listing.{read_frame}
use Rattle.rules.specs.Values.{below, nat}
use Rattle.rules.specs.Names.{Entry}
use Rattle.rules.specs.Judging.{value_at, worth, items}
use Rattle.rules.proofs.Laws.{require_ok}
use Rattle.encoding.specs.Operands.{field_as, ranged}
use Rattle.encoding.proofs.Ranges.{below_lt}
use Rattle.slots.specs.Slots.{DataIn}
use Rattle.slots.proofs.Frames.{Left, Frame, of_instr, of_label, of_variable, of_comment, of_org, of_bytes, of_words, of_pad, was_read, frame_read}
use Rattle.slots.proofs.Operands.{read_in}
use Rattle.slots.proofs.Items.{ItemsRead, items_read}
use Rattle.image.specs.Encoding.{items_of, items_in, item_of, SmallField}

-- ---- of a frame

pub record DataRead (i : ℕ) (s : List ℕ) : Type 0 where
  pub long : 2 ≤ length s
  pub some : 1 ≤ get_or s 1 0
  pub items : ItemsRead s (get_or s 1 0) 2 (items_in i s)

pub data_in : (i : ℕ) (s : List ℕ) → DataIn i s → DataRead i s
data_in i s h = on (frame_read i s (read_in i s) (was_read (read_frame i s) h.reads))
  where
    on : Frame i s (read_in i s) → DataRead i s
    on (of_instr f) = absurd (omega (arith, f.kind, h.kind))
    on (of_label f) = absurd (omega (arith, f.kind, h.kind))
    on (of_variable f) = absurd (omega (arith, f.kind, h.kind))
    on (of_comment f) = absurd (omega (arith, f.kind, h.kind))
    on (of_org f) = absurd (omega (arith, f.kind, h.kind))
    on (of_bytes f) =
        record { long = f.long; some = f.some; items = rw (ap items_of f.is) (items_read i s (get_or s 1 0) 2 (Left f.es []) f.items) }
    on (of_words f) =
        record { long = f.long; some = f.some; items = rw (ap items_of f.is) (items_read i s (get_or s 1 0) 2 (Left f.es []) f.items) }
    on (of_pad f) = absurd (omega (arith, f.kind, h.no_pad))

-- a number in its range
pub ranged_small : (i j bound : ℕ) (v : ℤ) (r : Result ℕ Refusal) → r ≡ field_as (ranged i j bound v) → SmallField bound r
unfolding ranged
ranged_small i j bound v r e = rw e (on (ranged i j bound v) refl)
  where
    on : (x : Judged ℕ) → ranged i j bound v ≡ x → SmallField bound (field_as x)
    on (ok n) q =
        let w = require_ok (below bound v) (Range (at_place i) j v) (ok (nat v)) n q in
        let z : nat v ≡ n = (let u : ok (nat v) ≡ ok n = w.1 in cc) in
        rw (← z) (below_lt bound v w.0)
    on (no q) w = tt

module _ (names : List Entry) (bound i k : ℕ) where
  -- ---- one item: its value, or 4 or 7

  module _ (j : ℕ) (e : Expr) where
    pub item_value : (v : ℤ) → worth names k e ≡ Ok v → item_of names bound i k j e ≡ ranged i j bound v
    unfolding item_of ◌>>=◌
    item_value v h = rw h

    pub item_unvalued : {why : Unvalued} {r : Refusal} → worth names k e ≡ Err why → value_at i (Err why) ≡ no r
        → item_of names bound i k j e ≡ no r
    unfolding item_of ◌>>=◌
    item_unvalued h q = rw (h, q)

  -- ---- an item and the rest

  module _ (write : ℕ → List ℕ) where
    pub items_cons : (j : ℕ) (e : Expr) (es : List Expr)
        → items names bound write i k j (e ∷ es) ≡ item_of names bound i k j e >>= (λ v. items names bound write i k (suc j) es >>= (λ bs. ok (write v ++ bs)))
    unfolding items item_of ranged ◌>>=◌ require
    items_cons j e es = on (value_at i (worth names k e))
      where
        rest : Judged (List ℕ)
        rest = items names bound write i k (suc j) es

        tested : (v : ℤ) (b : Bool) → require b (Range (at_place i) j v) rest >>= (λ bs. ok (write (nat v) ++ bs))
            ≡ require b (Range (at_place i) j v) (ok (nat v)) >>= (λ n. rest >>= (λ bs. ok (write n ++ bs)))
        tested v true = refl
        tested v false = refl

        on : (o : Judged ℤ) → o >>= (λ v. require (below bound v) (Range (at_place i) j v) rest >>= (λ bs. ok (write (nat v) ++ bs)))
            ≡ (o >>= (λ v. require (below bound v) (Range (at_place i) j v) (ok (nat v)))) >>= (λ n. rest >>= (λ bs. ok (write n ++ bs)))
        on (ok v) = tested v (below bound v)
        on (no r) = refl

    pub items_more : (es : List Expr) (j : ℕ) → j < length es
        → items names bound write i k j (drop j es) ≡ item_of names bound i k j (get_or es j (num (pos 0))) >>= (λ v. items names bound write i k (suc j) (drop (suc j) es) >>= (λ bs. ok (write v ++ bs)))
    items_more es j l = ap (items names bound write i k j) (drop-cons es j (num (pos 0)) l) ∙ items_cons j (get_or es j (num (pos 0))) (drop (suc j) es)

    pub items_end : (es : List Expr) (j : ℕ) → length es ≤ j → items names bound write i k j (drop j es) ≡ ok []
    unfolding items
    items_end es j l = ap (items names bound write i k j) (drop_of_length-le es {i = j} l)
