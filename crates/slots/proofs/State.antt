-- Reads and stores of one row: a store in one leaves the others. Assumes nothing.
use mathlib.Core.Path.{◌≡◌, refl, sym, ap, ◌∙◌}
use mathlib.Core.List.{List, [], ◌∷◌, map}
use Prim.Native.Nat.{ℕ, zero, suc, ◌+◌, ◌*◌, ◌/◌, ◌%◌, ◌≤◌, ◌<◌}
use native.Mathlib.Omega.{arith}
use lib.ListN.{length, get_or, set, length-map, get_or-map}
use lib.Seq.{get_or-set_same, get_or-set_other}
use Rattle.laws.proofs.Counts.{get_or_tab, tab_ext, tab_is}
use Rattle.laws.proofs.Stores.{get_in}
use Rattle.slots.specs.Slots.{slots}
use Rattle.slots.specs.State.{low_bytes, starts_in, forms_in, carry_in, owners_in, offsets_in, table_of, Kept, FormPut, CarryPut, Labelled, LabelPut}

-- ---- a form is a byte

pub byte_at : (l : List ℕ) (i : ℕ) → get_or (low_bytes l) i 0 ≡ get_or l i 0 % 256
unfolding low_bytes
byte_at l i = get_or-map (λ x. x % 256) l i 0

pub length_bytes : (l : List ℕ) → length (low_bytes l) ≡ length l
unfolding low_bytes
length_bytes l = length-map l (λ x. x % 256)

pub byte_same : (f : ℕ) → f < 256 → f % 256 ≡ f
byte_same f h = omega arith

map_set : (g : ℕ → ℕ) (l : List ℕ) (i x : ℕ) → map g (set l i x) ≡ set (map g l) i (g x)
map_set g [] i x = refl
map_set g (y ∷ l) zero x = refl
map_set g (y ∷ l) (suc i) x = ap (λ (k : List ℕ). g y ∷ k) (map_set g l i x)

pub bytes_set : (l : List ℕ) (i f : ℕ) → f < 256 → low_bytes (set l i f) ≡ set (low_bytes l) i f
unfolding low_bytes
bytes_set l i f h = map_set (λ x. x % 256) l i f ∙ ap (set (map (λ x. x % 256) l) i) (byte_same f h)

-- ---- rows

-- a row that has numbers is there
pub row_in : (s : List (List ℕ)) (k : ℕ) → length (get_or s k []) ≡ 1025 → k < length s
row_in s k h = get_in s k [] (λ e. omega (arith, ap length e))

pub row_same : (s : List (List ℕ)) (k : ℕ) (r : List ℕ) → length (get_or s k []) ≡ 1025 → get_or (set s k r) k [] ≡ r
row_same s k r h = get_or-set_same s k r [] (row_in s k h)

pub row_other : (s : List (List ℕ)) (k j : ℕ) (r : List ℕ) → (j ≡ k → ⊥) → get_or (set s k r) j [] ≡ get_or s j []
row_other s k j r n = get_or-set_other s k j r [] n

-- ---- what reading found, in the first four rows

pub found_at : (s : List (List ℕ)) (j i : ℕ) → j < 4 → i < 1025 → get_or (starts_in s) (j * 1025 + i) 0 ≡ get_or (get_or s j []) i 0
unfolding starts_in
found_at s j i h l =
    let row : (j * 1025 + i) / 1025 ≡ j = omega arith in
    let place : (j * 1025 + i) % 1025 ≡ i = omega arith in
    get_or_tab (λ k. get_or (get_or s (k / 1025) []) (k % 1025) 0) 4100 (j * 1025 + i) 0 (omega arith) ∙ rw (row, place)

pub start_at : (s : List (List ℕ)) (i : ℕ) → i < 1025 → get_or (starts_in s) i 0 ≡ get_or (get_or s 0 []) i 0
start_at s i l = let z : 0 * 1025 + i ≡ i = omega arith in ap (λ (k : ℕ). get_or (starts_in s) k 0) (sym z) ∙ found_at s 0 i (omega arith) l

-- a store in another row leaves it
found_same : (s : List (List ℕ)) (k : ℕ) (r : List ℕ) → 4 ≤ k → starts_in (set s k r) ≡ starts_in s
unfolding starts_in
found_same s k r h =
    tab_ext (λ n. get_or (get_or (set s k r) (n / 1025) []) (n % 1025) 0) (λ n. get_or (get_or s (n / 1025) []) (n % 1025) 0) 4100
    (λ n l. ap (λ (z : List ℕ). get_or z (n % 1025) 0) (row_other s k (n / 1025) r (λ e. omega arith)))

-- the state has what was read
pub found_is : (s : List (List ℕ)) (starts : List ℕ) → length starts ≡ 4100 → ((j i : ℕ) → j < 4 → i < 1025 → get_or (get_or s j []) i 0 ≡ get_or starts (j * 1025 + i) 0)
    → starts_in s ≡ starts
unfolding starts_in
found_is s starts size each =
    sym
    (tab_is (λ k. get_or (get_or s (k / 1025) []) (k % 1025) 0) 4100 starts 0 size
    (λ k l.
    (let e : k / 1025 * 1025 + k % 1025 ≡ k = omega arith in
    ap (λ (n : ℕ). get_or starts n 0) (sym e) ∙ sym (each (k / 1025) (k % 1025) (omega arith) (omega arith)))))

-- what a store of a form leaves
pub form_put : (s : List (List ℕ)) (i f : ℕ) → f < 256 → length (forms_in s) ≡ 1025 → FormPut s (set s 4 (set (get_or s 4 []) i f)) i f
form_put s i f b h =
    let r : List ℕ = set (get_or s 4 []) i f in
    record {
      forms = ap low_bytes (row_same s 4 r (sym (length_bytes (get_or s 4 [])) ∙ h)) ∙ bytes_set (get_or s 4 []) i f b;
      carry = row_other s 4 5 r (λ e. omega arith);
      kept = record { starts = found_same s 4 r (omega arith); owners = row_other s 4 6 r (λ e. omega arith); offsets = row_other s 4 7 r (λ e. omega arith) };
    }

pub carry_put : (s : List (List ℕ)) (i c : ℕ) → length (carry_in s) ≡ 1025 → CarryPut s (set s 5 (set (get_or s 5 []) i c)) i c
carry_put s i c h =
    let r : List ℕ = set (get_or s 5 []) i c in
    record {
      carry = row_same s 5 r h;
      forms = ap low_bytes (row_other s 5 4 r (λ e. omega arith));
      kept = record { starts = found_same s 5 r (omega arith); owners = row_other s 5 6 r (λ e. omega arith); offsets = row_other s 5 7 r (λ e. omega arith) };
    }

-- the slots of a state whose other rows are kept
pub table_kept : (frames : List ℕ) (old new : List (List ℕ)) (count : ℕ) → Kept old new
    → table_of frames new count ≡ slots frames (starts_in old) count (forms_in new) (carry_in new) (owners_in old) (offsets_in old)
table_kept frames old new count k =
    ap (λ (l : List ℕ). slots frames l count (forms_in new) (carry_in new) (owners_in new) (offsets_in new)) k.starts
    ∙ ap (λ (l : List ℕ). slots frames (starts_in old) count (forms_in new) (carry_in new) l (offsets_in new)) k.owners
    ∙ ap (λ (l : List ℕ). slots frames (starts_in old) count (forms_in new) (carry_in new) (owners_in old) l) k.offsets

pub kept_same : (s : List (List ℕ)) → Kept s s
kept_same s = record { starts = refl; owners = refl; offsets = refl }

pub kept_more : (a b c : List (List ℕ)) → Kept a b → Kept b c → Kept a c
kept_more a b c p q = record { starts = q.starts ∙ p.starts; owners = q.owners ∙ p.owners; offsets = q.offsets ∙ p.offsets }

-- ---- what a store of an inner label leaves
pub label_put : (s : List (List ℕ)) (i owner offset : ℕ) → length (owners_in s) ≡ 1025 → length (offsets_in s) ≡ 1025
    → LabelPut s (set (set s 6 (set (get_or s 6 []) i owner)) 7 (set (get_or (set s 6 (set (get_or s 6 []) i owner)) 7 []) i offset)) i owner offset
label_put s i owner offset h k =
    let a : List ℕ = set (get_or s 6 []) i owner in
    let s' : List (List ℕ) = set s 6 a in
    let b : List ℕ = set (get_or s' 7 []) i offset in
    let there : get_or s' 7 [] ≡ get_or s 7 [] = row_other s 6 7 a (λ e. omega arith) in
    record {
      owners = row_other s' 7 6 b (λ e. omega arith) ∙ row_same s 6 a h;
      offsets = row_same s' 7 b (ap length there ∙ k) ∙ ap (λ (l : List ℕ). set l i offset) there;
      labelled = record {
        starts = found_same s' 7 b (omega arith) ∙ found_same s 6 a (omega arith);
        forms = ap low_bytes (row_other s' 7 4 b (λ e. omega arith) ∙ row_other s 6 4 a (λ e. omega arith));
        carry = row_other s' 7 5 b (λ e. omega arith) ∙ row_other s 6 5 a (λ e. omega arith);
      };
    }

pub labelled_same : (s : List (List ℕ)) → Labelled s s
labelled_same s = record { starts = refl; forms = refl; carry = refl }

pub labelled_more : (a b c : List (List ℕ)) → Labelled a b → Labelled b c → Labelled a c
labelled_more a b c p q = record { starts = q.starts ∙ p.starts; forms = q.forms ∙ p.forms; carry = q.carry ∙ p.carry }

-- the slots of a state that is labelled
pub table_labelled : (frames : List ℕ) (old new : List (List ℕ)) (count : ℕ) → Labelled old new
    → table_of frames new count ≡ slots frames (starts_in old) count (forms_in old) (carry_in old) (owners_in new) (offsets_in new)
table_labelled frames old new count k =
    ap (λ (l : List ℕ). slots frames l count (forms_in new) (carry_in new) (owners_in new) (offsets_in new)) k.starts
    ∙ ap (λ (l : List ℕ). slots frames (starts_in old) count l (carry_in new) (owners_in new) (offsets_in new)) k.forms
    ∙ ap (λ (l : List ℕ). slots frames (starts_in old) count (forms_in old) l (owners_in new) (offsets_in new)) k.carry
