-- One table in rows of 1,025 numbers by place, and the slots that it holds.
use Rattle.std.specs.Prelude.{◌≡◌, List, [], map, ℕ, ◌/◌, ◌%◌, get_or, set}
use Rattle.laws.specs.Counts.{tab}
use Rattle.rules.specs.Programs.{Placeℕ}
use Rattle.slots.specs.Slots.{Slots, slots}

-- what reading found, which no rewrite changes: the first four rows, as the stripes of the table that the listing was read to
unfoldable pub starts_in : (state : List (List ℕ)) → List ℕ
starts_in state = tab (λ k. get_or (get_or state (k / 1025) []) (k % 1025) 0) 4100

-- a form is a byte
unfoldable pub low_bytes : List ℕ → List ℕ
low_bytes l = map (λ x. x % 256) l

abbrev pub forms_in : (state : List (List ℕ)) → List ℕ
forms_in state = low_bytes (get_or state 4 [])

abbrev pub carry_in : (state : List (List ℕ)) → List ℕ
carry_in state = get_or state 5 []

abbrev pub owners_in : (state : List (List ℕ)) → List ℕ
owners_in state = get_or state 6 []

abbrev pub offsets_in : (state : List (List ℕ)) → List ℕ
offsets_in state = get_or state 7 []

-- the slots that frames and state hold
abbrev pub table_of : (frames : List ℕ) (state : List (List ℕ)) (count : ℕ) → Slots
table_of frames state count = slots frames (starts_in state) count (forms_in state) (carry_in state) (owners_in state) (offsets_in state)

-- the rows that no rewrite changes
pub record Kept (old new : List (List ℕ)) : Type 0 where
  pub starts : starts_in new ≡ starts_in old
  pub owners : owners_in new ≡ owners_in old
  pub offsets : offsets_in new ≡ offsets_in old

-- a form is stored at place i, and nothing else
pub record FormPut (old new : List (List ℕ)) (i : Placeℕ) (f : ℕ) : Type 0 where
  pub forms : forms_in new ≡ set (forms_in old) i f
  pub carry : carry_in new ≡ carry_in old
  pub kept : Kept old new

-- the place that is carried is stored at place i, and nothing else
pub record CarryPut (old new : List (List ℕ)) (i : Placeℕ) (c : ℕ) : Type 0 where
  pub carry : carry_in new ≡ set (carry_in old) i c
  pub forms : forms_in new ≡ forms_in old
  pub kept : Kept old new

-- the rows that anchoring leaves
pub record Labelled (old new : List (List ℕ)) : Type 0 where
  pub starts : starts_in new ≡ starts_in old
  pub forms : forms_in new ≡ forms_in old
  pub carry : carry_in new ≡ carry_in old

-- the inner label of the target written at place i is stored, and nothing else
pub record LabelPut (old new : List (List ℕ)) (i : Placeℕ) (owner offset : ℕ) : Type 0 where
  pub owners : owners_in new ≡ set (owners_in old) i owner
  pub offsets : offsets_in new ≡ set (offsets_in old) i offset
  pub labelled : Labelled old new
