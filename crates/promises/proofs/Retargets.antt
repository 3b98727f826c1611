-- A change of targets that keeps what they are worth: the program is judged alike.
use mathlib.Core.Path.{◌≡◌, refl}
use mathlib.Core.List.{List, [], ◌∷◌}
use Prim.Native.Nat.{ℕ, suc, ◌+◌}
use Rattle.rules.specs.declared.Kind.{Kind}
use Rattle.rules.specs.Forms.{size_at, operands_at}
use Rattle.rules.specs.Programs.{Placeℕ, Addressℕ, Operand, register, value, inner, Stmt, gone, instr, label, variable, comment, org, bytes, words, Program, as_name, on_last, retarget, pad}
use Rattle.rules.specs.Layout.{position}
use Rattle.rules.specs.Names.{Entry}
use Rattle.rules.specs.Judging.{worth_of, fields, encode}
use Rattle.rules.proofs.Laws.{by_change}
use Rattle.promises.proofs.Alike.{Alike}

-- an operand is worth in p' what it is worth in p, and so is one that f changes, in context k and among these names
abbrev pub Kept : Program → Program → Type 0
Kept p p' = (names : List Entry) (k : ℕ) (x : Operand) → worth_of names p' k x ≡ worth_of names p k x

abbrev pub KeptBy : (names : List Entry) (k : ℕ) → (Operand → Operand) → Program → Program → Type 0
KeptBy names k f p p' = (x : Operand) → worth_of names p' k (f x) ≡ worth_of names p k x

-- positions are all that an operand sees of the program
pub positions_kept : (p p' : Program) → ((i : Placeℕ) → position p' i ≡ position p i) → Kept p p'
positions_kept p p' h names k (register r) = refl
positions_kept p p' h names k (value e) = refl
positions_kept p p' h names k (inner i o) = rw (h i)

module _ (p p' : Program) (kept : Kept p p') where
  fields_kept : (names : List Entry) (i k n j : ℕ) (ds : List Kind) (xs : List Operand) → fields names p' i k n j ds xs ≡ fields names p i k n j ds xs
  unfolding fields
  fields_kept names i k n j [] xs = refl
  fields_kept names i k n j (d ∷ ds) [] = refl
  fields_kept names i k n j (d ∷ ds) (x ∷ xs) = rw (kept names k x, fields_kept names i k n (suc j) ds xs)

  module _ (names : List Entry) (k : ℕ) where
    -- a statement that stays
    pub same_alike : (s : Stmt) → Alike names p p' k s s
    same_alike s =
        record {
          goes_on = λ q. refl;
          enters = λ j. refl;
          called = refl;
          settled = λ i q. refl;
          defined = λ above i j q. refl;
          encoded = encoded s;
          laid = λ q b rest. refl;
        }
      where
        encoded : (s : Stmt) (i : Placeℕ) (q : Addressℕ) → encode names p' i k q s ≡ encode names p i k q s
        encoded gone i q = unfold encode in refl
        encoded (instr f xs c) i q = unfold encode in rw (fields_kept names i k (q + size_at f) 0 (operands_at f) xs)
        encoded (label n) i q = unfold encode in refl
        encoded (variable n e) i q = unfold encode in refl
        encoded (comment x) i q = unfold encode in refl
        encoded (org l) i q = unfold encode in refl
        encoded (bytes es) i q = unfold encode in refl
        encoded (words es) i q = unfold encode in refl
        encoded (pad add m) i q = unfold encode in refl

    module _ (f : Operand → Operand) (changed : KeptBy names k f p p') where
      fields_last : (i n j : ℕ) (ds : List Kind) (xs : List Operand) → fields names p' i k n j ds (on_last f xs) ≡ fields names p i k n j ds xs
      unfolding fields
      fields_last i n j [] xs = refl
      fields_last i n j (d ∷ ds) [] = refl
      fields_last i n j (d ∷ ds) (x ∷ []) = rw (changed x, fields_kept names i k n (suc j) ds [])
      fields_last i n j (d ∷ ds) (x ∷ y ∷ xs) = rw (kept names k x, fields_last i n (suc j) ds (y ∷ xs))

      -- a statement whose target changes
      pub retarget_alike : (s : Stmt) → Alike names p p' k s (retarget f s)
      unfolding encode as_name
      retarget_alike s =
          by_change (Alike names p p' k) (λ x. instr x.form (on_last f x.args) x.carried)
          (λ g xs c. record {
            goes_on = λ q. refl;
            enters = λ j. refl;
            called = refl;
            settled = λ i q. refl;
            defined = λ above i j q. refl;
            encoded = λ i q. rw (fields_last i (q + size_at g) 0 (operands_at g) xs);
            laid = λ q b rest. refl;
          })
          (λ s n. same_alike s) s
