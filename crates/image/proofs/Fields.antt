-- The fields of an instruction, one after the other: what is left of its encoding from argument j on, the fields before being in hand.
use mathlib.Core.Path.{◌≡◌, refl, sym, ap, ◌∙◌}
use mathlib.Core.List.{List, [], ◌∷◌, ◌++◌, append-nil, map}
use mathlib.Core.Logic.{⊎_elim}
use Prim.Native.Nat.{ℕ, suc, ◌+◌, ◌≤◌, ◌<◌}
use native.Mathlib.Omega.{arith}
use lib.ListN.{length, get_or, set, take, drop, drop_of_length-le, length-take}
use lib.Seq.{drop-cons, take-suc-set, append_snoc, get_or-take}
use lib.IntN.{ℤ}
use Rattle.rules.specs.declared.Unvalued.{Unvalued}
use Rattle.std.specs.Prelude.{Err, Ok, Result}
use Rattle.laws.specs.Bits.{byte_of}
use Rattle.laws.proofs.Tests.{clash, lt_or_le}
use Rattle.laws.proofs.Stores.{get_out}
use Rattle.rules.specs.declared.Kind.{Kind}
use Rattle.rules.specs.declared.Kind.TheVariants.{Reg}
use Rattle.rules.specs.declared.Refusal.{Refusal}
use Rattle.rules.specs.Answers.{Judged, ok, no, ◌>>=◌}
use Rattle.rules.specs.Forms.{operands_at, size_at}
use Rattle.rules.specs.Patterns.{rows_of, bytes_at}
use Rattle.rules.specs.Instructions.{code_of}
use Rattle.rules.specs.Programs.{Operand, register, Stmt, instr, args_of, Program}
use Rattle.rules.specs.Names.{Entry}
use Rattle.rules.specs.Encoding.{field}
use Rattle.rules.specs.Judging.{value_at, worth_of, fields, encode}
use Rattle.encoding.specs.Operands.{field_as}
use Rattle.encoding.specs.Encode.{code_at}
use Rattle.image.specs.Encoding.{field_of, code_from}
use Rattle.image.proofs.Answers.{bind_ok, bind_no, bind_ext}

-- what a field of the code tells
pub field_ok : (x : Judged ℕ) {o : Result ℕ Refusal} {v : ℕ} → o ≡ field_as x → o ≡ Ok v → x ≡ ok v
field_ok (ok n) e q = cc
field_ok (no r) e q = clash (cc)

pub field_no : (x : Judged ℕ) {o : Result ℕ Refusal} {r : Refusal} → o ≡ field_as x → o ≡ Err r → x ≡ no r
field_no (ok n) e q = clash (cc)
field_no (no r) e q = cc

module _ (names : List Entry) (p : Program) (i k n : ℕ) where
  -- ---- one field: its value, or 4 or 7

  module _ (j : ℕ) (d : Kind) (x : Operand) where
    pub field_value : (v : ℤ) → worth_of names p k x ≡ Ok v → field_of names p i k n j d x ≡ field i j n d v
    unfolding field_of ◌>>=◌
    field_value v e = rw e

    pub field_unvalued : {why : Unvalued} {r : Refusal} → worth_of names p k x ≡ Err why → value_at i (Err why) ≡ no r
        → field_of names p i k n j d x ≡ no r
    unfolding field_of ◌>>=◌
    field_unvalued e q = rw (e, q)

  -- ---- a field and the rest

  abbrev rest : ℕ → List Kind → List Operand → Judged (List ℕ)
  rest j ds xs = fields names p i k n j ds xs

  fields_cons : (j : ℕ) (d : Kind) (ds : List Kind) (x : Operand) (xs : List Operand) (g : List ℕ → Judged (List ℕ))
      → rest j (d ∷ ds) (x ∷ xs) >>= g ≡ field_of names p i k n j d x >>= (λ b. rest (suc j) ds xs >>= (λ bs. g (b ∷ bs)))
  unfolding fields field_of ◌>>=◌
  fields_cons j d ds x xs g = on (value_at i (worth_of names p k x))
    where
      behind : (b : ℕ) (r : Judged (List ℕ)) → (r >>= (λ bs. ok (b ∷ bs))) >>= g ≡ r >>= (λ bs. g (b ∷ bs))
      behind b (ok bs) = refl
      behind b (no r) = refl

      ranged : (f : Judged ℕ) → (f >>= (λ b. rest (suc j) ds xs >>= (λ bs. ok (b ∷ bs)))) >>= g ≡ f >>= (λ b. rest (suc j) ds xs >>= (λ bs. g (b ∷ bs)))
      ranged (ok b) = behind b (rest (suc j) ds xs)
      ranged (no r) = refl

      on : (o : Judged ℤ) → (o >>= (λ v. field i j n d v >>= (λ b. rest (suc j) ds xs >>= (λ bs. ok (b ∷ bs))))) >>= g
          ≡ (o >>= (λ v. field i j n d v)) >>= (λ b. rest (suc j) ds xs >>= (λ bs. g (b ∷ bs)))
      on (ok v) = ranged (field i j n d v)
      on (no r) = refl

  -- ---- the encoding from argument j on

  unfoldable pub left_of : (f : ℕ) (xs : List Operand) (j : ℕ) (got : List ℕ) → Judged (List ℕ)
  left_of f xs j got = rest j (drop j (operands_at f)) (drop j xs) >>= (λ vs. ok (bytes_at f (take j got ++ vs)))

  pub left_start : (f c q : ℕ) (xs : List Operand) (s : Stmt) (got : List ℕ) → s ≡ instr f xs c → n ≡ q + size_at f → encode names p i k q s ≡ left_of f (args_of s) 0 got
  unfolding left_of encode
  left_start f c q xs s got e a = rw (e, a)

  module _ (f : ℕ) (xs : List Operand) (same : length xs ≡ length (operands_at f)) where
    abbrev kinds : List Kind
    kinds = operands_at f

    pub left_more : (j : ℕ) (got : List ℕ) → j < length kinds
        → left_of f xs j got ≡ field_of names p i k n j (get_or kinds j Reg) (get_or xs j (register 0)) >>= (λ b. rest (suc j) (drop (suc j) kinds) (drop (suc j) xs) >>= (λ bs. ok (bytes_at f (take j got ++ (b ∷ bs)))))
    unfolding left_of
    left_more j got l =
        ap (λ ds. rest j ds (drop j xs) >>= (λ vs. ok (bytes_at f (take j got ++ vs)))) (drop-cons kinds j Reg l)
        ∙ ap (λ ys. rest j (get_or kinds j Reg ∷ drop (suc j) kinds) ys >>= (λ vs. ok (bytes_at f (take j got ++ vs)))) (drop-cons xs j (register 0) (omega arith))
        ∙ fields_cons j (get_or kinds j Reg) (drop (suc j) kinds) (get_or xs j (register 0)) (drop (suc j) xs) (λ vs. ok (bytes_at f (take j got ++ vs)))

    pub left_ok : (j : ℕ) (got : List ℕ) (v : ℕ) → j < length kinds → j < length got
        → field_of names p i k n j (get_or kinds j Reg) (get_or xs j (register 0)) ≡ ok v → left_of f xs j got ≡ left_of f xs (suc j) (set got j v)
    unfolding left_of
    left_ok j got v l m e =
        left_more j got l
        ∙ bind_ok (field_of names p i k n j (get_or kinds j Reg) (get_or xs j (register 0))) _ v e
        ∙ bind_ext (rest (suc j) (drop (suc j) kinds) (drop (suc j) xs)) _ _
        (λ bs. ap (λ ws. ok (bytes_at f ws)) (sym (append_snoc (take j got) v bs) ∙ ap (λ ws. ws ++ bs) (sym (take-suc-set got j v m))))

    pub left_no : (j : ℕ) (got : List ℕ) (r : Refusal) → j < length kinds
        → field_of names p i k n j (get_or kinds j Reg) (get_or xs j (register 0)) ≡ no r → left_of f xs j got ≡ no r
    left_no j got r l e = left_more j got l ∙ bind_no (field_of names p i k n j (get_or kinds j Reg) (get_or xs j (register 0))) _ r e

    -- all are in hand, zeros behind them
    bytes_same : (vs ws : List ℕ) → ((m : ℕ) → get_or vs m 0 ≡ get_or ws m 0) → bytes_at f vs ≡ bytes_at f ws
    unfolding bytes_at
    bytes_same vs ws h = rw (h 0, h 1, h 2)

    pub left_end : (j : ℕ) (got : List ℕ) → length kinds ≤ j → j ≤ length got → ((m : ℕ) → j ≤ m → get_or got m 0 ≡ 0) → left_of f xs j got ≡ ok (bytes_at f got)
    unfolding left_of fields ◌>>=◌
    left_end j got l b zeros =
        ap (λ ds. rest j ds (drop j xs) >>= (λ vs. ok (bytes_at f (take j got ++ vs)))) (drop_of_length-le kinds l)
        ∙ ap (λ ws. ok (bytes_at f ws)) (append-nil (take j got))
        ∙ ap ok (bytes_same (take j got) got (λ m. ⊎_elim (λ lt. get_or-take j got m 0 lt) (λ le. get_out (take j got) m 0 (omega (arith, length-take j got)) ∙ sym (zeros m le)) (lt_or_le m j)))

-- ---- the bytes of three fields, as the code holds them

code_from_lem : (rows : List (List ℕ)) → code_from (map (λ row. byte_of row) rows) ≡ code_of rows
code_from_lem [] = refl
code_from_lem (x ∷ []) = refl
code_from_lem (x ∷ y ∷ []) = refl
code_from_lem (x ∷ y ∷ z ∷ rows) = refl

pub code_is : (f : ℕ) (got : List ℕ) → code_from (bytes_at f got) ≡ code_at f (get_or got 0 0) (get_or got 1 0) (get_or got 2 0)
unfolding bytes_at code_at
code_is f got = code_from_lem (rows_of f (get_or got 0 0) (get_or got 1 0) (get_or got 2 0))
