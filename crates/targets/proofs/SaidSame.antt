-- "For every transfer of demand 3 it says 'same'."
use mathlib.Core.Path.{◌≡◌, refl, sym, ap, ap₂, ◌∙◌}
use mathlib.Core.List.{List, [], ◌∷◌}
use mathlib.Core.Option.{Option, some}
use mathlib.Core.Bool.{Bool, true, false, cond}
use mathlib.Core.Logic.{⊎_elim}
use Prim.Native.Nat.{ℕ, ◌≤◌, ◌<◌}
use native.Mathlib.Omega.{arith}
use lib.Dec.{eqb, ltb}
use lib.ListN.{length}
use borrow.Author.Tests.{ltb-true, eq-eqb}
use Rattle.laws.specs.Lists.{total, every}
use Rattle.laws.proofs.Tests.{and_true, and_both, eq_or_not, lt_or_le}
use Rattle.laws.proofs.Lists.{total_some, total_one, total_none, total_two_any, every_any}
use Rattle.rules.specs.declared.Settings.{Settings}
use Rattle.rules.specs.Programs.{Placeℕ, Operand, register, Stmt, gone, instr, Program, at, args_of, last_of}
use Rattle.rules.specs.Layout.{size_in, Origin, origin}
use Rattle.rules.specs.Names.{context_at}
use Rattle.rules.specs.Judging.{worth_of, names_of}
use Rattle.rules.specs.Rewriting.{of_inner, every_inner_label, anchor, instr_bytes, optimized}
use Rattle.rules.proofs.Laws.{by_instr, other}
use Rattle.promises.specs.Demand2.{Input}
use Rattle.promises.specs.Demand3.{Aims, carries}
use Rattle.promises.proofs.Listings.{WellMade, read_made}
use Rattle.promises.proofs.Passes.{judge_passes}
use Rattle.promises.proofs.Positions.{origin_at}
use Rattle.promises.proofs.Chains.{chain_keeps}
use Rattle.promises.proofs.Acceptable.{acceptable_parts, end_acceptable}
use Rattle.promises.proofs.ImageOfOutput.{end_assembles}
use Rattle.promises.proofs.Carried.{Carrier, carrier, of_place, of_place_own, of_place_step, of_place_made}
use Rattle.promises.proofs.TargetKept.{ends_once}
use Rattle.targets.specs.Targets.{aim_at, same_byte}
use Rattle.targets.specs.Promise.{SaidSame}

-- a test of every operand holds of the last
every_last : (f : Operand → Bool) (xs : List Operand) → f (register 0) ≡ true → every f xs ≡ true → f (last_of xs) ≡ true
unfolding every
every_last f [] z h = z
every_last f (x ∷ []) z h = (and_true (f x) true h).0
every_last f (x ∷ y ∷ xs) z h = every_last f (y ∷ xs) z (and_true (f x) (every f (y ∷ xs)) h).1

same_is : (g h : Option Origin) (a : Origin) → g ≡ some a → h ≡ some a → same_byte g h ≡ true
same_is g h a e f = ap₂ same_byte e f ∙ and_both _ _ (eq-eqb a.place a.place refl) (eq-eqb a.offset a.offset refl)

-- in what is read, and so in what is anchored, each carries its own
once_made : (p : Program) → WellMade p → (c : Placeℕ) → total (of_place c) (anchor p) ≤ 1
once_made p w c =
    ⊎_elim (λ l. omega (arith, total_one (of_place c) (anchor p) c gone l (λ j m n. of_place_made p w c j n), at_most (at (anchor p) c)))
    (λ l. omega (arith, total_none (of_place c) (anchor p) gone (λ j m. of_place_made p w c j (λ e. omega arith)))) (lt_or_le c (length (anchor p)))
  where
    at_most : (x : Stmt) → of_place c x ≤ 1
    at_most = by_instr (λ x. of_place c x ≤ 1) (λ f xs d. one (eqb c d)) (λ x n. omega (arith, other {X = ℕ} 0 (λ y. cond (eqb c y.carried) 1 0) x n))
      where
        one : (b : Bool) → cond b 1 0 ≤ 1
        one true = omega arith
        one false = omega arith

module _ (asked : Settings) (p : Program) (input : Input p) (i s o : ℕ) (a : Aims p i s o) where
  w : WellMade p
  w = read_made input.text p input.reads

  abbrev end : Program
  end = (optimized asked p).program

  -- the transfer of the end form that carries it
  carried : (j : ℕ) × (Carrier i s o (at end j))
  carried = let j = total_some (carries i s o) end gone (omega (arith, ends_once asked p w i s o a)) in (j.0, carrier i s o (at end j.0) j.2)

  -- in the input
  before_is : (aim_at p i).byte ≡ some (record { place = s; offset = o })
  unfolding aim_at
  before_is =
      ap (λ (x : Operand). origin p (worth_of (names_of p) p (context_at p i) x)) (ap (λ (x : Stmt). last_of (args_of x)) a.stands ∙ a.target_is) ∙ a.falls_on

  -- its owner has the byte
  has_byte : o < size_in end s
  unfolding every_inner_label
  has_byte =
      let good = (acceptable_parts end (end_acceptable asked p w input.image input.assembles)).0 in
      let test : Operand → Bool = of_inner (λ owner d. ltb d (size_in end owner)) in
      let k = carried.1 in
      let args_pass : every test k.args ≡ true =
      ap (λ (x : Stmt). every test (args_of x)) (sym k.is) ∙ every_any (λ x. every test (args_of x)) end carried.0 gone (unfold every in refl) good in
      ltb-true o (size_in end s) (ap test (sym k.target_is) ∙ every_last test k.args refl args_pass)

  -- in the end form
  after_is : (aim_at end carried.0).byte ≡ some (record { place = s; offset = o })
  unfolding aim_at
  after_is =
      let k = carried.1 in
      let e = end_assembles asked p input in
      ap (λ (x : Operand). origin end (worth_of (names_of end) end (context_at end carried.0) x)) (ap (λ (x : Stmt). last_of (args_of x)) k.is ∙ k.target_is)
      ∙ origin_at end s o (judge_passes end e.0 e.1).laid has_byte

  -- one instruction at most carries anything of place i
  alone : total (of_place i) end ≤ 1
  unfolding optimized
  alone = chain_keeps asked (λ r. total (of_place i) r ≤ 1) (λ r t st h. omega (arith, of_place_step i r t st)) (total instr_bytes p) (anchor p) (once_made p w i)

  only_one : (j : Placeℕ) (f : ℕ) (xs : List Operand) → at end j ≡ instr f xs i → j ≡ carried.0
  only_one j f xs e = ⊎_elim (λ z. z) (λ n. absurd (two n)) (eq_or_not j carried.0)
    where
      two : (j ≡ carried.0 → ⊥) → ⊥
      two n =
          let x : of_place i (at end j) ≡ 1 = ap (of_place i) e ∙ of_place_own i f xs in
          let y : of_place i (at end carried.0) ≡ 1 = ap (of_place i) carried.1.is ∙ of_place_own i carried.1.form carried.1.args in
          omega (arith, alone, x, y, total_two_any (of_place i) end j carried.0 gone refl n)

  -- said_same: each such target of an accepted listing
  pub said_same : SaidSame asked p i s o
  said_same =
      record {
        place = carried.0;
        form = carried.1.form;
        args = carried.1.args;
        stands = carried.1.is;
        transfers = carried.1.transfers;
        only = only_one;
        before = before_is;
        after = after_is;
        same = same_is (aim_at p i).byte (aim_at end carried.0).byte (record { place = s; offset = o }) before_is after_is;
      }
