-- "Which statements can end a walk and for which named reason", so that it can be seen how far the promise of the same walk goes in a program.
use Rattle.rules.specs.declared.Unvalued.TheVariants.{Unknown, Nothing}
use Rattle.rules.specs.declared.Unvalued.{Unvalued}
use Rattle.std.specs.Prelude.{◌≡◌, List, [], ◌∷◌, map, cond, ℕ, eqb, length, pos, negsuc, ℤ, Result, Err, Ok}
use Rattle.std.proofs.Math.Option.{Option, none, some}
use Rattle.laws.specs.Lists.{each}
use Rattle.laws.specs.Counts.{tab}
use Rattle.rules.specs.Programs.{Placeℕ, Operand, register, value, inner, Stmt, gone, instr, label, variable, comment, org, bytes, words, pad, Program, at, last_of}
use Rattle.rules.specs.Layout.{Origin}
use Rattle.rules.specs.Names.{context_at}
use Rattle.rules.specs.Judging.{worth, worth_of, names_of}
use Rattle.rules.specs.Rewriting.{moving_of, is_change_jump}
use Rattle.paths.specs.Walk.{Class, jumps, calls, returns, tests, plain, class, Ending, going, off_the_end, in_data, inside, leaves, computed, clouded, unreturned, no_address, code_at, label_names, is_followed, is_clouded}

-- data, which a walk may come to; a change jump; a jump right behind a Not1 that computes with a label; a target that is computed with a label; one that
-- falls into the middle of a statement; one that is no address; a return, which may find no address that a call has left
pub data Reason : Type 0 where
  is_data : Reason
  leaves_memory : Reason
  behind_cloud : Reason
  computes_label : Reason
  into_middle : Reason
  is_no_address : Reason
  is_return : Reason

-- ---- a target

abbrev pub landing : Option Origin → List Reason
landing none = []
landing (some g) = cond (eqb g.offset 0) [] (into_middle ∷ [])

abbrev pub value_reasons : Program → Result ℤ Unvalued → List Reason
value_reasons p (Ok (pos a)) = landing (code_at p a)
value_reasons p (Ok (negsuc a)) = is_no_address ∷ []
value_reasons p (Err Unknown) = is_no_address ∷ []
value_reasons p (Err Nothing) = is_no_address ∷ []

abbrev pub target_reasons : Program → (k : ℕ) → Operand → List Reason
target_reasons p k (register r) = value_reasons p (worth_of (names_of p) p k (register r))
target_reasons p k (value e) = cond (is_followed (label_names p) (moving_of p) k e) (value_reasons p (worth (names_of p) k e)) (computes_label ∷ [])
target_reasons p k (inner i o) = value_reasons p (worth_of (names_of p) p k (inner i o))

abbrev pub class_reasons : Class → (target : List Reason) → List Reason
class_reasons jumps t = t
class_reasons calls t = t
class_reasons returns t = is_return ∷ []
class_reasons tests t = t
class_reasons plain t = []

-- ---- a statement

abbrev pub instr_reasons : Program → (i : Placeℕ) (f : ℕ) → List Operand → List Reason
instr_reasons p i f xs =
    cond (is_clouded p i) (behind_cloud ∷ [])
    (cond (is_change_jump (names_of p) p i) (leaves_memory ∷ []) (class_reasons (class f) (target_reasons p (context_at p i) (last_of xs))))

abbrev pub reasons_for : Program → (i : Placeℕ) → Stmt → List Reason
reasons_for p i gone = []
reasons_for p i (instr f xs c) = instr_reasons p i f xs
reasons_for p i (label n) = []
reasons_for p i (variable n e) = []
reasons_for p i (comment x) = []
reasons_for p i (org l) = []
reasons_for p i (bytes es) = is_data ∷ []
reasons_for p i (words es) = is_data ∷ []
reasons_for p i (pad add m) = []

-- at most one for each statement
abbrev pub reasons_at : Program → (i : Placeℕ) → List Reason
reasons_at p i = reasons_for p i (at p i)

pub record Listed : Type 0 where
  pub place : Placeℕ
  pub reason : Reason

-- by place
unfoldable pub report : Program → List Listed
report p = each (λ i. map (λ r. record { place = i; reason = r }) (reasons_at p i)) (tab (λ i. i) (length p))

-- ---- what is shown

-- the report has this reason at place i
abbrev pub Lists : Program → (i : Placeℕ) → Reason → Type 0
Lists p i r = reasons_at p i ≡ r ∷ []

-- an ending is listed: under its statement, or, where it has none, under the one whose target or return led there
abbrev pub Named : Program → Ending → Type 0
Named p (going i) = Unit
Named p off_the_end = Unit
Named p (in_data i) = Lists p i is_data
Named p (inside i n) = (j : Placeℕ) × Lists p j into_middle
Named p (leaves i xs) = Lists p i leaves_memory
Named p (computed k e) = (j : Placeℕ) × Lists p j computes_label
Named p (clouded i) = Lists p i behind_cloud
Named p unreturned = (j : Placeℕ) × Lists p j is_return
Named p no_address = (j : Placeℕ) × Lists p j is_no_address

-- "a program of which it lists nothing walks to its end, out of code or going on for ever"
abbrev pub Open : Ending → Type 0
Open (going i) = Unit
Open off_the_end = Unit
Open (in_data i) = ⊥
Open (inside i n) = ⊥
Open (leaves i xs) = ⊥
Open (computed k e) = ⊥
Open (clouded i) = ⊥
Open unreturned = ⊥
Open no_address = ⊥
