-- Where a line is not marked, the output names the same offset of the statement that stems from the same one, for labels too.
use mathlib.Core.Path.{◌≡◌, refl, sym, ap, ap₂, ◌∙◌, subst}
use mathlib.Core.List.{List, [], ◌∷◌, ◌++◌, map}
use mathlib.Core.Option.{Option, none, some}
use mathlib.Core.Bool.{Bool, true, false, cond}
use Prim.Native.Nat.{ℕ, zero, suc, ◌+◌, ◌<◌}
use native.Mathlib.Omega.{arith}
use lib.Dec.{eqb}
use lib.ListN.{length, get_or}
use lib.IntN.{pos}
use borrow.Author.Tests.{eqb-true}
use Rattle.rules.specs.declared.Unvalued.TheVariants.{Unknown, Nothing}
use Rattle.rules.specs.declared.Unvalued.{Unvalued}
use Rattle.std.specs.Prelude.{ℤ, Result, Err, Ok}
use Rattle.laws.specs.Lists.{each}
use Rattle.laws.specs.Counts.{tab}
use Rattle.laws.proofs.Tests.{clash, and_true, false_true}
use Rattle.rules.specs.declared.Settings.{Settings}
use Rattle.rules.specs.Answers.{Judged, ok, ◌>>=◌}
use Rattle.rules.specs.Expressions.{eval_tree}
use Rattle.rules.specs.Forms.{is_transfer}
use Rattle.rules.specs.Programs.{Placeℕ, Addressℕ, Operand, register, value, inner, Stmt, instr, Program, at, Instruction, on_instr, args_of, last_of, on_last, retarget, is_gone}
use Rattle.rules.specs.Programs.{Naming, unnamed, labels, binds, naming_of}
use Rattle.rules.specs.Layout.{after, position, Origin, origin, size_in}
use Rattle.rules.specs.Names.{enter_by, enter, context_from, context_at, placed_from, placed, Entry}
use Rattle.rules.specs.Judging.{value_at, worth, worth_of, entry, define_in, define, define_all, names_of, positions_fit}
use Rattle.rules.specs.Rewriting.{optimized}
use Rattle.rules.specs.Output.{plain_target, write_back, compact, spoken, shown}
use Rattle.rules.specs.Run.{rewritten}
use Rattle.rules.proofs.Laws.{then_ok, is_instr, by_instr, by_change, other}
use Rattle.promises.specs.Demand2.{Input, output_program}
use Rattle.promises.proofs.Compacts.{View, is_gone_lem, is_live, view, compact_live}
use Rattle.promises.proofs.Looks.{last_of_on_last}
use Rattle.promises.proofs.Passes.{judge_passes, names_are}
use Rattle.promises.proofs.Positions.{room_retarget, size_same, origin_of, origin_at}
use Rattle.promises.proofs.WritesBack.{at_write_back, write_back_room, write_back_position}
use Rattle.promises.proofs.Shows.{by_spoken, at_shown, shown_room, shown_position}
use Rattle.promises.proofs.Ranks.{rank, at_rank, position_rank, stems_rank, byte_live}
use Rattle.promises.proofs.ImageOfOutput.{end_assembles, image_of_output}
use Rattle.targets.specs.Targets.{aim_at, same_byte, Target, target_at, is_same, targets_in, targets}
use Rattle.targets.specs.InOutput.{NamedInOutput}

-- ---- names: those of the end form are those of the output
define_moved : (above : List Entry) (i j : Placeℕ) (k : ℕ) (q : Addressℕ) (m : Naming) (more : List Entry) → define_in above i k q m ≡ ok more → define_in above j k q m ≡ ok more
unfolding ◌>>=◌
define_moved above i j k q unnamed more e = e
define_moved above i j k q (labels n) more e = e
define_moved above i j k q (binds n d) more e = on (worth above k d) e
  where
    on : (v : Result ℤ Unvalued) → value_at i v >>= (λ z. ok (entry k n z ∷ above)) ≡ ok more → value_at j v >>= (λ z. ok (entry k n z ∷ above)) ≡ ok more
    on (Ok z) h = h
    on (Err Unknown) h = clash (cc)
    on (Err Nothing) h = clash (cc)

module _ (asked : Settings) (g : Operand → Operand) where
  abbrev out : Stmt → Stmt
  out s = spoken asked (retarget g s)

  abbrev out_all : Program → Program
  out_all l = map (spoken asked) (map (λ s. retarget g s) l)

  same_naming : (s : Stmt) → naming_of (out s) ≡ naming_of s
  same_naming s =
      by_spoken (λ s t. naming_of t ≡ naming_of s) asked (λ s. refl) (λ x. refl) (retarget g s)
      ∙ by_change (λ s t. naming_of t ≡ naming_of s) (λ x. instr x.form (on_last g x.args) x.carried) (λ f xs c. refl) (λ s n. refl) s

  same_after : (q : Addressℕ) (s : Stmt) → after q (out s) ≡ after q s
  same_after q s = by_spoken (λ s t. after q t ≡ after q s) asked (λ s. refl) (λ x. refl) (retarget g s) ∙ (room_retarget g s).goes_on q

  define_out : (above : List Entry) (i j k q : ℕ) (l : Program) (names : List Entry) → define_all above (placed_from i k q l) ≡ ok names
      → define_all above (placed_from j k q (compact (out_all l))) ≡ ok names
  unfolding define_all placed_from compact ◌>>=◌
  define_out above i j k q [] names e = e
  define_out above i j k q (s ∷ l) names e =
      let d = then_ok (define above i (enter k s) q s) (λ more. define_all more (placed_from (suc i) (enter k s) (after q s) l)) names e in
      on (view (out s)) (same_naming s) (same_after q s) d.0 d.1 (λ j. define_out d.0 (suc i) j (enter k s) (after q s) l names d.2)
    where
      on : {t : Stmt} → View t → naming_of t ≡ naming_of s → after q t ≡ after q s → (more : List Entry) → define above i (enter k s) q s ≡ ok more
          → ((j : ℕ) → define_all more (placed_from j (enter k s) (after q s) (compact (out_all l))) ≡ ok names)
          → define_all above (placed_from j k q (compact (t ∷ out_all l))) ≡ ok names
      on is_gone_lem n a more d below =
          let z : ok above ≡ ok more = ap (λ (m : Naming). define_in above i (enter_by k m) q m) n ∙ d in
          let y : above ≡ more = cc in
          ap (λ (m : Naming). define_all above (placed_from j (enter_by k m) q (compact (out_all l)))) n
          ∙ ap (λ (x : ℕ). define_all above (placed_from j (enter k s) x (compact (out_all l)))) a
          ∙ ap (λ (m : List Entry). define_all m (placed_from j (enter k s) (after q s) (compact (out_all l)))) y ∙ below j
      on {t} (is_live v) n a more d below =
          ap (λ (r : Program). define_all above (placed_from j k q r)) (compact_live t (out_all l) v)
          ∙ ap (λ (m : Naming). define_in above j (enter_by k m) q m >>= (λ w. define_all w (placed_from (suc j) (enter_by k m) (after q t) (compact (out_all l))))) n
          ∙ ap (λ (x : ℕ). define above j (enter k s) q s >>= (λ w. define_all w (placed_from (suc j) (enter k s) x (compact (out_all l))))) a
          ∙ ap (λ (x : Judged (List Entry)). x >>= (λ w. define_all w (placed_from (suc j) (enter k s) (after q s) (compact (out_all l)))))
          (define_moved above i j (enter k s) q (naming_of s) more d)
          ∙ below (suc j)

  -- and so are the contexts
  first_context : (k : ℕ) (t : Stmt) (rest : Program) → is_gone t ≡ false → context_from k (compact (t ∷ rest)) 0 ≡ enter k t
  unfolding context_from
  first_context k t rest h = rw (compact_live t rest h)

  context_out : (k : ℕ) (l : Program) (b : Placeℕ) → is_gone (at (out_all l) b) ≡ false → context_from k (compact (out_all l)) (rank (out_all l) b) ≡ context_from k l b
  unfolding context_from compact
  context_out k [] b h = refl
  context_out k (s ∷ l) zero h = first_context k (out s) (out_all l) h ∙ ap (enter_by k) (same_naming s)
  context_out k (s ∷ l) (suc b) h = on (view (out s)) (same_naming s) (context_out (enter k s) l b h)
    where
      on : {t : Stmt} → View t → naming_of t ≡ naming_of s → context_from (enter k s) (compact (out_all l)) (rank (out_all l) b) ≡ context_from (enter k s) l b
          → context_from k (compact (t ∷ out_all l)) (rank (t ∷ out_all l) (suc b)) ≡ context_from (enter k s) l b
      on is_gone_lem n below = ap (λ (m : Naming). context_from (enter_by k m) (compact (out_all l)) (rank (out_all l) b)) n ∙ below
      on (is_live v) n below = rw v (ap (λ (m : Naming). context_from (enter_by k m) (compact (out_all l)) (rank (out_all l) b)) n ∙ below)

-- ---- both name one byte
same_some : (x y : Option Origin) → same_byte x y ≡ true → (g : Origin) × (x ≡ some g) × (y ≡ some g)
same_some none y h = false_true h
same_some (some a) none h = false_true h
same_some (some a) (some b) h =
    let t = and_true (eqb a.place b.place) (eqb a.offset b.offset) h in
    let x = eqb-true a.place b.place t.0 in
    let y = eqb-true a.offset b.offset t.1 in
    (a, refl, λ i. some (record { place = sym x i; offset = sym y i }))

module _ (asked : Settings) (p : Program) (input : Input p) where
  abbrev end : Program
  end = (optimized asked p).program

  abbrev written : Program
  written = write_back end

  abbrev left : Program
  left = shown asked written

  same_names : names_of (compact left) ≡ names_of end
  unfolding placed shown write_back
  same_names =
      let e = end_assembles asked p input in
      let h = judge_passes end e.0 e.1 in
      names_are (compact left) h.names (define_out asked (plain_target end) [] 0 0 0 0 end h.names h.defined) ∙ sym (names_are end h.names h.defined)

  -- a byte of the end form is one of the output
  module _ (s o : ℕ) (byte : o < size_in end s) where
    byte_left : o < size_in left s
    byte_left = omega (arith, size_same written left (shown_room asked written) s, size_same end written (write_back_room end) s, byte)

    live : is_gone (at left s) ≡ false
    live = byte_live (position left s) (at left s) o byte_left

    position_is : position (compact left) (rank left s) ≡ position end s
    position_is = position_rank left s live ∙ shown_position asked written s ∙ write_back_position end s

    byte_output : o < size_in (compact left) (rank left s)
    byte_output = rw (at_rank left s live, position_rank left s live) byte_left

    names_output : origin (compact left) (Ok (pos (position end s + o))) ≡ some (record { place = rank left s; offset = o })
    names_output =
        let q = image_of_output asked p input in
        let laid : positions_fit (placed (compact left)) ≡ ok tt = unfold output_program in (judge_passes (compact left) q.image q.of_output).laid in
        ap (λ (n : ℕ). origin (compact left) (Ok (pos (n + o)))) (sym position_is) ∙ origin_at (compact left) (rank left s) o laid byte_output

  -- a transfer of the end form, in the output
  module _ (i f c : ℕ) (xs : List Operand) (s : at end i ≡ instr f xs c) where
    stands_left : at left i ≡ instr f (on_last (plain_target end) xs) c
    stands_left = at_shown asked written i ∙ ap (spoken asked) (at_write_back end i ∙ ap (retarget (plain_target end)) s)

    is_live_left : is_gone (at left i) ≡ false
    is_live_left = ap is_gone stands_left

    stands_output : at (compact left) (rank left i) ≡ instr f (on_last (plain_target end) xs) c
    stands_output = at_rank left i is_live_left ∙ stands_left

    same_context : context_at (compact left) (rank left i) ≡ context_at end i
    unfolding context_at shown write_back
    same_context = context_out asked (plain_target end) 0 end i is_live_left

    -- its target is worth the same
    plain : (x : Operand) → worth_of (names_of end) (compact left) (context_at end i) (plain_target end x) ≡ worth_of (names_of end) end (context_at end i) x
    unfolding eval_tree
    plain (register r) = refl
    plain (value e) = refl
    plain (inner a b) = refl

    same_value : (aim_at (compact left) (rank left i)).value ≡ (aim_at end i).value
    unfolding aim_at
    same_value =
        ap (λ (x : Stmt). worth_of (names_of (compact left)) (compact left) (context_at (compact left) (rank left i)) (last_of (args_of x))) stands_output
        ∙ ap (worth_of (names_of (compact left)) (compact left) (context_at (compact left) (rank left i))) (last_of_on_last (plain_target end) xs refl)
        ∙ ap₂ (λ (n : List Entry) (j : ℕ). worth_of n (compact left) j (plain_target end (last_of xs))) same_names same_context
        ∙ plain (last_of xs) ∙ sym (ap (λ (x : Stmt). worth_of (names_of end) end (context_at end i) (last_of (args_of x))) s)

    -- named-in-output: of each transfer whose line is not marked
    pub named_in_output : is_transfer f ≡ true → is_same (target_at p end i c) ≡ true → NamedInOutput asked p (target_at p end i c)
    unfolding output_program rewritten aim_at
    named_in_output t h =
        let b = same_some (aim_at p c).byte (aim_at end i).byte h in
        let n = b.0.place in
        let o = b.0.offset in
        let v = origin_of end (aim_at end i).value b.0 b.2 in
        let l = v.2 in
        let of_transfer = stems_rank left i 0 is_live_left in
        let of_owner = stems_rank left n 0 (live n o l.has_byte) in
        record {
          stmt = n;
          offset = o;
          before = b.1;
          place = rank left i;
          stems = of_transfer.1;
          form = f;
          args = on_last (plain_target end) xs;
          stands = stands_output;
          transfers = t;
          owner = rank left n;
          after = ap (origin (compact left)) (same_value ∙ v.1) ∙ ap (λ (a : ℕ). origin (compact left) (Ok (pos a))) (sym l.address_is) ∙ names_output n o l.has_byte;
          listed = of_owner.0;
          stems_from_is = of_owner.1;
        }

  -- ---- each line
  abbrev Unmarked : Target → Type 0
  Unmarked t = is_same t ≡ true → NamedInOutput asked p t

  abbrev pub AllUnmarked : List Target → Type 0
  AllUnmarked [] = Unit
  AllUnmarked (t ∷ ts) = Unmarked t × AllUnmarked ts

  one_place : (i : Placeℕ) → AllUnmarked (targets_in p end i)
  one_place i = by_instr (λ s. at end i ≡ s → AllUnmarked (on_instr [] line s)) by_form by_other (at end i) refl
    where
      line : Instruction → List Target
      line x = cond (is_transfer x.form) (target_at p end i x.carried ∷ []) []

      by_form : (f : ℕ) (xs : List Operand) (c : Placeℕ) → at end i ≡ instr f xs c → AllUnmarked (on_instr [] line (instr f xs c))
      by_form f xs c s = on (is_transfer f) refl
        where
          on : (b : Bool) → is_transfer f ≡ b → AllUnmarked (cond b (target_at p end i c ∷ []) [])
          on true t = (named_in_output i f c xs s t, tt)
          on false t = tt

      by_other : (s : Stmt) → is_instr s ≡ false → at end i ≡ s → AllUnmarked (on_instr [] line s)
      by_other s n z = subst AllUnmarked (sym (other [] line s n)) tt

  all_append : (xs ys : List Target) → AllUnmarked xs → AllUnmarked ys → AllUnmarked (xs ++ ys)
  all_append [] ys h k = k
  all_append (x ∷ xs) ys h k = (h.0, all_append xs ys h.1 k)

  all_each : (is : List Placeℕ) → AllUnmarked (each (targets_in p end) is)
  unfolding each
  all_each [] = tt
  all_each (i ∷ is) = all_append (targets_in p end i) (each (targets_in p end) is) (one_place i) (all_each is)

  pub unmarked_at : (ts : List Target) → AllUnmarked ts → (k : ℕ) (d : Target) → k < length ts → is_same (get_or ts k d) ≡ true → NamedInOutput asked p (get_or ts k d)
  unmarked_at [] h k d l = absurd (omega arith)
  unmarked_at (t ∷ ts) h zero d l = h.0
  unmarked_at (t ∷ ts) h (suc k) d l = unmarked_at ts h.1 k d (omega arith)

  pub all_unmarked : AllUnmarked (targets asked p)
  unfolding targets
  all_unmarked = all_each (tab (λ i. i) (length end))
