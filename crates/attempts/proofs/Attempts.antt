-- What an attempt leaves: the candidate where it counts, and else the tables as they were.
use mathlib.Core.Path.{◌≡◌, refl, sym, subst, ap, ap₂, ◌∙◌}
use mathlib.Core.List.{List}
use mathlib.Core.Option.{Option, none, some}
use mathlib.Core.Bool.{Bool, true, false, ◌&&◌}
use Prim.Native.Nat.{ℕ, ◌<◌}
use native.Mathlib.Omega.{arith}
use lib.Dec.{ltb}
use lib.ListN.{get_or, set}
use lib.Seq.{set-set, set_comm, set-get_or}
use Rattle.laws.specs.Options.{is_some, option_or}
use Rattle.laws.proofs.Options.{given_true, given_false}
use Rattle.laws.proofs.Tests.{false_true, second_false}
use Rattle.rules.specs.Programs.{Program, gone, instr, args_of, kind_of}
use Rattle.rules.specs.Layout.{size_in}
use Rattle.rules.specs.Names.{enter}
use Rattle.rules.specs.Judging.{assembles}
use Rattle.rules.specs.Rewriting.{every_inner_label, acceptable, candidate, local_label, drop_all}
use Rattle.slots.specs.Slots.{Slots, slots, gone_form, slot_at, program_of, Agree}
use Rattle.slots.specs.State.{starts_in, forms_in, carry_in, owners_in, offsets_in, table_of, Kept}
use Rattle.slots.specs.Links.{Beside}
use Rattle.slots.proofs.State.{table_kept}
use Rattle.patterns.specs.Mentions.{Told}
use Rattle.patterns.proofs.Programs.{at_program}
use Rattle.attempts.specs.Standing.{Standing, Tried}
use Rattle.attempts.specs.Folds.{inverted, bounced, Inverts, Bounces}
use Rattle.attempts.proofs.Edits.{Quiet, instr_quiet, label_quiet, edit_gone, edit_form, edit_aimed, edit_target}

-- what the links say of a program that stands
pub told : (t : Slots) (links : List ℕ) → Standing t → Beside t.frames t.starts t.count links → Told t links
told t links st b = record { beside = b; contexts = st.context.context; together = st.together }

-- ---- whether it counts

pub tried_not : (x : Option Program) (t : Slots) → Standing t → x ≡ none → Tried x t t false
tried_not x t st e =
    record {
      says = sym (ap is_some e);
      leaves = sym (ap (λ (o : Option Program). option_or o (program_of t)) e);
      kept = λ h. refl;
      starts_kept = refl;
      stands = st;
    }

candidate_is : (q : Program) (b : Bool) → b ≡ acceptable q → b ≡ true → candidate q ≡ some q
unfolding candidate
candidate_is q b e h = given_true (acceptable q) (some q) (sym e ∙ h)

candidate_not : (q : Program) (b : Bool) → b ≡ acceptable q → b ≡ false → candidate q ≡ none
unfolding candidate
candidate_not q b e h = given_false (acceptable q) (some q) (sym e ∙ h)

and_right : (a b : Bool) → b ≡ true → a && b ≡ a
and_right true b e = e
and_right false b e = refl

-- "A candidate counts only if every inner label's offset is below its owner's size and the whole assembles": the second fails, or both are known
module _ (p : Program) (whole : Bool) (w : whole ≡ assembles p) where
  pub counts_not : whole ≡ false → false ≡ acceptable p
  unfolding acceptable
  counts_not h = sym (second_false (every_inner_label (λ owner o. ltb o (size_in p owner)) p) (assembles p) (sym w ∙ h))

  pub counts_if : (b : Bool) → whole ≡ true → b ≡ every_inner_label (λ owner o. ltb o (size_in p owner)) p → b ≡ acceptable p
  unfolding acceptable
  counts_if b h e = e ∙ sym (and_right (every_inner_label (λ owner o. ltb o (size_in p owner)) p) (assembles p) (sym w ∙ h))

-- an attempt at what x comes to is one at x
pub tried_as : (x y : Option Program) (t u : Slots) (r : Bool) → x ≡ y → Tried y t u r → Tried x t u r
tried_as x y t u r e h = subst (λ (o : Option Program). Tried o t u r) (sym e) h

-- the tables u hold the candidate q
pub record Holding (u : Slots) (q : Program) : Type 0 where
  pub is : program_of u ≡ q
  pub stands : Standing u

module _ (q : Program) (t u : Slots) (h : Holding u q) (b : Bool) (e : b ≡ acceptable (program_of u)) where
  pub tried_kept : b ≡ true → u.starts ≡ t.starts → Tried (candidate q) t u true
  tried_kept counts same =
      let is = candidate_is q b (e ∙ ap acceptable h.is) counts in
      record {
        says = sym (ap is_some is);
        leaves = h.is ∙ sym (ap (λ (o : Option Program). option_or o (program_of t)) is);
        kept = λ z. false_true (sym z);
        starts_kept = same;
        stands = h.stands;
      }

  pub tried_none : b ≡ false → candidate q ≡ none
  tried_none fails = candidate_not q b (e ∙ ap acceptable h.is) fails

-- the tables as they were
pub tried_back : (x : Option Program) (t u : Slots) → Standing t → x ≡ none → u ≡ t → Tried x t u false
tried_back x t u st e same = subst (λ (z : Slots). Tried x t z false) (sym same) (tried_not x t st e)

-- ---- a state whose other rows are kept

module _ (frames : List ℕ) (old new : List (List ℕ)) (count : ℕ) (k : Kept old new) where
  -- the slots that it holds are known by forms and carried places
  pub held_kept : (q : Program) → Holding (slots frames (starts_in old) count (forms_in new) (carry_in new) (owners_in old) (offsets_in old)) q
      → Holding (table_of frames new count) q
  held_kept q h = subst (λ (z : Slots). Holding z q) (sym (table_kept frames old new count k)) h

  pub beside_kept : (links : List ℕ) → Beside frames (starts_in old) count links → Beside frames (starts_in new) count links
  beside_kept links b = subst (λ (z : List ℕ). Beside frames z count links) (sym k.starts) b

  pub table_same : forms_in new ≡ forms_in old → carry_in new ≡ carry_in old → table_of frames new count ≡ table_of frames old count
  table_same f c =
      table_kept frames old new count k
      ∙ ap₂ (λ (x y : List ℕ). slots frames (starts_in old) count x y (owners_in old) (offsets_in old)) f c

module _ (frames starts : List ℕ) (count : ℕ) (forms carry owners offsets : List ℕ) (st : Standing (slots frames starts count forms carry owners offsets)) where
  abbrev there : (forms carry : List ℕ) → Slots
  there forms carry = slots frames starts count forms carry owners offsets

  -- ---- the folds

  inverted_held : (to i j : ℕ) → Inverts (there forms carry) to i j
      → Holding (there (set (set forms i to) j gone_form) (set carry i (get_or carry j 0))) (inverted (there forms carry) to i j)
  unfolding inverted drop_all
  inverted_held to i j h =
      let a = edit_aimed frames starts count forms carry owners offsets st i j to h.branches h.jumps h.together h.agrees in
      let quiet : Quiet (slot_at (there (set forms i to) (set carry i (get_or carry j 0))) j) =
      instr_quiet (slot_at (there (set forms i to) (set carry i (get_or carry j 0))) j) (ap kind_of (a.elsewhere j (λ e. omega (arith, h.rises))) ∙ h.jumps.kind) in
      let b = edit_gone frames starts count (set forms i to) (set carry i (get_or carry j 0)) owners offsets a.stands j h.jumps.inside quiet in
      record { is = b.is ∙ ap (λ (p : Program). set p j gone) a.is; stands = b.stands }

  bounced_held : (f i skip target last : ℕ) → Bounces (there forms carry) f i skip target last
      → Holding (there (set (set (set forms skip gone_form) target gone_form) last gone_form) (set carry i (get_or carry last 0))) (bounced (there forms carry) f i skip target last)
  unfolding bounced drop_all
  bounced_held f i skip target last h =
      let t = there forms carry in
      let c = set carry i (get_or carry last 0) in
      let one = set forms skip gone_form in
      let two = set one target gone_form in
      let inside : target < count = omega (arith, h.last_rises, h.jumps.inside) in
      let lands : Quiet (slot_at t target) = label_quiet (slot_at t target) (ap (λ s. is_some (local_label s)) (sym (at_program t target inside)) ∙ h.lands) in
      let a = edit_target frames starts count forms carry owners offsets st i last f h.branches h.jumps h.together h.form in
      let at_skip : Quiet (slot_at (there forms c) skip) =
      instr_quiet (slot_at (there forms c) skip) (ap kind_of (a.elsewhere skip (λ e. omega (arith, h.skip_rises))) ∙ h.skips.kind) in
      let b = edit_gone frames starts count forms c owners offsets a.stands skip h.skips.inside at_skip in
      let at_target : Quiet (slot_at (there one c) target) =
      λ k. ap (enter k) (b.elsewhere target (λ e. omega (arith, h.target_rises)) ∙ a.elsewhere target (λ e. omega (arith, h.skip_rises, h.target_rises))) ∙ lands k in
      let d = edit_gone frames starts count one c owners offsets b.stands target inside at_target in
      let at_last : Quiet (slot_at (there two c) last) =
      instr_quiet (slot_at (there two c) last) (ap kind_of (d.elsewhere last (λ e. omega (arith, h.last_rises)) ∙ b.elsewhere last (λ e. omega (arith, h.target_rises, h.last_rises))
      ∙ a.elsewhere last (λ e. omega (arith, h.skip_rises, h.target_rises, h.last_rises))) ∙ h.jumps.kind) in
      let g = edit_gone frames starts count two c owners offsets d.stands last h.jumps.inside at_last in
      record {
        is = g.is ∙ ap (λ (p : Program). set p last gone) (d.is ∙ ap (λ (p : Program). set p target gone) (b.is ∙ ap (λ (p : Program). set p skip gone) a.is));
        stands = g.stands;
      }

  -- the same, of tables known by equations
  holding_by : (q : Program) (forms' carry' forms'' carry'' : List ℕ) → forms'' ≡ forms' → carry'' ≡ carry' → Holding (there forms' carry') q → Holding (there forms'' carry'') q
  holding_by q forms' carry' forms'' carry'' e d h =
      subst (λ (a : List ℕ). Holding (there a carry'') q) (sym e) (subst (λ (a : List ℕ). Holding (there forms' a) q) (sym d) h)

  pub inverted_holds : (to i j : ℕ) (forms' carry' : List ℕ) → Inverts (there forms carry) to i j → forms' ≡ set (set forms i to) j gone_form → carry' ≡ set carry i (get_or carry j 0)
      → Holding (there forms' carry') (inverted (there forms carry) to i j)
  inverted_holds to i j forms' carry' h e d = holding_by (inverted (there forms carry) to i j) _ _ forms' carry' e d (inverted_held to i j h)

  pub bounced_holds : (f i skip target last : ℕ) (forms' carry' : List ℕ) → Bounces (there forms carry) f i skip target last
      → forms' ≡ set (set (set forms skip gone_form) target gone_form) last gone_form → carry' ≡ set carry i (get_or carry last 0)
      → Holding (there forms' carry') (bounced (there forms carry) f i skip target last)
  bounced_holds f i skip target last forms' carry' h e d =
      holding_by (bounced (there forms carry) f i skip target last) _ _ forms' carry' e d (bounced_held f i skip target last h)

  -- ---- a shorter form

  pub formed_holds : (f i : ℕ) (forms' carry' : List ℕ) → i < count → kind_of (slot_at (there forms carry) i) ≡ 1 → Agree f (get_or forms i 0)
      → forms' ≡ set forms i f → carry' ≡ carry → Holding (there forms' carry') (set (program_of (there forms carry)) i (instr f (args_of (slot_at (there forms carry) i)) (get_or carry i 0)))
  formed_holds f i forms' carry' l kind a d c =
      let e = edit_form frames starts count forms carry owners offsets st i f l kind a in
      holding_by _ _ _ forms' carry' d c (record { is = e.is; stands = e.stands })

-- ---- undone

-- a store under another is seen through it
set_under : (l : List ℕ) (i j a b c : ℕ) → (i ≡ j → ⊥) → set (set (set l i a) j b) i c ≡ set (set l i c) j b
set_under l i j a b c n = rw (set_comm l i j a b n, set-set) (set_comm l j i b c (λ e. n (sym e)))

put_back : (l : List ℕ) (i j a b : ℕ) → (i ≡ j → ⊥) → set (set (set (set l i a) j b) i (get_or l i 0)) j (get_or l j 0) ≡ l
put_back l i j a b n = rw (set_under l i j a b (get_or l i 0) n, set-get_or l i 0, set-set, set-get_or)

put_back_three : (l : List ℕ) (i j k a b c : ℕ) → (i ≡ j → ⊥) → (i ≡ k → ⊥) → (j ≡ k → ⊥)
    → set (set (set (set (set (set l i a) j b) k c) i (get_or l i 0)) j (get_or l j 0)) k (get_or l k 0) ≡ l
put_back_three l i j k a b c m n o =
    let below : set (set (set (set l i a) j b) k c) i (get_or l i 0) ≡ set (set l j b) k c =
    set_comm (set (set l i a) j b) k i c (get_or l i 0) (λ e. n (sym e))
    ∙ ap (λ (x : List ℕ). set x k c) (set_under l i j a b (get_or l i 0) m ∙ ap (λ (x : List ℕ). set x j b) (set-get_or l i 0)) in
    ap (λ (x : List ℕ). set (set x j (get_or l j 0)) k (get_or l k 0)) below ∙ put_back l j k b c o

-- the same, of lists known by equations
pub undone_two : (l l' l'' : List ℕ) (i j a b : ℕ) → i < j → l' ≡ set (set l i a) j b → l'' ≡ set (set l' i (get_or l i 0)) j (get_or l j 0) → l'' ≡ l
undone_two l l' l'' i j a b n e d =
    d ∙ ap (λ (x : List ℕ). set (set x i (get_or l i 0)) j (get_or l j 0)) e ∙ put_back l i j a b (λ q. omega arith)

pub undone_three : (l l' l'' : List ℕ) (i j k a b c : ℕ) → i < j → j < k → l' ≡ set (set (set l i a) j b) k c
    → l'' ≡ set (set (set l' i (get_or l i 0)) j (get_or l j 0)) k (get_or l k 0) → l'' ≡ l
undone_three l l' l'' i j k a b c m n e d =
    d ∙ ap (λ (x : List ℕ). set (set (set x i (get_or l i 0)) j (get_or l j 0)) k (get_or l k 0)) e
    ∙ put_back_three l i j k a b c (λ q. omega arith) (λ q. omega arith) (λ q. omega arith)
