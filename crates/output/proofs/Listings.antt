-- The text of a program is one line a slot, and nothing for one that is gone; so are the places that statements stem from. Assumes nothing.
use mathlib.Core.Path.{◌≡◌, refl, sym, ap, ◌∙◌}
use mathlib.Core.List.{List, [], ◌∷◌, ◌++◌, map, append_assoc, append-nil}
use mathlib.Core.Logic.{⊎_elim}
use mathlib.Core.Bool.{Bool, true, false, cond}
use Prim.Native.Nat.{ℕ, zero, suc, ◌+◌, ◌≤◌, ◌<◌}
use native.Mathlib.Numerals.{add-one}
use native.Mathlib.Omega.{arith}
use lib.Dec.{leb}
use lib.ListN.{length, get_or, length-append}
use borrow.Author.Tests.{le-leb, lt-leb}
use Rattle.laws.specs.Counts.{tab}
use Rattle.laws.specs.Lists.{each}
use Rattle.laws.proofs.Tests.{lt_or_le}
use Rattle.laws.proofs.Counts.{rises, length_tab, tab_suc, each_tab, map_tab}
use Rattle.rules.specs.Programs.{Operand, Stmt, gone, instr, label, variable, comment, org, bytes, words, pad, Program, retarget, is_gone}
use Rattle.rules.specs.Listing.{ListingForm}
use Rattle.rules.specs.Output.{plain_target, write_back, stems_from, stems, frame_in, line_of, mark_of, text_of}
use Rattle.rules.proofs.Laws.{lines_at, lines_by_place}
use Rattle.listing.specs.Tables.{Held}
use Rattle.slots.specs.Slots.{Slots, gone_form, slot_at, program_of}
use Rattle.slots.proofs.Slots.{slot_gone}
use Rattle.output.specs.Lines.{line_in, line_at, listing_of, lines_to}
use Rattle.output.specs.Stems.{kept_to}
use Rattle.output.proofs.Slots.{kept_kind, kept_form}

-- ---- text, by place

gone_same : (f : Operand → Operand) (s : Stmt) → is_gone (retarget f s) ≡ is_gone s
gone_same f gone = refl
gone_same f (instr g xs c) = refl
gone_same f (label m) = refl
gone_same f (variable m d) = refl
gone_same f (comment x) = refl
gone_same f (org l) = refl
gone_same f (bytes es) = refl
gone_same f (words es) = refl
gone_same f (pad add m) = refl

-- of two programs one behind the other
lines_append : (w : ListingForm) (ns : List ℕ) (i : ℕ) (p q : Program) → lines_at w ns i (p ++ q) ≡ lines_at w ns i p ++ lines_at w ns
    (i + length p) q
unfolding lines_at
lines_append w ns i [] q = let z : i + 0 ≡ i = omega arith in rw z
lines_append w ns i (s ∷ p) q =
    let z : suc i + length p ≡ i + suc (length p) = omega arith in
    rw (lines_append w ns (suc i) p q, z, append_assoc)

-- ---- places, of two programs one behind the other

stems_append : (i : ℕ) (p q : Program) → stems_from i (p ++ q) ≡ stems_from i p ++ stems_from (i + length p) q
unfolding stems_from
stems_append i [] q = let z : i + 0 ≡ i = omega arith in rw z
stems_append i (s ∷ p) q = let z : suc i + length p ≡ i + suc (length p) = omega arith in rw (stems_append (suc i) p q, z) (on (is_gone s))
  where
    on : (b : Bool) → cond b (stems_from (suc i) p ++ stems_from (i + suc (length p)) q)
        (i ∷ (stems_from (suc i) p ++ stems_from (i + suc (length p)) q))
        ≡ cond b (stems_from (suc i) p) (i ∷ stems_from (suc i) p) ++ stems_from (i + suc (length p)) q
    on true = refl
    on false = refl

pub kept_more : (forms : List ℕ) (n : ℕ) → kept_to forms (n + 1) ≡ kept_to forms n ++ cond (leb gone_form (get_or forms n 0)) [] (n ∷ [])
unfolding kept_to
kept_more forms n = each_tab (λ i. cond (leb gone_form (get_or forms i 0)) [] (i ∷ [])) (λ i. i) n

pub kept_few : (forms : List ℕ) (n : ℕ) → length (kept_to forms n) ≤ n
unfolding kept_to each tab
kept_few forms zero = omega arith
kept_few forms (suc n) =
    let e = ap length (ap (kept_to forms) (sym (add-one n)) ∙ kept_more forms n) ∙ length-append (kept_to forms n)
    (cond (leb gone_form (get_or forms n 0)) [] (n ∷ [])) in
    omega (arith, e, kept_few forms n, one (leb gone_form (get_or forms n 0)))
  where
    one : (b : Bool) → length (cond b [] (n ∷ [])) ≤ 1
    one true = omega arith
    one false = omega arith

-- ---- the program that the tables hold

module _ (t : Slots) where
  program_is : program_of t ≡ tab (slot_at t) t.count
  unfolding program_of
  program_is = refl

  abbrev plain : ℕ → Stmt
  plain i = retarget (plain_target (program_of t)) (slot_at t i)

  plain_is : write_back (program_of t) ≡ tab plain t.count
  unfolding write_back
  plain_is = ap (map (λ s. retarget (plain_target (program_of t)) s)) program_is ∙ map_tab (slot_at t)
      (λ s. retarget (plain_target (program_of t)) s) t.count

  module _ (w : ListingForm) (ns : List ℕ) where
    one_line : (n : ℕ) → lines_at w ns n (plain n ∷ []) ≡ line_at w ns t n
    unfolding lines_at line_in
    one_line n = append-nil (cond (is_gone (plain n)) [] (line_of (frame_in w (get_or ns n 0) (plain n))))
        ∙ rw (gone_same (plain_target (program_of t)) (slot_at t n))

    no_lines : lines_at w ns 0 (tab plain 0) ≡ each (line_at w ns t) (tab (λ i. i) 0)
    unfolding lines_at tab each
    no_lines = refl

    slot_lines : (n : ℕ) → lines_at w ns 0 (tab plain n) ≡ each (line_at w ns t) (tab (λ i. i) n)
    slot_lines zero = no_lines
    slot_lines (suc n) =
        let z : 0 + length (tab plain n) ≡ n = omega (arith, length_tab plain n) in
        ap (λ m. lines_at w ns 0 (tab plain m)) (sym (add-one n)) ∙ ap (lines_at w ns 0) (tab_suc plain n) ∙ lines_append w ns 0
        (tab plain n) (plain n ∷ [])
        ∙ rw (z, one_line n, slot_lines n) (sym (each_tab (line_at w ns t) (λ i. i) n)) ∙ ap (λ m. each (line_at w ns t) (tab (λ i. i) m))
        (add-one n)

    pub lines_all : lines_to w ns t t.count ≡ listing_of (record { form = w; lines = ns }) t
    unfolding lines_to listing_of text_of stems
    lines_all =
        ap (λ (l : List ℕ). mark_of w ++ l)
        (sym (slot_lines t.count) ∙ ap (lines_at w ns 0) (sym plain_is) ∙ sym (lines_by_place w ns 0 (write_back (program_of t))))

    pub lines_none : lines_to w ns t 0 ≡ mark_of w
    unfolding lines_to each tab
    lines_none = append-nil (mark_of w)

    pub lines_more : (n : ℕ) → lines_to w ns t (n + 1) ≡ lines_to w ns t n ++ line_at w ns t n
    unfolding lines_to
    lines_more n =
        ap (λ (l : List ℕ). mark_of w ++ l) (each_tab (line_at w ns t) (λ i. i) n)
        ∙ sym (append_assoc (mark_of w) (each (line_at w ns t) (tab (λ i. i) n)) (line_at w ns t n))

    pub length_more : (n : ℕ) → length (lines_to w ns t (n + 1)) ≡ length (lines_to w ns t n) + length (line_at w ns t n)
    length_more n = ap length (lines_more n) ∙ length-append (lines_to w ns t n) (line_at w ns t n)

    pub lines_within : (i : ℕ) → i ≤ t.count → length (lines_to w ns t i) ≤ length (listing_of (record { form = w; lines = ns }) t)
    lines_within i l =
        rw (← lines_all)
        (rises (λ n. length (lines_to w ns t n)) (λ n. let e : length (lines_to w ns t (suc n)) ≡ length (lines_to w ns t (n + 1))
        = ap (λ m. length (lines_to w ns t m)) (sym (add-one n)) in omega (arith, length_more n)) i t.count l)

  -- ---- and its places

  stems_more : (n : ℕ) → stems (tab (slot_at t) (n + 1)) ≡ stems (tab (slot_at t) n) ++ cond (is_gone (slot_at t n)) [] (n ∷ [])
  unfolding stems stems_from
  stems_more n =
      let z : 0 + length (tab (slot_at t) n) ≡ n = omega (arith, length_tab (slot_at t) n) in
      ap (stems_from 0) (tab_suc (slot_at t) n) ∙ stems_append 0 (tab (slot_at t) n) (slot_at t n ∷ []) ∙ rw z

  -- a slot is gone by its form alone
  pub gone_form_lem : Held t.frames t.starts t.count → (i : ℕ) → i < t.count → is_gone (slot_at t i) ≡ leb gone_form (get_or t.forms i 0)
  gone_form_lem h i l = ⊎_elim is_kept is_gone_lem (lt_or_le (get_or t.forms i 0) gone_form)
    where
      is_gone_lem : gone_form ≤ get_or t.forms i 0 → is_gone (slot_at t i) ≡ leb gone_form (get_or t.forms i 0)
      is_gone_lem e = ap is_gone (slot_gone t i e) ∙ sym (le-leb gone_form (get_or t.forms i 0) e)

      is_kept : get_or t.forms i 0 < gone_form → is_gone (slot_at t i) ≡ leb gone_form (get_or t.forms i 0)
      is_kept n = kept_kind (slot_at t i) (kept_form t h i l n) ∙ sym (lt-leb gone_form (get_or t.forms i 0) n)

  stems_to : Held t.frames t.starts t.count → (n : ℕ) → n ≤ t.count → stems (tab (slot_at t) n) ≡ kept_to t.forms n
  unfolding stems stems_from kept_to each tab
  stems_to h zero l = refl
  stems_to h (suc n) l =
      ap (λ m. stems (tab (slot_at t) m)) (sym (add-one n)) ∙ stems_more n ∙ rw (
        stems_to h n (omega arith),
        gone_form_lem h n
            (omega arith),
      ) (sym (kept_more t.forms n)) ∙ ap (kept_to t.forms) (add-one n)

  pub stems_kept : Held t.frames t.starts t.count → stems (program_of t) ≡ kept_to t.forms t.count
  stems_kept h = ap stems program_is ∙ stems_to h t.count (omega arith)
