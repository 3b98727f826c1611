-- The state of a listing as it was read stands, and the end form is the definition's.
use mathlib.Core.Path.{◌≡◌, sym, ap, ◌∙◌, subst}
use mathlib.Core.List.{List}
use mathlib.Core.Bool.{true}
use Prim.Native.Nat.{ℕ, ◌<◌}
use native.Mathlib.Omega.{arith}
use lib.ListN.{length, get_or}
use Rattle.laws.specs.Lists.{total}
use Rattle.laws.proofs.Counts.{length_tab, get_or_tab}
use Rattle.rules.specs.declared.Settings.{Settings}
use Rattle.rules.specs.Forms.{is_transfer}
use Rattle.rules.specs.Programs.{Placeℕ, Stmt, gone, Program, at}
use Rattle.rules.specs.Names.{context_at}
use Rattle.rules.specs.Judging.{assembles}
use Rattle.rules.specs.Rewriting.{Chain, anchor, chain, optimized, instr_bytes}
use Rattle.promises.proofs.Passes.{judge_passes, assembles_image}
use Rattle.promises.proofs.Anchors.{instr_bytes_anchor}
use Rattle.listing.specs.Tables.{input_at, input_of, Held}
use Rattle.slots.specs.Slots.{Slots, program_of, Sound}
use Rattle.slots.specs.State.{starts_in, table_of}
use Rattle.slots.specs.Links.{contexts_read, Beside}
use Rattle.asm.specs.Starting.{Started}
use Rattle.patterns.specs.Targets.{stands_at, form_in}
use Rattle.patterns.proofs.Instructions.{transfer_slot, carried_target, target_frame, slot_is}
use Rattle.patterns.proofs.Programs.{at_program}
use Rattle.attempts.specs.Standing.{Standing}
use Rattle.optimize.specs.Optimized.{Optimized}
use Rattle.entries.proofs.Starting.{start_sound, start_program, start_together, start_full}
use Rattle.starting.specs.Begun.{Holds}
use Rattle.targets.specs.Aimed.{AimsIn}
use Rattle.targets.proofs.Listed.{carried_in}

-- ---- as read
module _ (frames starts : List ℕ) (n : ℕ) (h : Held frames starts n) (g : assembles (input_of frames starts n) ≡ true) (state : List (List ℕ)) (s : Started frames starts n state) where
  abbrev t : Slots
  t = table_of frames state n

  pub read_program : program_of t ≡ input_of frames starts n
  read_program = start_program frames starts n h state s

  pub read_good : assembles (program_of t) ≡ true
  read_good = ap assembles read_program ∙ g

  context_in : (i : Placeℕ) → i < n → get_or (contexts_read frames (starts_in state) n) i 0 ≡ context_at (program_of t) i
  unfolding contexts_read
  context_in i l =
      get_or_tab (context_at (input_of frames (starts_in state) n)) n i 0 l
      ∙ ap (λ (z : List ℕ). context_at (input_of frames z n) i) s.begins ∙ ap (λ (p : Program). context_at p i) (sym read_program)

  pub read_stands : Standing t
  read_stands =
      let full = start_full frames starts n h state s in
      let i = assembles_image (program_of t) read_good in
      record {
        sound = start_sound frames starts n h state s;
        forms_full = full.forms;
        carry_full = full.carry;
        context = record { context = context_in };
        together = start_together frames starts n h state s;
        named = (judge_passes (program_of t) i.0 i.1).once;
      }

  pub read_beside : (links : List ℕ) → Beside frames starts n links → Beside frames (starts_in state) n links
  read_beside links b = subst (λ (z : List ℕ). Beside frames z n links) (sym s.begins) b

-- ---- a transfer in a slot: the place whose target it carries wrote a transfer
module _ (t : Slots) (s : Sound t) (i : Placeℕ) (l : i < t.count) (e : is_transfer (form_in (stands_at t i)) ≡ true) where
  abbrev carry : Placeℕ
  carry = get_or t.carry i 0

  pub carried_is : carry ≡ carried_in (stands_at t i)
  carried_is =
      let k = transfer_slot t s.held i l e in
      sym (ap carried_in (at_program t i l ∙ slot_is t s.held i l k.0))

  pub carried_inside : carry < t.count
  carried_inside = let k = transfer_slot t s.held i l e in (carried_target t s i l k.0 k.1).inside

  pub carried_transfers : is_transfer (form_in (at (input_of t.frames t.starts t.count) carry)) ≡ true
  unfolding input_of
  carried_transfers =
      let k = transfer_slot t s.held i l e in
      let w = carried_target t s i l k.0 k.1 in
      let f = target_frame t.frames t.starts t.count s.held carry w in
      ap (λ (x : Stmt). is_transfer (form_in x)) (get_or_tab (input_at t.frames t.starts) t.count carry gone w.inside ∙ f.is) ∙ w.transfer

pub length_input : (frames starts : List ℕ) (n : ℕ) → length (input_of frames starts n) ≡ n
unfolding input_of
length_input frames starts n = length_tab (input_at frames starts) n

-- the same program under another name
pub aims_as : (p q : Program) {n : ℕ} {aims : List (List ℕ)} → p ≡ q → AimsIn p n aims → AimsIn q n aims
aims_as p q {n} {aims} e h = subst (λ (z : Program). AimsIn z n aims) e h

pub holds_as : (p q : Program) {t : Slots} {links : List ℕ} → p ≡ q → Holds p t links → Holds q t links
holds_as p q {t} {links} e h = subst (λ (z : Program). Holds z t links) e h

-- ---- the end form
pub end_is : (asked : Settings) (t u : Slots) (p : Program) (n : ℕ) → program_of t ≡ anchor p → Optimized asked t u n → program_of u ≡ (optimized asked p).program
unfolding optimized
end_is asked t u p n e h =
    ap (λ (c : Chain). c.program) (sym (h.chain_is (total instr_bytes (program_of t)) (omega arith)))
    ∙ ap (λ (q : Program). (chain asked (total instr_bytes q) q).program) e
    ∙ ap (λ (k : ℕ). (chain asked k (anchor p)).program) (instr_bytes_anchor p)
