-- How often a name is referred to: by operand, by item, and by statement, for any number that is summed over expressions.
use mathlib.Core.Path.{◌≡◌, refl, sym, ap, ◌∙◌}
use mathlib.Core.List.{List, [], ◌∷◌}
use mathlib.Core.Bool.{Bool, true, false, ◌&&◌, cond}
use Prim.Native.Nat.{ℕ, suc, ◌+◌, ◌-◌, ◌≤◌, ◌<◌}
use native.Mathlib.Omega.{arith}
use lib.Dec.{eqb}
use lib.IntN.{pos}
use lib.ListN.{length, get_or, drop, take}
use lib.Seq.{take-length}
use Rattle.laws.specs.Counts.{sum_to}
use Rattle.laws.specs.Lists.{total, is_one_of}
use Rattle.laws.proofs.Tests.{false_true}
use Rattle.laws.proofs.Lists.{total_none}
use Rattle.laws.proofs.Counts.{total_by, sum_ext}
use Rattle.rules.specs.declared.Kind.{Kind}
use Rattle.rules.specs.declared.Kind.TheVariants.{Reg, I8, D9, Bit, Rel8, A12, A16, Rel16}
use Rattle.rules.specs.Expressions.{Expr, num, name, two, one, mentions}
use Rattle.rules.specs.Forms.{is_transfer, operands_at}
use Rattle.rules.specs.Listing.{read_frame}
use Rattle.rules.specs.Names.{Placed, placed, context_at}
use Rattle.rules.specs.Programs.{Operand, register, value, inner, Stmt, Program, gone, instr, label, variable, comment, org, bytes, words, pad, args_of, on_last, in_operand, over_exprs, at, kind_of}
use Rattle.rules.specs.Rewriting.{references}
use Rattle.rules.specs.Statements.{arg_at, argument_at, expr_at, operand_at}
use Rattle.rules.proofs.Laws.{length_placed, placed_at_lem}
use Rattle.listing.specs.Tables.{frame_at, input_at}
use Rattle.slots.specs.Slots.{Slots, slot_at, program_of, target_of, is_reg, InstrIn, DataIn, Sound}
use Rattle.slots.proofs.Frames.{Left, Reads, Frame, of_instr, of_label, of_variable, of_comment, of_org, of_bytes, of_words, of_pad, frame_read, was_read}
use Rattle.slots.proofs.Operands.{OperandRead, instr_in, operands_in}
use Rattle.slots.proofs.Items.{ItemsRead, items_read}
use Rattle.patterns.specs.Mentions.{times, read_as, items_of}
use Rattle.patterns.proofs.Programs.{length_program, at_program}
use Rattle.patterns.proofs.Instructions.{value_at, read_operands, own, own_some, args_own, args_aimed}

-- ---- arguments as they were read

pub args_in : (i : ℕ) (s : List ℕ) (h : InstrIn i s) → args_of (read_as i s) ≡ (instr_in i s h).args
args_in i s h = ap args_of (instr_in i s h).is

pub args_count : (i : ℕ) (s : List ℕ) → InstrIn i s → length (args_of (read_as i s)) ≡ length (operands_at (get_or s 1 0))
args_count i s h = ap length (args_in i s h) ∙ (operands_in i s h).count

module _ (i : ℕ) (s : List ℕ) (h : InstrIn i s) (j : ℕ) (l : j < length (operands_at (get_or s 1 0))) where
  abbrev kind : Kind
  kind = get_or (operands_at (get_or s 1 0)) j Reg

  abbrev place : ℕ
  place = argument_at s (operands_at (get_or s 1 0)) 2 j

  argument : OperandRead s kind place (get_or (instr_in i s h).args j (register 0))
  argument = (operands_in i s h).each j l

  is_argument : get_or (args_of (read_as i s)) j (register 0) ≡ operand_at s kind (arg_at place)
  is_argument = ap (λ xs. get_or xs j (register 0)) (args_in i s h) ∙ argument.is

  pub argument_inside : place < length s
  argument_inside = argument.inside

  module _ (w : Expr → ℕ) where
    pub in_register : is_reg kind ≡ true → in_operand w (get_or (args_of (read_as i s)) j (register 0)) ≡ 0
    in_register e = ap (in_operand w) is_argument ∙ register_holds kind e
      where
        register_holds : (k : Kind) → is_reg k ≡ true → in_operand w (operand_at s k (arg_at place)) ≡ 0
        register_holds Reg e = refl
        register_holds I8 e = false_true e
        register_holds D9 e = false_true e
        register_holds Bit e = false_true e
        register_holds Rel8 e = false_true e
        register_holds A12 e = false_true e
        register_holds A16 e = false_true e
        register_holds Rel16 e = false_true e

    pub in_value : is_reg kind ≡ false → Reads (drop place s) (expr_at s (arg_at place)) × (in_operand w (get_or (args_of (read_as i s)) j (register 0)) ≡ w (expr_at s (arg_at place)))
    in_value e = (argument.reads e, ap (in_operand w) (is_argument ∙ value_at s kind place e))

-- ---- an instruction: its operands as read, but for the target that a transfer carries

total_aimed : (w : Operand → ℕ) (x : Operand) (xs : List Operand) → 1 ≤ length xs → total w (on_last (λ old. x) xs) ≡ total w (take (length xs - 1) xs) + w x
unfolding total
total_aimed w x [] l = absurd (omega arith)
total_aimed w x (y ∷ []) l = omega arith
total_aimed w x (y ∷ z ∷ xs) l =
    let i : suc (suc (length xs)) - 1 ≡ suc (suc (length xs) - 1) = omega arith in
    rw i (omega (arith, total_aimed w x (z ∷ xs) (omega arith)))

over_args : (w : Expr → ℕ) (s : Stmt) → kind_of s ≡ 1 → over_exprs w s ≡ total (in_operand w) (args_of s)
over_args w gone e = absurd (omega arith)
over_args w (instr f xs c) e = refl
over_args w (label m) e = absurd (omega arith)
over_args w (variable m d) e = absurd (omega arith)
over_args w (comment x) e = absurd (omega arith)
over_args w (org l) e = absurd (omega arith)
over_args w (bytes es) e = absurd (omega arith)
over_args w (words es) e = absurd (omega arith)
over_args w (pad add m) e = absurd (omega arith)

module _ (t : Slots) (s : Sound t) (i : ℕ) (l : i < t.count) (e : kind_of (slot_at t i) ≡ 1) where
  abbrev frame : List ℕ
  frame = frame_at t.frames t.starts i

  -- the operands as they were read
  own_args : (own t s.held i l e).args ≡ args_of (read_as i frame)
  unfolding input_at
  own_args = sym (ap args_of (own t s.held i l e).is)

  own_length : length (args_of (read_as i frame)) ≡ length (operands_at (get_or frame 1 0))
  own_length = ap length (sym own_args) ∙ (read_operands i frame _ (own t s.held i l e)).count

  pub instr_here : InstrIn i frame
  instr_here = record { reads = s.held.reads i l; kind = (own t s.held i l e).kind }

  module _ (w : Expr → ℕ) where
    pub in_own : is_transfer (get_or t.forms i 0) ≡ false → over_exprs w (slot_at t i) ≡ total (in_operand w) (take (length (operands_at (get_or frame 1 0))) (args_of (read_as i frame)))
    in_own m =
        over_args w (slot_at t i) e ∙ ap (total (in_operand w)) (args_own t s.held i l e m ∙ own_args)
        ∙ ap (total (in_operand w)) (sym (take-length (args_of (read_as i frame))) ∙ ap (λ k. take k (args_of (read_as i frame))) own_length)

    pub in_aimed : is_transfer (get_or t.forms i 0) ≡ true
        → over_exprs w (slot_at t i) ≡ total (in_operand w) (take (length (operands_at (get_or frame 1 0)) - 1) (args_of (read_as i frame))) + in_operand w (target_of t (get_or t.carry i 0))
    in_aimed m =
        let x = target_of t (get_or t.carry i 0) in
        let some : 1 ≤ length (args_of (read_as i frame)) = omega (arith, own_some t s i l e m, ap length own_args) in
        over_args w (slot_at t i) e ∙ ap (total (in_operand w)) (args_aimed t s.held i l e m ∙ ap (on_last (λ old. x)) own_args)
        ∙ total_aimed (in_operand w) x (args_of (read_as i frame)) some
        ∙ ap (λ k. total (in_operand w) (take (k - 1) (args_of (read_as i frame))) + in_operand w x) own_length

-- ---- data

-- as many items as the count, each reading where it begins
pub record ItemsIn (i : ℕ) (s : List ℕ) : Type 0 where
  pub long : 2 ≤ length s
  pub few : get_or s 1 0 ≤ 16
  pub items : ItemsRead s (get_or s 1 0) 2 (items_of (read_as i s))
  pub over : (w : Expr → ℕ) → over_exprs w (read_as i s) ≡ total w (items_of (read_as i s))

pub data_in : (i : ℕ) (s : List ℕ) → DataIn i s → ItemsIn i s
data_in i s h = on (frame_read i s (read_as i s) (was_read (read_frame i s) h.reads))
  where
    on : Frame i s (read_as i s) → ItemsIn i s
    on (of_instr f) = absurd (omega (arith, f.kind, h.kind))
    on (of_label f) = absurd (omega (arith, f.kind, h.kind))
    on (of_variable f) = absurd (omega (arith, f.kind, h.kind))
    on (of_comment f) = absurd (omega (arith, f.kind, h.kind))
    on (of_org f) = absurd (omega (arith, f.kind, h.kind))
    on (of_bytes f) = record { long = f.long; few = f.few; items = rw f.is (items_read i s (get_or s 1 0) 2 (Left f.es []) f.items); over = λ w. rw f.is }
    on (of_words f) = record { long = f.long; few = f.few; items = rw f.is (items_read i s (get_or s 1 0) 2 (Left f.es []) f.items); over = λ w. rw f.is }
    on (of_pad f) = absurd (omega (arith, f.kind, h.no_pad))

-- ---- what holds no expression, by the kind

abbrev pub without : ℕ → Bool
without k = is_one_of (2 ∷ 4 ∷ 5 ∷ 8 ∷ []) k

pub in_none : (w : Expr → ℕ) (s : Stmt) → without (kind_of s) ≡ true → over_exprs w s ≡ 0
in_none w gone e = refl
in_none w (instr f xs c) e = false_true e
in_none w (label m) e = refl
in_none w (variable m d) e = false_true e
in_none w (comment x) e = refl
in_none w (org m) e = refl
in_none w (bytes es) e = false_true e
in_none w (words es) e = false_true e
in_none w (pad add m) e = refl

-- ---- the whole, by place

weigh : (k n : ℕ) → Placed → ℕ
weigh k n x = cond (eqb x.context k) (over_exprs (times n) x.stmt) 0

nowhere : Placed
nowhere = record { place = 0; context = 0; position = 0; stmt = gone }

references_places : (k n : ℕ) (p : Program) → references k n p ≡ sum_to (λ j. cond (eqb (context_at p j) k) (over_exprs (times n) (at p j)) 0) (length p)
unfolding references placed weigh
references_places k n p =
    total_by (weigh k n) (placed p) nowhere
    ∙ ap (sum_to (λ j. weigh k n (get_or (placed p) j nowhere))) (length_placed 0 0 0 p)
    ∙ sum_ext _ _ (length p) (λ j l. ap (weigh k n) (placed_at_lem p j nowhere l))

-- where no name counts, none is counted
mentions_none : (e : Expr) → mentions (λ m. false) e ≡ 0
unfolding mentions
mentions_none (num z) = refl
mentions_none (name n) = refl
mentions_none (two o e d) = omega (arith, mentions_none e, mentions_none d)
mentions_none (one o e) = mentions_none e

operand_none : (x : Operand) → in_operand (mentions (λ m. false)) x ≡ 0
operand_none (register r) = refl
operand_none (value e) = mentions_none e
operand_none (inner i o) = refl

over_none : (s : Stmt) → over_exprs (mentions (λ m. false)) s ≡ 0
over_none gone = refl
over_none (instr f xs c) = total_none (in_operand (mentions (λ m. false))) xs (register 0) (λ j l. operand_none (get_or xs j (register 0)))
over_none (label n) = refl
over_none (variable n e) = mentions_none e
over_none (comment x) = refl
over_none (org l) = refl
over_none (bytes es) = total_none (mentions (λ m. false)) es (num (pos 0)) (λ j l. mentions_none (get_or es j (num (pos 0))))
over_none (words es) = total_none (mentions (λ m. false)) es (num (pos 0)) (λ j l. mentions_none (get_or es j (num (pos 0))))
over_none (pad add m) = refl

-- "a name of another context is another name"
in_context : (b : Bool) (n : ℕ) (s : Stmt) → over_exprs (mentions (λ m. b && eqb m n)) s ≡ cond b (over_exprs (times n) s) 0
in_context true n s = refl
in_context false n s = over_none s

-- the name n as the statement at place j means it
abbrev pub means : (t : Slots) (k n j : ℕ) → ℕ → Bool
means t k n j m = eqb (context_at (program_of t) j) k && eqb m n

pub references_by : (t : Slots) (k n : ℕ) → references k n (program_of t) ≡ sum_to (λ j. over_exprs (mentions (means t k n j)) (slot_at t j)) t.count
references_by t k n =
    references_places k n (program_of t) ∙ ap (sum_to _) (length_program t)
    ∙ sum_ext _ _ t.count (λ j l.
    ap (λ (x : Stmt). cond (eqb (context_at (program_of t) j) k) (over_exprs (times n) x) 0) (at_program t j l)
    ∙ sym (in_context (eqb (context_at (program_of t) j) k) n (slot_at t j)))
