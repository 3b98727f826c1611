-- Demand 3 of the letter, for every accepted program and whatever was asked for.
use Rattle.std.specs.Prelude.{◌≡◌, List, Bool, true, false, ◌&&◌, cond, ℕ, ◌≤◌, ◌<◌, eqb, length, get_or, pos, Ok}
use Rattle.std.proofs.Math.Option.{none, some}
use Rattle.laws.specs.Lists.{total}
use Rattle.rules.specs.declared.Settings.{Settings}
use Rattle.rules.specs.Expressions.{Expr, num}
use Rattle.rules.specs.Forms.{is_transfer}
use Rattle.rules.specs.Programs.{Placeℕ, Addressℕ, Operand, register, value, inner, Stmt, instr, Program, at, on_instr, last_of}
use Rattle.rules.specs.Layout.{origin}
use Rattle.rules.specs.Names.{context_at}
use Rattle.rules.specs.Judging.{worth, names_of}
use Rattle.rules.specs.Rewriting.{is_change_jump, holds_label, moving_of, trampoline, patterns_for, pattern_at, shrink_at, step, instr_bytes, optimized}
use Rattle.rules.specs.Run.{rewritten}
use Rattle.promises.specs.Demand2.{output_program}

-- ---- "take any transfer whose target holds no name, falls on a byte of a statement and is not a change jump's". C-15: a target "that holds no label,
-- directly or through variables ..; demand 3's 'holds no name' reads so too"

-- the transfer at place i of p; its target falls on byte o of the statement at place s
pub record Aims (p : Program) (i : Placeℕ) (s : Placeℕ) (o : ℕ) : Type 0 where
  pub form : ℕ
  pub args : List Operand
  pub carried : Placeℕ
  pub target : Expr
  pub stands : at p i ≡ instr form args carried
  pub transfers : is_transfer form ≡ true
  pub target_is : last_of args ≡ value target
  pub holds_no_label : holds_label (moving_of p) (context_at p i) target ≡ false
  pub falls_on : origin p (worth (names_of p) (context_at p i) target) ≡ some (record { place = s; offset = o })
  pub no_change_jump : is_change_jump (names_of p) p i ≡ false

-- 1 for a transfer to byte o of the statement at place s whose target was written by the input's statement at place i, and else 0
abbrev pub aims_at : (s : Placeℕ) (o : ℕ) → Operand → Bool
aims_at s o (register r) = false
aims_at s o (value e) = false
aims_at s o (inner i d) = eqb s i && eqb o d

abbrev pub carries : (i : Placeℕ) (s : Placeℕ) (o : ℕ) → Stmt → ℕ
carries i s o x = on_instr 0 (λ y. cond (is_transfer y.form && (aims_at s o (last_of y.args) && eqb i y.carried)) 1 0) x

-- "In the output that target, even if a fold carried it to another transfer, names the same offset of the statement that stems from the one it first
-- named": one transfer of the end form carries it; one statement of the output does, a transfer, and its target is a plain number; that number is
-- the address of byte o of an output statement, and that one stems from the statement at place s
pub record TargetKept (asked : Settings) (p : Program) (i : Placeℕ) (s : Placeℕ) (o : ℕ) : Type 0 where
  pub once_in_end : total (carries i s o) (optimized asked p).program ≡ 1
  pub place : Placeℕ
  pub form : ℕ
  pub args : List Operand
  pub stands : at (output_program asked p) place ≡ instr form args i
  pub transfers : is_transfer form ≡ true
  pub only : (j : Placeℕ) (f : ℕ) (xs : List Operand) → at (output_program asked p) j ≡ instr f xs i → j ≡ place
  pub address : Addressℕ
  pub target_is : last_of args ≡ value (num (pos address))
  pub owner : Placeℕ
  pub names_byte : origin (output_program asked p) (Ok (pos address)) ≡ some (record { place = owner; offset = o })
  pub listed : owner < length (rewritten asked p).stems
  pub stems_from_is : get_or (rewritten asked p).stems owner 0 ≡ s

-- ---- the end

-- "In the end form, before numbers are written back, no fold or shrink that rules 3 to 5 of document 01 allow remains": no rewrite of `end`, none of
-- the twenty-three patterns at any place, no shorter form at any place. C-24: "demand 3's 'remains' is read over the others", those not switched off
pub record NoneRemains (asked : Settings) (end : Program) : Type 0 where
  pub no_step : step asked end ≡ none
  pub no_fold : (x : ℕ) → x < length (patterns_for asked) → (i : Placeℕ) → pattern_at end (get_or (patterns_for asked) x (trampoline 0)) i ≡ none
  pub no_shrink : (i : Placeℕ) → shrink_at asked (names_of end) end i ≡ none

-- "Rewrites never exceed the input's instruction bytes": the count that is handed out is the number of steps in the chain
pub record RewritesBounded (asked : Settings) (p : Program) : Type 0 where
  pub counted : (rewritten asked p).count ≡ (optimized asked p).count
  pub bounded : (optimized asked p).count ≤ total instr_bytes p

-- ---- the whole demand, of a program
pub record Demand3 (asked : Settings) (p : Program) : Type 0 where
  pub targets_kept : (i s : Placeℕ) (o : ℕ) → Aims p i s o → TargetKept asked p i s o
  pub none_remains : NoneRemains asked (optimized asked p).program
  pub bounded : RewritesBounded asked p
