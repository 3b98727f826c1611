-- The map of a program: a row for each instruction and each piece of data, as the image of the input and as that of the output has it.
use Rattle.std.specs.Prelude.{List, [], ◌∷◌, ◌++◌, map, Bool, true, cond, not, ◌||◌, ℕ, zero, suc, ◌+◌, length}
use Rattle.rules.specs.declared.Settings.{Settings}
use Rattle.rules.specs.Programs.{Placeℕ, Operand, register, value, inner, Program, at, on_instr, args_of, last_of}
use Rattle.rules.specs.Layout.{position, size_in}
use Rattle.rules.specs.Names.{context_at}
use Rattle.rules.specs.Judging.{names_of}
use Rattle.rules.specs.Rewriting.{moving_of, is_change_jump, optimized}
use Rattle.rules.specs.Output.{write_back, shown}
use Rattle.paths.specs.Walk.{is_code, is_clouded, is_followed, label_names, holds_none}
use Rattle.mapwalk.specs.Stands.{Sort, as_code, as_aside, as_stop, as_data, Stand}

-- a target that is no expression is followed
abbrev pub followed : Program → (k : ℕ) → Operand → Bool
followed p k (register r) = true
followed p k (value e) = is_followed (label_names p) (moving_of p) k e
followed p k (inner i o) = true

abbrev pub sort_at : Program → (i : Placeℕ) → Sort
sort_at p i =
    on_instr as_data
    (λ x. cond (is_clouded p i || is_change_jump (names_of p) p i) as_stop (cond (followed p (context_at p i) (last_of x.args)) as_code as_aside)) (at p i)

-- `base` is the input: it says under which address a statement is told, and which operands hold a label
abbrev pub moves_at : (base : Program) (i : Placeℕ) → Operand → Bool
moves_at base i x = not (holds_none (moving_of base) (context_at base i) x)

abbrev pub stand_at : (base p : Program) (i : Placeℕ) → Stand
stand_at base p i =
    record {
      told = position base i;
      from = position p i;
      to = position p i + size_in p i;
      sort = sort_at p i;
      moving = map (moves_at base i) (args_of (at p i));
    }

abbrev pub stands_in : (base p : Program) (i : Placeℕ) → List Stand
stands_in base p i = cond (is_code (at p i)) (stand_at base p i ∷ []) []

-- of the n places from i on
unfoldable pub stands_up : (base p : Program) (i n : ℕ) → List Stand
stands_up base p i zero = []
stands_up base p i (suc n) = stands_in base p i ++ stands_up base p (suc i) n

unfoldable pub stands_of : (base p : Program) → List Stand
stands_of base p = stands_up base p 0 (length p)

-- the output in its slots: what was dropped is gone, and each statement has the place of the one that it stems from
abbrev pub in_slots : Settings → Program → Program
in_slots asked p = shown asked (write_back (optimized asked p).program)
